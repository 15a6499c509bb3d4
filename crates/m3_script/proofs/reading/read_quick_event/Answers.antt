use Rattle.std.proofs.Common.{◌≡◌, true, false, arith, refl}
use Rattle.std.proofs.lemmas.Grind.{common_steps}
use Rattle.m3_script.specs.Rules.{is_allowed, names_undeclared}
use Rattle.m3_script.proofs.QuickForms.{event_taken}
use Rattle.m3_script.proofs.reading.read_quick_event.Goals.{in-Ok, in-Err}
use Rattle.m3_script.proofs.reading.read_quick_event.Goals as goal

pub returns-clause-reads : goal.returns-clause-reads
returns-clause-reads c =
    let allowed : is_allowed c.args.mode c.args.events.now.items c.in_ok-event.event ≡ true = grind (arith, common_steps) in
    let declared : names_undeclared c.in_ok-event.event c.args.setup.now ≡ false = grind (arith, common_steps) in
    elim c.match-push.branch [
      | in-Ok w ↦
          let items = rw w.in-Ok.is at c.push.ensures.items in
          rw (w.result-is, items) (λ boxes. event_taken c.args.mode boxes c.args.text.now c.in_ok-event.after.now c.in_ok-event.event c.args.setup.now c.args.events.now.items
          c.in_ok-event.ensures allowed declared)
      | in-Err w ↦ let items = rw w.in-Err.is at c.push.ensures.items in rw (w.result-is, items) refl
    ]
