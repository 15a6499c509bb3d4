use Rattle.std.proofs.Common.{◌≡◌, ◌+◌, ◌++◌, ◌∷◌, [], take, arith, ap}
use Rattle.m3_base.specs.Load.Summary.{is_fetch, is_bounce, is_switch}
use Rattle.m3_load.proofs.Counts.{entry_taken, lines_next, one_at_most}
use Rattle.m3_load.specs.declared.summary.Summary.{Summary}
use Rattle.m3_load.proofs.summary.summary_of.Goals as goal

pub loop-entry-preserved : goal.loop-entry-preserved
loop-entry-preserved c =
    let at = c.loop-entry in
    let e = c.entry-item.result in
    let es = c.args.entries.now in
    let grown : take (at.entry-index + 1) es ≡ take at.entry-index es ++ e ∷ [] = entry_taken es at.entry-index e c.loop-entry-test.true c.entry-item.is in
    record {
      lines = lines_next at.summary c.add_entry.new.summary c.args.load (take at.entry-index es) _ e at.invariant.lines c.add_entry.ensures grown;
      fetched = (let is = ap (λ (s : Summary). s.fetched) c.add_entry.ensures in omega (arith, is, at.invariant.fetched, one_at_most (is_fetch e.outcome.said)));
      bounced = (let is = ap (λ (s : Summary). s.bounced) c.add_entry.ensures in omega (arith, is, at.invariant.bounced, one_at_most (is_bounce e.outcome.said)));
      switches = (let is = ap (λ (s : Summary). s.switches) c.add_entry.ensures in omega (arith, is, at.invariant.switches, one_at_most (is_switch e.outcome.said)));
    }
