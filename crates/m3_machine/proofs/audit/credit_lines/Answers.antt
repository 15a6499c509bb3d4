use Rattle.std.proofs.Common.{◌≡◌, ℕ, ◌+◌, ◌-◌, ◌<◌, ◌≤◌, ◌++◌, ◌∙◌, drop, length, arith, option_to_list, append-nil, ap, sym, Vec}
use Rattle.std.specs.declared.alloc.Global.{Global}
use Rattle.m3_base.specs.declared.journal.AuditLine.{AuditLine}
use Rattle.m3_base.specs.Ideal.State.{grant_in}
use Rattle.m3_kernel.specs.ParcelView.{parcels_of}
use Rattle.m3_kernel.specs.ActivityView.{seats_of}
use Rattle.m3_engine.specs.TileView.{tiles_of}
use Rattle.m3_machine.specs.Traversal.{contexts_of, packets_of}
use Rattle.m3_machine.specs.AuditView.{live_line, counts_lines}
use Rattle.m3_machine.proofs.CreditLines.{lines_more, line_joined, counts_are, lines_end, no_line}
use Rattle.m3_machine.proofs.audit.credit_lines.Goals as goal
use Rattle.m3_machine.proofs.audit.credit_lines.Goals.{in-Some+in_ok-push, in_default}

pub loop-number-preserved : goal.loop-number-preserved
loop-number-preserved c =
    let t = c.in_ok-counts.counts in
    let gs = c.args.grants.now.grants in
    let n = c.loop-number.number in
    let old = c.loop-number.lines.items in
    let new = c.match-grant_line.lines.items in
    let line : option_to_list c.grant_line.result ≡ live_line t n (grant_in gs n) = c.grant_line.ensures ∙ ap (λ (g : ℕ). live_line t g (grant_in gs g)) c.new.ensures in
    let joined : new ≡ old ++ option_to_list c.grant_line.result = elim c.match-grant_line.branch [
      | in-Some+in_ok-push w ↦ ap (λ (v : Vec AuditLine Global). v.items) w.lines-is ∙ w.in_ok-push.ensures.items ∙ ap (λ o. old ++ option_to_list o) (sym w.in-Some.is)
      | in_default w ↦ ap (λ (v : Vec AuditLine Global). v.items) w.lines-is ∙ sym (append-nil old) ∙ ap (λ l. old ++ l) (sym (no_line c.grant_line.result w.in_default.not-Some))
    ] in
    line_joined (c.args.lines.now.items ++ counts_lines t 1 gs) new old (counts_lines t n (drop (n - 1) gs)) (counts_lines t (n + 1) (drop (n + 1 - 1) gs)) (option_to_list c.grant_line.result)
    c.loop-number.invariant (lines_more t gs n c.loop-number.auto.number ∙ ap (λ l. l ++ counts_lines t (n + 1) (drop (n + 1 - 1) gs)) (sym line)) joined

pub returns : goal.returns
returns c =
    let t = c.in_ok-counts.counts in
    let gs = c.args.grants.now.grants in
    let n = c.loop-number.number in
    let seats = seats_of c.args.seats.now in
    let links = parcels_of c.args.links.now.lists in
    let count : c.count-count.result ≡ length gs = c.count-count.ensures.count in
    let few : length gs ≤ 4096 = let r = c.count-count.ensures.range in omega arith in
    let past : length gs < n = let done = c.loop-number-test.false in omega arith in
    sym (c.loop-number.invariant ∙ lines_end t gs n past c.loop-number.lines.items)
    ∙ ap (λ l. c.args.lines.now.items ++ l) (counts_are t (contexts_of (tiles_of c.args.tiles.now) seats links) (packets_of seats links) gs c.in_ok-counts.ensures few)
