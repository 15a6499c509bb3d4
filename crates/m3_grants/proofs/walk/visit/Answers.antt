use Rattle.std.proofs.Common.{◌≡◌, ◌∙◌, ◌-◌, ◌++◌, true, false, option_to_list, sym, ap, arith}
use Rattle.std.specs.Prelude.{slice_get}
use Rattle.m3_grants.specs.NodeView.{is_live_node}
use Rattle.m3_grants.proofs.PendingVisits.{live_some}
use Rattle.m3_grants.proofs.SubtreeWalk.{walks_passed, walks_closed, nearer_passed, nearer_closed, at_most_one}
use Rattle.m3_grants.proofs.walk.visit.Goals as goal

pub push_pending-requires-then-is_live : goal.push_pending-requires-then-is_live
push_pending-requires-then-is_live c =
    let live : is_live_node (slice_get c.args.nodes.now (c.args.g - 1)) ≡ true = sym c.is_live.ensures ∙ c.if-is_live.true in
    omega (arith, c.requires, c.push_pending.ensures.len, c.push_pending.ensures.capacity, at_most_one c.previous-previous.result, live_some c.args.nodes.now (c.args.g - 1) live)

pub returns-then-is_live-clause-walks : goal.returns-then-is_live-clause-walks
returns-then-is_live-clause-walks c root before k =
    let live : is_live_node (slice_get c.args.nodes.now (c.args.g - 1)) ≡ true = sym c.is_live.ensures ∙ c.if-is_live.true in
    let all = c.push_pending-then-is_live.ensures.items ∙ ap (λ p. p ++ option_to_list c.close-last.result) c.push_pending.ensures.items in
    rw all (walks_closed root before c.args.nodes.now c.close-last.new.nodes c.args.pending.now.items c.args.g c.previous-previous.result c.close-last.result k live c.previous-previous.ensures c.close-last.ensures.nodes c.close-last.ensures.last)

pub returns-then-is_live-clause-nearer : goal.returns-then-is_live-clause-nearer
returns-then-is_live-clause-nearer c root before k =
    let live : is_live_node (slice_get c.args.nodes.now (c.args.g - 1)) ≡ true = sym c.is_live.ensures ∙ c.if-is_live.true in
    let all = c.push_pending-then-is_live.ensures.items ∙ ap (λ p. p ++ option_to_list c.close-last.result) c.push_pending.ensures.items in
    rw all (nearer_closed root before c.args.nodes.now c.close-last.new.nodes c.args.pending.now.items c.args.g c.previous-previous.result c.close-last.result k live c.previous-previous.ensures c.close-last.ensures.nodes c.close-last.ensures.last c.close-last.ensures.few)

pub returns-else-is_live-clause-walks : goal.returns-else-is_live-clause-walks
returns-else-is_live-clause-walks c root before k =
    let dead : is_live_node (slice_get c.args.nodes.now (c.args.g - 1)) ≡ false = sym c.is_live.ensures ∙ c.if-is_live.false in
    rw c.push_pending.ensures.items (walks_passed root before c.args.nodes.now c.args.pending.now.items c.args.g c.previous-previous.result k dead c.previous-previous.ensures)

pub returns-else-is_live-clause-nearer : goal.returns-else-is_live-clause-nearer
returns-else-is_live-clause-nearer c root before k =
    rw c.push_pending.ensures.items (nearer_passed root before c.args.nodes.now c.args.pending.now.items c.args.g c.previous-previous.result k c.previous-previous.ensures)
