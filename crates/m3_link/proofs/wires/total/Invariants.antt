use Rattle.std.proofs.Common.{◌≡◌, ◌+◌, ◌≤◌, drop, min}
use Rattle.m3_link.specs.LinksView.{lists_in}
use Rattle.m3_link.specs.LinkOps.{data_on}
use Rattle.m3_link.proofs.wires.total.Given as goal

abbrev pub invariant-loop-link : goal.invariant-loop-link
invariant-loop-link l =
    (min 4294967295 (data_on (lists_in l.fn.links)) ≡ min 4294967295 (l.count + data_on (lists_in (drop l.link-index l.fn.links)))) × (l.count ≤ 4294967295)
