use Rattle.std.proofs.Common.{◌≡◌, length, replicate, []}
use Rattle.m3_link.specs.LinksView.{lists_in}
use Rattle.m3_link.proofs.wires.no_parcels.Given as goal

abbrev pub invariant-loop : goal.invariant-loop
invariant-loop l = record {
  lists : lists_in l.links.items ≡ replicate l.counter [];
  count : length l.links.items ≡ l.counter;
}
