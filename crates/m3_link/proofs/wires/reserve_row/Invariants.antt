use Rattle.std.proofs.Common.{◌≡◌, ◌<◌, ◌≤◌, ℕ, length, map}
use Rattle.m3_link.specs.LinkOps.{place, spare_at, IsRoomier}
use Rattle.m3_link.specs.LinksView.{lists_in, spare_in}
use Rattle.m3_link.proofs.wires.reserve_row.Given as goal

abbrev pub invariant-loop-to : goal.invariant-loop-to
invariant-loop-to l = record {
  count : length l.links.items ≡ 256;
  lists : lists_in l.links.items ≡ lists_in l.initial.links.items;
  room : (to : ℕ) → to < l.to → 2 ≤ spare_at (map spare_in l.links.items) (place l.fn.from to);
  more : IsRoomier (map spare_in l.initial.links.items) (map spare_in l.links.items);
}
