use Rattle.std.proofs.Common.{◌<◌, ◌≡◌, ℕ, arith, drop, List, map, length, length-set, set, subst, sym, ap, ◌∙◌, refl, ◌≤◌}
use Rattle.std.specs.Prelude.{◌==◌}
use Rattle.m3_link.specs.LinkOps.{list_at, is_nil, place, with_freed, spare_at}
use Rattle.m3_link.specs.LinksView.{lists_in, spare_in, wires_of, AreRoomy, IsOccupancy}
use Rattle.m3_core.specs.declared.parcel.Parcel.{Parcel}
use Rattle.std.proofs.lemmas.List.{length-map}
use Rattle.m3_link.proofs.Room.{freed_more, marks_more}
use Rattle.m3_link.proofs.Occupancy.{nil_length, some_popped, occupied_less}
use Rattle.m3_link.proofs.UpdateOneLink.{list_here, list_set, spare_freed, spare_left}
use Rattle.m3_link.proofs.wires.Wires.take.Goals as goal

pub returns-clause-lists : goal.returns-clause-lists
returns-clause-lists c =
    list_set c.self.inside.links.items c.place.result c.index_mut-link.result.now (omega (arith, c.self.invariant.count, c.place.ensures.range)) c.index_mut-link.ensures.value c.args.self.now c.self.view_is _ c.place.ensures.value
    c.pop_front-parcel.new.self (drop 1) c.pop_front-parcel.ensures.rest

pub returns-clause-spare : goal.returns-clause-spare
returns-clause-spare c =
    spare_freed c.self.inside.links.items c.place.result c.index_mut-link.result.now (omega (arith, c.self.invariant.count, c.place.ensures.range)) c.index_mut-link.ensures.value c.args.self.now c.self.view_is _ c.place.ensures.value
    c.pop_front-parcel.new.self c.pop_front-parcel.result c.pop_front-parcel.ensures.cases c.pop_front-parcel.ensures.capacity

pub returns-clause-left : goal.returns-clause-left
returns-clause-left c =
    spare_left c.self.inside.links.items c.place.result c.index_mut-link.result.now (omega (arith, c.self.invariant.count, c.place.ensures.range)) c.index_mut-link.ensures.value c.args.self.now c.self.view_is _ c.place.ensures.value
    c.pop_front-parcel.new.self c.pop_front-parcel.result c.pop_front-parcel.ensures.cases c.pop_front-parcel.ensures.capacity

pub returns-clause-more : goal.returns-clause-more
returns-clause-more c k =
    subst (λ (ns : List ℕ). spare_at c.args.self.now.spare k ≤ spare_at ns k) (sym (returns-clause-spare c)) (freed_more c.args.self.now.spare (place c.args.from c.args.to) c.pop_front-parcel.result k)

pub invariant_of-self : goal.invariant_of-self
invariant_of-self c =
    let links = c.self.inside.links.items in
    let j = place c.args.from c.args.to in
    let within : c.place.result < length links = omega (arith, c.self.invariant.count, c.place.ensures.range) in
    let now : map spare_in (set links c.place.result c.pop_front-parcel.new.self) ≡ with_freed (map spare_in links) j c.pop_front-parcel.result =
    spare_freed links c.place.result c.index_mut-link.result.now within c.index_mut-link.ensures.value (wires_of links) refl j c.place.ensures.value
    c.pop_front-parcel.new.self c.pop_front-parcel.result c.pop_front-parcel.ensures.cases c.pop_front-parcel.ensures.capacity in
    let lists : lists_in (set links c.place.result c.pop_front-parcel.new.self) ≡ set (lists_in links) j (drop 1 (list_at (lists_in links) j)) =
    list_set links c.place.result c.index_mut-link.result.now within c.index_mut-link.ensures.value (wires_of links) refl j c.place.ensures.value
    c.pop_front-parcel.new.self (drop 1) c.pop_front-parcel.ensures.rest in
    let from_low : c.args.from < 16 = omega (arith, c.place.ensures.value, c.place.ensures.range) in
    let full : length (lists_in links) ≡ 256 = length-map links (λ l. l.items) ∙ c.self.invariant.count in
    let empty : c.is_empty-is_empty.result ≡ is_nil (drop 1 (list_at (lists_in links) j)) =
    c.is_empty-is_empty.ensures ∙ ap (λ n. n == 0) c.pop_front-parcel.new.self.ok.0 ∙ nil_length c.pop_front-parcel.new.self.items
    ∙ ap is_nil (
    c.pop_front-parcel.ensures.rest
    ∙ ap (drop 1) (list_here links c.place.result c.index_mut-link.result.now within c.index_mut-link.ensures.value (wires_of links) refl j c.place.ensures.value)
    ) in
    record {
      count = length-set links c.place.result c.pop_front-parcel.new.self ∙ c.self.invariant.count;
      tiles = c.self.invariant.tiles;
      roomy = subst (λ (ns : List ℕ). AreRoomy c.self.inside.roomy.items ns) (sym now) (
          marks_more c.self.inside.roomy.items (map spare_in links) (with_freed (map spare_in links) j c.pop_front-parcel.result) (freed_more (map spare_in links) j c.pop_front-parcel.result) c.self.invariant.roomy
          );
      occupancy =
          subst (λ (ls : List (List Parcel)). IsOccupancy ls c.remove_link_if.new.occupancy) (sym lists) (
          occupied_less (lists_in links) c.self.inside.occupancy c.remove_link_if.new.occupancy c.args.from c.args.to from_low c.place.ensures.low full c.self.invariant.occupancy
          (drop 1 (list_at (lists_in links) j)) c.is_empty-is_empty.result empty (some_popped (list_at (lists_in links) j)) c.remove_link_if.ensures
          );
    }
