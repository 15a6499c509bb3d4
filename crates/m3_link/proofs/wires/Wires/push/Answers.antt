use Rattle.std.proofs.Common.{◌<◌, ◌≡◌, ℕ, arith, ◌∷◌, ◌++◌, [], List, Bool, map, length, length-set, set, subst, sym, ap, ◌∙◌, refl}
use Rattle.std.specs.Prelude.{nat_le}
use Rattle.m3_link.specs.LinkOps.{list_at, spare_at, HasRoom, place, with_one_less}
use Rattle.m3_link.specs.LinksView.{lists_in, spare_in, wires_of, AreRoomy, IsOccupancy}
use Rattle.m3_core.specs.declared.parcel.Parcel.{Parcel}
use Rattle.std.proofs.lemmas.List.{length-map}
use Rattle.m3_link.proofs.Occupancy.{some_pushed, occupied_more}
use Rattle.m3_link.proofs.UpdateOneLink.{list_set, spare_filled, there}
use Rattle.m3_link.proofs.Room.{filled_room, noted, length_noted}
use Rattle.m3_link.proofs.wires.Wires.push.Goals as goal

pub returns-clause-lists : goal.returns-clause-lists
returns-clause-lists c =
    list_set c.self.inside.links.items c.place-at.result c.index_mut-link.result.now (omega (arith, c.self.invariant.count, c.place-at.ensures.range)) c.index_mut-link.ensures.value c.args.self.now c.self.view_is _ c.place-at.ensures.value
    c.push_back_reserved.new.self (λ ps. ps ++ c.args.parcel ∷ []) c.push_back_reserved.ensures.items

pub returns-clause-spare : goal.returns-clause-spare
returns-clause-spare c =
    spare_filled c.self.inside.links.items c.place-at.result c.index_mut-link.result.now (omega (arith, c.self.invariant.count, c.place-at.ensures.range)) c.index_mut-link.ensures.value c.args.self.now c.self.view_is _ c.place-at.ensures.value
    c.push_back_reserved.new.self c.push_back_reserved.ensures.len c.push_back_reserved.ensures.capacity

pub returns-clause-room : goal.returns-clause-room
returns-clause-room c n t room =
    subst (λ (ns : List ℕ). HasRoom ns n t) (sym (returns-clause-spare c)) (filled_room c.args.self.now.spare (place c.args.from c.args.to) n t room)

pub invariant_of-self : goal.invariant_of-self
invariant_of-self c =
    let links = c.self.inside.links.items in
    let j = place c.args.from c.args.to in
    let within : c.place-at.result < length links = omega (arith, c.self.invariant.count, c.place-at.ensures.range) in
    let now : map spare_in (set links c.place-at.result c.push_back_reserved.new.self) ≡ with_one_less (map spare_in links) j =
    spare_filled links c.place-at.result c.index_mut-link.result.now within c.index_mut-link.ensures.value (wires_of links) refl j c.place-at.ensures.value
    c.push_back_reserved.new.self c.push_back_reserved.ensures.len c.push_back_reserved.ensures.capacity in
    let at : spare_at (with_one_less (map spare_in links) j) j ≡ spare_in c.push_back_reserved.new.self =
    ap (λ (ns : List ℕ). spare_at ns j) (sym now)
    ∙ there links c.place-at.result c.index_mut-link.result.now within c.index_mut-link.ensures.value (wires_of links) refl j c.place-at.ensures.value c.push_back_reserved.new.self in
    let lists : lists_in (set links c.place-at.result c.push_back_reserved.new.self) ≡ set (lists_in links) j (list_at (lists_in links) j ++ c.args.parcel ∷ []) =
    list_set links c.place-at.result c.index_mut-link.result.now within c.index_mut-link.ensures.value (wires_of links) refl j c.place-at.ensures.value
    c.push_back_reserved.new.self (λ ps. ps ++ c.args.parcel ∷ []) c.push_back_reserved.ensures.items in
    let from_low : c.args.from < 16 = omega (arith, c.place-at.ensures.value, c.place-at.ensures.range) in
    let full : length (lists_in links) ≡ 256 = length-map links (λ l. l.items) ∙ c.self.invariant.count in
    record {
      count = length-set links c.place-at.result c.push_back_reserved.new.self ∙ c.self.invariant.count;
      tiles = ap length c.note_room.ensures ∙ length_noted c.is_roomy-still.result c.args.from c.self.inside.roomy.items ∙ c.self.invariant.tiles;
      roomy =
          subst (λ (ns : List ℕ). AreRoomy c.note_room.new.roomy.items ns) (sym now) (
          subst (λ (marks : List Bool). AreRoomy marks (with_one_less (map spare_in links) j)) (sym c.note_room.ensures) (
          noted c.is_roomy-still.result c.self.inside.roomy.items (map spare_in links) c.args.from c.args.to c.place-at.ensures.low (c.is_roomy-still.ensures ∙ ap (nat_le 2) (sym at)) c.self.invariant.roomy
          )
          );
      occupancy =
          subst (λ (ls : List (List Parcel)). IsOccupancy ls c.insert_link.new.occupancy) (sym lists) (
          occupied_more (lists_in links) c.self.inside.occupancy c.insert_link.new.occupancy c.args.from c.args.to from_low c.place-at.ensures.low full c.self.invariant.occupancy
          (list_at (lists_in links) j ++ c.args.parcel ∷ []) (some_pushed (list_at (lists_in links) j) c.args.parcel) c.insert_link.ensures
          );
    }
