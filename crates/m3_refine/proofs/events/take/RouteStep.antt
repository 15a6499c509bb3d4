-- The kernel takes data: routed or held, the ideal state stays.
use Rattle.std.proofs.Common.{◌≡◌, ℕ, ◌+◌, ◌*◌, ◌<◌, true, false, cond, List, [], ◌∷◌, ◌++◌, Some, None, refl, sym, ◌∙◌, ap, arith, append_assoc, set, length}
use Rattle.std.specs.Prelude.{◌==◌}
use Rattle.m3_base.specs.declared.event.Event.{Event}
use Rattle.m3_base.specs.declared.event.Said.{Said}
use Rattle.m3_base.specs.declared.packet.Packet.{Packet}
use Rattle.m3_base.specs.Lists.Keyed as keyed
use Rattle.m3_base.specs.Ideal.Context.{Context}
use Rattle.m3_base.specs.Ideal.State.{same_act}
use Rattle.m3_model.specs.Config.Site.{Site}
use Rattle.m3_model.specs.Parcel.{Parcel, Data, Save, Saved}
use Rattle.m3_model.specs.Kernel.State.{ActivityEntry}
use Rattle.m3_model.specs.Tile.State.{Resident}
use Rattle.m3_model.specs.LocalStep.{dropped_result, local_result}
use Rattle.m3_model.specs.Tile.Step.{resident_of, is_waiting_resident, has_ended, with_current, take_save}
use Rattle.m3_model.specs.Kernel.Step.{entry_act, with_held}
use Rattle.m3_model.specs.Machine.{Machine, Kernel_part, tile_at, link_at, with_link, with_part, with_parcels, machine_step, done_by, of_tile}
use Rattle.m3_model.specs.Abstraction.{flat_map, flat_links, tile_contexts, entry_contexts, held_by, contexts_in, packets_in, closed_in, all_packets, sorted_by_act, closed_from, ideal_of}
use Rattle.m3_refine.proofs.lists.Insertion.{Inserts, inserts_left, inserts_right, pop_none, pop_one}
use Rattle.m3_refine.proofs.lists.Replacement.{around_replaced}
use Rattle.m3_refine.proofs.abstraction.MoveWithinMachine.{moved, moved_none, moved_on, packet-moves}
use Rattle.m3_refine.proofs.abstraction.MoveContext.{name_inserts}
use Rattle.m3_refine.proofs.abstraction.FindActor.{after_save}
use Rattle.m3_refine.proofs.events.take.BounceStep.{take_step}
use Rattle.m3_base.specs.Ideal.FlightNames.{Distinct}

module _ (m : Machine) (from : ℕ) (hi : 16 * from + 0 < length m.links) (p : Packet) (rest : List Parcel) (g : link_at from 0 m ≡ Data p ∷ rest) (apart : Distinct (all_packets m)) where
  -- on the home link of a placed activity
  pub routed_at : (t : ℕ) → 16 * 0 + t < length m.links → ideal_of (with_parcels 0 ((t, Data p) ∷ []) (with_part 0 (Kernel_part m.kernel) (with_link from 0 rest m))) ≡ ideal_of m
  routed_at t hj =
      let i = 16 * from + 0 in
      let j = 16 * 0 + t in
      let with_held = flat_map held_by m.kernel.seats in
      let old = flat_links packets_in m.links in
      let new = flat_links packets_in (moved m.links i rest j (Data p)) in
      let on = moved_on packets_in m.links i j (Data p) (Data p) rest hi hj g p refl refl in
      let before : Inserts p (with_held ++ on.0) (with_held ++ old) = inserts_left with_held p on.0 old on.1 in
      let after : Inserts p (with_held ++ on.0) (with_held ++ new) = inserts_left with_held p on.0 new on.2 in
      let packets = packet-moves p (with_held ++ on.0) (with_held ++ new) (with_held ++ old) after before (name_inserts p (with_held ++ on.0) (with_held ++ old) before apart) in
      let contexts = moved_none contexts_in m.links i j (Data p) (Data p) rest hi hj g refl refl in
      let closed = moved_none closed_in m.links i j (Data p) (Data p) rest hi hj g refl refl in
      λ k. record {
        memory = m.memory;
        contexts = sorted_by_act (flat_map tile_contexts m.tiles ++ (flat_map entry_contexts m.kernel.seats ++ contexts k));
        flights = packets k;
        kernel_next = m.kernel.next;
        grants = closed_from 1 (closed k) m.kernel.grants;
      }

  -- at the back of a hold list
  pub held_at : (x : ActivityEntry) → keyed.find entry_act same_act x.act m.kernel.seats ≡ Some x
      → ideal_of (with_part 0 (Kernel_part (with_held p x m.kernel)) (with_link from 0 rest m)) ≡ ideal_of m
  held_at x f =
      let i = 16 * from + 0 in
      let y = record x { hold = x.hold ++ p ∷ [] } in
      let seats = keyed.with_replaced entry_act same_act y m.kernel.seats in
      let old = flat_links packets_in m.links in
      let left = flat_links packets_in (set m.links i rest) in
      let ss = flat_map held_by m.kernel.seats in
      let us = flat_map held_by seats in
      let r = around_replaced entry_act same_act held_by x y m.kernel.seats f in
      let before : Inserts p (ss ++ left) (ss ++ old) = inserts_left ss p left old (pop_one packets_in m.links i (Data p) rest p hi g refl) in
      let joins : Inserts p ss us =
      record {
        front = r.front ++ x.hold;
        back = r.back;
        without = r.here ∙ sym (append_assoc r.front x.hold r.back);
        whole = r.there ∙ ap (λ l. r.front ++ l) (append_assoc x.hold (p ∷ []) r.back) ∙ sym (append_assoc r.front x.hold (p ∷ r.back));
      } in
      let after : Inserts p (ss ++ left) (us ++ left) = inserts_right left p ss us joins in
      let packets = packet-moves p (ss ++ left) (us ++ left) (ss ++ old) after before (name_inserts p (ss ++ left) (ss ++ old) before apart) in
      let q = around_replaced entry_act same_act entry_contexts x y m.kernel.seats f in
      let aways : flat_map entry_contexts seats ≡ flat_map entry_contexts m.kernel.seats = q.there ∙ sym q.here in
      let contexts = pop_none contexts_in m.links i (Data p) rest hi g refl in
      let closed = pop_none closed_in m.links i (Data p) rest hi g refl in
      λ k. record {
        memory = m.memory;
        contexts = sorted_by_act (flat_map tile_contexts m.tiles ++ (aways k ++ contexts k));
        flights = packets k;
        kernel_next = m.kernel.next;
        grants = closed_from 1 (closed k) m.kernel.grants;
      }

-- ---- the machine's step where a tile takes Save

pub itself : (a : ℕ) → (a == a) ≡ true
itself a = grind arith

module _ (h : Site) (m : Machine) (t from : ℕ) (ht : t < length m.tiles) (hi : 16 * from + t < length m.links) (hj : 16 * t + 0 < length m.links) (t0 : (t == 0) ≡ false) (t1 : (t == 1) ≡ false) where
  pub save_step : (c : Context) (z : Resident) (qs : List Parcel) → link_at from t m ≡ Save c.act ∷ qs → (tile_at t m).current ≡ Some c → resident_of c.act (tile_at t m) ≡ Some z
      → machine_step h m (Event.Take t from) None ≡ Some (record { outcome = record { made = None; said = Said.Saving c.act; restore = None }; machine = after_save h m t from ht hi hj c z qs })
  save_step c z qs g e s =
      let x = tile_at t m in
      take_step h m t from ht hi hj t0 t1 (Save c.act) qs g
      ∙ ap (λ o. done_by t (with_link from t qs m) (Some (of_tile (take_save x c.act o)))) e
      ∙ ap (λ b. done_by t (with_link from t qs m) (Some (of_tile (cond b (local_result (Said.Saving c.act) (with_current None x) ((0, Saved c.act c (is_waiting_resident c (resident_of c.act x)) (has_ended (resident_of c.act x))) ∷ [])) (dropped_result x))))) (itself c.act)
      ∙ ap (λ o. done_by t (with_link from t qs m) (Some (of_tile (local_result (Said.Saving c.act) (with_current None x) ((0, Saved c.act c (is_waiting_resident c o) (has_ended o)) ∷ []))))) s
