-- The kernel's next number and its grants: takes other than a Closed, tends and switches keep them.
use Rattle.std.proofs.Common.{ℕ, Bool, true, false, List, [], ◌∷◌, ◌++◌, Option, Some, None}
use Rattle.std.specs.Prelude.{if◌then◌else◌, ◌==◌, ◌&&◌, ◌||◌, not}
use Rattle.std.specs.List.{list_any}
use Rattle.m3_base.specs.declared.packet.Packet.{Packet}
use Rattle.m3_base.specs.declared.event.No.{No}
use Rattle.m3_base.specs.declared.event.Said.{Said}
use Rattle.m3_base.specs.Ideal.Context.{Context}
use Rattle.m3_base.specs.Ideal.State.{Grant, grant_in}
use Rattle.m3_base.specs.Placement.Routing.{target}
use Rattle.m3_base.specs.Ideal.Arrival.{Arrival}
use Rattle.m3_base.specs.Ideal.Acceptance.{arrive_fit}
use Rattle.m3_model.specs.Config.KnownActivities.{is_named}
use Rattle.m3_model.specs.Config.Site.{Site, tile_of, has_program}
use Rattle.m3_model.specs.Parcel.{Parcel, Data, Save, Saved, Restore, Yield, Closed}
use Rattle.m3_model.specs.Kernel.State.{SavedActivity, EntryResidency, Is_placed, Is_leaving, Is_resting, Is_coming, ActivityEntry, Kernel}
use Rattle.m3_model.specs.LocalStep.{LocalResult, local_result, dropped_result, closed_out}
use Rattle.m3_model.specs.Kernel.Step.{entry_of, with_entry, with_residency, is_placed_entry, is_leaving_entry, join_ready, with_yielded, Routed, with_held, route_to, entry_for, route, first_due, is_leaving_at, with_restore_of, with_restore, then_restore, take_routed, residency_of_saved, take_saved, take_closed, take_yield, kernel_take, answer_routed, after_tend, after_packet, tend_arrived, arrived_context, tend_away, tend_front, tend_entry, tend_by, kernel_tend, placed_at, is_moving_at, after_switch, switch_entry, switch}
use Rattle.m3_refine.proofs.lists.EachElement.{InSome}

-- a fact on the kernel's next number and grants
module _ (h : Site) (P : ℕ → List Grant → Type 0) where
  abbrev pub HasFact : Kernel → Type 0
  HasFact k = P k.next k.grants

  abbrev Keeps : LocalResult Kernel → Type 0
  Keeps d = HasFact d.part

  abbrev KeepsOne : Routed → Type 0
  KeepsOne r = HasFact r.kernel

  abbrev KeepsRouted : Option Routed → Type 0
  KeepsRouted o = InSome KeepsOne o

  either : (b : Bool) (x y : LocalResult Kernel) → Keeps x → Keeps y → Keeps (if b then x else y)
  either true x y k l = k
  either false x y k l = l

  joined : (b : Bool) (t a : ℕ) (k : Kernel) → HasFact k → HasFact (join_ready b t a k)
  joined true t a k l = l
  joined false t a k l = l

  -- ---- routing, and who comes

  route_to_keeps : (p : Packet) (k : Kernel) (o : Option ActivityEntry) → HasFact k → KeepsRouted (route_to h p k o)
  route_to_keeps p k None l = tt
  route_to_keeps p k (Some x) l = by_place (is_placed_entry x.seating)
    where
      by_place : (b : Bool) → KeepsOne (if b then record { held = false; kernel = k; out = (tile_of h x.act, Data p) ∷ [] } else record { held = true; kernel = with_held p x k; out = [] })
      by_place true = l
      by_place false = l

  pub route_keeps : (p : Packet) (k : Kernel) → HasFact k → KeepsRouted (route h p k)
  route_keeps p k l = route_to_keeps p k (entry_for (target p) k) l

  coming_keeps : (said : Said) (t : ℕ) (k : Kernel) (out : List (ℕ × Parcel)) (x : ActivityEntry) (w : EntryResidency) → HasFact k → Keeps (with_restore_of h said t k out x w)
  coming_keeps said t k out x (Is_coming y) l = l
  coming_keeps said t k out x Is_placed l = l
  coming_keeps said t k out x Is_leaving l = l
  coming_keeps said t k out x (Is_resting y) l = l

  restored_keeps : (said : Said) (t : ℕ) (k : Kernel) (out : List (ℕ × Parcel)) (o : Option ActivityEntry) → HasFact k → Keeps (with_restore h said t k out o)
  restored_keeps said t k out None l = l
  restored_keeps said t k out (Some x) l = coming_keeps said t k out x x.seating l

  then_keeps : (said : Said) (t : ℕ) (k : Kernel) (out : List (ℕ × Parcel)) → HasFact k → Keeps (then_restore h said t k out)
  then_keeps said t k out l = restored_keeps said t k out (if list_any (is_leaving_at h t) k.seats then None else first_due h t k.seats) l

  -- ---- a take

  routed_keeps : (p : Packet) (k : Kernel) (o : Option Routed) → HasFact k → KeepsRouted o → Keeps (take_routed p k o)
  routed_keeps p k None l r = l
  routed_keeps p k (Some d) l r = r

  saved_keeps : (k : Kernel) (c : Context) (w e : Bool) (o : Option ActivityEntry) → HasFact k → Keeps (take_saved h k c w e o)
  saved_keeps k c w e None l = l
  saved_keeps k c w e (Some x) l =
      let after = join_ready (has_program h x.act && (not w && not e)) (tile_of h x.act) x.act (with_residency (residency_of_saved c e) x k) in
      either (is_leaving_entry x.seating) (then_restore h (Said.Saved x.act) (tile_of h x.act) after []) (dropped_result k)
      (then_keeps (Said.Saved x.act) (tile_of h x.act) after [] (joined (has_program h x.act && (not w && not e)) (tile_of h x.act) x.act (with_residency (residency_of_saved c e) x k) l)) l

  yield_keeps : (k : Kernel) (a : ℕ) (o : Option ActivityEntry) → HasFact k → Keeps (take_yield h k a o)
  yield_keeps k a None l = l
  yield_keeps k a (Some x) l =
      either (is_placed_entry x.seating || is_leaving_entry x.seating) (local_result (Said.Yielded a) (with_yielded (tile_of h a) true k) []) (dropped_result k) l l

  module _ (closes : (k : Kernel) (g : ℕ) → HasFact k → Keeps (take_closed k g (grant_in k.grants g))) where
    pub take_keeps : (k : Kernel) (q : Parcel) → HasFact k → Keeps (kernel_take h k q)
    take_keeps k (Data p) l = either (is_named h p) (take_routed p k (route h p k)) (dropped_result k) (routed_keeps p k (route h p k) l (route_keeps p k l)) l
    take_keeps k (Saved a c w e) l = either (c.act == a) (take_saved h k c w e (entry_of c.act k)) (dropped_result k) (saved_keeps k c w e (entry_of c.act k) l) l
    take_keeps k (Yield a) l = yield_keeps k a (entry_of a k) l
    take_keeps k (Closed g) l = closes k g l
    take_keeps k (Save a) l = l
    take_keeps k (Restore a c xs) l = l

  -- ---- a tend

  answered_keeps : (k : Kernel) (o : Option Packet) → HasFact k → KeepsRouted (answer_routed h k o)
  answered_keeps k None l = l
  answered_keeps k (Some p) l = route_keeps p k l

  tended_keeps : (t : ℕ) (said : Said) (freed : Option ℕ) (old : Kernel) (o : Option Routed) → HasFact old → KeepsRouted o → Keeps (after_tend h t said freed old o)
  tended_keeps t said freed old None l r = l
  tended_keeps t said freed old (Some d) l r = then_keeps said t d.kernel (d.out ++ closed_out freed) r

  arrived_keeps : (old k : Kernel) (x : ActivityEntry) (o : Option Arrival) → HasFact old → HasFact k → Keeps (tend_arrived h old k x o)
  arrived_keeps old k x None l s = l
  arrived_keeps old k x (Some r) l s = tended_keeps (tile_of h x.act) r.said r.freed old (answer_routed h k r.answer) l (answered_keeps k r.answer s)

  away_keeps : (k : Kernel) (x : ActivityEntry) (p : Packet) (ps : List Packet) (y : SavedActivity) (sits : SavedActivity → EntryResidency) (ready : Bool) → HasFact k → Keeps (tend_away h k x p ps y sits ready)
  away_keeps k x p ps y sits ready l =
      let r = arrive_fit y.context p in
      let sat = with_entry (record x { seating = sits (after_packet p (arrived_context y.context r) y); hold = ps }) k in
      let b = ready && (has_program h x.act && not y.ended) in
      arrived_keeps k (join_ready b (tile_of h x.act) x.act sat) x r l (joined b (tile_of h x.act) x.act sat l)

  front_keeps : (k : Kernel) (x : ActivityEntry) (ps : List Packet) (y : SavedActivity) (sits : SavedActivity → EntryResidency) (ready : Bool) → HasFact k → Keeps (tend_front h k x ps y sits ready)
  front_keeps k x [] y sits ready l = l
  front_keeps k x (p ∷ ps) y sits ready l = away_keeps k x p ps y sits ready l

  tend_seat_keeps : (k : Kernel) (x : ActivityEntry) (w : EntryResidency) → HasFact k → Keeps (tend_entry h k x w)
  tend_seat_keeps k x Is_placed l = l
  tend_seat_keeps k x Is_leaving l = l
  tend_seat_keeps k x (Is_resting y) l = front_keeps k x x.hold y Is_resting true l
  tend_seat_keeps k x (Is_coming y) l = front_keeps k x x.hold y Is_coming false l

  tended_by_keeps : (k : Kernel) (o : Option ActivityEntry) → HasFact k → Keeps (tend_by h k o)
  tended_by_keeps k None l = l
  tended_by_keeps k (Some x) l = tend_seat_keeps k x x.seating l

  pub tend_keeps : (k : Kernel) (a : ℕ) → HasFact k → Keeps (kernel_tend h k a)
  tend_keeps k a l = tended_by_keeps k (entry_of a k) l

  -- ---- a switch

  switched_keeps : (k : Kernel) (t : ℕ) (x : ActivityEntry) (y : SavedActivity) (o : Option ActivityEntry) → HasFact k → Keeps (after_switch h k t x y o)
  switched_keeps k t x y None l = l
  switched_keeps k t x y (Some b) l = l

  switch_seat_keeps : (k : Kernel) (t : ℕ) (x : ActivityEntry) (w : EntryResidency) → HasFact k → Keeps (switch_entry h k t x w)
  switch_seat_keeps k t x Is_placed l = l
  switch_seat_keeps k t x (Is_coming y) l = l
  switch_seat_keeps k t x Is_leaving l = l
  switch_seat_keeps k t x (Is_resting y) l =
      either (list_any (is_moving_at h t) k.seats) (local_result (Said.No No.Leaving) k []) (after_switch h k t x y (placed_at h t k.seats)) l (switched_keeps k t x y (placed_at h t k.seats) l)

  pub switch_keeps : (k : Kernel) (t : ℕ) (o : Option ActivityEntry) → HasFact k → Keeps (switch h k t o)
  switch_keeps k t None l = l
  switch_keeps k t (Some x) l = either (tile_of h x.act == t) (switch_entry h k t x x.seating) (local_result (Said.No No.NotHome) k []) (switch_seat_keeps k t x x.seating l) l
