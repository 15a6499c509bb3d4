-- Each step of the kernel keeps next numbers and next tokens low.
use Rattle.std.proofs.Common.{ℕ, ◌+◌, length, Bool, true, false, List, [], ◌∷◌, ◌++◌, Option, Some, None}
use Rattle.std.specs.Prelude.{if◌then◌else◌, ◌==◌, ◌&&◌, ◌||◌, not}
use Rattle.std.specs.List.{list_any}
use Rattle.m3_base.specs.Lists.EachElement.{Each}
use Rattle.m3_merge.proofs.MergedIsRun.{each_append}
use Rattle.m3_base.specs.declared.packet.Packet.{Packet}
use Rattle.m3_base.specs.declared.event.Said.{Said}
use Rattle.m3_base.specs.declared.event.No.{No}
use Rattle.m3_base.specs.declared.order.GrantLine.{GrantLine}
use Rattle.m3_base.specs.declared.order.Order.{Order}
use Rattle.m3_base.specs.declared.packet.Fresh.{Fresh}
use Rattle.m3_base.specs.Ideal.Context.{Context}
use Rattle.m3_base.specs.Ideal.State.{Grant, grant_in, same_act, holder, holder_ep, parent_in, parent_of, undone}
use Rattle.m3_base.specs.Ideal.GrantRules.{form, make_refusal, new_grant, revoke_refusal, change_grant}
use Rattle.m3_base.specs.Placement.Order.{least_closing}
use Rattle.m3_base.specs.Placement.Routing.{target}
use Rattle.m3_base.specs.Ideal.Arrival.{Arrival, arrive}
use Rattle.m3_base.specs.Ideal.Acceptance.{fits, arrive_fit}
use Rattle.m3_model.specs.Config.KnownActivities.{is_named}
use Rattle.m3_model.specs.Config.Site.{Site, tile_of, has_program}
use Rattle.m3_model.specs.Parcel.{Parcel, Data, Save, Saved, Restore, Yield, Closed}
use Rattle.m3_model.specs.Kernel.State.{SavedActivity, EntryResidency, Is_placed, Is_leaving, Is_resting, Is_coming, ActivityEntry, Kernel}
use Rattle.m3_model.specs.LocalStep.{local_result, dropped_result, closed_out}
use Rattle.m3_model.specs.Kernel.Step.{entry_act, entry_of, with_entry, with_residency, is_placed_entry, is_leaving_entry, join_ready, with_yielded, Routed, with_held, route_to, entry_for, route, first_due, is_due_entry, is_leaving_at, with_restore_of, with_restore, then_restore, take_routed, residency_of_saved, take_saved, done_grant, is_under_close, take_closed, take_yield, take_data, kernel_take, answer_routed, after_tend, after_packet, tend_arrived, arrived_context, tend_away, tend_front, tend_entry, tend_by, kernel_tend, placed_at, is_moving_at, after_switch, switch_entry, switch, kernel_id, own_packet_out, make_with, revoke_with, kernel_order, close_of, close_least, kernel_close}
use Rattle.m3_model.specs.Machine.{of_kernel}
use Rattle.m3_model.specs.NumberBounds.{HasBoundedCounters, ParcelBounded, ResidencyBounded, EntryBounded}
use Rattle.m3_refine.proofs.bounds.ArriveKeepsBounds.{AllArrive, arrive_low}
use Rattle.m3_refine.proofs.lists.EachElement.{InSome, each_found, each_replaced}
use Rattle.m3_refine.proofs.bounds.BoundsOfParts.{LowOut, LowDeed, low_closed}

module _ (h : Site) (n : ℕ) where
  abbrev LowKernel : Kernel → Type 0
  LowKernel k = Each (EntryBounded n) k.seats

  seat_low : (x : ActivityEntry) (k : Kernel) → LowKernel k → EntryBounded n x → LowKernel (with_entry x k)
  seat_low x k l p = each_replaced (EntryBounded n) entry_act same_act x k.seats l p

  found_low : (a : ℕ) (k : Kernel) → LowKernel k → InSome (EntryBounded n) (entry_of a k)
  found_low a k l = each_found (EntryBounded n) entry_act same_act a k.seats l

  joined_low : (b : Bool) (t a : ℕ) (k : Kernel) → LowKernel k → LowKernel (join_ready b t a k)
  joined_low true t a k l = l
  joined_low false t a k l = l

  out_low : (xs ys : List (ℕ × Parcel)) → LowOut n xs → LowOut n ys → LowOut n (xs ++ ys)
  out_low xs ys p q = each_append (λ x. ParcelBounded n x.1) xs ys p q

  -- ---- routing

  abbrev LowRouted : Routed → Type 0
  LowRouted r = LowKernel r.kernel × LowOut n r.out

  route_to_low : (p : Packet) (k : Kernel) (o : Option ActivityEntry) → LowKernel k → InSome (EntryBounded n) o → InSome LowRouted (route_to h p k o)
  route_to_low p k None l s = tt
  route_to_low p k (Some x) l s = by_place (is_placed_entry x.seating)
    where
      by_place : (b : Bool) → LowRouted (if b then record { held = false; kernel = k; out = (tile_of h x.act, Data p) ∷ [] } else record { held = true; kernel = with_held p x k; out = [] })
      by_place true = (l, (tt, tt))
      by_place false = (seat_low (record x { hold = x.hold ++ p ∷ [] }) k l s, tt)

  seat_for_low : (o : Option ℕ) (k : Kernel) → LowKernel k → InSome (EntryBounded n) (entry_for o k)
  seat_for_low None k l = tt
  seat_for_low (Some a) k l = found_low a k l

  route_low : (p : Packet) (k : Kernel) → LowKernel k → InSome LowRouted (route h p k)
  route_low p k l = route_to_low p k (entry_for (target p) k) l (seat_for_low (target p) k l)

  -- ---- who comes

  due_low : (t : ℕ) (xs : List ActivityEntry) → Each (EntryBounded n) xs → InSome (EntryBounded n) (first_due h t xs)
  due_low t [] l = tt
  due_low t (x ∷ xs) l = by_test (is_due_entry h t x) (due_low t xs l.1)
    where
      by_test : (b : Bool) → InSome (EntryBounded n) (first_due h t xs) → InSome (EntryBounded n) (if b then Some x else first_due h t xs)
      by_test true r = l.0
      by_test false r = r

  restored_by_low : (said : Said) (t : ℕ) (k : Kernel) (out : List (ℕ × Parcel)) (x : ActivityEntry) (w : EntryResidency) → LowKernel k → LowOut n out → ResidencyBounded n w → LowDeed n (of_kernel (with_restore_of h said t k out x w))
  restored_by_low said t k out x (Is_coming y) l o s = (seat_low (record x { seating = Is_placed }) k l tt, out_low out ((tile_of h x.act, Restore y.context.act y.context y.heard) ∷ []) o (s, tt))
  restored_by_low said t k out x Is_placed l o s = (l, o)
  restored_by_low said t k out x Is_leaving l o s = (l, o)
  restored_by_low said t k out x (Is_resting y) l o s = (l, o)

  restored_low : (said : Said) (t : ℕ) (k : Kernel) (out : List (ℕ × Parcel)) (o : Option ActivityEntry) → LowKernel k → LowOut n out → InSome (EntryBounded n) o → LowDeed n (of_kernel (with_restore h said t k out o))
  restored_low said t k out None l o s = (l, o)
  restored_low said t k out (Some x) l o s = restored_by_low said t k out x x.seating l o s

  then_low : (said : Said) (t : ℕ) (k : Kernel) (out : List (ℕ × Parcel)) → LowKernel k → LowOut n out → LowDeed n (of_kernel (then_restore h said t k out))
  then_low said t k out l o = by_test (list_any (is_leaving_at h t) k.seats)
    where
      by_test : (b : Bool) → LowDeed n (of_kernel (with_restore h said t k out (if b then None else first_due h t k.seats)))
      by_test true = restored_low said t k out None l o tt
      by_test false = restored_low said t k out (first_due h t k.seats) l o (due_low t k.seats l)

  -- ---- a take

  routed_low : (p : Packet) (k : Kernel) (o : Option Routed) → LowKernel k → InSome LowRouted o → LowDeed n (of_kernel (take_routed p k o))
  routed_low p k None l s = (l, tt)
  routed_low p k (Some r) l s = s

  data_low : (p : Packet) (k : Kernel) → LowKernel k → LowDeed n (of_kernel (take_data h k p))
  data_low p k l = by_name (is_named h p)
    where
      by_name : (b : Bool) → LowDeed n (of_kernel (if b then take_routed p k (route h p k) else dropped_result k))
      by_name true = routed_low p k (route h p k) l (route_low p k l)
      by_name false = (l, tt)

  saved_low : (k : Kernel) (c : Context) (waiting ended : Bool) (o : Option ActivityEntry) → LowKernel k → HasBoundedCounters n c → LowDeed n (of_kernel (take_saved h k c waiting ended o))
  saved_low k c waiting ended None l s = (l, tt)
  saved_low k c waiting ended (Some x) l s = by_leaving (is_leaving_entry x.seating)
    where
      after : Kernel
      after = join_ready (has_program h x.act && (not waiting && not ended)) (tile_of h x.act) x.act (with_residency (residency_of_saved c ended) x k)

      by_leaving : (b : Bool) → LowDeed n (of_kernel (if b then then_restore h (Said.Saved x.act) (tile_of h x.act) after [] else dropped_result k))
      by_leaving true =
          then_low (Said.Saved x.act) (tile_of h x.act) after [] (
          joined_low (has_program h x.act && (not waiting && not ended)) (tile_of h x.act) x.act (with_residency (residency_of_saved c ended) x k) (seat_low (record x { seating = residency_of_saved c ended }) k l s)
          ) tt
      by_leaving false = (l, tt)

  closed_low : (k : Kernel) (g : ℕ) (o : Option Grant) → LowKernel k → LowDeed n (of_kernel (take_closed k g o))
  closed_low k g None l = (l, tt)
  closed_low k g (Some x) l = by_close (is_under_close x)
    where
      by_close : (b : Bool) → LowDeed n (of_kernel (if b then done_grant g x k else dropped_result k))
      by_close true = (l, tt)
      by_close false = (l, tt)

  yield_low : (k : Kernel) (a : ℕ) (o : Option ActivityEntry) → LowKernel k → LowDeed n (of_kernel (take_yield h k a o))
  yield_low k a None l = (l, tt)
  yield_low k a (Some x) l = by_place (is_placed_entry x.seating || is_leaving_entry x.seating)
    where
      by_place : (b : Bool) → LowDeed n (of_kernel (if b then local_result (Said.Yielded a) (with_yielded (tile_of h a) true k) [] else dropped_result k))
      by_place true = (l, tt)
      by_place false = (l, tt)

  pub kernel_take_low : (k : Kernel) (q : Parcel) → LowKernel k → ParcelBounded n q → LowDeed n (of_kernel (kernel_take h k q))
  kernel_take_low k (Data p) l s = data_low p k l
  kernel_take_low k (Saved a c w e) l s = by_act (c.act == a)
    where
      by_act : (b : Bool) → LowDeed n (of_kernel (if b then take_saved h k c w e (entry_of c.act k) else dropped_result k))
      by_act true = saved_low k c w e (entry_of c.act k) l s
      by_act false = (l, tt)
  kernel_take_low k (Yield a) l s = yield_low k a (entry_of a k) l
  kernel_take_low k (Closed g) l s = closed_low k g (grant_in k.grants g) l
  kernel_take_low k (Save a) l s = (l, tt)
  kernel_take_low k (Restore a c xs) l s = (l, tt)

  -- ---- a tend

  answered_low : (k : Kernel) (o : Option Packet) → LowKernel k → InSome LowRouted (answer_routed h k o)
  answered_low k None l = (l, tt)
  answered_low k (Some p) l = route_low p k l

  tended_low : (t : ℕ) (said : Said) (freed : Option ℕ) (old : Kernel) (o : Option Routed) → LowKernel old → InSome LowRouted o → LowDeed n (of_kernel (after_tend h t said freed old o))
  tended_low t said freed old None l s = (l, tt)
  tended_low t said freed old (Some r) l s = then_low said t r.kernel (r.out ++ closed_out freed) s.0 (out_low r.out (closed_out freed) s.1 (low_closed n freed))

  arrived_low : (old k : Kernel) (x : ActivityEntry) (o : Option Arrival) → LowKernel old → LowKernel k → LowDeed n (of_kernel (tend_arrived h old k x o))
  arrived_low old k x None l s = (l, tt)
  arrived_low old k x (Some r) l s = tended_low (tile_of h x.act) r.said r.freed old (answer_routed h k r.answer) l (answered_low k r.answer s)

  fit_low : (c : Context) (p : Packet) → HasBoundedCounters n c → AllArrive n (arrive_fit c p)
  fit_low c p l = by_fit (fits c p)
    where
      by_fit : (b : Bool) → AllArrive n (if b then arrive c p else None)
      by_fit true = arrive_low n c p l
      by_fit false = tt

  context_low : (c : Context) (o : Option Arrival) → HasBoundedCounters n c → AllArrive n o → HasBoundedCounters n (arrived_context c o)
  context_low c None l s = l
  context_low c (Some r) l s = s

  away_low : (k : Kernel) (x : ActivityEntry) (p : Packet) (ps : List Packet) (y : SavedActivity) (sits : SavedActivity → EntryResidency) (ready : Bool) → ((z : SavedActivity) → HasBoundedCounters n z.context → ResidencyBounded n (sits z)) → LowKernel k → HasBoundedCounters n y.context → LowDeed n (of_kernel (tend_away h k x p ps y sits ready))
  away_low k x p ps y sits ready keeps l s =
      let r = arrive_fit y.context p in
      let z : SavedActivity = after_packet p (arrived_context y.context (arrive_fit y.context p)) y in
      let sat : LowKernel (with_entry (record x { seating = sits z; hold = ps }) k) = seat_low (record x { seating = sits z; hold = ps }) k l (keeps z (context_low y.context (arrive_fit y.context p) s (fit_low y.context p s))) in
      arrived_low k (join_ready (ready && (has_program h x.act && not y.ended)) (tile_of h x.act) x.act (with_entry (record x { seating = sits z; hold = ps }) k)) x (arrive_fit y.context p) l (
      joined_low (ready && (has_program h x.act && not y.ended)) (tile_of h x.act) x.act (with_entry (record x { seating = sits z; hold = ps }) k) sat
      )

  front_low : (k : Kernel) (x : ActivityEntry) (ps : List Packet) (y : SavedActivity) (sits : SavedActivity → EntryResidency) (ready : Bool) → ((z : SavedActivity) → HasBoundedCounters n z.context → ResidencyBounded n (sits z)) → LowKernel k → HasBoundedCounters n y.context → LowDeed n (of_kernel (tend_front h k x ps y sits ready))
  front_low k x [] y sits ready keeps l s = (l, tt)
  front_low k x (p ∷ ps) y sits ready keeps l s = away_low k x p ps y sits ready keeps l s

  tend_seat_low : (k : Kernel) (x : ActivityEntry) (w : EntryResidency) → LowKernel k → ResidencyBounded n w → LowDeed n (of_kernel (tend_entry h k x w))
  tend_seat_low k x Is_placed l s = (l, tt)
  tend_seat_low k x Is_leaving l s = (l, tt)
  tend_seat_low k x (Is_resting y) l s = front_low k x x.hold y Is_resting true (λ z p. p) l s
  tend_seat_low k x (Is_coming y) l s = front_low k x x.hold y Is_coming false (λ z p. p) l s

  tend_by_low : (k : Kernel) (o : Option ActivityEntry) → LowKernel k → InSome (EntryBounded n) o → LowDeed n (of_kernel (tend_by h k o))
  tend_by_low k None l s = (l, tt)
  tend_by_low k (Some x) l s = tend_seat_low k x x.seating l s

  pub kernel_tend_low : (k : Kernel) (a : ℕ) → LowKernel k → LowDeed n (of_kernel (kernel_tend h k a))
  kernel_tend_low k a l = tend_by_low k (entry_of a k) l (found_low a k l)

  -- ---- a switch

  placed_low : (t : ℕ) (xs : List ActivityEntry) → Each (EntryBounded n) xs → InSome (EntryBounded n) (placed_at h t xs)
  placed_low t [] l = tt
  placed_low t (x ∷ xs) l = by_test ((tile_of h x.act == t) && is_placed_entry x.seating) (placed_low t xs l.1)
    where
      by_test : (b : Bool) → InSome (EntryBounded n) (placed_at h t xs) → InSome (EntryBounded n) (if b then Some x else placed_at h t xs)
      by_test true r = l.0
      by_test false r = r

  switched_low : (k : Kernel) (t : ℕ) (x : ActivityEntry) (y : SavedActivity) (o : Option ActivityEntry) → LowKernel k → HasBoundedCounters n y.context → LowDeed n (of_kernel (after_switch h k t x y o))
  switched_low k t x y None l s = (l, tt)
  switched_low k t x y (Some b) l s = (seat_low (record x { seating = Is_coming y }) (with_residency Is_leaving b k) (seat_low (record b { seating = Is_leaving }) k l tt) s, (tt, tt))

  switch_seat_low : (k : Kernel) (t : ℕ) (x : ActivityEntry) (w : EntryResidency) → LowKernel k → ResidencyBounded n w → LowDeed n (of_kernel (switch_entry h k t x w))
  switch_seat_low k t x Is_placed l s = (l, tt)
  switch_seat_low k t x (Is_coming y) l s = (l, tt)
  switch_seat_low k t x Is_leaving l s = (l, tt)
  switch_seat_low k t x (Is_resting y) l s = by_moving (list_any (is_moving_at h t) k.seats)
    where
      by_moving : (b : Bool) → LowDeed n (of_kernel (if b then local_result (Said.No No.Leaving) k [] else after_switch h k t x y (placed_at h t k.seats)))
      by_moving true = (l, tt)
      by_moving false = switched_low k t x y (placed_at h t k.seats) l s

  switch_low : (k : Kernel) (t : ℕ) (o : Option ActivityEntry) → LowKernel k → InSome (EntryBounded n) o → LowDeed n (of_kernel (switch h k t o))
  switch_low k t None l s = (l, tt)
  switch_low k t (Some x) l s = by_home (tile_of h x.act == t)
    where
      by_home : (b : Bool) → LowDeed n (of_kernel (if b then switch_entry h k t x x.seating else local_result (Said.No No.NotHome) k []))
      by_home true = switch_seat_low k t x x.seating l s
      by_home false = (l, tt)

  -- ---- the kernel's own packets, and any order

  own_low : (old : Kernel) (said : Bool → Said) (o : Option Routed) → LowKernel old → InSome LowRouted o → LowDeed n (of_kernel (own_packet_out old said o))
  own_low old said None l s = (l, tt)
  own_low old said (Some r) l s = s

  made_low : (k : Kernel) (line : GrantLine) (why : Option No) (f : Option Fresh) → LowKernel k → LowDeed n (of_kernel (make_with h k line why f))
  made_low k line (Some why) f l = (l, tt)
  made_low k line None None l = (l, tt)
  made_low k line None (Some f) l =
      let k1 : Kernel = record k { next = k.next + 1; grants = k.grants ++ new_grant line f ∷ [] } in
      own_low k (λ held. Said.Granted (length k.grants + 1) (kernel_id k) held) (route h (Packet.Install (kernel_id k) (holder line) (holder_ep line) f) k1) l
      (route_low (Packet.Install (kernel_id k) (holder line) (holder_ep line) f) k1 l)

  revoked_low : (k : Kernel) (g : ℕ) (why : Option No) → LowKernel k → LowDeed n (of_kernel (revoke_with k g why))
  revoked_low k g (Some why) l = (l, tt)
  revoked_low k g None l = (l, tt)

  closed_out_low : (k : Kernel) (g : ℕ) (o : Option Grant) → LowKernel k → LowDeed n (of_kernel (close_of h k g o))
  closed_out_low k g None l = (l, tt)
  closed_out_low k g (Some x) l =
      let k1 : Kernel = record k { next = k.next + 1; grants = change_grant k.grants g (λ y. record y { close_sent = true }) } in
      own_low k (λ held. Said.CloseSent g (kernel_id k) held) (route h (Packet.Close (kernel_id k) (holder x.line) (holder_ep x.line) g) k1) l
      (route_low (Packet.Close (kernel_id k) (holder x.line) (holder_ep x.line) g) k1 l)

  least_low : (k : Kernel) (o : Option ℕ) → LowKernel k → LowDeed n (of_kernel (close_least h k o))
  least_low k None l = (l, tt)
  least_low k (Some g) l = closed_out_low k g (grant_in k.grants g) l

  pub kernel_close_low : (k : Kernel) → LowKernel k → LowDeed n (of_kernel (kernel_close h k))
  kernel_close_low k l = least_low k (least_closing k.grants 1 k.grants) l

  pub kernel_order_low : (k : Kernel) (o : Order) → LowKernel k → LowDeed n (of_kernel (kernel_order h k o))
  kernel_order_low k (Order.Switch t a) l = switch_low k t (entry_of a k) l (found_low a k l)
  kernel_order_low k (Order.Grant line) l =
      made_low k line (make_refusal h.memory k.grants line) (form (length k.grants + 1) line (undone (parent_in k.grants (parent_of line)))) l
  kernel_order_low k (Order.Revoke g) l = revoked_low k g (revoke_refusal (grant_in k.grants g)) l
