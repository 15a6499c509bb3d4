-- The kernel's local steps over its ways: what is held stays in its order, and what goes out is neither an Install nor a
-- Close, but for a new grant's Install and a grant's Close.
use Rattle.std.proofs.Common.{◌≡◌, ℕ, ◌-◌, ◌<◌, Bool, true, false, List, [], ◌∷◌, ◌++◌, length, Option, Some, None, refl, ◌∙◌, arith}
use Rattle.std.specs.Prelude.{if◌then◌else◌, ◌==◌, ◌&&◌, ◌||◌, not}
use Rattle.std.specs.List.{list_any}
use Rattle.m3_base.specs.declared.packet.Packet.{Packet}
use Rattle.m3_base.specs.declared.event.No.{No}
use Rattle.m3_base.specs.declared.event.Said.{Said}
use Rattle.m3_base.specs.Ideal.Context.{Context}
use Rattle.m3_base.specs.Ideal.State.{Grant, Done, grant_in, same_act}
use Rattle.m3_base.specs.Ideal.GrantRules.{set_some, change_grant, closing_where, marks_under, after_revoke}
use Rattle.m3_base.specs.Placement.Routing.{target}
use Rattle.m3_base.specs.Ideal.Arrival.{Arrival}
use Rattle.m3_base.specs.Ideal.Acceptance.{arrive_fit}
use Rattle.m3_base.specs.Lists.EachElement.{Each}
use Rattle.m3_merge.proofs.MergedIsRun.{each_append}
use Rattle.m3_model.specs.Config.KnownActivities.{is_named}
use Rattle.m3_model.specs.Config.Site.{Site, tile_of, has_program}
use Rattle.m3_model.specs.Parcel.{Parcel, Data, Save, Saved, Restore, Yield, Closed}
use Rattle.m3_model.specs.Kernel.State.{SavedActivity, EntryResidency, Is_placed, Is_leaving, Is_resting, Is_coming, ActivityEntry, Kernel}
use Rattle.m3_model.specs.LocalStep.{LocalResult, local_result, dropped_result, closed_out}
use Rattle.m3_model.specs.Kernel.Step.{entry_act, entry_of, with_entry, with_residency, is_placed_entry, is_leaving_entry, join_ready, with_yielded, Routed, with_held, route_to, entry_for, route, is_due_entry, first_due, is_leaving_at, with_restore_of, with_restore, then_restore, take_routed, residency_of_saved, take_saved, done_grant, is_under_close, take_closed, take_yield, kernel_take, answer_routed, after_tend, after_packet, tend_arrived, arrived_context, tend_away, tend_front, tend_entry, tend_by, kernel_tend, placed_at, is_moving_at, after_switch, switch_entry, switch, revoke_with}
use Rattle.m3_model.specs.Abstraction.{flat_map}
use Rattle.m3_model.specs.Ways.{IsPlain, MayFollow, ClosesOneOf, packets_for, HasWay}
use Rattle.m3_refine.proofs.lists.EachElement.{InSome, each_found, each_replaced}
use Rattle.m3_refine.proofs.ways.PlainPackets.{PlainIf, PlainArrived, fit_plain}
use Rattle.m3_refine.proofs.ways.WayLists.{each_all, dropped_one, first_held, plain_behind, plain_closes}
use Rattle.std.proofs.lemmas.List.{length-set}
use Rattle.m3_base.proofs.GrantsByNumber.{length-closing_where}

-- ---- as many grants as before

pub count_changed : (gs : List Grant) (g : ℕ) (f : Grant → Grant) → length (change_grant gs g f) ≡ length gs
count_changed gs g f = by_found (grant_in gs g)
  where
    by_found : (o : Option Grant) → length (set_some gs g f o) ≡ length gs
    by_found None = refl
    by_found (Some x) = length-set gs (g - 1) (f x)

count_revoked : (gs : List Grant) (g : ℕ) → length (after_revoke gs g) ≡ length gs
count_revoked gs g = count_changed (closing_where (marks_under g 1 [] gs) gs) g (λ x. record x { is_root = true }) ∙ length-closing_where (marks_under g 1 [] gs) gs

-- ---- what goes out

abbrev pub PlainParcel : Parcel → Type 0
PlainParcel (Data p) = IsPlain p
PlainParcel (Save a) = Unit {0}
PlainParcel (Saved a c waiting ended) = Unit {0}
PlainParcel (Restore a c xs) = Unit {0}
PlainParcel (Yield a) = Unit {0}
PlainParcel (Closed g) = Unit {0}

abbrev pub AllPlain : List (ℕ × Parcel) → Type 0
AllPlain out = Each (λ x. (x.0 < 16) × PlainParcel x.1) out

pub closed_plain : (o : Option ℕ) → AllPlain (closed_out o)
closed_plain None = tt
closed_plain (Some g) = ((omega arith, tt), tt)

module _ (h : Site) (low : (a : ℕ) → tile_of h a < 16) (n : ℕ) (links : ℕ → List Parcel) where
  -- each seat has its way, and there are n grants
  abbrev pub WayKernel : Kernel → Type 0
  WayKernel k = Each (HasWay h n links) k.seats × (length k.grants ≡ n)

  abbrev pub WayDeed : LocalResult Kernel → Type 0
  WayDeed d = WayKernel d.part × AllPlain d.out

  abbrev WayRouted : Routed → Type 0
  WayRouted r = WayKernel r.kernel × AllPlain r.out

  either : (b : Bool) (x y : LocalResult Kernel) → WayDeed x → WayDeed y → WayDeed (if b then x else y)
  either true x y k l = k
  either false x y k l = l

  seat_way : (x : ActivityEntry) (k : Kernel) → WayKernel k → HasWay h n links x → WayKernel (with_entry x k)
  seat_way x k l p = (each_replaced (HasWay h n links) entry_act same_act x k.seats l.0 p, l.1)

  pub found_way : (a : ℕ) (k : Kernel) → WayKernel k → InSome (HasWay h n links) (entry_of a k)
  found_way a k l = each_found (HasWay h n links) entry_act same_act a k.seats l.0

  joined_way : (b : Bool) (t a : ℕ) (k : Kernel) → WayKernel k → WayKernel (join_ready b t a k)
  joined_way true t a k l = l
  joined_way false t a k l = l

  out_plain : (xs ys : List (ℕ × Parcel)) → AllPlain xs → AllPlain ys → AllPlain (xs ++ ys)
  out_plain xs ys p q = each_append (λ x. (x.0 < 16) × PlainParcel x.1) xs ys p q

  -- ---- routing

  -- a packet joins the hold list, where it may stand behind all that is before it
  pub held_way : (p : Packet) (x : ActivityEntry) → Each (λ q. MayFollow q p) (flat_map (packets_for x.act) (links (tile_of h x.act)) ++ x.hold) → ClosesOneOf n p → HasWay h n links x → HasWay h n links (record x { hold = x.hold ++ p ∷ [] })
  held_way p x behind one w = (
    first_held (flat_map (packets_for x.act) (links (tile_of h x.act))) p x.hold behind w.0,
    each_append (ClosesOneOf n) x.hold (p ∷ []) w.1 (one, tt),
  )

  route_to_way : (p : Packet) → IsPlain p → (k : Kernel) (o : Option ActivityEntry) → WayKernel k → InSome (HasWay h n links) o → InSome WayRouted (route_to h p k o)
  route_to_way p plain k None l s = tt
  route_to_way p plain k (Some x) l s = by_place (is_placed_entry x.seating)
    where
      by_place : (b : Bool) → WayRouted (if b then record { held = false; kernel = k; out = (tile_of h x.act, Data p) ∷ [] } else record { held = true; kernel = with_held p x k; out = [] })
      by_place true = (l, ((low x.act, plain), tt))
      by_place false = (
        seat_way (record x { hold = x.hold ++ p ∷ [] }) k l (
            held_way p x (each_all (λ q. MayFollow q p) (plain_behind p plain) (flat_map (packets_for x.act) (links (tile_of h x.act)) ++ x.hold)) (plain_closes n p plain) s
            ),
        tt,
      )

  seat_for_way : (o : Option ℕ) (k : Kernel) → WayKernel k → InSome (HasWay h n links) (entry_for o k)
  seat_for_way None k l = tt
  seat_for_way (Some a) k l = found_way a k l

  route_way : (p : Packet) → IsPlain p → (k : Kernel) → WayKernel k → InSome WayRouted (route h p k)
  route_way p plain k l = route_to_way p plain k (entry_for (target p) k) l (seat_for_way (target p) k l)

  -- ---- who comes

  due_way : (t : ℕ) (xs : List ActivityEntry) → Each (HasWay h n links) xs → InSome (HasWay h n links) (first_due h t xs)
  due_way t [] l = tt
  due_way t (x ∷ xs) l = by_test (is_due_entry h t x) (due_way t xs l.1)
    where
      by_test : (b : Bool) → InSome (HasWay h n links) (first_due h t xs) → InSome (HasWay h n links) (if b then Some x else first_due h t xs)
      by_test true r = l.0
      by_test false r = r

  coming_way : (said : Said) (t : ℕ) (k : Kernel) (out : List (ℕ × Parcel)) (x : ActivityEntry) (w : EntryResidency) → WayKernel k → AllPlain out → HasWay h n links x → WayDeed (with_restore_of h said t k out x w)
  coming_way said t k out x (Is_coming y) l o s =
      (seat_way (record x { seating = Is_placed }) k l s, out_plain out ((tile_of h x.act, Restore y.context.act y.context y.heard) ∷ []) o ((low x.act, tt), tt))
  coming_way said t k out x Is_placed l o s = (l, o)
  coming_way said t k out x Is_leaving l o s = (l, o)
  coming_way said t k out x (Is_resting y) l o s = (l, o)

  restored_way : (said : Said) (t : ℕ) (k : Kernel) (out : List (ℕ × Parcel)) (o : Option ActivityEntry) → WayKernel k → AllPlain out → InSome (HasWay h n links) o → WayDeed (with_restore h said t k out o)
  restored_way said t k out None l o s = (l, o)
  restored_way said t k out (Some x) l o s = coming_way said t k out x x.seating l o s

  then_way : (said : Said) (t : ℕ) (k : Kernel) (out : List (ℕ × Parcel)) → WayKernel k → AllPlain out → WayDeed (then_restore h said t k out)
  then_way said t k out l o = restored_way said t k out (if list_any (is_leaving_at h t) k.seats then None else first_due h t k.seats) l o (by_test (list_any (is_leaving_at h t) k.seats))
    where
      by_test : (b : Bool) → InSome (HasWay h n links) (if b then None else first_due h t k.seats)
      by_test true = tt
      by_test false = due_way t k.seats l.0

  -- ---- a take

  routed_way : (p : Packet) (k : Kernel) (o : Option Routed) → WayKernel k → InSome WayRouted o → WayDeed (take_routed p k o)
  routed_way p k None l r = (l, tt)
  routed_way p k (Some d) l r = r

  saved_way : (k : Kernel) (c : Context) (w e : Bool) (o : Option ActivityEntry) → WayKernel k → InSome (HasWay h n links) o → WayDeed (take_saved h k c w e o)
  saved_way k c w e None l s = (l, tt)
  saved_way k c w e (Some x) l s =
      let b = has_program h x.act && (not w && not e) in
      let after = join_ready b (tile_of h x.act) x.act (with_residency (residency_of_saved c e) x k) in
      either (is_leaving_entry x.seating) (then_restore h (Said.Saved x.act) (tile_of h x.act) after []) (dropped_result k)
      (then_way (Said.Saved x.act) (tile_of h x.act) after [] (joined_way b (tile_of h x.act) x.act (with_residency (residency_of_saved c e) x k) (seat_way (record x { seating = residency_of_saved c e }) k l s)) tt) (l, tt)

  closed_way : (k : Kernel) (g : ℕ) (o : Option Grant) → WayKernel k → WayDeed (take_closed k g o)
  closed_way k g None l = (l, tt)
  closed_way k g (Some x) l =
      either (is_under_close x) (done_grant g x k) (dropped_result k) ((l.0, count_changed k.grants g (λ y. record y { standing = Done }) ∙ l.1), tt) (l, tt)

  yield_way : (k : Kernel) (a : ℕ) (o : Option ActivityEntry) → WayKernel k → WayDeed (take_yield h k a o)
  yield_way k a None l = (l, tt)
  yield_way k a (Some x) l =
      either (is_placed_entry x.seating || is_leaving_entry x.seating) (local_result (Said.Yielded a) (with_yielded (tile_of h a) true k) []) (dropped_result k) (l, tt) (l, tt)

  pub take_way : (k : Kernel) (q : Parcel) → PlainParcel q → WayKernel k → WayDeed (kernel_take h k q)
  take_way k (Data p) plain l = either (is_named h p) (take_routed p k (route h p k)) (dropped_result k) (routed_way p k (route h p k) l (route_way p plain k l)) (l, tt)
  take_way k (Saved a c w e) plain l =
      either (c.act == a) (take_saved h k c w e (entry_of c.act k)) (dropped_result k) (saved_way k c w e (entry_of c.act k) l (found_way c.act k l)) (l, tt)
  take_way k (Yield a) plain l = yield_way k a (entry_of a k) l
  take_way k (Closed g) plain l = closed_way k g (grant_in k.grants g) l
  take_way k (Save a) plain l = (l, tt)
  take_way k (Restore a c xs) plain l = (l, tt)

  -- ---- a tend

  answered_way : (k : Kernel) (o : Option Packet) → PlainIf o → WayKernel k → InSome WayRouted (answer_routed h k o)
  answered_way k None plain l = (l, tt)
  answered_way k (Some p) plain l = route_way p plain k l

  tended_way : (t : ℕ) (said : Said) (freed : Option ℕ) (old : Kernel) (o : Option Routed) → WayKernel old → InSome WayRouted o → WayDeed (after_tend h t said freed old o)
  tended_way t said freed old None l r = (l, tt)
  tended_way t said freed old (Some d) l r = then_way said t d.kernel (d.out ++ closed_out freed) r.0 (out_plain d.out (closed_out freed) r.1 (closed_plain freed))

  arrived_way : (old k : Kernel) (x : ActivityEntry) (o : Option Arrival) → PlainArrived o → WayKernel old → WayKernel k → WayDeed (tend_arrived h old k x o)
  arrived_way old k x None plain l s = (l, tt)
  arrived_way old k x (Some r) plain l s = tended_way (tile_of h x.act) r.said r.freed old (answer_routed h k r.answer) l (answered_way k r.answer plain s)

  away_way : (k : Kernel) (x : ActivityEntry) (p : Packet) (ps : List Packet) (y : SavedActivity) (sits : SavedActivity → EntryResidency) (ready : Bool) → WayKernel k → HasWay h n links (record x { hold = p ∷ ps }) → WayDeed (tend_away h k x p ps y sits ready)
  away_way k x p ps y sits ready l s =
      let r = arrive_fit y.context p in
      let z = record x { seating = sits (after_packet p (arrived_context y.context (arrive_fit y.context p)) y); hold = ps } in
      let b = ready && (has_program h x.act && not y.ended) in
      arrived_way k (join_ready b (tile_of h x.act) x.act (with_entry z k)) x r (fit_plain y.context p) l (
      joined_way b (tile_of h x.act) x.act (with_entry z k) (
      seat_way z k l (dropped_one p (flat_map (packets_for x.act) (links (tile_of h x.act))) ps s.0, s.1.1)
      )
      )

  front_way : (k : Kernel) (x : ActivityEntry) (ps : List Packet) (y : SavedActivity) (sits : SavedActivity → EntryResidency) (ready : Bool) → WayKernel k → HasWay h n links (record x { hold = ps }) → WayDeed (tend_front h k x ps y sits ready)
  front_way k x [] y sits ready l s = (l, tt)
  front_way k x (p ∷ ps) y sits ready l s = away_way k x p ps y sits ready l s

  tend_seat_way : (k : Kernel) (x : ActivityEntry) (w : EntryResidency) → WayKernel k → HasWay h n links x → WayDeed (tend_entry h k x w)
  tend_seat_way k x Is_placed l s = (l, tt)
  tend_seat_way k x Is_leaving l s = (l, tt)
  tend_seat_way k x (Is_resting y) l s = front_way k x x.hold y Is_resting true l s
  tend_seat_way k x (Is_coming y) l s = front_way k x x.hold y Is_coming false l s

  tend_by_way : (k : Kernel) (o : Option ActivityEntry) → WayKernel k → InSome (HasWay h n links) o → WayDeed (tend_by h k o)
  tend_by_way k None l s = (l, tt)
  tend_by_way k (Some x) l s = tend_seat_way k x x.seating l s

  pub tend_way : (k : Kernel) (a : ℕ) → WayKernel k → WayDeed (kernel_tend h k a)
  tend_way k a l = tend_by_way k (entry_of a k) l (found_way a k l)

  -- ---- a switch and a revoke

  placed_way : (t : ℕ) (xs : List ActivityEntry) → Each (HasWay h n links) xs → InSome (HasWay h n links) (placed_at h t xs)
  placed_way t [] l = tt
  placed_way t (x ∷ xs) l = by_test ((tile_of h x.act == t) && is_placed_entry x.seating) (placed_way t xs l.1)
    where
      by_test : (b : Bool) → InSome (HasWay h n links) (placed_at h t xs) → InSome (HasWay h n links) (if b then Some x else placed_at h t xs)
      by_test true r = l.0
      by_test false r = r

  switched_way : (k : Kernel) (t : ℕ) → t < 16 → (x : ActivityEntry) (y : SavedActivity) (o : Option ActivityEntry) → WayKernel k → HasWay h n links x → InSome (HasWay h n links) o → WayDeed (after_switch h k t x y o)
  switched_way k t ht x y None l s p = (l, tt)
  switched_way k t ht x y (Some b) l s p = (seat_way (record x { seating = Is_coming y }) (with_residency Is_leaving b k) (seat_way (record b { seating = Is_leaving }) k l p) s, ((ht, tt), tt))

  switch_seat_way : (k : Kernel) (t : ℕ) → t < 16 → (x : ActivityEntry) (w : EntryResidency) → WayKernel k → HasWay h n links x → WayDeed (switch_entry h k t x w)
  switch_seat_way k t ht x Is_placed l s = (l, tt)
  switch_seat_way k t ht x (Is_coming y) l s = (l, tt)
  switch_seat_way k t ht x Is_leaving l s = (l, tt)
  switch_seat_way k t ht x (Is_resting y) l s =
      either (list_any (is_moving_at h t) k.seats) (local_result (Said.No No.Leaving) k []) (after_switch h k t x y (placed_at h t k.seats)) (l, tt) (switched_way k t ht x y (placed_at h t k.seats) l s (placed_way t k.seats l.0))

  switch_by_way : (k : Kernel) (t : ℕ) → t < 16 → (o : Option ActivityEntry) → WayKernel k → InSome (HasWay h n links) o → WayDeed (switch h k t o)
  switch_by_way k t ht None l s = (l, tt)
  switch_by_way k t ht (Some x) l s = either (tile_of h x.act == t) (switch_entry h k t x x.seating) (local_result (Said.No No.NotHome) k []) (switch_seat_way k t ht x x.seating l s) (l, tt)

  pub switch_way : (k : Kernel) (t a : ℕ) → t < 16 → WayKernel k → WayDeed (switch h k t (entry_of a k))
  switch_way k t a ht l = switch_by_way k t ht (entry_of a k) l (found_way a k l)

  pub revoke_way : (k : Kernel) (g : ℕ) (o : Option No) → WayKernel k → WayDeed (revoke_with k g o)
  revoke_way k g None l = ((l.0, count_revoked k.grants g ∙ l.1), tt)
  revoke_way k g (Some why) l = (l, tt)
