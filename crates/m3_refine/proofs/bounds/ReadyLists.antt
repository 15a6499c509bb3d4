-- Each step keeps it that a ready list has activities of its tile alone, with a program, and so has the opening.
use Rattle.std.proofs.Common.{◌≡◌, ℕ, zero, suc, ◌+◌, Bool, true, false, List, [], ◌∷◌, ◌++◌, length, Option, Some, None, refl, sym, subst, ◌∙◌, ap, arith, append_assoc, set, get_or, filter, replicate}
use Rattle.std.specs.Prelude.{◌==◌, ◌&&◌, ◌||◌, not, is_some, if◌then◌else◌}
use Rattle.std.specs.List.{list_any}
use Rattle.m3_base.specs.declared.event.Event.{Event}
use Rattle.m3_base.specs.declared.event.Made.{Made}
use Rattle.m3_base.specs.declared.event.Said.{Said}
use Rattle.m3_base.specs.declared.event.No.{No}
use Rattle.m3_base.specs.declared.order.GrantLine.{GrantLine}
use Rattle.m3_base.specs.declared.order.Order.{Order}
use Rattle.m3_base.specs.declared.packet.Fresh.{Fresh}
use Rattle.m3_base.specs.declared.packet.Packet.{Packet}
use Rattle.m3_base.specs.Ideal.Context.{Context}
use Rattle.m3_base.specs.Ideal.State.{Grant, grant_in, holder, holder_ep, parent_in, parent_of, undone}
use Rattle.m3_base.specs.Ideal.GrantRules.{form, make_refusal, new_grant, revoke_refusal, change_grant}
use Rattle.m3_base.specs.Placement.Order.{least_closing}
use Rattle.m3_base.specs.Ideal.Arrival.{Arrival}
use Rattle.m3_base.specs.Ideal.Acceptance.{arrive_fit}
use Rattle.m3_base.specs.Placement.Routing.{target}
use Rattle.m3_base.specs.Lists.EachElement.{Each}
use Rattle.m3_model.specs.Config.Site.{Home, Site, tile_of, tile_in, home_of, home_has_program, has_program}
use Rattle.m3_model.specs.Parcel.{Parcel, Data, Save, Saved, Restore, Yield, Closed}
use Rattle.m3_model.specs.Kernel.State.{SavedActivity, EntryResidency, Is_placed, Is_leaving, Is_resting, Is_coming, ActivityEntry, Kernel}
use Rattle.m3_model.specs.LocalStep.{LocalResult, local_result, dropped_result, closed_out}
use Rattle.m3_model.specs.Config.KnownActivities.{is_named}
use Rattle.m3_model.specs.Kernel.Step as kernel
use Rattle.m3_model.specs.Kernel.Step.{Routed, ready_at, kernel_take, kernel_order, is_under_close}
use Rattle.m3_model.specs.Machine.{Machine, MachineResult, context_or_new, entry_at_opening, joined_ready, machine_step, opened_machine, tile_at, with_entries}
use Rattle.m3_refine.proofs.bounds.PartStep.{KeptByParts, step_keeps}
use Rattle.m3_base.specs.declared.setup_line.SetupLine.{SetupLine}
use Rattle.m3_base.specs.Ideal.Opening.{opening}
use Rattle.m3_base.specs.Ideal.State.{State, context_of}
use Rattle.m3_base.specs.Placement.State.{with_member}
use Rattle.m3_merge.proofs.MergedIsRun.{each_append}
use Rattle.m3_merge.proofs.StampBounds.{each_filter}
use Rattle.m3_model.specs.Config.FromSetup.{site_of}
use Rattle.m3_model.specs.Invariant.Distinct.{DistinctHomes}
use Rattle.m3_refine.proofs.abstraction.OpeningLines.{home_in}
use Rattle.m3_refine.proofs.opening.OpensRefines.{first_machine}
use Rattle.m3_refine.proofs.opening.PlaceAll.{home_front, home_there}
use Rattle.m3_model.specs.ReadyLists.{IsReadyAt, ReadyOk}

-- ---- one list among all

set_holds : (Q : List ℕ → Type 0) (xs : List (List ℕ)) (i j : ℕ) (ys : List ℕ) → Q (get_or xs j []) → (i ≡ j → Q ys) → Q (get_or (set xs i ys) j [])
set_holds Q [] i j ys have now = have
set_holds Q (x ∷ xs) zero zero ys have now = now refl
set_holds Q (x ∷ xs) zero (suc j) ys have now = have
set_holds Q (x ∷ xs) (suc i) zero ys have now = have
set_holds Q (x ∷ xs) (suc i) (suc j) ys have now = set_holds Q xs i j ys have (λ e. now (ap suc e))

module _ (h : Site) where
  abbrev Stays : Kernel → Type 0
  Stays k = ReadyOk h k

  either_stays : (b : Bool) (x y : LocalResult Kernel) → Stays x.part → Stays y.part → Stays (if b then x else y).part
  either_stays true x y p q = p
  either_stays false x y p q = q

  with_list : (k : Kernel) (t : ℕ) (xs : List ℕ) → Stays k → Each (IsReadyAt h t) xs → Stays (kernel.with_ready t xs k)
  with_list k t xs s e u = set_holds (Each (IsReadyAt h u)) k.ready t u xs (s u) (λ i. subst (λ v. Each (IsReadyAt h v) xs) i e)

  member_ok : (t a : ℕ) (xs : List ℕ) → IsReadyAt h t a → Each (IsReadyAt h t) xs → Each (IsReadyAt h t) (with_member a xs)
  member_ok t a xs k e = by_member (list_any (λ b. b == a) xs)
    where
      by_member : (b : Bool) → Each (IsReadyAt h t) (if b then xs else xs ++ a ∷ [])
      by_member true = e
      by_member false = each_append (IsReadyAt h t) xs (a ∷ []) e (k, tt)

  joins : (b : Bool) (t a : ℕ) (k : Kernel) → (b ≡ true → IsReadyAt h t a) → Stays k → Stays (kernel.join_ready b t a k)
  joins true t a k f s = with_list k t (with_member a (ready_at t k)) s (member_ok t a (ready_at t k) (f refl) (s t))
  joins false t a k f s = s

  wishes : (a : ℕ) (b : Bool) → (has_program h a && b) ≡ true → IsReadyAt h (tile_of h a) a
  wishes a b e = (refl, grind (arith, e))

  wishes_if : (ready : Bool) (a : ℕ) (b : Bool) → (ready && (has_program h a && b)) ≡ true → IsReadyAt h (tile_of h a) a
  wishes_if ready a b e = (refl, grind (arith, e))

  coming_stays : (said : Said) (t : ℕ) (k : Kernel) (out : List (ℕ × Parcel)) (x : ActivityEntry) (w : EntryResidency) → Stays k → Stays (kernel.with_restore_of h said t k out x w).part
  coming_stays said t k out x (Is_coming y) s = s
  coming_stays said t k out x Is_placed s = s
  coming_stays said t k out x Is_leaving s = s
  coming_stays said t k out x (Is_resting y) s = s

  maybe_stays : (said : Said) (t : ℕ) (k : Kernel) (out : List (ℕ × Parcel)) (o : Option ActivityEntry) → Stays k → Stays (kernel.with_restore h said t k out o).part
  maybe_stays said t k out None s = s
  maybe_stays said t k out (Some x) s = coming_stays said t k out x x.seating s

  then_stays : (said : Said) (t : ℕ) (k : Kernel) (out : List (ℕ × Parcel)) → Stays k → Stays (kernel.then_restore h said t k out).part
  then_stays said t k out s = maybe_stays said t k out (if list_any (kernel.is_leaving_at h t) k.seats then None else kernel.first_due h t k.seats) s

  abbrev RouteStays : Option Routed → Type 0
  RouteStays None = Unit {0}
  RouteStays (Some r) = Stays r.kernel

  route_seat : (p : Packet) (k : Kernel) (x : ActivityEntry) (b : Bool) → Stays k → RouteStays (Some (if b then record { held = false; kernel = k; out = (tile_of h x.act, Data p) ∷ [] } else record { held = true; kernel = kernel.with_held p x k; out = [] }))
  route_seat p k x true s = s
  route_seat p k x false s = s

  route_some : (p : Packet) (k : Kernel) (o : Option ActivityEntry) → Stays k → RouteStays (kernel.route_to h p k o)
  route_some p k None s = tt
  route_some p k (Some x) s = route_seat p k x (kernel.is_placed_entry x.seating) s

  routed_stays : (p : Packet) (k : Kernel) (o : Option Routed) → Stays k → RouteStays o → Stays (kernel.take_routed p k o).part
  routed_stays p k None s r = s
  routed_stays p k (Some x) s r = r

  saved_stays : (k : Kernel) (c : Context) (w e : Bool) (o : Option ActivityEntry) → Stays k → Stays (kernel.take_saved h k c w e o).part
  saved_stays k c w e None s = s
  saved_stays k c w e (Some x) s = by_leaving (kernel.is_leaving_entry x.seating)
    where
      by_leaving : (b : Bool) → Stays (
          if b
          then kernel.then_restore h (Said.Saved x.act) (tile_of h x.act) (kernel.join_ready (has_program h x.act && (not w && not e)) (tile_of h x.act) x.act (kernel.with_residency (kernel.residency_of_saved c e) x k)) []
          else dropped_result k
          ).part
      by_leaving true =
          then_stays (Said.Saved x.act) (tile_of h x.act) (kernel.join_ready (has_program h x.act && (not w && not e)) (tile_of h x.act) x.act (kernel.with_residency (kernel.residency_of_saved c e) x k)) []
          (joins (has_program h x.act && (not w && not e)) (tile_of h x.act) x.act (kernel.with_residency (kernel.residency_of_saved c e) x k) (wishes x.act (not w && not e)) s)
      by_leaving false = s

  closed_stays : (k : Kernel) (g : ℕ) (o : Option Grant) → Stays k → Stays (kernel.take_closed k g o).part
  closed_stays k g None s = s
  closed_stays k g (Some x) s = either_stays (is_under_close x) (kernel.done_grant g x k) (dropped_result k) s s

  yield_stays : (k : Kernel) (a : ℕ) (o : Option ActivityEntry) → Stays k → Stays (kernel.take_yield h k a o).part
  yield_stays k a None s = s
  yield_stays k a (Some x) s =
      either_stays (kernel.is_placed_entry x.seating || kernel.is_leaving_entry x.seating) (local_result (Said.Yielded a) (kernel.with_yielded (tile_of h a) true k) []) (dropped_result k) s s

  take_stays : (k : Kernel) (q : Parcel) → Stays k → Stays (kernel_take h k q).part
  take_stays k (Data p) s =
      either_stays (is_named h p) (kernel.take_routed p k (kernel.route h p k)) (dropped_result k)
      (routed_stays p k (kernel.route h p k) s (route_some p k (kernel.entry_for (target p) k) s)) s
  take_stays k (Saved a c w e) s =
      either_stays (c.act == a) (kernel.take_saved h k c w e (kernel.entry_of c.act k)) (dropped_result k) (saved_stays k c w e (kernel.entry_of c.act k) s) s
  take_stays k (Yield a) s = yield_stays k a (kernel.entry_of a k) s
  take_stays k (Closed g) s = closed_stays k g (grant_in k.grants g) s
  take_stays k (Save a) s = s
  take_stays k (Restore a c xs) s = s

  answer_stays : (k : Kernel) (o : Option Packet) → Stays k → RouteStays (kernel.answer_routed h k o)
  answer_stays k None s = s
  answer_stays k (Some p) s = route_some p k (kernel.entry_for (target p) k) s

  tended_stays : (t : ℕ) (said : Said) (freed : Option ℕ) (old : Kernel) (o : Option Routed) → Stays old → RouteStays o → Stays (kernel.after_tend h t said freed old o).part
  tended_stays t said freed old None s r = s
  tended_stays t said freed old (Some x) s r = then_stays said t x.kernel (x.out ++ closed_out freed) r

  arrived_stays : (old k : Kernel) (x : ActivityEntry) (o : Option Arrival) → Stays old → Stays k → Stays (kernel.tend_arrived h old k x o).part
  arrived_stays old k x None s n = s
  arrived_stays old k x (Some r) s n = tended_stays (tile_of h x.act) r.said r.freed old (kernel.answer_routed h k r.answer) s (answer_stays k r.answer n)

  front_stays : (k : Kernel) (x : ActivityEntry) (ps : List Packet) (y : SavedActivity) (sits : SavedActivity → EntryResidency) (ready : Bool) → Stays k → Stays (kernel.tend_front h k x ps y sits ready).part
  front_stays k x [] y sits ready s = s
  front_stays k x (p ∷ ps) y sits ready s =
      let z : ActivityEntry = record x { seating = sits (kernel.after_packet p (kernel.arrived_context y.context (arrive_fit y.context p)) y); hold = ps } in
      arrived_stays k (kernel.join_ready (ready && (has_program h x.act && not y.ended)) (tile_of h x.act) x.act (kernel.with_entry z k)) x (arrive_fit y.context p) s
      (joins (ready && (has_program h x.act && not y.ended)) (tile_of h x.act) x.act (kernel.with_entry z k) (wishes_if ready x.act (not y.ended)) s)

  seat_stays : (k : Kernel) (x : ActivityEntry) (w : EntryResidency) → Stays k → Stays (kernel.tend_entry h k x w).part
  seat_stays k x Is_placed s = s
  seat_stays k x Is_leaving s = s
  seat_stays k x (Is_resting y) s = front_stays k x x.hold y Is_resting true s
  seat_stays k x (Is_coming y) s = front_stays k x x.hold y Is_coming false s

  tend_stays : (k : Kernel) (o : Option ActivityEntry) → Stays k → Stays (kernel.tend_by h k o).part
  tend_stays k None s = s
  tend_stays k (Some x) s = seat_stays k x x.seating s

  leave_stays : (t a : ℕ) (k : Kernel) → Stays k → Stays (kernel.leave_ready t a k)
  leave_stays t a k s = with_list k t (filter (λ b. not (b == a)) (ready_at t k)) s (each_filter (IsReadyAt h t) (λ b. not (b == a)) (ready_at t k) (s t))

  switched_stays : (k : Kernel) (t : ℕ) (x : ActivityEntry) (y : SavedActivity) (o : Option ActivityEntry) → Stays k → Stays (kernel.after_switch h k t x y o).part
  switched_stays k t x y None s = s
  switched_stays k t x y (Some b) s = leave_stays t x.act (kernel.with_residency (Is_coming y) x (kernel.with_residency Is_leaving b k)) s

  switch_seat_stays : (k : Kernel) (t : ℕ) (x : ActivityEntry) (w : EntryResidency) → Stays k → Stays (kernel.switch_entry h k t x w).part
  switch_seat_stays k t x Is_placed s = s
  switch_seat_stays k t x (Is_coming y) s = s
  switch_seat_stays k t x Is_leaving s = s
  switch_seat_stays k t x (Is_resting y) s =
      either_stays (list_any (kernel.is_moving_at h t) k.seats) (local_result (Said.No No.Leaving) k []) (kernel.after_switch h k t x y (kernel.placed_at h t k.seats)) s
      (switched_stays k t x y (kernel.placed_at h t k.seats) s)

  switch_stays : (k : Kernel) (t : ℕ) (o : Option ActivityEntry) → Stays k → Stays (kernel.switch h k t o).part
  switch_stays k t None s = s
  switch_stays k t (Some x) s =
      either_stays (tile_of h x.act == t) (kernel.switch_entry h k t x x.seating) (local_result (Said.No No.NotHome) k []) (switch_seat_stays k t x x.seating s) s

  -- ---- the kernel's own packets, and orders

  own_stays : (old : Kernel) (said : Bool → Said) (o : Option Routed) → Stays old → RouteStays o → Stays (kernel.own_packet_out old said o).part
  own_stays old said None s r = s
  own_stays old said (Some x) s r = r

  made_stays : (k : Kernel) (line : GrantLine) (why : Option No) (f : Option Fresh) → Stays k → Stays (kernel.make_with h k line why f).part
  made_stays k line (Some why) f s = s
  made_stays k line None None s = s
  made_stays k line None (Some f) s =
      let k1 : Kernel = record k { next = k.next + 1; grants = k.grants ++ new_grant line f ∷ [] } in
      let p : Packet = Packet.Install (kernel.kernel_id k) (holder line) (holder_ep line) f in
      own_stays k (λ held. Said.Granted (length k.grants + 1) (kernel.kernel_id k) held) (kernel.route h p k1) s (route_some p k1 (kernel.entry_for (target p) k1) s)

  revoked_stays : (k : Kernel) (g : ℕ) (why : Option No) → Stays k → Stays (kernel.revoke_with k g why).part
  revoked_stays k g (Some why) s = s
  revoked_stays k g None s = s

  due_stays : (k : Kernel) (g : ℕ) (o : Option Grant) → Stays k → Stays (kernel.close_of h k g o).part
  due_stays k g None s = s
  due_stays k g (Some x) s =
      let k1 : Kernel = record k { next = k.next + 1; grants = change_grant k.grants g (λ y. record y { close_sent = true }) } in
      let p : Packet = Packet.Close (kernel.kernel_id k) (holder x.line) (holder_ep x.line) g in
      own_stays k (λ held. Said.CloseSent g (kernel.kernel_id k) held) (kernel.route h p k1) s (route_some p k1 (kernel.entry_for (target p) k1) s)

  close_stays : (k : Kernel) (o : Option ℕ) → Stays k → Stays (kernel.close_least h k o).part
  close_stays k None s = s
  close_stays k (Some g) s = due_stays k g (grant_in k.grants g) s

  order_stays : (k : Kernel) (o : Order) → Stays k → Stays (kernel_order h k o).part
  order_stays k (Order.Switch t a) s = switch_stays k t (kernel.entry_of a k) s
  order_stays k (Order.Grant line) s =
      made_stays k line (make_refusal h.memory k.grants line) (form (length k.grants + 1) line (undone (parent_in k.grants (parent_of line)))) s
  order_stays k (Order.Revoke g) s = revoked_stays k g (revoke_refusal (grant_in k.grants g)) s

  parts_stay : KeptByParts h Stays Stays (λ x. Unit {0})
  parts_stay = record {
    idle = λ k s. s;
    take = take_stays;
    tend = λ k a s. tend_stays k (kernel.entry_of a k) s;
    close = λ k s. close_stays k (least_closing k.grants 1 k.grants) s;
    order = order_stays;
    memory = λ x q l. tt;
  }

-- each step keeps it
pub ready_kept : (h : Site) (m : Machine) (e : Event) (made : Option Made) (d : MachineResult) → ReadyOk h m.kernel → machine_step h m e made ≡ Some d → ReadyOk h d.machine.kernel
ready_kept h m e made d ready step = (step_keeps h (ReadyOk h) (ReadyOk h) (λ x. Unit {0}) (parts_stay h) m e made ready tt d step).0

-- ---- at the opening

-- a home is found by its activity
homes_found : (gs xs : List Home) → DistinctHomes (gs ++ xs) → Each (λ x. home_in x.act (gs ++ xs) ≡ Some x) xs
homes_found gs [] e = tt
homes_found gs (x ∷ xs) e =
    let same = append_assoc gs (x ∷ []) xs in (
      home_there gs x xs (home_front gs x xs e),
      subst (λ (l : List Home). Each (λ y. home_in y.act l ≡ Some y) xs) same (homes_found (gs ++ x ∷ []) xs (subst DistinctHomes (sym same) e)),
    )

none_ready : (P : ℕ → Type 0) (n t : ℕ) → Each P (get_or (replicate n []) t [])
none_ready P zero t = tt
none_ready P (suc n) zero = tt
none_ready P (suc n) (suc t) = none_ready P n t

module _ (h : Site) where
  joined_ok : (b : Bool) (x : Home) (ready : List (List ℕ)) → home_of x.act h ≡ Some x → ((t : ℕ) → Each (IsReadyAt h t) (get_or ready t [])) → (t : ℕ) → Each (IsReadyAt h t) (get_or (joined_ready (b && x.has_program) x.tile x.act ready) t [])
  joined_ok b x ready there s t = by_join (b && x.has_program) (λ e. (ap tile_in there, ap home_has_program there ∙ (let k : x.has_program ≡ true = grind (arith, e) in k)))
    where
      by_join : (j : Bool) → (j ≡ true → IsReadyAt h x.tile x.act) → Each (IsReadyAt h t) (get_or (joined_ready j x.tile x.act ready) t [])
      by_join true k =
          let longer = get_or ready x.tile [] ++ x.act ∷ [] in
          let all : Each (IsReadyAt h x.tile) longer = each_append (IsReadyAt h x.tile) (get_or ready x.tile []) (x.act ∷ []) (s x.tile) (k refl, tt) in
          set_holds (Each (IsReadyAt h t)) ready x.tile t longer (s t) (λ i. subst (λ v. Each (IsReadyAt h v) longer) i all)
      by_join false k = s t

  entries_ready : (s : State) (xs : List Home) (m : Machine) → Each (λ x. home_of x.act h ≡ Some x) xs → ReadyOk h m.kernel → ReadyOk h (with_entries s m xs).kernel
  entries_ready s [] m e k = k
  entries_ready s (x ∷ xs) m e k =
      let t = tile_at x.tile m in
      let one = entry_at_opening x (context_or_new x.act (context_of x.act s.contexts)) t m in
      entries_ready s xs one e.1 (joined_ok (is_some t.current) x m.kernel.ready e.0 k)

pub ready_at_opening : (memory : ℕ) (programs : List ℕ) (lines : List SetupLine) → DistinctHomes (site_of memory programs lines).homes → ReadyOk (site_of memory programs lines) (opened_machine memory programs lines).kernel
ready_at_opening memory programs lines apart =
    let h = site_of memory programs lines in
    let s = opening memory lines in
    entries_ready h s h.homes (first_machine s) (homes_found [] h.homes apart) (λ t. none_ready (IsReadyAt h t) 16 t)
