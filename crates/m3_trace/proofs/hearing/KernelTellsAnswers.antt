-- The kernel's takes, tends, closes and orders over what an activity is still to hear.
use Rattle.std.proofs.Common.{◌≡◌, ℕ, ◌+◌, Bool, true, false, List, [], ◌∷◌, ◌++◌, length, Option, Some, None, refl, sym, subst, ◌∙◌, ap, arith, append-nil}
use Rattle.std.specs.Prelude.{◌==◌, ◌&&◌, ◌||◌, not, if◌then◌else◌}
use Rattle.std.specs.List.{list_any}
use Rattle.std.proofs.lemmas.Bool.Decides.{nat_tests}
use Rattle.std.proofs.lemmas.Option.{same_Some}
use Rattle.m3_base.specs.declared.event.No.{No}
use Rattle.m3_base.specs.declared.event.Said.{Said}
use Rattle.m3_base.specs.declared.ids.FlightId.{FlightId}
use Rattle.m3_base.specs.declared.order.GrantLine.{GrantLine}
use Rattle.m3_base.specs.declared.order.Order.{Order}
use Rattle.m3_base.specs.declared.packet.Fresh.{Fresh}
use Rattle.m3_base.specs.declared.packet.Packet.{Packet}
use Rattle.m3_base.specs.Ideal.Acceptance.{arrive_fit}
use Rattle.m3_base.specs.Ideal.Arrival.{Arrival}
use Rattle.m3_base.specs.Ideal.Context.{Context}
use Rattle.m3_base.specs.Ideal.Flights.{name_of}
use Rattle.m3_base.specs.Ideal.GrantRules.{change_grant, form, make_refusal, new_grant, revoke_refusal}
use Rattle.m3_base.specs.Ideal.State.{Grant, grant_in, holder, holder_ep, parent_in, parent_of, undone}
use Rattle.m3_base.specs.Lists.EachElement.{Each}
use Rattle.m3_base.specs.Placement.Order.{least_closing}
use Rattle.m3_base.specs.Placement.Routing.{target}
use Rattle.m3_model.specs.Config.KnownActivities.{is_named}
use Rattle.m3_model.specs.Config.Site.{Site, has_program, tile_of}
use Rattle.m3_model.specs.Invariant.Distinct.{DistinctHomes}
use Rattle.m3_model.specs.Invariant.Scheduling.{HoldOk}
use Rattle.m3_model.specs.Kernel.State.{ActivityEntry, EntryResidency, Is_coming, Is_leaving, Is_placed, Is_resting, Kernel, SavedActivity}
use Rattle.m3_model.specs.Kernel.Step.{Routed, after_packet, after_switch, after_tend, answer_routed, arrived_context, close_least, close_of, entry_for, entry_of, is_leaving_entry, is_moving_at, is_placed_entry, is_under_close, done_grant, join_ready, kernel_close, kernel_id, kernel_order, kernel_take, kernel_tend, make_with, own_packet_out, placed_at, residency_of_saved, revoke_with, route, route_to, routing_outcome, switch, switch_entry, take_closed, take_routed, take_saved, take_yield, target_or, tend_arrived, tend_away, tend_by, tend_entry, tend_front, then_restore, with_entry, with_held, with_residency, with_yielded}
use Rattle.m3_model.specs.LocalStep.{LocalResult, closed_out, dropped_result, heard_in_answer, local_result}
use Rattle.m3_model.specs.Parcel.{Closed, Data, Heard, Parcel, Restore, Save, Saved, Yield}
use Rattle.m3_refine.proofs.abstraction.EntriesMatchActors.{are_seats}
use Rattle.m3_refine.proofs.abstraction.ReplaceEntry.{seat_key, seat_then}
use Rattle.m3_refine.proofs.lists.EachElement.{InSome}
use Rattle.m3_trace.specs.Hearing.{residency_heard}
use Rattle.m3_trace.proofs.hearing.OutcomesTell.{arrival_says, heard_packet, heard_said, heard_target}
use Rattle.m3_trace.proofs.hearing.KernelKeepsAnswers.{IsEntryOf, KeepsHeard, KeepsQuiet, KernelOwn, OwnContext, StandsPlaced, TellsHeard, comes_then, either, heard_at, heard_sent, heard_still, heard_then, own_then, placed_there, sent_both}

module _ (h : Site) (apart : DistinctHomes h.homes) (a : ℕ) where
  abbrev Sent : List (ℕ × Parcel) → List Heard
  Sent out = heard_sent h apart a out

  abbrev At : Kernel → List Heard
  At k = heard_at h apart a k

  abbrev Keeps : Kernel → LocalResult Kernel → Type 0
  Keeps k d = KeepsHeard h apart a k d

  abbrev Quiet : Kernel → LocalResult Kernel → Type 0
  Quiet k d = KeepsQuiet h apart a k d

  abbrev Tells : Kernel → LocalResult Kernel → Type 0
  Tells k d = TellsHeard h apart a k d

  stands : (b : ℕ) (k : Kernel) (o : Option ActivityEntry) → entry_of b k ≡ o → IsEntryOf k o
  stands b k None e = tt
  stands b k (Some x) e = ap (λ n. entry_of n k) (seat_key b k.seats x e) ∙ e

  stands_for : (k : Kernel) (o : Option ℕ) → IsEntryOf k (entry_for o k)
  stands_for k None = tt
  stands_for k (Some b) = stands b k (entry_of b k) refl

  -- ready lists are no entries
  joined : (b : Bool) (t c : ℕ) (k : Kernel) → KernelOwn h k → KernelOwn h (join_ready b t c k)
  joined true t c k o = record { order = o.order; own = o.own }
  joined false t c k o = o

  joined_at : (b : Bool) (t c : ℕ) (k : Kernel) → At (join_ready b t c k) ≡ At k
  joined_at true t c k = refl
  joined_at false t c k = refl

  -- ---- routing

  pub record RouteKeeps (k : Kernel) (r : Routed) : Type 0 where
    pub own : KernelOwn h r.kernel
    pub heard : Sent r.out ++ At r.kernel ≡ At k

  route_to_keeps : (p : Packet) (k : Kernel) → KernelOwn h k → (o : Option ActivityEntry) → IsEntryOf k o → InSome (RouteKeeps k) (route_to h p k o)
  route_to_keeps p k o None s = tt
  route_to_keeps p k o (Some x) s = by_place (is_placed_entry x.seating)
    where
      by_place : (b : Bool) → RouteKeeps k (if b then record { held = false; kernel = k; out = (tile_of h x.act, Data p) ∷ [] } else record { held = true; kernel = with_held p x k; out = [] })
      by_place true = record { own = o; heard = refl }
      by_place false = record {
        own = own_then h apart a k o x (record x { hold = x.hold ++ p ∷ [] }) s refl (o.own x s);
        heard = heard_still h apart a k o x (record x { hold = x.hold ++ p ∷ [] }) s refl refl;
      }

  route_keeps : (p : Packet) (k : Kernel) → KernelOwn h k → InSome (RouteKeeps k) (route h p k)
  route_keeps p k o = route_to_keeps p k o (entry_for (target p) k) (stands_for k (target p))

  -- ---- a take

  said_quiet : (id : FlightId) (n : ℕ) (b : Bool) → heard_said a (routing_outcome id n b) ≡ []
  said_quiet id n true = refl
  said_quiet id n false = refl

  routed_quiet : (p : Packet) (k : Kernel) (o : Option Routed) → InSome (RouteKeeps k) o → Quiet k (take_routed p k o)
  routed_quiet p k None r = (refl, refl)
  routed_quiet p k (Some d) r = (r.heard, said_quiet (name_of p) (target_or (target p)) d.held)

  leaving_none : (w : EntryResidency) → is_leaving_entry w ≡ true → residency_heard w ≡ []
  leaving_none Is_placed e = refl
  leaving_none Is_leaving e = refl
  leaving_none (Is_resting y) e = absurd (cc)
  leaving_none (Is_coming y) e = absurd (cc)

  module _ (k : Kernel) (c : Context) (w e : Bool) (own : KernelOwn h k) (x : ActivityEntry) (f : entry_of c.act k ≡ Some x) where
    rests_there : entry_of x.act k ≡ Some x
    rests_there = ap (λ n. entry_of n k) (seat_key c.act k.seats x f) ∙ f

    abbrev rested : ActivityEntry
    rested = record x { seating = residency_of_saved c e }

    abbrev rests : Kernel
    rests = with_residency (residency_of_saved c e) x k

    abbrev wishes : Bool
    wishes = has_program h x.act && (not w && not e)

    abbrev after : Kernel
    after = join_ready (has_program h x.act && (not w && not e)) (tile_of h x.act) x.act (with_residency (residency_of_saved c e) x k)

    after_own : KernelOwn h after
    after_own = joined wishes (tile_of h x.act) x.act rests (own_then h apart a k own x rested rests_there refl (sym (seat_key c.act k.seats x f)))

    leaving_quiet : is_leaving_entry x.seating ≡ true → Quiet k (then_restore h (Said.Saved x.act) (tile_of h x.act) after [])
    leaving_quiet l =
        let done = comes_then h apart a (Said.Saved x.act) (tile_of h x.act) after after_own [] in (
          done.0 ∙ joined_at wishes (tile_of h x.act) x.act rests ∙ heard_still h apart a k own x rested rests_there refl (sym (leaving_none x.seating l)),
          ap (heard_said a) done.1,
        )

  saved_quiet : (k : Kernel) (c : Context) (w e : Bool) → KernelOwn h k → (o : Option ActivityEntry) → entry_of c.act k ≡ o → Quiet k (take_saved h k c w e o)
  saved_quiet k c w e own None f = (refl, refl)
  saved_quiet k c w e own (Some x) f =
      either h apart a (Quiet k) (is_leaving_entry x.seating) (then_restore h (Said.Saved x.act) (tile_of h x.act) (after k c w e own x f) []) (dropped_result k)
      (leaving_quiet k c w e own x f) (λ l. (refl, refl))

  closed_quiet : (k : Kernel) (g : ℕ) (o : Option Grant) → Quiet k (take_closed k g o)
  closed_quiet k g None = (refl, refl)
  closed_quiet k g (Some x) = either h apart a (Quiet k) (is_under_close x) (done_grant g x k) (dropped_result k) (λ e. (refl, refl)) (λ e. (refl, refl))

  yield_quiet : (k : Kernel) (b : ℕ) (o : Option ActivityEntry) → Quiet k (take_yield h k b o)
  yield_quiet k b None = (refl, refl)
  yield_quiet k b (Some x) =
      either h apart a (Quiet k) (is_placed_entry x.seating || is_leaving_entry x.seating) (local_result (Said.Yielded b) (with_yielded (tile_of h b) true k) []) (dropped_result k) (λ e. (refl, refl)) (λ e. (refl, refl))

  -- a take leaves what is to be heard, and tells nothing
  pub take_quiet : (k : Kernel) (q : Parcel) → KernelOwn h k → Quiet k (kernel_take h k q)
  take_quiet k (Data p) o = either h apart a (Quiet k) (is_named h p) (take_routed p k (route h p k)) (dropped_result k) (λ e. routed_quiet p k (route h p k) (route_keeps p k o)) (λ e. (refl, refl))
  take_quiet k (Saved b c w e) o =
      either h apart a (Quiet k) (c.act == b) (take_saved h k c w e (entry_of c.act k)) (dropped_result k) (λ i. saved_quiet k c w e o (entry_of c.act k) refl) (λ i. (refl, refl))
  take_quiet k (Yield b) o = yield_quiet k b (entry_of b k)
  take_quiet k (Closed g) o = closed_quiet k g (grant_in k.grants g)
  take_quiet k (Save b) o = (refl, refl)
  take_quiet k (Restore b c xs) o = (refl, refl)

  -- ---- a tend

  answered_keeps : (k : Kernel) (o : Option Packet) → KernelOwn h k → InSome (RouteKeeps k) (answer_routed h k o)
  answered_keeps k None own = record { own = own; heard = refl }
  answered_keeps k (Some p) own = route_keeps p k own

  closed_none : (o : Option ℕ) → Sent (closed_out o) ≡ []
  closed_none None = refl
  closed_none (Some g) = refl

  nothing_tells : (k : Kernel) → At k ≡ At k ++ []
  nothing_tells k = sym (append-nil (At k))

  -- k: once the packet was applied; old: before
  tended_tells : (t : ℕ) (said : Said) (freed : Option ℕ) (old k : Kernel) (o : Option Routed) → At k ≡ At old ++ heard_said a said → InSome (RouteKeeps k) o → Tells old (after_tend h t said freed old o)
  tended_tells t said freed old k None e r = nothing_tells old
  tended_tells t said freed old k (Some d) e r =
      let out = d.out ++ closed_out freed in
      let done = comes_then h apart a said t d.kernel r.own out in
      done.0
      ∙ ap (λ l. l ++ At d.kernel) (sent_both h apart a d.out (closed_out freed) ∙ ap (λ l. Sent d.out ++ l) (closed_none freed) ∙ append-nil (Sent d.out))
      ∙ r.heard ∙ e ∙ ap (λ s. At old ++ heard_said a s) (sym done.1)

  arrived_tells : (old k : Kernel) (x : ActivityEntry) (o : Option Arrival) → InSome (λ r. At k ≡ At old ++ heard_said a r.said) o → KernelOwn h k → Tells old (tend_arrived h old k x o)
  arrived_tells old k x None e own = nothing_tells old
  arrived_tells old k x (Some r) e own = tended_tells (tile_of h x.act) r.said r.freed old k (answer_routed h k r.answer) e (answered_keeps k r.answer own)

  -- of an activity that is away: its entry is y, or would be with what it hears now
  module _ (k : Kernel) (own : KernelOwn h k) (x : ActivityEntry) (there : entry_of x.act k ≡ Some x) (p : Packet) (ps : List Packet) (goes : target p ≡ Some x.act) (y : SavedActivity)
      (sits : SavedActivity → EntryResidency) (whose : (z : SavedActivity) → z.context.act ≡ x.act → OwnContext x.act (sits z)) (hears : (z : SavedActivity) → residency_heard (sits z) ≡ z.heard)
      (is : x.seating ≡ sits y) (act : y.context.act ≡ x.act) (ready : Bool) where
    abbrev r : Option Arrival
    r = arrive_fit y.context p

    abbrev now : SavedActivity
    now = after_packet p (arrived_context y.context (arrive_fit y.context p)) y

    abbrev b : Bool
    b = ready && (has_program h x.act && not y.ended)

    abbrev sat : Kernel
    sat = with_entry (record x { seating = sits (after_packet p (arrived_context y.context (arrive_fit y.context p)) y); hold = ps }) k

    context_same : (o : Option Arrival) → arrive_fit y.context p ≡ o → (arrived_context y.context o).act ≡ x.act
    context_same None e = act
    context_same (Some r) e = (arrival_says a y.context p r e).1 ∙ act

    owns : KernelOwn h sat
    owns = own_then h apart a k own x (record x { seating = sits now; hold = ps }) there refl (whose now (context_same (arrive_fit y.context p) refl))

    sat_at : At sat ≡ At k ++ heard_packet a p
    sat_at =
        heard_then h apart a k own x (record x { seating = sits now; hold = ps }) there refl (heard_packet a p)
        (λ e. hears now ∙ ap (λ l. y.heard ++ l) (its e) ∙ ap (λ l. l ++ heard_packet a p) (sym (hears y)) ∙ ap (λ w. residency_heard w ++ heard_packet a p) (sym is))
        (λ d. heard_target a x.act p goes ∙ ap (λ c. if c then heard_in_answer p else []) (let z : (x.act == a) ≡ false = grind (arith, nat_tests, d) in z))
      where
        its : a ≡ x.act → heard_in_answer p ≡ heard_packet a p
        its e = sym (heard_target a x.act p goes ∙ ap (λ c. if c then heard_in_answer p else []) (let z : (x.act == a) ≡ true = grind (arith, nat_tests, e) in z))

    says : (o : Option Arrival) → arrive_fit y.context p ≡ o → InSome (λ r. At (join_ready b (tile_of h x.act) x.act sat) ≡ At k ++ heard_said a r.said) o
    says None e = tt
    says (Some r) e = joined_at b (tile_of h x.act) x.act sat ∙ sat_at ∙ ap (λ l. At k ++ l) (sym (arrival_says a y.context p r e).0)

    away_tells : Tells k (tend_away h k x p ps y sits ready)
    away_tells = arrived_tells k (join_ready b (tile_of h x.act) x.act sat) x (arrive_fit y.context p) (says (arrive_fit y.context p) refl) (joined b (tile_of h x.act) x.act sat owns)

  module _ (k : Kernel) (own : KernelOwn h k) (x : ActivityEntry) (there : entry_of x.act k ≡ Some x) where
    resting_tells : (y : SavedActivity) → x.seating ≡ Is_resting y → (qs : List Packet) → Each (HoldOk h x.act) qs → Tells k (tend_front h k x qs y Is_resting true)
    resting_tells y e [] l = nothing_tells k
    resting_tells y e (p ∷ ps) l = away_tells k own x there p ps l.0.1 y Is_resting (λ z i. i) (λ z. refl) e (subst (OwnContext x.act) e (own.own x there)) true

    coming_tells : (y : SavedActivity) → x.seating ≡ Is_coming y → (qs : List Packet) → Each (HoldOk h x.act) qs → Tells k (tend_front h k x qs y Is_coming false)
    coming_tells y e [] l = nothing_tells k
    coming_tells y e (p ∷ ps) l = away_tells k own x there p ps l.0.1 y Is_coming (λ z i. i) (λ z. refl) e (subst (OwnContext x.act) e (own.own x there)) false

    entry_tells : (w : EntryResidency) → x.seating ≡ w → Each (HoldOk h x.act) x.hold → Tells k (tend_entry h k x w)
    entry_tells Is_placed e l = nothing_tells k
    entry_tells Is_leaving e l = nothing_tells k
    entry_tells (Is_resting y) e l = resting_tells y e x.hold l
    entry_tells (Is_coming y) e l = coming_tells y e x.hold l

  by_tells : (k : Kernel) → KernelOwn h k → (o : Option ActivityEntry) → IsEntryOf k o → InSome (λ x. Each (HoldOk h x.act) x.hold) o → Tells k (tend_by h k o)
  by_tells k own None s l = nothing_tells k
  by_tells k own (Some x) s l = entry_tells k own x s x.seating refl l

  -- a tend adds what it tells
  pub tend_tells : (k : Kernel) (b : ℕ) → KernelOwn h k → ((x : ActivityEntry) → entry_of x.act k ≡ Some x → Each (HoldOk h x.act) x.hold) → Tells k (kernel_tend h k b)
  tend_tells k b own holds = by_tells k own (entry_of b k) (stands b k (entry_of b k) refl) (hold_of (entry_of b k) (stands b k (entry_of b k) refl))
    where
      hold_of : (o : Option ActivityEntry) → IsEntryOf k o → InSome (λ x. Each (HoldOk h x.act) x.hold) o
      hold_of None s = tt
      hold_of (Some x) s = holds x s

  -- ---- the kernel's own packets

  own_keeps : (old k : Kernel) (said : Bool → Said) (o : Option Routed) → At k ≡ At old → InSome (RouteKeeps k) o → Keeps old (own_packet_out old said o)
  own_keeps old k said None e r = refl
  own_keeps old k said (Some d) e r = r.heard ∙ e

  due_keeps : (k : Kernel) (g : ℕ) → KernelOwn h k → (o : Option Grant) → Keeps k (close_of h k g o)
  due_keeps k g own None = refl
  due_keeps k g own (Some x) =
      let k1 : Kernel = record k { next = k.next + 1; grants = change_grant k.grants g (λ y. record y { close_sent = true }) } in
      let p : Packet = Packet.Close (kernel_id k) (holder x.line) (holder_ep x.line) g in
      own_keeps k k1 (λ held. Said.CloseSent g (kernel_id k) held) (route h p k1) refl (route_keeps p k1 (record { order = own.order; own = own.own }))

  close_keeps : (k : Kernel) → KernelOwn h k → (o : Option ℕ) → Keeps k (close_least h k o)
  close_keeps k own None = refl
  close_keeps k own (Some g) = due_keeps k g own (grant_in k.grants g)

  -- a close leaves what is to be heard
  pub kernel_close_keeps : (k : Kernel) → KernelOwn h k → Keeps k (kernel_close h k)
  kernel_close_keeps k own = close_keeps k own (least_closing k.grants 1 k.grants)

  made_keeps : (k : Kernel) (line : GrantLine) → KernelOwn h k → (why : Option No) (f : Option Fresh) → Keeps k (make_with h k line why f)
  made_keeps k line own (Some why) f = refl
  made_keeps k line own None None = refl
  made_keeps k line own None (Some f) =
      let k1 : Kernel = record k { next = k.next + 1; grants = k.grants ++ new_grant line f ∷ [] } in
      let p : Packet = Packet.Install (kernel_id k) (holder line) (holder_ep line) f in
      own_keeps k k1 (λ held. Said.Granted (length k.grants + 1) (kernel_id k) held) (route h p k1) refl (route_keeps p k1 (record { order = own.order; own = own.own }))

  revoked_keeps : (k : Kernel) (g : ℕ) (o : Option No) → Keeps k (revoke_with k g o)
  revoked_keeps k g (Some why) = refl
  revoked_keeps k g None = refl

  -- ---- a switch

  placed_none : (w : EntryResidency) → is_placed_entry w ≡ true → residency_heard w ≡ []
  placed_none Is_placed e = refl
  placed_none Is_leaving e = refl
  placed_none (Is_resting y) e = absurd (cc)
  placed_none (Is_coming y) e = absurd (cc)

  -- who is Placed leaves, and the one that rests comes
  module _ (k : Kernel) (own : KernelOwn h k) (x : ActivityEntry) (y : SavedActivity) (there : entry_of x.act k ≡ Some x) (e : x.seating ≡ Is_resting y)
      (b : ActivityEntry) (here : entry_of b.act k ≡ Some b) (placed : is_placed_entry b.seating ≡ true) where
    abbrev leaves : ActivityEntry
    leaves = record b { seating = Is_leaving }

    abbrev comes : ActivityEntry
    comes = record x { seating = Is_coming y }

    abbrev left : Kernel
    left = with_residency Is_leaving b k

    left_own : KernelOwn h left
    left_own = own_then h apart a k own b leaves here refl tt

    not_both : x.act ≡ b.act → ⊥
    not_both i =
        let same : x ≡ b = same_Some x b (sym there ∙ ap (λ n. entry_of n k) i ∙ here) in
        let rests : is_placed_entry x.seating ≡ false = ap is_placed_entry e in
        let both : is_placed_entry x.seating ≡ true = ap (λ (z : ActivityEntry). is_placed_entry z.seating) same ∙ placed in
        absurd (cc)

    still : entry_of x.act left ≡ Some x
    still = seat_then k.seats b leaves here refl (λ n r. n ≡ x.act → r ≡ Some x) x.act (λ d i. there) (λ i j. absurd (not_both i)) refl

    swap_keeps : At (with_residency (Is_coming y) x left) ≡ At k
    swap_keeps = heard_still h apart a left left_own x comes still refl (ap residency_heard (sym e)) ∙ heard_still h apart a k own b leaves here refl (sym (placed_none b.seating placed))

  switched_keeps : (k : Kernel) (t : ℕ) (own : KernelOwn h k) (x : ActivityEntry) (y : SavedActivity) → entry_of x.act k ≡ Some x → x.seating ≡ Is_resting y → (o : Option ActivityEntry) → StandsPlaced h apart k o → Keeps k (after_switch h k t x y o)
  switched_keeps k t own x y there e None s = refl
  switched_keeps k t own x y there e (Some b) s = swap_keeps k own x y there e b s.0 s.1

  switch_entry_keeps : (k : Kernel) (t : ℕ) (own : KernelOwn h k) (x : ActivityEntry) (w : EntryResidency) → entry_of x.act k ≡ Some x → x.seating ≡ w → Keeps k (switch_entry h k t x w)
  switch_entry_keeps k t own x Is_placed there e = refl
  switch_entry_keeps k t own x (Is_coming y) there e = refl
  switch_entry_keeps k t own x Is_leaving there e = refl
  switch_entry_keeps k t own x (Is_resting y) there e =
      either h apart a (Keeps k) (list_any (is_moving_at h t) k.seats) (local_result (Said.No No.Leaving) k []) (after_switch h k t x y (placed_at h t k.seats)) (λ i. refl)
      (λ i. switched_keeps k t own x y there e (placed_at h t k.seats) (placed_there h apart t k k.seats h.homes (are_seats h k own.order apart)))

  switch_keeps : (k : Kernel) (t : ℕ) → KernelOwn h k → (o : Option ActivityEntry) → IsEntryOf k o → Keeps k (switch h k t o)
  switch_keeps k t own None s = refl
  switch_keeps k t own (Some x) s =
      either h apart a (Keeps k) (tile_of h x.act == t) (switch_entry h k t x x.seating) (local_result (Said.No No.NotHome) k []) (λ i. switch_entry_keeps k t own x x.seating s refl) (λ i. refl)

  -- and so does an order
  pub order_keeps : (k : Kernel) (o : Order) → KernelOwn h k → Keeps k (kernel_order h k o)
  order_keeps k (Order.Switch t b) own = switch_keeps k t own (entry_of b k) (stands b k (entry_of b k) refl)
  order_keeps k (Order.Grant line) own = made_keeps k line own (make_refusal h.memory k.grants line) (form (length k.grants + 1) line (undone (parent_in k.grants (parent_of line))))
  order_keeps k (Order.Revoke g) own = revoked_keeps k g (revoke_refusal (grant_in k.grants g))
