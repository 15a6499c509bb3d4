-- Every step keeps the ready lists and the Yields in order.
use Rattle.std.proofs.Common.{◌≡◌, ℕ, ◌+◌, ◌*◌, Bool, true, false, List, [], ◌∷◌, ◌++◌, Some, None, refl, sym, subst, ◌∙◌, arith}
use Rattle.std.specs.Prelude.{Option, if◌then◌else◌, ◌==◌, not, ◌&&◌, ◌||◌, is_some}
use Rattle.std.specs.List.{list_any}
use Rattle.std.proofs.lemmas.Bool.Decides.{nat_tests}
use Rattle.m3_base.specs.declared.ids.FlightId.{FlightId}
use Rattle.m3_base.specs.declared.packet.Packet.{Packet}
use Rattle.m3_base.specs.declared.command.Command.{Command}
use Rattle.m3_base.specs.declared.order.Order.{Order}
use Rattle.m3_base.specs.declared.event.Event.{Event}
use Rattle.m3_base.specs.declared.event.Made.{Made}
use Rattle.m3_base.specs.declared.event.Said.{Said}
use Rattle.m3_base.specs.declared.event.No.{No}
use Rattle.m3_base.specs.declared.event.IdleWhy.{IdleWhy}
use Rattle.m3_base.specs.declared.step.Step.{Step}
use Rattle.m3_base.specs.Ideal.Flights.{flight}
use Rattle.m3_base.specs.Ideal.State.{State, context_of}
use Rattle.m3_base.specs.Ideal.Step.{RunResult, ideal_run}
use Rattle.m3_base.specs.Journal.Entry.{ran_to}
use Rattle.m3_base.specs.Ideal.GrantRules.{kernel_id}
use Rattle.m3_base.specs.Placement.State.{Placement, PlacedActivity, LinkToken, Data, Save, Saved, Restore, Yield, Closed, Leaving, Resting, Coming, actor, link, with_link, with_token, with_actor, with_current, with_yielded, at_place, current_of, is_current, home, home_in, join_ready, leave_ready, is_placed, is_leaving, is_resting, is_coming}
use Rattle.m3_base.specs.Placement.Landing.{LandingResult, push_answer, push_closed, landing_result, step_outcome, idle_outcome}
use Rattle.m3_base.specs.Placement.Routing.{Routed, target_of, target, with_held, route, actor_for, tile_for}
use Rattle.m3_base.specs.Placement.Order.{is_moving_at, placed_at, least_closing, close_least, order_by, route_new, kernel_step, switch, after_switch, order}
use Rattle.m3_base.specs.Placement.Turn.{yield_once, turn_of, turn_made, turn_move, quantum_turn, await_turn, busy_any, is_waiting_turn, is_due_quantum, is_repeat}
use Rattle.m3_base.specs.Placement.Take.{new_stay, bounced, is_here, take, take_at_kernel, take_at_tile, take_data, land_here, saved_in, done_by, is_waiting, has_ended, has_unread_at}
use Rattle.m3_base.specs.Placement.Command.{push_new, next_id_of, command, command_by, busy_with}
use Rattle.m3_base.specs.Placement.Tend.{answer_routed, tend, tend_front, after_tend}
use Rattle.m3_base.specs.Ideal.State.{is_number}
use Rattle.m3_quiet.specs.Potential.{is_there}
use Rattle.m3_quiet.specs.Schedule.{has_yield, link_at, IsHere, Scheduled}
use Rattle.m3_quiet.proofs.Schedule.Statements.{Walked, ScheduledAfter, ScheduleStays}
use Rattle.m3_quiet.proofs.Events.Kinds.{found_act, found_itself}
use Rattle.m3_quiet.proofs.Sums.Whole.{actor-with_same, actor-with_other}
use Rattle.m3_quiet.proofs.Events.Switches.{placed_found, placed_is, placed_home}
use Rattle.m3_quiet.proofs.Schedule.Changes.{list-set, s-front, s-pushed, s-soft, s-place, s-join, s-coming, s-restored, s-yield_once, s-taken, s-current}
use Rattle.std.proofs.lemmas.Bool.{eqb-true}

-- ---- routing

k-routed : (p : Placement) (id : FlightId) (a : ℕ) (r : Option PlacedActivity) → Scheduled p → actor a p ≡ r → Scheduled (route id r p).places
k-routed p id a None ok e = ok
k-routed p id a (Some z) ok e = by_place (is_placed z.place)
  where
    as_routed : Bool → Routed
    as_routed b = if b then record { held = false; places = with_token 0 z.home (Data id) p } else record { held = true; places = with_held id z p }

    by_place : (b : Bool) → Scheduled (as_routed b).places
    by_place true = s-pushed p 0 z.home (Data id) ok refl
    by_place false = s-soft p (record z { hold = z.hold ++ id ∷ [] }) z ok (found_itself p a z e) refl refl (λ h. h.1)

k-for : (p : Placement) (id : FlightId) (a : Option ℕ) → Scheduled p → Scheduled (route id (actor_for a p) p).places
k-for p id None ok = ok
k-for p id (Some a) ok = k-routed p id a (actor a p) ok refl

k-answer : (p : Placement) (t : ℕ) (o : Option FlightId) → Scheduled p → Scheduled (push_answer t o p)
k-answer p t None ok = ok
k-answer p t (Some id) ok = s-pushed p t (home id.issuer p) (Data id) ok refl

k-closed : (p : Placement) (t : ℕ) (o : Option ℕ) → Scheduled p → Scheduled (push_closed t o p)
k-closed p t None ok = ok
k-closed p t (Some g) ok = s-pushed p t 0 (Closed g) ok refl

k-answer_routed : (p : Placement) (o : Option FlightId) → Scheduled p → Scheduled (answer_routed o p)
k-answer_routed p None ok = ok
k-answer_routed p (Some id) ok = k-routed p id id.issuer (actor id.issuer p) ok refl

k-new : (p : Placement) (id : FlightId) (from : ℕ) (o : Option Packet) → Scheduled p → Scheduled (push_new id from o p)
k-new p id from None ok = ok
k-new p id from (Some x) ok = s-pushed p from (tile_for (target x) p) (Data id) ok refl

-- ---- the kernel's own steps

k-order_by : (s : State) (r : Routed) (o : Option RunResult) → Scheduled r.places → ScheduledAfter (order_by s r o)
k-order_by s r None ok = tt
k-order_by s r (Some x) ok = ok

k-kernel : (s : State) (p : Placement) (steps : List Step) → Scheduled p → ScheduledAfter (kernel_step s p steps)
k-kernel s p steps ok = k-order_by s (route_new s (ran_to (ideal_run steps s) s) p) (ideal_run steps s) (by_new (ran_to (ideal_run steps s) s))
  where
    as_routed : State → Bool → Routed
    as_routed n b = if b then record { held = false; places = p } else route (kernel_id s) (actor_for (target_of (flight (kernel_id s) n.flights)) p) p

    by_same : (n : State) (b : Bool) → Scheduled (as_routed n b).places
    by_same n true = ok
    by_same n false = k-for p (kernel_id s) (target_of (flight (kernel_id s) n.flights)) ok

    by_new : (n : State) → Scheduled (route_new s n p).places
    by_new n = by_same n (n.kernel_next == s.kernel_next)

-- ---- takes

k-land : (t : ℕ) (p : Placement) (o : Option LandingResult) → Scheduled p → ScheduledAfter (land_here t p o)
k-land t p None ok = tt
k-land t p (Some c) ok = k-closed (push_answer t c.answer p) t c.freed (k-answer p t c.answer ok)

k-data : (s : State) (p : Placement) (t : ℕ) (id : FlightId) → Scheduled p → ScheduledAfter (take_data s p t id)
k-data s p t id ok = by_here ((t == 1) || is_here (target_of (flight id s.flights)) (current_of t p))
  where
    by_here : (b : Bool) → ScheduledAfter (if b then land_here t p (landing_result s id) else bounced s p t id (target_of (flight id s.flights)))
    by_here true = k-land t p (landing_result s id) ok
    by_here false = by_aim (target_of (flight id s.flights))
      where
        by_aim : (o : Option ℕ) → ScheduledAfter (bounced s p t id o)
        by_aim None = tt
        by_aim (Some a) = s-pushed p t 0 (Data id) ok refl

k-done : (s : State) (p : Placement) (o : Option RunResult) → Scheduled p → ScheduledAfter (done_by s p o)
k-done s p None ok = tt
k-done s p (Some r) ok = ok

module _ (s : State) (p : Placement) (walked : Walked p) (ok : Scheduled p) where
  k-save : (from t a : ℕ) (ts : List LinkToken) → link from t p ≡ Save a ∷ ts → (w e : Bool) → Scheduled (with_token t 0 (Saved a w e) (with_current t None (with_link from t ts p)))
  k-save from t a ts f w e =
      let q = with_link from t ts p in
      s-pushed (with_current t None q) t 0 (Saved a w e) (s-current q t None (s-front p from t (Save a) ts ok f) apart) refl
    where
      apart : (b : ℕ) (y : PlacedActivity) → actor b p ≡ Some y → is_placed y.place ≡ true → is_there p.current y ≡ true → y.home ≡ t → ⊥
      apart b y found placed there at =
          let now : current_of t p ≡ Some a = walked.saves from t a ts f in
          let there_t : is_number y.act (current_of t p) ≡ true = subst (λ k. is_number y.act (current_of k p) ≡ true) at there in
          let same : (a == y.act) ≡ true = subst (λ o. is_number y.act o ≡ true) now there_t in
          let mine : actor a p ≡ Some y = subst (λ k. actor k p ≡ Some y) (sym (eqb-true a y.act same)) (found_itself p b y found) in
          let goes : is_leaving y.place ≡ true = walked.going from t a ts y f mine in
          let wrong : is_placed y.place ≡ false = grind (arith, nat_tests, goes) in
          absurd (cc)

  k-restore : (from t a : ℕ) (ts : List LinkToken) → link from t p ≡ Restore a ∷ ts → (o : Option PlacedActivity) → actor a p ≡ o → Scheduled (new_stay o (with_current t (Some a) (with_link from t ts p)))
  k-restore from t a ts f o found = by_actor o found
    where
      nobody : (b : ℕ) (y : PlacedActivity) → is_there p.current y ≡ true → y.home ≡ t → ⊥
      nobody b y there at =
          let none : current_of t p ≡ None = walked.restores from t a ts f in
          let there_t : is_number y.act (current_of t p) ≡ true = subst (λ k. is_number y.act (current_of k p) ≡ true) at there in
          let wrong : is_number y.act None ≡ true = subst (λ o. is_number y.act o ≡ true) none there_t in
          absurd (cc)

      by_actor : (r : Option PlacedActivity) → actor a p ≡ r → Scheduled (new_stay r (with_current t (Some a) (with_link from t ts p)))
      by_actor None e = s-current (with_link from t ts p) t (Some a) (s-front p from t (Restore a) ts ok f) (λ b y g placed there at. nobody b y there at)
      by_actor (Some x) e =
          let at = walked.comes from t a ts x f e in
          let y = record x { moves = 0; yield_sent = false } in
          let one = s-soft (with_link from t ts p) y x (s-front p from t (Restore a) ts ok f) (found_itself p a x e) refl refl (λ h. absurd (nobody a x h.0 at)) in
          s-current (with_actor y (with_link from t ts p)) t (Some a) one (λ b z g placed there here. nobody b z there here)

  k-tile : (from t : ℕ) (k : LinkToken) (ts : List LinkToken) → link from t p ≡ k ∷ ts → ScheduledAfter (take_at_tile s (with_link from t ts p) t k)
  k-tile from t (Data id) ts f = k-data s (with_link from t ts p) t id (s-front p from t (Data id) ts ok f)
  k-tile from t (Save a) ts f = k-save from t a ts f (is_waiting s (actor a p)) (has_ended (actor a p))
  k-tile from t (Restore a) ts f = k-restore from t a ts f (actor a p) refl
  k-tile from t (Saved a w e) ts f = tt
  k-tile from t (Yield a) ts f = tt
  k-tile from t (Closed g) ts f = tt

  k-saved : (from a : ℕ) (w e : Bool) (ts : List LinkToken) → link from 0 p ≡ Saved a w e ∷ ts → (o : Option PlacedActivity) → actor a p ≡ o → ScheduledAfter (saved_in s (with_link from 0 ts p) w e o)
  k-saved from a w e ts f None found = tt
  k-saved from a w e ts f (Some x) found =
      let q = with_link from 0 ts p in
      let goes = walked.leaves from a w e ts x f found in
      let here : actor x.act q ≡ Some x = found_itself p a x found in
      let busy : is_resting x.place ≡ false = grind (arith, nat_tests, goes) in
      let rested = s-place q (record x { place = Resting }) x (s-front p from 0 (Saved a w e) ts ok f) here refl refl busy (λ k h. absurd (silent k h)) in
      s-restored (Said.Saved x.act) s x.home (join_ready (x.has_program && (not w && not e)) x.home x.act (at_place Resting x q)) (s-join (at_place Resting x q) (x.has_program && (not w && not e)) x.home x.act rested (λ z y g. rests y g))
    where
      silent : (k : ℕ) → has_yield x.act (link_at k (with_link from 0 ts p)) ≡ true → ⊥
      silent k h =
          let mine : x.act ≡ a = found_act a p.actors x found in
          let behind : has_yield x.act (link from 0 p) ≡ false = subst (λ b. has_yield b (link from 0 p) ≡ false) (sym mine) (walked.saved from a (16 * from + 0) w e ts f) in
          let tail : has_yield x.act ts ≡ true → has_yield x.act (link from 0 p) ≡ true = λ v. subst (λ l. has_yield x.act l ≡ true) (sym f) v in
          let before : has_yield x.act (link_at k p) ≡ true = list-set (has_yield x.act) p.links (16 * from + 0) k ts tail h in
          let none : has_yield x.act (link_at k p) ≡ false = subst (λ b. has_yield b (link_at k p) ≡ false) (sym mine) (walked.saved from a k w e ts f) in
          absurd (cc)

      rests : (y : PlacedActivity) → actor x.act (at_place Resting x (with_link from 0 ts p)) ≡ Some y → (y.home ≡ x.home) × (is_resting y.place ≡ true)
      rests y g =
          let now : actor x.act (at_place Resting x (with_link from 0 ts p)) ≡ Some (record x { place = Resting }) = actor-with_same (with_link from 0 ts p) (record x { place = Resting }) x (found_itself p a x found) in
          let its : record x { place = Resting } ≡ y = cc in
          subst (λ z. (z.home ≡ x.home) × (is_resting z.place ≡ true)) its (refl, refl)

  k-yield : (from a : ℕ) (ts : List LinkToken) → link from 0 p ≡ Yield a ∷ ts → (o : Option PlacedActivity) → actor a p ≡ o → Scheduled (with_yielded (home_in o) true (with_link from 0 ts p))
  k-yield from a ts f o found = by_actor o found
    where
      has : has_yield a (link_at (16 * from + 0) p) ≡ true
      has = subst (λ l. has_yield a l ≡ true) (sym f) (itself (a == a) (grind (arith, nat_tests)))
        where
          itself : (b : Bool) → b ≡ true → (b || has_yield a ts) ≡ true
          itself true h = refl
          itself false h = absurd (cc)

      by_actor : (r : Option PlacedActivity) → actor a p ≡ r → Scheduled (with_yielded (home_in r) true (with_link from 0 ts p))
      by_actor None e = s-taken (with_link from 0 ts p) 0 (s-front p from 0 (Yield a) ts ok f) (λ b y g at placed. absurd (let h = (ok.fine.homes b y g).0 in omega (arith, at, h)))
      by_actor (Some x) e = s-taken (with_link from 0 ts p) x.home (s-front p from 0 (Yield a) ts ok f) here
        where
          here : (b : ℕ) (y : PlacedActivity) → actor b p ≡ Some y → y.home ≡ x.home → is_placed y.place ≡ true → IsHere p y
          here b y g at placed =
              let stays = ok.yields (16 * from + 0) a x has e in
              let same : a ≡ b = walked.alone a b x y e g (sym at) stays placed in
              let mine : actor a p ≡ Some y = subst (λ k. actor k p ≡ Some y) (sym same) g in
              ok.sent (16 * from + 0) a y has mine placed

  k-at_kernel : (from : ℕ) (k : LinkToken) (ts : List LinkToken) → link from 0 p ≡ k ∷ ts → ScheduledAfter (take_at_kernel s (with_link from 0 ts p) k)
  k-at_kernel from (Data id) ts f = k-for (with_link from 0 ts p) id (target_of (flight id s.flights)) (s-front p from 0 (Data id) ts ok f)
  k-at_kernel from (Saved a w e) ts f = k-saved from a w e ts f (actor a p) refl
  k-at_kernel from (Yield a) ts f = k-yield from a ts f (actor a p) refl
  k-at_kernel from (Closed g) ts f = k-done s (with_link from 0 ts p) (ideal_run (Step.Done g ∷ []) s) (s-front p from 0 (Closed g) ts ok f)
  k-at_kernel from (Save a) ts f = tt
  k-at_kernel from (Restore a) ts f = tt

  k-take : (to from : ℕ) (ts : List LinkToken) → link from to p ≡ ts → ScheduledAfter (take s p to from ts)
  k-take to from [] f = ok
  k-take to from (t ∷ ts) f = by_to (to == 0) refl
    where
      by_to : (b : Bool) → (to == 0) ≡ b → ScheduledAfter (if b then take_at_kernel s (with_link from to ts p) t else take_at_tile s (with_link from to ts p) to t)
      by_to true e = let none : to ≡ 0 = eqb-true to 0 e in subst (λ d. ScheduledAfter (take_at_kernel s (with_link from d ts p) t)) (sym none) (k-at_kernel from t ts (subst (λ d. link from d p ≡ t ∷ ts) none f))
      by_to false e = k-tile from to t ts f

  -- ---- tend

  k-tended : (t : ℕ) (q : Placement) (o : Option LandingResult) → Scheduled q → ScheduledAfter (after_tend t q o)
  k-tended t q None k = tt
  k-tended t q (Some c) k = s-restored c.said c.state t (push_closed 0 c.freed (answer_routed c.answer q)) (k-closed (answer_routed c.answer q) 0 c.freed (k-answer_routed q c.answer k))

  k-tend : (a : ℕ) (o : Option PlacedActivity) → actor a p ≡ o → ScheduledAfter (tend s p o)
  k-tend a None e = tt
  k-tend a (Some x) e = by_place (is_placed x.place || is_leaving x.place)
    where
      by_hold : (ids : List FlightId) → ScheduledAfter (tend_front s p x ids)
      by_hold [] = ok
      by_hold (id ∷ ids) =
          let y = record x { hold = ids } in
          let here = found_itself p a x e in
          let b = is_resting x.place && (x.has_program && not x.ended) in
          k-tended x.home (join_ready b x.home x.act (with_actor y p)) (landing_result s id) (s-join (with_actor y p) b x.home x.act (s-soft p y x ok here refl refl (λ h. h.1)) (λ z w g. rests z w g))
        where
          rests : (is_resting x.place && (x.has_program && not x.ended)) ≡ true → (w : PlacedActivity) → actor x.act (with_actor (record x { hold = ids }) p) ≡ Some w → (w.home ≡ x.home) × (is_resting w.place ≡ true)
          rests z w g =
              let now : actor x.act (with_actor (record x { hold = ids }) p) ≡ Some (record x { hold = ids }) = actor-with_same p (record x { hold = ids }) x (found_itself p a x e) in
              let its : record x { hold = ids } ≡ w = cc in
              subst (λ v. (v.home ≡ x.home) × (is_resting v.place ≡ true)) its (refl, first_of_two (is_resting x.place) (x.has_program && not x.ended) z)
            where
              first_of_two : (c d : Bool) → (c && d) ≡ true → c ≡ true
              first_of_two true d h = refl
              first_of_two false d h = absurd (cc)

      by_place : (b : Bool) → ScheduledAfter (if b then idle_outcome IdleWhy.NotResting s p else tend_front s p x x.hold)
      by_place true = ok
      by_place false = by_hold x.hold

  -- ---- orders

  k-switched : (t a : ℕ) (x : PlacedActivity) → actor a p ≡ Some x → x.home ≡ t → is_placed x.place ≡ false → (o : Option PlacedActivity) → placed_at t p.actors ≡ o → ScheduledAfter (after_switch s p t x o)
  k-switched t a x found at away None f = tt
  k-switched t a x found at away (Some y) f =
      let z = record y { place = Leaving } in
      let here : actor y.act p ≡ Some y = placed_found t p.actors y ok.fine.apart f in
      let placed : is_placed y.place ≡ true = placed_is t p.actors y f in
      let busy : is_resting y.place ≡ false = grind (arith, nat_tests, placed) in
      let one = s-place p z y ok here refl refl busy (λ k h. refl) in
      let mine : actor x.act p ≡ Some x = found_itself p a x found in
      let two : (x.act == y.act) ≡ false = differ (x.act == y.act) refl here placed in
      let there : actor x.act (with_actor z p) ≡ Some x = actor-with_other p x.act z two ∙ mine in
      let calm : (is_placed x.place || is_leaving x.place) ≡ false = quiet (is_placed x.place || is_leaving x.place) refl here placed two in
      s-pushed (leave_ready t x.act (at_place Coming x (with_actor z p))) 0 t (Save y.act) (s-coming (with_actor z p) t (record x { place = Coming }) x one there refl at refl calm) refl
    where
      differ : (b : Bool) → (x.act == y.act) ≡ b → actor y.act p ≡ Some y → is_placed y.place ≡ true → b ≡ false
      differ false e here placed = refl
      differ true e here placed =
          let its : actor x.act p ≡ Some y = subst (λ k. actor k p ≡ Some y) (sym (eqb-true x.act y.act e)) here in
          let mine : actor x.act p ≡ Some x = found_itself p a x found in
          let same : x ≡ y = cc in
          let no_ : is_placed y.place ≡ false = subst (λ w. is_placed w.place ≡ false) same away in
          absurd (cc)

      quiet : (b : Bool) → (is_placed x.place || is_leaving x.place) ≡ b → actor y.act p ≡ Some y → is_placed y.place ≡ true → (x.act == y.act) ≡ false → b ≡ false
      quiet false e here placed two = refl
      quiet true e here placed two =
          let home_of : y.home ≡ t = placed_home t p.actors y f in
          let mine : actor x.act p ≡ Some x = found_itself p a x found in
          let same : x.act ≡ y.act = walked.alone x.act y.act x y mine here (at ∙ sym home_of) e placed in
          let wrong : (x.act == y.act) ≡ true = grind (arith, nat_tests, same) in
          absurd (cc)

  k-switch : (t a : ℕ) (o : Option PlacedActivity) → actor a p ≡ o → ScheduledAfter (switch s p t o)
  k-switch t a None e = tt
  k-switch t a (Some x) e = by_flags (x.home == t) refl (is_placed x.place) refl (is_coming x.place) (list_any (is_moving_at t) p.actors)
    where
      by_flags : (b : Bool) → (x.home == t) ≡ b → (c : Bool) → is_placed x.place ≡ c → (d l : Bool) → ScheduledAfter (if not b then step_outcome (Said.No No.NotHome) s p else (if c || d then step_outcome (Said.No No.Already) s p else (if l then step_outcome (Said.No No.Leaving) s p else after_switch s p t x (placed_at t p.actors))))
      by_flags false f c g d l = ok
      by_flags true f true g d l = ok
      by_flags true f false g true l = ok
      by_flags true f false g false true = ok
      by_flags true f false g false false = k-switched t a x e (eqb-true x.home t f) g (placed_at t p.actors) refl

  k-order : (o : Order) → ScheduledAfter (order s p o)
  k-order (Order.Switch t a) = k-switch t a (actor a p) refl
  k-order (Order.Grant line) = k-kernel s p (Step.Make line ∷ []) ok
  k-order (Order.Revoke g) = k-kernel s p (Step.Revoke g ∷ []) ok

  k-close : (o : Option ℕ) → ScheduledAfter (close_least s p o)
  k-close None = ok
  k-close (Some g) = k-kernel s p (Step.Close g ∷ []) ok

  -- ---- commands and turns

  k-command_by : (q : Placement) (a : ℕ) (o : Option RunResult) → Scheduled q → ScheduledAfter (command_by s q a o)
  k-command_by q a None k = tt
  k-command_by q a (Some r) k = k-new q (next_id_of a (context_of a s.contexts)) (home a q) (flight (next_id_of a (context_of a s.contexts)) r.state.flights) k

  k-command : (a : ℕ) (c : Command) → ScheduledAfter (command s p a c)
  k-command a c = by_flags (not (is_current a p)) (busy_with c (context_of a s.contexts))
    where
      by_flags : (b d : Bool) → ScheduledAfter (if b then idle_outcome IdleWhy.NotCurrent s p else (if d then idle_outcome IdleWhy.Busy s p else command_by s p a (ideal_run (Step.Issue a c ∷ []) s)))
      by_flags true d = ok
      by_flags false true = ok
      by_flags false false = k-command_by p a (ideal_run (Step.Issue a c ∷ []) s) ok

  module _ (a : ℕ) (x : PlacedActivity) (found : actor a p ≡ Some x) where
    mine : actor x.act p ≡ Some x
    mine = found_itself p a x found

    -- who is current is Placed or Leaving
    stays : is_there p.current x ≡ true → (is_placed x.place || is_leaving x.place) ≡ true
    stays there = by_rest (is_resting x.place || is_coming x.place) refl
      where
        by_rest : (b : Bool) → (is_resting x.place || is_coming x.place) ≡ b → (is_placed x.place || is_leaving x.place) ≡ true
        by_rest true e = let none = walked.away a x found e in absurd (cc)
        by_rest false e = grind (arith, nat_tests, e)

    k-await : (ep : ℕ) (u : Bool) → is_there p.current x ≡ true → ScheduledAfter (await_turn s p x ep u)
    k-await ep true there = s-soft p (record x { pending = None }) x ok mine refl refl (λ h. h.1)
    k-await ep false there = s-yield_once p (record x { pending = Some ep }) x ok mine refl refl refl there (stays there)

    k-move : (m : Made) → is_there p.current x ≡ true → ScheduledAfter (turn_move s p x m)
    k-move (Made.Command c) there = by_pending (is_some x.pending)
      where
        by_pending : (b : Bool) → ScheduledAfter (if b then None else command_by s (with_actor (record x { moves = x.moves + 1 }) p) x.act (ideal_run (Step.Issue x.act c ∷ []) s))
        by_pending true = tt
        by_pending false = k-command_by (with_actor (record x { moves = x.moves + 1 }) p) x.act (ideal_run (Step.Issue x.act c ∷ []) s) (s-soft p (record x { moves = x.moves + 1 }) x ok mine refl refl (λ h. h.1))
    k-move (Made.Await ep) there = by_repeat (is_repeat x.pending ep)
      where
        by_repeat : (b : Bool) → ScheduledAfter (if b then await_turn s p x ep (has_unread_at (context_of x.act s.contexts) (Some ep)) else None)
        by_repeat true = k-await ep (has_unread_at (context_of x.act s.contexts) (Some ep)) there
        by_repeat false = tt
    k-move Made.Quantum there = tt
    k-move Made.End there = by_pending (is_some x.pending)
      where
        by_pending : (b : Bool) → ScheduledAfter (if b then None else step_outcome Said.Ended s (yield_once (record x { ended = true }) p))
        by_pending true = tt
        by_pending false = s-yield_once p (record x { ended = true }) x ok mine refl refl refl there (stays there)

    k-quantum : (m : Made) → is_there p.current x ≡ true → ScheduledAfter (quantum_turn s p x m)
    k-quantum (Made.Command c) there = tt
    k-quantum (Made.Await ep) there = tt
    k-quantum Made.Quantum there = s-yield_once p x x ok mine refl refl refl there (stays there)
    k-quantum Made.End there = tt

    k-made : (m : Option Made) → is_there p.current x ≡ true → ScheduledAfter (turn_made s p x m)
    k-made None there = tt
    k-made (Some m) there = by_due (is_due_quantum p x)
      where
        by_due : (b : Bool) → ScheduledAfter (if b then quantum_turn s p x m else turn_move s p x m)
        by_due true = k-quantum m there
        by_due false = k-move m there

    k-turn : (m : Option Made) → ScheduledAfter (turn_of s p m (Some x))
    k-turn m = by_flags (is_current x.act p) refl x.ended (busy_any (context_of x.act s.contexts)) (is_waiting_turn s x)
      where
        by_flags : (c : Bool) → is_current x.act p ≡ c → (e b w : Bool) → ScheduledAfter (if not c then idle_outcome IdleWhy.NotCurrent s p else (if e then idle_outcome IdleWhy.Ended s p else (if b then idle_outcome IdleWhy.Busy s p else (if w then idle_outcome IdleWhy.Waiting s p else turn_made s p x m))))
        by_flags false f e b w = ok
        by_flags true f true b w = ok
        by_flags true f false true w = ok
        by_flags true f false false true = ok
        by_flags true f false false false = k-made m (subst (λ o. is_number x.act (current_of (home_in o) p) ≡ true) mine f)

  k-turn_of : (a : ℕ) (m : Option Made) (o : Option PlacedActivity) → actor a p ≡ o → ScheduledAfter (turn_of s p m o)
  k-turn_of a m None e = tt
  k-turn_of a m (Some x) e = k-turn a x e m

pub schedule_stays : ScheduleStays
schedule_stays s p (Event.Do a c) made walked ok = k-command s p walked ok a c
schedule_stays s p (Event.Turn a) made walked ok = k-turn_of s p walked ok a made (actor a p) refl
schedule_stays s p (Event.Take to from) made walked ok = k-take s p walked ok to from (link from to p) refl
schedule_stays s p (Event.Tend a) made walked ok = k-tend s p walked ok a (actor a p) refl
schedule_stays s p Event.Close made walked ok = k-close s p walked ok (least_closing s.grants 1 s.grants)
schedule_stays s p (Event.Order o) made walked ok = k-order s p walked ok o
schedule_stays s p (Event.File line) made walked ok = tt
