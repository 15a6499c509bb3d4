-- Each event that isn't idle lowers the sum.
use Rattle.std.proofs.Common.{◌≡◌, ℕ, zero, suc, ◌+◌, ◌<◌, ◌≤◌, Bool, true, false, List, [], ◌∷◌, length, Some, None, refl, sym, subst, ◌∙◌, ap, arith}
use Rattle.std.specs.Prelude.{Option, if◌then◌else◌, ◌==◌, not, ◌&&◌, ◌||◌, is_some, slice_index_or}
use Rattle.std.specs.List.{list_any}
use Rattle.std.proofs.lemmas.Bool.Decides.{nat_tests}
use Rattle.m3_base.specs.declared.ids.FlightId.{FlightId}
use Rattle.m3_base.specs.declared.command.Command.{Command}
use Rattle.m3_base.specs.declared.order.Order.{Order}
use Rattle.m3_base.specs.declared.event.Event.{Event}
use Rattle.m3_base.specs.declared.event.Made.{Made}
use Rattle.m3_base.specs.declared.event.Said.{Said}
use Rattle.m3_base.specs.declared.event.IdleWhy.{IdleWhy}
use Rattle.m3_base.specs.declared.step.Step.{Step}
use Rattle.m3_base.specs.Ideal.Flights.{flight}
use Rattle.m3_base.specs.Ideal.State.{State, context_of, grant_in, holder}
use Rattle.m3_base.specs.Ideal.Step.{ideal_run}
use Rattle.m3_base.specs.Placement.State.{Placement, PlacedActivity, ready_at, LinkToken, Data, Save, Saved, Restore, Yield, Closed, actor, link, with_link, current_of, with_token, join_ready, with_actor, is_placed, is_leaving, is_resting, is_coming, is_current}
use Rattle.m3_base.specs.Placement.Landing.{PlacementResult, LandingResult, landing_result, step_outcome, idle_outcome}
use Rattle.m3_base.specs.Placement.Order.{is_moving_at, least_closing, close_least, switch, order}
use Rattle.m3_base.specs.Placement.Routing.{target_of}
use Rattle.m3_base.specs.Placement.Take.{bounced, is_here, take, take_at_kernel, take_at_tile, land_here, saved_in, has_unread_at}
use Rattle.m3_base.specs.Placement.Tend.{tend, tend_front, after_tend}
use Rattle.m3_base.specs.Placement.Turn.{turn_of, turn_made, turn_move, quantum_turn, await_turn, busy_any, is_waiting_turn, is_due_quantum, is_repeat}
use Rattle.m3_base.specs.Placement.Command.{command_by}
use Rattle.m3_quiet.specs.Potential.{Units, potential}
use Rattle.m3_quiet.specs.Descent.{Falls, HasCall, takes_call, with_call_spent}
use Rattle.m3_quiet.proofs.Events.Statements.{PlacesOk, At_kernel_yield, At_kernel_data, At_kernel_closed, At_tile_save, At_tile_bounced, Calm, By_quantum, Awaits_again, Ends, Revokes}
use Rattle.m3_quiet.specs.Facts.{Facts}
use Rattle.m3_quiet.specs.Runs.{Turns, Takes, Tends, Closes, Orders, Switches, EventsLowerTheSum}
use Rattle.m3_quiet.proofs.Events.Kinds.{front_falls, at_tile, turns_fall, found_itself}
use Rattle.m3_quiet.proofs.Events.Orders.{orders_fall}
use Rattle.m3_quiet.proofs.Events.Deliveries.{AllCame}
use Rattle.m3_quiet.proofs.Events.Landings.{came_ok}
use Rattle.m3_quiet.proofs.Sums.Whole.{Below}
use Rattle.m3_quiet.proofs.Events.Arrivals.{land_falls, restore_falls, saved_falls}
use Rattle.m3_quiet.proofs.Events.Tends.{tend_falls}
use Rattle.m3_quiet.proofs.Events.KernelPackets.{KernelOk, close_below, grant_below}
use Rattle.m3_quiet.proofs.Events.Calls.{CallOk, command_below, await_below, call_falls}
use Rattle.m3_quiet.proofs.Events.Switches.{script_below, wanted_below}

-- ---- from the sum after an outcome to its fall

take_below : (s : State) (p : Placement) (us : Units) (left : List Order) (to from : ℕ) (made : Option Made) (r : Option PlacementResult) → Below us (length left) (potential s p us (length left)) r → Falls s p us left (Event.Take to from) made r
take_below s p us left to from made None h = tt
take_below s p us [] to from made (Some d) h = λ k. h
take_below s p us (o ∷ os) to from made (Some d) h = λ k. h

tend_below : (s : State) (p : Placement) (us : Units) (left : List Order) (a : ℕ) (made : Option Made) (r : Option PlacementResult) → Below us (length left) (potential s p us (length left)) r → Falls s p us left (Event.Tend a) made r
tend_below s p us left a made None h = tt
tend_below s p us [] a made (Some d) h = λ k. h
tend_below s p us (o ∷ os) a made (Some d) h = λ k. h

close_falls : (s : State) (p : Placement) (us : Units) (left : List Order) (made : Option Made) (r : Option PlacementResult) → Below us (length left) (potential s p us (length left)) r → Falls s p us left Event.Close made r
close_falls s p us left made None h = tt
close_falls s p us [] made (Some d) h = λ k. h
close_falls s p us (o ∷ os) made (Some d) h = λ k. h

order_below : (s : State) (p : Placement) (us : Units) (o x : Order) (os : List Order) (made : Option Made) (r : Option PlacementResult) → Below us (length os) (potential s p us (length os) + 17) r → Falls s p us (o ∷ os) (Event.Order x) made r
order_below s p us o x os made None h = tt
order_below s p us o x os made (Some d) h = λ k. omega (arith, h)

wish_below : (s : State) (p : Placement) (us : Units) (x : Order) (made : Option Made) (r : Option PlacementResult) → Below us 0 (potential s p us 0) r → Falls s p us [] (Event.Order x) made r
wish_below s p us x made None h = tt
wish_below s p us x made (Some d) h = λ k. h

module _ (s : State) (p : Placement) (us : Units) (left : List Order) (facts : Facts s p) where
  places_ok : PlacesOk p
  places_ok = record { links = facts.fine.links; homes = facts.fine.homes }

  call_ok : CallOk s p
  call_ok = record { fine = facts.fine; links = facts.links; holds = facts.holds; fresh = facts.fresh }

  kernel_ok : KernelOk s p
  kernel_ok = record { fine = facts.fine; links = facts.links; holds = facts.holds; fresh = facts.fresh_kernel }

  -- ---- takes

  land_case : (to from : ℕ) (id : FlightId) (ts : List LinkToken) (made : Option Made) → from < 16 → to < 16 → link from to p ≡ Data id ∷ ts → (r : Option LandingResult) → AllCame s id r → Falls s p us left (Event.Take to from) made (land_here to (with_link from to ts p) r)
  land_case to from id ts made h k e None landing_result = tt
  land_case to from id ts made h k e (Some c) landing_result =
      take_below s p us left to from made (land_here to (with_link from to ts p) (Some c)) (land_falls s p us (length left) from to id ts c facts.fine h k e landing_result)

  data_case : (to from : ℕ) (id : FlightId) (ts : List LinkToken) (made : Option Made) → 1 ≤ to → from < 16 → to < 16 → link from to p ≡ Data id ∷ ts → Falls s p us left (Event.Take to from) made (take_at_tile s (with_link from to ts p) to (Data id))
  data_case to from id ts made least h k e = by_here (to == 1) (is_here (target_of (flight id s.flights)) (current_of to p)) refl refl
    where
      landed : Falls s p us left (Event.Take to from) made (land_here to (with_link from to ts p) (landing_result s id))
      landed = land_case to from id ts made h k e (landing_result s id) (came_ok s id facts.flights facts.records)

      by_from : (to == 1) ≡ false → is_here (target_of (flight id s.flights)) (current_of to p) ≡ false → (b : Bool) → (from == 0) ≡ b → Falls s p us left (Event.Take to from) made (take s p to from (Data id ∷ ts))
      by_from f g true w =
          let none : from ≡ 0 = grind (arith, nat_tests, w) in
          let two : 2 ≤ to = grind (arith, nat_tests, f, least) in
          let here : is_here (target_of (flight id s.flights)) (current_of to p) ≡ true = facts.walks to id ts two k (subst (λ z. link z to p ≡ Data id ∷ ts) none e) in
          absurd (cc)
      by_from f g false w =
          let one : 1 ≤ from = grind (arith, nat_tests, w) in
          let two : 2 ≤ to = grind (arith, nat_tests, f, least) in
          front_falls s p us left to from (Data id) ts made places_ok (At_tile_bounced to from id two k one h g) e

      as_take : Falls s p us left (Event.Take to from) made (take s p to from (Data id ∷ ts)) → Falls s p us left (Event.Take to from) made (take_at_tile s (with_link from to ts p) to (Data id))
      as_take = λ w. by_zero (to == 0) (grind (arith, nat_tests)) w
        where
          by_zero : (b : Bool) → b ≡ false → Falls s p us left (Event.Take to from) made (if b then take_at_kernel s (with_link from to ts p) (Data id) else take_at_tile s (with_link from to ts p) to (Data id)) → Falls s p us left (Event.Take to from) made (take_at_tile s (with_link from to ts p) to (Data id))
          by_zero true z w = absurd (cc)
          by_zero false z w = w

      by_here : (b c : Bool) → (to == 1) ≡ b → is_here (target_of (flight id s.flights)) (current_of to p) ≡ c → Falls s p us left (Event.Take to from) made (if b || c then land_here to (with_link from to ts p) (landing_result s id) else bounced s (with_link from to ts p) to id (target_of (flight id s.flights)))
      by_here true c f g = landed
      by_here false true f g = landed
      by_here false false f g = let w = as_take (by_from f g (from == 0) refl) in at_false (to == 1) (is_here (target_of (flight id s.flights)) (current_of to p)) f g w
        where
          at_false : (b c : Bool) → b ≡ false → c ≡ false → Falls s p us left (Event.Take to from) made (if b || c then land_here to (with_link from to ts p) (landing_result s id) else bounced s (with_link from to ts p) to id (target_of (flight id s.flights))) → Falls s p us left (Event.Take to from) made (bounced s (with_link from to ts p) to id (target_of (flight id s.flights)))
          at_false true c y z w = absurd (cc)
          at_false false true y z w = absurd (cc)
          at_false false false y z w = w

  saved_case : (from a : ℕ) (waiting ended : Bool) (ts : List LinkToken) (made : Option Made) → from < 16 → link from 0 p ≡ Saved a waiting ended ∷ ts → Falls s p us left (Event.Take 0 from) made (take_at_kernel s (with_link from 0 ts p) (Saved a waiting ended))
  saved_case from a waiting ended ts made h e =
      take_below s p us left 0 from made (saved_in s (with_link from 0 ts p) waiting ended (actor a p))
      (saved_falls s p us (length left) from a waiting ended ts (actor a p) facts.fine h e (facts.saved from a waiting ended ts e) refl)

  kernel_case : (from : ℕ) (t : LinkToken) (ts : List LinkToken) (made : Option Made) → from < 16 → link from 0 p ≡ t ∷ ts → Falls s p us left (Event.Take 0 from) made (take_at_kernel s (with_link from 0 ts p) t)
  kernel_case from (Data id) ts made h e = front_falls s p us left 0 from (Data id) ts made places_ok (At_kernel_data from id h) e
  kernel_case from (Yield a) ts made h e = front_falls s p us left 0 from (Yield a) ts made places_ok (At_kernel_yield from a h) e
  kernel_case from (Closed g) ts made h e = front_falls s p us left 0 from (Closed g) ts made places_ok (At_kernel_closed from g h (λ x f. facts.closed from g ts x e f)) e
  kernel_case from (Saved a waiting ended) ts made h e = saved_case from a waiting ended ts made h e
  kernel_case from (Save a) ts made h e = tt
  kernel_case from (Restore a) ts made h e = tt

  save_case : (to from a : ℕ) (ts : List LinkToken) (made : Option Made) → 1 ≤ to → from < 16 → to < 16 → link from to p ≡ Save a ∷ ts → Falls s p us left (Event.Take to from) made (take_at_tile s (with_link from to ts p) to (Save a))
  save_case to from a ts made least h k e = by_zero (to == 0) (grind (arith, nat_tests)) (front_falls s p us left to from (Save a) ts made places_ok (At_tile_save to from a least k h) e)
    where
      by_zero : (b : Bool) → b ≡ false → Falls s p us left (Event.Take to from) made (if b then take_at_kernel s (with_link from to ts p) (Save a) else take_at_tile s (with_link from to ts p) to (Save a)) → Falls s p us left (Event.Take to from) made (take_at_tile s (with_link from to ts p) to (Save a))
      by_zero true z w = absurd (cc)
      by_zero false z w = w

  tile_case : (to from : ℕ) (t : LinkToken) (ts : List LinkToken) (made : Option Made) → 1 ≤ to → from < 16 → to < 16 → link from to p ≡ t ∷ ts → Falls s p us left (Event.Take to from) made (take_at_tile s (with_link from to ts p) to t)
  tile_case to from (Data id) ts made least h k e = data_case to from id ts made least h k e
  tile_case to from (Save a) ts made least h k e = save_case to from a ts made least h k e
  tile_case to from (Restore a) ts made least h k e =
      take_below s p us left to from made (take_at_tile s (with_link from to ts p) to (Restore a)) (restore_falls s p us (length left) from to a ts facts.fine h k e)
  tile_case to from (Saved a waiting ended) ts made least h k e = tt
  tile_case to from (Yield a) ts made least h k e = tt
  tile_case to from (Closed g) ts made least h k e = tt

  take_step : (to from : ℕ) (made : Option Made) → to < 16 → from < 16 → (ts : List LinkToken) → link from to p ≡ ts → Falls s p us left (Event.Take to from) made (take s p to from ts)
  take_step to from made k h [] e = λ z. absurd (cc)
  take_step zero from made k h (t ∷ ts) e = kernel_case from t ts made h e
  take_step (suc n) from made k h (t ∷ ts) e =
      at_tile s p us left (suc n) from made (suc n == 0) (take_at_kernel s (with_link from (suc n) ts p) t) (take_at_tile s (with_link from (suc n) ts p) (suc n) t) (grind (arith, nat_tests)) (tile_case (suc n) from t ts made (omega arith) h k e)

  -- ---- tend

  tend_step : (a : ℕ) (made : Option Made) (r : Option PlacedActivity) → actor a p ≡ r → Falls s p us left (Event.Tend a) made (tend s p r)
  tend_step a made None e = tt
  tend_step a made (Some x) e = by_place (is_placed x.place) (is_leaving x.place) refl refl
    where
      by_hold : is_placed x.place ≡ false → is_leaving x.place ≡ false → (ids : List FlightId) → x.hold ≡ ids → Falls s p us left (Event.Tend a) made (tend_front s p x ids)
      by_hold f g [] h = λ z. absurd (cc)
      by_hold f g (id ∷ ids) h =
          let b = is_resting x.place && (x.has_program && not x.ended) in
          let here = found_itself p a x e in
          let rests : (is_resting x.place || is_coming x.place) ≡ true = grind (arith, nat_tests, f, g) in
          tend_below s p us left a made (after_tend x.home (join_ready b x.home x.act (with_actor (record x { hold = ids }) p)) (landing_result s id))
          (tend_falls s p us (length left) x id ids b (landing_result s id) facts.fine here (facts.away a x e rests) g h (facts.held x.act x id ids here h) (came_ok s id facts.flights facts.records))

      by_place : (b c : Bool) → is_placed x.place ≡ b → is_leaving x.place ≡ c → Falls s p us left (Event.Tend a) made (if b || c then idle_outcome IdleWhy.NotResting s p else tend_front s p x x.hold)
      by_place true c f g = λ z. absurd (cc)
      by_place false true f g = λ z. absurd (cc)
      by_place false false f g = by_hold f g x.hold refl

  -- ---- close

  close_step : (made : Option Made) (r : Option ℕ) → Falls s p us left Event.Close made (close_least s p r)
  close_step made None = λ z. absurd (cc)
  close_step made (Some g) = close_falls s p us left made (close_least s p (Some g)) (close_below s p us (length left) g kernel_ok (grant_in s.grants g) refl)

  -- ---- turns

  module _ (a : ℕ) (x : PlacedActivity) (found : actor a p ≡ Some x) (program : x.has_program ≡ true) where
    turn_flags : (made : Option Made) (r : Option PlacementResult) (c e b w : Bool) → Falls s p us left (Event.Turn a) made r → Falls s p us left (Event.Turn a) made (if not c then idle_outcome IdleWhy.NotCurrent s p else (if e then idle_outcome IdleWhy.Ended s p else (if b then idle_outcome IdleWhy.Busy s p else (if w then idle_outcome IdleWhy.Waiting s p else r))))
    turn_flags made r false e b w h = λ z. absurd (cc)
    turn_flags made r true true b w h = λ z. absurd (cc)
    turn_flags made r true false true w h = λ z. absurd (cc)
    turn_flags made r true false false true h = λ z. absurd (cc)
    turn_flags made r true false false false h = h

    calls_now : (m : Made) → takes_call (Some x) (Some m) ≡ true → takes_call (actor a p) (Some m) ≡ true
    calls_now m h = ap (λ o. takes_call o (Some m)) found ∙ h

    command_case : (c : Command) → HasCall p us (Event.Turn a) (Some (Made.Command c)) → (q : Option ℕ) → x.pending ≡ q → Falls s p us left (Event.Turn a) (Some (Made.Command c)) (if is_some q then None else command_by s (with_actor (record x { moves = x.moves + 1 }) p) x.act (ideal_run (Step.Issue x.act c ∷ []) s))
    command_case c call (Some ep) e = tt
    command_case c call None e =
        let calls = calls_now (Made.Command c) (ap (λ o. not (is_some o)) e) in
        call_falls s p us left a (Made.Command c) (command_by s (with_actor (record x { moves = x.moves + 1 }) p) x.act (ideal_run (Step.Issue x.act c ∷ []) s)) calls (call calls)
        (command_below s p (with_call_spent a us) (length left) (potential s p (with_call_spent a us) (length left) + 25) x c call_ok (found_itself p a x found) refl)

    await_case : (ep : ℕ) → HasCall p us (Event.Turn a) (Some (Made.Await ep)) → x.pending ≡ None → (u : Bool) → Falls s p us left (Event.Turn a) (Some (Made.Await ep)) (await_turn s p x ep u)
    await_case ep call e u =
        let calls = calls_now (Made.Await ep) (ap (λ o. not (is_some o)) e) in
        call_falls s p us left a (Made.Await ep) (await_turn s p x ep u) calls (call calls)
        (await_below s p (with_call_spent a us) (length left) (potential s p (with_call_spent a us) (length left) + 25) x ep u facts.fine (found_itself p a x found) refl)

    flagged : (made : Option Made) → Falls s p us left (Event.Turn a) made (turn_made s p x made) → Falls s p us left (Event.Turn a) made (turn_of s p made (Some x))
    flagged made h = turn_flags made (turn_made s p x made) (is_current x.act p) x.ended (busy_any (context_of x.act s.contexts)) (is_waiting_turn s x) h

    by_due : (made : Option Made) (r t : Option PlacementResult) (b : Bool) → Falls s p us left (Event.Turn a) made r → Falls s p us left (Event.Turn a) made t → Falls s p us left (Event.Turn a) made (if b then r else t)
    by_due made r t true h k = h
    by_due made r t false h k = k

    -- the first Await; one of another endpoint than the pending one has no outcome
    first_await : (ep : ℕ) → HasCall p us (Event.Turn a) (Some (Made.Await ep)) → x.pending ≡ None → Falls s p us left (Event.Turn a) (Some (Made.Await ep)) (turn_made s p x (Some (Made.Await ep)))
    first_await ep call e =
        by_due (Some (Made.Await ep)) (quantum_turn s p x (Made.Await ep)) (turn_move s p x (Made.Await ep)) (is_due_quantum p x) tt (by_repeat (is_repeat x.pending ep))
      where
        by_repeat : (b : Bool) → Falls s p us left (Event.Turn a) (Some (Made.Await ep)) (if b then await_turn s p x ep (has_unread_at (context_of x.act s.contexts) (Some ep)) else None)
        by_repeat true = await_case ep call e (has_unread_at (context_of x.act s.contexts) (Some ep))
        by_repeat false = tt

    other_await : (ep k : ℕ) → x.pending ≡ Some k → (k == ep) ≡ false → Falls s p us left (Event.Turn a) (Some (Made.Await ep)) (turn_made s p x (Some (Made.Await ep)))
    other_await ep k e other =
        by_due (Some (Made.Await ep)) (quantum_turn s p x (Made.Await ep)) (turn_move s p x (Made.Await ep)) (is_due_quantum p x) tt (by_repeat (is_repeat x.pending ep) (ap (λ o. is_repeat o ep) e ∙ other))
      where
        by_repeat : (b : Bool) → b ≡ false → Falls s p us left (Event.Turn a) (Some (Made.Await ep)) (if b then await_turn s p x ep (has_unread_at (context_of x.act s.contexts) (Some ep)) else None)
        by_repeat true h = absurd (cc)
        by_repeat false h = tt

    calm_step : (m : Made) → Calm s p x m → Falls s p us left (Event.Turn a) (Some m) (turn_of s p (Some m) (Some x))
    calm_step m calm = subst (λ o. Falls s p us left (Event.Turn a) (Some m) (turn_of s p (Some m) o)) found (turns_fall s p us left a x m places_ok found program calm)

    await_step : (ep : ℕ) → HasCall p us (Event.Turn a) (Some (Made.Await ep)) → (q : Option ℕ) → x.pending ≡ q → Falls s p us left (Event.Turn a) (Some (Made.Await ep)) (turn_of s p (Some (Made.Await ep)) (Some x))
    await_step ep call None e = flagged (Some (Made.Await ep)) (first_await ep call e)
    await_step ep call (Some k) e = by_same (k == ep) refl
      where
        by_same : (b : Bool) → (k == ep) ≡ b → Falls s p us left (Event.Turn a) (Some (Made.Await ep)) (turn_of s p (Some (Made.Await ep)) (Some x))
        by_same false f = flagged (Some (Made.Await ep)) (other_await ep k e f)
        by_same true f = let same : k ≡ ep = grind (arith, nat_tests, f) in calm_step (Made.Await ep) (Awaits_again ep (e ∙ ap Some same))

    made_step : (made : Option Made) → HasCall p us (Event.Turn a) made → Falls s p us left (Event.Turn a) made (turn_of s p made (Some x))
    made_step None call = flagged None tt
    made_step (Some (Made.Command c)) call =
        flagged (Some (Made.Command c)) (by_due (Some (Made.Command c)) (quantum_turn s p x (Made.Command c)) (turn_move s p x (Made.Command c)) (is_due_quantum p x) tt (command_case c call x.pending refl))
    made_step (Some (Made.Await ep)) call = await_step ep call x.pending refl
    made_step (Some Made.Quantum) call = calm_step Made.Quantum (By_quantum facts.quantum)
    made_step (Some Made.End) call = calm_step Made.End Ends

-- ---- orders

order_step : (s : State) (p : Placement) (us : Units) (o : Order) (os : List Order) (made : Option Made) → Facts s p → Falls s p us (o ∷ os) (Event.Order o) made (order s p o)
order_step s p us (Order.Switch t a) os made facts =
    order_below s p us (Order.Switch t a) (Order.Switch t a) os made (switch s p t (actor a p)) (script_below s p us (length os) (potential s p us (length os) + 17) t a facts.fine refl (actor a p) refl)
order_step s p us (Order.Grant line) os made facts =
    order_below s p us (Order.Grant line) (Order.Grant line) os made (order s p (Order.Grant line)) (grant_below s p us (length os) (potential s p us (length os) + 17) line (kernel_ok s p us [] facts) refl (context_of (holder line) s.contexts))
order_step s p us (Order.Revoke g) os made facts = by_any made (orders_fall s p us (Order.Revoke g) os (Revokes g))
  where
    by_any : (m : Option Made) → Falls s p us (Order.Revoke g ∷ os) (Event.Order (Order.Revoke g)) None (order s p (Order.Revoke g)) → Falls s p us (Order.Revoke g ∷ os) (Event.Order (Order.Revoke g)) m (order s p (Order.Revoke g))
    by_any m h = same_made (order s p (Order.Revoke g)) h
      where
        same_made : (r : Option PlacementResult) → Falls s p us (Order.Revoke g ∷ os) (Event.Order (Order.Revoke g)) None r → Falls s p us (Order.Revoke g ∷ os) (Event.Order (Order.Revoke g)) m r
        same_made None k = tt
        same_made (Some d) k = k

wish_step : (s : State) (p : Placement) (us : Units) (t a : ℕ) (as' : List ℕ) (made : Option Made) → Facts s p → ready_at t p ≡ a ∷ as' → list_any (is_moving_at t) p.actors ≡ false → slice_index_or p.yielded t false ≡ true → Falls s p us [] (Event.Order (Order.Switch t a)) made (switch s p t (actor a p))
wish_step s p us t a as' made facts ready still yielded =
    wish_below s p us (Order.Switch t a) made (switch s p t (actor a p))
    (wanted_below s p us 0 t a facts.fine (record {
      front = as';
      ready = ready;
      still = still;
      home = λ x e. (facts.ready t a as' x ready e).0;
      resting = λ x e. (facts.ready t a as' x ready e).1;
      current = λ y e. (facts.yielded t y yielded e).0;
      moved = λ y e. (facts.yielded t y yielded e).1;
    }) (actor a p) refl)

pub step_falls : EventsLowerTheSum
step_falls s p us left e made facts (Turns a x m found program call) = subst (λ o. Falls s p us left (Event.Turn a) m (turn_of s p m o)) (sym found) (made_step s p us left facts a x found program m call)
step_falls s p us left e made facts (Takes to from m h k) = take_step s p us left facts to from m h k (link from to p) refl
step_falls s p us left e made facts (Tends a m) = tend_step s p us left facts a m (actor a p) refl
step_falls s p us left e made facts (Closes m) = close_step s p us left facts m (least_closing s.grants 1 s.grants)
step_falls s p us left e made facts (Orders o os m f) = subst (λ l. Falls s p us l (Event.Order o) m (order s p o)) (sym f) (order_step s p us o os m facts)
step_falls s p us left e made facts (Switches t a as' m f ready still yielded) = subst (λ l. Falls s p us l (Event.Order (Order.Switch t a)) m (switch s p t (actor a p))) (sym f) (wish_step s p us t a as' m facts ready still yielded)
