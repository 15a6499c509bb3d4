-- An entry whose outcome is idle leaves the ideal state and the placement as they were.
use Rattle.std.proofs.Common.{◌≡◌, ℕ, Bool, true, false, List, [], ◌∷◌, Option, Some, None, refl, sym, ap, ◌∙◌, subst}
use Rattle.std.specs.Prelude.{not, ◌||◌, ◌==◌, if◌then◌else◌, is_some}
use Rattle.std.specs.List.{list_any}
use Rattle.m3_base.specs.declared.command.Command.{Command}
use Rattle.m3_base.specs.declared.event.Event.{Event}
use Rattle.m3_base.specs.declared.event.IdleWhy.{IdleWhy}
use Rattle.m3_base.specs.declared.event.Made.{Made}
use Rattle.m3_base.specs.declared.event.No.{No}
use Rattle.m3_base.specs.declared.event.Outcome.{Outcome}
use Rattle.m3_base.specs.declared.event.Said.{Said}
use Rattle.m3_base.specs.declared.order.Order.{Order}
use Rattle.m3_base.specs.declared.ids.FlightId.{FlightId}
use Rattle.m3_base.specs.declared.step.Step.{Step}
use Rattle.m3_base.specs.Journal.OutcomeForms.{allows_outcome, is_allowed_outcome, may_restore}
use Rattle.m3_base.specs.Journal.Entry.{said_of, steps_of, next_state, ran_to}
use Rattle.m3_base.specs.Placement.EntryStep.{IsPlacementStep}
use Rattle.m3_base.specs.Placement.Landing as places_landing
use Rattle.m3_base.specs.Placement.Command as places_command
use Rattle.m3_base.specs.Placement.Turn as places_turn
use Rattle.m3_base.specs.Placement.State as places_state
use Rattle.m3_base.specs.Placement.Take as places_take
use Rattle.m3_base.specs.Placement.Routing as places_routing
use Rattle.m3_base.specs.Placement.Tend as places_tend
use Rattle.m3_base.specs.Placement.Order as places_order
use Rattle.m3_base.specs.Placement.State.{Placement, PlacedActivity, LinkToken}
use Rattle.m3_base.specs.Placement.Landing.{PlacementResult, LandingResult, step_outcome}
use Rattle.m3_base.specs.Placement.Routing.{Routed}
use Rattle.m3_base.specs.Placement.Step.{placement_step}
use Rattle.m3_base.specs.Ideal.Flights.{flight}
use Rattle.m3_base.specs.Ideal.State.{State, context_of}
use Rattle.m3_base.specs.Ideal.Step.{RunResult, ideal_run}
use Rattle.m3_trace.specs.JournalEntry.{entry}
use Rattle.m3_trace.specs.IdleOutcomes.{IsIdle}
use Rattle.m3_trace.proofs.StepsAreNotIdle.{words_said}
use Rattle.std.proofs.lemmas.Bool.{and_parts}

-- ---- what an idle event leaves

module _ (s : State) (p : Placement) where
  -- an idle event changes nothing
  abbrev Stays : Option PlacementResult → Type 0
  Stays None = Unit {0}
  Stays (Some d) = IsIdle d.said → (d.state ≡ s) × (d.places ≡ p)

  never : (said : Said) (state : State) (q : Placement) → (IsIdle said → ⊥) → Stays (step_outcome said state q)
  never said state q n i = absurd (n i)

  by_words : (held : Bool) (r : RunResult) (q : Placement) → Stays (step_outcome (places_landing.said_or_nothing (said_of held r.words)) r.state q)
  by_words held r q = never (places_landing.said_or_nothing (said_of held r.words)) r.state q (words_said held r.words)

  if_stays : (b : Bool) (x y : Option PlacementResult) → Stays x → Stays y → Stays (if b then x else y)
  if_stays true x y k l = k
  if_stays false x y k l = l

  -- ---- commands and turns

  command_stays : (q : Placement) (a : ℕ) (o : Option RunResult) → Stays (places_command.command_by s q a o)
  command_stays q a None = tt
  command_stays q a (Some r) = by_words false r _

  await_stays : (x : PlacedActivity) (ep : ℕ) (b : Bool) → Stays (places_turn.await_turn s p x ep b)
  await_stays x ep true = λ i. absurd i
  await_stays x ep false = by_sent x.yield_sent
    where
      by_sent : (b : Bool) → Stays (step_outcome (if b then Said.Asleep else Said.Yield) s (places_turn.yield_once (record x { pending = Some ep }) p))
      by_sent true = λ i. absurd i
      by_sent false = λ i. absurd i

  move_stays : (x : PlacedActivity) (m : Made) → Stays (places_turn.turn_move s p x m)
  move_stays x (Made.Command c) = if_stays (is_some x.pending) None _ tt (command_stays _ x.act (ideal_run (Step.Issue x.act c ∷ []) s))
  move_stays x (Made.Await ep) = if_stays (places_turn.is_repeat x.pending ep) _ None (await_stays x ep _) tt
  move_stays x Made.Quantum = tt
  move_stays x Made.End = if_stays (is_some x.pending) None _ tt (λ i. absurd i)

  quantum_stays : (x : PlacedActivity) (m : Made) → Stays (places_turn.quantum_turn s p x m)
  quantum_stays x Made.Quantum = λ i. absurd i
  quantum_stays x (Made.Command c) = tt
  quantum_stays x (Made.Await ep) = tt
  quantum_stays x Made.End = tt

  made_stays : (x : PlacedActivity) (o : Option Made) → Stays (places_turn.turn_made s p x o)
  made_stays x None = tt
  made_stays x (Some m) = if_stays (places_turn.is_due_quantum p x) _ _ (quantum_stays x m) (move_stays x m)

  idle_stays : (why : IdleWhy) → Stays (places_landing.idle_outcome why s p)
  idle_stays why i = (refl, refl)

  turn_stays : (made : Option Made) (o : Option PlacedActivity) → Stays (places_turn.turn_of s p made o)
  turn_stays made None = tt
  turn_stays made (Some x) =
      let moving : Option PlacementResult = places_turn.turn_made s p x made in
      let waiting : Option PlacementResult = if places_turn.is_waiting_turn s x then places_landing.idle_outcome IdleWhy.Waiting s p else moving in
      let busy : Option PlacementResult = if places_turn.busy_any (context_of x.act s.contexts) then places_landing.idle_outcome IdleWhy.Busy s p else waiting in
      let ended : Option PlacementResult = if x.ended then places_landing.idle_outcome IdleWhy.Ended s p else busy in
      if_stays (not (places_state.is_current x.act p)) (places_landing.idle_outcome IdleWhy.NotCurrent s p) ended (idle_stays IdleWhy.NotCurrent) (
      if_stays x.ended (places_landing.idle_outcome IdleWhy.Ended s p) busy (idle_stays IdleWhy.Ended) (
      if_stays (places_turn.busy_any (context_of x.act s.contexts)) (places_landing.idle_outcome IdleWhy.Busy s p) waiting (idle_stays IdleWhy.Busy) (
      if_stays (places_turn.is_waiting_turn s x) (places_landing.idle_outcome IdleWhy.Waiting s p) moving (idle_stays IdleWhy.Waiting) (made_stays x made)
      )
      )
      )

  do_stays : (a : ℕ) (c : Command) → Stays (places_command.command s p a c)
  do_stays a c =
      let issued : Option PlacementResult = places_command.command_by s p a (ideal_run (Step.Issue a c ∷ []) s) in
      let busy : Option PlacementResult = if places_command.busy_with c (context_of a s.contexts) then places_landing.idle_outcome IdleWhy.Busy s p else issued in
      if_stays (not (places_state.is_current a p)) (places_landing.idle_outcome IdleWhy.NotCurrent s p) busy (idle_stays IdleWhy.NotCurrent) (
      if_stays (places_command.busy_with c (context_of a s.contexts)) (places_landing.idle_outcome IdleWhy.Busy s p) issued (idle_stays IdleWhy.Busy) (command_stays p a (ideal_run (Step.Issue a c ∷ []) s))
      )

  -- ---- takes and tends

  came_said : (id : FlightId) (steps : List Step) (o : Option RunResult) (c : LandingResult) → places_landing.landing_result_by s id steps o ≡ Some c → IsIdle c.said → ⊥
  came_said id steps None c e i = cc
  came_said id steps (Some r) c e i = words_said false r.words (subst IsIdle (sym (ap said_in e)) i)
    where
      said_in : Option LandingResult → Said
      said_in None = Said.Nothing
      said_in (Some x) = x.said

  restored_stays : (said : Said) (t : State) (q : Placement) (o : Option PlacedActivity) → (IsIdle said → ⊥) → Stays (places_take.with_restore said t q o)
  restored_stays said t q None n = λ i. absurd (n i)
  restored_stays said t q (Some x) n = λ i. absurd (n i)

  here_stays : (t : ℕ) (q : Placement) (id : FlightId) (o : Option LandingResult) → places_landing.landing_result s id ≡ o → Stays (places_take.land_here t q o)
  here_stays t q id None e = tt
  here_stays t q id (Some c) e = λ i. absurd (came_said id (places_landing.landing_steps s id) (ideal_run (places_landing.landing_steps s id) s) c e i)

  bounced_stays : (q : Placement) (t : ℕ) (id : FlightId) (o : Option ℕ) → Stays (places_take.bounced s q t id o)
  bounced_stays q t id None = tt
  bounced_stays q t id (Some a) = λ i. absurd i

  tile_stays : (q : Placement) (t : ℕ) (x : LinkToken) → Stays (places_take.take_at_tile s q t x)
  tile_stays q t (places_state.Data id) =
      if_stays ((t == 1) || places_take.is_here (places_routing.target_of (flight id s.flights)) (places_state.current_of t q)) (places_take.land_here t q (places_landing.landing_result s id)) (places_take.bounced s q t id (places_routing.target_of (flight id s.flights)))
      (here_stays t q id (places_landing.landing_result s id) refl) (bounced_stays q t id (places_routing.target_of (flight id s.flights)))
  tile_stays q t (places_state.Save a) = λ i. absurd i
  tile_stays q t (places_state.Restore a) = λ i. absurd i
  tile_stays q t (places_state.Saved a w e) = tt
  tile_stays q t (places_state.Yield a) = tt
  tile_stays q t (places_state.Closed g) = tt

  routed_said : (id : FlightId) (a : Option ℕ) (b : Bool) → IsIdle (places_take.routing_outcome id a b) → ⊥
  routed_said id None b i = i
  routed_said id (Some a) true i = i
  routed_said id (Some a) false i = i

  saved_stays : (q : Placement) (w e : Bool) (o : Option PlacedActivity) → Stays (places_take.saved_in s q w e o)
  saved_stays q w e None = tt
  saved_stays q w e (Some x) = restored_stays (Said.Saved x.act) s _ _ (λ i. i)

  run_stays : (q : Placement) (o : Option RunResult) → Stays (places_take.done_by s q o)
  run_stays q None = tt
  run_stays q (Some r) = by_words false r q

  kernel_stays : (q : Placement) (x : LinkToken) → Stays (places_take.take_at_kernel s q x)
  kernel_stays q (places_state.Data id) =
      let a : Option ℕ = places_routing.target_of (flight id s.flights) in
      λ i. absurd (routed_said id a (places_routing.route id (places_routing.actor_for a q) q).held i)
  kernel_stays q (places_state.Saved a w e) = saved_stays q w e (places_state.actor a q)
  kernel_stays q (places_state.Yield a) = λ i. absurd i
  kernel_stays q (places_state.Closed g) = run_stays q (ideal_run (Step.Done g ∷ []) s)
  kernel_stays q (places_state.Save a) = tt
  kernel_stays q (places_state.Restore a) = tt

  take_stays : (to from : ℕ) (ts : List LinkToken) → Stays (places_take.take s p to from ts)
  take_stays to from [] = idle_stays IdleWhy.EmptyLink
  take_stays to from (t ∷ ts) = if_stays (to == 0) _ _ (kernel_stays (places_state.with_link from to ts p) t) (tile_stays (places_state.with_link from to ts p) to t)

  tended_stays : (t : ℕ) (q : Placement) (id : FlightId) (o : Option LandingResult) → places_landing.landing_result s id ≡ o → Stays (places_tend.after_tend t q o)
  tended_stays t q id None e = tt
  tended_stays t q id (Some c) e = restored_stays c.said c.state _ _ (came_said id (places_landing.landing_steps s id) (ideal_run (places_landing.landing_steps s id) s) c e)

  front_stays : (x : PlacedActivity) (ids : List FlightId) → Stays (places_tend.tend_front s p x ids)
  front_stays x [] = idle_stays IdleWhy.EmptyHold
  front_stays x (id ∷ ids) = tended_stays x.home _ id (places_landing.landing_result s id) refl

  tend_stays : (o : Option PlacedActivity) → Stays (places_tend.tend s p o)
  tend_stays None = tt
  tend_stays (Some x) = if_stays (places_state.is_placed x.place || places_state.is_leaving x.place) (places_landing.idle_outcome IdleWhy.NotResting s p) (places_tend.tend_front s p x x.hold) (idle_stays IdleWhy.NotResting) (front_stays x x.hold)

  -- ---- orders and closes

  switched_stays : (t : ℕ) (x : PlacedActivity) (o : Option PlacedActivity) → Stays (places_order.after_switch s p t x o)
  switched_stays t x None = tt
  switched_stays t x (Some b) = λ i. absurd i

  switch_stays : (t : ℕ) (o : Option PlacedActivity) → Stays (places_order.switch s p t o)
  switch_stays t None = tt
  switch_stays t (Some x) =
      let no : No → Option PlacementResult = λ why. step_outcome (Said.No why) s p in
      let going : Option PlacementResult = places_order.after_switch s p t x (places_order.placed_at t p.actors) in
      let moving : Option PlacementResult = if list_any (places_order.is_moving_at t) p.actors then no No.Leaving else going in
      let there : Option PlacementResult = if places_state.is_placed x.place || places_state.is_coming x.place then no No.Already else moving in
      if_stays (not (x.home == t)) (no No.NotHome) there (λ i. absurd i) (
      if_stays (places_state.is_placed x.place || places_state.is_coming x.place) (no No.Already) moving (λ i. absurd i) (
      if_stays (list_any (places_order.is_moving_at t) p.actors) (no No.Leaving) going (λ i. absurd i) (switched_stays t x (places_order.placed_at t p.actors))
      )
      )

  order_stays : (r : Routed) (o : Option RunResult) → Stays (places_order.order_by s r o)
  order_stays r None = tt
  order_stays r (Some x) = by_words r.held x r.places

  close_stays : (o : Option ℕ) → Stays (places_order.close_least s p o)
  close_stays None = idle_stays IdleWhy.NothingToClose
  close_stays (Some g) = order_stays _ _

  event_stays : (e : Event) (made : Option Made) → Stays (placement_step s p e made)
  event_stays (Event.Do a c) made = do_stays a c
  event_stays (Event.Turn a) made = turn_stays made (places_state.actor a p)
  event_stays (Event.Take to from) made = take_stays to from (places_state.link from to p)
  event_stays (Event.Tend a) made = tend_stays (places_state.actor a p)
  event_stays Event.Close made = close_stays (places_order.least_closing s.grants 1 s.grants)
  event_stays (Event.Order (Order.Switch t a)) made = switch_stays t (places_state.actor a p)
  event_stays (Event.Order (Order.Grant line)) made = order_stays _ _
  event_stays (Event.Order (Order.Revoke g)) made = order_stays _ _
  event_stays (Event.File line) made = tt

  moved_stays : (e : Event) (o : Outcome) (next : Placement) → IsIdle o.said → ((d : PlacementResult) × (placement_step s p e o.made ≡ Some d) × (d.said ≡ o.said) × (d.places ≡ next)) → next ≡ p
  moved_stays e o next i m =
      let k = subst Stays m.1 (event_stays e o.made) in
      sym m.3 ∙ (k (subst IsIdle (sym m.2) i)).1

  pub idle_places : (e : Event) (o : Outcome) (next : Placement) → IsIdle o.said → IsPlacementStep s p (entry e o) next → next ≡ p
  idle_places (Event.Do a c) o next i step = moved_stays (Event.Do a c) o next i (step.moves.0, step.moves.1, step.moves.2.said, step.moves.2.places)
  idle_places (Event.Turn a) o next i step = moved_stays (Event.Turn a) o next i (step.moves.0, step.moves.1, step.moves.2.said, step.moves.2.places)
  idle_places (Event.Take to from) o next i step = moved_stays (Event.Take to from) o next i (step.moves.0, step.moves.1, step.moves.2.said, step.moves.2.places)
  idle_places (Event.Tend a) o next i step = moved_stays (Event.Tend a) o next i (step.moves.0, step.moves.1, step.moves.2.said, step.moves.2.places)
  idle_places Event.Close o next i step = moved_stays Event.Close o next i (step.moves.0, step.moves.1, step.moves.2.said, step.moves.2.places)
  idle_places (Event.Order r) o next i step = moved_stays (Event.Order r) o next i (step.moves.0, step.moves.1, step.moves.2.said, step.moves.2.places)
  idle_places (Event.File line) o next i step = step.moves

-- an idle outcome by its reason
idle_word : (said : Said) → IsIdle said → (why : IdleWhy) × (said ≡ Said.Idle why)
idle_word (Said.Flying a) i = absurd i
idle_word (Said.Message a b c d) i = absurd i
idle_word (Said.ReplyMessage a b c d) i = absurd i
idle_word Said.Nothing i = absurd i
idle_word (Said.Acknowledged a) i = absurd i
idle_word (Said.Refused a) i = absurd i
idle_word Said.Awake i = absurd i
idle_word Said.Yield i = absurd i
idle_word Said.Asleep i = absurd i
idle_word Said.Ended i = absurd i
idle_word (Said.Idle why) i = (why, refl)
idle_word (Said.Landed a) i = absurd i
idle_word (Said.LandRefused a b) i = absurd i
idle_word (Said.Answered a b c) i = absurd i
idle_word (Said.Credited a b) i = absurd i
idle_word (Said.Discarded a b) i = absurd i
idle_word (Said.Installed a b) i = absurd i
idle_word (Said.Closing a b) i = absurd i
idle_word (Said.Closed a b) i = absurd i
idle_word (Said.Bounced a) i = absurd i
idle_word (Said.Routed a) i = absurd i
idle_word (Said.Held a b) i = absurd i
idle_word (Said.Saving a) i = absurd i
idle_word (Said.Saved a) i = absurd i
idle_word (Said.Current a) i = absurd i
idle_word (Said.Yielded a) i = absurd i
idle_word (Said.Done a b) i = absurd i
idle_word (Said.Save a) i = absurd i
idle_word (Said.No a) i = absurd i
idle_word (Said.Granted a b c) i = absurd i
idle_word (Said.Revoking a) i = absurd i
idle_word (Said.CloseSent a b c) i = absurd i
idle_word Said.Created i = absurd i
idle_word Said.Extended i = absurd i
idle_word Said.Removed i = absurd i
idle_word (Said.Part a b c) i = absurd i
idle_word Said.Revoke i = absurd i

steps_none : (e : Event) (made : Option Made) (why : IdleWhy) (restore : Option ℕ) → allows_outcome e made (Said.Idle why) ≡ true → steps_of e (record { made = made; said = Said.Idle why; restore = restore }) ≡ []
steps_none (Event.Do a c) made why r k = refl
steps_none (Event.Turn a) None why r k = refl
steps_none (Event.Turn a) (Some (Made.Command c)) why r k = refl
steps_none (Event.Turn a) (Some (Made.Await ep)) why r k = refl
steps_none (Event.Turn a) (Some Made.Quantum) why r k = refl
steps_none (Event.Turn a) (Some Made.End) why r k = refl
steps_none (Event.Take to from) made why r k = refl
steps_none (Event.Tend a) made why r k = refl
steps_none Event.Close made why r k = refl
steps_none (Event.Order (Order.Switch t a)) made why r k = refl
steps_none (Event.Order (Order.Grant line)) None why r k = absurd (cc)
steps_none (Event.Order (Order.Grant line)) (Some m) why r k = absurd (cc)
steps_none (Event.Order (Order.Revoke g)) None why r k = absurd (cc)
steps_none (Event.Order (Order.Revoke g)) (Some m) why r k = absurd (cc)
steps_none (Event.File line) made why r k = refl

-- an idle entry has no steps
pub idle_state : (s : State) (e : Event) (o : Outcome) → IsIdle o.said → is_allowed_outcome e o ≡ true → next_state s (entry e o) ≡ s
idle_state s e o i b =
    let w = idle_word o.said i in
    let none : steps_of e o ≡ [] =
    ap (λ (x : Said). steps_of e (record { made = o.made; said = x; restore = o.restore })) w.1
    ∙ steps_none e o.made w.0 o.restore (subst (λ (x : Said). allows_outcome e o.made x ≡ true) w.1 (and_parts (allows_outcome e o.made o.said) (may_restore e o.said o.restore) b).0) in
    ap (λ (steps : List Step). ran_to (ideal_run steps s) s) none
