-- What the driver chooses isn't idle.
use Rattle.std.proofs.Common.{◌≡◌, ℕ, ◌+◌, Bool, true, false, List, [], ◌∷◌, length, Some, None, refl, sym, subst, ◌∙◌, ap, arith}
use Rattle.std.specs.Prelude.{Option, if◌then◌else◌, ◌==◌, not, ◌&&◌, ◌||◌, is_some, nat_lt}
use Rattle.std.specs.List.{list_any}
use Rattle.std.proofs.lemmas.Bool.Decides.{nat_tests}
use Rattle.m3_base.specs.declared.ids.FlightId.{FlightId}
use Rattle.m3_base.specs.declared.order.Order.{Order}
use Rattle.m3_base.specs.declared.event.Event.{Event}
use Rattle.m3_base.specs.declared.event.Made.{Made}
use Rattle.m3_base.specs.declared.event.Said.{Said}
use Rattle.m3_base.specs.declared.event.No.{No}
use Rattle.m3_base.specs.declared.event.IdleWhy.{IdleWhy}
use Rattle.m3_base.specs.declared.step.Step.{Step}
use Rattle.m3_base.specs.Lists.Keyed as keyed
use Rattle.m3_base.specs.Ideal.Flights.{flight}
use Rattle.m3_base.specs.Ideal.State.{State, context_of}
use Rattle.m3_base.specs.Ideal.Step.{RunResult, ideal_run}
use Rattle.m3_base.specs.Journal.Entry.{ran_to, is_idle}
use Rattle.m3_base.specs.Placement.State.{Placement, PlacedActivity, LinkToken, Data, Save, Saved, Restore, Yield, Closed, actor, actor_act, with_link, current_of, home_in, is_current, with_token, join_ready, at_place, Resting, with_actor, is_placed, is_leaving, is_coming, is_resting}
use Rattle.m3_base.specs.Placement.Landing.{PlacementResult, LandingResult, landing_result, landing_result_by, landing_steps, step_outcome, idle_outcome, push_closed}
use Rattle.m3_base.specs.Placement.Routing.{Routed, target_of, route, actor_for}
use Rattle.m3_base.specs.Placement.Take.{bounced, is_here, take, take_at_kernel, take_at_tile, take_data, land_here, with_restore, saved_in, done_by, routing_outcome, first_due, is_leaving_at, has_unread_at}
use Rattle.m3_base.specs.Placement.Tend.{tend, tend_front, after_tend, answer_routed}
use Rattle.m3_base.specs.Placement.Order.{is_moving_at, close_least, order_by, route_new, switch, after_switch, placed_at, order}
use Rattle.m3_base.specs.Placement.Step.{placement_step}
use Rattle.m3_base.specs.Placement.Turn.{turn_of, turn_made, turn_move, quantum_turn, await_turn, busy_any, is_waiting_turn, is_due_quantum, is_repeat, yield_once}
use Rattle.m3_base.specs.Placement.Command.{command_by}
use Rattle.m3_base.specs.Ideal.State.{is_number}
use Rattle.m3_base.specs.Ideal.State.{same_act}
use Rattle.m3_base.specs.Placement.Driver.{can_tend, least_of, least_tend}
use Rattle.m3_quiet.specs.Facts.{ActorsApart, Facts}
use Rattle.m3_quiet.specs.Runs.{ChoicesAreNotIdle}
use Rattle.m3_quiet.proofs.Events.Kinds.{found_act, found_itself}
use Rattle.m3_quiet.proofs.Driver.Outcomes.{said_works}
use Rattle.m3_quiet.proofs.Driver.Choices.{Chosen, Take_of, Tend_of, Close_of, Order_of, Switch_of, Turn_of, chosen}
use Rattle.std.proofs.lemmas.Bool.{eqb-true}

-- an outcome that isn't idle, if there is one
abbrev pub AllWork : Option PlacementResult → Type 0
AllWork None = Unit {0}
AllWork (Some d) = is_idle d.said ≡ false

restored_works : (said : Said) (s : State) (p : Placement) (r : Option PlacedActivity) → is_idle said ≡ false → AllWork (with_restore said s p r)
restored_works said s p None h = h
restored_works said s p (Some x) h = h

order_works : (s : State) (r : Routed) (o : Option RunResult) → AllWork (order_by s r o)
order_works s r None = tt
order_works s r (Some x) = said_works r.held x.words

-- what came isn't idle
abbrev pub CameWorks : Option LandingResult → Type 0
CameWorks None = Unit {0}
CameWorks (Some c) = is_idle c.said ≡ false

came_works : (s : State) (id : FlightId) → CameWorks (landing_result s id)
came_works s id = by_ran (landing_steps s id) (ideal_run (landing_steps s id) s)
  where
    by_ran : (ts : List Step) (o : Option RunResult) → CameWorks (landing_result_by s id ts o)
    by_ran ts None = tt
    by_ran ts (Some r) = said_works false r.words

-- ---- takes

land_works : (t : ℕ) (p : Placement) (o : Option LandingResult) → CameWorks o → AllWork (land_here t p o)
land_works t p None h = tt
land_works t p (Some c) h = h

bounce_works : (s : State) (p : Placement) (t : ℕ) (id : FlightId) (o : Option ℕ) → AllWork (bounced s p t id o)
bounce_works s p t id None = tt
bounce_works s p t id (Some a) = refl

data_works : (s : State) (p : Placement) (t : ℕ) (id : FlightId) → AllWork (take_data s p t id)
data_works s p t id = by_here ((t == 1) || is_here (target_of (flight id s.flights)) (current_of t p))
  where
    by_here : (b : Bool) → AllWork (if b then land_here t p (landing_result s id) else bounced s p t id (target_of (flight id s.flights)))
    by_here true = land_works t p (landing_result s id) (came_works s id)
    by_here false = bounce_works s p t id (target_of (flight id s.flights))

tile_works : (s : State) (p : Placement) (t : ℕ) (k : LinkToken) → AllWork (take_at_tile s p t k)
tile_works s p t (Data id) = data_works s p t id
tile_works s p t (Save a) = refl
tile_works s p t (Restore a) = refl
tile_works s p t (Saved a w e) = tt
tile_works s p t (Yield a) = tt
tile_works s p t (Closed g) = tt

routed_works : (id : FlightId) (a : Option ℕ) (b : Bool) → is_idle (routing_outcome id a b) ≡ false
routed_works id None true = refl
routed_works id None false = refl
routed_works id (Some a) true = refl
routed_works id (Some a) false = refl

done_works : (s : State) (p : Placement) (o : Option RunResult) → AllWork (done_by s p o)
done_works s p None = tt
done_works s p (Some r) = said_works false r.words

saved_works : (s : State) (p : Placement) (w e : Bool) (o : Option PlacedActivity) → AllWork (saved_in s p w e o)
saved_works s p w e None = tt
saved_works s p w e (Some x) =
    let q = join_ready (x.has_program && (not w && not e)) x.home x.act (at_place Resting x p) in
    restored_works (Said.Saved x.act) s q (if list_any (is_leaving_at x.home) q.actors then None else first_due x.home q.actors) refl

kernel_works : (s : State) (p : Placement) (k : LinkToken) → AllWork (take_at_kernel s p k)
kernel_works s p (Data id) = routed_works id (target_of (flight id s.flights)) (route id (actor_for (target_of (flight id s.flights)) p) p).held
kernel_works s p (Saved a w e) = saved_works s p w e (actor a p)
kernel_works s p (Yield a) = refl
kernel_works s p (Closed g) = done_works s p (ideal_run (Step.Done g ∷ []) s)
kernel_works s p (Save a) = tt
kernel_works s p (Restore a) = tt

take_works : (s : State) (p : Placement) (to from : ℕ) (t : LinkToken) (ts : List LinkToken) → AllWork (take s p to from (t ∷ ts))
take_works s p to from t ts = by_to (to == 0)
  where
    by_to : (b : Bool) → AllWork (if b then take_at_kernel s (with_link from to ts p) t else take_at_tile s (with_link from to ts p) to t)
    by_to true = kernel_works s (with_link from to ts p) t
    by_to false = tile_works s (with_link from to ts p) to t

-- ---- tend

-- the least one of those that can be tended
abbrev pub Tendable : List PlacedActivity → ℕ → Type 0
Tendable xs a = (y : PlacedActivity) × (keyed.find actor_act same_act a xs ≡ Some y) × (can_tend y ≡ true)

least_found : (xs : List PlacedActivity) (a : ℕ) → ActorsApart xs → least_tend xs ≡ Some a → Tendable xs a
least_found [] a apart h = absurd (cc)
least_found (x ∷ xs) a apart h = by_can (can_tend x) refl (least_tend xs) refl (λ b. least_found xs b apart.1) h
  where
    here : (b : ℕ) → b ≡ x.act → can_tend x ≡ true → Tendable (x ∷ xs) b
    here b e can = subst (Tendable (x ∷ xs)) (sym e) (x, at_head (x.act == x.act) (grind (arith, nat_tests)), can)
      where
        at_head : (c : Bool) → c ≡ true → (if c then Some x else keyed.find actor_act same_act x.act xs) ≡ Some x
        at_head true w = refl
        at_head false w = absurd (cc)

    further : (b : ℕ) → Tendable xs b → Tendable (x ∷ xs) b
    further b (y, f, can) = (y, by_act (b == x.act) refl, can)
      where
        by_act : (c : Bool) → (b == x.act) ≡ c → (if c then Some x else keyed.find actor_act same_act b xs) ≡ Some y
        by_act true e = let none : keyed.find actor_act same_act b xs ≡ None = subst (λ k. keyed.find actor_act same_act k xs ≡ None) (sym (eqb-true b x.act e)) apart.0 in absurd (cc)
        by_act false e = f

    by_less : (b : ℕ) → Tendable xs b → can_tend x ≡ true → (c : Bool) → (if c then b else x.act) ≡ a → Tendable (x ∷ xs) a
    by_less b t can true e = subst (Tendable (x ∷ xs)) e (further b t)
    by_less b t can false e = here a (sym e) can

    by_can : (c : Bool) → can_tend x ≡ c → (o : Option ℕ) → least_tend xs ≡ o → ((b : ℕ) → least_tend xs ≡ Some b → Tendable xs b) → (if c then Some (least_of o x.act) else o) ≡ Some a → Tendable (x ∷ xs) a
    by_can true f None g ih w = let same : x.act ≡ a = cc in here a (sym same) f
    by_can true f (Some b) g ih w = let same : least_of (Some b) x.act ≡ a = cc in by_less b (ih b g) f (nat_lt b x.act) same
    by_can false f o g ih w = further a (ih a (g ∙ w))

tended_works : (t : ℕ) (p : Placement) (o : Option LandingResult) → CameWorks o → AllWork (after_tend t p o)
tended_works t p None h = tt
tended_works t p (Some c) h = let q = push_closed 0 c.freed (answer_routed c.answer p) in restored_works c.said c.state q (if list_any (is_leaving_at t) q.actors then None else first_due t q.actors) h

tend_works : (s : State) (p : Placement) (x : PlacedActivity) → can_tend x ≡ true → AllWork (tend s p (Some x))
tend_works s p x can = by_place (is_placed x.place || is_leaving x.place) refl
  where
    by_hold : not (length x.hold == 0) ≡ true → (ids : List FlightId) → x.hold ≡ ids → AllWork (tend_front s p x ids)
    by_hold some [] e = let none : not (length x.hold == 0) ≡ false = ap (λ l. not (length l == 0)) e in absurd (cc)
    by_hold some (id ∷ ids) e = tended_works x.home (join_ready (is_resting x.place && (x.has_program && not x.ended)) x.home x.act (with_actor (record x { hold = ids }) p)) (landing_result s id) (came_works s id)

    by_place : (b : Bool) → (is_placed x.place || is_leaving x.place) ≡ b → AllWork (if b then idle_outcome IdleWhy.NotResting s p else tend_front s p x x.hold)
    by_place true e = let no : can_tend x ≡ false = ap (λ b. not b && not (length x.hold == 0)) e in absurd (cc)
    by_place false e = by_hold (second_of (not (is_placed x.place || is_leaving x.place)) (not (length x.hold == 0)) can) x.hold refl
      where
        second_of : (b c : Bool) → (b && c) ≡ true → c ≡ true
        second_of true c h = h
        second_of false c h = absurd (cc)

-- ---- orders

switched_works : (s : State) (p : Placement) (t : ℕ) (x : PlacedActivity) (o : Option PlacedActivity) → AllWork (after_switch s p t x o)
switched_works s p t x None = tt
switched_works s p t x (Some b) = refl

switch_works : (s : State) (p : Placement) (t : ℕ) (o : Option PlacedActivity) → AllWork (switch s p t o)
switch_works s p t None = tt
switch_works s p t (Some x) = by_flags (not (x.home == t)) (is_placed x.place || is_coming x.place) (list_any (is_moving_at t) p.actors)
  where
    by_flags : (a b c : Bool) → AllWork (if a then step_outcome (Said.No No.NotHome) s p else (if b then step_outcome (Said.No No.Already) s p else (if c then step_outcome (Said.No No.Leaving) s p else after_switch s p t x (placed_at t p.actors))))
    by_flags true b c = refl
    by_flags false true c = refl
    by_flags false false true = refl
    by_flags false false false = switched_works s p t x (placed_at t p.actors)

any_order_works : (s : State) (p : Placement) (o : Order) → AllWork (order s p o)
any_order_works s p (Order.Switch t a) = switch_works s p t (actor a p)
any_order_works s p (Order.Grant line) = order_works s (route_new s (ran_to (ideal_run (Step.Make line ∷ []) s) s) p) (ideal_run (Step.Make line ∷ []) s)
any_order_works s p (Order.Revoke g) = order_works s (route_new s (ran_to (ideal_run (Step.Revoke g ∷ []) s) s) p) (ideal_run (Step.Revoke g ∷ []) s)

-- ---- turns

command_works : (s : State) (p : Placement) (a : ℕ) (o : Option RunResult) → AllWork (command_by s p a o)
command_works s p a None = tt
command_works s p a (Some r) = said_works false r.words

await_works : (s : State) (p : Placement) (x : PlacedActivity) (ep : ℕ) (b : Bool) → AllWork (await_turn s p x ep b)
await_works s p x ep true = refl
await_works s p x ep false = by_sent x.yield_sent
  where
    by_sent : (b : Bool) → is_idle (if b then Said.Asleep else Said.Yield) ≡ false
    by_sent true = refl
    by_sent false = refl

move_works : (s : State) (p : Placement) (x : PlacedActivity) (m : Made) → AllWork (turn_move s p x m)
move_works s p x (Made.Command c) = by_pending (is_some x.pending)
  where
    by_pending : (b : Bool) → AllWork (if b then None else command_by s (with_actor (record x { moves = x.moves + 1 }) p) x.act (ideal_run (Step.Issue x.act c ∷ []) s))
    by_pending true = tt
    by_pending false = command_works s (with_actor (record x { moves = x.moves + 1 }) p) x.act (ideal_run (Step.Issue x.act c ∷ []) s)
move_works s p x (Made.Await ep) = by_repeat (is_repeat x.pending ep)
  where
    by_repeat : (b : Bool) → AllWork (if b then await_turn s p x ep (has_unread_at (context_of x.act s.contexts) (Some ep)) else None)
    by_repeat true = await_works s p x ep (has_unread_at (context_of x.act s.contexts) (Some ep))
    by_repeat false = tt
move_works s p x Made.Quantum = tt
move_works s p x Made.End = by_pending (is_some x.pending) (yield_once (record x { ended = true }) p)
  where
    by_pending : (b : Bool) (q : Placement) → AllWork (if b then None else step_outcome Said.Ended s q)
    by_pending true q = tt
    by_pending false q = refl

quantum_works : (s : State) (p : Placement) (x : PlacedActivity) (m : Made) → AllWork (quantum_turn s p x m)
quantum_works s p x (Made.Command c) = tt
quantum_works s p x (Made.Await ep) = tt
quantum_works s p x Made.Quantum = refl
quantum_works s p x Made.End = tt

made_works : (s : State) (p : Placement) (x : PlacedActivity) (m : Option Made) → AllWork (turn_made s p x m)
made_works s p x None = tt
made_works s p x (Some m) = by_due (is_due_quantum p x)
  where
    by_due : (b : Bool) → AllWork (if b then quantum_turn s p x m else turn_move s p x m)
    by_due true = quantum_works s p x m
    by_due false = move_works s p x m

turn_works : (s : State) (p : Placement) (made : Option Made) (x : PlacedActivity) → is_current x.act p ≡ true → x.ended ≡ false → busy_any (context_of x.act s.contexts) ≡ false → is_waiting_turn s x ≡ false → AllWork (turn_of s p made (Some x))
turn_works s p made x now going free awake = by_flags (is_current x.act p) x.ended (busy_any (context_of x.act s.contexts)) (is_waiting_turn s x) now going free awake
  where
    by_flags : (c e b w : Bool) → c ≡ true → e ≡ false → b ≡ false → w ≡ false → AllWork (if not c then idle_outcome IdleWhy.NotCurrent s p else (if e then idle_outcome IdleWhy.Ended s p else (if b then idle_outcome IdleWhy.Busy s p else (if w then idle_outcome IdleWhy.Waiting s p else turn_made s p x made))))
    by_flags true false false false f g h k = made_works s p x made
    by_flags false e b w f g h k = absurd (cc)
    by_flags true true b w f g h k = absurd (cc)
    by_flags true false true w f g h k = absurd (cc)
    by_flags true false false true f g h k = absurd (cc)

-- ---- any choice

choice_works : (s : State) (p : Placement) (left : List Order) (e : Event) (made : Option Made) → Facts s p → Chosen s p left e → AllWork (placement_step s p e made)
choice_works s p left e made facts (Take_of to from t ts h k f) = subst (λ l. AllWork (take s p to from l)) (sym f) (take_works s p to from t ts)
choice_works s p left e made facts (Tend_of a f) = by_found (least_found p.actors a facts.fine.apart f)
  where
    by_found : Tendable p.actors a → AllWork (tend s p (actor a p))
    by_found (y, g, can) = subst (λ o. AllWork (tend s p o)) (sym g) (tend_works s p y can)
choice_works s p left e made facts (Close_of g f) = subst (λ o. AllWork (close_least s p o)) (sym f) (order_works s (route_new s (ran_to (ideal_run (Step.Close g ∷ []) s) s) p) (ideal_run (Step.Close g ∷ []) s))
choice_works s p left e made facts (Order_of o os f) = any_order_works s p o
choice_works s p left e made facts (Switch_of t a as' none r f g) = switch_works s p t (actor a p)
choice_works s p left e made facts (Turn_of t b x f g can) =
    let here : actor x.act p ≡ Some x = found_itself p b x g in
    let lives : x.home ≡ t = facts.current t b x f g in
    let mine : x.act ≡ b = found_act b p.actors x g in
    let now : is_current x.act p ≡ true = subst (λ o. is_number x.act (current_of (home_in o) p) ≡ true) (sym here) (subst (λ k. is_number x.act (current_of k p) ≡ true) (sym lives) (subst (λ o. is_number x.act o ≡ true) (sym f) (let same : (b == x.act) ≡ true = grind (arith, nat_tests, mine) in same))) in
    let going : x.ended ≡ false = grind (arith, nat_tests, can) in
    let free : busy_any (context_of x.act s.contexts) ≡ false = grind (arith, nat_tests, can) in
    let awake : is_waiting_turn s x ≡ false = grind (arith, nat_tests, can) in
    subst (λ o. AllWork (turn_of s p made o)) (sym here) (turn_works s p made x now going free awake)

pub next_works : ChoicesAreNotIdle
next_works s p left e made d facts next step = subst AllWork step (choice_works s p left e made facts (chosen s p left e next))
