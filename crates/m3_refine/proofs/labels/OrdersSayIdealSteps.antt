-- Orders, turns and then any event: what the places' step gives is what the ideal steps of its entry say, and the state that they reach.
use Rattle.std.proofs.Common.{◌≡◌, ℕ, ◌+◌, Bool, true, false, cond, List, [], ◌∷◌, Some, None, refl, sym, subst, ◌∙◌, ap, arith, Option, inl, inr}
use Rattle.std.specs.Prelude.{if◌then◌else◌, ◌==◌, not, ◌||◌, is_some}
use Rattle.std.specs.List.{list_any}
use Rattle.std.proofs.lemmas.Bool.Decides.{nat_tests}
use Rattle.m3_base.specs.declared.ids.FlightId.{FlightId}
use Rattle.m3_base.specs.declared.command.Command.{Command}
use Rattle.m3_base.specs.declared.packet.Fresh.{Fresh}
use Rattle.m3_base.specs.declared.order.GrantLine.{GrantLine}
use Rattle.m3_base.specs.declared.order.Order.{Order}
use Rattle.m3_base.specs.declared.event.Event.{Event}
use Rattle.m3_base.specs.declared.event.Made.{Made}
use Rattle.m3_base.specs.declared.event.Said.{Said}
use Rattle.m3_base.specs.declared.event.No.{No}
use Rattle.m3_base.specs.declared.event.IdleWhy.{IdleWhy}
use Rattle.m3_base.specs.declared.step.Step.{Step}
use Rattle.m3_base.specs.Ideal.Context.{Context, endpoint}
use Rattle.m3_base.specs.Ideal.State.{Grant, State, context_of, grant_in, holder, same_act}
use Rattle.m3_base.specs.Ideal.GrantRules.{may_close, revoke_refusal, kernel_id}
use Rattle.m3_base.specs.Lists.Keyed as keyed
use Rattle.m3_base.specs.Ideal.Step.{Label, At_issue, Present, Landing, Refusing, Credits, Discards, Installs, Starts_closing, Closes_endpoint, Answers, Not_made, Makes, Revokes, Sends_close, Frees, Finishes, IdealResult, ideal_step, ideal_run, on_from, make_for, make_in, revoke_in, send_close_in, has_unread, await_in}
use Rattle.m3_base.specs.Journal.Entry.{Shows, ShowsNone, ran_to, said_of, is_held, turn_steps, close_steps, order_steps}
use Rattle.m3_base.specs.Placement.Routing as places_routing
use Rattle.m3_base.specs.Placement.Order as places_order
use Rattle.m3_base.specs.Placement.State as places_state
use Rattle.m3_base.specs.Placement.Landing as places_landing
use Rattle.m3_base.specs.Placement.Turn as places_turn
use Rattle.m3_base.specs.Placement.Command as places_command
use Rattle.m3_base.specs.Placement.Take as places_take
use Rattle.m3_base.specs.Placement.Tend as places_tend
use Rattle.m3_base.specs.Placement.State.{Placement, PlacedActivity}
use Rattle.m3_base.specs.Placement.Step.{placement_step}
use Rattle.m3_base.specs.Placement.Landing.{PlacementResult, said_or_nothing}
use Rattle.m3_refine.proofs.labels.EventSaysIdealSteps.{SaidBy, SaysAs, CommandAs, one_step, command_as, do_as}
use Rattle.m3_refine.proofs.labels.TakesSayIdealSteps.{TakeAs, take_as, tend_as}

-- ---- orders

abbrev Sayings : Option IdealResult → (Label → Type 0) → Type 0
Sayings None P = Unit {0}
Sayings (Some n) P = P n.word

abbrev pub OrderAs : List Step → State → Option PlacementResult → Type 0
OrderAs ts s None = Unit {0}
OrderAs ts s (Some d) = SaidBy ts s d.said d.state

-- the kernel's words
abbrev IsOrderWord : Label → Type 0
IsOrderWord (Not_made why) = Unit {0}
IsOrderWord (Makes g id) = Unit {0}
IsOrderWord (Revokes g) = Unit {0}
IsOrderWord (Sends_close g id) = Unit {0}
IsOrderWord w = ⊥

order_shows : (held : Bool) (w : Label) → IsOrderWord w → (said : Said) × (said_of held (w ∷ []) ≡ Some said) × (said_of (is_held said) (w ∷ []) ≡ Some said)
order_shows held (Not_made why) k = (Said.No why, refl, refl)
order_shows held (Makes g id) k = (Said.Granted g id held, refl, refl)
order_shows held (Revokes g) k = (Said.Revoking g, refl, refl)
order_shows held (Sends_close g id) k = (Said.CloseSent g id held, refl, refl)
order_shows held (At_issue t) k = absurd k
order_shows held (Present b) k = absurd k
order_shows held (Landing x) k = absurd k
order_shows held (Refusing x why) k = absurd k
order_shows held (Credits x g) k = absurd k
order_shows held (Discards x g) k = absurd k
order_shows held (Installs x g) k = absurd k
order_shows held (Starts_closing x g) k = absurd k
order_shows held (Closes_endpoint x g) k = absurd k
order_shows held (Answers x answer o) k = absurd k
order_shows held (Frees g) k = absurd k
order_shows held (Finishes g b) k = absurd k

order_by_as : (s : State) (t : Step) (r : places_routing.Routed) (o : Option IdealResult) → ideal_step s t ≡ o → Sayings o IsOrderWord → OrderAs (t ∷ []) s (places_order.order_by s r (on_from (ideal_run []) o))
order_by_as s t r None e k = tt
order_by_as s t r (Some n) e k =
    let d = order_shows r.held n.word k in
    subst (λ o. SaidBy (t ∷ []) s (said_or_nothing o) n.state) (sym d.1) (one_step s n.state t n.word d.0 e (inl d.2))

made_word : (s : State) (line : GrantLine) (why : Option No) (f : Option Fresh) → Sayings (make_in s line why f) IsOrderWord
made_word s line (Some why) f = tt
made_word s line None None = tt
made_word s line None (Some f) = tt

make_word : (s : State) (line : GrantLine) (o : Option Context) → Sayings (make_for s line o) IsOrderWord
make_word s line None = tt
make_word s line (Some x) = made_word s line _ _

revoke_word : (s : State) (g : ℕ) (o : Option No) → Sayings (revoke_in s g o) IsOrderWord
revoke_word s g (Some why) = tt
revoke_word s g None = tt

make_as : (s : State) (p : Placement) (line : GrantLine) → OrderAs (Step.Make line ∷ []) s (places_order.kernel_step s p (Step.Make line ∷ []))
make_as s p line =
    order_by_as s (Step.Make line) (places_order.route_new s (ran_to (ideal_run (Step.Make line ∷ []) s) s) p) (ideal_step s (Step.Make line)) refl (make_word s line (context_of (holder line) s.contexts))

revoke_as : (s : State) (p : Placement) (g : ℕ) → OrderAs (Step.Revoke g ∷ []) s (places_order.kernel_step s p (Step.Revoke g ∷ []))
revoke_as s p g =
    order_by_as s (Step.Revoke g) (places_order.route_new s (ran_to (ideal_run (Step.Revoke g ∷ []) s) s) p) (ideal_step s (Step.Revoke g)) refl (revoke_word s g (revoke_refusal (grant_in s.grants g)))

abbrev pub CloseAs : State → Option PlacementResult → Type 0
CloseAs s None = Unit {0}
CloseAs s (Some d) = SaidBy (close_steps d.said) s d.said d.state

abbrev SendsWord : ℕ → Option IdealResult → Type 0
SendsWord g None = Unit {0}
SendsWord g (Some n) = (id : FlightId) × (n.word ≡ Sends_close g id)

close_word : (s : State) (g : ℕ) (o : Option Grant) → SendsWord g (send_close_in s g o)
close_word s g None = tt
close_word s g (Some x) = by_test (may_close s.grants g (Some x)) _
  where
    by_test : (b : Bool) (n : State) → SendsWord g (cond b (Some (record { word = Sends_close g (kernel_id s); state = n })) None)
    by_test true n = (kernel_id s, refl)
    by_test false n = tt

close_by_as : (s : State) (g : ℕ) (r : places_routing.Routed) (o : Option IdealResult) → ideal_step s (Step.Close g) ≡ o → SendsWord g o → CloseAs s (places_order.order_by s r (on_from (ideal_run []) o))
close_by_as s g r None e k = tt
close_by_as s g r (Some n) e k =
    let said = Said.CloseSent g k.0 r.held in
    subst (λ w. SaidBy (close_steps (said_or_nothing (said_of r.held (w ∷ [])))) s (said_or_nothing (said_of r.held (w ∷ []))) n.state) (sym k.1)
    (one_step s n.state (Step.Close g) (Sends_close g k.0) said (e ∙ ap (λ w. Some (record { word = w; state = n.state })) k.1) (inl refl))

close_as : (s : State) (p : Placement) (o : Option ℕ) → CloseAs s (places_order.close_least s p o)
close_as s p None = (tt, refl)
close_as s p (Some g) =
    close_by_as s g (places_order.route_new s (ran_to (ideal_run (Step.Close g ∷ []) s) s) p) (ideal_step s (Step.Close g)) refl (close_word s g (grant_in s.grants g))

switched_as : (s : State) (p : Placement) (t : ℕ) (x : PlacedActivity) (o : Option PlacedActivity) → OrderAs [] s (places_order.after_switch s p t x o)
switched_as s p t x None = tt
switched_as s p t x (Some b) = (tt, refl)

switch_as : (s : State) (p : Placement) (t : ℕ) (o : Option PlacedActivity) → OrderAs [] s (places_order.switch s p t o)
switch_as s p t None = tt
switch_as s p t (Some x) = by_tests (not (x.home == t)) (places_state.is_placed x.place || places_state.is_coming x.place) (list_any (places_order.is_moving_at t) p.actors)
  where
    by_tests : (a b c : Bool) → OrderAs [] s (cond a (places_landing.step_outcome (Said.No No.NotHome) s p) (cond b (places_landing.step_outcome (Said.No No.Already) s p) (cond c (places_landing.step_outcome (Said.No No.Leaving) s p) (places_order.after_switch s p t x (places_order.placed_at t p.actors)))))
    by_tests true b c = (tt, refl)
    by_tests false true c = (tt, refl)
    by_tests false false true = (tt, refl)
    by_tests false false false = switched_as s p t x (places_order.placed_at t p.actors)

-- ---- turns

abbrev pub TurnAs : State → ℕ → Option Made → Option PlacementResult → Type 0
TurnAs s a made None = Unit {0}
TurnAs s a made (Some d) = SaidBy (turn_steps a made d.said) s d.said d.state

idle_turn : (s : State) (p : Placement) (a : ℕ) (made : Option Made) (why : IdleWhy) → TurnAs s a made (places_landing.idle_outcome why s p)
idle_turn s p a None why = (tt, refl)
idle_turn s p a (Some (Made.Command c)) why = (tt, refl)
idle_turn s p a (Some (Made.Await ep)) why = (tt, refl)
idle_turn s p a (Some Made.Quantum) why = (tt, refl)
idle_turn s p a (Some Made.End) why = (tt, refl)

by_command : (s : State) (a : ℕ) (c : Command) (o : Option PlacementResult) → CommandAs s a c o → TurnAs s a (Some (Made.Command c)) o
by_command s a c None k = tt
by_command s a c (Some d) k = k

awaited : (s : State) (a ep : ℕ) (c : Context) (said : Said) → context_of a s.contexts ≡ Some c → Shows (Present (has_unread (endpoint c ep)) ∷ []) said → SaidBy (Step.Await a ep ∷ []) s said s
awaited s a ep c said found shows = one_step s s (Step.Await a ep) (Present (has_unread (endpoint c ep))) said (ap (λ o. await_in s o ep) found) shows

await_as : (s : State) (p : Placement) (x : PlacedActivity) (ep : ℕ) (c : Context) → context_of x.act s.contexts ≡ Some c → (b : Bool) → has_unread (endpoint c ep) ≡ b → TurnAs s x.act (Some (Made.Await ep)) (places_turn.await_turn s p x ep b)
await_as s p x ep c found true e = awaited s x.act ep c Said.Awake found (inl (ap (λ b. said_of false (Present b ∷ [])) e))
await_as s p x ep c found false e = by_sent x.yield_sent
  where
    by_sent : (b : Bool) → TurnAs s x.act (Some (Made.Await ep)) (places_landing.step_outcome (if b then Said.Asleep else Said.Yield) s (places_turn.yield_once (record x { pending = Some ep }) p))
    by_sent true = awaited s x.act ep c Said.Asleep found (inr (subst (λ b. ShowsNone (Present b ∷ []) Said.Asleep) (sym e) (inr refl)))
    by_sent false = awaited s x.act ep c Said.Yield found (inr (subst (λ b. ShowsNone (Present b ∷ []) Said.Yield) (sym e) (inl refl)))

move_as : (s : State) (p : Placement) (x : PlacedActivity) (c : Context) → context_of x.act s.contexts ≡ Some c → (m : Made) → TurnAs s x.act (Some m) (places_turn.turn_move s p x m)
move_as s p x c found (Made.Command d) = by_pending (is_some x.pending)
  where
    by_pending : (b : Bool) → TurnAs s x.act (Some (Made.Command d)) (cond b None (places_command.command_by s (places_state.with_actor (record x { moves = x.moves + 1 }) p) x.act (ideal_run (Step.Issue x.act d ∷ []) s)))
    by_pending true = tt
    by_pending false = by_command s x.act d (places_command.command_by s (places_state.with_actor (record x { moves = x.moves + 1 }) p) x.act (ideal_run (Step.Issue x.act d ∷ []) s)) (command_as s (places_state.with_actor (record x { moves = x.moves + 1 }) p) x.act d)
move_as s p x c found (Made.Await ep) = by_repeat (places_turn.is_repeat x.pending ep)
  where
    by_repeat : (b : Bool) → TurnAs s x.act (Some (Made.Await ep)) (cond b (places_turn.await_turn s p x ep (places_take.has_unread_at (context_of x.act s.contexts) (Some ep))) None)
    by_repeat true = await_as s p x ep c found (places_take.has_unread_at (context_of x.act s.contexts) (Some ep)) (sym (ap (λ o. places_take.has_unread_at o (Some ep)) found))
    by_repeat false = tt
move_as s p x c found Made.Quantum = tt
move_as s p x c found Made.End = by_pending (is_some x.pending)
  where
    by_pending : (b : Bool) → TurnAs s x.act (Some Made.End) (cond b None (places_landing.step_outcome Said.Ended s (places_turn.yield_once (record x { ended = true }) p)))
    by_pending true = tt
    by_pending false = (tt, refl)

quantum_as : (s : State) (p : Placement) (x : PlacedActivity) (m : Made) → TurnAs s x.act (Some m) (places_turn.quantum_turn s p x m)
quantum_as s p x (Made.Command c) = tt
quantum_as s p x (Made.Await ep) = tt
quantum_as s p x Made.Quantum = (tt, refl)
quantum_as s p x Made.End = tt

made_as : (s : State) (p : Placement) (x : PlacedActivity) (c : Context) → context_of x.act s.contexts ≡ Some c → (made : Option Made) → TurnAs s x.act made (places_turn.turn_made s p x made)
made_as s p x c found None = tt
made_as s p x c found (Some m) = by_due (places_turn.is_due_quantum p x)
  where
    by_due : (b : Bool) → TurnAs s x.act (Some m) (cond b (places_turn.quantum_turn s p x m) (places_turn.turn_move s p x m))
    by_due true = quantum_as s p x m
    by_due false = move_as s p x c found m

turn_as : (s : State) (p : Placement) (made : Option Made) (a : ℕ) (o : Option PlacedActivity) → ((x : PlacedActivity) → o ≡ Some x → (x.act ≡ a) × ((c : Context) × (context_of a s.contexts ≡ Some c))) → TurnAs s a made (places_turn.turn_of s p made o)
turn_as s p made a None k = tt
turn_as s p made a (Some x) k =
    let same = (k x refl).0 in
    let c = (k x refl).1 in
    by_tests (not (places_state.is_current x.act p)) x.ended (places_turn.busy_any (context_of x.act s.contexts)) (places_turn.is_waiting_turn s x)
    (subst (λ n. TurnAs s n made (places_turn.turn_made s p x made)) same (made_as s p x c.0 (ap (λ n. context_of n s.contexts) same ∙ c.1) made))
  where
    by_tests : (b d e f : Bool) → TurnAs s a made (places_turn.turn_made s p x made)
        → TurnAs s a made (cond b (places_landing.idle_outcome IdleWhy.NotCurrent s p) (cond d (places_landing.idle_outcome IdleWhy.Ended s p) (cond e (places_landing.idle_outcome IdleWhy.Busy s p) (cond f (places_landing.idle_outcome IdleWhy.Waiting s p) (places_turn.turn_made s p x made)))))
    by_tests true d e f h = idle_turn s p a made IdleWhy.NotCurrent
    by_tests false true e f h = idle_turn s p a made IdleWhy.Ended
    by_tests false false true f h = idle_turn s p a made IdleWhy.Busy
    by_tests false false false true h = idle_turn s p a made IdleWhy.Waiting
    by_tests false false false false h = h

-- ---- any event

actor_key : (a : ℕ) (xs : List PlacedActivity) (x : PlacedActivity) → keyed.find places_state.actor_act same_act a xs ≡ Some x → x.act ≡ a
actor_key a [] x e = absurd (cc)
actor_key a (y ∷ xs) x e = key_by a y x (keyed.find places_state.actor_act same_act a xs) (a == y.act) refl (actor_key a xs x) e
  where
    key_by : (a : ℕ) (z y : PlacedActivity) (o : Option PlacedActivity) (b : Bool) → (a == z.act) ≡ b → (o ≡ Some y → y.act ≡ a) → cond b (Some z) o ≡ Some y → y.act ≡ a
    key_by a z y o true d ih e = let k : z ≡ y = cc in ap (λ w. w.act) (sym k) ∙ (let n : z.act ≡ a = grind (arith, nat_tests, d) in n)
    key_by a z y o false d ih e = ih e

-- a turn is of an activity that has a context
abbrev pub HasContext : State → Event → Type 0
HasContext s (Event.Turn a) = (c : Context) × (context_of a s.contexts ≡ Some c)
HasContext s (Event.Do a c) = Unit {0}
HasContext s (Event.Take to from) = Unit {0}
HasContext s (Event.Tend a) = Unit {0}
HasContext s Event.Close = Unit {0}
HasContext s (Event.Order o) = Unit {0}
HasContext s (Event.File line) = Unit {0}

as_do : (s : State) (a : ℕ) (c : Command) (made : Option Made) (o : Option PlacementResult) → CommandAs s a c o → SaysAs s (Event.Do a c) made o
as_do s a c made None k = tt
as_do s a c made (Some d) k = k

as_turn : (s : State) (a : ℕ) (made : Option Made) (o : Option PlacementResult) → TurnAs s a made o → SaysAs s (Event.Turn a) made o
as_turn s a made None k = tt
as_turn s a made (Some d) k = k

as_take : (s : State) (to from : ℕ) (made : Option Made) (o : Option PlacementResult) → TakeAs s o → SaysAs s (Event.Take to from) made o
as_take s to from made None k = tt
as_take s to from made (Some d) k = k

as_tend : (s : State) (a : ℕ) (made : Option Made) (o : Option PlacementResult) → TakeAs s o → SaysAs s (Event.Tend a) made o
as_tend s a made None k = tt
as_tend s a made (Some d) k = k

as_close : (s : State) (made : Option Made) (o : Option PlacementResult) → CloseAs s o → SaysAs s Event.Close made o
as_close s made None k = tt
as_close s made (Some d) k = k

as_order : (s : State) (x : Order) (made : Option Made) (o : Option PlacementResult) → OrderAs (order_steps x) s o → SaysAs s (Event.Order x) made o
as_order s x made None k = tt
as_order s x made (Some d) k = k

order_as : (s : State) (p : Placement) (o : Order) → OrderAs (order_steps o) s (places_order.order s p o)
order_as s p (Order.Switch t a) = switch_as s p t (places_state.actor a p)
order_as s p (Order.Grant line) = make_as s p line
order_as s p (Order.Revoke g) = revoke_as s p g

-- what the places' step gives, its ideal steps say; and they lead to its state
pub says_of : (s : State) (p : Placement) (e : Event) (made : Option Made) → HasContext s e → SaysAs s e made (placement_step s p e made)
says_of s p (Event.Do a c) made k = as_do s a c made (places_command.command s p a c) (do_as s p a c)
says_of s p (Event.Turn a) made k = as_turn s a made (places_turn.turn_of s p made (places_state.actor a p)) (turn_as s p made a (places_state.actor a p) (λ x e. (actor_key a p.actors x e, k)))
says_of s p (Event.Take to from) made k = as_take s to from made (places_take.take s p to from (places_state.link from to p)) (take_as s p to from (places_state.link from to p))
says_of s p (Event.Tend a) made k = as_tend s a made (places_tend.tend s p (places_state.actor a p)) (tend_as s p (places_state.actor a p))
says_of s p Event.Close made k = as_close s made (places_order.close_least s p (places_order.least_closing s.grants 1 s.grants)) (close_as s p (places_order.least_closing s.grants 1 s.grants))
says_of s p (Event.Order o) made k = as_order s o made (places_order.order s p o) (order_as s p o)
says_of s p (Event.File line) made k = tt

-- ---- an idle turn's entry has no move

idle_steps : (a : ℕ) (made : Option Made) (why : IdleWhy) → turn_steps a made (Said.Idle why) ≡ []
idle_steps a None why = refl
idle_steps a (Some (Made.Command c)) why = refl
idle_steps a (Some (Made.Await ep)) why = refl
idle_steps a (Some Made.Quantum) why = refl
idle_steps a (Some Made.End) why = refl

pub says_idle : (s : State) (a : ℕ) (made : Option Made) (d : PlacementResult) (why : IdleWhy) → SaysAs s (Event.Turn a) made (Some d) → d.said ≡ Said.Idle why → SaysAs s (Event.Turn a) None (Some d)
says_idle s a made d why k e =
    let none : turn_steps a made d.said ≡ [] = ap (turn_steps a made) e ∙ idle_steps a made why in
    subst (λ ts. SaidBy ts s d.said d.state) none k
