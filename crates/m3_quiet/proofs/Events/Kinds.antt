-- Events by their kinds.
use Rattle.std.proofs.Common.{◌≡◌, ℕ, zero, suc, ◌+◌, ◌-◌, ◌<◌, ◌≤◌, Bool, true, false, List, [], ◌∷◌, ◌++◌, length, get_or, set, Some, None, refl, sym, subst, ◌∙◌, ap, arith}
use Rattle.std.specs.Prelude.{Option, if◌then◌else◌, ◌==◌, not, ◌&&◌, ◌||◌, is_some, slice_get}
use Rattle.std.proofs.lemmas.Bool.Decides.{nat_tests}
use Rattle.m3_base.specs.declared.ids.FlightId.{FlightId}
use Rattle.m3_base.specs.declared.order.Order.{Order}
use Rattle.m3_base.specs.declared.event.Event.{Event}
use Rattle.m3_base.specs.declared.event.Made.{Made}
use Rattle.m3_base.specs.declared.event.Said.{Said}
use Rattle.m3_base.specs.declared.event.IdleWhy.{IdleWhy}
use Rattle.m3_base.specs.Lists.Counting.{total}
use Rattle.m3_base.specs.Ideal.Flights.{flight}
use Rattle.m3_base.specs.Ideal.State.{State, Grant, Standing, context_of, grant_in}
use Rattle.m3_base.specs.Ideal.GrantRules.{is_closed_grant, change_grant, set_some}
use Rattle.m3_base.specs.Ideal.Step.{Finishes, step_to, ideal_run, on_from, done_in}
use Rattle.m3_base.specs.Journal.Entry.{said_of}
use Rattle.m3_base.specs.Lists.Keyed as keyed
use Rattle.m3_base.specs.Placement.State.{Placement, PlacedActivity, LinkToken, Data, Save, Saved, Closed, actor, actor_act, link, with_link, with_token, with_actor, with_current, current_of, is_placed, is_current, home, home_in, with_yielded}
use Rattle.m3_base.specs.Placement.Landing.{PlacementResult, said_or_nothing, landing_result, step_outcome, idle_outcome}
use Rattle.m3_base.specs.Placement.Take.{bounced, done_by, is_here, take, take_at_kernel, take_at_tile, land_here, by_route, is_waiting, has_unread_at, has_ended, routing_outcome}
use Rattle.m3_base.specs.Placement.Routing.{actor_for, target_of, route, with_held}
use Rattle.m3_base.specs.Placement.Turn.{turn_of, turn_made, turn_move, quantum_turn, await_turn, busy_any, is_waiting_turn, is_due_quantum, is_repeat, yield_once}
use Rattle.m3_base.specs.Ideal.State.{is_number}
use Rattle.m3_base.specs.Ideal.State.{same_act}
use Rattle.m3_quiet.specs.Potential.{Units, potential, token_worth, actor_in, actor_worth, actors_sum, is_there, grant_worth}
use Rattle.m3_quiet.specs.Descent.{Falls, worth_after, takes_call, with_call_spent}
use Rattle.m3_quiet.proofs.Events.Statements.{PlacesOk, Passes, At_kernel_yield, At_kernel_data, At_kernel_closed, At_tile_save, At_tile_bounced, Calm, By_quantum, Awaits_again, Ends, TurnsFall}
use Rattle.m3_quiet.proofs.Sums.Changes.{links-pushed, links-front, links-length}
use Rattle.m3_quiet.proofs.Events.Takes.{LinkOk, yield_falls, bounce_falls, routed_falls, held_falls}
use Rattle.m3_quiet.proofs.Events.Turns.{TurnOk, quantum_falls, wait_falls, awake_falls, end_falls}

-- ---- activities

pub found_act : (a : ℕ) (xs : List PlacedActivity) (x : PlacedActivity) → keyed.find actor_act same_act a xs ≡ Some x → x.act ≡ a
found_act a [] x e = absurd (cc)
found_act a (y ∷ ys) x e = by_act (a == y.act) refl e (found_act a ys x)
  where
    by_act : (b : Bool) → (a == y.act) ≡ b → (if b then Some y else keyed.find actor_act same_act a ys) ≡ Some x → (keyed.find actor_act same_act a ys ≡ Some x → x.act ≡ a) → x.act ≡ a
    by_act true w e ih = let same : y ≡ x = cc in let k : a ≡ y.act = grind (arith, nat_tests, w) in cc
    by_act false w e ih = ih e

pub found_itself : (p : Placement) (a : ℕ) (x : PlacedActivity) → actor a p ≡ Some x → actor x.act p ≡ Some x
found_itself p a x e = subst (λ k. actor k p ≡ Some x) (sym (found_act a p.actors x e)) e

-- ---- takes

take_worth : (s : State) (p : Placement) (us : Units) (left : List Order) (to from : ℕ) (made : Option Made) (d : PlacementResult) → worth_after s p us left (Event.Take to from) made d ≡ potential d.state d.places us (length left)
take_worth s p us [] to from made d = refl
take_worth s p us (o ∷ os) to from made d = refl

pub take_said : (s : State) (p q : Placement) (us : Units) (left : List Order) (to from : ℕ) (made : Option Made) (said : Said) → potential s q us (length left) < potential s p us (length left) → Falls s p us left (Event.Take to from) made (step_outcome said s q)
take_said s p q us left to from made said h n = subst (λ z. z < potential s p us (length left)) (sym (take_worth s p us left to from made (record { said = said; restore = None; state = s; places = q }))) h

-- what an activity that isn't current is worth
pub less_worth : (s : State) (b : Bool) (x : PlacedActivity) → actor_worth s false x ≤ actor_worth s b x
less_worth s true x = grind (arith, nat_tests)
less_worth s false x = omega arith

pub cleared : (current : List (Option ℕ)) (t i : ℕ) (a : ℕ) → is_number a (get_or (set current t None) i None) ≡ true → is_number a (get_or current i None) ≡ true
cleared [] t i a h = absurd (cc)
cleared (c ∷ cs) zero zero a h = absurd (cc)
cleared (c ∷ cs) zero (suc i) a h = h
cleared (c ∷ cs) (suc t) zero a h = h
cleared (c ∷ cs) (suc t) (suc i) a h = cleared cs t i a h

cleared_worth : (s : State) (current : List (Option ℕ)) (t : ℕ) (x : PlacedActivity) → actor_in s (set current t None) x ≤ actor_in s current x
cleared_worth s current t x = by_flags (is_there (set current t None) x) (is_there current x) (cleared current t x.home x.act)
  where
    by_flags : (b c : Bool) → (b ≡ true → c ≡ true) → actor_worth s b x ≤ actor_worth s c x
    by_flags false c h = less_worth s c x
    by_flags true c h = subst (λ z. actor_worth s true x ≤ actor_worth s z x) (sym (h refl)) (omega arith)

cleared_sum : (s : State) (current : List (Option ℕ)) (t : ℕ) (xs : List PlacedActivity) → actors_sum s (set current t None) xs ≤ actors_sum s current xs
cleared_sum s current t [] = omega arith
cleared_sum s current t (x ∷ xs) = omega (arith, cleared_worth s current t x, cleared_sum s current t xs)

pub save_falls : (s : State) (p : Placement) (us : Units) (o t from a : ℕ) (waiting ended : Bool) (ts : List LinkToken) → LinkOk p from t → link from t p ≡ Save a ∷ ts → potential s (with_token t 0 (Saved a waiting ended) (with_current t None (with_link from t ts p))) us o < potential s p us o
save_falls s p us o t from a waiting ended ts ok e =
    let one = links-front s.flights from t (Save a) ts p ok.links ok.from_in ok.to_in e in
    let two = links-pushed s.flights t 0 (Saved a waiting ended) (with_current t None (with_link from t ts p)) (links-length from t ts p ∙ ok.links) ok.to_in (omega arith) in
    let three = cleared_sum s p.current t p.actors in
    omega (arith, one, two, three)

pub route_falls : (s : State) (p : Placement) (us : Units) (left : List Order) (from : ℕ) (id : FlightId) (a : Option ℕ) (o : Option PlacedActivity) (ts : List LinkToken) (made : Option Made) → LinkOk p from 0 → PlacesOk p → actor_for a (with_link from 0 ts p) ≡ o → link from 0 p ≡ Data id ∷ ts → Falls s p us left (Event.Take 0 from) made (by_route id a s (route id o (with_link from 0 ts p)))
route_falls s p us left from id a None ts made ok places found e =
    let gone = links-front s.flights from 0 (Data id) ts p ok.links ok.from_in ok.to_in e in
    let worth : 1 ≤ token_worth s.flights from 0 (Data id) = grind (arith, nat_tests) in
    take_said s p (with_link from 0 ts p) us left 0 from made (routing_outcome id a false) (omega (arith, gone, worth))
route_falls s p us left from id None (Some x) ts made ok places found e = absurd (cc)
route_falls s p us left from id (Some a) (Some x) ts made ok places found e = by_place (is_placed x.place)
  where
    by_place : (b : Bool) → Falls s p us left (Event.Take 0 from) made (by_route id (Some a) s (if b then record { held = false; places = with_token 0 x.home (Data id) (with_link from 0 ts p) } else record { held = true; places = with_actor (record x { hold = x.hold ++ id ∷ [] }) (with_link from 0 ts p) }))
    by_place true = take_said s p (with_token 0 x.home (Data id) (with_link from 0 ts p)) us left 0 from made (Said.Routed id) (routed_falls s p us (length left) from id x ts ok ((places.homes a x found).0) ((places.homes a x found).1) e)
    by_place false = take_said s p (with_held id x (with_link from 0 ts p)) us left 0 from made (Said.Held id a) (held_falls s p us (length left) from id x ts ok (found_itself p a x found) e)

pub bounced_take : (s : State) (p : Placement) (us : Units) (left : List Order) (t from : ℕ) (id : FlightId) (ts : List LinkToken) (made : Option Made) (here first : Bool) (o : Option PlacementResult) (aim : Option ℕ) → here ≡ false → first ≡ false → potential s (with_token t 0 (Data id) (with_link from t ts p)) us (length left) < potential s p us (length left) → Falls s p us left (Event.Take t from) made (if first || here then o else bounced s (with_link from t ts p) t id aim)
bounced_take s p us left t from id ts made true first o aim h g less = absurd (cc)
bounced_take s p us left t from id ts made false true o aim h g less = absurd (cc)
bounced_take s p us left t from id ts made false false o None h g less = tt
bounced_take s p us left t from id ts made false false o (Some a) h g less = take_said s p (with_token t 0 (Data id) (with_link from t ts p)) us left t from made (Said.Bounced id) less

pub at_tile : (s : State) (p : Placement) (us : Units) (left : List Order) (to from : ℕ) (made : Option Made) (b : Bool) (x y : Option PlacementResult) → b ≡ false → Falls s p us left (Event.Take to from) made y → Falls s p us left (Event.Take to from) made (if b then x else y)
at_tile s p us left to from made true x y e h = absurd (cc)
at_tile s p us left to from made false x y e h = h

-- a grant is done
pub set_worth : (gs : List Grant) (i : ℕ) (x y : Grant) → slice_get gs i ≡ Some x → total grant_worth (set gs i y) + grant_worth x ≡ total grant_worth gs + grant_worth y
set_worth [] i x y e = absurd (cc)
set_worth (g ∷ gs) zero x y e = let same : g ≡ x = cc in omega (arith, ap grant_worth same)
set_worth (g ∷ gs) (suc i) x y e = omega (arith, set_worth gs i x y e)

pub found_grant : (gs : List Grant) (g : ℕ) (x : Grant) → grant_in gs g ≡ Some x → slice_get gs (g - 1) ≡ Some x
found_grant gs g x e = by_zero (g == 0) e
  where
    by_zero : (b : Bool) → (if b then None else slice_get gs (g - 1)) ≡ Some x → slice_get gs (g - 1) ≡ Some x
    by_zero true h = absurd (cc)
    by_zero false h = h

abbrev pub to_done : Grant → Grant
to_done y = record y { standing = Standing.Done }

done_worth : (x : Grant) → is_closed_grant x.standing ≡ true → x.close_sent ≡ true → grant_worth (to_done x) + 1 ≡ grant_worth x
done_worth x a b = grind (arith, nat_tests, a, b)

done_sum : (gs : List Grant) (g : ℕ) (x : Grant) → grant_in gs g ≡ Some x → is_closed_grant x.standing ≡ true → x.close_sent ≡ true → total grant_worth (change_grant gs g to_done) + 1 ≡ total grant_worth gs
done_sum gs g x e a b =
    let one = set_worth gs (g - 1) x (to_done x) (found_grant gs g x e) in
    let two = done_worth x a b in
    subst (λ o. total grant_worth (set_some gs g to_done o) + 1 ≡ total grant_worth gs) (sym e) (omega (arith, one, two))

pub take_new : (s n : State) (p q : Placement) (us : Units) (left : List Order) (to from : ℕ) (made : Option Made) (said : Said) → potential n q us (length left) < potential s p us (length left) → Falls s p us left (Event.Take to from) made (step_outcome said n q)
take_new s n p q us left to from made said h k = subst (λ z. z < potential s p us (length left)) (sym (take_worth s p us left to from made (record { said = said; restore = None; state = n; places = q }))) h

pub closed_falls : (s : State) (p : Placement) (us : Units) (left : List Order) (from g : ℕ) (ts : List LinkToken) (made : Option Made) → LinkOk p from 0 → link from 0 p ≡ Closed g ∷ ts → ((x : Grant) → grant_in s.grants g ≡ Some x → x.close_sent ≡ true) → (o : Option Grant) → grant_in s.grants g ≡ o → Falls s p us left (Event.Take 0 from) made (done_by s (with_link from 0 ts p) (on_from (ideal_run []) (done_in s g o)))
closed_falls s p us left from g ts made ok e sent None f = tt
closed_falls s p us left from g ts made ok e sent (Some x) f = by_standing (is_closed_grant x.standing) refl
  where
    by_standing : (b : Bool) → is_closed_grant x.standing ≡ b → Falls s p us left (Event.Take 0 from) made (done_by s (with_link from 0 ts p) (on_from (ideal_run []) (if b then step_to (Finishes g x.is_root) (record s { grants = change_grant s.grants g to_done }) else None)))
    by_standing false h = tt
    by_standing true h =
        let one = links-front s.flights from 0 (Closed g) ts p ok.links ok.from_in ok.to_in e in
        let two = done_sum s.grants g x f h (sent x f) in
        take_new s (record s { grants = change_grant s.grants g to_done }) p (with_link from 0 ts p) us left 0 from made (said_or_nothing (said_of false (Finishes g x.is_root ∷ []))) (omega (arith, one, two))

pub front_falls : (s : State) (p : Placement) (us : Units) (left : List Order) (to from : ℕ) (t : LinkToken) (ts : List LinkToken) (made : Option Made) → PlacesOk p → Passes s p to from t → link from to p ≡ t ∷ ts → Falls s p us left (Event.Take to from) made (take s p to from (t ∷ ts))
front_falls s p us left to from t ts made places (At_kernel_yield f a h) e =
    take_said s p (with_yielded (home a (with_link f 0 ts p)) true (with_link f 0 ts p)) us left 0 f made (Said.Yielded a) (yield_falls s p us (length left) f a (home a (with_link f 0 ts p)) true ts (record { links = places.links; from_in = h; to_in = omega arith }) e)
front_falls s p us left to from t ts made places (At_kernel_data f id h) e =
    route_falls s p us left f id (target_of (flight id s.flights)) (actor_for (target_of (flight id s.flights)) (with_link f 0 ts p)) ts made (record { links = places.links; from_in = h; to_in = omega arith }) places refl e
front_falls s p us left to from t ts made places (At_kernel_closed f g h sent) e =
    closed_falls s p us left f g ts made (record { links = places.links; from_in = h; to_in = omega arith }) e sent (grant_in s.grants g) refl
front_falls s p us left to from t ts made places (At_tile_save d f a least h k) e =
    at_tile s p us left d f made (d == 0) (take_at_kernel s (with_link f d ts p) (Save a)) (take_at_tile s (with_link f d ts p) d (Save a)) (grind (arith, nat_tests)) (take_said s p (with_token d 0 (Saved a (is_waiting s (actor a p)) (has_ended (actor a p))) (with_current d None (with_link f d ts p))) us left d f made (Said.Saving a) (save_falls s p us (length left) d f a (is_waiting s (actor a p)) (has_ended (actor a p)) ts (record { links = places.links; from_in = k; to_in = h }) e))
front_falls s p us left to from t ts made places (At_tile_bounced d f id least h one_least k away) e =
    at_tile s p us left d f made (d == 0) (take_at_kernel s (with_link f d ts p) (Data id)) (take_at_tile s (with_link f d ts p) d (Data id)) (grind (arith, nat_tests)) (bounced_take s p us left d f id ts made (is_here (target_of (flight id s.flights)) (current_of d p)) (d == 1) (land_here d (with_link f d ts p) (landing_result s id)) (target_of (flight id s.flights)) away (grind (arith, nat_tests)) (bounce_falls s p us (length left) f d id ts (record { links = places.links; from_in = k; to_in = h }) one_least (omega arith) e))

-- ---- turns

turn_worth : (s : State) (p : Placement) (us : Units) (left : List Order) (a : ℕ) (made : Option Made) (d : PlacementResult) → takes_call (actor a p) made ≡ false → worth_after s p us left (Event.Turn a) made d ≡ potential d.state d.places us (length left)
turn_worth s p us [] a made d h = ap (λ b. potential d.state d.places (if b then with_call_spent a us else us) 0) h
turn_worth s p us (o ∷ os) a made d h = ap (λ b. potential d.state d.places (if b then with_call_spent a us else us) (length (o ∷ os))) h

module _ (s : State) (p : Placement) (us : Units) (left : List Order) (a : ℕ) (x : PlacedActivity) (places : PlacesOk p) (found : actor a p ≡ Some x) (program : x.has_program ≡ true) where
  turn_said : (q : Placement) (m : Made) (said : Said) → takes_call (Some x) (Some m) ≡ false → potential s q us (length left) < potential s p us (length left) → Falls s p us left (Event.Turn a) (Some m) (step_outcome said s q)
  turn_said q m said calm h n =
      let e : takes_call (actor a p) (Some m) ≡ false = ap (λ o. takes_call o (Some m)) found ∙ calm in
      subst (λ z. z < potential s p us (length left)) (sym (turn_worth s p us left a (Some m) (record { said = said; restore = None; state = s; places = q }) e)) h

  turn_idle : (m : Made) (why : IdleWhy) → Falls s p us left (Event.Turn a) (Some m) (idle_outcome why s p)
  turn_idle m why n = absurd (cc)

  turn_ok : is_current x.act p ≡ true → x.ended ≡ false → TurnOk p x
  turn_ok c e = record {
    links = places.links;
    home_in = (places.homes a x found).1;
    found = found_itself p a x found;
    there = subst (λ o. is_number x.act (current_of (home_in o) p) ≡ true) (found_itself p a x found) c;
    program = program;
    going = e;
  }

  quantum_case : TurnOk p x → 1 ≤ p.quantum → (b : Bool) → is_due_quantum p x ≡ b → Falls s p us left (Event.Turn a) (Some Made.Quantum) (if b then quantum_turn s p x Made.Quantum else turn_move s p x Made.Quantum)
  quantum_case ok least false e = tt
  quantum_case ok least true e =
      let sent : x.yield_sent ≡ false = grind (arith, nat_tests, e) in
      let moved : 0 < x.moves = grind (arith, nat_tests, e) in
      turn_said (yield_once x p) Made.Quantum Said.Yield refl (quantum_falls s p us (length left) x ok sent moved)

  end_case : TurnOk p x → (b : Bool) → Falls s p us left (Event.Turn a) (Some Made.End) (if b then quantum_turn s p x Made.End else turn_move s p x Made.End)
  end_case ok true = tt
  end_case ok false = by_pending (is_some x.pending)
    where
      by_pending : (b : Bool) → Falls s p us left (Event.Turn a) (Some Made.End) (if b then None else step_outcome Said.Ended s (yield_once (record x { ended = true }) p))
      by_pending true = tt
      by_pending false = turn_said (yield_once (record x { ended = true }) p) Made.End Said.Ended refl (end_falls s p us (length left) x ok)

  again : TurnOk p x → (ep : ℕ) → x.pending ≡ Some ep → is_waiting_turn s x ≡ false → (u : Bool) → has_unread_at (context_of x.act s.contexts) (Some ep) ≡ u → Falls s p us left (Event.Turn a) (Some (Made.Await ep)) (await_turn s p x ep u)
  again ok ep pends waits true unread =
      let some : is_some x.pending ≡ true = ap is_some pends in
      let calm : takes_call (Some x) (Some (Made.Await ep)) ≡ false = ap (λ o. not (is_some o)) pends in
      let open_eyes : is_waiting s (Some x) ≡ false = subst (λ o. (is_some o && not (has_unread_at (context_of x.act s.contexts) o)) ≡ false) (sym pends) (ap not unread) in
      turn_said (with_actor (record x { pending = None }) p) (Made.Await ep) Said.Awake calm (awake_falls s p us (length left) x ok some open_eyes)
  again ok ep pends waits false unread =
      let calm : takes_call (Some x) (Some (Made.Await ep)) ≡ false = ap (λ o. not (is_some o)) pends in
      let shut : is_waiting s (Some x) ≡ true = subst (λ o. (is_some o && not (has_unread_at (context_of x.act s.contexts) o)) ≡ true) (sym pends) (ap not unread) in
      let sent : x.yield_sent ≡ false = grind (arith, nat_tests, waits, shut) in
      let same : record x { pending = Some ep } ≡ x = ap (λ o. record x { pending = o }) (sym pends) in
      let falls : potential s (yield_once (record x { pending = Some ep }) p) us (length left) < potential s p us (length left) = subst (λ y. potential s (yield_once y p) us (length left) < potential s p us (length left)) (sym same) (wait_falls s p us (length left) x ok sent shut) in
      turn_said (yield_once (record x { pending = Some ep }) p) (Made.Await ep) (if x.yield_sent then Said.Asleep else Said.Yield) calm falls

  await_case : TurnOk p x → (ep : ℕ) → x.pending ≡ Some ep → is_waiting_turn s x ≡ false → (b : Bool) → Falls s p us left (Event.Turn a) (Some (Made.Await ep)) (if b then quantum_turn s p x (Made.Await ep) else turn_move s p x (Made.Await ep))
  await_case ok ep pends waits true = tt
  await_case ok ep pends waits false = by_repeat (is_repeat x.pending ep)
    where
      by_repeat : (b : Bool) → Falls s p us left (Event.Turn a) (Some (Made.Await ep)) (if b then await_turn s p x ep (has_unread_at (context_of x.act s.contexts) (Some ep)) else None)
      by_repeat false = tt
      by_repeat true = again ok ep pends waits (has_unread_at (context_of x.act s.contexts) (Some ep)) refl

  made_case : (m : Made) → Calm s p x m → TurnOk p x → is_waiting_turn s x ≡ false → Falls s p us left (Event.Turn a) (Some m) (turn_made s p x (Some m))
  made_case m (By_quantum least) ok waits = quantum_case ok least (is_due_quantum p x) refl
  made_case m (Awaits_again ep pends) ok waits = await_case ok ep pends waits (is_due_quantum p x)
  made_case m Ends ok waits = end_case ok (is_due_quantum p x)

  turn_case : (m : Made) → Calm s p x m → (c e b w : Bool) → is_current x.act p ≡ c → x.ended ≡ e → is_waiting_turn s x ≡ w → Falls s p us left (Event.Turn a) (Some m) (if not c then idle_outcome IdleWhy.NotCurrent s p else (if e then idle_outcome IdleWhy.Ended s p else (if b then idle_outcome IdleWhy.Busy s p else (if w then idle_outcome IdleWhy.Waiting s p else turn_made s p x (Some m)))))
  turn_case m calm false e b w f g h = turn_idle m IdleWhy.NotCurrent
  turn_case m calm true true b w f g h = turn_idle m IdleWhy.Ended
  turn_case m calm true false true w f g h = turn_idle m IdleWhy.Busy
  turn_case m calm true false false true f g h = turn_idle m IdleWhy.Waiting
  turn_case m calm true false false false f g h = made_case m calm (turn_ok f g) h

pub turns_fall : TurnsFall
turns_fall s p us left a x m places found program calm =
    subst (λ o. Falls s p us left (Event.Turn a) (Some m) (turn_of s p (Some m) o)) (sym found) (turn_case s p us left a x places found program m calm (is_current x.act p) x.ended (busy_any (context_of x.act s.contexts)) (is_waiting_turn s x) refl refl refl)
