-- What the places' step gives at a take or a tend is what the ideal steps of its entry say, and the state that they reach.
use Rattle.std.proofs.Common.{◌≡◌, ℕ, Bool, true, false, cond, List, [], ◌∷◌, Some, None, refl, sym, subst, ◌∙◌, ap, Option, inl}
use Rattle.std.specs.Prelude.{if◌then◌else◌, ◌==◌, not, ◌&&◌, ◌||◌}
use Rattle.std.specs.List.{list_any}
use Rattle.m3_base.specs.declared.ids.FlightId.{FlightId}
use Rattle.m3_base.specs.declared.event.Said.{Said}
use Rattle.m3_base.specs.declared.event.IdleWhy.{IdleWhy}
use Rattle.m3_base.specs.declared.step.Step.{Step}
use Rattle.m3_base.specs.Ideal.Flights.{flight}
use Rattle.m3_base.specs.Ideal.State.{Grant, State, grant_in}
use Rattle.m3_base.specs.Ideal.GrantRules.{is_closed_grant}
use Rattle.m3_base.specs.Ideal.Step.{Finishes, IdealResult, ideal_step, ideal_run, on_from, done_in}
use Rattle.m3_base.specs.Journal.Entry.{said_of, is_held, landing_steps}
use Rattle.m3_base.specs.Placement.Landing as places_landing
use Rattle.m3_base.specs.Placement.State as places_state
use Rattle.m3_base.specs.Placement.Take as places_take
use Rattle.m3_base.specs.Placement.Routing as places_routing
use Rattle.m3_base.specs.Placement.Tend as places_tend
use Rattle.m3_base.specs.Placement.State.{Placement, PlacedActivity}
use Rattle.m3_base.specs.Placement.Landing.{PlacementResult, said_or_nothing, LandingResult, landing_result}
use Rattle.m3_refine.proofs.labels.EventSaysIdealSteps.{SaidBy, CameSays, one_step, came_says}

abbrev pub TakeAs : State → Option PlacementResult → Type 0
TakeAs s None = Unit {0}
TakeAs s (Some d) = SaidBy (landing_steps d.said) s d.said d.state

restored_as : (s n : State) (said : Said) (p : Placement) (o : Option PlacedActivity) → SaidBy (landing_steps said) s said n → TakeAs s (places_take.with_restore said n p o)
restored_as s n said p None k = k
restored_as s n said p (Some x) k = k

land_here_as : (s : State) (t : ℕ) (p : Placement) (o : Option LandingResult) → CameSays s o → TakeAs s (places_take.land_here t p o)
land_here_as s t p None k = tt
land_here_as s t p (Some c) k = k

bounced_as : (s : State) (p : Placement) (t : ℕ) (id : FlightId) (o : Option ℕ) → TakeAs s (places_take.bounced s p t id o)
bounced_as s p t id None = tt
bounced_as s p t id (Some a) = (tt, refl)

data_as : (s : State) (p : Placement) (t : ℕ) (id : FlightId) → TakeAs s (places_take.take_data s p t id)
data_as s p t id = by_test ((t == 1) || places_take.is_here (places_routing.target_of (flight id s.flights)) (places_state.current_of t p))
  where
    by_test : (b : Bool) → TakeAs s (cond b (places_take.land_here t p (landing_result s id)) (places_take.bounced s p t id (places_routing.target_of (flight id s.flights))))
    by_test true = land_here_as s t p (landing_result s id) (came_says s id)
    by_test false = bounced_as s p t id (places_routing.target_of (flight id s.flights))

at_tile_as : (s : State) (p : Placement) (t : ℕ) (q : places_state.LinkToken) → TakeAs s (places_take.take_at_tile s p t q)
at_tile_as s p t (places_state.Data id) = data_as s p t id
at_tile_as s p t (places_state.Save a) = (tt, refl)
at_tile_as s p t (places_state.Saved a w e) = tt
at_tile_as s p t (places_state.Restore a) = (tt, refl)
at_tile_as s p t (places_state.Yield a) = tt
at_tile_as s p t (places_state.Closed g) = tt

routed_as : (s : State) (id : FlightId) (a : Option ℕ) (r : places_routing.Routed) → TakeAs s (places_take.by_route id a s r)
routed_as s id None r = (tt, refl)
routed_as s id (Some a) r = by_held r.held
  where
    by_held : (b : Bool) → TakeAs s (places_landing.step_outcome (places_take.routing_outcome id (Some a) b) s r.places)
    by_held true = (tt, refl)
    by_held false = (tt, refl)

saved_as : (s : State) (p : Placement) (w e : Bool) (o : Option PlacedActivity) → TakeAs s (places_take.saved_in s p w e o)
saved_as s p w e None = tt
saved_as s p w e (Some x) =
    let q = places_state.join_ready (x.has_program && (not w && not e)) x.home x.act (places_state.at_place places_state.Resting x p) in
    restored_as s s (Said.Saved x.act) q (if list_any (places_take.is_leaving_at x.home) q.actors then None else places_take.first_due x.home q.actors) (tt, refl)

done_shows : (g : ℕ) (b : Bool) → (said : Said) × (said_of false (Finishes g b ∷ []) ≡ Some said) × (landing_steps said ≡ Step.Done g ∷ []) × (is_held said ≡ false)
done_shows g true = (Said.Done g (Some g), refl, refl, refl)
done_shows g false = (Said.Done g None, refl, refl, refl)

abbrev DonesWord : ℕ → Option IdealResult → Type 0
DonesWord g None = Unit {0}
DonesWord g (Some n) = (b : Bool) × (n.word ≡ Finishes g b)

done_word : (s : State) (g : ℕ) (o : Option Grant) → DonesWord g (done_in s g o)
done_word s g None = tt
done_word s g (Some x) = by_test (is_closed_grant x.standing) _
  where
    by_test : (b : Bool) (n : State) → DonesWord g (cond b (Some (record { word = Finishes g x.is_root; state = n })) None)
    by_test true n = (x.is_root, refl)
    by_test false n = tt

done_by_as : (s : State) (p : Placement) (g : ℕ) (o : Option IdealResult) → ideal_step s (Step.Done g) ≡ o → DonesWord g o → TakeAs s (places_take.done_by s p (on_from (ideal_run []) o))
done_by_as s p g None e k = tt
done_by_as s p g (Some n) e k =
    let d = done_shows g k.0 in
    let says : said_of false (n.word ∷ []) ≡ Some d.0 = ap (λ w. said_of false (w ∷ [])) k.1 ∙ d.1 in
    subst (λ o. SaidBy (landing_steps (said_or_nothing o)) s (said_or_nothing o) n.state) (sym says)
    (subst (λ ts. SaidBy ts s d.0 n.state) (sym d.2) (one_step s n.state (Step.Done g) n.word d.0 e (inl (ap (λ b. said_of b (n.word ∷ [])) d.3 ∙ says))))

at_kernel_as : (s : State) (p : Placement) (q : places_state.LinkToken) → TakeAs s (places_take.take_at_kernel s p q)
at_kernel_as s p (places_state.Data id) = let a = places_routing.target_of (flight id s.flights) in routed_as s id a (places_routing.route id (places_routing.actor_for a p) p)
at_kernel_as s p (places_state.Save a) = tt
at_kernel_as s p (places_state.Saved a w e) = saved_as s p w e (places_state.actor a p)
at_kernel_as s p (places_state.Restore a) = tt
at_kernel_as s p (places_state.Yield a) = (tt, refl)
at_kernel_as s p (places_state.Closed g) = done_by_as s p g (ideal_step s (Step.Done g)) refl (done_word s g (grant_in s.grants g))

pub take_as : (s : State) (p : Placement) (to from : ℕ) (ts : List places_state.LinkToken) → TakeAs s (places_take.take s p to from ts)
take_as s p to from [] = (tt, refl)
take_as s p to from (t ∷ ts) = by_test (to == 0)
  where
    by_test : (b : Bool) → TakeAs s (cond b (places_take.take_at_kernel s (places_state.with_link from to ts p) t) (places_take.take_at_tile s (places_state.with_link from to ts p) to t))
    by_test true = at_kernel_as s (places_state.with_link from to ts p) t
    by_test false = at_tile_as s (places_state.with_link from to ts p) to t

tended_as : (s : State) (t : ℕ) (p : Placement) (o : Option LandingResult) → CameSays s o → TakeAs s (places_tend.after_tend t p o)
tended_as s t p None k = tt
tended_as s t p (Some c) k =
    let q = places_landing.push_closed 0 c.freed (places_tend.answer_routed c.answer p) in
    restored_as s c.state c.said q (if list_any (places_take.is_leaving_at t) q.actors then None else places_take.first_due t q.actors) k

tend_front_as : (s : State) (p : Placement) (x : PlacedActivity) (ids : List FlightId) → TakeAs s (places_tend.tend_front s p x ids)
tend_front_as s p x [] = (tt, refl)
tend_front_as s p x (id ∷ ids) =
    tended_as s x.home (places_state.join_ready (places_state.is_resting x.place && (x.has_program && not x.ended)) x.home x.act (places_state.with_actor (record x { hold = ids }) p)) (landing_result s id) (came_says s id)

pub tend_as : (s : State) (p : Placement) (o : Option PlacedActivity) → TakeAs s (places_tend.tend s p o)
tend_as s p None = tt
tend_as s p (Some x) = by_test (places_state.is_placed x.place || places_state.is_leaving x.place)
  where
    by_test : (b : Bool) → TakeAs s (cond b (places_landing.idle_outcome IdleWhy.NotResting s p) (places_tend.tend_front s p x x.hold))
    by_test true = (tt, refl)
    by_test false = tend_front_as s p x x.hold
