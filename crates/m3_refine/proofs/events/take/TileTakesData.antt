-- A tile takes data for its current activity: the whole event.
use Rattle.std.proofs.Common.{◌≡◌, ℕ, ◌+◌, ◌*◌, ◌<◌, ◌≤◌, true, false, cond, List, [], ◌∷◌, ◌++◌, Some, None, refl, sym, subst, ◌∙◌, ap, arith, length, map, Option, ◌⊎◌, inl, inr}
use Rattle.std.specs.Prelude.{◌==◌, ◌||◌}
use Rattle.std.proofs.lemmas.Bool.Decides.{nat_tests}
use Rattle.std.proofs.lemmas.List.{get_or-map}
use Rattle.m3_base.specs.declared.ids.FlightId.{FlightId}
use Rattle.m3_base.specs.declared.packet.Packet.{Packet}
use Rattle.m3_base.specs.declared.event.Event.{Event}
use Rattle.m3_base.specs.Ideal.Flights.{name_of, flight}
use Rattle.m3_base.specs.Ideal.Context.{Context, endpoint}
use Rattle.m3_base.specs.Ideal.Landing.{has_closing}
use Rattle.m3_base.specs.Ideal.State.{State, context_of, put_context}
use Rattle.m3_base.specs.Ideal.Step.{with_packet}
use Rattle.m3_base.specs.Ideal.Arrival.{Arrival, arrive}
use Rattle.m3_base.specs.Ideal.Acceptance.{fits}
use Rattle.m3_base.specs.Placement.State as places_state
use Rattle.m3_base.specs.Placement.Take as places_take
use Rattle.m3_base.specs.Placement.Landing as places_landing
use Rattle.m3_base.specs.Placement.Step.{placement_step}
use Rattle.m3_base.specs.Placement.Routing.{target, target_of}
use Rattle.m3_base.specs.Placement.Take.{is_here}
use Rattle.m3_base.specs.Placement.Landing.{landing_result, push_answer, push_closed}
use Rattle.m3_model.specs.Config.Site.{Site}
use Rattle.m3_model.specs.LocalStep.{heard_in_answer, data_out, closed_out, answer_tile}
use Rattle.m3_model.specs.Parcel.{Parcel, Data}
use Rattle.m3_model.specs.Tile.State.{Tile}
use Rattle.m3_model.specs.Config.KnownActivities.{is_named, is_named_context}
use Rattle.m3_model.specs.Tile.Step.{resident_of, with_current, heard_by, take_arrived, take_here, bounced, act_in}
use Rattle.m3_model.specs.Machine.{Machine, Tile_part, empty_tile, tile_at, link_at, with_link, with_part, with_parcels, machine_step, done_by, of_tile}
use Rattle.m3_model.specs.Abstraction.{ideal_of, link_token, current_act, placement_of}
use Rattle.m3_model.specs.Invariant.Housing.{IsPresent}
use Rattle.m3_model.specs.Invariant.IdealFacts.{IdealFacts}
use Rattle.m3_model.specs.Invariant.Structure.{MachineStructure}
use Rattle.m3_model.specs.Refinement.{Refines}
use Rattle.m3_refine.proofs.events.take.BounceStep.{take_step}
use Rattle.m3_refine.proofs.lists.Update.{is_link}
use Rattle.m3_refine.proofs.abstraction.PopParcel.{popped_absent, popped_apart, popped_flights, popped_flies, popped_state, popped_places, popped_ok, popped_sound}
use Rattle.m3_refine.proofs.abstraction.ChangeContext.{Alike}
use Rattle.m3_refine.proofs.abstraction.ChangeCurrentContext.{running_state, running_places, running_sound}
use Rattle.m3_refine.proofs.arrival.ArriveIsLandAll.{after_arrival, came_as, name_in, grants_after, ComesAs, arrives_as}
use Rattle.m3_refine.proofs.arrival.ArriveKeeps.{FreedBy, KeptBy, arrive_keeps}
use Rattle.m3_refine.proofs.arrival.KeepsKnownActivities.{NamedBy, arrive_names}
use Rattle.m3_refine.proofs.arrival.AnswerAndClosed.{ShutsIf, Shuts, Emits, emit_both}
use Rattle.m3_refine.proofs.arrival.CurrentContext.{current_found, current_each, heard_current, heard_tile, heard_alike, fits_arrives}
use Rattle.m3_base.specs.Ideal.GrantHolder.{HeldThere}

module _ (h : Site) (m : Machine) (t from : ℕ) (low : 2 ≤ t) (high : t < 16) (hf : from < 16) (sound : MachineStructure h m) (hyp : IdealFacts m)
    (p : Packet) (qs : List Parcel) (g : link_at from t m ≡ Data p ∷ qs) (c : Context) (e : (tile_at t m).current ≡ Some c) (aim : target p ≡ Some c.act) where
  in_tiles : t < length m.tiles
  in_tiles = subst (λ n. t < n) (sym sound.tiles) high

  in_links : 16 * from + t < length m.links
  in_links = is_link m.links from t qs hf high sound.links

  to_kernel : 16 * t + 0 < length m.links
  to_kernel = is_link m.links t 0 qs high (omega arith) sound.links

  no_kernel : (t == 0) ≡ false
  no_kernel = grind (arith, nat_tests, low)

  no_memory : (t == 1) ≡ false
  no_memory = grind (arith, nat_tests, low)

  named_packet : is_named h p ≡ true
  named_packet = (popped_ok h m from t hf high sound p qs g).0

  named_context : is_named_context h c ≡ true
  named_context = current_each m t in_tiles c e (λ c. is_named_context h c ≡ true) sound.named

  found : context_of c.act (ideal_of m).contexts ≡ Some c
  found = current_found m t in_tiles c e sound

  fit : fits c p ≡ true
  fit = hyp.fits_here t from p qs c g e aim

  abbrev pub left : Machine
  left = with_link from t qs m

  abbrev pub others : List Packet
  others = (ideal_of (with_link from t qs m)).flights

  abbrev pub tile_after : Arrival → Tile
  tile_after r = heard_by (heard_in_answer p) (with_current (Some r.context) (tile_at t m)) (resident_of r.context.act (with_current (Some r.context) (tile_at t m)))

  abbrev pub machine_after : Arrival → Machine
  machine_after r = with_parcels t (data_out (answer_tile h r.answer) r.answer ++ closed_out r.freed) (with_part t (Tile_part (tile_after r)) (with_link from t qs m))

  -- ---- the machine's step

  aimed : is_here (target p) (act_in (tile_at t m).current) ≡ true
  aimed = ap (λ o. is_here o (act_in (tile_at t m).current)) aim ∙ ap (λ o. is_here (Some c.act) (act_in o)) e ∙ itself c.act
    where
      itself : (a : ℕ) → (a == a) ≡ true
      itself a = grind (arith, nat_tests)

  pub land_step : (r : Arrival) → arrive c p ≡ Some r
      → machine_step h m (Event.Take t from) None ≡ Some (record { outcome = record { made = None; said = r.said; restore = None }; machine = machine_after r })
  land_step r a =
      let x = tile_at t m in
      let rest = with_link from t qs m in
      let bounce = bounced x p (target p) in
      take_step h m t from in_tiles in_links to_kernel no_kernel no_memory (Data p) qs g
      ∙ ap (λ b. done_by t rest (Some (of_tile (cond b (take_here h x p x.current) bounce)))) aimed
      ∙ ap (λ o. done_by t rest (Some (of_tile (take_here h x p o)))) e
      ∙ ap (λ b. done_by t rest (Some (of_tile (take_arrived h x p (cond b (cond (fits c p) (arrive c p) None) None))))) named_packet
      ∙ ap (λ b. done_by t rest (Some (of_tile (take_arrived h x p (cond b (arrive c p) None))))) fit
      ∙ ap (λ o. done_by t rest (Some (of_tile (take_arrived h x p o)))) a

  -- ---- what comes of it

  freed_shuts : (o : Option ℕ) → FreedBy c p o → ShutsIf (ideal_of m).grants o
  freed_shuts None f = tt
  freed_shuts (Some n) f = by_cause f.2
    where
      its : HeldThere (ideal_of m).grants n c.act f.0
      its = hyp.records c.act f.0 n c found f.1

      by_cause : (has_closing n (endpoint c f.0) ≡ true) ⊎ ((id : FlightId) × (to : ℕ) × (p ≡ Packet.Close id to f.0 n)) → Shuts (ideal_of m).grants n
      by_cause (inl k) = record { grant = its.grant; found = its.found; stands = its.stands; sent = hyp.sent c.act f.0 n c its.grant found k its.found }
      by_cause (inr k) =
          record {
            grant = its.grant;
            found = its.found;
            stands = its.stands;
            sent = hyp.sent_flying (name_of p) k.0 k.1 f.0 n its.grant (popped_flies h m from t hf high sound p qs g ∙ ap (λ q. Some q) k.2) its.found;
          }

  module _ (r : Arrival) (a : arrive c p ≡ Some r) where
    kept : KeptBy c p (Some r)
    kept = subst (KeptBy c p) a (arrive_keeps c p)

    named_both : NamedBy h c named_context (Some r)
    named_both = subst (NamedBy h c named_context) a (arrive_names h c named_context p named_packet)

    left_sound : MachineStructure h left
    left_sound = popped_sound h m from t hf high sound p qs g

    abbrev changed : Machine
    changed = with_part t (Tile_part (tile_after r)) (with_link from t qs m)

    new_current : (tile_after r).current ≡ Some r.context
    new_current = heard_current (heard_in_answer p) (with_current (Some r.context) (tile_at t m)) (resident_of r.context.act (with_current (Some r.context) (tile_at t m)))

    new_number : (tile_after r).tile ≡ (tile_at t m).tile
    new_number = heard_tile (heard_in_answer p) (with_current (Some r.context) (tile_at t m)) (resident_of r.context.act (with_current (Some r.context) (tile_at t m)))

    new_stays : (b : ℕ) → Alike (resident_of b (tile_at t m)) (resident_of b (tile_after r))
    new_stays = heard_alike (heard_in_answer p) (with_current (Some r.context) (tile_at t m)) r.context.act (resident_of r.context.act (with_current (Some r.context) (tile_at t m))) refl

    changed_state : ideal_of changed ≡ record (ideal_of left) { contexts = put_context r.context (ideal_of left).contexts }
    changed_state = running_state h left t high left_sound (tile_after r) c r.context e new_current kept.0 new_number new_stays

    changed_sound : MachineStructure h changed
    changed_sound = running_sound h left t high left_sound (tile_after r) c r.context e new_current kept.0 new_number new_stays named_both.0

    left_state : ideal_of left ≡ record (ideal_of m) { flights = others }
    left_state = popped_state h m from t hf high sound p qs g

    same_grants : (ideal_of changed).grants ≡ (ideal_of m).grants
    same_grants = ap (λ s. s.grants) changed_state ∙ ap (λ s. s.grants) left_state

    emitted : Emits h changed (machine_after r) (with_packet r.answer (ideal_of changed).flights) (grants_after r.freed (ideal_of changed).grants) (push_closed t r.freed (push_answer t (name_in r.answer) (placement_of h changed)))
    emitted =
        emit_both h t (omega arith) high changed changed_sound (name_of p) r.answer r.freed kept.1 named_both.1 (popped_absent h m from t hf high sound p qs g)
        (subst (λ gs. ShutsIf gs r.freed) (sym same_grants) (freed_shuts r.freed kept.2))

    pub land_state : ideal_of (machine_after r) ≡ after_arrival (ideal_of m) others r
    land_state =
        emitted.state
        ∙ ap (λ (s : State). record s { flights = with_packet r.answer s.flights; grants = grants_after r.freed s.grants }) changed_state
        ∙ ap (λ (s : State). record s { contexts = put_context r.context s.contexts; flights = with_packet r.answer s.flights; grants = grants_after r.freed s.grants }) left_state

    pub land_places : placement_of h (machine_after r) ≡ push_closed t r.freed (push_answer t (name_in r.answer) (places_state.with_link from t (map link_token qs) (placement_of h m)))
    land_places =
        emitted.places
        ∙ ap (λ q. push_closed t r.freed (push_answer t (name_in r.answer) q))
        (running_places h left t high left_sound (tile_after r) c r.context e new_current kept.0 new_number new_stays ∙ popped_places h m from t hf high sound p qs g)

    comes : landing_result (ideal_of m) (name_of p) ≡ Some (came_as (ideal_of m) others r)
    comes =
        subst (ComesAs (ideal_of m) (name_of p) others) a
        (arrives_as (ideal_of m) others c found (λ ep g k. hyp.records c.act ep g c found k) p (popped_flights h m from t hf high sound p qs g, popped_apart h m from t hf high sound p qs g) aim)

    -- ---- the places' step

    pub land_pstep : placement_step (ideal_of m) (placement_of h m) (Event.Take t from) None
        ≡ Some (record { said = r.said; restore = None; state = ideal_of (machine_after r); places = placement_of h (machine_after r) })
    land_pstep =
        let s = ideal_of m in
        let id = name_of p in
        let q = places_state.with_link from t (map link_token qs) (placement_of h m) in
        let link : places_state.link from t (placement_of h m) ≡ places_state.Data id ∷ map link_token qs =
        get_or-map (λ xs. map link_token xs) m.links (16 * from + t) [] [] in_links ∙ ap (λ l. map link_token l) g in
        let flies = popped_flies h m from t hf high sound p qs g in
        let current : places_state.current_of t q ≡ current_act (tile_at t m) = get_or-map current_act m.tiles t (empty_tile t) None in_tiles in
        let here : is_here (target_of (flight id s.flights)) (places_state.current_of t q) ≡ true =
        ap (λ f. is_here (target_of f) (places_state.current_of t q)) flies ∙ ap (is_here (target p)) current ∙ aimed in
        ap (λ l. places_take.take s (placement_of h m) t from l) link
        ∙ ap (λ b. cond b (places_take.take_at_kernel s q (places_state.Data id)) (places_take.take_at_tile s q t (places_state.Data id))) no_kernel
        ∙ ap (λ b. cond (b || is_here (target_of (flight id s.flights)) (places_state.current_of t q)) (places_take.land_here t q (landing_result s id)) (places_take.bounced s q t id (target_of (flight id s.flights)))) no_memory
        ∙ ap (λ b. cond b (places_take.land_here t q (landing_result s id)) (places_take.bounced s q t id (target_of (flight id s.flights)))) here
        ∙ ap (places_take.land_here t q) comes
        ∙ (λ k. places_landing.step_outcome r.said (sym land_state k) (sym land_places k))

  fits_as : (o : Option Arrival) → arrive c p ≡ o → IsPresent o → (r : Arrival) × (arrive c p ≡ Some r)
  fits_as None a i = absurd i
  fits_as (Some r) a i = (r, a)

  -- the current activity's packet lands, or its answer ends its command
  pub take_here_refines : Refines h m (Event.Take t from) None (machine_step h m (Event.Take t from) None)
  take_here_refines =
      let f = fits_as (arrive c p) refl (fits_arrives c p fit) in
      subst (Refines h m (Event.Take t from) None) (sym (land_step f.0 f.1)) (land_pstep f.0 f.1, (emitted f.0 f.1).sound)
