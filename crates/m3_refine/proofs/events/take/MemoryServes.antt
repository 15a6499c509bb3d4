-- The memory takes a read or a write.
use Rattle.std.proofs.Common.{◌≡◌, ℕ, ◌+◌, ◌*◌, ◌<◌, true, cond, List, [], ◌∷◌, Some, None, refl, sym, subst, ◌∙◌, ap, arith, length, map, inl, inr}
use Rattle.std.specs.Prelude.{nat_le}
use Rattle.std.proofs.lemmas.Bool.Decides.{nat_tests}
use Rattle.std.proofs.lemmas.List.{get_or-map}
use Rattle.m3_base.specs.declared.ids.FlightId.{FlightId}
use Rattle.m3_base.specs.declared.command.Answer.{Answer}
use Rattle.m3_base.specs.declared.packet.Packet.{Packet}
use Rattle.m3_base.specs.declared.event.Event.{Event}
use Rattle.m3_base.specs.declared.event.Said.{Said}
use Rattle.m3_base.specs.declared.step.Step.{Step}
use Rattle.m3_base.specs.Ideal.Flights.{name_of, flight, new_flight, change_flight}
use Rattle.m3_base.specs.Ideal.Landing.{bytes_at, written_at}
use Rattle.m3_base.specs.Ideal.State.{State}
use Rattle.m3_base.specs.Ideal.Step.{Landing, ideal_run, on_from, land_in}
use Rattle.m3_base.specs.Placement.State as places_state
use Rattle.m3_base.specs.Placement.Take as places_take
use Rattle.m3_base.specs.Placement.Landing as places_landing
use Rattle.m3_base.specs.Placement.Step.{placement_step}
use Rattle.m3_base.specs.Placement.Routing.{target}
use Rattle.m3_base.specs.Placement.Landing.{landing_result, landing_step, name_if_some, push_answer}
use Rattle.m3_base.proofs.FlightOrder.{change-new, find-new}
use Rattle.m3_model.specs.Config.Site.{Site, tile_of}
use Rattle.m3_model.specs.Parcel.{Parcel, Data, Save, Saved, Restore, Yield, Closed}
use Rattle.m3_model.specs.LocalStep.{dropped_result}
use Rattle.m3_model.specs.Config.KnownActivities.{is_home, is_named}
use Rattle.m3_model.specs.Memory.Step.{serve_result, serve}
use Rattle.m3_model.specs.Machine.{Machine, Memory_part, link_at, with_link, with_parcels, part_step, machine_step, done_by, front, rest, of_memory}
use Rattle.m3_model.specs.Abstraction.{ideal_of, link_token, placement_of}
use Rattle.m3_model.specs.Invariant.Parcels.{HasDestination, ParcelOk}
use Rattle.m3_model.specs.Invariant.IdealFacts.{IdealFacts}
use Rattle.m3_model.specs.Invariant.Structure.{MachineStructure}
use Rattle.m3_model.specs.Refinement.{Refines}
use Rattle.m3_base.specs.Lists.EachElement.{Each}
use Rattle.m3_refine.proofs.arrival.ArriveIsLand.{came_one}
use Rattle.m3_refine.proofs.lists.Update.{is_link}
use Rattle.m3_refine.proofs.abstraction.PopParcel.{popped_absent, popped_apart, popped_flights, popped_flies, popped_state, popped_places, popped_ok, popped_sound}
use Rattle.m3_refine.proofs.arrival.AnswerAndClosed.{home_tile, named_target, Emits, emit_answer}
use Rattle.std.proofs.lemmas.Bool.{and_from}

-- no part of soundness is about bytes
pub memory_sound : (h : Site) (m : Machine) (x : List ℕ) → MachineStructure h m → MachineStructure h (record m { memory = x })
memory_sound h m x s =
    record {
      setup = s.setup;
      tiles = s.tiles;
      links = s.links;
      acts = s.acts;
      known = s.known;
      named = s.named;
      names = s.names;
      housed = record { seats = s.housed.seats; tiles = s.housed.tiles; stays = s.housed.stays; current = s.housed.current };
      parcels = s.parcels;
      seated = record {
        seats = s.seated.seats;
        filled = s.seated.filled;
        leaving = s.seated.leaving;
        departing = s.seated.departing;
        walks = s.seated.walks;
        orderly = s.seated.orderly;
      };
      closed = s.closed;
      shut = s.shut;
      holders = s.holders;
    }

module _ (h : Site) (m : Machine) (from : ℕ) (hf : from < 16) (sound : MachineStructure h m) (hyp : IdealFacts m) where
  module _ (p : Packet) (qs : List Parcel) (g : link_at from 1 m ≡ Data p ∷ qs) where
    high : 1 < 16
    high = omega arith

    in_links : 16 * from + 1 < length m.links
    in_links = is_link m.links from 1 qs hf high sound.links

    abbrev left : Machine
    left = with_link from 1 qs m

    left_sound : MachineStructure h left
    left_sound = popped_sound h m from 1 hf high sound p qs g

    left_state : ideal_of left ≡ record (ideal_of m) { flights = (ideal_of left).flights }
    left_state = popped_state h m from 1 hf high sound p qs g

    named : is_named h p ≡ true
    named = (popped_ok h m from 1 hf high sound p qs g).0

    pub flies : flight (name_of p) (ideal_of m).flights ≡ Some p
    flies = popped_flies h m from 1 hf high sound p qs g

    -- with its answer, and these bytes
    module _ (x : List ℕ) (answer : Answer) (issuer : is_home h (name_of p).issuer ≡ true)
        (step : serve h m.memory p ≡ serve_result h x (name_of p) answer)
        (lands : land_in (ideal_of m) (name_of p) (Some p) ≡ Some (record { word = Landing (name_of p); state = record (ideal_of m) { memory = x; flights = change_flight (Packet.Answer (name_of p) answer) (ideal_of m).flights } }))
        (first : landing_step (name_of p) (Some p) ≡ Step.Land (name_of p)) where
      abbrev id : FlightId
      id = name_of p

      abbrev reply : Packet
      reply = Packet.Answer (name_of p) answer

      abbrev written : Machine
      written = record (with_link from 1 qs m) { memory = x }

      abbrev machine_after : Machine
      machine_after = with_parcels 1 ((tile_of h (name_of p).issuer, Data (Packet.Answer (name_of p) answer)) ∷ []) (record (with_link from 1 qs m) { memory = x })

      serve_step : machine_step h m (Event.Take 1 from) None ≡ Some (record { outcome = record { made = None; said = Said.Landed id; restore = None }; machine = machine_after })
      serve_step =
          ap (λ l. done_by 1 (with_link from 1 (rest l) m) (part_step h (Memory_part m.memory) (Event.Take 1 from) None (front l))) g
          ∙ ap (λ d. done_by 1 (with_link from 1 qs m) (Some (of_memory d))) step

      its_name : is_named h reply ≡ true
      its_name = grind (arith, issuer)

      emitted : Emits h written machine_after (new_flight reply (ideal_of left).flights) (ideal_of left).grants (push_answer 1 (Some id) (placement_of h written))
      emitted =
          emit_answer h 1 (omega arith) high written (memory_sound h left x left_sound) id (Some reply) (refl, refl) its_name (popped_absent h m from 1 hf high sound p qs g)

      abbrev next : State
      next = record (ideal_of m) { memory = x; flights = new_flight (Packet.Answer (name_of p) answer) (ideal_of left).flights }

      serve_state : ideal_of machine_after ≡ next
      serve_state = emitted.state ∙ ap (λ (s : State). record s { memory = x; flights = new_flight reply (ideal_of left).flights }) left_state

      changed : change_flight reply (ideal_of m).flights ≡ new_flight reply (ideal_of left).flights
      changed = ap (change_flight reply) (popped_flights h m from 1 hf high sound p qs g) ∙ change-new p reply (ideal_of left).flights refl (popped_apart h m from 1 hf high sound p qs g)

      comes : landing_result (ideal_of m) id ≡ Some (record { said = Said.Landed id; state = next; answer = Some id; freed = None })
      comes =
          let s = ideal_of m in
          let n = record s { memory = x; flights = change_flight reply s.flights } in
          came_one s id (Step.Land id) (Landing id) n (ap (landing_step id) flies ∙ first) (ap (λ o. on_from (ideal_run []) (land_in s id o)) flies ∙ ap (on_from (ideal_run [])) lands) refl
          ∙ (λ k. Some (record { said = Said.Landed id; state = record s { memory = x; flights = changed k }; answer = name_if_some id (flight id (changed k)); freed = None }))
          ∙ (λ k. Some (record { said = Said.Landed id; state = next; answer = name_if_some id (find-new reply (ideal_of left).flights (popped_apart h m from 1 hf high sound p qs g) k); freed = None }))

      serve_pstep : placement_step (ideal_of m) (placement_of h m) (Event.Take 1 from) None
          ≡ Some (record { said = Said.Landed id; restore = None; state = ideal_of machine_after; places = placement_of h machine_after })
      serve_pstep =
          let q = places_state.with_link from 1 (map link_token qs) (placement_of h m) in
          let link : places_state.link from 1 (placement_of h m) ≡ places_state.Data id ∷ map link_token qs =
          get_or-map (λ xs. map link_token xs) m.links (16 * from + 1) [] [] in_links ∙ ap (λ l. map link_token l) g in
          let go : placement_of h machine_after ≡ push_answer 1 (Some id) q =
          emitted.places ∙ ap (push_answer 1 (Some id)) (popped_places h m from 1 hf high sound p qs g) in
          ap (λ l. places_take.take (ideal_of m) (placement_of h m) 1 from l) link
          ∙ ap (places_take.land_here 1 q) comes
          ∙ (λ k. places_landing.step_outcome (Said.Landed id) (sym serve_state k) (sym go k))

      pub serve_refines : Refines h m (Event.Take 1 from) None (machine_step h m (Event.Take 1 from) None)
      serve_refines = subst (Refines h m (Event.Take 1 from) None) (sym serve_step) (serve_pstep, emitted.sound)

  not_home : (a : ℕ) → is_home h a ≡ true → 1 ≡ tile_of h a → ⊥
  not_home a k e = let z = (home_tile h a sound.setup k).0 in omega arith

  not_here : (a : ℕ) (p : Packet) → is_named h p ≡ true → target p ≡ Some a → HasDestination h 1 (Some a) → ⊥
  not_here a p n e (inl z) = omega arith
  not_here a p n e (inr z) = not_home a (named_target h p a n e) z

  -- whatever the memory may find on a link
  take_by : (q : Parcel) (qs : List Parcel) → link_at from 1 m ≡ q ∷ qs → ParcelOk h m.kernel m.tiles from 1 q → Refines h m (Event.Take 1 from) None (machine_step h m (Event.Take 1 from) None)
  take_by (Data (Packet.Read id n place buffer)) qs g ok =
      let p = Packet.Read id n place buffer in
      let issuer : is_home h id.issuer ≡ true = (let z = ok.0 in grind (arith, z)) in
      let inside : nat_le (place + length buffer) (length m.memory) ≡ true = (let z = hyp.reads id id n place buffer (flies p qs g) in grind (arith, nat_tests, z)) in
      let answer = Answer.Bytes (bytes_at place (length buffer) m.memory) in
      serve_refines p qs g m.memory answer issuer
      (ap (λ b. cond b (serve_result h m.memory id answer) (dropped_result m.memory)) (and_from (is_home h id.issuer) (nat_le (place + length buffer) (length m.memory)) issuer inside))
      refl refl
  take_by (Data (Packet.Write id n place payload)) qs g ok =
      let p = Packet.Write id n place payload in
      let issuer : is_home h id.issuer ≡ true = (let z = ok.0 in grind (arith, z)) in
      let inside : nat_le (place + length payload) (length m.memory) ≡ true = (let z = hyp.writes id id n place payload (flies p qs g) in grind (arith, nat_tests, z)) in
      serve_refines p qs g (written_at place payload m.memory) Answer.Written issuer
      (ap (λ b. cond b (serve_result h (written_at place payload m.memory) id Answer.Written) (dropped_result m.memory)) (and_from (is_home h id.issuer) (nat_le (place + length payload) (length m.memory)) issuer inside))
      refl refl
  take_by (Data (Packet.Message to ep n x)) qs g ok = absurd (not_here to (Packet.Message to ep n x) ok.0 refl ok.1)
  take_by (Data (Packet.Credit id to n)) qs g ok = absurd (not_here to (Packet.Credit id to n) ok.0 refl ok.1)
  take_by (Data (Packet.Answer id answer)) qs g ok = absurd (not_here id.issuer (Packet.Answer id answer) ok.0 refl ok.1)
  take_by (Data (Packet.Install id to ep f)) qs g ok = absurd (not_here to (Packet.Install id to ep f) ok.0 refl ok.1)
  take_by (Data (Packet.Close id to ep n)) qs g ok = absurd (not_here to (Packet.Close id to ep n) ok.0 refl ok.1)
  take_by (Save a) qs g ok = absurd (not_home a ok.1 ok.2)
  take_by (Saved a c w e) qs g ok = absurd (let z = ok.0 in omega arith)
  take_by (Restore a c xs) qs g ok = absurd (not_home c.act ok.1 ok.2)
  take_by (Yield a) qs g ok = absurd (let z = ok.0 in omega arith)
  take_by (Closed n) qs g ok = absurd (let z : 1 ≡ 0 = ok in omega arith)

  pub serves_refine : (q : Parcel) (qs : List Parcel) → link_at from 1 m ≡ q ∷ qs → Refines h m (Event.Take 1 from) None (machine_step h m (Event.Take 1 from) None)
  serves_refine q qs g = take_by q qs g (subst (Each (ParcelOk h m.kernel m.tiles from 1)) g (sound.parcels from 1 hf (omega arith))).0
