-- The kernel tends an activity that is away: the whole event.
use Rattle.std.proofs.Common.{◌≡◌, ℕ, ◌<◌, ◌≤◌, Bool, true, false, cond, List, [], ◌∷◌, ◌++◌, Some, None, refl, sym, subst, ◌∙◌, ap, arith, map, Option, ◌⊎◌, inl, inr}
use Rattle.std.specs.Prelude.{if◌then◌else◌, not, ◌&&◌, ◌||◌}
use Rattle.std.specs.List.{list_any}
use Rattle.m3_base.specs.declared.ids.FlightId.{FlightId}
use Rattle.m3_base.specs.declared.packet.Packet.{Packet}
use Rattle.m3_base.specs.declared.event.Event.{Event}
use Rattle.m3_base.specs.declared.event.Made.{Made}
use Rattle.m3_base.specs.declared.event.IdleWhy.{IdleWhy}
use Rattle.m3_base.specs.Ideal.Flights.{name_of, flight}
use Rattle.m3_base.specs.Ideal.Context.{Context, endpoint}
use Rattle.m3_base.specs.Ideal.Landing.{has_closing}
use Rattle.m3_base.specs.Ideal.State.{State, context_of, put_context, grant_in}
use Rattle.m3_base.specs.Ideal.Step.{with_packet}
use Rattle.m3_base.specs.Ideal.Arrival.{Arrival, arrive}
use Rattle.m3_base.specs.Ideal.Acceptance.{fits, arrive_fit}
use Rattle.m3_base.specs.Placement.Tend as places_tend
use Rattle.m3_base.specs.Placement.State as places_state
use Rattle.m3_base.specs.Placement.Landing as places_landing
use Rattle.m3_base.specs.Placement.Take as places_take
use Rattle.m3_base.specs.Placement.State.{Placement, PlacedActivity}
use Rattle.m3_base.specs.Placement.Step.{placement_step}
use Rattle.m3_base.specs.Placement.Routing.{target}
use Rattle.m3_base.specs.Placement.Landing.{landing_result, push_closed}
use Rattle.m3_model.specs.Config.Site.{Site, home_of, tile_of, has_program, home_has_program}
use Rattle.m3_model.specs.Parcel.{Parcel, Closed}
use Rattle.m3_model.specs.Tile.State.{Resident}
use Rattle.m3_model.specs.Kernel.State.{SavedActivity, EntryResidency, Is_placed, Is_leaving, Is_resting, Is_coming, ActivityEntry, Kernel}
use Rattle.m3_model.specs.LocalStep.{LocalResult, idle_result, closed_out}
use Rattle.m3_model.specs.Config.KnownActivities.{is_home, is_named_context}
use Rattle.m3_model.specs.Tile.Step.{resident_of}
use Rattle.m3_model.specs.Kernel.Step.{entry_of, with_entry, join_ready, Routed, answer_routed, arrived_context, after_packet, after_tend, tend_arrived, tend_away, tend_front, tend_entry, tend_by}
use Rattle.m3_model.specs.Machine.{Machine, tile_at, link_at, with_parcel, with_parcels, machine_step, done_by, of_kernel}
use Rattle.m3_model.specs.Abstraction.{all_packets, all_closed, ideal_of, residency_of, actor_in, actor_by, current_act, placement_of}
use Rattle.m3_model.specs.Invariant.Housing.{resident_at}
use Rattle.m3_model.specs.Invariant.Parcels.{EndedFlagIs}
use Rattle.m3_model.specs.Invariant.IdealFacts.{IdealFacts}
use Rattle.m3_model.specs.Invariant.Structure.{CloseWasSent, MachineStructure}
use Rattle.m3_model.specs.Invariant.Scheduling.{EntryOk, HoldOk}
use Rattle.m3_model.specs.Invariant.LinkWalk.{CurrentAlongLink, placed_on}
use Rattle.m3_model.specs.Refinement.{Refines}
use Rattle.m3_base.specs.Lists.EachElement.{Each}
use Rattle.m3_refine.proofs.abstraction.FindActor.{find_actor}
use Rattle.m3_refine.proofs.lists.Update.{links_set}
use Rattle.m3_refine.proofs.abstraction.PushParcel.{longer_places, telling_state, telling_sound, telling_closed}
use Rattle.m3_refine.proofs.arrival.ArriveIsLandAll.{after_arrival, came_as, name_in, grants_after, ComesAs, arrives_as}
use Rattle.m3_refine.proofs.arrival.ArriveKeeps.{AnswerOk, FreedBy, KeptBy, arrive_keeps}
use Rattle.m3_refine.proofs.arrival.KeepsKnownActivities.{NamedIf, NamedBy, arrive_names}
use Rattle.m3_refine.proofs.abstraction.ClosedGrants.{closes_one, open_grant}
use Rattle.m3_refine.proofs.arrival.AnswerAndClosed.{ShutsIf, Shuts, Emits, named_target, under_close}
use Rattle.m3_refine.proofs.arrival.CurrentContext.{fits_arrives}
use Rattle.m3_refine.proofs.abstraction.EntriesMatchActors.{actor_place, actor_hold, seat_tile}
use Rattle.m3_refine.proofs.events.take.RouteRefines.{KnownActivity, known_activity, route_is}
use Rattle.m3_refine.proofs.events.take.RestoreGoesOut.{Restores, then_restores, next_one, next_same}
use Rattle.m3_refine.proofs.events.tend.ApplyHeldPacket.{sits_as, applying, applied_absent, applied_apart, applied_flights, applied_flies, away_found, away_each, applied_state, applied_sound, applied_places}
use Rattle.m3_refine.proofs.opening.HomesAndContexts.{some_there}
use Rattle.m3_base.specs.Ideal.GrantHolder.{HeldThere}
use Rattle.m3_refine.proofs.events.take.KernelTakesSaved.{ready_kernel}

-- ---- what the kernel emits

pushed_links : (t : ℕ) (out : List (ℕ × Parcel)) (m : Machine) → with_parcels t out m ≡ record m { links = (with_parcels t out m).links }
pushed_links t [] m = refl
pushed_links t (x ∷ xs) m = pushed_links t xs (with_parcel t x m)

pushed_kernel : (t : ℕ) (out : List (ℕ × Parcel)) (m : Machine) (k : Kernel) → with_parcels t out (record m { kernel = k }) ≡ record (with_parcels t out m) { kernel = k }
pushed_kernel t [] m k = refl
pushed_kernel t (x ∷ xs) m k = pushed_kernel t xs (with_parcel t x m) k

pushed_append : (t : ℕ) (xs ys : List (ℕ × Parcel)) (m : Machine) → with_parcels t (xs ++ ys) m ≡ with_parcels t ys (with_parcels t xs m)
pushed_append t [] ys m = refl
pushed_append t (x ∷ xs) ys m = pushed_append t xs ys (with_parcel t x m)

-- the kernel's own Closed
kernel_closed : (h : Site) (m : Machine) → MachineStructure h m → (o : Option ℕ) → ShutsIf (ideal_of m).grants o
    → Emits h m (with_parcels 0 (closed_out o) m) (ideal_of m).flights (grants_after o (ideal_of m).grants) (push_closed 0 o (placement_of h m))
kernel_closed h m sound None ok = record { sound = sound; state = refl; places = refl }
kernel_closed h m sound (Some g) ok =
    let o = open_grant (all_closed m) g m.kernel.grants ok.grant ok.found ok.stands in
    let shut : CloseWasSent (grant_in m.kernel.grants g) = subst CloseWasSent (sym o.1) (under_close ok.grant ok.stands ok.sent) in
    let n = with_parcel 0 (0, Closed g) m in
    let low : 0 < 16 = omega arith in
    let walk : (w : ℕ) → 2 ≤ w → w < 16 → CurrentAlongLink (current_act (tile_at w m)) (link_at 0 w n) (placed_on h w m.kernel) =
    (λ w two high. links_set m.links 0 0 (link_at 0 0 m ++ Closed g ∷ []) low low sound.links (λ a b qs. 2 ≤ b → CurrentAlongLink (current_act (tile_at b m)) qs (placed_on h b m.kernel)) 0 w high (λ k. sound.seated.walks w two high) (λ e d k. absurd (omega arith)) two) in
    record {
      sound = telling_sound h m 0 low sound g o.0 shut walk;
      state = telling_state h m 0 low sound g o.0 ∙ (λ k. record (ideal_of m) { grants = closes_one (all_closed m) (all_closed n) g m.kernel.grants ok.grant (telling_closed h m 0 low sound g o.0) ok.found k });
      places = longer_places h m 0 0 low low (Closed g) sound.links;
    }

-- the answer that arose is routed
record Answers (h : Site) (m : Machine) (o : Option Packet) : Type 0 where
  pub routed : Routed
  pub did : answer_routed h m.kernel o ≡ Some routed
  pub sound : MachineStructure h (with_parcels 0 routed.out (record m { kernel = routed.kernel }))
  pub state : ideal_of (with_parcels 0 routed.out (record m { kernel = routed.kernel })) ≡ record (ideal_of m) { flights = with_packet o (ideal_of m).flights }
  pub places' : placement_of h (with_parcels 0 routed.out (record m { kernel = routed.kernel })) ≡ places_tend.answer_routed (name_in o) (placement_of h m)

answers : (h : Site) (m : Machine) → MachineStructure h m → (id : FlightId) (o : Option Packet) → AnswerOk id o → NamedIf h o → flight id (all_packets m) ≡ None → Answers h m o
answers h m sound id None ok named absent =
    record { routed = record { held = false; kernel = m.kernel; out = [] }; did = refl; sound = sound; state = refl; places' = refl }
answers h m sound id (Some q) ok named absent =
    let aim : target q ≡ Some (name_of q).issuer = ok.1 ∙ (λ k. Some (sym ok.0 k).issuer) in
    let gone : flight (name_of q) (all_packets m) ≡ None = subst (λ n. flight n (all_packets m) ≡ None) (sym ok.0) absent in
    let its = known_activity h m (name_of q).issuer sound (named_target h q (name_of q).issuer named aim) in
    let r = route_is h m sound q (name_of q).issuer aim named gone its in
    record { routed = r.0; did = r.1; sound = r.2.sound'; state = r.2.state; places' = r.2.placed' }

ended_is : (e : Bool) (o : Option Resident) → EndedFlagIs e o → (z : Resident) × (o ≡ Some z) × (z.ended ≡ e)
ended_is e None k = absurd k
ended_is e (Some z) k = (z, refl, k)

resting_as : (b : Bool) (w : SavedActivity) → places_state.is_resting (residency_of (sits_as b w)) ≡ b
resting_as true w = refl
resting_as false w = refl

here_not : (b : Bool) (w : SavedActivity) → (places_state.is_placed (residency_of (sits_as b w)) || places_state.is_leaving (residency_of (sits_as b w))) ≡ false
here_not true w = refl
here_not false w = refl

sits_either : (b : Bool) (x : ActivityEntry) (w : SavedActivity) → x.seating ≡ sits_as b w → (x.seating ≡ Is_resting w) ⊎ (x.seating ≡ Is_coming w)
sits_either true x w e = inl e
sits_either false x w e = inr e

fine_act : (h : Site) (m : Machine) (x : ActivityEntry) (b : Bool) (w : SavedActivity) → EntryOk h m.tiles x (sits_as b w) → (w.context.act ≡ x.act) × EndedFlagIs w.ended (resident_at h m.tiles x.act)
fine_act h m x true w o = o
fine_act h m x false w o = o

module _ (h : Site) (m : Machine) (sound : MachineStructure h m) (hyp : IdealFacts m) (a : ℕ) (made : Option Made) (known : is_home h a ≡ true) where
  pub its : KnownActivity h m a
  its = known_activity h m a sound known

  abbrev e : Event
  e = Event.Tend a

  its_there : entry_of its.seat.act m.kernel ≡ Some its.seat
  its_there = ap (λ n. entry_of n m.kernel) its.its.act ∙ its.its.seat

  tend_step : machine_step h m e made ≡ done_by 0 m (Some (of_kernel (tend_entry h m.kernel its.seat its.seat.seating)))
  tend_step = ap (λ o. done_by 0 m (Some (of_kernel (tend_by h m.kernel o)))) (ap (λ n. entry_of n m.kernel) (sym its.key) ∙ its.its.seat)

  abbrev P : Placement
  P = placement_of h m

  abbrev A : PlacedActivity
  A = actor_in m its.home

  abbrev front_place : places_state.Residency → Option places_landing.PlacementResult
  front_place w = if places_state.is_placed w || places_state.is_leaving w then places_landing.idle_outcome IdleWhy.NotResting (ideal_of m) (placement_of h m) else places_tend.tend_front (ideal_of m) (placement_of h m) (actor_in m its.home) (actor_in m its.home).hold

  place_step : placement_step (ideal_of m) (placement_of h m) e made ≡ front_place (residency_of its.seat.seating)
  place_step =
      ap (places_tend.tend (ideal_of m) (placement_of h m)) (find_actor m a h.homes its.home its.found)
      ∙ ap front_place (actor_place h m its.seat its.home its.its)

  idles : (why : IdleWhy) → tend_entry h m.kernel its.seat its.seat.seating ≡ idle_result why m.kernel → front_place (residency_of its.seat.seating) ≡ places_landing.idle_outcome why (ideal_of m) (placement_of h m) → Refines h m e made (machine_step h m e made)
  idles why k p = subst (Refines h m e made) (sym (tend_step ∙ ap (λ d. done_by 0 m (Some (of_kernel d))) k)) (place_step ∙ p, sound)

  -- ---- a packet is applied

  module _ (b : Bool) (w : SavedActivity) (sits : its.seat.seating ≡ sits_as b w) (p : Packet) (ps : List Packet) (front : its.seat.hold ≡ p ∷ ps) where
    fine : EntryOk h m.tiles its.seat its.seat.seating × Each (HoldOk h its.seat.act) its.seat.hold
    fine = sound.seated.seats its.seat.act its.seat its_there

    fine_sits : (w.context.act ≡ its.seat.act) × EndedFlagIs w.ended (resident_at h m.tiles its.seat.act)
    fine_sits = fine_act h m its.seat b w (subst (EntryOk h m.tiles its.seat) sits fine.0)

    held_ok : HoldOk h its.seat.act p
    held_ok = (subst (Each (HoldOk h its.seat.act)) front fine.1).0

    aim : target p ≡ Some w.context.act
    aim = held_ok.1 ∙ ap (λ n. Some n) (sym fine_sits.0)

    fit : fits w.context p ≡ true
    fit = hyp.fits_away its.seat w p ps its_there (sits_either b its.seat w sits) front

    module _ (r : Arrival) (ar : arrive w.context p ≡ Some r) where
      kept : KeptBy w.context p (Some r)
      kept = subst (KeptBy w.context p) ar (arrive_keeps w.context p)

      named_old : is_named_context h w.context ≡ true
      named_old = away_each h m sound its.seat its.home its.its b w sits (λ c. is_named_context h c ≡ true) sound.named

      found : context_of w.context.act (ideal_of m).contexts ≡ Some w.context
      found = away_found h m sound its.seat its.home its.its b w sits

      named_both : NamedBy h w.context named_old (Some r)
      named_both = subst (NamedBy h w.context named_old) ar (arrive_names h w.context named_old p held_ok.0)

      abbrev ready : Bool
      ready = b && (has_program h its.seat.act && not w.ended)

      abbrev m1 : Machine
      m1 = applying h m sound its.seat its.home its.its b w sits p ps front r.context kept.0 named_both.0 ready

      sound1 : MachineStructure h m1
      sound1 = applied_sound h m sound its.seat its.home its.its b w sits p ps front r.context kept.0 named_both.0 ready

      absent : flight (name_of p) (all_packets m1) ≡ None
      absent = applied_absent h m sound its.seat its.home its.its b w sits p ps front r.context kept.0 named_both.0 ready

      state1 : ideal_of m1 ≡ record (ideal_of m) { contexts = put_context r.context (ideal_of m).contexts; flights = (ideal_of m1).flights }
      state1 = applied_state h m sound its.seat its.home its.its b w sits p ps front r.context kept.0 named_both.0 ready

      -- ---- the answer, and Closed

      ans : Answers h m1 r.answer
      ans = answers h m1 sound1 (name_of p) r.answer kept.1 named_both.1 absent

      abbrev m2 : Machine
      m2 = with_parcels 0 ans.routed.out (record m1 { kernel = ans.routed.kernel })

      shuts : (o : Option ℕ) → FreedBy w.context p o → ShutsIf (ideal_of m).grants o
      shuts None f = tt
      shuts (Some g) f = by_cause f.2
        where
          held : HeldThere (ideal_of m).grants g w.context.act f.0
          held = hyp.records w.context.act f.0 g w.context found f.1

          by_cause : (has_closing g (endpoint w.context f.0) ≡ true) ⊎ ((id : FlightId) × (to : ℕ) × (p ≡ Packet.Close id to f.0 g)) → Shuts (ideal_of m).grants g
          by_cause (inl k) = record { grant = held.grant; found = held.found; stands = held.stands; sent = hyp.sent w.context.act f.0 g w.context held.grant found k held.found }
          by_cause (inr k) =
              record {
                grant = held.grant;
                found = held.found;
                stands = held.stands;
                sent = hyp.sent_flying (name_of p) k.0 k.1 f.0 g held.grant (applied_flies h m sound its.seat its.home its.its b w sits p ps front r.context kept.0 named_both.0 ready ∙ ap (λ q. Some q) k.2) held.found;
              }

      grants2 : (ideal_of m2).grants ≡ (ideal_of m).grants
      grants2 = ap (λ s. s.grants) ans.state ∙ ap (λ s. s.grants) state1

      cl : Emits h m2 (with_parcels 0 (closed_out r.freed) m2) (ideal_of m2).flights (grants_after r.freed (ideal_of m2).grants) (push_closed 0 r.freed (placement_of h m2))
      cl = kernel_closed h m2 ans.sound r.freed (subst (λ gs. ShutsIf gs r.freed) (sym grants2) (shuts r.freed kept.2))

      abbrev out : List (ℕ × Parcel)
      out = ans.routed.out ++ closed_out r.freed

      abbrev m3 : Machine
      m3 = record m1 { kernel = ans.routed.kernel; links = (with_parcels 0 (ans.routed.out ++ closed_out r.freed) (record m1 { kernel = ans.routed.kernel })).links }

      m3_is : with_parcels 0 (closed_out r.freed) m2 ≡ m3
      m3_is = sym (pushed_append 0 ans.routed.out (closed_out r.freed) (record m1 { kernel = ans.routed.kernel })) ∙ pushed_links 0 out (record m1 { kernel = ans.routed.kernel })

      sound3 : MachineStructure h m3
      sound3 = subst (MachineStructure h) m3_is cl.sound

      state3 : ideal_of m3 ≡ after_arrival (ideal_of m) (ideal_of m1).flights r
      state3 =
          sym (ap ideal_of m3_is) ∙ cl.state
          ∙ ap (λ (s : State). record s { grants = grants_after r.freed s.grants }) ans.state
          ∙ ap (λ (s : State). record s { flights = with_packet r.answer (ideal_of m1).flights; grants = grants_after r.freed s.grants }) state1

      places3 : placement_of h m3 ≡ push_closed 0 r.freed (places_tend.answer_routed (name_in r.answer) (placement_of h m1))
      places3 = sym (ap (placement_of h) m3_is) ∙ cl.places ∙ ap (push_closed 0 r.freed) ans.places'

      -- ---- who comes

      abbrev t : ℕ
      t = tile_of h its.seat.act

      rs : Restores h m3 sound3 r.said (tile_of h its.seat.act) out (next_one h m3 sound3 r.said (tile_of h its.seat.act))
      rs = then_restores h m3 sound3 r.said (tile_of h its.seat.act) out

      abbrev n : Machine
      n = with_parcels 0 rs.extra (record m3 { kernel = rs.kernel })

      n_is : with_parcels 0 (out ++ rs.extra) (record m { kernel = rs.kernel }) ≡ n
      n_is =
          pushed_append 0 out rs.extra (record m { kernel = rs.kernel })
          ∙ ap (with_parcels 0 rs.extra) (pushed_kernel 0 out (record m1 { kernel = ans.routed.kernel }) rs.kernel ∙ (λ k. record (pushed_links 0 out (record m1 { kernel = ans.routed.kernel }) k) { kernel = rs.kernel }))

      fit_is : arrive_fit w.context p ≡ Some r
      fit_is = ap (λ d. cond d (arrive w.context p) None) fit ∙ ar

      sits_fun : (d : Bool) → tend_front h m.kernel its.seat (p ∷ ps) w (sits_as d) d ≡ tend_away h m.kernel its.seat p ps w (sits_as d) d
      sits_fun d = refl

      seat_is : (d : Bool) → tend_entry h m.kernel its.seat (sits_as d w) ≡ tend_front h m.kernel its.seat its.seat.hold w (sits_as d) d
      seat_is true = refl
      seat_is false = refl

      step : machine_step h m e made ≡ Some (record { outcome = record { made = None; said = r.said; restore = rs.restore }; machine = n })
      step =
          let deed : Option Arrival → Kernel → LocalResult Kernel = λ o k. tend_arrived h m.kernel k its.seat o in
          let k0 : Context → Kernel = λ c. with_entry (record its.seat { seating = sits_as b (after_packet p c w); hold = ps }) m.kernel in
          tend_step
          ∙ ap (λ z. done_by 0 m (Some (of_kernel (tend_entry h m.kernel its.seat z)))) sits
          ∙ ap (λ d. done_by 0 m (Some (of_kernel d))) (seat_is b ∙ ap (λ l. tend_front h m.kernel its.seat l w (sits_as b) b) front)
          ∙ ap (λ o. done_by 0 m (Some (of_kernel (deed o (join_ready ready t its.seat.act (k0 (arrived_context w.context o))))))) fit_is
          ∙ ap (λ k. done_by 0 m (Some (of_kernel (deed (Some r) k)))) (ready_kernel ready t its.seat.act (k0 r.context))
          ∙ ap (λ o. done_by 0 m (Some (of_kernel (after_tend h t r.said r.freed m.kernel o)))) ans.did
          ∙ ap (λ d. done_by 0 m (Some (of_kernel d))) rs.did
          ∙ ap (λ z. Some (record { outcome = record { made = None; said = r.said; restore = rs.restore }; machine = z })) n_is

      -- ---- the places

      comes : landing_result (ideal_of m) (name_of p) ≡ Some (came_as (ideal_of m) (ideal_of m1).flights r)
      comes =
          subst (ComesAs (ideal_of m) (name_of p) (ideal_of m1).flights) ar
          (arrives_as (ideal_of m) (ideal_of m1).flights w.context found (λ ep g k. hyp.records w.context.act ep g w.context found k) p (
            applied_flights h m sound its.seat its.home its.its b w sits p ps front r.context kept.0 named_both.0 ready,
            applied_apart h m sound its.seat its.home its.its b w sits p ps front r.context kept.0 named_both.0 ready,
          ) aim)

      its_found : home_of its.home.act h ≡ Some its.home
      its_found = ap (λ n. home_of n h) its.key ∙ its.found

      program_is : its.home.has_program ≡ has_program h its.seat.act
      program_is = sym (ap (λ a. home_has_program (home_of a h)) its.its.act ∙ ap home_has_program its_found)

      ended_same : (actor_in m its.home).ended ≡ w.ended
      ended_same =
          let z = ended_is w.ended (resident_at h m.tiles its.seat.act) fine_sits.1 in
          let tile : tile_of h its.seat.act ≡ its.home.tile = seat_tile h m its.seat its.home its.its in
          let there : resident_of its.home.act (tile_at its.home.tile m) ≡ Some z.0 = (λ k. resident_of (sym its.its.act k) (tile_at (sym tile k) m)) ∙ z.1 in
          ap (λ o. (actor_by its.home (entry_of its.home.act m.kernel) o).ended) there ∙ z.2

      place_as : places_state.is_resting (actor_in m its.home).place ≡ b
      place_as = ap places_state.is_resting (actor_place h m its.seat its.home its.its ∙ ap residency_of sits) ∙ resting_as b w

      abbrev q1 : Bool → Placement
      q1 d = places_state.join_ready d its.home.tile its.home.act (places_state.with_actor (record (actor_in m its.home) { hold = map name_of ps }) (placement_of h m))

      pub tend_applies : Refines h m e made (machine_step h m e made)
      tend_applies =
          let s = ideal_of m in
          let id = name_of p in
          let look : Placement → ℕ → Option PlacedActivity = λ z u. if list_any (places_take.is_leaving_at u) z.actors then None else places_take.first_due u z.actors in
          let sn = after_arrival (ideal_of m) (ideal_of m1).flights r in
          subst (Refines h m e made) (sym step) (
            place_step
                ∙ ap front_place (ap residency_of sits)
                ∙ ap (λ d. if d then places_landing.idle_outcome IdleWhy.NotResting s (placement_of h m) else places_tend.tend_front s (placement_of h m) (actor_in m its.home) (actor_in m its.home).hold) (here_not b w)
                ∙ ap (places_tend.tend_front s (placement_of h m) (actor_in m its.home)) (actor_hold h m its.seat its.home its.its ∙ ap (map name_of) front)
                ∙ (λ k. places_tend.after_tend its.home.tile (q1 (place_as k && (program_is k && not (ended_same k)))) (landing_result s id))
                ∙ ap (places_tend.after_tend its.home.tile (q1 ready)) comes
                ∙ ap (λ z. places_take.then_restore r.said sn its.home.tile (push_closed 0 r.freed (places_tend.answer_routed (name_in r.answer) z))) (sym (applied_places h m sound its.seat its.home its.its b w sits p ps front r.context kept.0 named_both.0 ready))
                ∙ ap (λ z. places_take.with_restore r.said sn z (look z its.home.tile)) (sym places3)
                ∙ ap (λ u. places_take.with_restore r.said sn (placement_of h m3) (look (placement_of h m3) u)) (sym (seat_tile h m its.seat its.home its.its))
                ∙ ap (places_take.with_restore r.said sn (placement_of h m3)) (next_same h m3 sound3 r.said t)
                ∙ rs.places' sn
                ∙ (λ k. Some (record { said = r.said; restore = rs.restore; state = sym (rs.state ∙ state3) k; places = placement_of h n })),
            rs.sound',
          )

  -- ---- either

  hold_by : (b : Bool) (w : SavedActivity) → its.seat.seating ≡ sits_as b w → (l : List Packet) → its.seat.hold ≡ l → Refines h m e made (machine_step h m e made)
  hold_by b w s [] k =
      idles IdleWhy.EmptyHold
      (ap (tend_entry h m.kernel its.seat) s ∙ seat_is b ∙ ap (λ l. tend_front h m.kernel its.seat l w (sits_as b) b) k)
      (ap front_place (ap residency_of s)
      ∙ ap (λ d. if d then places_landing.idle_outcome IdleWhy.NotResting (ideal_of m) (placement_of h m) else places_tend.tend_front (ideal_of m) (placement_of h m) (actor_in m its.home) (actor_in m its.home).hold) (here_not b w)
      ∙ ap (places_tend.tend_front (ideal_of m) (placement_of h m) (actor_in m its.home)) (actor_hold h m its.seat its.home its.its ∙ ap (map name_of) k))
    where
      seat_is : (d : Bool) → tend_entry h m.kernel its.seat (sits_as d w) ≡ tend_front h m.kernel its.seat its.seat.hold w (sits_as d) d
      seat_is true = refl
      seat_is false = refl
  hold_by b w s (p ∷ ps) k =
      let i = fits_arrives w.context p (hyp.fits_away its.seat w p ps its_there (sits_either b its.seat w s) k) in
      let r = some_there (arrive w.context p) i in
      tend_applies b w s p ps k r.0 r.1

  seat_by : (w : EntryResidency) → its.seat.seating ≡ w → Refines h m e made (machine_step h m e made)
  seat_by Is_placed s = idles IdleWhy.NotResting (ap (tend_entry h m.kernel its.seat) s) (ap front_place (ap residency_of s))
  seat_by Is_leaving s = idles IdleWhy.NotResting (ap (tend_entry h m.kernel its.seat) s) (ap front_place (ap residency_of s))
  seat_by (Is_resting w) s = hold_by true w s its.seat.hold refl
  seat_by (Is_coming w) s = hold_by false w s its.seat.hold refl

  -- not resting, nothing held, or the front is applied
  pub tend_refines : Refines h m e made (machine_step h m e made)
  tend_refines = seat_by its.seat.seating refl
