-- A local step of the tile beside what the places do: where they say the same, the event refines.
use Rattle.std.proofs.Common.{◌≡◌, ℕ, ◌<◌, ◌≤◌, Bool, true, false, cond, [], ◌∷◌, Option, Some, None, refl, sym, subst, ◌∙◌, ap}
use Rattle.std.proofs.lemmas.List.{set-get_or}
use Rattle.m3_base.specs.declared.event.Event.{Event}
use Rattle.m3_base.specs.declared.event.IdleWhy.{IdleWhy}
use Rattle.m3_base.specs.declared.event.Made.{Made}
use Rattle.m3_base.specs.declared.event.Said.{Said}
use Rattle.m3_base.specs.Ideal.Context.{Context}
use Rattle.m3_base.specs.Placement.Landing as places_landing
use Rattle.m3_base.specs.Placement.Landing.{PlacementResult}
use Rattle.m3_base.specs.Placement.Step.{placement_step}
use Rattle.m3_base.specs.Placement.Turn.{yield_once}
use Rattle.m3_base.specs.Placement.State as places_state
use Rattle.m3_base.specs.Placement.State.{PlacedActivity}
use Rattle.m3_model.specs.Config.Site.{Site, tile_in}
use Rattle.m3_model.specs.LocalStep.{LocalResult, idle_result, local_result_made}
use Rattle.m3_model.specs.Parcel.{Yield}
use Rattle.m3_model.specs.Tile.State.{Resident, Tile}
use Rattle.m3_model.specs.Tile.Step.{resident_of, with_resident, yield_result}
use Rattle.m3_model.specs.Kernel.Step.{entry_of}
use Rattle.m3_model.specs.Machine.{Machine, Tile_part, empty_tile, tile_at, with_part, with_parcel, with_parcels, machine_step, done_by, of_turn}
use Rattle.m3_model.specs.Abstraction.{ideal_of, actor_by, placement_of}
use Rattle.m3_model.specs.Invariant.Structure.{MachineStructure}
use Rattle.m3_model.specs.Refinement.{Refines}
use Rattle.m3_refine.proofs.abstraction.ChangeResident.{restayed, restayed_state, restayed_places, restayed_sound, still_here, current_activity, current_home}
use Rattle.m3_refine.proofs.abstraction.PushYield.{yielding, yielding_state, yielding_places, yielding_sound}
use Rattle.m3_refine.proofs.events.take.RouteRefines.{KnownActivity}

module _ (h : Site) (m : Machine) (t : ℕ) where
  abbrev pub machine_then : LocalResult Tile → Machine
  machine_then d = with_parcels t d.out (with_part t (Tile_part d.part) m)

  -- the machine n, after this outcome, is what the places say, and it is sound
  abbrev pub IsThen : Machine → Said → Option PlacementResult → Type 0
  IsThen n said r = (r ≡ Some (record { said = said; restore = None; state = ideal_of n; places = placement_of h n })) × MachineStructure h n

  abbrev pub Matches : Option (LocalResult Tile) → Option PlacementResult → Type 0
  Matches None r = Unit {0}
  Matches (Some d) r =
      (r ≡ Some (record { said = d.outcome.said; restore = d.outcome.restore; state = ideal_of (machine_then d); places = placement_of h (machine_then d) }))
      × MachineStructure h (machine_then d)

  -- one question, asked on both sides
  pub either : (b : Bool) (l k : Option (LocalResult Tile)) (r s : Option PlacementResult) → (b ≡ true → Matches l r) → (b ≡ false → Matches k s) → Matches (cond b l k) (cond b r s)
  either true l k r s f g = f refl
  either false l k r s f g = g refl

  pub matching_refines : (e : Event) (made : Option Made) (l : Option (LocalResult Tile)) (r : Option PlacementResult) → machine_step h m e made ≡ done_by t m (of_turn l)
      → placement_step (ideal_of m) (placement_of h m) e made ≡ r → Matches l r → Refines h m e made (machine_step h m e made)
  matching_refines e made None r step places k = subst (Refines h m e made) (sym step) tt
  matching_refines e made (Some d) r step places k = subst (Refines h m e made) (sym step) (places ∙ k.0, k.1)

  -- nothing changes
  pub idle_matches : MachineStructure h m → (why : IdleWhy) → Matches (Some (idle_result why (tile_at t m))) (places_landing.idle_outcome why (ideal_of m) (placement_of h m))
  idle_matches sound why =
      let same : with_part t (Tile_part (tile_at t m)) m ≡ m = (λ k. record m { tiles = set-get_or m.tiles t (empty_tile t) k }) in
      subst (λ n. IsThen n (Said.Idle why) (places_landing.idle_outcome why (ideal_of m) (placement_of h m))) (sym same) (refl, sound)

-- ---- one stay of who is current changes, and a Yield goes out

module _ (h : Site) (m : Machine) (t : ℕ) (low : 1 ≤ t) (ht : t < 16) (sound : MachineStructure h m) (c : Context) (here : (tile_at t m).current ≡ Some c)
    (y : Resident) (found : resident_of c.act (tile_at t m) ≡ Some y) (made : Made) (said : Said) where
  abbrev its : KnownActivity h m c.act
  its = current_activity h m t sound c here

  its_tile : its.home.tile ≡ t
  its_tile = sym (ap tile_in its.found) ∙ (current_home h m t sound c here).1

  abbrev its_actor : Resident → PlacedActivity
  its_actor z = actor_by its.home (entry_of its.home.act m.kernel) (Some z)

  module _ (z : Resident) (same : z.act ≡ c.act) where
    abbrev changed : Machine
    changed = restayed h m t ht sound c here y z found same

    pub stay_matches : Matches h m t (Some (local_result_made made said (with_resident z (tile_at t m)) [])) (places_landing.step_outcome said (ideal_of m) (places_state.with_actor (its_actor z) (placement_of h m)))
    stay_matches = (
      (λ k. places_landing.step_outcome said (sym (restayed_state h m t ht sound c here y z found same) k) (sym (restayed_places h m t ht sound c here y z found same its.home its.found) k)),
      restayed_sound h m t ht sound c here y z found same,
    )

    abbrev sends : Machine
    sends = with_parcel t (0, Yield z.act) changed

    changed_here : (tile_at t changed).current ≡ Some c
    changed_here = still_here h m t ht sound c here y z found same

    changed_sound : MachineStructure h changed
    changed_sound = restayed_sound h m t ht sound c here y z found same

    abbrev yields : Machine
    yields = yielding h changed t low ht changed_sound c changed_here

    yield_places : places_state.with_token its.home.tile 0 (places_state.Yield its.home.act) (places_state.with_actor (its_actor z) (placement_of h m)) ≡ placement_of h yields
    yield_places =
        ap (λ n. places_state.with_token n 0 (places_state.Yield its.home.act) (places_state.with_actor (its_actor z) (placement_of h m))) its_tile
        ∙ ap (λ a. places_state.with_token t 0 (places_state.Yield a) (places_state.with_actor (its_actor z) (placement_of h m))) its.key
        ∙ ap (places_state.with_token t 0 (places_state.Yield c.act)) (sym (restayed_places h m t ht sound c here y z found same its.home its.found))
        ∙ sym (yielding_places h changed t low ht changed_sound c changed_here)

    yield_state : ideal_of yields ≡ ideal_of m
    yield_state = yielding_state h changed t low ht changed_sound c changed_here ∙ restayed_state h m t ht sound c here y z found same

    sent_matches : Matches h m t (Some (local_result_made made said (with_resident z (tile_at t m)) ((0, Yield z.act) ∷ [])))
        (places_landing.step_outcome said (ideal_of m) (places_state.with_token its.home.tile 0 (places_state.Yield its.home.act) (places_state.with_actor (its_actor z) (placement_of h m))))
    sent_matches =
        let name : yields ≡ sends = ap (λ a. with_parcel t (0, Yield a) changed) (sym same) in
        subst (λ n. IsThen h m t n said (places_landing.step_outcome said (ideal_of m) (places_state.with_token its.home.tile 0 (places_state.Yield its.home.act) (places_state.with_actor (its_actor z) (placement_of h m))))) name (
          (λ k. places_landing.step_outcome said (sym yield_state k) (yield_places k)),
          yielding_sound h changed t low ht changed_sound c changed_here,
        )

  -- a Yield goes out, unless this stay has sent one
  pub yield_matches : (z : Resident) → z.act ≡ c.act → Matches h m t (Some (yield_result made said (tile_at t m) z)) (places_landing.step_outcome said (ideal_of m) (yield_once (its_actor z) (placement_of h m)))
  yield_matches z same = by_sent z.yield_sent
    where
      by_sent : (b : Bool) → Matches h m t (Some (local_result_made made said (with_resident (cond b z (record z { yield_sent = true })) (tile_at t m)) (cond b [] ((0, Yield z.act) ∷ []))))
          (places_landing.step_outcome said (ideal_of m) (cond b (places_state.with_actor (its_actor z) (placement_of h m))
          (places_state.with_token its.home.tile 0 (places_state.Yield its.home.act) (places_state.with_actor (its_actor (record z { yield_sent = true })) (placement_of h m)))))
      by_sent true = stay_matches z same
      by_sent false = sent_matches (record z { yield_sent = true }) same
