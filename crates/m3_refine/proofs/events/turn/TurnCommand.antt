-- A program makes a command in its turn: after its stay counted one move more, it is a command of that activity.
use Rattle.std.proofs.Common.{◌≡◌, ℕ, ◌+◌, ◌<◌, true, false, [], ◌∷◌, length, Option, Some, None, refl, sym, subst, ◌∙◌, ap, arith}
use Rattle.std.specs.Prelude.{◌==◌, ◌&&◌}
use Rattle.std.proofs.lemmas.Bool.Decides.{nat_tests}
use Rattle.m3_base.specs.declared.command.Command.{Command}
use Rattle.m3_base.specs.declared.event.Made.{Made}
use Rattle.m3_base.specs.declared.step.Step.{Step}
use Rattle.m3_base.specs.Ideal.Flights.{flight}
use Rattle.m3_base.specs.Ideal.Context.{Context}
use Rattle.m3_base.specs.Ideal.Issue.{Issued, issue, next_id, is_busy, flies_always}
use Rattle.m3_base.specs.Ideal.Step.{ideal_run}
use Rattle.m3_base.specs.Journal.Entry.{shown_told}
use Rattle.m3_base.specs.Placement.Command.{command_by}
use Rattle.m3_base.specs.Placement.State as places_state
use Rattle.m3_model.specs.Config.KnownActivities.{is_home, is_named_context}
use Rattle.m3_model.specs.Config.Site.{Site, tile_of}
use Rattle.m3_model.specs.Tile.State.{Resident}
use Rattle.m3_model.specs.Tile.Step.{resident_of, seen_of_reply, turn_issued, with_current, with_resident, new_out}
use Rattle.m3_model.specs.Kernel.Step.{entry_of}
use Rattle.m3_model.specs.Machine.{Machine, Tile_part, tile_at, with_part, with_parcels}
use Rattle.m3_model.specs.Abstraction.{ideal_of, actor_by, placement_of}
use Rattle.m3_model.specs.Invariant.IdealFacts.{IdealFacts}
use Rattle.m3_model.specs.Invariant.Structure.{MachineStructure}
use Rattle.m3_refine.proofs.abstraction.ChangeResident.{restayed, restayed_state, restayed_places, restayed_sound, still_here, tile_again, current_activity}
use Rattle.m3_refine.proofs.arrival.CurrentContext.{current_found, current_each}
use Rattle.m3_refine.proofs.events.HomeTile.{home_range, home_in_tiles}
use Rattle.m3_refine.proofs.events.command.CommandRefines.{machine_after, do_done, emitted}
use Rattle.m3_refine.proofs.events.command.Issue.{IssuesOk, IssuedOk, WaitsIf, issue_ok, issue_waits}
use Rattle.m3_refine.proofs.events.take.RouteRefines.{KnownActivity}
use Rattle.m3_refine.proofs.events.turn.TurnMatches.{IsThen, Matches}

-- with nothing in flight no command waits
pub idle_issues : (c : Context) (x : Command) → (length c.flying == 0) ≡ true → (flies_always x && is_busy c) ≡ false
idle_issues c x e = let n : length c.flying ≡ 0 = grind (arith, nat_tests, e) in grind (arith, nat_tests, n)

module _ (h : Site) (m : Machine) (c : Context) (sound : MachineStructure h m) (hyp : IdealFacts m) (known : is_home h c.act ≡ true) (here : (tile_at (tile_of h c.act) m).current ≡ Some c)
    (y : Resident) (found : resident_of c.act (tile_at (tile_of h c.act) m) ≡ Some y) (act : y.act ≡ c.act) (x : Command) where
  abbrev t : ℕ
  t = tile_of h c.act

  ht : tile_of h c.act < 16
  ht = (home_range h m c.act sound known).1

  abbrev its : KnownActivity h m c.act
  its = current_activity h m t sound c here

  module _ (i : Issued) (is : issue c x ≡ Some i) (ok : IssuesOk h c i) where
    -- the stay, with one move more
    abbrev moved_on : Resident
    moved_on = record y { moves = y.moves + 1; seen = seen_of_reply i.told }

    abbrev m1 : Machine
    m1 = restayed h m t ht sound c here y moved_on found act

    state_same : ideal_of m1 ≡ ideal_of m
    state_same = restayed_state h m t ht sound c here y moved_on found act

    sound1 : MachineStructure h m1
    sound1 = restayed_sound h m t ht sound c here y moved_on found act

    here1 : (tile_at t m1).current ≡ Some c
    here1 = still_here h m t ht sound c here y moved_on found act

    free : flight (next_id c) (ideal_of m1).flights ≡ None
    free = ap (λ s. flight (next_id c) s.flights) state_same ∙ hyp.fresh c.act c (current_found m t (home_in_tiles h m c.act sound known) c here sound)

    abbrev commanded : Machine
    commanded = machine_after h m1 c.act x None sound1 known c here1 refl i

    abbrev turned : Machine
    turned = with_parcels t (new_out h i.packet) (with_part t (Tile_part (with_resident moved_on (with_current (Some i.context) (tile_at t m)))) m)

    machine_same : commanded ≡ turned
    machine_same =
        ap (with_parcels t (new_out h i.packet)) (tile_again m t (home_in_tiles h m c.act sound known) (with_resident moved_on (tile_at t m)) (with_current (Some i.context)))

    issued_matches : Matches h m t (Some (turn_issued h (tile_at t m) y (Made.Command x) (Some i)))
        (command_by (ideal_of m) (places_state.with_actor (actor_by its.home (entry_of its.home.act m.kernel) (Some moved_on)) (placement_of h m)) its.home.act (ideal_run (Step.Issue its.home.act x ∷ []) (ideal_of m)))
    issued_matches =
        let places = sym (restayed_places h m t ht sound c here y moved_on found act its.home its.found) in
        subst (λ n. IsThen h m t n (shown_told i.told) (command_by (ideal_of m) (places_state.with_actor (actor_by its.home (entry_of its.home.act m.kernel) (Some moved_on)) (placement_of h m)) its.home.act (ideal_run (Step.Issue its.home.act x ∷ []) (ideal_of m)))) machine_same (
          ap (λ a. command_by (ideal_of m) (places_state.with_actor (actor_by its.home (entry_of its.home.act m.kernel) (Some moved_on)) (placement_of h m)) a (ideal_run (Step.Issue a x ∷ []) (ideal_of m))) its.key
              ∙ (λ k. command_by (sym state_same k) (places k) c.act (ideal_run (Step.Issue c.act x ∷ []) (sym state_same k)))
              ∙ do_done h m1 c.act x None sound1 known c here1 refl i is ok free,
          (emitted h m1 c.act x None sound1 known c here1 refl i is ok free).sound,
        )

  by_issue : (o : Option Issued) → issue c x ≡ o → IssuedOk h c o → WaitsIf (flies_always x && is_busy c) o → (length c.flying == 0) ≡ true
      → Matches h m t (Some (turn_issued h (tile_at t m) y (Made.Command x) o))
      (command_by (ideal_of m) (places_state.with_actor (actor_by its.home (entry_of its.home.act m.kernel) (Some (record y { moves = y.moves + 1 }))) (placement_of h m)) its.home.act (ideal_run (Step.Issue its.home.act x ∷ []) (ideal_of m)))
  by_issue None is ok w e = absurd (let k = idle_issues c x e in cc)
  by_issue (Some i) is ok w e = issued_matches i is ok

  pub command_matches : (length c.flying == 0) ≡ true → Matches h m t (Some (turn_issued h (tile_at t m) y (Made.Command x) (issue c x)))
      (command_by (ideal_of m) (places_state.with_actor (actor_by its.home (entry_of its.home.act m.kernel) (Some (record y { moves = y.moves + 1 }))) (placement_of h m)) its.home.act (ideal_run (Step.Issue its.home.act x ∷ []) (ideal_of m)))
  command_matches e =
      let named = current_each m t (home_in_tiles h m c.act sound known) c here (λ z. is_named_context h z ≡ true) sound.named in
      by_issue (issue c x) refl (issue_ok h c known named x) (issue_waits c x) e
