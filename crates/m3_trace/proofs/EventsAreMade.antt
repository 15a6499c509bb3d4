-- Each event that fits the setup is made: a turn with the move that answers what it asks, any other with none.
use Rattle.std.proofs.Common.{◌≡◌, ℕ, true, Option, Some, None, is_some, refl, ◌∙◌, ap}
use Rattle.m3_base.specs.declared.event.Event.{Event}
use Rattle.m3_base.specs.declared.event.IdleWhy.{IdleWhy}
use Rattle.m3_base.specs.declared.event.Made.{Made}
use Rattle.m3_base.specs.declared.event.Outcome.{Outcome}
use Rattle.m3_model.specs.Config.KnownActivities.{is_home}
use Rattle.m3_model.specs.Config.Site.{Site, tile_of}
use Rattle.m3_model.specs.Invariant.Structure.{MachineStructure}
use Rattle.m3_model.specs.LocalStep.{LocalResult, idle_result}
use Rattle.m3_model.specs.Machine.{Kernel_part, Machine, Memory_part, Part, Tile_part, done_by, machine_step, of_kernel, of_memory, of_tile, of_turn, parcel_taken, part_at, part_step, tile_at, with_parcels, with_part, without_front}
use Rattle.m3_model.specs.Kernel.Step.{kernel_take}
use Rattle.m3_model.specs.Memory.Step.{memory_take}
use Rattle.m3_model.specs.Parcel.{Parcel}
use Rattle.m3_model.specs.Tile.Ask.{answers_ask, turn_ask}
use Rattle.m3_model.specs.Tile.State.{Tile}
use Rattle.m3_model.specs.Tile.Step.{tile_take, tile_turn}
use Rattle.m3_refine.proofs.events.HomeTile.{home_part}
use Rattle.m3_refine.proofs.events.turn.TurnAnswers.{turn_asked}
use Rattle.m3_refine.proofs.theorem.NoProgramMoves.{IsNoTurn}
use Rattle.m3_refine.proofs.lists.EachElement.{InSome}
use Rattle.m3_trace.specs.Continuation.{FitsSetup}
use Rattle.m3_trace.proofs.TurnMakesMove.{turn_tells}

-- there is a step of the machine with this move, whose outcome tells it
pub record IsMade (h : Site) (m : Machine) (e : Event) (made : Option Made) : Type 0 where
  pub outcome : Outcome
  pub machine : Machine
  pub step : machine_step h m e made ≡ Some (record { outcome = outcome; machine = machine })

module _ (h : Site) (m : Machine) where
  abbrev made_by : (t : ℕ) (n : Machine) (e : Event) (made : Option Made) (o : Option (LocalResult Part)) (d : LocalResult Part) → o ≡ Some d → machine_step h m e made ≡ done_by t n o → IsMade h m e made
  made_by t n e made o d found is = record {
    outcome = d.outcome;
    machine = with_parcels t d.out (with_part t d.part n);
    step = is ∙ ap (done_by t n) found;
  }

  take_step : (p : Part) (to from : ℕ) (q : Option Parcel) → (d : LocalResult Part) × (part_step h p (Event.Take to from) None q ≡ Some d)
  take_step (Kernel_part k) to from None = (idle_result IdleWhy.EmptyLink (Kernel_part k), refl)
  take_step (Memory_part x) to from None = (idle_result IdleWhy.EmptyLink (Memory_part x), refl)
  take_step (Tile_part x) to from None = (idle_result IdleWhy.EmptyLink (Tile_part x), refl)
  take_step (Kernel_part k) to from (Some q) = (of_kernel (kernel_take h k q), refl)
  take_step (Memory_part x) to from (Some q) = (of_memory (memory_take h x q), refl)
  take_step (Tile_part x) to from (Some q) = (of_tile (tile_take h x q), refl)

  module _ (sound : MachineStructure h m) where
    -- any event but a turn
    pub event_is_made : (e : Event) → FitsSetup h e → IsNoTurn e → IsMade h m e None
    event_is_made (Event.Do a c) fits other =
        made_by (tile_of h a) m (Event.Do a c) None (part_step h (Tile_part (tile_at (tile_of h a) m)) (Event.Do a c) None None) _ refl
        (ap (λ z. done_by (tile_of h a) m (part_step h z (Event.Do a c) None None)) (home_part h m a sound fits.0))
    event_is_made (Event.Turn a) fits other = absurd other
    event_is_made (Event.Take to from) fits other =
        let e = Event.Take to from in
        let d = take_step (part_at to m) to from (parcel_taken e m) in
        made_by to (without_front e m) e None (part_step h (part_at to m) e None (parcel_taken e m)) d.0 d.1 refl
    event_is_made (Event.Tend a) fits other = made_by 0 m (Event.Tend a) None (part_step h (Kernel_part m.kernel) (Event.Tend a) None None) _ refl refl
    event_is_made Event.Close fits other = made_by 0 m Event.Close None (part_step h (Kernel_part m.kernel) Event.Close None None) _ refl refl
    event_is_made (Event.Order o) fits other = made_by 0 m (Event.Order o) None (part_step h (Kernel_part m.kernel) (Event.Order o) None None) _ refl refl
    event_is_made (Event.File line) fits other = absurd fits.2

    -- a turn, whose outcome tells its move
    pub turn_is_made : (a : ℕ) (made : Option Made) → is_home h a ≡ true → answers_ask (turn_ask h (tile_at (tile_of h a) m) a) made ≡ true
        → (k : IsMade h m (Event.Turn a) made) × (k.outcome.made ≡ made)
    turn_is_made a made known e =
        let x = tile_at (tile_of h a) m in
        let there = sound.housed.stays a known in
        by_turn (tile_turn h x a made) refl ((turn_asked h x a made there).made_if e) (turn_tells h x a made there e)
      where
        by_turn : (o : Option (LocalResult Tile)) → tile_turn h (tile_at (tile_of h a) m) a made ≡ o → is_some o ≡ true → InSome (λ d. d.outcome.made ≡ made) o → (k : IsMade h m (Event.Turn a) made) × (k.outcome.made ≡ made)
        by_turn None is k tells = absurd (cc)
        by_turn (Some d) is k tells = (
          made_by (tile_of h a) m (Event.Turn a) made (Some (of_tile d)) (of_tile d) refl
              (ap (λ z. done_by (tile_of h a) m (part_step h z (Event.Turn a) made None)) (home_part h m a sound known) ∙ ap (λ q. done_by (tile_of h a) m (of_turn q)) is),
          tells,
        )
