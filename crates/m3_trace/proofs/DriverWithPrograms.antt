-- What the driver does next in a machine with programs and orders that are left: what it does next in the ideal state and
-- the placement that the machine stands for.
use Rattle.std.proofs.Common.{◌≡◌, ℕ, zero, suc, true, false, List, [], ◌∷◌, get_or, length, map, Option, Some, None, refl, sym, subst, ◌∙◌, ap}
use Rattle.std.specs.Prelude.{not, ◌&&◌, ◌==◌, if◌then◌else◌}
use Rattle.m3_base.specs.declared.event.Event.{Event}
use Rattle.m3_base.specs.declared.order.Order.{Order}
use Rattle.m3_base.specs.Ideal.Context.{Context}
use Rattle.m3_base.specs.Placement.Driver as driver
use Rattle.m3_base.specs.Placement.Driver.{tiles, first_some, tend_of, close_of, order_of, switch_to}
use Rattle.m3_base.specs.Placement.State.{current_of}
use Rattle.m3_base.specs.Placement.Turn as places_turn
use Rattle.m3_model.specs.Abstraction.{current_act, ideal_of, placement_of}
use Rattle.m3_model.specs.Config.KnownActivities.{is_home}
use Rattle.m3_model.specs.Config.Site.{Site, has_program, home_has_program, tile_of}
use Rattle.m3_model.specs.Invariant.IdealFacts.{IdealFacts}
use Rattle.m3_model.specs.Invariant.Structure.{MachineStructure}
use Rattle.m3_model.specs.Kernel.Step.{ready_at}
use Rattle.m3_model.specs.Machine.{Machine, empty_tile, tile_at}
use Rattle.m3_model.specs.Tile.State.{Tile}
use Rattle.m3_model.specs.Tile.Step.{act_in, is_waiting, resident_of}
use Rattle.m3_refine.proofs.abstraction.ChangeResident.{current_home}
use Rattle.m3_refine.proofs.abstraction.EntriesMatchActors.{are_seats, moving_any}
use Rattle.m3_refine.proofs.events.order.CloseRefines.{least}
use Rattle.m3_refine.proofs.events.turn.TurnRefines.{actor_is, context_is, its, waiting_is, x}
use Rattle.m3_refine.proofs.opening.HomesAndContexts.{some_there}
use Rattle.m3_trace.proofs.DriverTake.{first_same, next_is_driver}
use Rattle.m3_trace.proofs.DriverTendClose.{tend_same}
use Rattle.m3_trace.proofs.FromIdealInvariant as laws
use Rattle.m3_model.specs.Kernel.Driver.{wanted_at}
use Rattle.m3_trace.specs.DriverOfMachine.{next_event_left, turn_at, turn_by}
use Rattle.m3_trace.specs.Invariant.{MachineInvariant}

-- the places know who is current
current_read : (xs : List Tile) (t n : ℕ) → get_or (map current_act xs) t None ≡ current_act (get_or xs t (empty_tile n))
current_read [] t n = refl
current_read (u ∷ xs) zero n = refl
current_read (u ∷ xs) (suc t) n = current_read xs t n

module _ (h : Site) (m : Machine) (sound : MachineStructure h m) (hyp : IdealFacts m) where
  wanted_same : (t : ℕ) → driver.wanted_at (placement_of h m) t ≡ wanted_at h m.kernel t
  wanted_same t =
      ap (λ b. if not b && get_or m.kernel.yielded t false then switch_to t (ready_at t m.kernel) else None)
      (moving_any h m t m.kernel.seats h.homes (are_seats h m.kernel sound.housed.seats sound.setup.homes))

  abbrev TurnIsSame : ℕ → Type 0
  TurnIsSame t = driver.turn_by (ideal_of m) (driver.actor_at (placement_of h m) (current_of t (placement_of h m))) ≡ turn_at h (tile_at t m) (tile_at t m).current

  module _ (c : Context) (known : is_home h c.act ≡ true) (here : (tile_at (tile_of h c.act) m).current ≡ Some c) where
    abbrev home : ℕ
    home = tile_of h c.act

    at_home : TurnIsSame (tile_of h c.act)
    at_home =
        let y = some_there (resident_of c.act (tile_at home m)) (sound.housed.stays c.act known) in
        let s = ideal_of m in
        let p = placement_of h m in
        let found = y.1 in
        let mine = its h m c sound hyp known here y.0 found in
        let placed = x h m c sound hyp known here y.0 found in
        ap (λ o. driver.turn_by s (driver.actor_at p o)) (current_read m.tiles home home ∙ ap act_in here)
        ∙ ap (driver.turn_by s) (actor_is h m c sound hyp known here y.0 found)
        ∙ ap (λ o. if mine.home.has_program && (not y.0.ended && (not (places_turn.busy_any o) && not (places_turn.is_waiting_turn s placed))) then Some (Event.Turn mine.home.act) else None) (context_is h m c sound hyp known here y.0 found)
        ∙ ap (λ b. if mine.home.has_program && (not y.0.ended && (not (not (length c.flying == 0)) && not b)) then Some (Event.Turn mine.home.act) else None) (waiting_is h m c sound hyp known here y.0 found)
        ∙ ap (λ b. if b && (not y.0.ended && (not (not (length c.flying == 0)) && not (y.0.yield_sent && is_waiting c y.0))) then Some (Event.Turn mine.home.act) else None) (sym (ap home_has_program mine.found))
        ∙ ap (λ a. if has_program h c.act && (not y.0.ended && (not (not (length c.flying == 0)) && not (y.0.yield_sent && is_waiting c y.0))) then Some (Event.Turn a) else None) mine.key
        ∙ ap (turn_by h c) (sym found)
        ∙ ap (turn_at h (tile_at home m)) (sym here)

  turn_same : (t : ℕ) → TurnIsSame t
  turn_same t = by_current (tile_at t m).current refl
    where
      by_current : (o : Option Context) → (tile_at t m).current ≡ o → TurnIsSame t
      by_current None e =
          ap (λ o. driver.turn_by (ideal_of m) (driver.actor_at (placement_of h m) o)) (current_read m.tiles t t ∙ ap act_in e)
          ∙ ap (turn_at h (tile_at t m)) (sym e)
      by_current (Some c) e =
          let lives = current_home h m t sound c e in
          subst TurnIsSame lives.1 (at_home c lives.0 (subst (λ u. (tile_at u m).current ≡ Some c) (sym lives.1) e))

  pub next_left : (left : List Order) → driver.next_event (ideal_of m) (placement_of h m) left ≡ next_event_left h m left
  next_left left =
      λ k. first_some (
      next_is_driver h m k
      ∷ tend_of (tend_same h m sound k)
      ∷ close_of (least h m sound k)
      ∷ order_of left
      ∷ first_same (driver.wanted_at (placement_of h m)) (wanted_at h m.kernel) wanted_same tiles k
      ∷ first_same (λ t. driver.turn_by (ideal_of m) (driver.actor_at (placement_of h m) (current_of t (placement_of h m)))) (λ t. turn_at h (tile_at t m) (tile_at t m).current) turn_same tiles k
      ∷ []
      )

-- the machine's next event is the driver's
pub next_left_kept : (h : Site) (m : Machine) → MachineInvariant h m → (left : List Order) → next_event_left h m left ≡ driver.next_event (ideal_of m) (placement_of h m) left
next_left_kept h m kept left = sym (next_left h m kept.sound (laws.hypotheses h m kept.sound kept.law kept.way) left)
