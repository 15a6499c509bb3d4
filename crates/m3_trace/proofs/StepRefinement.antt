-- What a step of the machine means: its entry says what ideal steps say, it is a step of the places, and the machine
-- stays sound.
use Rattle.std.proofs.Common.{◌≡◌, ℕ, Option, Some, None, refl, sym, subst, ap, ◌∙◌}
use Rattle.m3_base.specs.declared.event.Event.{Event}
use Rattle.m3_base.specs.declared.event.Made.{Made}
use Rattle.m3_base.specs.declared.event.Outcome.{Outcome}
use Rattle.m3_base.specs.declared.order.Order.{Order}
use Rattle.m3_base.specs.Ideal.Step.{ideal_run}
use Rattle.m3_base.specs.Placement.Landing as places_landing
use Rattle.m3_base.specs.Placement.Step.{placement_step}
use Rattle.m3_base.specs.Placement.EntryStep.{PlacementMoves, Allows}
use Rattle.m3_base.specs.Journal.Entry.{MatchesBy, steps_of, ran_to}
use Rattle.m3_model.specs.Config.Site.{Site, home_of}
use Rattle.m3_model.specs.LocalStep.{LocalResult}
use Rattle.m3_model.specs.Machine.{Machine, MachineResult, Part, machine_step, part_at, part_step, tile_for_event, parcel_taken, without_front, done_by}
use Rattle.m3_model.specs.Abstraction.{ideal_of, placement_of}
use Rattle.m3_model.specs.Invariant.IdealFacts.{IdealFacts}
use Rattle.m3_model.specs.Refinement.{placement_result, Refines}
use Rattle.m3_model.specs.NumberBounds.{RestoresBounded}
use Rattle.m3_model.specs.Events.{IsOfSetup, IsServed}
use Rattle.m3_trace.specs.Invariant.{MachineInvariant, StepRefines}
use Rattle.m3_model.specs.Events.{IsWithin}
use Rattle.m3_refine.proofs.labels.OutcomeBelongs.{form_of}
use Rattle.m3_refine.proofs.labels.OrderOutcomeBelongs.{HolderIsSeated}
use Rattle.m3_refine.proofs.theorem.NoProgramMoves.{IsNoTurn, OrdersTile, TameIn, part_tame}
use Rattle.m3_refine.proofs.theorem.StepIsLocalMove.{tile_below, step_moves}
use Rattle.m3_refine.proofs.bounds.MemorySize.{memory_kept}
use Rattle.m3_refine.proofs.bounds.ShutGrants.{closing_not_live, shut_kept}
use Rattle.m3_refine.proofs.ways.WaySteps.{way_kept}
use Rattle.m3_refine.proofs.events.order.CloseRefines.{close_refines}
use Rattle.m3_refine.proofs.events.order.GrantRefines.{grant_refines}
use Rattle.m3_refine.proofs.events.order.RevokeRefines.{revoke_refines}
use Rattle.m3_refine.proofs.events.take.RouteRefines.{known_activity}
use Rattle.m3_refine.proofs.events.command.CommandRefines.{do_refines}
use Rattle.m3_refine.proofs.events.take.TakeRefines.{take_refines}
use Rattle.m3_refine.proofs.events.tend.TendRefines.{tend_refines}
use Rattle.m3_refine.proofs.events.order.SwitchRefines.{switch_refines}
use Rattle.m3_refine.proofs.labels.OrdersSayIdealSteps.{HasContext}
use Rattle.m3_trace.proofs.FromIdealInvariant as laws
use Rattle.m3_laws.specs.JournalLaws.{FitsEvent}
use Rattle.m3_base.specs.Ideal.State.{holder}
use Rattle.m3_model.specs.Invariant.Housing.{IsPresent}
use Rattle.m3_model.specs.Invariant.Structure.{MachineStructure}
use Rattle.m3_model.specs.Kernel.State.{ActivityEntry}
use Rattle.m3_model.specs.Kernel.Step.{entry_of}

-- ---- an event that is served is a step of the places

module _ (h : Site) (m : Machine) (kept : MachineInvariant h m) (low : RestoresBounded m) where
  hyp : IdealFacts m
  hyp = laws.hypotheses h m kept.sound kept.law kept.way

  served_refines : (e : Event) → IsOfSetup h e → IsWithin e → IsServed e → Refines h m e None (machine_step h m e None)
  served_refines (Event.Do a x) own within s = do_refines h m a x None kept.sound hyp own
  served_refines (Event.Take to from) own within s = take_refines h m kept.sound hyp low from within.1 to within.0
  served_refines (Event.Tend a) own within s = tend_refines h m kept.sound hyp a None own
  served_refines Event.Close own within s = close_refines h m kept.sound hyp None
  served_refines (Event.Order (Order.Switch t a)) own within s = switch_refines h m kept.sound t a None own
  served_refines (Event.Order (Order.Grant line)) own within s = grant_refines h m kept.sound hyp kept.shut kept.memory line own.0 None
  served_refines (Event.Order (Order.Revoke g)) own within s = revoke_refines h m kept.sound g None (closing_not_live h m kept.sound kept.shut)
  served_refines (Event.Turn a) own within s = absurd s
  served_refines (Event.File l) own within s = absurd s

-- ---- no program makes a move

unmade : (e : Event) → IsServed e → IsNoTurn e
unmade (Event.Do a x) s = tt
unmade (Event.Take to from) s = tt
unmade (Event.Turn a) s = absurd s
unmade (Event.Tend a) s = tt
unmade Event.Close s = tt
unmade (Event.Order o) s = tt
unmade (Event.File l) s = tt

orders : (e : Event) → IsServed e → IsWithin e → OrdersTile e
orders (Event.Do a x) s within = tt
orders (Event.Take to from) s within = tt
orders (Event.Turn a) s within = tt
orders (Event.Tend a) s within = tt
orders Event.Close s within = tt
orders (Event.Order (Order.Switch t a)) s within = within
orders (Event.Order (Order.Grant line)) s within = tt
orders (Event.Order (Order.Revoke g)) s within = tt
orders (Event.File l) s within = tt

plain_done : (t : ℕ) (m : Machine) (o : Option (LocalResult Part)) (d : MachineResult) → TameIn o → done_by t m o ≡ Some d → d.outcome.made ≡ None
plain_done t m None d p e = absurd (cc)
plain_done t m (Some x) d p e = let same : x.outcome ≡ d.outcome = cc in ap (λ (o : Outcome). o.made) (sym same) ∙ p.made

-- ---- what a step means

-- the numbers of a grant's line are in their ranges
pub setup_fits : (h : Site) (e : Event) → IsOfSetup h e → FitsEvent e
setup_fits h (Event.Do a c) own = tt
setup_fits h (Event.Take to from) own = tt
setup_fits h (Event.Tend a) own = tt
setup_fits h (Event.Turn a) own = tt
setup_fits h Event.Close own = tt
setup_fits h (Event.Order (Order.Switch t a)) own = tt
setup_fits h (Event.Order (Order.Grant line)) own = own.1
setup_fits h (Event.Order (Order.Revoke g)) own = tt
setup_fits h (Event.File l) own = tt

-- its holder has a seat
holder_seated : (h : Site) (m : Machine) → MachineStructure h m → (e : Event) → IsOfSetup h e → HolderIsSeated m.kernel e
holder_seated h m sound (Event.Do a c) own = tt
holder_seated h m sound (Event.Take to from) own = tt
holder_seated h m sound (Event.Tend a) own = tt
holder_seated h m sound (Event.Turn a) own = tt
holder_seated h m sound Event.Close own = tt
holder_seated h m sound (Event.Order (Order.Switch t a)) own = tt
holder_seated h m sound (Event.Order (Order.Grant line)) own =
    let its = known_activity h m (holder line) sound own.0 in
    subst (λ (o : Option ActivityEntry). IsPresent o) (sym (subst (λ n. entry_of n m.kernel ≡ Some its.seat) its.key its.its.seat)) tt
holder_seated h m sound (Event.Order (Order.Revoke g)) own = tt
holder_seated h m sound (Event.File l) own = tt

no_turn : (m : Machine) (e : Event) → IsServed e → HasContext (ideal_of m) e
no_turn m (Event.Do a x) s = tt
no_turn m (Event.Take to from) s = tt
no_turn m (Event.Turn a) s = absurd s
no_turn m (Event.Tend a) s = tt
no_turn m Event.Close s = tt
no_turn m (Event.Order o) s = tt
no_turn m (Event.File l) s = tt

module _ (h : Site) (m : Machine) (e : Event) (o : Outcome) (next : Machine) (step : machine_step h m e None ≡ Some (record { outcome = o; machine = next }))
    (kept : MachineInvariant h m) (low : RestoresBounded m) (own : IsOfSetup h e) (within : IsWithin e) (served : IsServed e) where
  abbrev did : MachineResult
  did = record { outcome = o; machine = next }

  refined : Refines h m e None (Some did)
  refined = subst (Refines h m e None) step (served_refines h m kept low e own within served)

  plain : o.made ≡ None
  plain =
      plain_done (tile_for_event h e) (without_front e m) (part_step h (part_at (tile_for_event h e) m) e None (parcel_taken e m)) did
      (part_tame h (λ a. tile_below h kept.sound.setup a (home_of a h) refl) (part_at (tile_for_event h e) m) e None (parcel_taken e m) (unmade e served) (orders e served within)) step

  stepped : (d : places_landing.PlacementResult) × (placement_step (ideal_of m) (placement_of h m) e o.made ≡ Some d) × Allows d o (placement_of h next)
  stepped = (placement_result h did, subst (λ (z : Option Made). placement_step (ideal_of m) (placement_of h m) e z ≡ Some (placement_result h did)) (sym plain) refined.0, record { said = refl; restore = refl; places = refl })

  moves_as : (f : Event) → f ≡ e → IsServed f → PlacementMoves (ideal_of m) (placement_of h m) f o (placement_of h next)
  moves_as (Event.Do a x) is s = subst (λ (f : Event). (d : places_landing.PlacementResult) × (placement_step (ideal_of m) (placement_of h m) f o.made ≡ Some d) × Allows d o (placement_of h next)) (sym is) stepped
  moves_as (Event.Take to from) is s = subst (λ (f : Event). (d : places_landing.PlacementResult) × (placement_step (ideal_of m) (placement_of h m) f o.made ≡ Some d) × Allows d o (placement_of h next)) (sym is) stepped
  moves_as (Event.Tend a) is s = subst (λ (f : Event). (d : places_landing.PlacementResult) × (placement_step (ideal_of m) (placement_of h m) f o.made ≡ Some d) × Allows d o (placement_of h next)) (sym is) stepped
  moves_as (Event.Order r) is s = subst (λ (f : Event). (d : places_landing.PlacementResult) × (placement_step (ideal_of m) (placement_of h m) f o.made ≡ Some d) × Allows d o (placement_of h next)) (sym is) stepped
  moves_as (Event.Turn a) is s = absurd s
  moves_as Event.Close is s = subst (λ (f : Event). (d : places_landing.PlacementResult) × (placement_step (ideal_of m) (placement_of h m) f o.made ≡ Some d) × Allows d o (placement_of h next)) (sym is) stepped
  moves_as (Event.File l) is s = absurd s

  pub means : StepRefines h m (record { event = e; outcome = o }) next
  means = record {
    says = subst (λ (z : Option Made). MatchesBy (steps_of e (record { made = z; said = o.said; restore = o.restore })) (ideal_of m) o.said) (sym plain) (laws.says h m e None did (no_turn m e served) refined).0;
    reaches = subst (λ (z : Option Made). ran_to (ideal_run (steps_of e (record { made = z; said = o.said; restore = o.restore })) (ideal_of m)) (ideal_of m) ≡ ideal_of next) (sym plain) (laws.says h m e None did (no_turn m e served) refined).1;
    placed = record { form = form_of h m e o next step served (holder_seated h m kept.sound e own); moves = moves_as e refl served };
    moves = step_moves h m e kept.sound within (unmade e served) (orders e served within) did step;
    kept = record {
      sound = refined.1;
      law = laws.law_kept h m e None did (no_turn m e served) refined (setup_fits h e own) kept.law;
      way = way_kept h m kept.sound kept.way e None did within step;
      shut = shut_kept h m e None did kept.shut step;
      memory = memory_kept h m e None did kept.memory step;
    };
  }
