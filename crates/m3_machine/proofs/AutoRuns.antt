-- The driver's steps, one after the other.
use Rattle.std.proofs.Common.{◌≡◌, ◌<◌, ◌≤◌, ◌+◌, ◌++◌, ◌∷◌, [], ℕ, List, length, length-append, Option, Some, None, append_assoc, append-nil, refl, sym, ap, subst, ◌∙◌, arith, inl, inr}
use Rattle.m3_base.specs.declared.event.Event.{Event}
use Rattle.m3_base.specs.declared.program.Move.{Move}
use Rattle.m3_base.specs.declared.program.Seen.{Seen}
use Rattle.m3_base.specs.DriverRun.Choices.{choice}
use Rattle.m3_base.specs.DriverRun.Configuration.{Configuration, configuration_after, last_configuration, orders_after, places_after}
use Rattle.m3_base.specs.Placement.Step.{placement_step}
use Rattle.m3_model.specs.Events.{SuitsPrograms}
use Rattle.m3_model.specs.SetupOpening.{opened_site}
use Rattle.m3_trace.specs.JournalEntry.{entry}
use Rattle.m3_machine.specs.MachineStep.{IsDrivenOn, IsStep}
use Rattle.m3_machine.specs.MachineView.{MachineValue, configuration, ideal, placement}
use Rattle.m3_trace.proofs.ConfigurationSteps.{choices_more, last_more, places_move}

module _ {P : Type 0} where
  pub none_driven : (budget : ℕ) (w : MachineValue P) → IsDrivenOn budget w w
  none_driven budget w = record { made = []; added = sym (append-nil w.entries); choices = tt; reaches = refl; few = inl refl; setup = refl; initial = refl }

  module _ (moves : P → List ℕ → Seen → Move → List ℕ → Type 0) (old : MachineValue P) (e : Event) (new : MachineValue P) (k : IsStep moves old e new) where
    -- the configuration moves by the entry
    step_configuration : SuitsPrograms (opened_site old.setup) e → configuration_after (configuration old) (entry e k.outcome) ≡ configuration new
    step_configuration suits =
        let places = places_move (opened_site old.setup) (ideal old) (placement old) e k.outcome (placement new) suits k.placed.moves in
        λ i. record { state = k.reaches i; places = places i; left = sym k.left i }

    pub one_entry : length new.entries ≡ length old.entries + 1
    one_entry = ap length k.added ∙ length-append old.entries (entry e k.outcome ∷ [])

    -- one step more of the driver's
    pub driven_more : (budget : ℕ) (first : MachineValue P) → IsDrivenOn budget first old → SuitsPrograms (opened_site old.setup) e → choice (configuration old) ≡ Some e → length old.entries < budget → IsDrivenOn budget first new
    driven_more budget first d suits next room =
        let x = entry e k.outcome in
        record {
          made = d.made ++ x ∷ [];
          added = k.added ∙ ap (λ es. es ++ x ∷ []) d.added ∙ append_assoc first.entries d.made (x ∷ []);
          choices = choices_more (configuration first) d.made x d.choices (ap choice d.reaches ∙ next);
          reaches = last_more (configuration first) d.made x ∙ ap (λ (c : Configuration). configuration_after c x) d.reaches ∙ step_configuration suits;
          few = inr (let one = one_entry in omega arith);
          setup = k.setup ∙ d.setup;
          initial = k.initial ∙ d.initial;
        }
