-- The order in which messages of a grant land, and in which they are fetched.
use Rattle.std.specs.Prelude.{◌≡◌, ℕ, List, [], ◌∷◌, Option, Some, None}
use Rattle.m3_base.specs.declared.step.Step.{Step}
use Rattle.m3_base.specs.Ideal.State.{State}
use Rattle.m3_base.specs.Ideal.Opening.{opening}
use Rattle.m3_base.specs.Setup.Rules.{SetupValue, IsValid}
use Rattle.m3_base.specs.Ideal.Step.{IdealResult, ideal_step}
use Rattle.m3_base.specs.Ideal.MessageTraces.{final, state_after_steps, collect, landed_at, fetched_at, flying_of, names_of, messages_named, unrefused}
use Rattle.m3_laws.specs.Laws.{AllFit}
use Rattle.m3_base.specs.Lists.Prefixes.{IsPrefix}

abbrev pub HasNext : Option IdealResult → Type 0
HasNext None = ⊥
HasNext (Some n) = Unit {0}

-- each step has a case
abbrev pub AllHaveNext : State → List Step → Type 0
AllHaveNext s [] = Unit {0}
AllHaveNext s (t ∷ ts) = HasNext (ideal_step s t) × AllHaveNext (state_after_steps s (ideal_step s t)) ts

-- the messages of g that landed are those issued, without those refused and those that still fly, in order
abbrev pub LandsInOrder : ℕ → State → List Step → Type 0
LandsInOrder g s ts =
    collect (landed_at g) s ts ≡ messages_named (names_of (flying_of g (final s ts).flights)) (unrefused g s ts)

abbrev pub LandingOrder : Type 0
LandingOrder =
    (setup : SetupValue) (steps : List Step) (g : ℕ)
    → IsValid setup
    → AllFit steps
    → AllHaveNext (opening setup.memory setup.lines) steps
    → LandsInOrder g (opening setup.memory setup.lines) steps

-- the messages of g that were fetched are the first of those that landed
abbrev pub FetchesInOrder : ℕ → State → List Step → Type 0
FetchesInOrder g s ts = IsPrefix (collect (fetched_at g) s ts) (collect (landed_at g) s ts)

abbrev pub FetchingOrder : Type 0
FetchingOrder =
    (setup : SetupValue) (steps : List Step) (g : ℕ)
    → IsValid setup
    → AllFit steps
    → AllHaveNext (opening setup.memory setup.lines) steps
    → FetchesInOrder g (opening setup.memory setup.lines) steps
