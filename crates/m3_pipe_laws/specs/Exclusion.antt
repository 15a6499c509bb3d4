-- When nobody else writes into a ring, by the grants of a run.
use Rattle.std.specs.Prelude.{◌≡◌, ◌≢◌, ℕ, ◌⊎◌, false, List, [], ◌∷◌, Some}
use Rattle.m3_base.specs.declared.ids.FlightId.{FlightId}
use Rattle.m3_base.specs.declared.packet.Packet.{Packet}
use Rattle.m3_base.specs.declared.packet.Fresh.{Fresh}
use Rattle.m3_base.specs.declared.step.Step.{Step}
use Rattle.m3_base.specs.declared.command.Command.{Command}
use Rattle.m3_base.specs.Ideal.Landing.{grant_of}
use Rattle.m3_base.specs.Ideal.Flights.{flight}
use Rattle.m3_base.specs.Ideal.Issue.{may_write}
use Rattle.m3_base.specs.Ideal.State.{State, Grant, grant_in, holder}
use Rattle.m3_base.specs.Ideal.Step.{ideal_step}
use Rattle.m3_base.specs.Setup.Rules.{SetupValue, IsValid}
use Rattle.m3_base.specs.Ideal.Opening.{opening}
use Rattle.m3_base.specs.Ideal.MessageTraces.{state_after_steps, final}
use Rattle.m3_laws.specs.Laws.{AllFit}
use Rattle.m3_pipe_laws.specs.Pipe.{Disjoint, AllOutside, endpoint_at}

-- a grant that may not write, or has none of these bytes
abbrev pub Clear : ℕ → ℕ → Fresh → Type 0
Clear start len (Fresh.Memory g place length perm) =
    (may_write perm ≡ false) ⊎ Disjoint start len place length
Clear start len f = Unit {0}

-- no write through it flies
abbrev pub Unused : ℕ → List Packet → Type 0
Unused g fs =
    (id y : FlightId) (place : ℕ) (payload : List ℕ)
    → flight id fs ≡ Some (Packet.Write y g place payload)
    → ⊥

-- the grant out is the writer's; each other one is clear of these bytes, or unused
pub record ClearAt (w out start len : ℕ) (s : State) : Type 0 where
  pub writer : (x : Grant) → grant_in s.grants out ≡ Some x → holder x.line ≡ w
  pub others :
      (g : ℕ) (x : Grant)
      → grant_in s.grants g ≡ Some x
      → (g ≡ out) ⊎ (Clear start len x.fresh ⊎ Unused g s.flights)

-- after each step
abbrev pub AllClear : ℕ → ℕ → ℕ → ℕ → State → List Step → Type 0
AllClear w out start len s [] = Unit {0}
AllClear w out start len s (t ∷ ts) =
    ClearAt w out start len (state_after_steps s (ideal_step s t))
    × AllClear w out start len (state_after_steps s (ideal_step s t)) ts

-- then no other activity writes there
abbrev pub ClearStatesKeepOut : Type 0
ClearStatesKeepOut =
    (setup : SetupValue) (steps : List Step) (w out start len : ℕ)
    → IsValid setup
    → AllFit steps
    → AllClear w out start len (opening setup.memory setup.lines) steps
    → AllOutside w start len (opening setup.memory setup.lines) steps

-- no write through it flies after any of these steps
abbrev pub AllUnused : ℕ → State → List Step → Type 0
AllUnused g s [] = Unit {0}
AllUnused g s (t ∷ ts) =
    Unused g (state_after_steps s (ideal_step s t)).flights
    × AllUnused g (state_after_steps s (ideal_step s t)) ts

-- of all grants of a run, each but the writer's is clear of these bytes, or has no write that flies
abbrev pub GrantsClear : ℕ → ℕ → ℕ → State → List Step → Type 0
GrantsClear out start len s ts =
    (g : ℕ) (x : Grant)
    → grant_in (final s ts).grants g ≡ Some x
    → (g ≡ out) ⊎ (Clear start len x.fresh ⊎ AllUnused g s ts)

-- so none but the activity w, which holds the grant out, writes there
abbrev pub GrantsKeepOut : Type 0
GrantsKeepOut =
    (setup : SetupValue) (steps : List Step) (w out start len : ℕ) (x : Grant)
    → IsValid setup
    → AllFit steps
    → grant_in (opening setup.memory setup.lines).grants out ≡ Some x
    → holder x.line ≡ w
    → GrantsClear out start len (opening setup.memory setup.lines) steps
    → AllOutside w start len (opening setup.memory setup.lines) steps

-- ---- where no write is issued through a grant

-- a write of another grant than this
abbrev pub WritesNot : ℕ → State → Step → Type 0
WritesNot g s (Step.Issue a (Command.Write ep off payload)) = grant_of (endpoint_at s a ep) ≢ Some g
WritesNot g s t = Unit {0}

abbrev pub NoWrites : ℕ → State → List Step → Type 0
NoWrites g s [] = Unit {0}
NoWrites g s (t ∷ ts) = WritesNot g s t × NoWrites g (state_after_steps s (ideal_step s t)) ts

-- none flies, then
abbrev pub NoWriteFlies : Type 0
NoWriteFlies =
    (setup : SetupValue) (steps : List Step) (g : ℕ)
    → IsValid setup
    → AllFit steps
    → NoWrites g (opening setup.memory setup.lines) steps
    → AllUnused g (opening setup.memory setup.lines) steps
