-- How far the contexts of an opening have come.
use Rattle.std.specs.Prelude.{◌≡◌, ℕ, ◌≤◌, true, false, List, ◌∷◌, length, Option, Some, None, is_some, slice_index_or}
use Rattle.std.specs.List.{list_any}
use Rattle.m3_base.specs.declared.packet.Fresh.{Fresh}
use Rattle.m3_base.specs.declared.setup_line.SetupLine.{SetupLine}
use Rattle.m3_base.specs.Ideal.Context.{Free, Context, endpoint}
use Rattle.m3_base.specs.Ideal.Acceptance.{is_form}
use Rattle.m3_base.specs.Ideal.State.{State, Grant, context_of, grant_in}
use Rattle.m3_base.specs.Ideal.GrantRules.{holds_at}
use Rattle.m3_base.specs.Ideal.Opening.{with_lines, opening}
use Rattle.m3_base.specs.Setup.Rules.{Facts, SetupValue, AllKept, facts_with_lines, facts_of, home_at}
use Rattle.m3_model.specs.ContextTable.{HasContexts}
use Rattle.m3_model.specs.NumberBounds.{HasBoundedCounters}

-- an endpoint is free where no grant is held there
abbrev pub AreFree : State → Type 0
AreFree s = (a ep : ℕ) (c : Context) → context_of a s.contexts ≡ Some c → list_any (holds_at a ep) s.grants ≡ false → endpoint c ep ≡ Free

abbrev pub AreForms : List Grant → Type 0
AreForms gs = (g : ℕ) (x : Grant) → grant_in gs g ≡ Some x → is_form x.fresh ≡ true

-- the table has the contexts that the lines but these leave, and so many grants were installed
pub record Progress (setup : SetupValue) (table : List (Option Context)) (n : ℕ) (left : List SetupLine) : Type 0 where
  pub state : State
  pub facts : Facts
  pub grants : facts.grants ≡ state.grants
  pub room : length facts.homes ≡ 64
  pub homes : (a : ℕ) → is_some (home_at facts.homes a) ≡ is_some (context_of a state.contexts)
  pub kept : AllKept left facts
  pub opens : with_lines state left ≡ opening setup.memory setup.lines
  pub ends : facts_with_lines left facts ≡ facts_of setup
  pub has : HasContexts table state.contexts
  pub count : n ≡ length facts.grants
  pub free : AreFree state
  pub forms : AreForms facts.grants
  pub low : (a : ℕ) (c : Context) → context_of a state.contexts ≡ Some c → HasBoundedCounters 0 c
  pub memory : facts.memory ≡ setup.memory
  pub limit : setup.memory ≤ 1048576

-- an activity is there, with a free endpoint for a record in its ranges
pub record CanInstall (table : List (Option Context)) (a ep : ℕ) (fresh : Fresh) : Type 0 where
  pub context : Context
  pub there : slice_index_or table a None ≡ Some context
  pub free : endpoint context ep ≡ Free
  pub form : is_form fresh ≡ true

-- the next line to be read
pub record AtLine (setup : SetupValue) (table : List (Option Context)) (n : ℕ) (line : SetupLine) : Type 0 where
  pub left : List SetupLine
  pub progress : Progress setup table n (line ∷ left)
