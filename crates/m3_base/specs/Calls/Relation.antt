-- Calls that obey a program's relation: from a first meaning, each call leads to the next meaning.
use Rattle.std.specs.Prelude.{◌≡◌, ℕ, List, [], ◌∷◌}
use Rattle.m3_base.specs.declared.program.Seen.{Seen}
use Rattle.m3_base.specs.declared.program.Move.{Move}
use Rattle.m3_base.specs.declared.event.Entry.{Entry}
use Rattle.m3_base.specs.Setup.Rules.{SetupValue}
use Rattle.m3_base.specs.Calls.JournalCalls.{Call}
use Rattle.m3_base.specs.Calls.Fuel.{fuel_of, program_calls, IsWithinFuel}

module _ {M : Type 0} (moves : M → Seen → Move → M → Type 0) where
  -- the calls lead from the one meaning to the other
  abbrev pub Leads : M → List Call → M → Type 0
  Leads m [] n = m ≡ n
  Leads m (c ∷ cs) n = (k : M) × moves m c.seen c.move k × Leads k cs n

  -- the calls lead on from this meaning
  abbrev pub IsReach : M → List Call → Type 0
  IsReach m cs = (n : M) × Leads m cs n

  -- the calls in a journal are those of a program with this first meaning
  pub record IsProgramRun (initial : M) (setup : SetupValue) (a : ℕ) (es : List Entry)
      : Type 0 where
    pub reach : IsReach initial (program_calls setup a es)
    pub fuel : IsWithinFuel (fuel_of a setup.lines) (program_calls setup a es)
