-- How many entries the driver makes at most.
use Rattle.std.specs.Prelude.{ℕ, ◌+◌, ◌*◌, List, [], ◌∷◌, length}
use Rattle.m3_base.specs.declared.setup_line.SetupLine.{SetupLine}
use Rattle.m3_base.specs.Setup.Rules.{SetupValue, facts_of}

-- how many activities are declared
abbrev pub act_count : List SetupLine → ℕ
act_count [] = 0
act_count (SetupLine.Act a t ∷ ls) = 1 + act_count ls
act_count (l ∷ ls) = act_count ls

-- by the weight of all programs, the script's orders, the activities and the grants of the setup
abbrev pub budget_of : ℕ → ℕ → ℕ → ℕ → ℕ
budget_of weight orders acts grants = 64 * (weight + orders + acts + grants) + 64

-- of a setup and so many orders
abbrev pub budget : SetupValue → ℕ → ℕ
budget setup orders =
    budget_of (facts_of setup).weight orders (act_count setup.lines)
    (length (facts_of setup).grants)
