-- The fuel of a program, and its calls without an end for want of it.
use Rattle.std.specs.Prelude.{◌≤◌, ℕ, zero, suc, Bool, true, false, ◌==◌, List, [], ◌∷◌, length, Option, Some, None, if◌then◌else◌}
use Rattle.m3_base.specs.declared.program.Move.{Move}
use Rattle.m3_base.specs.declared.setup_line.SetupLine.{SetupLine}
use Rattle.m3_base.specs.declared.event.Entry.{Entry}
use Rattle.m3_base.specs.Setup.Rules.{SetupValue}
use Rattle.m3_base.specs.Ideal.Opening.{opening}
use Rattle.m3_base.specs.Ideal.State.{State}
use Rattle.m3_base.specs.Calls.JournalCalls.{Call, all_calls}

-- the fuel that a line gives the activity's program
abbrev pub fuel_of_line : ℕ → SetupLine → Option ℕ
fuel_of_line a (SetupLine.Reader b m r chunk ring fuel) = if b == a then Some fuel else None
fuel_of_line a (SetupLine.Boxed b logic fuel) = if b == a then Some fuel else None
fuel_of_line a line = None

-- the first, where it is there
abbrev pub first_fuel : Option ℕ → Option ℕ → Option ℕ
first_fuel (Some n) o = Some n
first_fuel None o = o

-- the fuel of the activity's program, where it has one
abbrev pub fuel_of : ℕ → List SetupLine → Option ℕ
fuel_of a [] = None
fuel_of a (l ∷ ls) = first_fuel (fuel_of_line a l) (fuel_of a ls)

-- whether the move is Ended
abbrev pub is_end : Move → Bool
is_end Move.Ended = true
is_end move = false

-- without an end that comes after as many calls as there is fuel: it is for want of fuel
abbrev pub calls_on_fuel : ℕ → List Call → List Call
calls_on_fuel fuel [] = []
calls_on_fuel zero (c ∷ cs) = if is_end c.move then cs else c ∷ cs
calls_on_fuel (suc fuel) (c ∷ cs) = c ∷ calls_on_fuel fuel cs

-- the calls in a journal of a program with this fuel, or with none
abbrev pub calls_of : Option ℕ → ℕ → State → List Entry → List Call
calls_of None a s es = all_calls a s es
calls_of (Some fuel) a s es = calls_on_fuel fuel (all_calls a s es)

-- the calls of the activity's program in a journal of this setup
abbrev pub program_calls : SetupValue → ℕ → List Entry → List Call
program_calls setup a es = calls_of (fuel_of a setup.lines) a (opening setup.memory setup.lines) es

-- there are no more calls than fuel
abbrev pub IsWithinFuel : Option ℕ → List Call → Type 0
IsWithinFuel None cs = Unit {0}
IsWithinFuel (Some fuel) cs = length cs ≤ fuel
