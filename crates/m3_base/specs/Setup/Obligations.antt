-- What of a setup's rules the laws of runs need: activities are new and below 64, and the holder of a grant is declared
-- and has this endpoint free.
use Rattle.std.specs.Prelude.{◌≡◌, ◌<◌, false, List, [], ◌∷◌, Option, Some, None}
use Rattle.std.specs.List.{list_any}
use Rattle.m3_base.specs.declared.setup_line.SetupLine.{SetupLine}
use Rattle.m3_base.specs.Ideal.Flights.{kernel}
use Rattle.m3_base.specs.Ideal.Context.{Context}
use Rattle.m3_base.specs.Ideal.State.{State, context_of, holder, holder_ep}
use Rattle.m3_base.specs.Ideal.GrantRules.{holds_at}
use Rattle.m3_base.specs.Ideal.Opening.{with_line}

abbrev pub Declared : Option Context → Type 0
Declared None = ⊥
Declared (Some c) = Unit {0}

abbrev pub LineIsOk : State → SetupLine → Type 0
LineIsOk s (SetupLine.Act a t) = (context_of a s.contexts ≡ None) × (a < kernel)
LineIsOk s (SetupLine.Grant line) =
    (holder_ep line < 16)
    × (Declared (context_of (holder line) s.contexts)
    × (list_any (holds_at (holder line) (holder_ep line)) s.grants ≡ false))
LineIsOk s line = Unit {0}

abbrev pub LinesAreOk : State → List SetupLine → Type 0
LinesAreOk s [] = Unit {0}
LinesAreOk s (l ∷ ls) = LineIsOk s l × LinesAreOk (with_line s l) ls
