-- Parts of a line side by side: the first cause of the parts is the line's.
use Rattle.std.specs.Prelude.{ℕ, nat_le, if◌then◌else◌, Result, Ok, Err}
use Rattle.m3_text.specs.declared.refusal.Why.{Why}
use Rattle.m3_text.specs.declared.refusal.Why.TheVariants.{Form, Number, Hex, Place, Rule}
use Rattle.m3_text.specs.declared.refusal.LineRefusal.{LineRefusal}

abbrev pub rank : Why → ℕ
rank Form = 0
rank Number = 1
rank Hex = 2
rank Place = 3
rank Rule = 4

abbrev pub earlier : Why → Why → Why
earlier a b = if nat_le (rank a) (rank b) then a else b

-- both values, or the first cause of the two
abbrev pub both : {A B : Type 0} → Result A Why → Result B Why → Result (A × B) Why
both (Ok a) (Ok b) = Ok (a, b)
both (Ok a) (Err e) = Err e
both (Err d) (Ok b) = Err d
both (Err d) (Err e) = Err (earlier d e)

-- the same of what functions returned; want of memory comes first
abbrev pub both_causes : {A B : Type 0} → Result A LineRefusal → Result B LineRefusal → Result (A × B) LineRefusal
both_causes (Ok a) (Ok b) = Ok (a, b)
both_causes (Ok a) (Err e) = Err e
both_causes (Err LineRefusal.NoMemory) b = Err LineRefusal.NoMemory
both_causes (Err (LineRefusal.Bad d)) (Ok b) = Err (LineRefusal.Bad d)
both_causes (Err (LineRefusal.Bad d)) (Err LineRefusal.NoMemory) = Err LineRefusal.NoMemory
both_causes (Err (LineRefusal.Bad d)) (Err (LineRefusal.Bad e)) = Err (LineRefusal.Bad (earlier d e))
