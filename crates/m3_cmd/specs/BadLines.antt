-- The line that names the first bad line of a script or a journal, and its first cause.
use Rattle.std.specs.Prelude.{ℕ, List, [], ◌∷◌, ◌++◌, codes, decimal}
use Rattle.m3_text.specs.declared.refusal.Why.{Why}
use Rattle.m3_script.specs.ScriptText.{Refused}

abbrev pub why_word : Why → List ℕ
why_word Why.Form = codes "form"
why_word Why.Number = codes "number"
why_word Why.Hex = codes "hex"
why_word Why.Place = codes "place"
why_word Why.Rule = codes "rule"

abbrev pub bad_line : Refused → List ℕ
bad_line r = codes "bad line " ++ (decimal r.line ++ (codes ": " ++ (why_word r.why ++ 10 ∷ [])))
