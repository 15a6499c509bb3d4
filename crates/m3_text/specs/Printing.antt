-- Words as a line, and lines as a text.
use Rattle.std.specs.Prelude.{ℕ, List, [], ◌∷◌, ◌++◌, codes, decimal, ◌==◌, if◌then◌else◌}
use Rattle.std.specs.List.{flat_map}
use Rattle.m3_base.specs.declared.ids.FlightId.{FlightId}
use Rattle.m3_base.specs.Display.{issuer_text}

-- words, each behind a space
abbrev pub words_text : List (List ℕ) → List ℕ
words_text [] = []
words_text (w ∷ ws) = 32 ∷ w ++ words_text ws

-- words with single spaces between them
abbrev pub line_text : List (List ℕ) → List ℕ
line_text [] = []
line_text (w ∷ ws) = w ++ words_text ws

-- lines, each with its newline
abbrev pub text_of_lines : List (List ℕ) → List ℕ
text_of_lines ls = flat_map (λ l. l ++ 10 ∷ []) ls

-- a flight's name
abbrev pub flight_word : FlightId → List ℕ
flight_word id = issuer_text id.issuer ++ codes "." ++ decimal id.number
