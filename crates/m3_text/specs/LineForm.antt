-- The shape of a line's form: a word for each word of the line, and an empty one where any word may stand.
use Rattle.std.specs.Prelude.{ℕ, ◌==◌, ◌&&◌, ◌||◌, Bool, true, false, if◌then◌else◌, List, [], ◌∷◌, length, slice_index_or, Result, Ok, Err, ⊤}
use Rattle.std.specs.Str.{bytes_eq}
use Rattle.m3_text.specs.declared.refusal.Why.{Why}
use Rattle.m3_text.specs.declared.refusal.Why.TheVariants.{Form}

abbrev pub word : ℕ → List (List ℕ) → List ℕ
word i ws = slice_index_or ws i []

abbrev pub stands_for : List ℕ → List ℕ → Bool
stands_for f w = length f == 0 || bytes_eq f w

abbrev pub matches : List (List ℕ) → List (List ℕ) → Bool
matches [] [] = true
matches [] (w ∷ ws) = false
matches (f ∷ fs) [] = false
matches (f ∷ fs) (w ∷ ws) = stands_for f w && matches fs ws

-- whether the first words are those of a form
abbrev pub starts_with : List (List ℕ) → List (List ℕ) → Bool
starts_with [] ws = true
starts_with (f ∷ fs) [] = false
starts_with (f ∷ fs) (w ∷ ws) = stands_for f w && starts_with fs ws

-- ---- steps of a reading

-- there are as many words
unfoldable pub count_test : ℕ → List (List ℕ) → Result ⊤ Why
count_test count ws = if length ws == count then Ok tt else Err Form

-- the words are those of a form
unfoldable pub form_test : List (List ℕ) → List (List ℕ) → Result ⊤ Why
form_test form ws = if matches form ws then Ok tt else Err Form
