-- Where the first line of a text ends.
use Rattle.std.proofs.Common.{◌≡◌, ◌≢◌, ℕ, zero, suc, ◌-◌, ◌<◌, false, cond, eqb, List, [], ◌∷◌, length, get_or, take, drop, refl, arith, All}
use Rattle.std.specs.List.{slice_split}
use Rattle.std.specs.Str.Lines.{lines, lines_of_parts, strip_carriage_return}
use Rattle.std.proofs.Common.{length-drop}
use Rattle.std.proofs.lemmas.Grind.{common_steps}
use Rattle.std.proofs.Common.{not, filter}
use Rattle.m3_text.specs.Lines.{words}
use Rattle.std.proofs.lemmas.Bool.{eqb-true}
use Rattle.std.proofs.lemmas.List.Elements.{All-from_get_or}
use Rattle.std.proofs.Common.{eq-eqb}
use Rattle.memchr.specs.Find.{NoneBefore, Nowhere, Passes, is_byte}
use Rattle.std.proofs.lemmas.List.Splits.{length-slice_split, slice_split_none}

abbrev pub cut : ℕ → List ℕ → List (List ℕ)
cut c xs = slice_split (λ b. eqb b c) xs

-- the first part ends at the first place that has the byte
pub cut_first : (c : ℕ) (xs : List ℕ) (k : ℕ) → k < length xs → get_or xs k 0 ≡ c → ((i : ℕ) → i < k → get_or xs i 0 ≢ c)
    → cut c xs ≡ take k xs ∷ cut c (drop (suc k) xs)
cut_first c [] k lt is none = absurd (omega arith)
cut_first c (x ∷ xs) zero lt is none = grind arith
cut_first c (x ∷ xs) (suc k) lt is none =
    let other : x ≢ c = none 0 (omega arith) in
    let rest = cut_first c xs k (omega arith) is (λ i h. none (suc i) (omega arith)) in
    grind (arith, rest, other)

-- there is always a part, so a part before others is a line
pub line_then : (line : List ℕ) (parts : List (List ℕ)) → 0 < length parts → lines_of_parts (line ∷ parts) ≡ strip_carriage_return line ∷ lines_of_parts parts
line_then line [] lt = absurd (omega arith)
line_then line (x ∷ parts) lt = refl

pub first_line : (text : List ℕ) (k : ℕ) → k < length text → get_or text k 0 ≡ 10 → ((i : ℕ) → i < k → get_or text i 0 ≢ 10)
    → lines text ≡ strip_carriage_return (take k text) ∷ lines (drop (suc k) text)
first_line text k lt is none =
    rw (cut_first 10 text k lt is none) (line_then (take k text) (cut 10 (drop (suc k) text)) (omega (arith, length-slice_split (λ b. eqb b 10) (drop (suc k) text))))

last_line : (text : List ℕ) → 0 < length text → lines_of_parts (text ∷ []) ≡ text ∷ []
last_line text lt =
    let full : eqb (length text) 0 ≡ false = grind arith in
    rw full refl

-- what a search for a newline says of the lines
pub line_at_newline : (text : List ℕ) (k : ℕ) → NoneBefore (Passes (is_byte 10) text) 0 (length text) k × Passes (is_byte 10) text k
    → lines text ≡ strip_carriage_return (take k text) ∷ lines (drop (suc k) text)
line_at_newline text k found =
    first_line text k found.0.high (eqb-true _ _ found.1) (λ i h e. found.0.before i (omega arith) h (eq-eqb _ _ e))

pub line_without_newline : (text : List ℕ) → 0 < length text → Nowhere (Passes (is_byte 10) text) 0 (length text) → lines text ≡ text ∷ []
line_without_newline text lt none =
    let other : (i : ℕ) → i < length text → eqb (get_or text i 0) 10 ≡ false = λ i h. let n : get_or text i 0 ≢ 10 = λ e. none i (omega arith) h (eq-eqb _ _ e) in grind (arith, n) in
    let all : All (λ b. eqb b 10 ≡ false) text = All-from_get_or (λ b. eqb b 10 ≡ false) text 0 other in
    rw (slice_split_none (λ b. eqb b 10) text all) (last_line text lt)

-- what a range to the end is
pub drop_rest : (xs : List ℕ) (k : ℕ) → take (length xs - k) (drop k xs) ≡ drop k xs
drop_rest xs k = grind (arith, common_steps, length-drop k xs)

all_other : (c : ℕ) (xs : List ℕ) → Nowhere (Passes (is_byte c) xs) 0 (length xs) → All (λ b. eqb b c ≡ false) xs
all_other c xs none =
    let other : (i : ℕ) → i < length xs → eqb (get_or xs i 0) c ≡ false = λ i h. let n : get_or xs i 0 ≢ c = λ e. none i (omega arith) h (eq-eqb _ _ e) in grind (arith, n) in
    All-from_get_or (λ b. eqb b c ≡ false) xs 0 other

abbrev pub first_word : List ℕ → List (List ℕ) → List (List ℕ)
first_word w ws = cond (eqb (length w) 0) ws (w ∷ ws)

pub filter_first : (w : List ℕ) (parts : List (List ℕ)) → filter (λ v. not (eqb (length v) 0)) (w ∷ parts) ≡ first_word w (filter (λ v. not (eqb (length v) 0)) parts)
filter_first [] parts = refl
filter_first (x ∷ w) parts = grind arith

pub word_at_space : (line : List ℕ) (k : ℕ) → NoneBefore (Passes (is_byte 32) line) 0 (length line) k × Passes (is_byte 32) line k
    → words line ≡ first_word (take k line) (words (drop (suc k) line))
word_at_space line k found =
    let cut = cut_first 32 line k found.0.high (eqb-true _ _ found.1) (λ i h e. found.0.before i (omega arith) h (eq-eqb _ _ e)) in
    rw cut (filter_first (take k line) (slice_split (λ b. eqb b 32) (drop (suc k) line)))

pub word_without_space : (line : List ℕ) → Nowhere (Passes (is_byte 32) line) 0 (length line) → words line ≡ first_word line (words [])
word_without_space line none = rw (slice_split_none (λ b. eqb b 32) line (all_other 32 line none)) (filter_first line [])
