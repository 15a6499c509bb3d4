-- Words and lines that are joined are cut again.
use Rattle.std.proofs.Common.{◌≡◌, ℕ, zero, suc, ◌-◌, Bool, true, false, cond, eqb, ltb, ◌&&◌, List, [], ◌∷◌, ◌++◌, length, get_or, refl, ap, ◌∙◌, arith, All, append_assoc, append-nil}
use Rattle.std.specs.List.{slice_split, list_all}
use Rattle.std.specs.Str.Lines.{lines, strip_carriage_return}
use Rattle.std.proofs.lemmas.Bool.Decides.{nat_tests}
use Rattle.std.proofs.lemmas.List.Splits.{slice_split_at, slice_split_none, length-slice_split}
use Rattle.std.proofs.lemmas.List.Elements.{All-cons, All-nil}
use Rattle.std.proofs.lemmas.List.Folds.{list_all-append}
use Rattle.std.proofs.lemmas.List.Concat.{flat_map-cons}
use Rattle.m3_base.specs.FileName.{is_visible}
use Rattle.m3_text.specs.Lines.{words, is_plain, is_word}
use Rattle.m3_text.specs.Printing.{words_text, line_text, text_of_lines}
use Rattle.m3_text.proofs.FirstLine.{filter_first, line_then}
use Rattle.std.proofs.lemmas.Bool.{and_parts}

-- ---- words

no_space : (w : List ℕ) → list_all is_visible w ≡ true → All (λ b. eqb b 32 ≡ false) w
no_space [] h = All-nil (λ b. eqb b 32 ≡ false)
no_space (c ∷ w) h =
    let s = and_parts (is_visible c) (list_all is_visible w) h in
    let other : eqb c 32 ≡ false = grind (arith, nat_tests, s.0) in
    All-cons (λ b. eqb b 32 ≡ false) c w other (no_space w s.1)

nonempty : (w : List ℕ) (ws : List (List ℕ)) → is_word w ≡ true → cond (eqb (length w) 0) ws (w ∷ ws) ≡ w ∷ ws
nonempty [] ws is = absurd cc
nonempty (x ∷ w) ws is = let n : eqb (suc (length w)) 0 ≡ false = grind arith in rw n refl

visible : (w : List ℕ) → is_word w ≡ true → list_all is_visible w ≡ true
visible w is = (and_parts (ltb 0 (length w)) (list_all is_visible w) is).1

tail_again : (w : List ℕ) (ws : List (List ℕ)) → is_word w ≡ true → list_all is_word ws ≡ true → words (w ++ words_text ws) ≡ w ∷ ws
tail_again w [] is are =
    rw append-nil (rw (slice_split_none (λ b. eqb b 32) w (no_space w (visible w is))) (filter_first w [] ∙ nonempty w [] is))
tail_again w (v ∷ ws) is are =
    let s = and_parts (is_word v) (list_all is_word ws) are in
    rw (slice_split_at (λ b. eqb b 32) w 32 (v ++ words_text ws) (no_space w (visible w is)) refl)
    (filter_first w (slice_split (λ b. eqb b 32) (v ++ words_text ws)) ∙ nonempty w (words (v ++ words_text ws)) is ∙ ap (λ (vs : List (List ℕ)). w ∷ vs) (tail_again v ws s.0 s.1))

pub words_again : (ws : List (List ℕ)) → list_all is_word ws ≡ true → words (line_text ws) ≡ ws
words_again [] are = refl
words_again (w ∷ ws) are = let s = and_parts (is_word w) (list_all is_word ws) are in tail_again w ws s.0 s.1

-- ---- words as a plain line

visible_plain : (c : ℕ) → is_visible c ≡ true → is_plain c ≡ true
visible_plain c h = grind (arith, nat_tests, h)

pub word_plain : (w : List ℕ) → list_all is_visible w ≡ true → list_all is_plain w ≡ true
word_plain [] h = refl
word_plain (c ∷ w) h = let s = and_parts (is_visible c) (list_all is_visible w) h in rw (visible_plain c s.0, word_plain w s.1) refl

pub spaced_plain : (ws : List (List ℕ)) → list_all is_word ws ≡ true → list_all is_plain (words_text ws) ≡ true
spaced_plain [] are = refl
spaced_plain (w ∷ ws) are =
    let s = and_parts (is_word w) (list_all is_word ws) are in
    rw (list_all-append is_plain w (words_text ws), word_plain w (visible w s.0), spaced_plain ws s.1) refl

pub words_plain : (ws : List (List ℕ)) → list_all is_word ws ≡ true → list_all is_plain (line_text ws) ≡ true
words_plain [] are = refl
words_plain (w ∷ ws) are =
    let s = and_parts (is_word w) (list_all is_word ws) are in
    rw (list_all-append is_plain w (words_text ws), word_plain w (visible w s.0), spaced_plain ws s.1) refl

-- ---- lines

no_newline : (l : List ℕ) → list_all is_plain l ≡ true → All (λ b. eqb b 10 ≡ false) l
no_newline [] h = All-nil (λ b. eqb b 10 ≡ false)
no_newline (c ∷ l) h =
    let s = and_parts (is_plain c) (list_all is_plain l) h in
    let other : eqb c 10 ≡ false = grind (arith, nat_tests, s.0) in
    All-cons (λ b. eqb b 10 ≡ false) c l other (no_newline l s.1)

no_return : (l : List ℕ) (i : ℕ) → list_all is_plain l ≡ true → eqb (get_or l i 0) 13 ≡ false
no_return [] i h = refl
no_return (c ∷ l) zero h = let s = and_parts (is_plain c) (list_all is_plain l) h in grind (arith, nat_tests, s.0)
no_return (c ∷ l) (suc i) h = let s = and_parts (is_plain c) (list_all is_plain l) h in no_return l i s.1

whole : (l : List ℕ) → list_all is_plain l ≡ true → strip_carriage_return l ≡ l
whole l h = rw (no_return l (length l - 1) h) refl

pub first_again : (l rest : List ℕ) → list_all is_plain l ≡ true → lines (l ++ 10 ∷ rest) ≡ l ∷ lines rest
first_again l rest is =
    rw (slice_split_at (λ b. eqb b 10) l 10 rest (no_newline l is) refl)
    (line_then l (slice_split (λ b. eqb b 10) rest) (omega (arith, length-slice_split (λ b. eqb b 10) rest)) ∙ ap (λ (t : List ℕ). t ∷ lines rest) (whole l is))

pub lines_again : (ls : List (List ℕ)) → list_all (list_all is_plain) ls ≡ true → lines (text_of_lines ls) ≡ ls
lines_again [] are = refl
lines_again (l ∷ ls) are =
    let s = and_parts (list_all is_plain l) (list_all (list_all is_plain) ls) are in
    let e : text_of_lines (l ∷ ls) ≡ l ++ 10 ∷ text_of_lines ls = flat_map-cons (λ t. t ++ 10 ∷ []) l ls ∙ append_assoc l (10 ∷ []) (text_of_lines ls) in
    ap lines e ∙ first_again l (text_of_lines ls) s.0 ∙ ap (λ (ts : List (List ℕ)). l ∷ ts) (lines_again ls s.1)
