-- Whether words fit a form, word by word.
use Rattle.std.proofs.Common.{◌≡◌, ◌≢◌, ℕ, suc, ◌+◌, ◌<◌, ◌≤◌, Bool, true, false, ◌&&◌, List, [], ◌∷◌, length, drop, refl, sym, ap, ◌∙◌, arith, drop-cons, add-one, Bor}
use Rattle.std.proofs.lemmas.List.{drop_all, length-map}
use Rattle.m3_text.specs.Lines.{texts}
use Rattle.m3_text.specs.LineForm.{stands_for, matches, starts_with, word}

pub no : (b : Bool) → (b && false) ≡ false
no true = refl
no false = refl

begins_step : (fs ws : List (List ℕ)) (i : ℕ) → i < length fs → i < length ws
    → starts_with (drop i fs) (drop i ws) ≡ (stands_for (word i fs) (word i ws) && starts_with (drop (i + 1) fs) (drop (i + 1) ws))
begins_step fs ws i f w = rw (add-one, drop-cons fs i [], drop-cons ws i []) refl

short : (fs ws : List (List ℕ)) → length ws < length fs → starts_with fs ws ≡ false
short [] ws lt = absurd (omega arith)
short (f ∷ fs) [] lt = refl
short (f ∷ fs) (w ∷ ws) lt = rw (short fs ws (omega arith)) (no (stands_for f w))

same_length : (fs ws : List (List ℕ)) → length fs ≡ length ws → matches fs ws ≡ starts_with fs ws
same_length [] [] same = refl
same_length [] (w ∷ ws) same = absurd (omega arith)
same_length (f ∷ fs) [] same = absurd (omega arith)
same_length (f ∷ fs) (w ∷ ws) same = rw (same_length fs ws (omega arith)) refl

other_length : (fs ws : List (List ℕ)) → length fs ≢ length ws → matches fs ws ≡ false
other_length [] [] other = absurd (other refl)
other_length [] (w ∷ ws) other = refl
other_length (f ∷ fs) [] other = refl
other_length (f ∷ fs) (w ∷ ws) other = rw (other_length fs ws (λ e. other (ap suc e))) (no (stands_for f w))

length_texts : (ws : List (Bor (List ℕ))) → length (texts ws) ≡ length ws
length_texts ws = simp length-map

pub fits_begins : (fs ws : List (Bor (List ℕ))) → length fs ≡ length ws → matches (texts fs) (texts ws) ≡ starts_with (texts fs) (texts ws)
fits_begins fs ws same = same_length (texts fs) (texts ws) (length_texts fs ∙ same ∙ sym (length_texts ws))

pub fits_other : (fs ws : List (Bor (List ℕ))) → length fs ≢ length ws → matches (texts fs) (texts ws) ≡ false
fits_other fs ws other = other_length (texts fs) (texts ws) (λ e. other (sym (length_texts fs) ∙ e ∙ length_texts ws))

pub begins_short : (fs ws : List (Bor (List ℕ))) → length ws < length fs → starts_with (texts fs) (texts ws) ≡ false
begins_short fs ws lt = short (texts fs) (texts ws) (omega (arith, length_texts fs, length_texts ws))

pub one_more : (fs ws : List (Bor (List ℕ))) (i : ℕ) → i < length fs → length fs ≤ length ws
    → starts_with (drop i (texts fs)) (drop i (texts ws)) ≡ (stands_for (word i (texts fs)) (word i (texts ws)) && starts_with (drop (i + 1) (texts fs)) (drop (i + 1) (texts ws)))
one_more fs ws i lt room = begins_step (texts fs) (texts ws) i (omega (arith, length_texts fs)) (omega (arith, length_texts ws))

pub none_left : (fs ws : List (Bor (List ℕ))) (i : ℕ) → length fs ≤ i → starts_with (drop i (texts fs)) (drop i (texts ws)) ≡ true
none_left fs ws i le = rw (drop_all i (texts fs) (omega (arith, length_texts fs))) refl
