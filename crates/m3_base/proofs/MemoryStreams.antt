-- What a source in memory gives.
use Rattle.std.proofs.Common.{◌≡◌, ℕ, ◌+◌, ◌<◌, min, List, [], ◌∷◌, ◌++◌, take, drop, length, refl, sym, ap, ◌∙◌, arith, length-drop}
use Rattle.std.proofs.lemmas.List.{take-append-drop}
use Rattle.std.proofs.lemmas.List.{drop-drop}

pub empty_list : {X : Type 0} (xs : List X) → length xs ≡ 0 → xs ≡ []
empty_list [] e = refl
empty_list (x ∷ xs) e = absurd (omega arith)

pub gave : (bs : List ℕ) (at n len most : ℕ) (into : List ℕ) → 0 < most → n ≡ min (min len most) (length (drop at bs)) → take n into ≡ take n (drop at bs) → (drop at bs ≡ take n into ++ drop (at + n) bs) × (n ≡ 0 → 0 < len → drop (at + n) bs ≡ [])
gave bs at n len most into m e f = (sym (ap (λ l. l ++ drop (at + n) bs) f ∙ (ap (λ l. take n (drop at bs) ++ l) (sym (drop-drop n at bs)) ∙ take-append-drop n (drop at bs))), λ z w. let none : length (drop at bs) ≡ 0 = omega arith in empty_list (drop (at + n) bs) (omega (arith, length-drop at bs, length-drop (at + n) bs)))
