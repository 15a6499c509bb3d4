-- A count is that of std.
use Rattle.std.proofs.Common.{◌≡◌, Bool, cond, List, [], ◌∷◌, refl, sym, ◌∙◌, ap, ◌+◌}
use Rattle.std.specs.List.{count_by}
use Rattle.std.proofs.lemmas.List.Sums.{sum_by-cons}
use Rattle.m3_base.specs.Lists.Counting.{how_many, one}

pub counted : {X : Type 0} (p : X → Bool) (xs : List X) → how_many p xs ≡ count_by p xs
counted p [] = refl
counted p (x ∷ xs) = ap (λ n. one (p x) + n) (counted p xs) ∙ sym (sum_by-cons (λ y. cond (p y) 1 0) x xs)
