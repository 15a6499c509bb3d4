-- A sum over one element more.
use Rattle.std.proofs.Common.{◌≡◌, ℕ, zero, suc, ◌+◌, ◌<◌, List, [], ◌∷◌, length, get_or, take, sym, ◌∙◌, ap, arith}
use Rattle.m3_base.specs.Lists.Counting.{total}

more : {X : Type 0} (f : X → ℕ) (xs : List X) (i : ℕ) (d : X) → i < length xs → total f (take (suc i) xs) ≡ total f (take i xs) + f (get_or xs i d)
more f [] i d h = absurd (omega arith)
more f (x ∷ xs) zero d h = grind arith
more f (x ∷ xs) (suc i) d h = grind (arith, more f xs i d (omega arith))

pub total_more : {X : Type 0} (f : X → ℕ) (xs : List X) (i : ℕ) (d x : X) → i < length xs → x ≡ get_or xs i d → total f (take (i + 1) xs) ≡ total f (take i xs) + f x
total_more f xs i d x h e =
    let q : i + 1 ≡ suc i = omega arith in
    ap (λ n. total f (take n xs)) q ∙ (more f xs i d h ∙ ap (λ y. total f (take i xs) + f y) (sym e))
