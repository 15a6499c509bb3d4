-- Tables that have at each index the element of its key, or none: what stands in them, in order.
use Rattle.std.specs.Prelude.{◌≡◌, ℕ, ◌+◌, List, [], ◌∷◌, Option, Some, None}

-- the elements of a table, before the rest
abbrev pub present_on : {X : Type 0} → List (Option X) → List X → List X
present_on [] rest = rest
present_on (None ∷ ts) rest = present_on ts rest
present_on (Some x ∷ ts) rest = x ∷ present_on ts rest

abbrev pub present : {X : Type 0} → List (Option X) → List X
present ts = present_on ts []

-- each element has the key of its index, counted from n
module _ {K X : Type 0} (key : X → K) (at : ℕ → K) where
  abbrev pub AreKeyed : ℕ → List (Option X) → Type 0
  AreKeyed n [] = Unit {0}
  AreKeyed n (None ∷ ts) = AreKeyed (n + 1) ts
  AreKeyed n (Some x ∷ ts) = (key x ≡ at n) × AreKeyed (n + 1) ts
