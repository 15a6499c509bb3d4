-- Lists whose elements have keys of their own, in the order of these keys: maps that compute.
use Rattle.std.specs.Prelude.{Bool, List, [], ◌∷◌, Option, Some, None, if◌then◌else◌}

module _ {K X : Type 0} (key : X → K) (same : K → K → Bool) where
  -- the element with this key
  abbrev pub find : K → List X → Option X
  find k [] = None
  find k (x ∷ xs) = if same k (key x) then Some x else find k xs

  -- x instead of the element with its key
  abbrev pub with_replaced : X → List X → List X
  with_replaced x [] = []
  with_replaced x (y ∷ ys) = if same (key x) (key y) then x ∷ ys else y ∷ with_replaced x ys

  -- without the element with this key
  abbrev pub without : K → List X → List X
  without k [] = []
  without k (x ∷ xs) = if same k (key x) then xs else x ∷ without k xs

-- x before the first element with a larger key
abbrev pub with_inserted : {K X : Type 0} → (X → K) → (K → K → Bool) → X → List X → List X
with_inserted key before x [] = x ∷ []
with_inserted key before x (y ∷ ys) = if before (key x) (key y) then x ∷ y ∷ ys else y ∷ with_inserted key before x ys
