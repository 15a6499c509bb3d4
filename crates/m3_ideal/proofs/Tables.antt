-- What a table says of the list of its elements.
use Rattle.std.proofs.Common.{◌≡◌, ℕ, zero, suc, ◌+◌, ◌<◌, Bool, true, false, List, [], ◌∷◌, ◌++◌, length, Some, None, refl, sym, ap, ◌∙◌, arith}
use Rattle.std.specs.Prelude.{◌==◌, nat_lt, slice_set, slice_index_or, Option}
use Rattle.std.proofs.lemmas.Bool.Decides.{nat_tests}
use Rattle.m3_base.specs.Lists.Keyed as keyed
use Rattle.m3_ideal.specs.Tables.{present_on, AreKeyed}
use Rattle.std.proofs.lemmas.Bool.{cond-false, cond-true}

abbrev pub or_find : {X : Type 0} → Option X → Option X → Option X
or_find None r = r
or_find (Some x) r = Some x

pub differs : (i j : ℕ) → i < j → (i == j) ≡ false
differs i j h = grind (arith, nat_tests)

pub differs_more : (i j : ℕ) → j < i → (i == j) ≡ false
differs_more i j h = grind (arith, nat_tests)

module _ {K X : Type 0} (key : X → K) (same before : K → K → Bool) (at : ℕ → K)
    (same_at : (i j : ℕ) → same (at i) (at j) ≡ (i == j))
    (before_at : (i j : ℕ) → before (at i) (at j) ≡ nat_lt i j) where
  same_by : (i j : ℕ) (k l : K) → k ≡ at i → l ≡ at j → same k l ≡ (i == j)
  same_by i j k l p q = ap (λ z. same z l) p ∙ ap (same (at i)) q ∙ same_at i j

  before_by : (i j : ℕ) (k l : K) → k ≡ at i → l ≡ at j → before k l ≡ nat_lt i j
  before_by i j k l p q = ap (λ z. before z l) p ∙ ap (before (at i)) q ∙ before_at i j

  equals : (i j : ℕ) → i ≡ j → (i == j) ≡ true
  equals i j h = grind (arith, nat_tests)

  -- ---- what is found

  find_below : (n j : ℕ) (ts : List (Option X)) (rest : List X) → AreKeyed key at n ts → j < n
      → keyed.find key same (at j) (present_on ts rest) ≡ keyed.find key same (at j) rest
  find_below n j [] rest s h = refl
  find_below n j (None ∷ ts) rest s h = find_below (n + 1) j ts rest s (omega arith)
  find_below n j (Some x ∷ ts) rest s h =
      cond-false (same (at j) (key x)) _ _ (same_by j n _ _ refl s.0 ∙ differs j n h) ∙ find_below (n + 1) j ts rest s.1 (omega arith)

  pub find_on : (n i j : ℕ) (ts : List (Option X)) (rest : List X) → AreKeyed key at n ts → j ≡ n + i
      → keyed.find key same (at j) (present_on ts rest) ≡ or_find (slice_index_or ts i None) (keyed.find key same (at j) rest)
  find_on n i j [] rest s e = refl
  find_on n zero j (None ∷ ts) rest s e = find_below (n + 1) j ts rest s (omega arith)
  find_on n (suc i) j (None ∷ ts) rest s e = find_on (n + 1) i j ts rest s (omega arith)
  find_on n zero j (Some x ∷ ts) rest s e = cond-true (same (at j) (key x)) _ _ (same_by j n _ _ refl s.0 ∙ equals j n (omega arith))
  find_on n (suc i) j (Some x ∷ ts) rest s e =
      cond-false (same (at j) (key x)) _ _ (same_by j n _ _ refl s.0 ∙ differs_more j n (omega arith)) ∙ find_on (n + 1) i j ts rest s.1 (omega arith)

  -- ---- what is replaced

  pub replaced_on : (n i j : ℕ) (x y : X) (ts : List (Option X)) (rest : List X) → AreKeyed key at n ts → key x ≡ at j → j ≡ n + i → slice_index_or ts i None ≡ Some y
      → keyed.with_replaced key same x (present_on ts rest) ≡ present_on (slice_set ts i (Some x)) rest
  replaced_on n i j x y [] rest s k e h = absurd cc
  replaced_on n zero j x y (None ∷ ts) rest s k e h = absurd cc
  replaced_on n (suc i) j x y (None ∷ ts) rest s k e h = replaced_on (n + 1) i j x y ts rest s k (omega arith) h
  replaced_on n zero j x y (Some z ∷ ts) rest s k e h = cond-true (same (key x) (key z)) _ _ (same_by j n _ _ k s.0 ∙ equals j n (omega arith))
  replaced_on n (suc i) j x y (Some z ∷ ts) rest s k e h =
      cond-false (same (key x) (key z)) _ _ (same_by j n _ _ k s.0 ∙ differs_more j n (omega arith))
      ∙ ap (λ w. z ∷ w) (replaced_on (n + 1) i j x y ts rest s.1 k (omega arith) h)

  -- ---- what is taken out

  pub without_on : (n i j : ℕ) (y : X) (ts : List (Option X)) (rest : List X) → AreKeyed key at n ts → j ≡ n + i → slice_index_or ts i None ≡ Some y
      → keyed.without key same (at j) (present_on ts rest) ≡ present_on (slice_set ts i None) rest
  without_on n i j y [] rest s e h = absurd cc
  without_on n zero j y (None ∷ ts) rest s e h = absurd cc
  without_on n (suc i) j y (None ∷ ts) rest s e h = without_on (n + 1) i j y ts rest s (omega arith) h
  without_on n zero j y (Some z ∷ ts) rest s e h = cond-true (same (at j) (key z)) _ _ (same_by j n _ _ refl s.0 ∙ equals j n (omega arith))
  without_on n (suc i) j y (Some z ∷ ts) rest s e h =
      cond-false (same (at j) (key z)) _ _ (same_by j n _ _ refl s.0 ∙ differs_more j n (omega arith))
      ∙ ap (λ w. z ∷ w) (without_on (n + 1) i j y ts rest s.1 (omega arith) h)

  -- ---- what is put in, before a rest that comes after it

  inserted_first : (n j : ℕ) (x : X) (ts : List (Option X)) (rest : List X) → AreKeyed key at n ts → key x ≡ at j → j < n → keyed.with_inserted key before x rest ≡ x ∷ rest
      → keyed.with_inserted key before x (present_on ts rest) ≡ x ∷ present_on ts rest
  inserted_first n j x [] rest s k h r = r
  inserted_first n j x (None ∷ ts) rest s k h r = inserted_first (n + 1) j x ts rest s k (omega arith) r
  inserted_first n j x (Some z ∷ ts) rest s k h r = cond-true (before (key x) (key z)) _ _ (before_by j n _ _ k s.0 ∙ grind (arith, nat_tests))

  pub inserted_at : (n i j : ℕ) (x : X) (ts : List (Option X)) (rest : List X) → AreKeyed key at n ts → key x ≡ at j → j ≡ n + i → i < length ts → slice_index_or ts i None ≡ None
      → keyed.with_inserted key before x rest ≡ x ∷ rest
      → keyed.with_inserted key before x (present_on ts rest) ≡ present_on (slice_set ts i (Some x)) rest
  inserted_at n i j x [] rest s k e w h r = absurd (omega arith)
  inserted_at n zero j x (None ∷ ts) rest s k e w h r = inserted_first (n + 1) j x ts rest s k (omega arith) r
  inserted_at n (suc i) j x (None ∷ ts) rest s k e w h r = inserted_at (n + 1) i j x ts rest s k (omega arith) (omega arith) h r
  inserted_at n zero j x (Some z ∷ ts) rest s k e w h r = absurd cc
  inserted_at n (suc i) j x (Some z ∷ ts) rest s k e w h r =
      cond-false (before (key x) (key z)) _ _ (before_by j n _ _ k s.0 ∙ grind (arith, nat_tests))
      ∙ ap (λ w. z ∷ w) (inserted_at (n + 1) i j x ts rest s.1 k (omega arith) (omega arith) h r)

  pub inserted_end : (n j : ℕ) (x : X) (ts : List (Option X)) (rest : List X) → AreKeyed key at n ts → key x ≡ at j → j ≡ n + length ts → keyed.with_inserted key before x rest ≡ x ∷ rest
      → keyed.with_inserted key before x (present_on ts rest) ≡ present_on (ts ++ Some x ∷ []) rest
  inserted_end n j x [] rest s k e r = r
  inserted_end n j x (None ∷ ts) rest s k e r = inserted_end (n + 1) j x ts rest s k (omega arith) r
  inserted_end n j x (Some z ∷ ts) rest s k e r =
      cond-false (before (key x) (key z)) _ _ (before_by j n _ _ k s.0 ∙ grind (arith, nat_tests))
      ∙ ap (λ w. z ∷ w) (inserted_end (n + 1) j x ts rest s.1 k (omega arith) r)

  -- ---- the keys stay

  pub keyed_set : (n i : ℕ) (x : X) (ts : List (Option X)) → AreKeyed key at n ts → key x ≡ at (n + i) → AreKeyed key at n (slice_set ts i (Some x))
  keyed_set n i x [] s k = tt
  keyed_set n zero x (None ∷ ts) s k = (k ∙ ap at (omega arith), s)
  keyed_set n zero x (Some z ∷ ts) s k = (k ∙ ap at (omega arith), s.1)
  keyed_set n (suc i) x (None ∷ ts) s k = keyed_set (n + 1) i x ts s (k ∙ ap at (omega arith))
  keyed_set n (suc i) x (Some z ∷ ts) s k = (s.0, keyed_set (n + 1) i x ts s.1 (k ∙ ap at (omega arith)))

  pub keyed_none : (n i : ℕ) (ts : List (Option X)) → AreKeyed key at n ts → AreKeyed key at n (slice_set ts i None)
  keyed_none n i [] s = tt
  keyed_none n zero (None ∷ ts) s = s
  keyed_none n zero (Some z ∷ ts) s = s.1
  keyed_none n (suc i) (None ∷ ts) s = keyed_none (n + 1) i ts s
  keyed_none n (suc i) (Some z ∷ ts) s = (s.0, keyed_none (n + 1) i ts s.1)

  pub keyed_push : (n : ℕ) (x : X) (ts : List (Option X)) → AreKeyed key at n ts → key x ≡ at (n + length ts) → AreKeyed key at n (ts ++ Some x ∷ [])
  keyed_push n x [] s k = (k ∙ ap at (omega arith), tt)
  keyed_push n x (None ∷ ts) s k = keyed_push (n + 1) x ts s (k ∙ ap at (omega arith))
  keyed_push n x (Some z ∷ ts) s k = (s.0, keyed_push (n + 1) x ts s.1 (k ∙ ap at (omega arith)))

  pub key_at : (n i : ℕ) (x : X) (ts : List (Option X)) → AreKeyed key at n ts → slice_index_or ts i None ≡ Some x → key x ≡ at (n + i)
  key_at n i x [] s h = absurd cc
  key_at n zero x (None ∷ ts) s h = absurd cc
  key_at n (suc i) x (None ∷ ts) s h = key_at (n + 1) i x ts s h ∙ ap at (omega arith)
  key_at n zero x (Some z ∷ ts) s h =
      let e : z ≡ x = cc in
      ap key (sym e) ∙ s.0 ∙ ap at (omega arith)
  key_at n (suc i) x (Some z ∷ ts) s h = key_at (n + 1) i x ts s.1 h ∙ ap at (omega arith)

-- ---- keys of another table

module _ {K X : Type 0} (key : X → K) (same before : K → K → Bool) (at : ℕ → K) where
  pub find_other : (n : ℕ) (k : K) (ts : List (Option X)) (rest : List X) → AreKeyed key at n ts → ((i : ℕ) → same k (at i) ≡ false)
      → keyed.find key same k (present_on ts rest) ≡ keyed.find key same k rest
  find_other n k [] rest s h = refl
  find_other n k (None ∷ ts) rest s h = find_other (n + 1) k ts rest s h
  find_other n k (Some z ∷ ts) rest s h = cond-false (same k (key z)) _ _ (ap (same k) s.0 ∙ h n) ∙ find_other (n + 1) k ts rest s.1 h

  pub replaced_other : (n : ℕ) (x : X) (ts : List (Option X)) (rest : List X) → AreKeyed key at n ts → ((i : ℕ) → same (key x) (at i) ≡ false)
      → keyed.with_replaced key same x (present_on ts rest) ≡ present_on ts (keyed.with_replaced key same x rest)
  replaced_other n x [] rest s h = refl
  replaced_other n x (None ∷ ts) rest s h = replaced_other (n + 1) x ts rest s h
  replaced_other n x (Some z ∷ ts) rest s h =
      cond-false (same (key x) (key z)) _ _ (ap (same (key x)) s.0 ∙ h n) ∙ ap (λ w. z ∷ w) (replaced_other (n + 1) x ts rest s.1 h)

  pub without_other : (n : ℕ) (k : K) (ts : List (Option X)) (rest : List X) → AreKeyed key at n ts → ((i : ℕ) → same k (at i) ≡ false)
      → keyed.without key same k (present_on ts rest) ≡ present_on ts (keyed.without key same k rest)
  without_other n k [] rest s h = refl
  without_other n k (None ∷ ts) rest s h = without_other (n + 1) k ts rest s h
  without_other n k (Some z ∷ ts) rest s h =
      cond-false (same k (key z)) _ _ (ap (same k) s.0 ∙ h n) ∙ ap (λ w. z ∷ w) (without_other (n + 1) k ts rest s.1 h)

  pub inserted_past : (n : ℕ) (x : X) (ts : List (Option X)) (rest : List X) → AreKeyed key at n ts → ((i : ℕ) → before (key x) (at i) ≡ false)
      → keyed.with_inserted key before x (present_on ts rest) ≡ present_on ts (keyed.with_inserted key before x rest)
  inserted_past n x [] rest s h = refl
  inserted_past n x (None ∷ ts) rest s h = inserted_past (n + 1) x ts rest s h
  inserted_past n x (Some z ∷ ts) rest s h =
      cond-false (before (key x) (key z)) _ _ (ap (before (key x)) s.0 ∙ h n) ∙ ap (λ w. z ∷ w) (inserted_past (n + 1) x ts rest s.1 h)

  pub inserted_front : (n : ℕ) (x : X) (ts : List (Option X)) (rest : List X) → AreKeyed key at n ts → ((i : ℕ) → before (key x) (at i) ≡ true) → keyed.with_inserted key before x rest ≡ x ∷ rest
      → keyed.with_inserted key before x (present_on ts rest) ≡ x ∷ present_on ts rest
  inserted_front n x [] rest s h r = r
  inserted_front n x (None ∷ ts) rest s h r = inserted_front (n + 1) x ts rest s h r
  inserted_front n x (Some z ∷ ts) rest s h r = cond-true (before (key x) (key z)) _ _ (ap (before (key x)) s.0 ∙ h n)
