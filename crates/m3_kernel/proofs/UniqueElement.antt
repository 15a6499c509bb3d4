-- Lists of which a test holds at one place at most.
use Rattle.std.proofs.Common.{◌≡◌, ℕ, zero, suc, ◌≤◌, Bool, true, false, cond, List, [], ◌∷◌, ◌++◌, length, Option, Some, None, refl, sym, ap, ◌∙◌, arith}
use Rattle.std.specs.Prelude.{slice_get, slice_set, ◌==◌}
use Rattle.std.specs.List.{list_any}
use Rattle.std.proofs.lemmas.Bool.Decides.{nat_tests}
use Rattle.std.proofs.lemmas.Option.{slice_get_past}
use Rattle.m3_base.specs.Ideal.State.{is_number}
use Rattle.m3_kernel.specs.LookupTables.{test, IsOnly}

module _ {X : Type 0} where
  pub get_set : (xs : List X) (i k : ℕ) (x y : X) → slice_get xs i ≡ Some x → slice_get (slice_set xs i y) k ≡ cond (k == i) (Some y) (slice_get xs k)
  get_set [] i k x y e = absurd (cc)
  get_set (z ∷ zs) zero zero x y e = refl
  get_set (z ∷ zs) zero (suc k) x y e = grind (arith, nat_tests)
  get_set (z ∷ zs) (suc i) zero x y e = grind (arith, nat_tests)
  get_set (z ∷ zs) (suc i) (suc k) x y e = grind (arith, nat_tests, get_set zs i k x y e)

  -- the first that the test holds of
  abbrev pub first_by : (X → Bool) → List X → Option X
  first_by q [] = None
  first_by q (x ∷ xs) = cond (q x) (Some x) (first_by q xs)

  abbrev pub at_place : List X → Option ℕ → Option X
  at_place xs None = None
  at_place xs (Some i) = slice_get xs i

  abbrev pub pick : (X → Bool) → Option X → Option X
  pick q None = None
  pick q (Some x) = cond (q x) (Some x) None

  -- what is true at no place
  pub none_first : (q : X → Bool) (xs : List X) → ((i : ℕ) → test q (slice_get xs i) ≡ false) → first_by q xs ≡ None
  none_first q [] never = refl
  none_first q (x ∷ xs) never =
      let head : q x ≡ false = never 0 in
      ap (λ b. cond b (Some x) (first_by q xs)) head ∙ none_first q xs (λ i. never (suc i))

  pub none_any : (q : X → Bool) (xs : List X) → ((i : ℕ) → test q (slice_get xs i) ≡ false) → list_any q xs ≡ false
  none_any q [] never = refl
  none_any q (x ∷ xs) never = let head : q x ≡ false = never 0 in rw head (none_any q xs (λ i. never (suc i)))

  pub some_any : (q : X → Bool) (xs : List X) (i : ℕ) → test q (slice_get xs i) ≡ true → list_any q xs ≡ true
  some_any q [] i e = absurd (cc)
  some_any q (x ∷ xs) zero e = let head : q x ≡ true = e in rw head refl
  some_any q (x ∷ xs) (suc i) e = grind (arith, some_any q xs i e)

  pub any_none : (q : X → Bool) (xs : List X) → list_any q xs ≡ false → (i : ℕ) → test q (slice_get xs i) ≡ false
  any_none q [] e i = refl
  any_none q (x ∷ xs) e zero = grind (arith)
  any_none q (x ∷ xs) e (suc i) = any_none q xs (grind (arith)) i

  -- one test implies the other
  pub implied : (p q : X → Bool) → ((x : X) → q x ≡ true → p x ≡ true) → (o : Option X) → test p o ≡ false → test q o ≡ false
  implied p q im None e = refl
  implied p q im (Some x) e = by_test (q x) refl
    where
      by_test : (b : Bool) → q x ≡ b → q x ≡ false
      by_test false d = d
      by_test true d = let t : p x ≡ true = im x d in absurd (cc)

  pub only_here : (p : X → Bool) (xs : List X) (i : ℕ) → IsOnly p xs (Some i) → (x : X) × ((slice_get xs i ≡ Some x) × (p x ≡ true))
  only_here p xs i only = by_get (slice_get xs i) refl
    where
      by_get : (o : Option X) → slice_get xs i ≡ o → (x : X) × ((slice_get xs i ≡ Some x) × (p x ≡ true))
      by_get None e =
          let t : true ≡ false = (let n : is_number i (Some i) ≡ true = grind (arith, nat_tests) in sym n ∙ sym (only i) ∙ ap (test p) e) in
          absurd (cc)
      by_get (Some x) e = (x, (e, (let n : is_number i (Some i) ≡ true = grind (arith, nat_tests) in sym (ap (test p) e) ∙ only i ∙ n)))

  pub only_beside : (p : X → Bool) (xs : List X) (i k : ℕ) → IsOnly p xs (Some i) → (k == i) ≡ false → test p (slice_get xs k) ≡ false
  only_beside p xs i k only ne = only k ∙ (let n : is_number k (Some i) ≡ false = grind (arith, nat_tests, ne) in n)

  tail_some : (p : X → Bool) (x : X) (xs : List X) (i : ℕ) → IsOnly p (x ∷ xs) (Some (suc i)) → IsOnly p xs (Some i)
  tail_some p x xs i only k = only (suc k) ∙ (let n : is_number (suc k) (Some (suc i)) ≡ is_number k (Some i) = grind (arith, nat_tests) in n)

  head_some : (p : X → Bool) (x : X) (xs : List X) (i : ℕ) → IsOnly p (x ∷ xs) (Some (suc i)) → p x ≡ false
  head_some p x xs i only = only 0 ∙ (let n : is_number 0 (Some (suc i)) ≡ false = grind (arith, nat_tests) in n)

  tail_none : (p : X → Bool) (x : X) (xs : List X) → IsOnly p (x ∷ xs) (Some zero) → (k : ℕ) → test p (slice_get xs k) ≡ false
  tail_none p x xs only k = only (suc k) ∙ (let n : is_number (suc k) (Some zero) ≡ false = grind (arith, nat_tests) in n)

  -- the first that a narrower test holds of can only be there
  pub first_only : (p q : X → Bool) → ((x : X) → q x ≡ true → p x ≡ true) → (xs : List X) (o : Option ℕ) → IsOnly p xs o → first_by q xs ≡ pick q (at_place xs o)
  first_only p q im xs None only = none_first q xs (λ i. implied p q im (slice_get xs i) (only i))
  first_only p q im [] (Some i) only = refl
  first_only p q im (x ∷ xs) (Some zero) only =
      ap (cond (q x) (Some x)) (none_first q xs (λ i. implied p q im (slice_get xs i) (tail_none p x xs only i)))
  first_only p q im (x ∷ xs) (Some (suc i)) only =
      ap (λ b. cond b (Some x) (first_by q xs)) (implied p q im (Some x) (head_some p x xs i only)) ∙ first_only p q im xs (Some i) (tail_some p x xs i only)

  -- ---- one element changed

  by_place : (p : X → Bool) (xs : List X) (o : Option ℕ) (i : ℕ) (y : X) (k : ℕ) (b : Bool) → (k == i) ≡ b → ((k == i) ≡ true → p y ≡ is_number k o) → ((k == i) ≡ false → test p (slice_get xs k) ≡ is_number k o)
      → test p (cond b (Some y) (slice_get xs k)) ≡ is_number k o
  by_place p xs o i y k true d now have = now d
  by_place p xs o i y k false d now have = have d

  pub only_set : (p : X → Bool) (xs : List X) (o : Option ℕ) (i : ℕ) (x y : X) → slice_get xs i ≡ Some x → ((k : ℕ) → (k == i) ≡ true → p y ≡ is_number k o) → ((k : ℕ) → (k == i) ≡ false → test p (slice_get xs k) ≡ is_number k o)
      → IsOnly p (slice_set xs i y) o
  only_set p xs o i x y e now have k =
      ap (test p) (get_set xs i k x y e) ∙ by_place p xs o i y k (k == i) refl (now k) (have k)

  pub only_kept : (p : X → Bool) (xs : List X) (o : Option ℕ) (i : ℕ) (x y : X) → slice_get xs i ≡ Some x → IsOnly p xs o → p y ≡ p x → IsOnly p (slice_set xs i y) o
  only_kept p xs o i x y e only same =
      only_set p xs o i x y e
      (λ k d. same ∙ sym (ap (test p) e) ∙ only i ∙ ap (λ j. is_number j o) (let n : i ≡ k = grind (arith, nat_tests, d) in n))
      (λ k d. only k)

  pub only_gained : (p : X → Bool) (xs : List X) (i : ℕ) (x y : X) → slice_get xs i ≡ Some x → IsOnly p xs None → p y ≡ true → IsOnly p (slice_set xs i y) (Some i)
  only_gained p xs i x y e only holds =
      only_set p xs (Some i) i x y e
      (λ k d. holds ∙ (let n : true ≡ is_number k (Some i) = grind (arith, nat_tests, d) in n))
      (λ k d. only k ∙ (let n : false ≡ is_number k (Some i) = grind (arith, nat_tests, d) in n))

  pub only_lost : (p : X → Bool) (xs : List X) (i : ℕ) (x y : X) → slice_get xs i ≡ Some x → IsOnly p xs (Some i) → p y ≡ false → IsOnly p (slice_set xs i y) None
  only_lost p xs i x y e only never =
      only_set p xs None i x y e (λ k d. never) (λ k d. only_beside p xs i k only d)

  -- ---- one element more

  pub get_more : (xs : List X) (y : X) (k : ℕ) → slice_get (xs ++ y ∷ []) k ≡ cond (k == length xs) (Some y) (slice_get xs k)
  get_more [] y zero = refl
  get_more [] y (suc k) = grind (arith, nat_tests)
  get_more (x ∷ xs) y zero = grind (arith, nat_tests)
  get_more (x ∷ xs) y (suc k) = grind (arith, nat_tests, get_more xs y k)

  pub only_more : (p : X → Bool) (xs : List X) (o : Option ℕ) (y : X) → IsOnly p xs o → p y ≡ false → IsOnly p (xs ++ y ∷ []) o
  only_more p xs o y only never k =
      ap (test p) (get_more xs y k)
      ∙ by_place p xs o (length xs) y k (k == length xs) refl
      (λ d. never ∙ sym (ap (test p) (slice_get_past xs k (let n : length xs ≤ k = grind (arith, nat_tests, d) in n))) ∙ only k)
      (λ d. only k)

  pub only_last : (p : X → Bool) (xs : List X) (y : X) → IsOnly p xs None → p y ≡ true → IsOnly p (xs ++ y ∷ []) (Some (length xs))
  only_last p xs y only holds k =
      ap (test p) (get_more xs y k)
      ∙ by_place p xs (Some (length xs)) (length xs) y k (k == length xs) refl
      (λ d. holds ∙ (let n : true ≡ is_number k (Some (length xs)) = grind (arith, nat_tests, d) in n))
      (λ d. only k ∙ (let n : false ≡ is_number k (Some (length xs)) = grind (arith, nat_tests, d) in n))
