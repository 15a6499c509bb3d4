-- A fact on each element of a list: where one changes, and where one is read.
use Rattle.std.proofs.Common.{ℕ, zero, suc, Bool, true, false, cond, List, [], ◌∷◌, get_or, set, drop, Option, Some, None}
use Rattle.m3_base.specs.Lists.Keyed as keyed
use Rattle.m3_base.specs.Lists.EachElement.{Each}

abbrev pub InSome : {X : Type 0} → (X → Type 0) → Option X → Type 0
InSome P None = Unit {0}
InSome P (Some x) = P x

module _ {X : Type 0} (P : X → Type 0) where
  pub each_read : (xs : List X) (i : ℕ) (d : X) → Each P xs → P d → P (get_or xs i d)
  each_read [] i d e p = p
  each_read (x ∷ xs) zero d e p = e.0
  each_read (x ∷ xs) (suc i) d e p = each_read xs i d e.1 p

  pub each_write : (xs : List X) (i : ℕ) (y : X) → Each P xs → P y → Each P (set xs i y)
  each_write [] i y e p = tt
  each_write (x ∷ xs) zero y e p = (p, e.1)
  each_write (x ∷ xs) (suc i) y e p = (e.0, each_write xs i y e.1 p)

  pub each_rest : (xs : List X) → Each P xs → Each P (drop 1 xs)
  each_rest [] e = tt
  each_rest (x ∷ xs) e = e.1

  -- among elements by their keys
  module _ {K : Type 0} (key : X → K) (same : K → K → Bool) where
    pub each_found : (k : K) (xs : List X) → Each P xs → InSome P (keyed.find key same k xs)
    each_found k [] e = tt
    each_found k (x ∷ xs) e = by_test (same k (key x)) (each_found k xs e.1)
      where
        by_test : (b : Bool) → InSome P (keyed.find key same k xs) → InSome P (cond b (Some x) (keyed.find key same k xs))
        by_test true r = e.0
        by_test false r = r

    pub each_replaced : (y : X) (xs : List X) → Each P xs → P y → Each P (keyed.with_replaced key same y xs)
    each_replaced y [] e p = tt
    each_replaced y (x ∷ xs) e p = by_test (same (key y) (key x)) (each_replaced y xs e.1 p)
      where
        by_test : (b : Bool) → Each P (keyed.with_replaced key same y xs) → Each P (cond b (y ∷ xs) (x ∷ keyed.with_replaced key same y xs))
        by_test true r = (p, e.1)
        by_test false r = (e.0, r)
