-- The least grant whose Close is due is in the list, and may close.
use Rattle.std.proofs.Common.{◌≡◌, ℕ, zero, suc, ◌+◌, Bool, true, false, cond, List, [], ◌∷◌, Some, refl, subst, arith}
use Rattle.std.specs.Prelude.{slice_get}
use Rattle.m3_base.specs.Ideal.State.{Grant}
use Rattle.m3_base.specs.Ideal.GrantRules.{may_close}
use Rattle.m3_base.specs.Placement.Order.{least_closing}

pub least_found : (G : List Grant) (n : ℕ) (gs : List Grant) (g : ℕ) → least_closing G n gs ≡ Some g → (i : ℕ) × (x : Grant) × (g ≡ n + i) × (slice_get gs i ≡ Some x) × (may_close G g (Some x) ≡ true)
least_found G n [] g e = absurd (cc)
least_found G n (x ∷ gs) g e = by_test (may_close G n (Some x)) refl e (least_found G (n + 1) gs g)
  where
    by_test : (b : Bool) → may_close G n (Some x) ≡ b → cond b (Some n) (least_closing G (n + 1) gs) ≡ Some g → (least_closing G (n + 1) gs ≡ Some g → (i : ℕ) × (x : Grant) × (g ≡ n + 1 + i) × (slice_get gs i ≡ Some x) × (may_close G g (Some x) ≡ true))
        → (i : ℕ) × (z : Grant) × (g ≡ n + i) × (slice_get (x ∷ gs) i ≡ Some z) × (may_close G g (Some z) ≡ true)
    by_test true d e ih = let q : n ≡ g = cc in (zero, x, (let z : g ≡ n + 0 = omega arith in z), refl, subst (λ k. may_close G k (Some x) ≡ true) q d)
    by_test false d e ih = let r = ih e in (suc r.0, r.1, (let z = r.2 in let w : g ≡ n + suc r.0 = omega arith in w), r.3, r.4)
