-- Which grants of the ideal state are closed: those whose Closed is on a link.
use Rattle.std.proofs.Common.{◌≡◌, ℕ, zero, suc, ◌+◌, ◌-◌, ◌<◌, Bool, true, false, List, [], ◌∷◌, ◌++◌, Some, None, refl, sym, subst, ◌∙◌, ap, arith, set}
use Rattle.std.specs.Prelude.{◌==◌, ◌||◌, slice_get}
use Rattle.std.proofs.lemmas.Bool.Decides.{nat_tests}
use Rattle.m3_base.specs.Ideal.State.{Grant, grant_in, is_open}
use Rattle.m3_base.specs.Ideal.State as ideal
use Rattle.m3_base.specs.Ideal.GrantRules.{change_grant, set_some}
use Rattle.m3_model.specs.Abstraction.{is_in, closed_if, closed_from}
use Rattle.m3_refine.proofs.lists.Insertion.{Inserts}
use Rattle.m3_refine.proofs.arrival.ArriveIsLandAll.{closes_grant}
use Rattle.m3_base.proofs.GrantsByNumber.{grant_in-suc}

in_front : (g n : ℕ) (f b : List ℕ) → is_in (f ++ g ∷ b) n ≡ (g == n) || is_in (f ++ b) n
in_front g n [] b = refl
in_front g n (x ∷ f) b = let r = in_front g n f b in grind (arith, r)

pub in_inserts : (g n : ℕ) (xs ys : List ℕ) → Inserts g xs ys → is_in ys n ≡ (g == n) || is_in xs n
in_inserts g n xs ys h = ap (λ l. is_in l n) h.whole ∙ in_front g n h.front h.back ∙ ap (λ l. (g == n) || is_in l n) (sym h.without)

-- ---- by places from 0

pub closed_later : (xs ys : List ℕ) (g n : ℕ) (gs : List Grant) → ((k : ℕ) → is_in ys k ≡ (g == k) || is_in xs k) → g < n → closed_from n ys gs ≡ closed_from n xs gs
closed_later xs ys g n [] e less = refl
closed_later xs ys g n (x ∷ gs) e less =
    let other : is_in ys n ≡ is_in xs n = e n ∙ ap (λ b. b || is_in xs n) (let d : (g == n) ≡ false = grind (arith, nat_tests, less) in d) in
    let rest = closed_later xs ys g (n + 1) gs e (omega arith) in
    λ k. closed_if (other k) x ∷ rest k

closes_twice : (b : Bool) (x : Grant) → closes_grant (closed_if b x) ≡ closed_if true x
closes_twice true x = refl
closes_twice false x = refl

-- one more is closed
closed_place : (xs ys : List ℕ) (g n i : ℕ) (gs : List Grant) (y : Grant) → ((k : ℕ) → is_in ys k ≡ (g == k) || is_in xs k) → g ≡ n + i → slice_get (closed_from n xs gs) i ≡ Some y
    → closed_from n ys gs ≡ set (closed_from n xs gs) i (closes_grant y)
closed_place xs ys g n i [] y e at found = absurd (none y found)
  where
    none : (y : Grant) → None ≡ Some y → ⊥
    none y h = cc
closed_place xs ys g n zero (x ∷ gs) y e at found =
    let same : is_in ys n ≡ true = e n ∙ ap (λ b. b || is_in xs n) (let d : (g == n) ≡ true = grind (arith, nat_tests, at) in d) in
    let head : closed_if (is_in xs n) x ≡ y = cc in
    let rest = closed_later xs ys g (n + 1) gs e (omega arith) in
    let first : closed_if (is_in ys n) x ≡ closes_grant y = ap (λ b. closed_if b x) same ∙ sym (closes_twice (is_in xs n) x) ∙ ap closes_grant head in
    λ k. first k ∷ rest k
closed_place xs ys g n (suc i) (x ∷ gs) y e at found =
    let other : is_in ys n ≡ is_in xs n = e n ∙ ap (λ b. b || is_in xs n) (let d : (g == n) ≡ false = grind (arith, nat_tests, at) in d) in
    let rest = closed_place xs ys g (n + 1) i gs y e (omega arith) found in
    λ k. closed_if (other k) x ∷ rest k

-- an open grant's Closed is on no link, and the kernel has the same grant
open_place : (xs : List ℕ) (n i : ℕ) (gs : List Grant) (y : Grant) → slice_get (closed_from n xs gs) i ≡ Some y → is_open y.standing ≡ true
    → (is_in xs (n + i) ≡ false) × (slice_get gs i ≡ Some y)
open_place xs n i [] y found o = absurd (none y found)
  where
    none : (y : Grant) → None ≡ Some y → ⊥
    none y h = cc
open_place xs n zero (x ∷ gs) y found o = by_test (is_in xs n) refl head
  where
    head : closed_if (is_in xs n) x ≡ y
    head = cc

    by_test : (b : Bool) → is_in xs n ≡ b → closed_if b x ≡ y → (is_in xs (n + 0) ≡ false) × (Some x ≡ Some y)
    by_test true e h = absurd (let z : is_open ideal.Closed ≡ true = subst (λ w. is_open w.standing ≡ true) (sym h) o in cc)
    by_test false e h = (ap (is_in xs) (let z : n + 0 ≡ n = omega arith in z) ∙ e, ap (λ w. Some w) h)
open_place xs n (suc i) (x ∷ gs) y found o =
    let r = open_place xs (n + 1) i gs y found o in
    (ap (is_in xs) (let z : n + suc i ≡ n + 1 + i = omega arith in z) ∙ r.0, r.1)

-- ---- by number

pub numbered : (gs : List Grant) (g : ℕ) (y : Grant) → grant_in gs g ≡ Some y → (i : ℕ) × (g ≡ suc i) × (slice_get gs i ≡ Some y)
numbered gs zero y h = absurd (none y h)
  where
    none : (y : Grant) → None ≡ Some y → ⊥
    none y h = cc
numbered gs (suc i) y h = (i, refl, by_number h)
  where
    by_number : grant_in gs (suc i) ≡ Some y → slice_get gs i ≡ Some y
    by_number h = grind (arith, nat_tests, h)

-- its Closed joins a link
pub closes_one : (xs ys : List ℕ) (g : ℕ) (gs : List Grant) (y : Grant) → Inserts g xs ys → grant_in (closed_from 1 xs gs) g ≡ Some y
    → closed_from 1 ys gs ≡ change_grant (closed_from 1 xs gs) g closes_grant
closes_one xs ys g gs y h found =
    let n = numbered (closed_from 1 xs gs) g y found in
    let less : g - 1 ≡ n.0 = (let e = n.1 in omega arith) in
    closed_place xs ys g 1 n.0 gs y (λ k. in_inserts g k xs ys h) (let e = n.1 in omega arith) n.2
    ∙ sym (ap (set_some (closed_from 1 xs gs) g closes_grant) found ∙ ap (λ i. set (closed_from 1 xs gs) i (closes_grant y)) less)

pub open_grant : (xs : List ℕ) (g : ℕ) (gs : List Grant) (y : Grant) → grant_in (closed_from 1 xs gs) g ≡ Some y → is_open y.standing ≡ true
    → (is_in xs g ≡ false) × (grant_in gs g ≡ Some y)
open_grant xs g gs y found o =
    let n = numbered (closed_from 1 xs gs) g y found in
    let r = open_place xs 1 n.0 gs y n.2 o in
    (ap (is_in xs) (let e = n.1 in let z : g ≡ 1 + n.0 = omega arith in z) ∙ r.0, ap (grant_in gs) n.1 ∙ grant_in-suc gs n.0 ∙ r.1)
