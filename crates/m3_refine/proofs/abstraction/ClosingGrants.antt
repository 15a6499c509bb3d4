-- A grant whose Closed is on its way is closing in the kernel and closed in the ideal state: it is done in neither.
use Rattle.std.proofs.Common.{◌≡◌, ℕ, zero, suc, ◌+◌, Bool, true, false, cond, List, [], ◌∷◌, length, Some, None, refl, sym, subst, ◌∙◌, ap, arith, Option}
use Rattle.std.specs.Prelude.{◌==◌, not, ◌&&◌, ◌||◌, slice_get, count_by, fold}
use Rattle.std.specs.List.{list_any}
use Rattle.m3_base.specs.Ideal.State.{Grant, grant_in, holder, holder_ep, is_done, is_child}
use Rattle.m3_base.specs.Ideal.GrantRules.{is_open_child, holds_at}
use Rattle.m3_base.proofs.GrantsByNumber.{grant_in-suc as numbered_back}
use Rattle.m3_model.specs.Config.Site.{Site}
use Rattle.m3_model.specs.Kernel.Step.{is_under_close}
use Rattle.m3_model.specs.Machine.{Machine}
use Rattle.m3_model.specs.Abstraction.{all_closed, is_in, closed_if, closed_from}
use Rattle.m3_model.specs.Invariant.Structure.{CloseWasSent, MachineStructure}

-- of these grants, numbered from n, those whose Closed is on its way had their Close sent and aren't done
abbrev pub AllShut : List ℕ → ℕ → List Grant → Type 0
AllShut xs n [] = Unit {0}
AllShut xs n (x ∷ gs) = (is_in xs n ≡ true → is_under_close x ≡ true) × AllShut xs (n + 1) gs

shut_by : (xs : List ℕ) (n : ℕ) (gs : List Grant) → ((i : ℕ) (x : Grant) → slice_get gs i ≡ Some x → is_in xs (n + i) ≡ true → is_under_close x ≡ true) → AllShut xs n gs
shut_by xs n [] f = tt
shut_by xs n (x ∷ gs) f = (
  (λ e. f zero x refl (ap (is_in xs) (let z : n + 0 ≡ n = omega arith in z) ∙ e)),
  shut_by xs (n + 1) gs (λ i y e k. f (suc i) y e (ap (is_in xs) (let z : n + suc i ≡ n + 1 + i = omega arith in z) ∙ k)),
)

-- ---- in the machine

module _ (h : Site) (m : Machine) (sound : MachineStructure h m) where
  pub shut_at : (i : ℕ) (x : Grant) → slice_get m.kernel.grants i ≡ Some x → is_in (all_closed m) (1 + i) ≡ true → is_under_close x ≡ true
  shut_at i x e k =
      let z : 1 + i ≡ suc i = omega arith in
      by_shut (grant_in m.kernel.grants (suc i)) (numbered_back m.kernel.grants i ∙ e) (sound.shut (suc i) (ap (is_in (all_closed m)) (sym z) ∙ k))
    where
      by_shut : (o : Option Grant) → o ≡ Some x → CloseWasSent o → is_under_close x ≡ true
      by_shut None e s = absurd s
      by_shut (Some y) e s = let q : y ≡ x = cc in subst (λ y. is_under_close y ≡ true) q s

  pub all_shut : AllShut (all_closed m) 1 m.kernel.grants
  all_shut = shut_by (all_closed m) 1 m.kernel.grants shut_at

-- ---- what is asked of grants that aren't done

pub undone_same : (b : Bool) (x : Grant) → (b ≡ true → is_under_close x ≡ true) → is_done (closed_if b x).standing ≡ is_done x.standing
undone_same false x f = refl
undone_same true x f = let k = f refl in grind (arith, k)

-- it reads a grant's line, and whether the grant is done
abbrev pub ReadsDone : (Grant → Bool) → Type 0
ReadsDone p = (b : Bool) (x : Grant) → is_done (closed_if b x).standing ≡ is_done x.standing → p (closed_if b x) ≡ p x

pub open_child_reads : (g : ℕ) → ReadsDone (is_open_child g)
open_child_reads g true x e = ap (λ d. is_child g x && not d) e
open_child_reads g false x e = refl

pub holds_reads : (act ep : ℕ) → ReadsDone (holds_at act ep)
holds_reads act ep true x e = ap (λ d. not d && ((holder x.line == act) && (holder_ep x.line == ep))) e
holds_reads act ep false x e = refl

module _ (p : Grant → Bool) (reads : ReadsDone p) (xs : List ℕ) where
  pub any_same : (n : ℕ) (gs : List Grant) → AllShut xs n gs → list_any p (closed_from n xs gs) ≡ list_any p gs
  any_same n [] s = refl
  any_same n (x ∷ gs) s =
      let r = any_same (n + 1) gs s.1 in
      let d = reads (is_in xs n) x (undone_same (is_in xs n) x s.0) in
      (λ k. d k || r k)

  counted_same : (n count : ℕ) (gs : List Grant) → AllShut xs n gs → fold (λ a x. a + cond (p x) 1 0) count (closed_from n xs gs) ≡ fold (λ a x. a + cond (p x) 1 0) count gs
  counted_same n count [] s = refl
  counted_same n count (x ∷ gs) s =
      let d = reads (is_in xs n) x (undone_same (is_in xs n) x s.0) in
      ap (λ b. fold (λ a x. a + cond (p x) 1 0) (count + cond b 1 0) (closed_from (n + 1) xs gs)) d
      ∙ counted_same (n + 1) (count + cond (p x) 1 0) gs s.1

  pub count_same : (n : ℕ) (gs : List Grant) → AllShut xs n gs → count_by p (closed_from n xs gs) ≡ count_by p gs
  count_same n gs s = counted_same n 0 gs s

-- ---- as many

pub length_closed : (xs : List ℕ) (n : ℕ) (gs : List Grant) → length (closed_from n xs gs) ≡ length gs
length_closed xs n [] = refl
length_closed xs n (x ∷ gs) = ap suc (length_closed xs (n + 1) gs)
