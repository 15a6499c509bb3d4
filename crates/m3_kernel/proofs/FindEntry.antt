-- The seat of an activity, by the table of places.
use Rattle.std.proofs.Common.{◌≡◌, ℕ, zero, suc, Bool, true, false, cond, List, [], ◌∷◌, get_or, Option, Some, None, refl, sym, ap, ◌∙◌, subst, arith}
use Rattle.std.specs.Prelude.{slice_get, slice_set, ◌==◌}
use Rattle.std.proofs.lemmas.Bool.Decides.{nat_tests}
use Rattle.m3_base.specs.Lists.Keyed as keyed
use Rattle.m3_base.specs.Ideal.State.{same_act}
use Rattle.m3_model.specs.Kernel.State.{ActivityEntry, Kernel}
use Rattle.m3_model.specs.Kernel.Step.{entry_act}
use Rattle.m3_kernel.specs.LookupTables.{test, IsOnly, is_of}
use Rattle.m3_kernel.specs.StepContracts.{IsSeatOf, PlaceIs}
use Rattle.m3_kernel.specs.KernelStateView.{kernel_in, IsKept}
use Rattle.m3_kernel.specs.declared.state.State.{State}
use Rattle.m3_kernel.proofs.UniqueElement.{first_by, pick, first_only, only_here, only_beside}

pub find_first : (a : ℕ) (xs : List ActivityEntry) → keyed.find entry_act same_act a xs ≡ first_by (is_of a) xs
find_first a [] = refl
find_first a (x ∷ xs) = ap (cond (is_of a x) (Some x)) (find_first a xs)

picked : (p : ActivityEntry → Bool) (o : Option ActivityEntry) (x : ActivityEntry) → o ≡ Some x → p x ≡ true → pick p o ≡ Some x
picked p o x e t = ap (pick p) e ∙ ap (λ b. cond b (Some x) None) t

pub is_seat : (k : Kernel) (a at : ℕ) → IsOnly (is_of a) k.seats (Some at) → IsSeatOf k a at
is_seat k a at only =
    let here = only_here (is_of a) k.seats at only in
    record {
      seat = here.0;
      here = here.1.0;
      act = (let t : (a == here.0.act) ≡ true = here.1.1 in let n : here.0.act ≡ a = grind (arith, nat_tests, t) in n);
      found = find_first a k.seats ∙ first_only (is_of a) (is_of a) (λ x e. e) k.seats (Some at) only ∙ picked (is_of a) (slice_get k.seats at) here.0 here.1.0 here.1.1;
      only = only;
    }

pub place_is : (k : Kernel) (a : ℕ) (o : Option ℕ) → IsOnly (is_of a) k.seats o → PlaceIs k a o
place_is k a None only = find_first a k.seats ∙ first_only (is_of a) (is_of a) (λ x e. e) k.seats None only
place_is k a (Some at) only = is_seat k a at only

-- a seat in place of another of its activity
module _ (y : ActivityEntry) where
  abbrev mine : ActivityEntry → Bool
  mine = is_of y.act

  pub replaced_at : (xs : List ActivityEntry) (at : ℕ) (x : ActivityEntry) → slice_get xs at ≡ Some x → mine x ≡ true → ((k : ℕ) → (k == at) ≡ false → test mine (slice_get xs k) ≡ false) → keyed.with_replaced entry_act same_act y xs ≡ slice_set xs at y
  replaced_at [] at x e t never = absurd (cc)
  replaced_at (z ∷ zs) zero x e t never =
      let same : z ≡ x = cc in
      ap (λ b. cond b (y ∷ zs) (z ∷ keyed.with_replaced entry_act same_act y zs)) (ap mine same ∙ t)
  replaced_at (z ∷ zs) (suc at) x e t never =
      ap (λ b. cond b (y ∷ zs) (z ∷ keyed.with_replaced entry_act same_act y zs)) (never 0 (let n : (0 == suc at) ≡ false = grind (arith, nat_tests) in n))
      ∙ ap (λ r. z ∷ r) (replaced_at zs at x e t (λ k d. never (suc k) (let n : (suc k == suc at) ≡ false = grind (arith, nat_tests, d) in n)))

  pub replaced_set : (xs : List ActivityEntry) (at : ℕ) → IsOnly mine xs (Some at) → keyed.with_replaced entry_act same_act y xs ≡ slice_set xs at y
  replaced_set xs at only =
      let here = only_here mine xs at only in
      replaced_at xs at here.0 here.1.0 here.1.1 (λ k d. only_beside mine xs at k only d)

-- what the table of places says
pub place_by : (s : State) (a : ℕ) (o : Option ℕ) → IsKept s → o ≡ get_or s.index.items a None → PlaceIs (kernel_in s) a o
place_by s a o kept e = place_is (kernel_in s) a o (subst (λ (q : Option ℕ). IsOnly (is_of a) (kernel_in s).seats q) (sym e) (kept.tables.places a))
