-- The least activity that can be tended, by the least for which something is held.
use Rattle.std.proofs.Common.{◌≡◌, ℕ, zero, suc, ◌<◌, ◌≤◌, Bool, true, false, cond, List, [], ◌∷◌, length, Option, Some, None, refl, sym, ap, ◌∙◌, arith, ⊎_elim}
use Rattle.std.specs.Prelude.{slice_get, ◌==◌, ◌&&◌, ◌||◌, not, nat_lt}
use Rattle.std.proofs.lemmas.Bool.{cases_lt}
use Rattle.std.proofs.lemmas.Bool.Decides.{nat_tests}
use Rattle.m3_base.specs.Lists.EachElement.{Each}
use Rattle.m3_base.specs.Placement.Driver.{least_of}
use Rattle.m3_model.specs.Kernel.State.{ActivityEntry}
use Rattle.m3_model.specs.Kernel.Step.{is_placed_entry, is_leaving_entry}
use Rattle.m3_model.specs.Kernel.Driver.{can_tend, least_tend}
use Rattle.m3_bit_set.specs.BitSet.{has_place, IsFirst}
use Rattle.m3_kernel.specs.LookupTables.{IsHeldSet}

-- ---- the least of a list

-- none below this one can be tended
abbrev pub NoneBelow : ℕ → List ActivityEntry → Type 0
NoneBelow f xs = Each (λ x. x.act < f → can_tend x ≡ false) xs

pub least_none : (xs : List ActivityEntry) → Each (λ x. can_tend x ≡ false) xs → least_tend xs ≡ None
least_none [] all = refl
least_none (x ∷ xs) all = ap (λ b. cond b (Some (least_of (least_tend xs) x.act)) (least_tend xs)) all.0 ∙ least_none xs all.1

least_of_is : (o : Option ℕ) (f a : ℕ) → f ≤ a → ((b : ℕ) → o ≡ Some b → f ≤ b) → f ≤ least_of o a
least_of_is None f a le bound = le
least_of_is (Some b) f a le bound = by_test (nat_lt b a)
  where
    by_test : (t : Bool) → f ≤ cond t b a
    by_test true = bound b refl
    by_test false = le

bound : (f : ℕ) (xs : List ActivityEntry) → NoneBelow f xs → (b : ℕ) → least_tend xs ≡ Some b → f ≤ b
bound f [] below b e = absurd (cc)
bound f (x ∷ xs) below b e = by_tend (can_tend x) refl e (bound f xs below.1)
  where
    by_tend : (t : Bool) → can_tend x ≡ t → cond t (Some (least_of (least_tend xs) x.act)) (least_tend xs) ≡ Some b → ((c : ℕ) → least_tend xs ≡ Some c → f ≤ c) → f ≤ b
    by_tend false d g rest = rest b g
    by_tend true d g rest =
        let same : least_of (least_tend xs) x.act ≡ b = cc in
        let here : f ≤ x.act = ⊎_elim (λ (lt : x.act < f). absurd (let u : true ≡ false = sym d ∙ below.0 lt in cc)) (λ (le : f ≤ x.act). le) (cases_lt x.act f) in
        let it : f ≤ least_of (least_tend xs) x.act = least_of_is (least_tend xs) f x.act here rest in
        omega (arith, it, same)

-- one that can be tended bounds the least
found_least : (xs : List ActivityEntry) (at : ℕ) (x : ActivityEntry) → slice_get xs at ≡ Some x → can_tend x ≡ true → (b : ℕ) × ((least_tend xs ≡ Some b) × (b ≤ x.act))
found_least [] at x here can = absurd (cc)
found_least (z ∷ zs) zero x here can =
    let same : z ≡ x = cc in (
      least_of (least_tend zs) z.act,
      (
        ap (λ b. cond b (Some (least_of (least_tend zs) z.act)) (least_tend zs)) (ap can_tend same ∙ can),
        (let e : z.act ≡ x.act = ap (λ (u : ActivityEntry). u.act) same in let l = least_le (least_tend zs) z.act in omega (arith, e, l)),
      ),
    )
  where
    least_le : (o : Option ℕ) (a : ℕ) → least_of o a ≤ a
    least_le None a = omega arith
    least_le (Some b) a = grind (arith, nat_tests)
found_least (z ∷ zs) (suc at) x here can = by_tend (can_tend z) (found_least zs at x here can)
  where
    by_tend : (t : Bool) → (b : ℕ) × ((least_tend zs ≡ Some b) × (b ≤ x.act)) → (b : ℕ) × ((cond t (Some (least_of (least_tend zs) z.act)) (least_tend zs) ≡ Some b) × (b ≤ x.act))
    by_tend false r = r
    by_tend true r = (
      least_of (Some r.0) z.act,
      (
        ap (λ o. Some (least_of o z.act)) r.1.0,
        (let l = least_least r.0 z.act in let m = r.1.1 in omega (arith, l, m)),
      ),
    )
      where
        least_least : (b a : ℕ) → least_of (Some b) a ≤ b
        least_least b a = grind (arith, nat_tests)

pub least_first : (xs : List ActivityEntry) (f at : ℕ) (x : ActivityEntry) → NoneBelow f xs → slice_get xs at ≡ Some x → x.act ≡ f → can_tend x ≡ true → least_tend xs ≡ Some f
least_first xs f at x below here act can =
    let r = found_least xs at x here can in
    let low : f ≤ r.0 = bound f xs below r.0 r.1.0 in
    let high = r.1.1 in
    let same : r.0 ≡ f = omega (arith, low, high, act) in
    r.1.0 ∙ ap (λ b. Some b) same

-- ---- by who has packets held

each_at : (P : ActivityEntry → Type 0) (xs : List ActivityEntry) → ((i : ℕ) (x : ActivityEntry) → slice_get xs i ≡ Some x → P x) → Each P xs
each_at P [] all = tt
each_at P (x ∷ xs) all = (all 0 x refl, each_at P xs (λ i z e. all (suc i) z e))

idle : (x : ActivityEntry) → x.hold ≡ [] → can_tend x ≡ false
idle x e = ap (λ ps. not (is_placed_entry x.seating || is_leaving_entry x.seating) && not (length ps == 0)) e ∙ by_seating (not (is_placed_entry x.seating || is_leaving_entry x.seating))
  where
    by_seating : (b : Bool) → (b && false) ≡ false
    by_seating true = refl
    by_seating false = refl

module _ (xs : List ActivityEntry) (held : List ℕ) (is : IsHeldSet xs held) where
  pub nobody_held : IsFirst (has_place held) None → least_tend xs ≡ None
  nobody_held none = least_none xs (each_at (λ x. can_tend x ≡ false) xs (λ i x e. idle x (is i x e (none x.act))))

  pub first_held : (f : ℕ) → IsFirst (has_place held) (Some f) → (at : ℕ) (x : ActivityEntry) → slice_get xs at ≡ Some x → x.act ≡ f → can_tend x ≡ true → least_tend xs ≡ Some f
  first_held f first at x here act can =
      least_first xs f at x (each_at (λ x. x.act < f → can_tend x ≡ false) xs (λ i x e lt. idle x (is i x e (first.1 x.act lt)))) here act can
