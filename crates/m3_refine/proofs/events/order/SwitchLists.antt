-- Who is Placed on a tile and who comes, looked up among all entries.
use Rattle.std.proofs.Common.{◌≡◌, ℕ, ◌+◌, Bool, true, false, cond, List, [], ◌∷◌, Some, refl, subst, ◌∙◌, ap, arith}
use Rattle.std.specs.Prelude.{◌==◌}
use Rattle.std.specs.List.{list_any}
use Rattle.std.proofs.lemmas.Bool.Decides.{nat_tests}
use Rattle.m3_base.specs.Lists.Counting.{one, how_many}
use Rattle.m3_base.specs.Ideal.State.{same_act}
use Rattle.m3_model.specs.Config.Site.{Home, Site}
use Rattle.m3_model.specs.Kernel.State.{EntryResidency, Is_placed, Is_leaving, Is_resting, Is_coming, ActivityEntry, Kernel}
use Rattle.m3_model.specs.Kernel.Step.{entry_act, is_placed_entry, placed_at}
use Rattle.m3_model.specs.Invariant.Scheduling.{has_home, is_placed_at}
use Rattle.m3_refine.proofs.abstraction.EntriesMatchActors.{SeatOf, AreSeats}
use Rattle.m3_base.specs.Lists.Keyed as keyed

pub any_found : (p : ActivityEntry → Bool) (a : ℕ) (xs : List ActivityEntry) (x : ActivityEntry) → keyed.find entry_act same_act a xs ≡ Some x → p x ≡ true → list_any p xs ≡ true
any_found p a [] x e k = absurd (cc)
any_found p a (z ∷ xs) x e k = by_test (a == z.act) e (any_found p a xs x)
  where
    by_test : (b : Bool) → cond b (Some z) (keyed.find entry_act same_act a xs) ≡ Some x → (keyed.find entry_act same_act a xs ≡ Some x → p x ≡ true → list_any p xs ≡ true) → list_any p (z ∷ xs) ≡ true
    by_test true e ih = let q : z ≡ x = cc in let r : p z ≡ true = ap p q ∙ k in grind (arith, r)
    by_test false e ih = let r = ih e k in grind (arith, r)

pub fewer : (p q : ActivityEntry → Bool) → ((x : ActivityEntry) → p x ≡ true → q x ≡ true) → (xs : List ActivityEntry) → how_many q xs ≡ 0 → how_many p xs ≡ 0
fewer p q f [] e = refl
fewer p q f (x ∷ xs) e = by_test (p x) refl (fewer p q f xs)
  where
    by_test : (b : Bool) → p x ≡ b → (how_many q xs ≡ 0 → how_many p xs ≡ 0) → one (p x) + how_many p xs ≡ 0
    by_test true d ih = absurd (let z : one (q x) ≡ 1 = ap one (f x d) in omega arith)
    by_test false d ih = let k : one (p x) ≡ 0 = ap one d in let r = ih (omega arith) in omega arith

pub placed_found : (h : Site) (k : Kernel) (t : ℕ) (xs : List ActivityEntry) (ys : List Home) (b : ActivityEntry) → AreSeats h k xs ys → placed_at h t xs ≡ Some b → (y : Home) × SeatOf h k b y × (is_placed_at h t b ≡ true)
placed_found h k t [] [] b s e = absurd (cc)
placed_found h k t (x ∷ xs) (y ∷ ys) b s e = by_test (is_placed_at h t x) refl e (placed_found h k t xs ys b s.1)
  where
    by_test : (d : Bool) → is_placed_at h t x ≡ d → cond d (Some x) (placed_at h t xs) ≡ Some b → (placed_at h t xs ≡ Some b → (y : Home) × SeatOf h k b y × (is_placed_at h t b ≡ true)) → (y : Home) × SeatOf h k b y × (is_placed_at h t b ≡ true)
    by_test true d e ih = let q : x ≡ b = cc in (y, subst (λ x. SeatOf h k x y) q s.0, subst (λ x. is_placed_at h t x ≡ true) q d)
    by_test false d e ih = ih e
placed_found h k t [] (y ∷ ys) b s e = absurd s
placed_found h k t (x ∷ xs) [] b s e = absurd s

pub placed_some : (h : Site) (t : ℕ) (xs : List ActivityEntry) → how_many (is_placed_at h t) xs ≡ 1 → (b : ActivityEntry) × (placed_at h t xs ≡ Some b)
placed_some h t [] e = absurd (omega arith)
placed_some h t (x ∷ xs) e = by_test (is_placed_at h t x) refl (placed_some h t xs)
  where
    by_test : (d : Bool) → is_placed_at h t x ≡ d → (how_many (is_placed_at h t) xs ≡ 1 → (b : ActivityEntry) × (placed_at h t xs ≡ Some b)) → (b : ActivityEntry) × (cond d (Some x) (placed_at h t xs) ≡ Some b)
    by_test true d ih = (x, refl)
    by_test false d ih = ih (let z : one (is_placed_at h t x) ≡ 0 = ap one d in omega arith)

pub placed_is : (w : EntryResidency) → is_placed_entry w ≡ true → w ≡ Is_placed
placed_is Is_placed e = refl
placed_is Is_leaving e = absurd (cc)
placed_is (Is_resting y) e = absurd (cc)
placed_is (Is_coming y) e = absurd (cc)

pub home_has : (t : ℕ) (a : ℕ) (ys : List Home) (y : Home) → keyed.find (λ (z : Home). z.act) same_act a ys ≡ Some y → y.tile ≡ t → has_home t ys ≡ true
home_has t a [] y e k = absurd (cc)
home_has t a (z ∷ ys) y e k = by_test (a == z.act) e (home_has t a ys y)
  where
    by_test : (b : Bool) → cond b (Some z) (keyed.find (λ (z : Home). z.act) same_act a ys) ≡ Some y → (keyed.find (λ (z : Home). z.act) same_act a ys ≡ Some y → y.tile ≡ t → has_home t ys ≡ true) → has_home t (z ∷ ys) ≡ true
    by_test true e ih = let q : z ≡ y = cc in let r : (z.tile == t) ≡ true = (let s = ap (λ w. w.tile) q ∙ k in grind (arith, nat_tests, s)) in grind (arith, r)
    by_test false e ih = let r = ih e k in grind (arith, r)
