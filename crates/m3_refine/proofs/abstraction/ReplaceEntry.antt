-- A seat of the kernel in place of another of its activity.
use Rattle.std.proofs.Common.{◌≡◌, ℕ, ◌+◌, Bool, true, false, cond, List, [], ◌∷◌, Some, refl, sym, subst, ◌∙◌, ap, arith, map, Option}
use Rattle.std.specs.Prelude.{◌==◌}
use Rattle.std.proofs.lemmas.Bool.Decides.{nat_tests}
use Rattle.m3_base.specs.Lists.Keyed as keyed
use Rattle.m3_base.specs.Lists.Counting.{one, how_many}
use Rattle.m3_base.specs.Ideal.State.{same_act}
use Rattle.m3_base.specs.Placement.State.{PlacedActivity, actor_act}
use Rattle.m3_base.proofs.KeyedList.{find-replaced_other, find-replaced_same, how_many-replaced}
use Rattle.m3_model.specs.Config.Site.{Home, Site, home_of}
use Rattle.m3_model.specs.Parcel.{Parcel, Data, Save, Saved, Restore, Yield, Closed}
use Rattle.m3_model.specs.Tile.State.{Tile}
use Rattle.m3_model.specs.Kernel.State.{ActivityEntry, Kernel}
use Rattle.m3_model.specs.Kernel.Step.{entry_act, entry_of, placed_at}
use Rattle.m3_model.specs.Machine.{Machine}
use Rattle.m3_model.specs.Abstraction.{actor_in}
use Rattle.m3_model.specs.Invariant.Distinct.{DistinctHomes}
use Rattle.m3_model.specs.Invariant.LinkWalk.{act_of_entry}
use Rattle.m3_model.specs.Invariant.Scheduling.{is_placed_at}
use Rattle.m3_model.specs.Invariant.Parcels.{is_here_entry, ParcelOk}
use Rattle.m3_refine.proofs.abstraction.EntriesMatchActors.{actors_replaced}
use Rattle.m3_base.proofs.Activities.{same_act-joins, same_act-itself}

pub seat_key : (a : ℕ) (xs : List ActivityEntry) (x : ActivityEntry) → keyed.find entry_act same_act a xs ≡ Some x → x.act ≡ a
seat_key a [] x e = absurd (cc)
seat_key a (z ∷ xs) x e = key_by a z x (keyed.find entry_act same_act a xs) (a == z.act) refl (seat_key a xs x) e
  where
    key_by : (a : ℕ) (z y : ActivityEntry) (o : Option ActivityEntry) (b : Bool) → (a == z.act) ≡ b → (o ≡ Some y → y.act ≡ a) → cond b (Some z) o ≡ Some y → y.act ≡ a
    key_by a z y o true d ih e = let k : z ≡ y = cc in ap (λ w. w.act) (sym k) ∙ (let n : z.act ≡ a = grind (arith, nat_tests, d) in n)
    key_by a z y o false d ih e = ih e

-- an activity that is somewhere on its tile by the one kernel is by the other
abbrev pub StaysHere : Kernel → Kernel → Type 0
StaysHere k l = (a : ℕ) → is_here_entry (entry_of a k) ≡ true → is_here_entry (entry_of a l) ≡ true

module _ (xs : List ActivityEntry) (x y : ActivityEntry) (there : keyed.find entry_act same_act x.act xs ≡ Some x) (same : y.act ≡ x.act) where
  there' : keyed.find entry_act same_act y.act xs ≡ Some x
  there' = ap (λ a. keyed.find entry_act same_act a xs) same ∙ there

  abbrev pub reseated : List ActivityEntry
  reseated = keyed.with_replaced entry_act same_act y xs

  -- the seat of any activity, then
  pub seat_then : (P : ℕ → Option ActivityEntry → Type 0) (a : ℕ) → ((a == x.act) ≡ false → P a (keyed.find entry_act same_act a xs)) → (a ≡ x.act → P a (Some y)) → P a (keyed.find entry_act same_act a reseated)
  seat_then P a have now = by_test (a == x.act) refl
    where
      by_test : (b : Bool) → (a == x.act) ≡ b → P a (keyed.find entry_act same_act a reseated)
      by_test false d =
          let k : same_act a y.act ≡ false = (ap (λ n. a == n) same ∙ d) in
          subst (P a) (sym (find-replaced_other entry_act same_act same_act a y xs same_act-joins k)) (have d)
      by_test true d =
          let k : a ≡ x.act = grind (arith, nat_tests, d) in
          subst (P a) (sym (ap (λ n. keyed.find entry_act same_act n reseated) (k ∙ sym same) ∙ find-replaced_same entry_act same_act same_act y x xs (same_act-itself y.act) there')) (now k)

  pub seat_now : keyed.find entry_act same_act x.act reseated ≡ Some y
  seat_now = ap (λ n. keyed.find entry_act same_act n reseated) (sym same) ∙ find-replaced_same entry_act same_act same_act y x xs (same_act-itself y.act) there'

  pub seat_counts : (p : ActivityEntry → Bool) → how_many p reseated + one (p x) ≡ how_many p xs + one (p y)
  seat_counts p = how_many-replaced entry_act same_act same_act p y x xs there'

-- who is Placed, where neither was or both are
pub placed_still : (h : Site) (t : ℕ) (xs : List ActivityEntry) (x y : ActivityEntry) → keyed.find entry_act same_act y.act xs ≡ Some x → y.act ≡ x.act → is_placed_at h t y ≡ is_placed_at h t x
    → act_of_entry (placed_at h t (keyed.with_replaced entry_act same_act y xs)) ≡ act_of_entry (placed_at h t xs)
placed_still h t [] x y f s e = absurd (cc)
placed_still h t (z ∷ xs) x y f s e = by_test (y.act == z.act) f (placed_still h t xs x y)
  where
    acts : (b : Bool) (u v : ActivityEntry) (o : Option ActivityEntry) → u.act ≡ v.act → act_of_entry (cond b (Some u) o) ≡ act_of_entry (cond b (Some v) o)
    acts true u v o k = ap (λ n. Some n) k
    acts false u v o k = refl

    after : (b : Bool) (o r : Option ActivityEntry) → act_of_entry o ≡ act_of_entry r → act_of_entry (cond b (Some z) o) ≡ act_of_entry (cond b (Some z) r)
    after true o r k = refl
    after false o r k = k

    by_test : (b : Bool) → cond b (Some z) (keyed.find entry_act same_act y.act xs) ≡ Some x
        → (keyed.find entry_act same_act y.act xs ≡ Some x → y.act ≡ x.act → is_placed_at h t y ≡ is_placed_at h t x → act_of_entry (placed_at h t (keyed.with_replaced entry_act same_act y xs)) ≡ act_of_entry (placed_at h t xs))
        → act_of_entry (placed_at h t (cond b (y ∷ xs) (z ∷ keyed.with_replaced entry_act same_act y xs))) ≡ act_of_entry (placed_at h t (z ∷ xs))
    by_test true k ih =
        let q : z ≡ x = cc in
        ap (λ b. act_of_entry (cond b (Some y) (placed_at h t xs))) (e ∙ ap (is_placed_at h t) (sym q)) ∙ acts (is_placed_at h t z) y z (placed_at h t xs) (s ∙ ap (λ w. w.act) (sym q))
    by_test false k ih = after (is_placed_at h t z) (placed_at h t (keyed.with_replaced entry_act same_act y xs)) (placed_at h t xs) (ih k s e)

-- parcels under another kernel
pub parcel_kernel : (h : Site) (k l : Kernel) (ts : List Tile) → StaysHere k l → (from to : ℕ) (q : Parcel) → ParcelOk h k ts from to q → ParcelOk h l ts from to q
parcel_kernel h k l ts e from to (Data p) o = o
parcel_kernel h k l ts e from to (Save a) o = o
parcel_kernel h k l ts e from to (Saved a c w d) o = o
parcel_kernel h k l ts e from to (Restore a c xs) o = o
parcel_kernel h k l ts e from to (Yield a) o = (o.0, o.1, e a o.2)
parcel_kernel h k l ts e from to (Closed g) o = o

-- the places' actors, where one seat changes
pub actors_then : (h : Site) (m n : Machine) (y : Home) (A : PlacedActivity) → actor_in n y ≡ A → DistinctHomes h.homes → home_of y.act h ≡ Some y
    → ((w : Home) → (y.act == w.act) ≡ false → actor_in n w ≡ actor_in m w)
    → keyed.with_replaced actor_act same_act A (map (actor_in m) h.homes) ≡ map (actor_in n) h.homes
actors_then h m n y A e apart there other =
    ap (λ z. keyed.with_replaced actor_act same_act z (map (actor_in m) h.homes)) (sym e)
    ∙ actors_replaced (actor_in m) (actor_in n) y (λ w. refl) refl other h.homes apart there
