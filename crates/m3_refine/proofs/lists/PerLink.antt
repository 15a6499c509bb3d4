-- What holds on each link, where one loses its front and one gets a parcel more.
use Rattle.std.proofs.Common.{◌≡◌, ℕ, ◌+◌, ◌*◌, ◌<◌, ◌≤◌, Bool, true, false, cond, List, [], ◌∷◌, ◌++◌, Some, refl, sym, subst, ◌∙◌, ap, arith, set, get_or, length, ◌⊎◌, inl, inr}
use Rattle.std.specs.Prelude.{◌==◌}
use Rattle.std.proofs.lemmas.Bool.Decides.{nat_tests}
use Rattle.m3_base.specs.Lists.Counting.{one, how_many}
use Rattle.m3_base.specs.Ideal.Context.{Context}
use Rattle.m3_base.specs.Ideal.State.{context_of, DistinctActs}
use Rattle.m3_base.specs.Lists.EachElement.{Each}
use Rattle.m3_merge.proofs.MergedIsRun.{each_append}
use Rattle.m3_merge.proofs.StampBounds.{each_front, each_back}
use Rattle.m3_model.specs.Parcel.{Parcel, Data, Save, Saved, Restore, Yield, Closed}
use Rattle.m3_model.specs.Invariant.Housing.{IsPresent}
use Rattle.m3_model.specs.Invariant.Parcels.{YieldsBeforeSaved, no_yield}
use Rattle.m3_model.specs.Invariant.Scheduling.{is_save_of, saves_in_flight}
use Rattle.m3_refine.proofs.lists.Insertion.{Inserts, StaysKnown}
use Rattle.m3_refine.proofs.abstraction.MoveContext.{apart_moves}
use Rattle.m3_refine.proofs.lists.Update.{links_set, is_link}
use Rattle.m3_refine.proofs.abstraction.PushParcel.{orderly_push}
use Rattle.std.proofs.lemmas.List.{length-set}
use Rattle.m3_base.proofs.Counting.{total-set, how_many-append}

abbrev pub OnEach : (ℕ → ℕ → Parcel → Type 0) → List (List Parcel) → Type 0
OnEach P links = (a b : ℕ) → a < 16 → b < 16 → Each (P a b) (get_or links (16 * a + b) [])

orderly_rest : (q : Parcel) (qs : List Parcel) → YieldsBeforeSaved (q ∷ qs) → YieldsBeforeSaved qs
orderly_rest (Data p) qs o = o
orderly_rest (Save a) qs o = o
orderly_rest (Saved a c w e) qs o = o.1
orderly_rest (Restore a c xs) qs o = o
orderly_rest (Yield a) qs o = o
orderly_rest (Closed g) qs o = o

module _ (links : List (List Parcel)) (f t : ℕ) (hf : f < 16) (ht : t < 16) (len : length links ≡ 256) (q : Parcel) (rest : List Parcel) (g : get_or links (16 * f + t) [] ≡ q ∷ rest) where
  abbrev shorter : List (List Parcel)
  shorter = set links (16 * f + t) rest

  pub pop_length : length shorter ≡ 256
  pop_length = length-set links (16 * f + t) rest ∙ len

  pub pop_front : (P : ℕ → ℕ → Parcel → Type 0) → OnEach P links → P f t q
  pop_front P e = (subst (Each (P f t)) g (e f t hf ht)).0

  pub pop_each : (P : ℕ → ℕ → Parcel → Type 0) → OnEach P links → OnEach P shorter
  pop_each P e a b ha hb =
      links_set links f t rest hf ht len (λ x y qs. Each (P x y) qs) a b hb (e a b ha hb)
      (λ k d. subst (λ x. Each (P x b) rest) k (subst (λ y. Each (P f y) rest) d (subst (Each (P f t)) g (e f t hf ht)).1))

  pub pop_leavings : (a : ℕ) → saves_in_flight a shorter + one (is_save_of a q) ≡ saves_in_flight a links
  pop_leavings a =
      let r = total-set (λ qs. how_many (is_save_of a) qs) links (16 * f + t) rest [] (is_link links f t rest hf ht len) in
      let e : how_many (is_save_of a) (get_or links (16 * f + t) []) ≡ one (is_save_of a q) + how_many (is_save_of a) rest = ap (how_many (is_save_of a)) g in
      omega arith

  pub pop_orderly : ((b : ℕ) → b < 16 → YieldsBeforeSaved (get_or links (16 * b + 0) [])) → (b : ℕ) → b < 16 → YieldsBeforeSaved (get_or shorter (16 * b + 0) [])
  pop_orderly o b hb =
      links_set links f t rest hf ht len (λ x y qs. y ≡ 0 → YieldsBeforeSaved qs) b 0 (omega arith) (λ z. o b hb)
      (λ e d z. orderly_rest q rest (subst YieldsBeforeSaved (subst (λ x. get_or links (16 * x + 0) [] ≡ q ∷ rest) e (subst (λ y. get_or links (16 * f + y) [] ≡ q ∷ rest) d g)) (o b hb))) refl

module _ (links : List (List Parcel)) (t u : ℕ) (ht : t < 16) (hu : u < 16) (len : length links ≡ 256) (q : Parcel) where
  abbrev back : List Parcel
  back = get_or links (16 * t + u) [] ++ q ∷ []

  abbrev longer : List (List Parcel)
  longer = set links (16 * t + u) (get_or links (16 * t + u) [] ++ q ∷ [])

  pub push_length : length longer ≡ 256
  push_length = length-set links (16 * t + u) back ∙ len

  pub push_each : (P : ℕ → ℕ → Parcel → Type 0) → OnEach P links → P t u q → OnEach P longer
  push_each P e k a b ha hb =
      links_set links t u back ht hu len (λ x y qs. Each (P x y) qs) a b hb (e a b ha hb)
      (λ i d. subst (λ x. Each (P x b) back) i (subst (λ y. Each (P t y) back) d (each_append (P t u) (get_or links (16 * t + u) []) (q ∷ []) (e t u ht hu) (k, tt))))

  pub push_leavings : (a : ℕ) → saves_in_flight a longer ≡ saves_in_flight a links + one (is_save_of a q)
  push_leavings a =
      let r = total-set (λ qs. how_many (is_save_of a) qs) links (16 * t + u) back [] (is_link links t u back ht hu len) in
      let e = how_many-append (is_save_of a) (get_or links (16 * t + u) []) (q ∷ []) in
      omega arith

  pub push_orderly : ((a : ℕ) → no_yield a (q ∷ []) ≡ true) → YieldsBeforeSaved (q ∷ []) → ((b : ℕ) → b < 16 → YieldsBeforeSaved (get_or links (16 * b + 0) [])) → (b : ℕ) → b < 16 → YieldsBeforeSaved (get_or longer (16 * b + 0) [])
  push_orderly quiet alone o b hb =
      links_set links t u back ht hu len (λ x y qs. y ≡ 0 → YieldsBeforeSaved qs) b 0 (omega arith) (λ z. o b hb)
      (λ e d z. orderly_push q quiet alone (get_or links (16 * t + u) []) (subst (λ y. YieldsBeforeSaved (get_or links (16 * t + y) [])) (sym d) (o t ht))) refl

  -- the kernel's links are not touched by a tile
  pub push_kernel : 1 ≤ t → (w : ℕ) → w < 16 → get_or longer (16 * 0 + w) [] ≡ get_or links (16 * 0 + w) []
  push_kernel low w hw =
      links_set links t u back ht hu len (λ x y qs. x ≡ 0 → qs ≡ get_or links (16 * 0 + w) []) 0 w hw (λ z. refl) (λ e d z. absurd (omega arith)) refl

-- ---- a context that was at one place and is at another

module _ (c : Context) (base xs ys : List Context) (i : Inserts c base xs) (k : Inserts c base ys) where
  pub moves_each : (P : Context → Type 0) → Each P xs → Each P ys
  moves_each P e =
      let f = subst (Each P) i.whole e in
      let front = each_front P i.front (c ∷ i.back) f in
      let back = each_back P i.front (c ∷ i.back) f in
      let all = subst (Each P) (sym i.without ∙ k.without) (each_append P i.front i.back front back.1) in
      subst (Each P) (sym k.whole) (each_append P k.front (c ∷ k.back) (each_front P k.front k.back all) (back.0, each_back P k.front k.back all))

  known_add : (a : ℕ) (f b : List Context) → IsPresent (context_of a (f ++ c ∷ b)) → (a ≡ c.act) ⊎ IsPresent (context_of a (f ++ b))
  known_add a [] b e = by_test (a == c.act) refl e
    where
      by_test : (z : Bool) → (a == c.act) ≡ z → IsPresent (cond z (Some c) (context_of a b)) → (a ≡ c.act) ⊎ IsPresent (context_of a b)
      by_test true d e = inl (grind (arith, nat_tests, d))
      by_test false d e = inr e
  known_add a (x ∷ f) b e = by_test (a == x.act) e (known_add a f b)
    where
      by_test : (z : Bool) → IsPresent (cond z (Some x) (context_of a (f ++ c ∷ b))) → (IsPresent (context_of a (f ++ c ∷ b)) → (a ≡ c.act) ⊎ IsPresent (context_of a (f ++ b))) → (a ≡ c.act) ⊎ IsPresent (cond z (Some x) (context_of a (f ++ b)))
      by_test true e ih = inr tt
      by_test false e ih = ih e

  known_back : (a : ℕ) (f b : List Context) → (a ≡ c.act) ⊎ IsPresent (context_of a (f ++ b)) → IsPresent (context_of a (f ++ c ∷ b))
  known_back a [] b (inl e) = by_test (a == c.act) (grind (arith, nat_tests, e))
    where
      by_test : (z : Bool) → z ≡ true → IsPresent (cond z (Some c) (context_of a b))
      by_test true k = tt
      by_test false k = absurd (cc)
  known_back a [] b (inr e) = by_test (a == c.act)
    where
      by_test : (z : Bool) → IsPresent (cond z (Some c) (context_of a b))
      by_test true = tt
      by_test false = e
  known_back a (x ∷ f) b (inl e) = by_test (a == x.act) (known_back a f b (inl e))
    where
      by_test : (z : Bool) → IsPresent (context_of a (f ++ c ∷ b)) → IsPresent (cond z (Some x) (context_of a (f ++ c ∷ b)))
      by_test true k = tt
      by_test false k = k
  known_back a (x ∷ f) b (inr e) = by_test (a == x.act) e (λ r. known_back a f b (inr r))
    where
      by_test : (z : Bool) → IsPresent (cond z (Some x) (context_of a (f ++ b))) → (IsPresent (context_of a (f ++ b)) → IsPresent (context_of a (f ++ c ∷ b))) → IsPresent (cond z (Some x) (context_of a (f ++ c ∷ b)))
      by_test true e ih = tt
      by_test false e ih = ih e

  pub moves_known : StaysKnown xs ys
  moves_known a e =
      subst (λ l. IsPresent (context_of a l)) (sym k.whole) (known_back a k.front k.back (by_case (known_add a i.front i.back (subst (λ l. IsPresent (context_of a l)) i.whole e))))
    where
      by_case : (a ≡ c.act) ⊎ IsPresent (context_of a (i.front ++ i.back)) → (a ≡ c.act) ⊎ IsPresent (context_of a (k.front ++ k.back))
      by_case (inl e) = inl e
      by_case (inr e) = inr (subst (λ l. IsPresent (context_of a l)) (sym i.without ∙ k.without) e)

  pub moves_apart : DistinctActs xs → DistinctActs ys
  moves_apart = apart_moves c base xs ys i k
