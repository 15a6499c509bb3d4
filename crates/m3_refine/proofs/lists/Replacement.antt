-- A seat that changes, among all.
use Rattle.std.proofs.Common.{◌≡◌, Bool, true, false, cond, List, [], ◌∷◌, ◌++◌, Some, None, refl, sym, ◌∙◌, ap, append_assoc}
use Rattle.std.specs.Prelude.{Option}
use Rattle.m3_base.specs.Lists.Keyed.{find, with_replaced}
use Rattle.m3_model.specs.Abstraction.{flat_map}

module _ {K X Y : Type 0} (key : X → K) (same : K → K → Bool) (f : X → List Y) where
  -- the element with x's key, and x in its place
  pub record Replaces (old x : X) (xs : List X) : Type 0 where
    pub front : List Y
    pub back : List Y
    pub here : flat_map f xs ≡ front ++ (f old ++ back)
    pub there : flat_map f (with_replaced key same x xs) ≡ front ++ (f x ++ back)

  replaces_by : (old x y : X) (ys : List X) (b : Bool) → same (key x) (key y) ≡ b → (find key same (key x) ys ≡ Some old → Replaces old x ys)
      → cond b (Some y) (find key same (key x) ys) ≡ Some old → Replaces old x (y ∷ ys)
  replaces_by old x y ys true e ih h =
      record {
        front = [];
        back = flat_map f ys;
        here = ap (λ z. f (or_old z) ++ flat_map f ys) h;
        there = ap (λ b. flat_map f (cond b (x ∷ ys) (y ∷ with_replaced key same x ys))) e;
      }
    where
      or_old : Option X → X
      or_old None = old
      or_old (Some z) = z
  replaces_by old x y ys false e ih h =
      let r = ih h in
      record {
        front = f y ++ r.front;
        back = r.back;
        here = ap (λ l. f y ++ l) r.here ∙ sym (append_assoc (f y) r.front (f old ++ r.back));
        there = ap (λ b. flat_map f (cond b (x ∷ ys) (y ∷ with_replaced key same x ys))) e
            ∙ ap (λ l. f y ++ l) r.there ∙ sym (append_assoc (f y) r.front (f x ++ r.back));
      }

  none_is : (old : X) → None ≡ Some old → ⊥
  none_is old h = cc

  pub around_replaced : (old x : X) (xs : List X) → find key same (key x) xs ≡ Some old → Replaces old x xs
  around_replaced old x [] h = absurd (none_is old h)
  around_replaced old x (y ∷ ys) h = replaces_by old x y ys (same (key x) (key y)) refl (around_replaced old x ys) h
