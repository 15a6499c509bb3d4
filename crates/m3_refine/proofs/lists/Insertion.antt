-- One element more, wherever it stands; and what a change of one place does to what all places have.
use Rattle.std.proofs.Common.{◌≡◌, ℕ, zero, suc, ◌<◌, List, [], ◌∷◌, ◌++◌, refl, sym, ◌∙◌, ap, arith, append_assoc, set, get_or, length, subst}
use Rattle.m3_model.specs.Abstraction.{flat_map, flat_links}
use Rattle.m3_base.specs.Ideal.Context.{Context}
use Rattle.m3_base.specs.Ideal.State.{context_of}
use Rattle.m3_model.specs.Invariant.Housing.{IsPresent}
use Rattle.m3_base.specs.Lists.EachElement.{Each}
use Rattle.m3_merge.proofs.StampBounds.{each_back}

-- ys is xs with x at some place
pub record Inserts {Y : Type 0} (x : Y) (xs ys : List Y) : Type 0 where
  pub front : List Y
  pub back : List Y
  pub without : xs ≡ front ++ back
  pub whole : ys ≡ front ++ x ∷ back

module _ {Y : Type 0} where
  pub inserts_left : (zs : List Y) (x : Y) (xs ys : List Y) → Inserts x xs ys → Inserts x (zs ++ xs) (zs ++ ys)
  inserts_left zs x xs ys h =
      record {
        front = zs ++ h.front;
        back = h.back;
        without = ap (λ l. zs ++ l) h.without ∙ sym (append_assoc zs h.front h.back);
        whole = ap (λ l. zs ++ l) h.whole ∙ sym (append_assoc zs h.front (x ∷ h.back));
      }

  pub inserts_right : (zs : List Y) (x : Y) (xs ys : List Y) → Inserts x xs ys → Inserts x (xs ++ zs) (ys ++ zs)
  inserts_right zs x xs ys h =
      record {
        front = h.front;
        back = h.back ++ zs;
        without = ap (λ l. l ++ zs) h.without ∙ append_assoc h.front h.back zs;
        whole = ap (λ l. l ++ zs) h.whole ∙ append_assoc h.front (x ∷ h.back) zs;
      }

-- ---- a place among many, by what each has

module _ {X Y : Type 0} (f : X → List Y) where
  pub record Around (whole : List X → List Y) (now : X) (xs : List X) (change : X → List X) : Type 0 where
    pub front : List Y
    pub back : List Y
    pub here : whole xs ≡ front ++ (f now ++ back)
    pub there : (y : X) → whole (change y) ≡ front ++ (f y ++ back)

  pub around_set : (d : X) (xs : List X) (i : ℕ) → i < length xs → Around (flat_map f) (get_or xs i d) xs (λ y. set xs i y)
  around_set d [] i h = absurd (omega arith)
  around_set d (x ∷ xs) zero h = record { front = []; back = flat_map f xs; here = refl; there = λ y. refl }
  around_set d (x ∷ xs) (suc i) h =
      let r = around_set d xs i (omega arith) in
      record {
        front = f x ++ r.front;
        back = r.back;
        here = ap (λ l. f x ++ l) r.here ∙ sym (append_assoc (f x) r.front (f (get_or xs i d) ++ r.back));
        there = λ y. ap (λ l. f x ++ l) (r.there y) ∙ sym (append_assoc (f x) r.front (f y ++ r.back));
      }

  -- a change takes from a place what it has, or puts something there
  pub empties : (whole : List X → List Y) (now : X) (xs : List X) (change : X → List X) (x : Y) (y : X)
      → Around whole now xs change → f now ≡ x ∷ [] → f y ≡ [] → Inserts x (whole (change y)) (whole xs)
  empties whole now xs change x y r e d =
      record {
        front = r.front;
        back = r.back;
        without = r.there y ∙ ap (λ l. r.front ++ (l ++ r.back)) d;
        whole = r.here ∙ ap (λ l. r.front ++ (l ++ r.back)) e;
      }

  pub fills : (whole : List X → List Y) (now : X) (xs : List X) (change : X → List X) (x : Y) (y : X)
      → Around whole now xs change → f now ≡ [] → f y ≡ x ∷ [] → Inserts x (whole xs) (whole (change y))
  fills whole now xs change x y r e d =
      record {
        front = r.front;
        back = r.back;
        without = r.here ∙ ap (λ l. r.front ++ (l ++ r.back)) e;
        whole = r.there y ∙ ap (λ l. r.front ++ (l ++ r.back)) d;
      }

  pub alike : (whole : List X → List Y) (now : X) (xs : List X) (change : X → List X) (y : X)
      → Around whole now xs change → f now ≡ f y → whole (change y) ≡ whole xs
  alike whole now xs change y r e = r.there y ∙ ap (λ l. r.front ++ (l ++ r.back)) (sym e) ∙ sym r.here

-- ---- links

module _ {X Y : Type 0} (f : X → List Y) where
  pub each-append : (xs ys : List X) → flat_map f (xs ++ ys) ≡ flat_map f xs ++ flat_map f ys
  each-append [] ys = refl
  each-append (x ∷ xs) ys = ap (λ l. f x ++ l) (each-append xs ys) ∙ sym (append_assoc (f x) (flat_map f xs) (flat_map f ys))

  pub around_link : (xss : List (List X)) (i : ℕ) → i < length xss → Around (flat_map f) (flat_links f) (get_or xss i []) xss (λ ys. set xss i ys)
  around_link [] i h = absurd (omega arith)
  around_link (xs ∷ xss) zero h = record { front = []; back = flat_links f xss; here = refl; there = λ ys. refl }
  around_link (xs ∷ xss) (suc i) h =
      let r = around_link xss i (omega arith) in
      record {
        front = flat_map f xs ++ r.front;
        back = r.back;
        here = ap (λ l. flat_map f xs ++ l) r.here ∙ sym (append_assoc (flat_map f xs) r.front (flat_map f (get_or xss i []) ++ r.back));
        there = λ ys. ap (λ l. flat_map f xs ++ l) (r.there ys) ∙ sym (append_assoc (flat_map f xs) r.front (flat_map f ys ++ r.back));
      }

  -- what a take does
  pub pop_none : (xss : List (List X)) (i : ℕ) (q : X) (rest : List X) → i < length xss → get_or xss i [] ≡ q ∷ rest → f q ≡ []
      → flat_links f (set xss i rest) ≡ flat_links f xss
  pop_none xss i q rest h g e =
      alike (flat_map f) (flat_links f) (get_or xss i []) xss (λ ys. set xss i ys) rest (around_link xss i h)
      (ap (flat_map f) g ∙ ap (λ l. l ++ flat_map f rest) e)

  pub pop_one : (xss : List (List X)) (i : ℕ) (q : X) (rest : List X) (x : Y) → i < length xss → get_or xss i [] ≡ q ∷ rest → f q ≡ x ∷ []
      → Inserts x (flat_links f (set xss i rest)) (flat_links f xss)
  pop_one xss i q rest x h g e =
      let r = around_link xss i h in
      record {
        front = r.front;
        back = flat_map f rest ++ r.back;
        without = r.there rest;
        whole = r.here ∙ ap (λ l. r.front ++ (flat_map f l ++ r.back)) g ∙ ap (λ l. r.front ++ ((l ++ flat_map f rest) ++ r.back)) e;
      }

  -- what a push does
  pub push_none : (xss : List (List X)) (i : ℕ) (q : X) → i < length xss → f q ≡ []
      → flat_links f (set xss i (get_or xss i [] ++ q ∷ [])) ≡ flat_links f xss
  push_none xss i q h e =
      alike (flat_map f) (flat_links f) (get_or xss i []) xss (λ ys. set xss i ys) (get_or xss i [] ++ q ∷ []) (around_link xss i h)
      (sym (each-append (get_or xss i []) (q ∷ []) ∙ ap (λ l. flat_map f (get_or xss i []) ++ (l ++ [])) e ∙ nil (flat_map f (get_or xss i []))))
    where
      nil : (ys : List Y) → ys ++ [] ≡ ys
      nil [] = refl
      nil (y ∷ ys) = ap (λ l. y ∷ l) (nil ys)

  pub push_one : (xss : List (List X)) (i : ℕ) (q : X) (x : Y) → i < length xss → f q ≡ x ∷ []
      → Inserts x (flat_links f xss) (flat_links f (set xss i (get_or xss i [] ++ q ∷ [])))
  push_one xss i q x h e =
      let r = around_link xss i h in
      let now = flat_map f (get_or xss i []) in
      record {
        front = r.front ++ now;
        back = r.back;
        without = r.here ∙ sym (append_assoc r.front now r.back);
        whole = r.there (get_or xss i [] ++ q ∷ [])
            ∙ ap (λ l. r.front ++ (l ++ r.back)) (each-append (get_or xss i []) (q ∷ []) ∙ ap (λ l. now ++ (l ++ [])) e)
            ∙ ap (λ l. r.front ++ l) (append_assoc now (x ∷ []) r.back)
            ∙ sym (append_assoc r.front now (x ∷ r.back));
      }

-- whoever has a context among the first has one among the second
abbrev pub StaysKnown : List Context → List Context → Type 0
StaysKnown xs ys = (a : ℕ) → IsPresent (context_of a xs) → IsPresent (context_of a ys)

-- what each has, the inserted one has
pub inserted_each : {Y : Type 0} (P : Y → Type 0) (x : Y) (xs ys : List Y) → Inserts x xs ys → Each P ys → P x
inserted_each P x xs ys i e = (each_back P i.front (x ∷ i.back) (subst (Each P) i.whole e)).0
