-- The set of the links that have a parcel stays right as links change, and its least place is the least link.
use Rattle.std.proofs.Common.{◌≡◌, ℕ, ◌<◌, ◌≤◌, Bool, true, false, not, ◌&&◌, ◌||◌, List, [], ◌∷◌, ◌++◌, drop, length, set, get_or, replicate, None, Some, refl, sym, ap, ◌∙◌, arith, ⊎_elim}
use Rattle.std.specs.Prelude.{if◌then◌else◌, ◌==◌}
use Rattle.std.proofs.lemmas.List.{get_or-set_same, get_or-set_other, get_or-replicate}
use Rattle.std.proofs.lemmas.Bool.{cases_lt, false≢true}
use Rattle.std.proofs.lemmas.Bool.Decides.{nat_tests}
use Rattle.m3_bit_set.specs.BitSet.{has_place, IsFirst}
use Rattle.m3_core.specs.declared.parcel.Parcel.{Parcel}
use Rattle.m3_link.specs.LinkOps.{place, list_at, is_nil, has_parcel, IsLeastTo, IsLeastLink}
use Rattle.m3_link.specs.LinksView.{IsOccupancy}

-- a link with one more at its back isn't empty
pub some_pushed : (ps : List Parcel) (p : Parcel) → is_nil (ps ++ p ∷ []) ≡ false
some_pushed [] p = refl
some_pushed (x ∷ ps) p = refl

pub nil_length : (ps : List Parcel) → (length ps == 0) ≡ is_nil ps
nil_length [] = refl
nil_length (p ∷ ps) = grind (arith, nat_tests)

-- with one fewer, it wasn't
pub some_popped : (ps : List Parcel) → is_nil (drop 1 ps) ≡ false → is_nil ps ≡ false
some_popped [] e = e
some_popped (x ∷ ps) e = refl

-- all links are empty
pub none_occupied : (bits : List ℕ) → ((i : ℕ) → has_place bits i ≡ false) → IsOccupancy (replicate 256 []) bits
none_occupied bits none =
    record {
      links = λ f t lf lt. none (place t f) ∙ ap (λ (ps : List Parcel). not (is_nil ps)) (sym (get_or-replicate 256 (place f t) [] [] (omega (arith, lf, lt))));
      few = λ i h. none i;
    }

module _ (lists : List (List Parcel)) (old new : List ℕ) (from to : ℕ) (low_f : from < 16) (low_t : to < 16) (all : length lists ≡ 256) (was : IsOccupancy lists old) where
  -- one link changes
  occupied_set : (ps : List Parcel) → ((i : ℕ) → has_place new i ≡ (if i == place to from then not (is_nil ps) else has_place old i)) → IsOccupancy (set lists (place from to) ps) new
  occupied_set ps e =
      record {
        links = λ f t lf lt. e (place t f) ∙ by_place f t lf lt (place t f == place to from) refl;
        few = λ i h. e i ∙ past i h (i == place to from) refl;
      }
    where
      by_place : (f t : ℕ) → f < 16 → t < 16 → (b : Bool) → (place t f == place to from) ≡ b → (if b then not (is_nil ps) else has_place old (place t f)) ≡ has_parcel (set lists (place from to) ps) f t
      by_place f t lf lt true w =
          let p : place t f ≡ place to from = grind (arith, nat_tests, w) in
          let q : place f t ≡ place from to = omega (arith, p, lf, lt, low_f, low_t) in
          sym (ap (λ k. not (is_nil (get_or (set lists (place from to) ps) k []))) q ∙ ap (λ (xs : List Parcel). not (is_nil xs)) (get_or-set_same lists (place from to) ps [] (omega (arith, all, low_f, low_t))))
      by_place f t lf lt false w =
          let p : place t f ≡ place to from → ⊥ = grind (arith, nat_tests, w) in
          let q : place f t ≡ place from to → ⊥ = λ z. p (omega (arith, z, lf, lt, low_f, low_t)) in
          was.links f t lf lt ∙ sym (ap (λ (xs : List Parcel). not (is_nil xs)) (get_or-set_other lists (place from to) (place f t) ps [] q))

      past : (i : ℕ) → 256 ≤ i → (b : Bool) → (i == place to from) ≡ b → (if b then not (is_nil ps) else has_place old i) ≡ false
      past i h true w = let p : i ≡ place to from = grind (arith, nat_tests, w) in absurd (omega (arith, p, h, low_f, low_t))
      past i h false w = was.few i h

  -- a parcel joins it
  pub occupied_more : (ps : List Parcel) → is_nil ps ≡ false → ((i : ℕ) → has_place new i ≡ (i == place to from || has_place old i)) → IsOccupancy (set lists (place from to) ps) new
  occupied_more ps some e = occupied_set ps (λ i. e i ∙ by_place i (i == place to from))
    where
      by_place : (i : ℕ) (b : Bool) → (b || has_place old i) ≡ (if b then not (is_nil ps) else has_place old i)
      by_place i true = sym (ap not some)
      by_place i false = refl

  -- one leaves it, or it was empty
  pub occupied_less : (ps : List Parcel) (empty : Bool) → empty ≡ is_nil ps → (is_nil ps ≡ false → is_nil (list_at lists (place from to)) ≡ false) → ((i : ℕ) → has_place new i ≡ (not (empty && (i == place to from)) && has_place old i)) → IsOccupancy (set lists (place from to) ps) new
  occupied_less ps true is before e = occupied_set ps (λ i. e i ∙ by_place i (i == place to from))
    where
      by_place : (i : ℕ) (b : Bool) → (not b && has_place old i) ≡ (if b then not (is_nil ps) else has_place old i)
      by_place i true = ap not is
      by_place i false = refl
  occupied_less ps false is before e = occupied_set ps (λ i. e i ∙ by_place i (i == place to from) refl)
    where
      by_place : (i : ℕ) (b : Bool) → (i == place to from) ≡ b → has_place old i ≡ (if b then not (is_nil ps) else has_place old i)
      by_place i true w =
          let p : i ≡ place to from = grind (arith, nat_tests, w) in
          ap (has_place old) p ∙ was.links from to low_f low_t ∙ ap not (before (sym is) ∙ is)
      by_place i false w = refl

-- ---- the least

module _ (lists : List (List Parcel)) (bits : List ℕ) (whole : IsOccupancy lists bits) where
  pub all_empty : IsFirst (has_place bits) None → IsLeastLink lists None
  all_empty none f t lf lt = sym (whole.links f t lf lt) ∙ none (place t f)

  pub first_low : (k : ℕ) → IsFirst (has_place bits) (Some k) → k < 256
  first_low k first =
      ⊎_elim (λ (low : k < 256). low) (λ (past : 256 ≤ k). absurd (false≢true (sym (whole.few k past) ∙ first.0))) (cases_lt k 256)

  pub least_link : (k to from : ℕ) → to < 16 → from < 16 → k ≡ place to from → IsFirst (has_place bits) (Some k) → IsLeastTo lists to from
  least_link k to from lt lf e first =
      record {
        to_low = lt;
        from_low = lf;
        some = sym (whole.links from to lf lt) ∙ ap (has_place bits) (sym e) ∙ first.0;
        least = λ f t low before. sym (whole.links f t low (omega (arith, before, low, lt, lf))) ∙ first.1 (place t f) (omega (arith, before, e));
      }
