-- Counts over endpoints, contexts and flights.
use Rattle.std.proofs.Common.{◌≡◌, ℕ, zero, suc, ◌+◌, ◌<◌, ◌≤◌, Bool, true, false, List, [], ◌∷◌, length, get_or, set, Some, None, refl, sym, subst, ◌∙◌, ap, arith, inl, inr}
use Rattle.std.specs.Prelude.{Option, ◌==◌, ◌&&◌, map, ◌⊎◌}
use Rattle.m3_base.specs.declared.packet.Fresh.{Fresh}
use Rattle.m3_base.specs.Lists.Counting.{total, one, how_many}
use Rattle.m3_base.specs.Lists.Keyed.{find}
use Rattle.m3_base.specs.Ideal.Context.{Endpoint, Free, Sends, Receives, Reaches, Context, endpoint}
use Rattle.m3_base.specs.Ideal.Landing.{has_closing, is_record_of}
use Rattle.m3_base.specs.Ideal.Step.{number_of}
use Rattle.m3_laws.specs.GrantInvariant.{form_of, fixed_part}
use Rattle.std.proofs.lemmas.List.{length-map, length-set}

pub how_many-set : {X : Type 0} (p : X → Bool) (xs : List X) (i : ℕ) (y d : X) → i < length xs → how_many p (set xs i y) + one (p (get_or xs i d)) ≡ how_many p xs + one (p y)
how_many-set p [] i y d h = absurd (omega arith)
how_many-set p (x ∷ xs) zero y d h = omega arith
how_many-set p (x ∷ xs) (suc i) y d h = omega (arith, how_many-set p xs i y d (omega arith))

pub some_at : (p : Endpoint → Bool) (es : List Endpoint) (i : ℕ) → p Free ≡ false → p (get_or es i Free) ≡ true → (1 ≤ how_many p es) × (i < length es)
some_at p [] i f h = absurd (cc)
some_at p (e ∷ es) zero f h = (grind (arith, h), omega arith)
some_at p (e ∷ es) (suc i) f h = let z = some_at p es i f h in (omega (arith, z.0), omega (arith, z.1))

pub some_found : {K X : Type 0} (key : X → K) (same : K → K → Bool) (f : X → ℕ) (k : K) (x : X) (xs : List X) → find key same k xs ≡ Some x → f x ≤ total f xs
some_found key same f k x [] h = absurd (cc)
some_found key same f k x (y ∷ xs) h = by_key (same k (key y)) refl (some_found key same f k x xs)
  where
    by_key : (b : Bool) → same k (key y) ≡ b → (find key same k xs ≡ Some x → f x ≤ total f xs) → f x ≤ total f (y ∷ xs)
    by_key true w ih = let q : y ≡ x = grind (arith, w, h) in subst (λ z. f z ≤ total f (y ∷ xs)) q (omega arith)
    by_key false w ih = let z = ih (grind (arith, w, h)) in omega (arith, z)

pub one_found : {K X : Type 0} (key : X → K) (same : K → K → Bool) (p : X → Bool) (k : K) (x : X) (xs : List X) → find key same k xs ≡ Some x → p x ≡ true → 1 ≤ how_many p xs
one_found key same p k x [] h t = absurd (cc)
one_found key same p k x (y ∷ xs) h t = by_key (same k (key y)) refl (one_found key same p k x xs)
  where
    by_key : (b : Bool) → same k (key y) ≡ b → (find key same k xs ≡ Some x → p x ≡ true → 1 ≤ how_many p xs) → 1 ≤ how_many p (y ∷ xs)
    by_key true w ih = let q : y ≡ x = grind (arith, w, h) in let r : p y ≡ true = ap p q ∙ t in grind (arith, r)
    by_key false w ih = let z = ih (grind (arith, w, h)) t in omega (arith, z)

-- ---- fixed parts

pub face_at : (es : List Endpoint) (i : ℕ) → get_or (map fixed_part es) i (None, false) ≡ fixed_part (get_or es i Free)
face_at [] i = refl
face_at (e ∷ es) zero = refl
face_at (e ∷ es) (suc i) = face_at es i

-- two contexts with the same records, up to what commands change
pub record SameFixedParts (c d : Context) : Type 0 where
  pub act : d.act ≡ c.act
  pub faces : map fixed_part d.endpoints ≡ map fixed_part c.endpoints

pub same_fixed_parts : (c : Context) → SameFixedParts c c
same_fixed_parts c = record { act = refl; faces = refl }

pub faces_then : (c d e : Context) → SameFixedParts c d → SameFixedParts d e → SameFixedParts c e
faces_then c d e x y = record { act = y.act ∙ x.act; faces = y.faces ∙ x.faces }

pub faces_set : (es : List Endpoint) (ep : ℕ) (e : Endpoint) → fixed_part e ≡ fixed_part (get_or es ep Free) → map fixed_part (set es ep e) ≡ map fixed_part es
faces_set [] ep e h = refl
faces_set (x ∷ es) zero e h = ap (λ z. z ∷ map fixed_part es) h
faces_set (x ∷ es) (suc ep) e h = ap (λ z. fixed_part x ∷ z) (faces_set es ep e h)

pub same_face : (c d : Context) (ep : ℕ) → SameFixedParts c d → fixed_part (endpoint d ep) ≡ fixed_part (endpoint c ep)
same_face c d ep s = sym (face_at d.endpoints ep) ∙ ap (λ z. get_or z ep (None, false)) s.faces ∙ face_at c.endpoints ep

pub same_form : (c d : Context) (ep : ℕ) → SameFixedParts c d → form_of (endpoint d ep) ≡ form_of (endpoint c ep)
same_form c d ep s = ap (λ z. z.0) (same_face c d ep s)

-- tests of an endpoint that see its fixed part alone
abbrev pub at_face : ℕ → Option Fresh × Bool → Bool
at_face g (None, b) = false
at_face g (Some f, b) = number_of f == g

abbrev pub closing_face : ℕ → Option Fresh × Bool → Bool
closing_face g (None, b) = false
closing_face g (Some f, b) = (number_of f == g) && b

pub is_at-face : (g : ℕ) (e : Endpoint) → is_record_of g e ≡ at_face g (fixed_part e)
is_at-face g Free = refl
is_at-face g (Sends r) = refl
is_at-face g (Receives r) = refl
is_at-face g (Reaches r) = refl

pub closing-face : (g : ℕ) (e : Endpoint) → has_closing g e ≡ closing_face g (fixed_part e)
closing-face g Free = refl
closing-face g (Sends r) = refl
closing-face g (Receives r) = refl
closing-face g (Reaches r) = refl

many-map : {X Y : Type 0} (p : X → Bool) (q : Y → Bool) (f : X → Y) → ((x : X) → p x ≡ q (f x)) → (xs : List X) → how_many p xs ≡ how_many q (map f xs)
many-map p q f h [] = refl
many-map p q f h (x ∷ xs) = let z = h x in grind (arith, z, many-map p q f h xs)

pub same_at : (g : ℕ) (c d : Context) → SameFixedParts c d → how_many (is_record_of g) d.endpoints ≡ how_many (is_record_of g) c.endpoints
same_at g c d s = many-map (is_record_of g) (at_face g) fixed_part (is_at-face g) d.endpoints ∙ ap (how_many (at_face g)) s.faces ∙ sym (many-map (is_record_of g) (at_face g) fixed_part (is_at-face g) c.endpoints)

pub same_closing : (g : ℕ) (c d : Context) → SameFixedParts c d → how_many (has_closing g) d.endpoints ≡ how_many (has_closing g) c.endpoints
same_closing g c d s = many-map (has_closing g) (closing_face g) fixed_part (closing-face g) d.endpoints ∙ ap (how_many (closing_face g)) s.faces ∙ sym (many-map (has_closing g) (closing_face g) fixed_part (closing-face g) c.endpoints)

pub same_cells : (c d : Context) → SameFixedParts c d → length d.endpoints ≡ length c.endpoints
same_cells c d s = sym (length-map d.endpoints fixed_part) ∙ ap length s.faces ∙ length-map c.endpoints fixed_part

-- ---- look-ups of an endpoint after a change of one

pub at_set : (es : List Endpoint) (ep i : ℕ) (e : Endpoint) → (get_or (set es ep e) i Free ≡ get_or es i Free) ⊎ ((i ≡ ep) × (get_or (set es ep e) i Free ≡ e))
at_set [] ep i e = inl refl
at_set (x ∷ es) zero zero e = inr (refl, refl)
at_set (x ∷ es) zero (suc i) e = inl refl
at_set (x ∷ es) (suc ep) zero e = inl refl
at_set (x ∷ es) (suc ep) (suc i) e = up (at_set es ep i e)
  where
    up : (get_or (set es ep e) i Free ≡ get_or es i Free) ⊎ ((i ≡ ep) × (get_or (set es ep e) i Free ≡ e)) → (get_or (set es ep e) i Free ≡ get_or es i Free) ⊎ ((suc i ≡ suc ep) × (get_or (set es ep e) i Free ≡ e))
    up (inl z) = inl z
    up (inr z) = inr (ap suc z.0, z.1)
