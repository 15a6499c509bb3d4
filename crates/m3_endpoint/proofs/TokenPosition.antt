-- The fetched message of a token, by its place.
use Rattle.std.proofs.Common.{◌≡◌, ℕ, suc, ◌<◌, ◌≤◌, Bool, true, false, cond, List, [], ◌∷◌, length, Some, None, refl, sym, subst, ap, arith}
use Rattle.std.specs.Prelude.{◌==◌, nat_lt, slice_get, slice_set, slice_index_or, Option, if◌then◌else◌}
use Rattle.std.specs.List.{position, position_or_len, remove}
use Rattle.std.proofs.lemmas.Bool.Decides.{nat_tests}
use Rattle.m3_base.specs.Ideal.Context.{Fetched}
use Rattle.m3_base.specs.Ideal.ReceiveRecord.{fetched_at, without_token, with_mark}
use Rattle.m3_endpoint.specs.TokenPosition.{IsPlace, IsPlaceOf}

abbrev place : ℕ → List Fetched → ℕ
place t [] = 0
place t (f ∷ fs) = if f.token == t then 0 else suc (place t fs)

is_position : (t : ℕ) (fs : List Fetched) → position_or_len (λ f. f.token == t) fs ≡ place t fs
is_position t [] = refl
is_position t (f ∷ fs) = grind (arith, is_position t fs)

is_message : (t : ℕ) (fs : List Fetched) → fetched_at t fs ≡ slice_get fs (place t fs)
is_message t [] = refl
is_message t (f ∷ fs) = grind (arith, is_message t fs)

is_removed : (t : ℕ) (fs : List Fetched) → without_token t fs ≡ remove fs (place t fs)
is_removed t [] = refl
is_removed t (f ∷ fs) = grind (arith, is_removed t fs)

is_changed : (t : ℕ) (fs : List Fetched) (b : Bool) (d : Fetched) → with_mark b t fs ≡ slice_set fs (place t fs) (record (slice_index_or fs (place t fs) d) { marked = b })
is_changed t [] b d = refl
is_changed t (f ∷ fs) b d = grind (arith, is_changed t fs b d)

nowhere : (t : ℕ) (fs : List Fetched) → length fs ≤ place t fs → IsPlaceOf fs t None
nowhere t [] h = (refl, refl, λ b. refl)
nowhere t (f ∷ fs) h = by_test (f.token == t) h (nowhere t fs)
  where
    by_test : (b : Bool) → length (f ∷ fs) ≤ (if b then 0 else suc (place t fs)) → (length fs ≤ place t fs → IsPlaceOf fs t None)
        → ((if b then Some f else fetched_at t fs) ≡ None)
        × ((if b then fs else f ∷ without_token t fs) ≡ f ∷ fs)
        × ((c : Bool) → (if b then record f { marked = c } ∷ fs else f ∷ with_mark c t fs) ≡ f ∷ fs)
    by_test true g more = absurd (omega arith)
    by_test false g more =
        let r = more (omega arith) in
        (r.0, ap (λ z. f ∷ z) r.1, λ c. ap (λ z. f ∷ z) (r.2 c))

at_place : (t : ℕ) (fs : List Fetched) → place t fs < length fs → IsPlace fs t (place t fs)
at_place t fs h = record { within = h; message = is_message t fs; removed = is_removed t fs; changed = is_changed t fs }

by_length : (t : ℕ) (fs : List Fetched) (b : Bool) → nat_lt (place t fs) (length fs) ≡ b → IsPlaceOf fs t (cond b (Some (place t fs)) None)
by_length t fs true h = at_place t fs (grind (arith, nat_tests))
by_length t fs false h = nowhere t fs (grind (arith, nat_tests))

by_place : (t : ℕ) (fs : List Fetched) (n : ℕ) → place t fs ≡ n → IsPlaceOf fs t (cond (nat_lt n (length fs)) (Some n) None)
by_place t fs n e = subst (λ k. IsPlaceOf fs t (cond (nat_lt k (length fs)) (Some k) None)) e (by_length t fs (nat_lt (place t fs) (length fs)) refl)

pub is_place : (t : ℕ) (fs : List Fetched) (r : Option ℕ) → r ≡ position (λ f. f.token == t) fs → IsPlaceOf fs t r
is_place t fs r h =
    subst (λ x. IsPlaceOf fs t x) (sym h) (by_place t fs (position_or_len (λ f. f.token == t) fs) (sym (is_position t fs)))
