-- A flying command by its place, and the endpoint of a send grant by its place.
use Rattle.std.proofs.Common.{◌≡◌, ℕ, zero, suc, ◌<◌, ◌≤◌, Bool, true, false, cond, List, [], ◌∷◌, length, Some, None, refl, sym, subst, ap, ◌∙◌, arith}
use Rattle.std.specs.Prelude.{◌==◌, nat_lt, slice_get, slice_set, slice_index_or, Option, if◌then◌else◌}
use Rattle.std.specs.List.{position, position_or_len, list_any, remove}
use Rattle.std.proofs.lemmas.Bool.Decides.{nat_tests}
use Rattle.m3_base.specs.Ideal.Context.{Flying, Endpoint, Free, Sends, Receives, Reaches}
use Rattle.m3_base.specs.Ideal.Landing.{sends_by, more_at, endpoints_with_credit, flying_at, without_flying}
use Rattle.m3_base.specs.Ideal.Acceptance.{send_of}
use Rattle.m3_base.specs.Ideal.Positions.{IsFlyingPlaceOf, IsNoSend, IsSendPlaceOf, send_at}
use Rattle.std.proofs.lemmas.Option.{slice_get_past}
use Rattle.std.proofs.lemmas.List.{set_past, get_or_past}

-- the place of the first element that passes the test, or the length
abbrev pub place : {X : Type 0} → (X → Bool) → List X → ℕ
place p [] = 0
place p (x ∷ xs) = if p x then 0 else suc (place p xs)

is_position : {X : Type 0} (p : X → Bool) (xs : List X) → position_or_len p xs ≡ place p xs
is_position p [] = refl
is_position p (x ∷ xs) = grind (arith, is_position p xs)

-- what holds of the place, within the list and at its end, holds of the position
pub by_position : {X : Type 0} (p : X → Bool) (xs : List X) (P : Option ℕ → Type 0)
    → (place p xs < length xs → P (Some (place p xs))) → (length xs ≤ place p xs → P None)
    → (r : Option ℕ) → r ≡ position p xs → P r
by_position p xs P found none r e =
    subst P (sym (e ∙ ap (λ n. cond (nat_lt n (length xs)) (Some n) None) (is_position p xs)))
    (by_test (nat_lt (place p xs) (length xs)) refl)
  where
    by_test : (b : Bool) → nat_lt (place p xs) (length xs) ≡ b → P (cond b (Some (place p xs)) None)
    by_test true h = found (grind (arith, nat_tests))
    by_test false h = none (grind (arith, nat_tests))

-- ---- flying commands

abbrev has_number : ℕ → Flying → Bool
has_number n f = f.number == n

command_at : (n : ℕ) (fs : List Flying) → flying_at n fs ≡ slice_get fs (place (has_number n) fs)
command_at n [] = refl
command_at n (f ∷ fs) = grind (arith, command_at n fs)

pub command_number : (n : ℕ) (fs : List Flying) (f : Flying) → flying_at n fs ≡ Some f → f.number ≡ n
command_number n [] f h = absurd cc
command_number n (x ∷ fs) f h = grind (arith, nat_tests, command_number n fs f)

command_removed : (n : ℕ) (fs : List Flying) → without_flying n fs ≡ remove fs (place (has_number n) fs)
command_removed n [] = refl
command_removed n (f ∷ fs) = grind (arith, command_removed n fs)

pub flying_place : (n : ℕ) (fs : List Flying) (r : Option ℕ) → r ≡ position (λ f. f.number == n) fs → IsFlyingPlaceOf fs n r
flying_place n fs =
    by_position (has_number n) fs (IsFlyingPlaceOf fs n)
    (λ h. record { within = h; command = command_at n fs; number = λ f e. command_number n fs f (command_at n fs ∙ e); removed = command_removed n fs })
    (λ h. command_at n fs ∙ slice_get_past fs (place (has_number n) fs) h)

-- ---- send grants

abbrev send_place : ℕ → List Endpoint → ℕ
send_place g es = place (sends_by g) es

send_there : (g : ℕ) (es : List Endpoint) → list_any (sends_by g) es ≡ nat_lt (send_place g es) (length es)
send_there g [] = refl
send_there g (e ∷ es) = grind (arith, nat_tests, send_there g es)

send_record : (g : ℕ) (es : List Endpoint) → send_of g es ≡ send_at (slice_index_or es (send_place g es) Free)
send_record g [] = refl
send_record g (Sends r ∷ es) = grind (arith, send_record g es)
send_record g (Free ∷ es) = grind (arith, send_record g es)
send_record g (Receives r ∷ es) = grind (arith, send_record g es)
send_record g (Reaches r ∷ es) = grind (arith, send_record g es)

send_credited : (g : ℕ) (es : List Endpoint) → endpoints_with_credit g es ≡ slice_set es (send_place g es) (more_at (slice_index_or es (send_place g es) Free))
send_credited g [] = refl
send_credited g (e ∷ es) = grind (arith, send_credited g es)

no_send : (g : ℕ) (es : List Endpoint) → length es ≤ send_place g es → IsNoSend es g
no_send g es h =
    record {
      nowhere = send_there g es ∙ grind (arith, nat_tests);
      record_ = send_record g es ∙ ap send_at (get_or_past es (send_place g es) Free h);
      given = send_credited g es ∙ set_past es (send_place g es) (more_at (slice_index_or es (send_place g es) Free)) h;
    }

pub is_send_place : (g : ℕ) (es : List Endpoint) (r : Option ℕ) → r ≡ position (sends_by g) es → IsSendPlaceOf es g r
is_send_place g es =
    by_position (sends_by g) es (IsSendPlaceOf es g)
    (λ h. record { within = h; there = send_there g es ∙ grind (arith, nat_tests); record_ = send_record g es; given = send_credited g es })
    (no_send g es)
