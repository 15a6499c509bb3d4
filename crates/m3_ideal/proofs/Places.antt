-- The first element that passes a test, by its place.
use Rattle.std.proofs.Common.{◌≡◌, ℕ, suc, ◌≤◌, Bool, true, false, List, [], ◌∷◌, length, refl, ap, ◌∙◌, arith}
use Rattle.std.specs.Prelude.{◌==◌, slice_get, slice_set, slice_index_or, Option, if◌then◌else◌}
use Rattle.std.specs.List.{position, remove}
use Rattle.m3_base.specs.Ideal.Context.{Fetched}
use Rattle.m3_base.specs.Ideal.ReceiveRecord.{fetched_at, without_token, with_mark}
use Rattle.m3_ideal.specs.Places.{IsTokenPlaceOf, IsNoToken}
use Rattle.m3_base.proofs.Positions.{place, by_position}
use Rattle.std.proofs.lemmas.Option.{slice_get_past}
use Rattle.std.proofs.lemmas.List.{set_past}

-- ---- flying commands

-- ---- fetched messages

abbrev is_token : ℕ → Fetched → Bool
is_token t f = f.token == t

message_at : (t : ℕ) (fs : List Fetched) → fetched_at t fs ≡ slice_get fs (place (is_token t) fs)
message_at t [] = refl
message_at t (f ∷ fs) = grind (arith, message_at t fs)

message_removed : (t : ℕ) (fs : List Fetched) → without_token t fs ≡ remove fs (place (is_token t) fs)
message_removed t [] = refl
message_removed t (f ∷ fs) = grind (arith, message_removed t fs)

message_marked : (t : ℕ) (fs : List Fetched) (b : Bool) (d : Fetched) → with_mark b t fs ≡ slice_set fs (place (is_token t) fs) (record (slice_index_or fs (place (is_token t) fs) d) { marked = b })
message_marked t [] b d = refl
message_marked t (f ∷ fs) b d = grind (arith, message_marked t fs b d)

no_mark : (t : ℕ) (fs : List Fetched) (b : Bool) → length fs ≤ place (is_token t) fs → with_mark b t fs ≡ fs
no_mark t [] b h = refl
no_mark t (f ∷ fs) b h = message_marked t (f ∷ fs) b f ∙ set_past (f ∷ fs) (place (is_token t) (f ∷ fs)) _ h

no_removed : (t : ℕ) (fs : List Fetched) → length fs ≤ place (is_token t) fs → without_token t fs ≡ fs
no_removed t [] h = refl
no_removed t (f ∷ fs) h = by_test (f.token == t) h (no_removed t fs)
  where
    by_test : (b : Bool) → length (f ∷ fs) ≤ (if b then 0 else suc (place (is_token t) fs)) → (length fs ≤ place (is_token t) fs → without_token t fs ≡ fs)
        → (if b then fs else f ∷ without_token t fs) ≡ f ∷ fs
    by_test true g more = absurd (omega arith)
    by_test false g more = ap (λ z. f ∷ z) (more (omega arith))

no_token : (t : ℕ) (fs : List Fetched) → length fs ≤ place (is_token t) fs → IsNoToken fs t
no_token t fs h =
    record {
      message = message_at t fs ∙ slice_get_past fs (place (is_token t) fs) h;
      removed = no_removed t fs h;
      changed = λ b. no_mark t fs b h;
    }

pub token_place : (t : ℕ) (fs : List Fetched) (r : Option ℕ) → r ≡ position (λ f. f.token == t) fs → IsTokenPlaceOf fs t r
token_place t fs =
    by_position (is_token t) fs (IsTokenPlaceOf fs t)
    (λ h. record { within = h; message = message_at t fs; removed = message_removed t fs; changed = message_marked t fs })
    (no_token t fs)

-- ---- send grants
