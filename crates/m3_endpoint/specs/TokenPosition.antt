-- Where the fetched message of a token stands.
use Rattle.std.specs.Prelude.{◌≡◌, ℕ, ◌<◌, Bool, List, length, slice_get, slice_set, slice_index_or, Option, Some, None}
use Rattle.std.specs.List.{remove}
use Rattle.m3_base.specs.Ideal.Context.{Fetched}
use Rattle.m3_base.specs.Ideal.ReceiveRecord.{fetched_at, without_token, with_mark}

-- the message of token t is the one at i
pub record IsPlace (fs : List Fetched) (t i : ℕ) : Type 0 where
  pub within : i < length fs
  pub message : fetched_at t fs ≡ slice_get fs i
  pub removed : without_token t fs ≡ remove fs i
  pub changed : (b : Bool) (d : Fetched) → with_mark b t fs ≡ slice_set fs i (record (slice_index_or fs i d) { marked = b })

-- there, or nowhere; then nothing is removed or changed
abbrev pub IsPlaceOf : List Fetched → ℕ → Option ℕ → Type 0
IsPlaceOf fs t None = (fetched_at t fs ≡ None) × (without_token t fs ≡ fs) × ((b : Bool) → with_mark b t fs ≡ fs)
IsPlaceOf fs t (Some i) = IsPlace fs t i
