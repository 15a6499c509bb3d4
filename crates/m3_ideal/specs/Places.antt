-- Where a flying command stands, a fetched message, and the endpoint of a send grant.
use Rattle.std.specs.Prelude.{◌≡◌, ℕ, ◌<◌, Bool, List, length, slice_get, slice_set, slice_index_or, Option, Some, None}
use Rattle.std.specs.List.{remove}
use Rattle.m3_base.specs.Ideal.Context.{Fetched}
use Rattle.m3_base.specs.Ideal.ReceiveRecord.{fetched_at, without_token, with_mark}

-- the message of token t is the one at i
pub record IsTokenPlace (fs : List Fetched) (t i : ℕ) : Type 0 where
  pub within : i < length fs
  pub message : fetched_at t fs ≡ slice_get fs i
  pub removed : without_token t fs ≡ remove fs i
  pub changed : (b : Bool) (d : Fetched) → with_mark b t fs ≡ slice_set fs i (record (slice_index_or fs i d) { marked = b })

pub record IsNoToken (fs : List Fetched) (t : ℕ) : Type 0 where
  pub message : fetched_at t fs ≡ None
  pub removed : without_token t fs ≡ fs
  pub changed : (b : Bool) → with_mark b t fs ≡ fs

abbrev pub IsTokenPlaceOf : List Fetched → ℕ → Option ℕ → Type 0
IsTokenPlaceOf fs t None = IsNoToken fs t
IsTokenPlaceOf fs t (Some i) = IsTokenPlace fs t i
