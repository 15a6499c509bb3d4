-- Where a flying command stands, and where a send grant's endpoint does.
use Rattle.std.specs.Prelude.{◌≡◌, ℕ, ◌<◌, true, false, List, length, slice_get, slice_set, slice_index_or, Option, Some, None}
use Rattle.std.specs.List.{list_any, remove}
use Rattle.m3_base.specs.Ideal.Context.{Flying, SendRecord, Endpoint, Free, Sends}
use Rattle.m3_base.specs.Ideal.Landing.{sends_by, more_at, endpoints_with_credit, flying_at, without_flying}
use Rattle.m3_base.specs.Ideal.Acceptance.{send_of}

-- the command of number n is the one at i
pub record IsFlyingPlace (fs : List Flying) (n i : ℕ) : Type 0 where
  pub within : i < length fs
  pub command : flying_at n fs ≡ slice_get fs i
  pub number : (f : Flying) → slice_get fs i ≡ Some f → f.number ≡ n
  pub removed : without_flying n fs ≡ remove fs i

abbrev pub IsFlyingPlaceOf : List Flying → ℕ → Option ℕ → Type 0
IsFlyingPlaceOf fs n None = flying_at n fs ≡ None
IsFlyingPlaceOf fs n (Some i) = IsFlyingPlace fs n i

abbrev pub send_at : Endpoint → Option SendRecord
send_at (Sends r) = Some r
send_at e = None

-- the endpoint of the send grant g is the one at i
pub record IsSendPlace (es : List Endpoint) (g i : ℕ) : Type 0 where
  pub within : i < length es
  pub there : list_any (sends_by g) es ≡ true
  pub record_ : send_of g es ≡ send_at (slice_index_or es i Free)
  pub given : endpoints_with_credit g es ≡ slice_set es i (more_at (slice_index_or es i Free))

-- what holds where no endpoint has the send grant g
pub record IsNoSend (es : List Endpoint) (g : ℕ) : Type 0 where
  pub nowhere : list_any (sends_by g) es ≡ false
  pub record_ : send_of g es ≡ None
  pub given : endpoints_with_credit g es ≡ es

abbrev pub IsSendPlaceOf : List Endpoint → ℕ → Option ℕ → Type 0
IsSendPlaceOf es g None = IsNoSend es g
IsSendPlaceOf es g (Some i) = IsSendPlace es g i
