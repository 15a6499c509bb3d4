-- Words as flights' names: the issuer, `k` for the kernel, a point and the number.
use Rattle.std.specs.Prelude.{ℕ, ◌+◌, ◌==◌, if◌then◌else◌, List, codes, take, drop, position, Option, Some, None, Result, Ok, Err}
use Rattle.std.specs.Str.{bytes_eq}
use Rattle.m3_base.specs.declared.ids.FlightId.{FlightId}
use Rattle.m3_base.specs.Ideal.Flights.{kernel}
use Rattle.m3_text.specs.declared.refusal.Why.{Why}
use Rattle.m3_text.specs.declared.refusal.Why.TheVariants as why
use Rattle.m3_text.specs.Number.{number}
use Rattle.m3_text.specs.Refusable.{◌>>=◌}

unfoldable pub issuer_of : List ℕ → Result ℕ Why
issuer_of w = if bytes_eq w (codes "k") then Ok kernel else number 0 63 w

-- the name whose point, if it has one, is at this place
unfoldable pub name_at : List ℕ → Option ℕ → Result FlightId Why
name_at w None = Err why.Form
name_at w (Some at) = do
  issuer ← issuer_of (take at w)
  n ← number 1 4294967295 (drop (at + 1) w)
  Ok (record { issuer = issuer; number = n })

-- a word without a point fits no form
abbrev pub flight_of : List ℕ → Result FlightId Why
flight_of w = name_at w (position (λ b. b == 46) w)
