-- Names of flights as text.
use Rattle.std.specs.Prelude.{ℕ, List, ◌++◌, ◌==◌, codes, decimal, if◌then◌else◌}
use Rattle.m3_base.specs.declared.ids.FlightId.{FlightId}
use Rattle.m3_base.specs.Ideal.Flights.{kernel}

-- `k` for the kernel
abbrev pub issuer_text : ℕ → List ℕ
issuer_text issuer = if issuer == kernel then codes "k" else decimal issuer

-- the issuer, a point and the number
abbrev pub flight_text : FlightId → List ℕ
flight_text id = issuer_text id.issuer ++ (codes "." ++ decimal id.number)
