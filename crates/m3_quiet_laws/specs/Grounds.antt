-- What of the facts under the sum the ideal machine's own invariant gives.
use Rattle.std.specs.Prelude.{◌≡◌, ℕ, Some, None}
use Rattle.m3_base.specs.Ideal.Flights.{flight}
use Rattle.m3_base.specs.Ideal.Context.{Context}
use Rattle.m3_base.specs.Ideal.Issue.{next_id}
use Rattle.m3_base.specs.Ideal.GrantRules.{kernel_id}
use Rattle.m3_base.specs.Ideal.State.{State, context_of}
use Rattle.m3_base.specs.Ideal.FlightNames.{Distinct}
use Rattle.m3_laws.specs.Invariant.{Invariant}
use Rattle.m3_quiet.specs.Facts.{RecordsHeld, RecordsStand}

pub record Grounds (s : State) : Type 0 where
  pub flights : Distinct s.flights
  pub fresh :
      (a : ℕ) (c : Context)
      → context_of a s.contexts ≡ Some c
      → flight (next_id c) s.flights ≡ None
  pub fresh_kernel : flight (kernel_id s) s.flights ≡ None
  pub holders : RecordsHeld s
  pub records : RecordsStand s

abbrev pub LawsGround : Type 0
LawsGround = (s : State) → Invariant s → Grounds s
