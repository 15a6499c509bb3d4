-- Commands of an activity.
use Rattle.std.specs.Prelude.{ℕ, Bool, false, not, ◌&&◌, [], ◌∷◌, Option, Some, None, if◌then◌else◌}
use Rattle.m3_base.specs.declared.ids.FlightId.{FlightId}
use Rattle.m3_base.specs.declared.packet.Packet.{Packet}
use Rattle.m3_base.specs.declared.command.Command.{Command}
use Rattle.m3_base.specs.declared.step.Step.{Step}
use Rattle.m3_base.specs.declared.event.IdleWhy.{IdleWhy}
use Rattle.m3_base.specs.Ideal.Flights.{flight}
use Rattle.m3_base.specs.Ideal.Context.{Context}
use Rattle.m3_base.specs.Ideal.Issue.{is_busy, flies_always}
use Rattle.m3_base.specs.Ideal.State.{State, context_of}
use Rattle.m3_base.specs.Ideal.Step.{RunResult, ideal_run}
use Rattle.m3_base.specs.Journal.Entry.{said_of}
use Rattle.m3_base.specs.Placement.State.{Data, Placement, home, is_current, with_token}
use Rattle.m3_base.specs.Placement.Routing.{target, tile_for}
use Rattle.m3_base.specs.Placement.Landing.{PlacementResult, idle_outcome, said_or_nothing, step_outcome}

-- ---- commands

abbrev pub busy_with : Command → Option Context → Bool
busy_with c None = false
busy_with c (Some x) = flies_always c && is_busy x

abbrev pub next_id_of : ℕ → Option Context → FlightId
next_id_of a None = record { issuer = a; number = 0 }
next_id_of a (Some x) = record { issuer = a; number = x.next }

abbrev pub push_new : FlightId → ℕ → Option Packet → Placement → Placement
push_new id from None p = p
push_new id from (Some x) p = with_token from (tile_for (target x) p) (Data id) p

abbrev pub command_by : State → Placement → ℕ → Option RunResult → Option PlacementResult
command_by s p a None = None
command_by s p a (Some r) =
    let id = next_id_of a (context_of a s.contexts) in
    step_outcome (said_or_nothing (said_of false r.words)) r.state (push_new id (home a p) (flight id r.state.flights) p)

abbrev pub command : State → Placement → ℕ → Command → Option PlacementResult
command s p a c =
    if not (is_current a p)
    then idle_outcome IdleWhy.NotCurrent s p
    else (
    if busy_with c (context_of a s.contexts)
    then idle_outcome IdleWhy.Busy s p
    else command_by s p a (ideal_run (Step.Issue a c ∷ []) s)
    )
