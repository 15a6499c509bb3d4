-- What an event does to the placement, and what a packet's landing is to it.
use Rattle.std.specs.Prelude.{ℕ, false, List, [], ◌∷◌, Option, Some, None, if◌then◌else◌}
use Rattle.m3_base.specs.declared.ids.FlightId.{FlightId}
use Rattle.m3_base.specs.declared.packet.Packet.{Packet}
use Rattle.m3_base.specs.declared.step.Step.{Step}
use Rattle.m3_base.specs.declared.event.Said.{Said}
use Rattle.m3_base.specs.declared.event.IdleWhy.{IdleWhy}
use Rattle.m3_base.specs.Ideal.Flights.{flight}
use Rattle.m3_base.specs.Ideal.State.{State}
use Rattle.m3_base.specs.Ideal.Step.{Label, Answers, Closes_endpoint, RunResult, ideal_run}
use Rattle.m3_base.specs.Journal.Entry.{said_of}
use Rattle.m3_base.specs.Placement.State.{Closed, Data, Placement, home, with_token}

-- ---- what an event does: its outcome, with the activity that was restored, the ideal steps and the next places
pub record PlacementResult : Type 0 where
  pub said : Said
  pub restore : Option ℕ
  pub state : State
  pub places : Placement

abbrev pub step_outcome : Said → State → Placement → Option PlacementResult
step_outcome said s p = Some (record { said = said; restore = None; state = s; places = p })

abbrev pub idle_outcome : IdleWhy → State → Placement → Option PlacementResult
idle_outcome why s p = step_outcome (Said.Idle why) s p

-- ---- the steps that a flight's packet makes where it lands

abbrev pub closing_steps : List Label → List Step
closing_steps (Closes_endpoint id g ∷ []) = Step.Closed g ∷ []
closing_steps (Answers id answer (Some g) ∷ []) = Step.Closed g ∷ []
closing_steps words = []

abbrev pub labels_in : Option RunResult → List Label
labels_in None = []
labels_in (Some r) = r.words

abbrev pub landing_step : FlightId → Option Packet → Step
landing_step id (Some (Packet.Answer x answer)) = Step.Answered id
landing_step id packet = Step.Land id

-- the first step, and Closed where it says so
abbrev pub landing_steps : State → FlightId → List Step
landing_steps s id =
    let first = landing_step id (flight id s.flights) in
    first ∷ closing_steps (labels_in (ideal_run (first ∷ []) s))

abbrev pub said_or_nothing : Option Said → Said
said_or_nothing None = Said.Nothing
said_or_nothing (Some x) = x

pub record LandingResult : Type 0 where
  pub said : Said
  pub state : State
  -- the answer that arose, if there is one
  pub answer : Option FlightId
  -- the grant whose endpoint became free
  pub freed : Option ℕ

abbrev pub freed_in : List Step → Option ℕ
freed_in (a ∷ Step.Closed g ∷ []) = Some g
freed_in steps = None

abbrev pub name_if_some : FlightId → Option Packet → Option FlightId
name_if_some id None = None
name_if_some id (Some x) = Some id

abbrev pub landing_result_by : State → FlightId → List Step → Option RunResult → Option LandingResult
landing_result_by s id steps None = None
landing_result_by s id steps (Some r) =
    Some (record {
      said = said_or_nothing (said_of false r.words);
      state = r.state;
      answer = name_if_some id (flight id r.state.flights);
      freed = freed_in steps;
    })

abbrev pub landing_result : State → FlightId → Option LandingResult
landing_result s id = landing_result_by s id (landing_steps s id) (ideal_run (landing_steps s id) s)

-- Closed g, from here to the kernel
abbrev pub push_closed : ℕ → Option ℕ → Placement → Placement
push_closed from None p = p
push_closed from (Some g) p = with_token from 0 (Closed g) p

abbrev pub push_answer : ℕ → Option FlightId → Placement → Placement
push_answer from None p = p
push_answer from (Some id) p = with_token from (home id.issuer p) (Data id) p
