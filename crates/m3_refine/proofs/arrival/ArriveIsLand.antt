-- What arrives at a context is what comes in the ideal state.
use Rattle.std.proofs.Common.{◌≡◌, ℕ, Bool, true, false, List, [], ◌∷◌, Some, None, refl, ◌∙◌, ap}
use Rattle.std.specs.Prelude.{Option, if◌then◌else◌}
use Rattle.m3_base.specs.declared.ids.FlightId.{FlightId}
use Rattle.m3_base.specs.declared.message.Message.{Message}
use Rattle.m3_base.specs.declared.command.Answer.{Answer}
use Rattle.m3_base.specs.declared.packet.Packet.{Packet}
use Rattle.m3_base.specs.declared.command.Refusal.{Refusal}
use Rattle.m3_base.specs.declared.packet.Fresh.{Fresh}
use Rattle.m3_base.specs.declared.event.Said.{Said}
use Rattle.m3_base.specs.declared.step.Step.{Step}
use Rattle.m3_base.specs.Ideal.Flights.{name_of, flight, change_flight, end_flight}
use Rattle.m3_base.specs.Ideal.Context.{Context, Flying, with_endpoint, new_endpoint}
use Rattle.m3_base.specs.Ideal.Landing.{land, has_send, with_credit, flying_at, context_after_answer, freed_grant}
use Rattle.m3_base.specs.Ideal.State.{State, context_of, put_context}
use Rattle.m3_base.specs.Ideal.Step.{Label, Credits, Discards, Installs, ideal_run, on_from, land_in, message_in, credit_in, install_in, landing_word, number_of, Answers, Frees, answered_in, answer_in, settle_in, step_to}
use Rattle.m3_base.specs.Journal.Entry.{said_of}
use Rattle.m3_base.specs.Placement.Landing.{LandingResult, landing_result, landing_result_by, closing_steps, labels_in, landing_step, said_or_nothing, name_if_some}
use Rattle.m3_base.specs.Ideal.Arrival.{landed_said}

-- one step alone, which frees no endpoint
pub came_one : (s : State) (id : FlightId) (first : Step) (w : Label) (n : State)
    → landing_step id (flight id s.flights) ≡ first
    → ideal_run (first ∷ []) s ≡ Some (record { words = w ∷ []; state = n })
    → closing_steps (w ∷ []) ≡ []
    → landing_result s id ≡ Some (record { said = said_or_nothing (said_of false (w ∷ [])); state = n; answer = name_if_some id (flight id n.flights); freed = None })
came_one s id first w n f runs none =
    ap (λ a. landing_result_by s id (a ∷ closing_steps (labels_in (ideal_run (a ∷ []) s))) (ideal_run (a ∷ closing_steps (labels_in (ideal_run (a ∷ []) s))) s)) f
    ∙ ap (λ r. landing_result_by s id (first ∷ closing_steps (labels_in r)) (ideal_run (first ∷ closing_steps (labels_in r)) s)) runs
    ∙ ap (λ l. landing_result_by s id (first ∷ l) (ideal_run (first ∷ l) s)) none
    ∙ ap (λ r. landing_result_by s id (first ∷ []) r) runs

said_landed : (id : FlightId) (why : Option Refusal) → said_or_nothing (said_of false (landing_word id why ∷ [])) ≡ landed_said id why
said_landed id None = refl
said_landed id (Some x) = refl

closes_landed : (id : FlightId) (why : Option Refusal) → closing_steps (landing_word id why ∷ []) ≡ []
closes_landed id None = refl
closes_landed id (Some x) = refl

-- the state with this context and these flights
abbrev pub with_both : State → Context → List Packet → State
with_both s c fs = record s { contexts = put_context c s.contexts; flights = fs }

-- a message
pub message_comes : (s : State) (to ep g : ℕ) (m : Message) (c : Context)
    → flight (name_of (Packet.Message to ep g m)) s.flights ≡ Some (Packet.Message to ep g m) → context_of to s.contexts ≡ Some c
    → landing_result s (name_of (Packet.Message to ep g m))
    ≡ Some (record {
      said = landed_said (name_of (Packet.Message to ep g m)) (land ep g m c).refused;
      state = with_both s (land ep g m c).context (change_flight (land ep g m c).answer s.flights);
      answer = name_if_some (name_of (Packet.Message to ep g m)) (flight (name_of (Packet.Message to ep g m)) (change_flight (land ep g m c).answer s.flights));
      freed = None;
    })
message_comes s to ep g m c flies found =
    let id = name_of (Packet.Message to ep g m) in
    let l = land ep g m c in
    let n = with_both s l.context (change_flight l.answer s.flights) in
    came_one s id (Step.Land id) (landing_word id l.refused) n (ap (landing_step id) flies)
    (ap (λ o. on_from (ideal_run []) (land_in s id o)) flies ∙ ap (λ o. on_from (ideal_run []) (message_in s id ep g m o)) found)
    (closes_landed id l.refused)
    ∙ ap (λ (z : Said). let o : Option LandingResult = Some (record { said = z; state = n; answer = name_if_some id (flight id n.flights); freed = None }) in o) (said_landed id l.refused)

-- an Install
pub install_comes : (s : State) (id : FlightId) (to ep : ℕ) (f : Fresh) (c : Context)
    → flight id s.flights ≡ Some (Packet.Install id to ep f) → context_of to s.contexts ≡ Some c
    → landing_result s id
    ≡ Some (record {
      said = Said.Installed id (number_of f);
      state = with_both s (with_endpoint c ep (new_endpoint f)) (end_flight id s.flights);
      answer = name_if_some id (flight id (end_flight id s.flights));
      freed = None;
    })
install_comes s id to ep f c flies found =
    came_one s id (Step.Land id) (Installs id (number_of f)) (with_both s (with_endpoint c ep (new_endpoint f)) (end_flight id s.flights)) (ap (landing_step id) flies)
    (ap (λ o. on_from (ideal_run []) (land_in s id o)) flies ∙ ap (λ o. on_from (ideal_run []) (install_in s id ep f o)) found)
    refl

-- a credit

closes_credit : (id : FlightId) (g : ℕ) (b : Bool) → closing_steps ((if b then Credits id g else Discards id g) ∷ []) ≡ []
closes_credit id g true = refl
closes_credit id g false = refl

said_credit : (id : FlightId) (g : ℕ) (b : Bool) → said_or_nothing (said_of false ((if b then Credits id g else Discards id g) ∷ [])) ≡ (if b then Said.Credited id g else Said.Discarded id g)
said_credit id g true = refl
said_credit id g false = refl

pub credit_comes : (s : State) (id : FlightId) (to g : ℕ) (c : Context)
    → flight id s.flights ≡ Some (Packet.Credit id to g) → context_of to s.contexts ≡ Some c
    → landing_result s id
    ≡ Some (record {
      said = if has_send g c then Said.Credited id g else Said.Discarded id g;
      state = with_both s (with_credit g c) (end_flight id s.flights);
      answer = name_if_some id (flight id (end_flight id s.flights));
      freed = None;
    })
credit_comes s id to g c flies found =
    let n = with_both s (with_credit g c) (end_flight id s.flights) in
    came_one s id (Step.Land id) (if has_send g c then Credits id g else Discards id g) n (ap (landing_step id) flies)
    (ap (λ o. on_from (ideal_run []) (land_in s id o)) flies ∙ ap (λ o. on_from (ideal_run []) (credit_in s id g o)) found)
    (closes_credit id g (has_send g c))
    ∙ ap (λ (z : Said). let o : Option LandingResult = Some (record { said = z; state = n; answer = name_if_some id (flight id n.flights); freed = None }) in o) (said_credit id g (has_send g c))

-- two steps: the second frees the endpoint of this grant
pub came_two : (s : State) (id : FlightId) (first : Step) (w : Label) (g : ℕ) (mid n : State)
    → landing_step id (flight id s.flights) ≡ first
    → ideal_run (first ∷ []) s ≡ Some (record { words = w ∷ []; state = mid })
    → closing_steps (w ∷ []) ≡ Step.Closed g ∷ []
    → ideal_run (first ∷ Step.Closed g ∷ []) s ≡ Some (record { words = w ∷ Frees g ∷ []; state = n })
    → landing_result s id ≡ Some (record { said = said_or_nothing (said_of false (w ∷ Frees g ∷ [])); state = n; answer = name_if_some id (flight id n.flights); freed = Some g })
came_two s id first w g mid n f one closing two =
    ap (λ a. landing_result_by s id (a ∷ closing_steps (labels_in (ideal_run (a ∷ []) s))) (ideal_run (a ∷ closing_steps (labels_in (ideal_run (a ∷ []) s))) s)) f
    ∙ ap (λ r. landing_result_by s id (first ∷ closing_steps (labels_in r)) (ideal_run (first ∷ closing_steps (labels_in r)) s)) one
    ∙ ap (λ l. landing_result_by s id (first ∷ l) (ideal_run (first ∷ l) s)) closing
    ∙ ap (λ r. landing_result_by s id (first ∷ Step.Closed g ∷ []) r) two

-- an answer that frees no endpoint
pub answer_comes : (s : State) (id x : FlightId) (answer : Answer) (c : Context) (f : Flying)
    → flight id s.flights ≡ Some (Packet.Answer x answer) → context_of id.issuer s.contexts ≡ Some c → flying_at id.number c.flying ≡ Some f
    → freed_grant f.ep (context_after_answer f answer c) ≡ None
    → landing_result s id
    ≡ Some (record {
      said = Said.Answered id answer None;
      state = with_both s (context_after_answer f answer c) (end_flight id s.flights);
      answer = name_if_some id (flight id (end_flight id s.flights));
      freed = None;
    })
answer_comes s id x answer c f flies found command none =
    let n = with_both s (context_after_answer f answer c) (end_flight id s.flights) in
    came_one s id (Step.Answered id) (Answers id answer None) n (ap (landing_step id) flies)
    (
    ap (λ o. on_from (ideal_run []) (answered_in s id o)) flies
    ∙ ap (λ o. on_from (ideal_run []) (answer_in s id answer o)) found
    ∙ ap (λ o. on_from (ideal_run []) (settle_in s id answer c o)) command
    ∙ ap (λ o. on_from (ideal_run []) (step_to (Answers id answer o) n)) none
    )
    refl
