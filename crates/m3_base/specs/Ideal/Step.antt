-- The steps of the ideal machine, and its runs.
use Rattle.std.specs.Prelude.{ℕ, ◌+◌, Bool, false, not, ◌&&◌, ◌==◌, List, [], ◌∷◌, length, Option, Some, None, if◌then◌else◌}
use Rattle.m3_base.specs.declared.ids.FlightId.{FlightId}
use Rattle.m3_base.specs.declared.message.Message.{Message}
use Rattle.m3_base.specs.declared.command.Refusal.{Refusal}
use Rattle.m3_base.specs.declared.command.Answer.{Answer}
use Rattle.m3_base.specs.declared.packet.Packet.{Packet}
use Rattle.m3_base.specs.declared.event.No.{No}
use Rattle.m3_base.specs.declared.packet.Fresh.{Fresh}
use Rattle.m3_base.specs.declared.command.Command.{Command}
use Rattle.m3_base.specs.declared.order.GrantLine.{GrantLine}
use Rattle.m3_base.specs.declared.step.Step.{Step}
use Rattle.m3_base.specs.Ideal.Flights.{flight, new_flight, change_flight, end_flight}
use Rattle.m3_base.specs.Ideal.Context.{Flying, Endpoint, Free, Receives, Context, endpoint, with_endpoint, new_endpoint}
use Rattle.m3_base.specs.Ideal.Issue.{IssueOutcome, Issued, issue}
use Rattle.m3_base.specs.Ideal.Landing.{Landed, land, has_send, with_credit, bytes_at, written_at, has_live, has_closing, closed_at, flies_at, flying_at, context_after_answer, freed_grant}
use Rattle.m3_base.specs.Ideal.State.{Closed, Done, Grant, State, context_of, put_context, holder, holder_ep, grant_in, parent_in, parent_of, undone}
use Rattle.m3_base.specs.Ideal.GrantRules.{form, make_refusal, with_grant_made, revoke_refusal, after_revoke, may_close, close_sent, change_grant, kernel_id, is_closed_grant, to_done}

-- what a step says
pub data Label : Type 0 where
  At_issue : IssueOutcome → Label
  Present : Bool → Label
  Landing : FlightId → Label
  Refusing : FlightId → Refusal → Label
  Credits : FlightId → ℕ → Label
  Discards : FlightId → ℕ → Label
  Installs : FlightId → ℕ → Label
  Starts_closing : FlightId → ℕ → Label
  Closes_endpoint : FlightId → ℕ → Label
  Answers : FlightId → Answer → Option ℕ → Label
  Not_made : No → Label
  Makes : ℕ → FlightId → Label
  Revokes : ℕ → Label
  Sends_close : ℕ → FlightId → Label
  Frees : ℕ → Label
  Finishes : ℕ → Bool → Label

pub record IdealResult : Type 0 where
  pub word : Label
  pub state : State

abbrev pub step_to : Label → State → Option IdealResult
step_to w s = Some (record { word = w; state = s })

-- ---- issue and await

abbrev pub with_packet : Option Packet → List Packet → List Packet
with_packet None fs = fs
with_packet (Some p) fs = new_flight p fs

abbrev pub after_issue : State → Issued → State
after_issue s i = record s { contexts = put_context i.context s.contexts; flights = with_packet i.packet s.flights }

abbrev pub issued_in : State → Option Issued → Option IdealResult
issued_in s None = None
issued_in s (Some i) = step_to (At_issue i.told) (after_issue s i)

abbrev pub issue_in : State → Option Context → Command → Option IdealResult
issue_in s None c = None
issue_in s (Some x) c = issued_in s (issue x c)

abbrev pub has_unread : Endpoint → Bool
has_unread (Receives r) = not (length r.unread == 0)
has_unread _ = false

abbrev pub await_in : State → Option Context → ℕ → Option IdealResult
await_in s None ep = None
await_in s (Some x) ep = step_to (Present (has_unread (endpoint x ep))) s

-- ---- land

abbrev pub landing_word : FlightId → Option Refusal → Label
landing_word id None = Landing id
landing_word id (Some x) = Refusing id x

-- the receiver's context, and the answer in place of the message
abbrev pub after_landing : State → Context → Packet → State
after_landing s c answer = record s { contexts = put_context c s.contexts; flights = change_flight answer s.flights }

-- the context, and the flight ends
abbrev pub after_ending : State → FlightId → Context → State
after_ending s id c = record s { contexts = put_context c s.contexts; flights = end_flight id s.flights }

abbrev pub landed_in : State → FlightId → Landed → Option IdealResult
landed_in s id l = step_to (landing_word id l.refused) (after_landing s l.context l.answer)

abbrev pub message_in : State → FlightId → ℕ → ℕ → Message → Option Context → Option IdealResult
message_in s id ep g m None = None
message_in s id ep g m (Some x) = landed_in s id (land ep g m x)

abbrev pub credit_in : State → FlightId → ℕ → Option Context → Option IdealResult
credit_in s id g None = None
credit_in s id g (Some x) =
    step_to (if has_send g x then Credits id g else Discards id g) (
    after_ending s id (with_credit g x)
    )

abbrev pub number_of : Fresh → ℕ
number_of (Fresh.Send grant to to_ep to_grant label size limit) = grant
number_of (Fresh.Receive grant slots size) = grant
number_of (Fresh.Memory grant start length perm) = grant

abbrev pub is_install_of : ℕ → Packet → Bool
is_install_of g (Packet.Install id to ep f) = number_of f == g
is_install_of g packet = false

abbrev pub install_in : State → FlightId → ℕ → Fresh → Option Context → Option IdealResult
install_in s id ep f None = None
install_in s id ep f (Some x) =
    step_to (Installs id (number_of f)) (after_ending s id (with_endpoint x ep (new_endpoint f)))

abbrev pub close_in : State → FlightId → ℕ → ℕ → Option Context → Option IdealResult
close_in s id ep g None = None
close_in s id ep g (Some x) =
    if has_live g (endpoint x ep)
    then
    step_to (if flies_at ep x then Starts_closing id g else Closes_endpoint id g) (
    after_ending s id (with_endpoint x ep (closed_at (endpoint x ep)))
    )
    else None

abbrev pub land_in : State → FlightId → Option Packet → Option IdealResult
land_in s id None = None
land_in s id (Some (Packet.Message to ep g m)) = message_in s id ep g m (context_of to s.contexts)
land_in s id (Some (Packet.Credit x to g)) = credit_in s id g (context_of to s.contexts)
land_in s id (Some (Packet.Read x g place buffer)) =
    step_to (Landing id) (
    record s { flights = change_flight (Packet.Answer id (Answer.Bytes (bytes_at place (length buffer) s.memory))) s.flights }
    )
land_in s id (Some (Packet.Write x g place payload)) =
    step_to (Landing id) (
    record s {
      memory = written_at place payload s.memory;
      flights = change_flight (Packet.Answer id Answer.Written) s.flights;
    }
    )
land_in s id (Some (Packet.Answer x answer)) = None
land_in s id (Some (Packet.Install x to ep f)) = install_in s id ep f (context_of to s.contexts)
land_in s id (Some (Packet.Close x to ep g)) = close_in s id ep g (context_of to s.contexts)

-- ---- answered

abbrev pub settle_in : State → FlightId → Answer → Context → Option Flying → Option IdealResult
settle_in s id answer x None = None
settle_in s id answer x (Some f) =
    let y = context_after_answer f answer x in
    step_to (Answers id answer (freed_grant f.ep y)) (after_ending s id y)

abbrev pub answer_in : State → FlightId → Answer → Option Context → Option IdealResult
answer_in s id answer None = None
answer_in s id answer (Some x) = settle_in s id answer x (flying_at id.number x.flying)

abbrev pub answered_in : State → FlightId → Option Packet → Option IdealResult
answered_in s id (Some (Packet.Answer x answer)) = answer_in s id answer (context_of id.issuer s.contexts)
answered_in s id _ = None

-- ---- grants

abbrev pub make_in : State → GrantLine → Option No → Option Fresh → Option IdealResult
make_in s line (Some why) f = step_to (Not_made why) s
make_in s line None None = None
make_in s line None (Some f) = step_to (Makes (length s.grants + 1) (kernel_id s)) (with_grant_made s line f)

-- a line whose holder isn't declared has no case
abbrev pub make_for : State → GrantLine → Option Context → Option IdealResult
make_for s line None = None
make_for s line (Some x) =
    let above = undone (parent_in s.grants (parent_of line)) in
    make_in s line (make_refusal (length s.memory) s.grants line) (form (length s.grants + 1) line above)

abbrev pub revoke_in : State → ℕ → Option No → Option IdealResult
revoke_in s g (Some why) = step_to (Not_made why) s
revoke_in s g None = step_to (Revokes g) (record s { grants = after_revoke s.grants g })

abbrev pub send_close_in : State → ℕ → Option Grant → Option IdealResult
send_close_in s g None = None
send_close_in s g (Some x) =
    if may_close s.grants g (Some x) then step_to (Sends_close g (kernel_id s)) (close_sent s g x) else None

abbrev pub free_in : State → ℕ → ℕ → Option Context → Option IdealResult
free_in s g ep None = None
free_in s g ep (Some x) =
    if has_closing g (endpoint x ep) && not (flies_at ep x)
    then
    step_to (Frees g) (
    record s {
      contexts = put_context (with_endpoint x ep Free) s.contexts;
      grants = change_grant s.grants g (λ y. record y { standing = Closed });
    }
    )
    else None

abbrev pub closed_in : State → ℕ → Option Grant → Option IdealResult
closed_in s g None = None
closed_in s g (Some x) = free_in s g (holder_ep x.line) (context_of (holder x.line) s.contexts)

abbrev pub done_in : State → ℕ → Option Grant → Option IdealResult
done_in s g None = None
done_in s g (Some x) =
    if is_closed_grant x.standing
    then step_to (Finishes g x.is_root) (record s { grants = change_grant s.grants g to_done })
    else None

-- ---- any step

abbrev pub ideal_step : State → Step → Option IdealResult
ideal_step s (Step.Issue a c) = issue_in s (context_of a s.contexts) c
ideal_step s (Step.Await a ep) = await_in s (context_of a s.contexts) ep
ideal_step s (Step.Land id) = land_in s id (flight id s.flights)
ideal_step s (Step.Answered id) = answered_in s id (flight id s.flights)
ideal_step s (Step.Make line) = make_for s line (context_of (holder line) s.contexts)
ideal_step s (Step.Revoke g) = revoke_in s g (revoke_refusal (grant_in s.grants g))
ideal_step s (Step.Close g) = send_close_in s g (grant_in s.grants g)
ideal_step s (Step.Closed g) = closed_in s g (grant_in s.grants g)
ideal_step s (Step.Done g) = done_in s g (grant_in s.grants g)

-- the words of steps that come one after the other, and the state after them
pub record RunResult : Type 0 where
  pub words : List Label
  pub state : State

abbrev pub with_label : Label → Option RunResult → Option RunResult
with_label w None = None
with_label w (Some r) = Some (record { words = w ∷ r.words; state = r.state })

-- what more steps add, where there is a next state
abbrev pub on_from : (State → Option RunResult) → Option IdealResult → Option RunResult
on_from more None = None
on_from more (Some n) = with_label n.word (more n.state)

abbrev pub ideal_run : List Step → State → Option RunResult
ideal_run [] s = Some (record { words = []; state = s })
ideal_run (t ∷ ts) s = on_from (ideal_run ts) (ideal_step s t)
