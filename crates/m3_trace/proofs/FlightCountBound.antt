-- A step of the ideal machine adds one flight at most, so the entries of a journal leave twice as many at most.
use Rattle.std.proofs.Common.{◌≡◌, ℕ, suc, ◌+◌, ◌*◌, ◌≤◌, ◌&&◌, Bool, true, false, not, List, [], ◌∷◌, length, Option, Some, None, refl, ap, arith}
use Rattle.std.specs.Prelude.{if◌then◌else◌}
use Rattle.m3_base.specs.declared.ids.FlightId.{FlightId}
use Rattle.m3_base.specs.declared.message.Message.{Message}
use Rattle.m3_base.specs.declared.packet.Packet.{Packet}
use Rattle.m3_base.specs.declared.packet.Fresh.{Fresh}
use Rattle.m3_base.specs.declared.command.Answer.{Answer}
use Rattle.m3_base.specs.declared.command.Command.{Command}
use Rattle.m3_base.specs.declared.event.Entry.{Entry}
use Rattle.m3_base.specs.declared.event.Event.{Event}
use Rattle.m3_base.specs.declared.event.Made.{Made}
use Rattle.m3_base.specs.declared.event.No.{No}
use Rattle.m3_base.specs.declared.event.Outcome.{Outcome}
use Rattle.m3_base.specs.declared.event.Said.{Said}
use Rattle.m3_base.specs.declared.order.GrantLine.{GrantLine}
use Rattle.m3_base.specs.declared.order.Order.{Order}
use Rattle.m3_base.specs.declared.setup_line.SetupLine.{SetupLine}
use Rattle.m3_base.specs.declared.step.Step.{Step}
use Rattle.m3_base.specs.Ideal.Context.{Context, Flying, Free, endpoint, with_endpoint}
use Rattle.m3_base.specs.Journal.Entry.{command_steps, await_steps, turn_steps, landing_steps, then_closed, close_steps, order_steps, steps_of, next_state, ran_to, state_after_entries}
use Rattle.m3_base.specs.Ideal.Flights.{flight, name_of, same_name, change_flight, end_flight}
use Rattle.m3_base.specs.Ideal.GrantRules.{form, make_refusal, revoke_refusal, may_close, change_grant, is_closed_grant, close_sent, kernel_id}
use Rattle.m3_base.specs.Ideal.Issue.{Issued, issue}
use Rattle.m3_base.specs.Ideal.Landing.{land, bytes_at, has_live, has_closing, flies_at, flying_at, closed_at}
use Rattle.m3_base.specs.Ideal.Opening.{opening}
use Rattle.m3_laws.proofs.invariant.step.NoFlightAtOpening.{nothing_flies}
use Rattle.m3_base.specs.Ideal.State.{State, Grant, Closed, Done, context_of, put_context, grant_in, holder, holder_ep, parent_in, parent_of, undone}
use Rattle.m3_base.specs.Ideal.Step.{IdealResult, Frees, Finishes, Sends_close, Closes_endpoint, Starts_closing, ideal_step, RunResult, ideal_run, on_from, with_label, step_to, issue_in, issued_in, await_in, message_in, credit_in, install_in, close_in, land_in, settle_in, answer_in, answered_in, make_in, make_for, revoke_in, send_close_in, free_in, closed_in, done_in, with_packet}
use Rattle.m3_trace.proofs.CountFlights.{length_new}

-- ---- lists by name

replaced_length : (p : Packet) (ps : List Packet) → length (change_flight p ps) ≡ length ps
replaced_length p [] = refl
replaced_length p (q ∷ ps) = by_test (same_name (name_of p) (name_of q)) (replaced_length p ps)
  where
    by_test : (b : Bool) → length (change_flight p ps) ≡ length ps → length (if b then p ∷ ps else q ∷ change_flight p ps) ≡ suc (length ps)
    by_test true e = refl
    by_test false e = ap (λ n. suc n) e

ended_length : (id : FlightId) (ps : List Packet) → length (end_flight id ps) ≤ length ps
ended_length id [] = omega arith
ended_length id (q ∷ ps) = by_test (same_name id (name_of q)) (ended_length id ps)
  where
    by_test : (b : Bool) → length (end_flight id ps) ≤ length ps → length (if b then ps else q ∷ end_flight id ps) ≤ suc (length ps)
    by_test true e = omega arith
    by_test false e = omega arith

-- ---- one step

module _ (s : State) where
  abbrev Few : Option IdealResult → Type 0
  Few None = Unit {0}
  Few (Some n) = length n.state.flights ≤ length s.flights + 1

  with_few : (o : Option Packet) → length (with_packet o s.flights) ≤ length s.flights + 1
  with_few None = omega arith
  with_few (Some p) = let e = length_new p s.flights in omega arith

  issued_few : (o : Option Issued) → Few (issued_in s o)
  issued_few None = tt
  issued_few (Some i) = with_few i.packet

  issue_few : (o : Option Context) (c : Command) → Few (issue_in s o c)
  issue_few None c = tt
  issue_few (Some x) c = issued_few (issue x c)

  await_few : (o : Option Context) (ep : ℕ) → Few (await_in s o ep)
  await_few None ep = tt
  await_few (Some x) ep = let z : length s.flights ≤ length s.flights + 1 = omega arith in z

  message_few : (id : FlightId) (ep g : ℕ) (m : Message) (o : Option Context) → Few (message_in s id ep g m o)
  message_few id ep g m None = tt
  message_few id ep g m (Some x) = let e = replaced_length (land ep g m x).answer s.flights in omega arith

  credit_few : (id : FlightId) (g : ℕ) (o : Option Context) → Few (credit_in s id g o)
  credit_few id g None = tt
  credit_few id g (Some x) = let e = ended_length id s.flights in omega arith

  install_few : (id : FlightId) (ep : ℕ) (f : Fresh) (o : Option Context) → Few (install_in s id ep f o)
  install_few id ep f None = tt
  install_few id ep f (Some x) = let e = ended_length id s.flights in omega arith

  close_few : (id : FlightId) (ep g : ℕ) (o : Option Context) → Few (close_in s id ep g o)
  close_few id ep g None = tt
  close_few id ep g (Some x) = by_test (has_live g (endpoint x ep))
    where
      by_test : (b : Bool) → Few (if b then step_to (if flies_at ep x then Starts_closing id g else Closes_endpoint id g) (record s { contexts = put_context (with_endpoint x ep (closed_at (endpoint x ep))) s.contexts; flights = end_flight id s.flights }) else None)
      by_test true = let e = ended_length id s.flights in omega arith
      by_test false = tt

  land_few : (id : FlightId) (o : Option Packet) → Few (land_in s id o)
  land_few id None = tt
  land_few id (Some (Packet.Message to ep g m)) = message_few id ep g m (context_of to s.contexts)
  land_few id (Some (Packet.Credit x to g)) = credit_few id g (context_of to s.contexts)
  land_few id (Some (Packet.Read x g place buffer)) = let e = replaced_length (Packet.Answer id (Answer.Bytes (bytes_at place (length buffer) s.memory))) s.flights in omega arith
  land_few id (Some (Packet.Write x g place payload)) = let e = replaced_length (Packet.Answer id Answer.Written) s.flights in omega arith
  land_few id (Some (Packet.Answer x answer)) = tt
  land_few id (Some (Packet.Install x to ep f)) = install_few id ep f (context_of to s.contexts)
  land_few id (Some (Packet.Close x to ep g)) = close_few id ep g (context_of to s.contexts)

  settle_few : (id : FlightId) (answer : Answer) (x : Context) (o : Option Flying) → Few (settle_in s id answer x o)
  settle_few id answer x None = tt
  settle_few id answer x (Some f) = let e = ended_length id s.flights in omega arith

  answer_few : (id : FlightId) (answer : Answer) (o : Option Context) → Few (answer_in s id answer o)
  answer_few id answer None = tt
  answer_few id answer (Some x) = settle_few id answer x (flying_at id.number x.flying)

  answered_few : (id : FlightId) (o : Option Packet) → Few (answered_in s id o)
  answered_few id (Some (Packet.Answer x answer)) = answer_few id answer (context_of id.issuer s.contexts)
  answered_few id o = tt

  make_few : (line : GrantLine) (why : Option No) (f : Option Fresh) → Few (make_in s line why f)
  make_few line (Some w) f = let z : length s.flights ≤ length s.flights + 1 = omega arith in z
  make_few line None None = tt
  make_few line None (Some f) = let e = length_new (Packet.Install (kernel_id s) (holder line) (holder_ep line) f) s.flights in omega arith

  make_for_few : (line : GrantLine) (o : Option Context) → Few (make_for s line o)
  make_for_few line None = tt
  make_for_few line (Some x) =
      make_few line (make_refusal (length s.memory) s.grants line) (form (length s.grants + 1) line (undone (parent_in s.grants (parent_of line))))

  revoke_few : (g : ℕ) (why : Option No) → Few (revoke_in s g why)
  revoke_few g (Some w) = let z : length s.flights ≤ length s.flights + 1 = omega arith in z
  revoke_few g None = let z : length s.flights ≤ length s.flights + 1 = omega arith in z

  send_close_few : (g : ℕ) (o : Option Grant) → Few (send_close_in s g o)
  send_close_few g None = tt
  send_close_few g (Some x) = by_test (may_close s.grants g (Some x))
    where
      by_test : (b : Bool) → Few (if b then step_to (Sends_close g (kernel_id s)) (close_sent s g x) else None)
      by_test true = let e = length_new (Packet.Close (kernel_id s) (holder x.line) (holder_ep x.line) g) s.flights in omega arith
      by_test false = tt

  free_few : (g ep : ℕ) (o : Option Context) → Few (free_in s g ep o)
  free_few g ep None = tt
  free_few g ep (Some x) = by_test (has_closing g (endpoint x ep) && not (flies_at ep x))
    where
      by_test : (b : Bool) → Few (if b then step_to (Frees g) (record s { contexts = put_context (with_endpoint x ep Free) s.contexts; grants = change_grant s.grants g (λ y. record y { standing = Closed }) }) else None)
      by_test true = let z : length s.flights ≤ length s.flights + 1 = omega arith in z
      by_test false = tt

  closed_few : (g : ℕ) (o : Option Grant) → Few (closed_in s g o)
  closed_few g None = tt
  closed_few g (Some x) = free_few g (holder_ep x.line) (context_of (holder x.line) s.contexts)

  done_few : (g : ℕ) (o : Option Grant) → Few (done_in s g o)
  done_few g None = tt
  done_few g (Some x) = by_test (is_closed_grant x.standing)
    where
      by_test : (b : Bool) → Few (if b then step_to (Finishes g x.is_root) (record s { grants = change_grant s.grants g (λ y. record y { standing = Done }) }) else None)
      by_test true = let z : length s.flights ≤ length s.flights + 1 = omega arith in z
      by_test false = tt

  step_few : (t : Step) → Few (ideal_step s t)
  step_few (Step.Issue a c) = issue_few (context_of a s.contexts) c
  step_few (Step.Await a ep) = await_few (context_of a s.contexts) ep
  step_few (Step.Land id) = land_few id (flight id s.flights)
  step_few (Step.Answered id) = answered_few id (flight id s.flights)
  step_few (Step.Make line) = make_for_few line (context_of (holder line) s.contexts)
  step_few (Step.Revoke g) = revoke_few g (revoke_refusal (grant_in s.grants g))
  step_few (Step.Close g) = send_close_few g (grant_in s.grants g)
  step_few (Step.Closed g) = closed_few g (grant_in s.grants g)
  step_few (Step.Done g) = done_few g (grant_in s.grants g)

-- ---- the steps of one entry

abbrev FewRan : State → ℕ → Option RunResult → Type 0
FewRan s n None = Unit {0}
FewRan s n (Some r) = length r.state.flights ≤ length s.flights + n

ran_few : (ts : List Step) (s : State) → FewRan s (length ts) (ideal_run ts s)
ran_few [] s = let z : length s.flights ≤ length s.flights + 0 = omega arith in z
ran_few (t ∷ ts) s = by_next (ideal_step s t) (step_few s t) (λ n. ran_few ts n)
  where
    word_few : (n : IdealResult) (o : Option RunResult) → length n.state.flights ≤ length s.flights + 1 → FewRan n.state (length ts) o → FewRan s (suc (length ts)) (with_label n.word o)
    word_few n None le k = tt
    word_few n (Some r) le k = let z : length r.state.flights ≤ length s.flights + suc (length ts) = omega arith in z

    by_next : (o : Option IdealResult) → Few s o → ((n : State) → FewRan n (length ts) (ideal_run ts n)) → FewRan s (suc (length ts)) (on_from (ideal_run ts) o)
    by_next None k more = tt
    by_next (Some n) k more = word_few n (ideal_run ts n.state) k (more n.state)

-- ---- an entry has two steps at most

one_step : (t : Step) → length (t ∷ []) ≤ 2
one_step t = let z : 1 ≤ 2 = omega arith in z

no_step : length {A = Step} [] ≤ 2
no_step = let z : 0 ≤ 2 = omega arith in z

two_command : (a : ℕ) (c : Command) (said : Said) → length (command_steps a c said) ≤ 2
two_command a c (Said.Idle why) = no_step
two_command a c said = one_step (Step.Issue a c)

two_await : (a ep : ℕ) (said : Said) → length (await_steps a ep said) ≤ 2
two_await a ep (Said.Idle why) = no_step
two_await a ep said = one_step (Step.Await a ep)

two_turn : (a : ℕ) (made : Option Made) (said : Said) → length (turn_steps a made said) ≤ 2
two_turn a (Some (Made.Command c)) said = two_command a c said
two_turn a (Some (Made.Await ep)) said = two_await a ep said
two_turn a made said = no_step

two_closed : (id : FlightId) (closed : Option ℕ) → length (Step.Answered id ∷ then_closed closed) ≤ 2
two_closed id None = one_step (Step.Answered id)
two_closed id (Some g) = let z : 2 ≤ 2 = omega arith in z

two_landing : (said : Said) → length (landing_steps said) ≤ 2
two_landing (Said.Landed id) = one_step (Step.Land id)
two_landing (Said.LandRefused id why) = one_step (Step.Land id)
two_landing (Said.Credited id g) = one_step (Step.Land id)
two_landing (Said.Discarded id g) = one_step (Step.Land id)
two_landing (Said.Installed id g) = one_step (Step.Land id)
two_landing (Said.Closing id g) = one_step (Step.Land id)
two_landing (Said.Closed id g) = let z : 2 ≤ 2 = omega arith in z
two_landing (Said.Answered id answer closed) = two_closed id closed
two_landing (Said.Done g revoked) = one_step (Step.Done g)
two_landing said = no_step

two_close : (said : Said) → length (close_steps said) ≤ 2
two_close (Said.CloseSent g id held) = one_step (Step.Close g)
two_close said = no_step

two_order : (order : Order) → length (order_steps order) ≤ 2
two_order (Order.Switch t a) = no_step
two_order (Order.Grant line) = one_step (Step.Make line)
two_order (Order.Revoke g) = one_step (Step.Revoke g)

two_steps : (e : Event) (o : Outcome) → length (steps_of e o) ≤ 2
two_steps (Event.Do a c) o = two_command a c o.said
two_steps (Event.Turn a) o = two_turn a o.made o.said
two_steps (Event.Take to from) o = two_landing o.said
two_steps (Event.Tend a) o = two_landing o.said
two_steps Event.Close o = two_close o.said
two_steps (Event.Order order) o = two_order order
two_steps (Event.File line) o = no_step

-- ---- a whole journal

next_few : (s : State) (e : Entry) → length (next_state s e).flights ≤ length s.flights + 2
next_few s e = by_ran (ideal_run (steps_of e.event e.outcome) s) (ran_few (steps_of e.event e.outcome) s)
  where
    by_ran : (o : Option RunResult) → FewRan s (length (steps_of e.event e.outcome)) o → length (ran_to o s).flights ≤ length s.flights + 2
    by_ran None k = let z : length s.flights ≤ length s.flights + 2 = omega arith in z
    by_ran (Some r) k = let two = two_steps e.event e.outcome in let z : length r.state.flights ≤ length s.flights + 2 = omega arith in z

after_few : (s : State) (es : List Entry) → length (state_after_entries s es).flights ≤ length s.flights + 2 * length es
after_few s [] = let z : length s.flights ≤ length s.flights + 2 * 0 = omega arith in z
after_few s (e ∷ es) =
    let one' = next_few s e in
    let more = after_few (next_state s e) es in
    let z : length (state_after_entries (next_state s e) es).flights ≤ length s.flights + 2 * suc (length es) = omega arith in z

-- as many entries as a journal may have leave so few flights that they are counted
pub journal_few : (memory : ℕ) (lines : List SetupLine) (es : List Entry) → length es ≤ 2097152 → length (state_after_entries (opening memory lines) es).flights ≤ 4294967295
journal_few memory lines es few =
    let none : length (opening memory lines).flights ≡ 0 = ap (λ ps. length ps) (nothing_flies memory lines) in
    let bound = after_few (opening memory lines) es in
    omega arith
