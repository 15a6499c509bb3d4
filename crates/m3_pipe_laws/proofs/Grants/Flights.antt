-- Where no write is issued through a grant, none flies.
use Rattle.std.proofs.Common.{◌≡◌, ◌≢◌, ℕ, ◌+◌, Bool, true, false, List, [], ◌∷◌, length, Some, None, refl, sym, subst, ◌∙◌, ap, arith, inl, inr}
use Rattle.std.specs.Prelude.{Option, if◌then◌else◌, ◌⊎◌, ◌==◌, ◌&&◌, not}
use Rattle.m3_base.specs.declared.ids.FlightId.{FlightId}
use Rattle.m3_base.specs.declared.message.Message.{Message}
use Rattle.m3_base.specs.declared.packet.Packet.{Packet}
use Rattle.m3_base.specs.declared.packet.Fresh.{Fresh}
use Rattle.m3_base.specs.declared.command.Command.{Command}
use Rattle.m3_base.specs.declared.command.Answer.{Answer}
use Rattle.m3_base.specs.declared.command.Refusal.{Refusal}
use Rattle.m3_base.specs.declared.order.GrantLine.{GrantLine}
use Rattle.m3_base.specs.declared.event.No.{No}
use Rattle.m3_base.specs.declared.step.Step.{Step}
use Rattle.m3_base.specs.Ideal.Flights.{flight, name_of, new_flight, change_flight, end_flight}
use Rattle.m3_base.specs.Ideal.Context.{Kind, Sending, Reading, Writing, Flying, Endpoint, Free, Sends, Receives, Reaches, Context, endpoint, with_endpoint}
use Rattle.m3_base.specs.Ideal.Issue.{IssueOutcome, Issued, issue, next_id, with_flying_command, less_one, unless_refusal, first_of, send, send_refusal, send_packet, reply, reply_refusal, reply_to, fetch, fetch_from, acknowledge, acknowledge_at, after_acknowledge, access, access_refusal, read, write, may_read, may_write, is_busy}
use Rattle.m3_base.specs.Ideal.ReceiveRecord.{fetched_at, unmarked_message}
use Rattle.m3_base.specs.Ideal.Landing.{land_by, land_refusal, message_id, landed_answer, grant_of, flying_at, has_live, has_closing, flies_at, closed_at, bytes_at}
use Rattle.m3_base.specs.Ideal.State.{State, Grant, context_of, put_context, grant_in, holder, holder_ep, parent_of, parent_in, undone}
use Rattle.m3_base.specs.Ideal.GrantRules.{form, make_refusal, kernel_id, may_close, close_sent, change_grant, is_closed_grant, revoke_refusal, to_done}
use Rattle.m3_base.specs.Ideal.Step.{IdealResult, ideal_step, step_to, with_packet, issue_in, issued_in, await_in, land_in, message_in, credit_in, install_in, close_in, answered_in, answer_in, settle_in, make_in, make_for, revoke_in, send_close_in, closed_in, free_in, done_in, Starts_closing, Closes_endpoint, Sends_close, Frees, Finishes, after_ending}
use Rattle.m3_base.specs.Ideal.MessageTraces.{state_after_steps}
use Rattle.m3_base.specs.Ideal.Opening.{opening}
use Rattle.m3_base.specs.Ideal.FlightNames.{Apart}
use Rattle.m3_laws.specs.Laws.{AllFit}
use Rattle.m3_laws.specs.Invariant.{Invariant}
use Rattle.m3_laws.proofs.invariant.step.Invariant.{invariant_opening, invariant_after}
use Rattle.m3_base.proofs.FlightNames.{name_found}
use Rattle.m3_laws.proofs.invariant.step.LookUps.{found_ended}
use Rattle.m3_laws.proofs.invariant.step.LookUps.{found_changed}
use Rattle.m3_laws.proofs.invariant.step.LookUps.{found_new}
use Rattle.m3_laws.proofs.invariant.records.ClosingRecords.{to_closed}
use Rattle.m3_laws.proofs.credits.Issue.{came_through}
use Rattle.m3_laws.proofs.invariant.step.IssueEffects.{NewPacket, issue_effect}
use Rattle.m3_pipe_laws.specs.Pipe.{endpoint_in}
use Rattle.m3_pipe_laws.specs.Exclusion.{Unused, AllUnused, WritesNot, NoWrites, NoWriteFlies}
use Rattle.m3_pipe_laws.proofs.Runs.Opening.{calm_opening}
use Rattle.std.proofs.lemmas.Option.{same_Some}

-- no write through g
abbrev pub NotBy : ℕ → Packet → Type 0
NotBy g (Packet.Write y h place payload) = h ≢ g
NotBy g p = Unit {0}

abbrev pub AllNot : ℕ → List Packet → Type 0
AllNot g fs = (id : FlightId) (p : Packet) → flight id fs ≡ Some p → NotBy g p

abbrev pub NewNot : ℕ → Option Packet → Type 0
NewNot g None = Unit {0}
NewNot g (Some p) = NotBy g p

-- ---- commands

module _ (g : ℕ) (c : Context) where
  send_not : (ep : ℕ) (payload : List ℕ) (to : Option ℕ) (y : Endpoint) → NewNot g (send c ep payload to y).packet
  send_not ep payload to Free = tt
  send_not ep payload to (Receives r) = tt
  send_not ep payload to (Reaches r) = tt
  send_not ep payload to (Sends r) = by_why (send_refusal c r payload to)
    where
      by_why : (w : Option Refusal) → NewNot g (unless_refusal w c (record { told = IssueOutcome.Flies (next_id c); packet = Some (send_packet c r payload to); context = with_endpoint (with_flying_command c Sending ep 0) ep (Sends (less_one r)) })).packet
      by_why (Some w) = tt
      by_why None = tt

  reply_not : (ep token : ℕ) (payload : List ℕ) (y : Endpoint) → NewNot g (reply c ep token payload y).packet
  reply_not ep token payload Free = tt
  reply_not ep token payload (Sends r) = tt
  reply_not ep token payload (Reaches r) = tt
  reply_not ep token payload (Receives r) = by_why (reply_refusal r token payload) (unmarked_message (fetched_at token r.fetched))
    where
      by_why : (w : Option Refusal) (o : Option Message) → NewNot g (unless_refusal w c (reply_to c ep token payload r o)).packet
      by_why (Some w) o = tt
      by_why None None = tt
      by_why None (Some m) = tt

  fetch_not : (ep : ℕ) (y : Endpoint) → NewNot g (fetch c ep y).packet
  fetch_not ep Free = tt
  fetch_not ep (Sends r) = tt
  fetch_not ep (Reaches r) = tt
  fetch_not ep (Receives r) = by_why (first_of ((r.closing, Refusal.Revoked) ∷ [])) r.unread
    where
      by_why : (w : Option Refusal) (ms : List Message) → NewNot g (unless_refusal w c (fetch_from c ep r ms)).packet
      by_why (Some w) ms = tt
      by_why None [] = tt
      by_why None (m ∷ ms) = tt

  acknowledge_not : (ep token : ℕ) (y : Endpoint) → NewNot g (acknowledge c ep token y).packet
  acknowledge_not ep token Free = tt
  acknowledge_not ep token (Sends r) = tt
  acknowledge_not ep token (Reaches r) = tt
  acknowledge_not ep token (Receives r) = by_why (first_of ((r.closing, Refusal.Revoked) ∷ [])) (unmarked_message (fetched_at token r.fetched))
    where
      by_flags : (m : Message) (b : Bool) → NewNot g (after_acknowledge c ep r token m b).packet
      by_flags m true = tt
      by_flags m false = tt

      by_why : (w : Option Refusal) (o : Option Message) → NewNot g (unless_refusal w c (acknowledge_at c ep r token o)).packet
      by_why (Some w) o = tt
      by_why None None = tt
      by_why None (Some m) = by_flags m (m.header.flags == 0)

  access_not : (kind : Kind) (ep : ℕ) (p : Packet) (w : Option Refusal) → NotBy g p → NewNot g (unless_refusal w c (access c kind ep p)).packet
  access_not kind ep p (Some w) h = tt
  access_not kind ep p None h = h

  read_not : (ep off len : ℕ) (y : Endpoint) → NewNot g (read c ep off len y).packet
  read_not ep off len Free = tt
  read_not ep off len (Sends r) = tt
  read_not ep off len (Receives r) = tt
  read_not ep off len (Reaches r) = access_not Reading ep _ (access_refusal r off len (may_read r.perm)) tt

  write_not : (ep off : ℕ) (payload : List ℕ) (y : Endpoint) → grant_of y ≢ Some g → NewNot g (write c ep off payload y).packet
  write_not ep off payload Free h = tt
  write_not ep off payload (Sends r) h = tt
  write_not ep off payload (Receives r) h = tt
  write_not ep off payload (Reaches r) h = access_not Writing ep _ (access_refusal r off (length payload) (may_write r.perm)) (λ q. h (ap Some q))

abbrev pub CommandNot : ℕ → Context → Command → Type 0
CommandNot g c (Command.Write ep off payload) = grant_of (endpoint c ep) ≢ Some g
CommandNot g c k = Unit {0}

issue_not : (g : ℕ) (c : Context) (k : Command) (i : Issued) → CommandNot g c k → issue c k ≡ Some i → NewNot g i.packet
issue_not g c (Command.Send ep payload to) i h q = subst (λ z. NewNot g z.packet) (came_through (is_busy c) _ i q) (send_not g c ep payload to (endpoint c ep))
issue_not g c (Command.Reply ep token payload) i h q = subst (λ z. NewNot g z.packet) (came_through (is_busy c) _ i q) (reply_not g c ep token payload (endpoint c ep))
issue_not g c (Command.Fetch ep) i h q = subst (λ z. NewNot g z.packet) (same_Some _ i q) (fetch_not g c ep (endpoint c ep))
issue_not g c (Command.Acknowledge ep token) i h q = subst (λ z. NewNot g z.packet) (same_Some _ i q) (acknowledge_not g c ep token (endpoint c ep))
issue_not g c (Command.Read ep off len) i h q = subst (λ z. NewNot g z.packet) (came_through (is_busy c) _ i q) (read_not g c ep off len (endpoint c ep))
issue_not g c (Command.Write ep off payload) i h q = subst (λ z. NewNot g z.packet) (came_through (is_busy c) _ i q) (write_not g c ep off payload (endpoint c ep) h)

-- ---- steps

module _ (g : ℕ) (s : State) (law : Invariant s) (h : AllNot g s.flights) where
  changed : (old p : Packet) → flight (name_of p) s.flights ≡ Some old → NotBy g p → AllNot g (change_flight p s.flights)
  changed old p find k id q z = by_found (found_changed id q old p s.flights find z)
    where
      by_found : (q ≡ p) ⊎ (flight id s.flights ≡ Some q) → NotBy g q
      by_found (inl y) = subst (NotBy g) (sym y) k
      by_found (inr y) = h id q y

  new : (p : Packet) → Apart (name_of p) s.flights → NotBy g p → AllNot g (new_flight p s.flights)
  new p apart k id q z = by_found (found_new id q p s.flights apart z)
    where
      by_found : (q ≡ p) ⊎ (flight id s.flights ≡ Some q) → NotBy g q
      by_found (inl y) = subst (NotBy g) (sym y) k
      by_found (inr y) = h id q y

  over : (x : FlightId) → AllNot g (end_flight x s.flights)
  over x id q z = h id q (found_ended x id q s.flights law.lawful.placed.distinct z)

  abbrev pub Keeps : Option IdealResult → Type 0
  Keeps None = Unit {0}
  Keeps (Some n) = AllNot g n.state.flights

  issued_keeps : (a : ℕ) (k : Command) (c : Context) → context_of a s.contexts ≡ Some c → CommandNot g c k → (o : Option Issued) → issue c k ≡ o → Keeps (issued_in s o)
  issued_keeps a k c at n None q = tt
  issued_keeps a k c at n (Some i) q = by_packet i.packet (issue_effect c k i q ((law.lawful.traffic.contexts a c at).fresh c.next (omega arith))).packet (issue_not g c k i n q)
    where
      by_packet : (mp : Option Packet) → NewPacket c i.context mp → NewNot g mp → AllNot g (with_packet mp s.flights)
      by_packet None v w = h
      by_packet (Some p) v w = new p (subst (λ z. Apart z s.flights) (sym v.0) ((law.lawful.traffic.contexts a c at).apart c.next (omega arith))) w

  command_there : (a : ℕ) (k : Command) (c : Context) → context_of a s.contexts ≡ Some c → WritesNot g s (Step.Issue a k) → CommandNot g c k
  command_there a (Command.Write ep off payload) c at n = λ q. n (ap (λ z. grant_of (endpoint_in ep z)) at ∙ q)
  command_there a (Command.Send ep payload to) c at n = tt
  command_there a (Command.Reply ep token payload) c at n = tt
  command_there a (Command.Fetch ep) c at n = tt
  command_there a (Command.Acknowledge ep token) c at n = tt
  command_there a (Command.Read ep off len) c at n = tt

  issue_keeps : (a : ℕ) (k : Command) → WritesNot g s (Step.Issue a k) → (o : Option Context) → context_of a s.contexts ≡ o → Keeps (issue_in s o k)
  issue_keeps a k n None at = tt
  issue_keeps a k n (Some c) at = issued_keeps a k c at (command_there a k c at n) (issue c k) refl

  message_keeps : (id : FlightId) (to ep x : ℕ) (m : Message) → flight id s.flights ≡ Some (Packet.Message to ep x m) → (o : Option Context) → Keeps (message_in s id ep x m o)
  message_keeps id to ep x m find None = tt
  message_keeps id to ep x m find (Some c) = by_why (land_refusal x m (endpoint c ep))
    where
      its : flight (message_id m) s.flights ≡ Some (Packet.Message to ep x m)
      its = subst (λ z. flight z s.flights ≡ Some (Packet.Message to ep x m)) (name_found id (Packet.Message to ep x m) s.flights find) find

      by_why : (w : Option Refusal) → AllNot g (change_flight (land_by ep m c w).answer s.flights)
      by_why (Some w) = changed (Packet.Message to ep x m) (Packet.Answer (message_id m) (Answer.Refused w)) its tt
      by_why None = changed (Packet.Message to ep x m) (Packet.Answer (message_id m) (landed_answer m)) its tt

  credit_keeps : (id : FlightId) (x : ℕ) (o : Option Context) → Keeps (credit_in s id x o)
  credit_keeps id x None = tt
  credit_keeps id x (Some c) = over id

  install_keeps : (id : FlightId) (ep : ℕ) (f : Fresh) (o : Option Context) → Keeps (install_in s id ep f o)
  install_keeps id ep f None = tt
  install_keeps id ep f (Some c) = over id

  close_keeps : (id : FlightId) (ep x : ℕ) (o : Option Context) → Keeps (close_in s id ep x o)
  close_keeps id ep x None = tt
  close_keeps id ep x (Some c) = by_test (has_live x (endpoint c ep))
    where
      by_test : (b : Bool) → Keeps (if b then step_to (if flies_at ep c then Starts_closing id x else Closes_endpoint id x) (after_ending s id (with_endpoint c ep (closed_at (endpoint c ep)))) else None)
      by_test true = over id
      by_test false = tt

  land_keeps : (id : FlightId) (o : Option Packet) → flight id s.flights ≡ o → Keeps (land_in s id o)
  land_keeps id None find = tt
  land_keeps id (Some (Packet.Message to ep x m)) find = message_keeps id to ep x m find (context_of to s.contexts)
  land_keeps id (Some (Packet.Credit y to x)) find = credit_keeps id x (context_of to s.contexts)
  land_keeps id (Some (Packet.Read y x place buffer)) find = changed (Packet.Read y x place buffer) (Packet.Answer id (Answer.Bytes (bytes_at place (length buffer) s.memory))) find tt
  land_keeps id (Some (Packet.Write y x place payload)) find = changed (Packet.Write y x place payload) (Packet.Answer id Answer.Written) find tt
  land_keeps id (Some (Packet.Answer y answer)) find = tt
  land_keeps id (Some (Packet.Install y to ep f)) find = install_keeps id ep f (context_of to s.contexts)
  land_keeps id (Some (Packet.Close y to ep x)) find = close_keeps id ep x (context_of to s.contexts)

  settle_keeps : (id : FlightId) (answer : Answer) (c : Context) (o : Option Flying) → Keeps (settle_in s id answer c o)
  settle_keeps id answer c None = tt
  settle_keeps id answer c (Some f) = over id

  answer_keeps : (id : FlightId) (answer : Answer) (o : Option Context) → Keeps (answer_in s id answer o)
  answer_keeps id answer None = tt
  answer_keeps id answer (Some c) = settle_keeps id answer c (flying_at id.number c.flying)

  answered_keeps : (id : FlightId) (o : Option Packet) → Keeps (answered_in s id o)
  answered_keeps id (Some (Packet.Answer y answer)) = answer_keeps id answer (context_of id.issuer s.contexts)
  answered_keeps id None = tt
  answered_keeps id (Some (Packet.Message to ep x m)) = tt
  answered_keeps id (Some (Packet.Credit y to x)) = tt
  answered_keeps id (Some (Packet.Read y x place buffer)) = tt
  answered_keeps id (Some (Packet.Write y x place payload)) = tt
  answered_keeps id (Some (Packet.Install y to ep f)) = tt
  answered_keeps id (Some (Packet.Close y to ep x)) = tt

  await_keeps : (ep : ℕ) (o : Option Context) → Keeps (await_in s o ep)
  await_keeps ep None = tt
  await_keeps ep (Some c) = h

  kernel_apart : Apart (kernel_id s) s.flights
  kernel_apart = law.lawful.traffic.orders s.kernel_next (omega arith)

  make_keeps : (line : GrantLine) (w : Option No) (f : Option Fresh) → Keeps (make_in s line w f)
  make_keeps line (Some why) f = h
  make_keeps line None None = tt
  make_keeps line None (Some f) = new (Packet.Install (kernel_id s) (holder line) (holder_ep line) f) kernel_apart tt

  make_for_keeps : (line : GrantLine) (o : Option Context) → Keeps (make_for s line o)
  make_for_keeps line None = tt
  make_for_keeps line (Some c) = make_keeps line (make_refusal (length s.memory) s.grants line) (form (length s.grants + 1) line (undone (parent_in s.grants (parent_of line))))

  revoke_keeps : (x : ℕ) (w : Option No) → Keeps (revoke_in s x w)
  revoke_keeps x (Some why) = h
  revoke_keeps x None = h

  close_grant_keeps : (x : ℕ) (o : Option Grant) → Keeps (send_close_in s x o)
  close_grant_keeps x None = tt
  close_grant_keeps x (Some y) = by_test (may_close s.grants x (Some y))
    where
      by_test : (b : Bool) → Keeps (if b then step_to (Sends_close x (kernel_id s)) (close_sent s x y) else None)
      by_test true = new (Packet.Close (kernel_id s) (holder y.line) (holder_ep y.line) x) kernel_apart tt
      by_test false = tt

  free_keeps : (x ep : ℕ) (o : Option Context) → Keeps (free_in s x ep o)
  free_keeps x ep None = tt
  free_keeps x ep (Some c) = by_test (has_closing x (endpoint c ep) && not (flies_at ep c))
    where
      by_test : (b : Bool) → Keeps (if b then step_to (Frees x) (record s { contexts = put_context (with_endpoint c ep Free) s.contexts; grants = change_grant s.grants x to_closed }) else None)
      by_test true = h
      by_test false = tt

  closed_keeps : (x : ℕ) (o : Option Grant) → Keeps (closed_in s x o)
  closed_keeps x None = tt
  closed_keeps x (Some y) = free_keeps x (holder_ep y.line) (context_of (holder y.line) s.contexts)

  done_keeps : (x : ℕ) (o : Option Grant) → Keeps (done_in s x o)
  done_keeps x None = tt
  done_keeps x (Some y) = by_test (is_closed_grant y.standing)
    where
      by_test : (b : Bool) → Keeps (if b then step_to (Finishes x y.is_root) (record s { grants = change_grant s.grants x to_done }) else None)
      by_test true = h
      by_test false = tt

  step_keeps : (t : Step) → WritesNot g s t → Keeps (ideal_step s t)
  step_keeps (Step.Issue a k) n = issue_keeps a k n (context_of a s.contexts) refl
  step_keeps (Step.Await a ep) n = await_keeps ep (context_of a s.contexts)
  step_keeps (Step.Land id) n = land_keeps id (flight id s.flights) refl
  step_keeps (Step.Answered id) n = answered_keeps id (flight id s.flights)
  step_keeps (Step.Make line) n = make_for_keeps line (context_of (holder line) s.contexts)
  step_keeps (Step.Revoke x) n = revoke_keeps x (revoke_refusal (grant_in s.grants x))
  step_keeps (Step.Close x) n = close_grant_keeps x (grant_in s.grants x)
  step_keeps (Step.Closed x) n = closed_keeps x (grant_in s.grants x)
  step_keeps (Step.Done x) n = done_keeps x (grant_in s.grants x)

  after_keeps : (o : Option IdealResult) → Keeps o → AllNot g (state_after_steps s o).flights
  after_keeps None k = h
  after_keeps (Some n) k = k

unused : (g : ℕ) (fs : List Packet) → AllNot g fs → Unused g fs
unused g fs h id y place payload find = h id (Packet.Write y g place payload) find refl

run_unused : (g : ℕ) (s : State) (ts : List Step) → Invariant s → AllFit ts → AllNot g s.flights → NoWrites g s ts → AllUnused g s ts
run_unused g s [] law fit h n = tt
run_unused g s (t ∷ ts) law fit h n =
    let next = after_keeps g s law h (ideal_step s t) (step_keeps g s law h t n.0) in
    (unused g (state_after_steps s (ideal_step s t)).flights next, run_unused g (state_after_steps s (ideal_step s t)) ts (invariant_after s t fit.0 law) fit.1 next n.1)

pub none_flies : NoWriteFlies
none_flies setup steps g valid fit n = run_unused g (opening setup.memory setup.lines) steps (invariant_opening setup valid) fit nothing n
  where
    nothing : AllNot g (opening setup.memory setup.lines).flights
    nothing id p q = absurd (let z = (calm_opening setup.memory setup.lines).flights in let y : flight id [] ≡ Some p = subst (λ fs. flight id fs ≡ Some p) z q in cc)
