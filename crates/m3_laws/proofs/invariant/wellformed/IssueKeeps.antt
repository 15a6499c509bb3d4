-- A command of a well-formed context leaves it well-formed, and so is its packet.
use Rattle.std.proofs.Common.{◌≡◌, ℕ, ◌+◌, ◌<◌, ◌≤◌, Bool, true, false, List, [], ◌∷◌, ◌++◌, length, get_or, set, Some, None, refl, sym, subst, ◌∙◌, ap, arith, replicate}
use Rattle.std.specs.Prelude.{Option, ◌==◌, nat_lt, is_some}
use Rattle.std.proofs.lemmas.Bool.Decides.{nat_tests}
use Rattle.std.proofs.lemmas.List.{length-replicate}
use Rattle.m3_base.specs.declared.message.Message.{Message}
use Rattle.m3_base.specs.declared.packet.Packet.{Packet}
use Rattle.m3_base.specs.declared.packet.Fresh.{Fresh}
use Rattle.m3_base.specs.declared.command.Refusal.{Refusal}
use Rattle.m3_base.specs.declared.command.Command.{Command}
use Rattle.m3_base.specs.Ideal.Context.{Kind, Sending, Replying, Reading, Writing, Fetched, SendRecord, ReceiveRecord, MemoryRecord, Endpoint, Free, Sends, Receives, Reaches, Context, endpoint, with_endpoint}
use Rattle.m3_base.specs.Ideal.ReceiveRecord.{with_fetched, fetched_at, unmarked_message, without_token, with_mark, without_fetched, with_mark_at}
use Rattle.m3_base.specs.Ideal.Issue.{IssueOutcome, Issued, less_one, send, send_refusal, send_packet, is_bad_reply, reply_grant, or_else, live_receive, no_endpoint, reply, reply_to, reply_refusal, reply_packet, fetch, fetch_from, acknowledge, acknowledge_at, after_acknowledge, read, write, access, access_refusal, may_read, may_write, unless_refusal, first_of, with_flying_command, next_id, issue, is_busy}
use Rattle.m3_base.specs.Ideal.Landing.{grant_of, flying_at}
use Rattle.m3_base.specs.Ideal.State.{Grant, grant_in}
use Rattle.m3_base.specs.Ideal.Step.{number_of}
use Rattle.m3_base.specs.Ideal.Acceptance.{is_grant_number, is_reply_place, is_message, is_form}
use Rattle.m3_base.specs.Ideal.Flights.{kernel}
use Rattle.m3_laws.proofs.credits.Issue.{came_through}
use Rattle.m3_laws.proofs.invariant.step.IssueEffects.{flying_at-new}
use Rattle.m3_laws.specs.GrantInvariant.{form_of, fixed_part}
use Rattle.m3_laws.proofs.credits.Counting.{SameFixedParts, some_at}
use Rattle.m3_laws.proofs.invariant.records.RecordFormsStay.{face_put}
use Rattle.m3_laws.proofs.invariant.wellformed.ChangeKeeps.{same_grant, tidy_set}
use Rattle.m3_laws.specs.WellFormed.{use_by, expects, is_well_formed, are_valid_messages, are_valid_fetched, has_valid_queues, is_sent_as, is_entitled, uses_send, uses_read, uses_write, WellFormedContext}
use Rattle.std.proofs.lemmas.Option.{same_Some}
use Rattle.m3_base.specs.Limits.{is_within}

-- a record's grant, with its form and number in their ranges
pub record Recorded (gs : List Grant) (f : Fresh) : Type 0 where
  pub grant : Grant
  pub found : grant_in gs (number_of f) ≡ Some grant
  pub fresh : grant.fresh ≡ f
  pub proper : is_form f ≡ true
  pub number : is_grant_number (number_of f) ≡ true

abbrev pub NewProper : List Grant → Context → ℕ → Option Packet → Type 0
NewProper gs d n None = Unit {0}
NewProper gs d n (Some p) = (is_well_formed p ≡ true) × ((expects (use_by d (flying_at n d.flying)) p ≡ true) × (is_entitled gs p ≡ true))

pub record Emits (gs : List Grant) (c : Context) (i : Issued) : Type 0 where
  pub context : WellFormedContext i.context
  pub packet : NewProper gs i.context c.next i.packet

-- what a context has to be
pub record Ready (gs : List Grant) (c : Context) : Type 0 where
  pub proper : WellFormedContext c
  pub act : c.act < kernel
  pub cells : length c.endpoints ≡ 16
  pub none : flying_at c.next c.flying ≡ None
  pub records : (ep : ℕ) (f : Fresh) → form_of (endpoint c ep) ≡ Some f → Recorded gs f

module _ (gs : List Grant) (c : Context) (ready : Ready gs c) where
  stays : (i : Issued) → i.context ≡ c → i.packet ≡ None → Emits gs c i
  stays i e p = record {
    context = subst WellFormedContext (sym e) ready.proper;
    packet = subst (NewProper gs i.context c.next) (sym p) tt;
  }

  -- the new command's use
  launched_use : (d : Context) (kind : Kind) (ep token : ℕ) → SameFixedParts c d → d.flying ≡ c.flying ++ record { number = c.next; kind = kind; ep = ep; token = token } ∷ [] → use_by d (flying_at c.next d.flying) ≡ Some (record { kind = kind; grant = grant_of (endpoint c ep) })
  launched_use d kind ep token faces e =
      ap (λ z. use_by d (flying_at c.next z)) e
      ∙ (ap (use_by d) (flying_at-new (record { number = c.next; kind = kind; ep = ep; token = token }) c.flying ready.none)
      ∙ ap (λ z. Some (record { kind = kind; grant = z })) (same_grant c d faces ep))

  set_proper : (d : Context) (ep : ℕ) (e : Endpoint) → d.endpoints ≡ set c.endpoints ep e → c.next ≤ d.next → has_valid_queues e ≡ true → WellFormedContext d
  set_proper d ep e same next tidy =
      let old = ready.proper.next in
      record {
        next = omega (arith, old, next);
        queues = λ i. subst (λ es. has_valid_queues (get_or es i Free) ≡ true) (sym same) (tidy_set c.endpoints ep e ready.proper.queues tidy i);
      }

  -- ---- send

  live_place : (e : ℕ) (o : Endpoint) → endpoint c e ≡ o → is_some (live_receive o) ≡ true → (e < 16) × (is_grant_number (or_else (live_receive o) 0) ≡ true)
  live_place e Free at h = absurd (cc)
  live_place e (Sends r) at h = absurd (cc)
  live_place e (Reaches r) at h = absurd (cc)
  live_place e (Receives r) at h = by_closing r.closing refl
    where
      inside : e < length c.endpoints
      inside = (some_at (λ x. is_some (grant_of x)) c.endpoints e refl (ap (λ x. is_some (grant_of x)) at)).1

      by_closing : (b : Bool) → r.closing ≡ b → (e < 16) × (is_grant_number (or_else (live_receive (Receives r)) 0) ≡ true)
      by_closing true w = absurd (grind (arith, h, w))
      by_closing false w =
          let k = (ready.records e (Fresh.Receive r.grant r.slots r.size) (ap form_of at)).number in
          (omega (arith, inside, ready.cells), grind (arith, w, k))

  reply_place : (to : Option ℕ) → is_bad_reply c to ≡ false → is_reply_place (or_else to no_endpoint) (reply_grant c to) ≡ true
  reply_place None h = refl
  reply_place (Some e) h =
      let live = live_place e (endpoint c e) refl (grind (arith, h)) in
      grind (arith, nat_tests, live)

  send_message : (ep : ℕ) (payload : List ℕ) (to : Option ℕ) (r : SendRecord) → endpoint c ep ≡ Sends r → send_refusal c r payload to ≡ None → is_well_formed (send_packet c r payload to) ≡ true
  send_message ep payload to r at w =
      let k = ready.records ep (Fresh.Send r.grant r.to r.to_ep r.to_grant r.label r.size r.limit) (ap form_of at) in
      let size : is_within 1 512 r.size ≡ true = grind (arith, k.proper) in
      let number : is_grant_number r.grant ≡ true = k.number in
      let place = reply_place to (grind (arith, w)) in
      let short : nat_lt r.size (length payload) ≡ false = grind (arith, w) in
      let next = ready.proper.next in
      grind (arith, nat_tests, size, number, place, short, next)

  sent_as : (ep : ℕ) (payload : List ℕ) (to : Option ℕ) (r : SendRecord) → endpoint c ep ≡ Sends r → send_refusal c r payload to ≡ None → is_sent_as r.to r.to_ep r.to_grant (length payload) (grant_in gs r.grant) ≡ true
  sent_as ep payload to r at w =
      let k = ready.records ep (Fresh.Send r.grant r.to r.to_ep r.to_grant r.label r.size r.limit) (ap form_of at) in
      let short : nat_lt r.size (length payload) ≡ false = grind (arith, w) in
      rw (k.found) (rw (k.fresh) (grind (arith, nat_tests, short)))

  sent : (ep : ℕ) (payload : List ℕ) (to : Option ℕ) (r : SendRecord) → endpoint c ep ≡ Sends r → (why : Option Refusal) → send_refusal c r payload to ≡ why → Emits gs c (unless_refusal why c (record { told = IssueOutcome.Flies (next_id c); packet = Some (send_packet c r payload to); context = with_endpoint (with_flying_command c Sending ep 0) ep (Sends (less_one r)) }))
  sent ep payload to r at (Some why) w = stays _ refl refl
  sent ep payload to r at None w =
      let d : Context = with_endpoint (with_flying_command c Sending ep 0) ep (Sends (less_one r)) in
      let faces : SameFixedParts c d = face_put c d ep (Sends (less_one r)) refl refl (ap fixed_part (sym at)) in
      let used = launched_use d Sending ep 0 faces refl in
      let grant : grant_of (endpoint c ep) ≡ Some r.grant = ap grant_of at in
      record {
        context = set_proper d ep (Sends (less_one r)) refl (omega arith) refl;
        packet = (send_message ep payload to r at w, (ap (uses_send r.grant) used ∙ grind (arith, nat_tests, grant), sent_as ep payload to r at w));
      }

  send_emits : (ep : ℕ) (payload : List ℕ) (to : Option ℕ) (e : Endpoint) → endpoint c ep ≡ e → Emits gs c (send c ep payload to e)
  send_emits ep payload to (Sends r) at = sent ep payload to r at (send_refusal c r payload to) refl
  send_emits ep payload to Free at = stays _ refl refl
  send_emits ep payload to (Receives r) at = stays _ refl refl
  send_emits ep payload to (Reaches r) at = stays _ refl refl

-- ---- queues

pub messages_push : (ms : List Message) (m : Message) → are_valid_messages ms ≡ true → is_message m ≡ true → are_valid_messages (ms ++ m ∷ []) ≡ true
messages_push [] m a h = grind (arith, h)
messages_push (x ∷ ms) m a h = grind (arith, a, messages_push ms m, h)

pub fetched_push : (fs : List Fetched) (f : Fetched) → are_valid_fetched fs ≡ true → is_message f.message ≡ true → are_valid_fetched (fs ++ f ∷ []) ≡ true
fetched_push [] f a h = grind (arith, h)
fetched_push (x ∷ fs) f a h = grind (arith, a, fetched_push fs f, h)

pub fetched_less : (t : ℕ) (fs : List Fetched) → are_valid_fetched fs ≡ true → are_valid_fetched (without_token t fs) ≡ true
fetched_less t [] a = refl
fetched_less t (x ∷ fs) a = grind (arith, a, fetched_less t fs)

pub fetched_marked : (b : Bool) (t : ℕ) (fs : List Fetched) → are_valid_fetched fs ≡ true → are_valid_fetched (with_mark b t fs) ≡ true
fetched_marked b t [] a = refl
fetched_marked b t (x ∷ fs) a = grind (arith, a, fetched_marked b t fs)

pub fetched_message : (t : ℕ) (m : Message) (fs : List Fetched) → are_valid_fetched fs ≡ true → unmarked_message (fetched_at t fs) ≡ Some m → is_message m ≡ true
fetched_message t m [] a e = absurd (cc)
fetched_message t m (x ∷ fs) a e = by_token (x.token == t) refl (fetched_message t m fs (grind (arith, a)))
  where
    by_token : (b : Bool) → (x.token == t) ≡ b → (unmarked_message (fetched_at t fs) ≡ Some m → is_message m ≡ true) → is_message m ≡ true
    by_token true w ih = let same : x.message ≡ m = grind (arith, w, e) in subst (λ z. is_message z ≡ true) same (grind (arith, a))
    by_token false w ih = ih (grind (arith, w, e))

module _ (gs : List Grant) (c : Context) (ready : Ready gs c) where
  queues : (ep : ℕ) (r : ReceiveRecord) → endpoint c ep ≡ Receives r → (are_valid_messages r.unread ≡ true) × (are_valid_fetched r.fetched ≡ true)
  queues ep r at =
      let t : has_valid_queues (Receives r) ≡ true = subst (λ z. has_valid_queues z ≡ true) at (ready.proper.queues ep) in
      (grind (arith, t), grind (arith, t))

  -- ---- reply

  reply_message : (payload : List ℕ) (m : Message) → is_message m ≡ true → nat_lt 512 (length payload) ≡ false → is_well_formed (reply_packet c payload m) ≡ true
  reply_message payload m h short =
      let next = ready.proper.next in
      let number : is_grant_number m.header.send ≡ true = grind (arith, h) in
      grind (arith, nat_tests, number, short, next)

  replied : (ep token : ℕ) (payload : List ℕ) (r : ReceiveRecord) → endpoint c ep ≡ Receives r → (why : Option Refusal) → reply_refusal r token payload ≡ why → (o : Option Message) → unmarked_message (fetched_at token r.fetched) ≡ o → Emits gs c (unless_refusal why c (reply_to c ep token payload r o))
  replied ep token payload r at (Some why) w o e = stays gs c ready _ refl refl
  replied ep token payload r at None w None e = stays gs c ready _ refl refl
  replied ep token payload r at None w (Some m) e =
      let q = queues ep r at in
      let d : Context = with_endpoint (with_flying_command c Replying ep token) ep (Receives (with_mark_at true r token)) in
      let faces : SameFixedParts c d = face_put c d ep (Receives (with_mark_at true r token)) refl refl (ap fixed_part (sym at)) in
      let used = launched_use gs c ready d Replying ep token faces refl in
      let tidy : has_valid_queues (Receives (with_mark_at true r token)) ≡ true = grind (arith, q, fetched_marked true token r.fetched) in
      record {
        context = set_proper gs c ready d ep (Receives (with_mark_at true r token)) refl (omega arith) tidy;
        packet = (reply_message payload m (fetched_message token m r.fetched q.1 e) (grind (arith, w)), (ap (λ z. expects z (reply_packet c payload m)) used ∙ refl, refl));
      }

  reply_emits : (ep token : ℕ) (payload : List ℕ) (e : Endpoint) → endpoint c ep ≡ e → Emits gs c (reply c ep token payload e)
  reply_emits ep token payload (Receives r) at = replied ep token payload r at (reply_refusal r token payload) refl (unmarked_message (fetched_at token r.fetched)) refl
  reply_emits ep token payload Free at = stays gs c ready _ refl refl
  reply_emits ep token payload (Sends r) at = stays gs c ready _ refl refl
  reply_emits ep token payload (Reaches r) at = stays gs c ready _ refl refl

  -- ---- fetch and acknowledge

  fetched : (ep : ℕ) (r : ReceiveRecord) → endpoint c ep ≡ Receives r → (why : Option Refusal) (ms : List Message) → r.unread ≡ ms → Emits gs c (unless_refusal why c (fetch_from c ep r ms))
  fetched ep r at (Some why) ms e = stays gs c ready _ refl refl
  fetched ep r at None [] e = stays gs c ready _ refl refl
  fetched ep r at None (m ∷ rest) e =
      let q = queues ep r at in
      let all : are_valid_messages (m ∷ rest) ≡ true = ap are_valid_messages (sym e) ∙ q.0 in
      let tidy : has_valid_queues (Receives (with_fetched r m rest)) ≡ true = grind (arith, q, all, fetched_push r.fetched (record { token = r.next_token; marked = false; message = m })) in
      record { context = set_proper gs c ready (with_endpoint c ep (Receives (with_fetched r m rest))) ep (Receives (with_fetched r m rest)) refl (omega arith) tidy; packet = tt }

  fetch_emits : (ep : ℕ) (e : Endpoint) → endpoint c ep ≡ e → Emits gs c (fetch c ep e)
  fetch_emits ep (Receives r) at = fetched ep r at (first_of ((r.closing, Refusal.Revoked) ∷ [])) r.unread refl
  fetch_emits ep Free at = stays gs c ready _ refl refl
  fetch_emits ep (Sends r) at = stays gs c ready _ refl refl
  fetch_emits ep (Reaches r) at = stays gs c ready _ refl refl

  acks : (ep token : ℕ) (r : ReceiveRecord) (m : Message) → endpoint c ep ≡ Receives r → (b : Bool) → Emits gs c (after_acknowledge c ep r token m b)
  acks ep token r m at b =
      let q = queues ep r at in
      let tidy : has_valid_queues (Receives (without_fetched r token)) ≡ true = grind (arith, q, fetched_less token r.fetched) in
      by_flag b tidy
    where
      by_flag : (b : Bool) → has_valid_queues (Receives (without_fetched r token)) ≡ true → Emits gs c (after_acknowledge c ep r token m b)
      by_flag false tidy = record { context = set_proper gs c ready (with_endpoint c ep (Receives (without_fetched r token))) ep (Receives (without_fetched r token)) refl (omega arith) tidy; packet = tt }
      by_flag true tidy =
          let next = ready.proper.next in
          let act = ready.act in
          record {
            context = set_proper gs c ready (record (with_endpoint c ep (Receives (without_fetched r token))) { next = c.next + 1 }) ep (Receives (without_fetched r token)) refl (omega arith) tidy;
            packet = (grind (arith, nat_tests, next, act), (grind arith, refl));
          }

  ack_or_not : (ep token : ℕ) (r : ReceiveRecord) → endpoint c ep ≡ Receives r → (why : Option Refusal) (o : Option Message) → Emits gs c (unless_refusal why c (acknowledge_at c ep r token o))
  ack_or_not ep token r at (Some why) o = stays gs c ready _ refl refl
  ack_or_not ep token r at None None = stays gs c ready _ refl refl
  ack_or_not ep token r at None (Some m) = acks ep token r m at (m.header.flags == 0)

  acknowledge_emits : (ep token : ℕ) (e : Endpoint) → endpoint c ep ≡ e → Emits gs c (acknowledge c ep token e)
  acknowledge_emits ep token (Receives r) at = ack_or_not ep token r at (first_of ((r.closing, Refusal.Revoked) ∷ [])) (unmarked_message (fetched_at token r.fetched))
  acknowledge_emits ep token Free at = stays gs c ready _ refl refl
  acknowledge_emits ep token (Sends r) at = stays gs c ready _ refl refl
  acknowledge_emits ep token (Reaches r) at = stays gs c ready _ refl refl

  -- ---- read and write

  recorded_range : (ep : ℕ) (r : MemoryRecord) → endpoint c ep ≡ Reaches r → Recorded gs (Fresh.Memory r.grant r.start r.length r.perm)
  recorded_range ep r at = ready.records ep (Fresh.Memory r.grant r.start r.length r.perm) (ap form_of at)

  read_does : (ep off len : ℕ) (r : MemoryRecord) → endpoint c ep ≡ Reaches r → (why : Option Refusal) → access_refusal r off len (may_read r.perm) ≡ why → Emits gs c (unless_refusal why c (access c Reading ep (Packet.Read (next_id c) r.grant (r.start + off) (replicate len 0))))
  read_does ep off len r at (Some why) w = stays gs c ready _ refl refl
  read_does ep off len r at None w =
      let next = ready.proper.next in
      let k = recorded_range ep r at in
      let zeros : List ℕ = replicate len 0 in
      let long : length zeros ≡ len = length-replicate len 0 in
      let short : nat_lt 4096 len ≡ false = grind (arith, w) in
      let inside : nat_lt r.length (off + len) ≡ false = grind (arith, w) in
      let allowed : may_read r.perm ≡ true = grind (arith, w) in
      let d : Context = with_flying_command c Reading ep 0 in
      let used = launched_use gs c ready d Reading ep 0 (record { act = refl; faces = refl }) refl in
      let grant : grant_of (endpoint c ep) ≡ Some r.grant = ap grant_of at in
      let found = k.found in
      let fresh = k.fresh in
      record {
        context = record { next = omega arith; queues = ready.proper.queues };
        packet = (grind (arith, nat_tests, next, long, short), (ap (uses_read r.grant) used ∙ grind (arith, nat_tests, grant), grind (arith, nat_tests, long, inside, allowed, found, fresh)));
      }

  write_does : (ep off : ℕ) (payload : List ℕ) (r : MemoryRecord) → endpoint c ep ≡ Reaches r → (why : Option Refusal) → access_refusal r off (length payload) (may_write r.perm) ≡ why → Emits gs c (unless_refusal why c (access c Writing ep (Packet.Write (next_id c) r.grant (r.start + off) payload)))
  write_does ep off payload r at (Some why) w = stays gs c ready _ refl refl
  write_does ep off payload r at None w =
      let next = ready.proper.next in
      let k = recorded_range ep r at in
      let short : nat_lt 4096 (length payload) ≡ false = grind (arith, w) in
      let inside : nat_lt r.length (off + length payload) ≡ false = grind (arith, w) in
      let allowed : may_write r.perm ≡ true = grind (arith, w) in
      let d : Context = with_flying_command c Writing ep 0 in
      let used = launched_use gs c ready d Writing ep 0 (record { act = refl; faces = refl }) refl in
      let grant : grant_of (endpoint c ep) ≡ Some r.grant = ap grant_of at in
      let found = k.found in
      let fresh = k.fresh in
      record {
        context = record { next = omega arith; queues = ready.proper.queues };
        packet = (grind (arith, nat_tests, next, short), (ap (uses_write r.grant) used ∙ grind (arith, nat_tests, grant), grind (arith, nat_tests, inside, allowed, found, fresh)));
      }

  read_emits : (ep off len : ℕ) (e : Endpoint) → endpoint c ep ≡ e → Emits gs c (read c ep off len e)
  read_emits ep off len (Reaches r) at = read_does ep off len r at (access_refusal r off len (may_read r.perm)) refl
  read_emits ep off len Free at = stays gs c ready _ refl refl
  read_emits ep off len (Sends r) at = stays gs c ready _ refl refl
  read_emits ep off len (Receives r) at = stays gs c ready _ refl refl

  write_emits : (ep off : ℕ) (payload : List ℕ) (e : Endpoint) → endpoint c ep ≡ e → Emits gs c (write c ep off payload e)
  write_emits ep off payload (Reaches r) at = write_does ep off payload r at (access_refusal r off (length payload) (may_write r.perm)) refl
  write_emits ep off payload Free at = stays gs c ready _ refl refl
  write_emits ep off payload (Sends r) at = stays gs c ready _ refl refl
  write_emits ep off payload (Receives r) at = stays gs c ready _ refl refl

  -- ---- any command

  pub issue_emits : (k : Command) (i : Issued) → issue c k ≡ Some i → Emits gs c i
  issue_emits (Command.Send ep payload to) i e = subst (Emits gs c) (came_through (is_busy c) _ i e) (send_emits gs c ready ep payload to (endpoint c ep) refl)
  issue_emits (Command.Reply ep token payload) i e = subst (Emits gs c) (came_through (is_busy c) _ i e) (reply_emits ep token payload (endpoint c ep) refl)
  issue_emits (Command.Fetch ep) i e = subst (Emits gs c) (same_Some _ i e) (fetch_emits ep (endpoint c ep) refl)
  issue_emits (Command.Acknowledge ep token) i e = subst (Emits gs c) (same_Some _ i e) (acknowledge_emits ep token (endpoint c ep) refl)
  issue_emits (Command.Read ep off len) i e = subst (Emits gs c) (came_through (is_busy c) _ i e) (read_emits ep off len (endpoint c ep) refl)
  issue_emits (Command.Write ep off payload) i e = subst (Emits gs c) (came_through (is_busy c) _ i e) (write_emits ep off payload (endpoint c ep) refl)
