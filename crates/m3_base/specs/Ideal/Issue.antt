-- What a command does where it is issued.
use Rattle.std.specs.Prelude.{ℕ, ◌+◌, ◌-◌, Bool, true, false, not, ◌||◌, ◌==◌, nat_lt, nat_le, List, [], ◌∷◌, ◌++◌, length, replicate, Option, Some, None, is_some, is_none, if◌then◌else◌}
use Rattle.m3_base.specs.declared.ids.FlightId.{FlightId}
use Rattle.m3_base.specs.declared.message.Header.{Header}
use Rattle.m3_base.specs.declared.message.Message.{Message}
use Rattle.m3_base.specs.declared.command.Command.{Command}
use Rattle.m3_base.specs.declared.command.Refusal.{Refusal}
use Rattle.m3_base.specs.declared.command.Reply.{Reply}
use Rattle.m3_base.specs.declared.packet.Packet.{Packet}
use Rattle.m3_base.specs.declared.packet.Perm.{Perm}
use Rattle.m3_base.specs.Ideal.Context.{Kind, Sending, Replying, Reading, Writing, SendRecord, ReceiveRecord, MemoryRecord, Endpoint, Free, Sends, Receives, Reaches, Context, endpoint, with_endpoint}
use Rattle.m3_base.specs.Ideal.ReceiveRecord.{with_fetched, fetched_at, unmarked_message, without_fetched, with_mark_at}

-- how many commands of an activity fly at most
abbrev pub window : ℕ
window = 1

-- no reply endpoint
abbrev pub no_endpoint : ℕ
no_endpoint = 255

-- what the issuer is told at once
pub data IssueOutcome : Type 0 where
  Gives : Reply → IssueOutcome
  Flies : FlightId → IssueOutcome

pub record Issued : Type 0 where
  pub told : IssueOutcome
  pub packet : Option Packet
  pub context : Context

-- the first refusal whose test holds
abbrev pub first_of : List (Bool × Refusal) → Option Refusal
first_of [] = None
first_of (t ∷ ts) = if t.0 then Some t.1 else first_of ts

abbrev pub immediate_reply : Context → Reply → Issued
immediate_reply c r = record { told = Gives r; packet = None; context = c }

-- what is done where there is no refusal
abbrev pub unless_refusal : Option Refusal → Context → Issued → Issued
unless_refusal (Some x) c done = immediate_reply c (Reply.Refused x)
unless_refusal None c done = done

-- the name of the next flight
abbrev pub next_id : Context → FlightId
next_id c = record { issuer = c.act; number = c.next }

-- one more command flies
abbrev pub with_flying_command : Context → Kind → ℕ → ℕ → Context
with_flying_command c kind ep token =
    record c { flying = c.flying ++ record { number = c.next; kind = kind; ep = ep; token = token } ∷ []; next = c.next + 1 }

-- the grant of a live receive record
abbrev pub live_receive : Endpoint → Option ℕ
live_receive (Receives r) = if r.closing then None else Some r.grant
live_receive Free = None
live_receive (Sends r) = None
live_receive (Reaches r) = None

abbrev pub is_bad_reply : Context → Option ℕ → Bool
is_bad_reply c None = false
is_bad_reply c (Some e) = not (is_some (live_receive (endpoint c e)))

abbrev pub or_else : Option ℕ → ℕ → ℕ
or_else None d = d
or_else (Some x) d = x

abbrev pub reply_grant : Context → Option ℕ → ℕ
reply_grant c None = 0
reply_grant c (Some e) = or_else (live_receive (endpoint c e)) 0

-- ---- send

abbrev pub send_header : Context → SendRecord → List ℕ → Option ℕ → Header
send_header c r payload reply =
    record {
      flags = 0;
      reply_ep = or_else reply no_endpoint;
      sender = c.act;
      lane = 0;
      length = length payload;
      send = r.grant;
      reply = reply_grant c reply;
      number = c.next;
      label = r.label;
    }

abbrev pub send_packet : Context → SendRecord → List ℕ → Option ℕ → Packet
send_packet c r payload reply =
    Packet.Message r.to r.to_ep r.to_grant (record { header = send_header c r payload reply; payload = payload })

abbrev pub send_refusal : Context → SendRecord → List ℕ → Option ℕ → Option Refusal
send_refusal c r payload reply =
    first_of (
    (r.closing, Refusal.Revoked)
    ∷ (is_bad_reply c reply, Refusal.BadReplyEndpoint)
    ∷ (nat_lt r.size (length payload), Refusal.TooLarge)
    ∷ (r.held == 0, Refusal.NoCredits)
    ∷ []
    )

abbrev pub less_one : SendRecord → SendRecord
less_one r = record r { held = r.held - 1 }

abbrev pub wrong_kind : Context → Issued
wrong_kind c = immediate_reply c (Reply.Refused Refusal.NoEndpoint)

abbrev pub send : Context → ℕ → List ℕ → Option ℕ → Endpoint → Issued
send c ep payload reply (Sends r) =
    unless_refusal (send_refusal c r payload reply) c (
    record {
      told = Flies (next_id c);
      packet = Some (send_packet c r payload reply);
      context = with_endpoint (with_flying_command c Sending ep 0) ep (Sends (less_one r));
    }
    )
send c ep payload reply _ = wrong_kind c

-- ---- reply

-- the message is itself a reply, or names no reply endpoint
abbrev pub wants_no_reply : Option Message → Bool
wants_no_reply None = true
wants_no_reply (Some m) = not (m.header.flags == 0) || (m.header.reply_ep == no_endpoint)

abbrev pub reply_refusal : ReceiveRecord → ℕ → List ℕ → Option Refusal
reply_refusal r token payload =
    let m = unmarked_message (fetched_at token r.fetched) in
    first_of (
    (r.closing, Refusal.Revoked)
    ∷ (is_none m, Refusal.NoSuchToken)
    ∷ (wants_no_reply m, Refusal.NoReplyWanted)
    ∷ (nat_lt 512 (length payload), Refusal.TooLarge)
    ∷ []
    )

abbrev pub reply_packet : Context → List ℕ → Message → Packet
reply_packet c payload m =
    Packet.Message m.header.sender m.header.reply_ep m.header.reply (
    record {
      header = record {
        flags = 1;
        reply_ep = no_endpoint;
        sender = c.act;
        lane = 0;
        length = length payload;
        send = m.header.send;
        reply = 0;
        number = c.next;
        label = m.header.label;
      };
      payload = payload;
    }
    )

abbrev pub reply_to : Context → ℕ → ℕ → List ℕ → ReceiveRecord → Option Message → Issued
reply_to c ep token payload r None = immediate_reply c (Reply.Refused Refusal.NoSuchToken)
reply_to c ep token payload r (Some m) =
    record {
      told = Flies (next_id c);
      packet = Some (reply_packet c payload m);
      context = with_endpoint (with_flying_command c Replying ep token) ep (Receives (with_mark_at true r token));
    }

abbrev pub reply : Context → ℕ → ℕ → List ℕ → Endpoint → Issued
reply c ep token payload (Receives r) =
    unless_refusal (reply_refusal r token payload) c
    (reply_to c ep token payload r (unmarked_message (fetched_at token r.fetched)))
reply c ep token payload _ = wrong_kind c

-- ---- fetch

abbrev pub fetch_from : Context → ℕ → ReceiveRecord → List Message → Issued
fetch_from c ep r [] = immediate_reply c Reply.Nothing
fetch_from c ep r (m ∷ rest) =
    immediate_reply (with_endpoint c ep (Receives (with_fetched r m rest))) (Reply.Fetched r.next_token m)

abbrev pub fetch : Context → ℕ → Endpoint → Issued
fetch c ep (Receives r) =
    unless_refusal (first_of ((r.closing, Refusal.Revoked) ∷ [])) c (fetch_from c ep r r.unread)
fetch c ep _ = wrong_kind c

-- ---- acknowledge

abbrev pub credit_packet : Context → Message → Packet
credit_packet c m = Packet.Credit (next_id c) m.header.sender m.header.send

abbrev pub after_acknowledge : Context → ℕ → ReceiveRecord → ℕ → Message → Bool → Issued
after_acknowledge c ep r token m true =
    record {
      told = Gives (Reply.Acknowledged (Some (next_id c)));
      packet = Some (credit_packet c m);
      context = record (with_endpoint c ep (Receives (without_fetched r token))) { next = c.next + 1 };
    }
after_acknowledge c ep r token m false =
    immediate_reply (with_endpoint c ep (Receives (without_fetched r token))) (Reply.Acknowledged None)

abbrev pub acknowledge_at : Context → ℕ → ReceiveRecord → ℕ → Option Message → Issued
acknowledge_at c ep r token None = immediate_reply c (Reply.Refused Refusal.NoSuchToken)
acknowledge_at c ep r token (Some m) = after_acknowledge c ep r token m (m.header.flags == 0)

abbrev pub acknowledge : Context → ℕ → ℕ → Endpoint → Issued
acknowledge c ep token (Receives r) =
    unless_refusal (first_of ((r.closing, Refusal.Revoked) ∷ [])) c (
    acknowledge_at c ep r token (unmarked_message (fetched_at token r.fetched))
    )
acknowledge c ep token _ = wrong_kind c

-- ---- read and write

abbrev pub may_read : Perm → Bool
may_read Perm.R = true
may_read Perm.W = false
may_read Perm.Rw = true

abbrev pub may_write : Perm → Bool
may_write Perm.R = false
may_write Perm.W = true
may_write Perm.Rw = true

-- a write, or a read, is permitted
abbrev pub permits : Bool → Perm → Bool
permits true perm = may_write perm
permits false perm = may_read perm

abbrev pub access_refusal : MemoryRecord → ℕ → ℕ → Bool → Option Refusal
access_refusal r off len allowed =
    first_of (
    (r.closing, Refusal.Revoked)
    ∷ (nat_lt 4096 len, Refusal.TooLarge)
    ∷ (nat_lt r.length (off + len), Refusal.OutOfRange)
    ∷ (not allowed, Refusal.NoPermission)
    ∷ []
    )

abbrev pub access : Context → Kind → ℕ → Packet → Issued
access c kind ep p = record { told = Flies (next_id c); packet = Some p; context = with_flying_command c kind ep 0 }

abbrev pub read : Context → ℕ → ℕ → ℕ → Endpoint → Issued
read c ep off len (Reaches r) =
    unless_refusal (access_refusal r off len (may_read r.perm)) c (
    access c Reading ep (Packet.Read (next_id c) r.grant (r.start + off) (replicate len 0))
    )
read c ep off len _ = wrong_kind c

abbrev pub write : Context → ℕ → ℕ → List ℕ → Endpoint → Issued
write c ep off payload (Reaches r) =
    unless_refusal (access_refusal r off (length payload) (may_write r.perm)) c (
    access c Writing ep (Packet.Write (next_id c) r.grant (r.start + off) payload)
    )
write c ep off payload _ = wrong_kind c

-- ---- any command

abbrev pub is_busy : Context → Bool
is_busy c = nat_le window (length c.flying)

abbrev pub unless_busy : Context → Issued → Option Issued
unless_busy c done = if is_busy c then None else Some done

-- the commands that fly where they aren't refused
abbrev pub flies_always : Command → Bool
flies_always (Command.Fetch ep) = false
flies_always (Command.Acknowledge ep token) = false
flies_always command = true

-- none where the command has to wait
abbrev pub issue : Context → Command → Option Issued
issue c (Command.Send ep payload to) = unless_busy c (send c ep payload to (endpoint c ep))
issue c (Command.Reply ep token payload) = unless_busy c (reply c ep token payload (endpoint c ep))
issue c (Command.Fetch ep) = Some (fetch c ep (endpoint c ep))
issue c (Command.Acknowledge ep token) = Some (acknowledge c ep token (endpoint c ep))
issue c (Command.Read ep off len) = unless_busy c (read c ep off len (endpoint c ep))
issue c (Command.Write ep off payload) = unless_busy c (write c ep off payload (endpoint c ep))
