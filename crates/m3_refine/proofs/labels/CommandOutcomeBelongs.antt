-- The outcome of a command belongs to the command by its form.
use Rattle.std.proofs.Common.{◌≡◌, ℕ, ◌+◌, Bool, true, false, List, [], ◌∷◌, replicate, length, Option, Some, None, refl}
use Rattle.std.specs.Prelude.{if◌then◌else◌, ◌==◌}
use Rattle.m3_base.specs.declared.command.Command.{Command}
use Rattle.m3_base.specs.declared.command.Refusal.{Refusal}
use Rattle.m3_base.specs.declared.message.Message.{Message}
use Rattle.m3_base.specs.declared.packet.Packet.{Packet}
use Rattle.m3_base.specs.Journal.OutcomeForms.{allows_for_do}
use Rattle.m3_base.specs.Ideal.Context.{Sending, Reading, Writing, ReceiveRecord, Endpoint, Free, Sends, Receives, Reaches, Context, endpoint, with_endpoint}
use Rattle.m3_base.specs.Journal.Entry.{shown_message, shown_told}
use Rattle.m3_base.specs.Ideal.Issue.{Flies, Issued, first_of, unless_refusal, unless_busy, is_busy, next_id, with_flying_command, send_packet, send_refusal, less_one, send, reply_refusal, reply_to, reply, fetch_from, fetch, after_acknowledge, acknowledge_at, acknowledge, access, access_refusal, read, write, may_read, may_write, issue}
use Rattle.m3_base.specs.Ideal.ReceiveRecord.{fetched_at, unmarked_message}

-- ---- what is told of a command

abbrev TellsOf : Command → Issued → Type 0
TellsOf c i = allows_for_do c (shown_told i.told) ≡ true

abbrev pub IssuedTells : Command → Option Issued → Type 0
IssuedTells c None = Unit {0}
IssuedTells c (Some i) = TellsOf c i

unless_tells : (c : Command) (o : Option Refusal) (x : Context) (i : Issued) → TellsOf c i → TellsOf c (unless_refusal o x i)
unless_tells c None x i k = k
unless_tells c (Some why) x i k = refl

unless_busy_tells : (c : Command) (x : Context) (i : Issued) → TellsOf c i → IssuedTells c (unless_busy x i)
unless_busy_tells c x i k = by_busy (is_busy x)
  where
    by_busy : (b : Bool) → IssuedTells c (if b then None else Some i)
    by_busy true = tt
    by_busy false = k

send_tells : (c : Command) (x : Context) (ep : ℕ) (payload : List ℕ) (to : Option ℕ) (e : Endpoint) → TellsOf c (send x ep payload to e)
send_tells c x ep payload to Free = refl
send_tells c x ep payload to (Receives r) = refl
send_tells c x ep payload to (Reaches r) = refl
send_tells c x ep payload to (Sends r) =
    unless_tells c (send_refusal x r payload to) x (record {
      told = Flies (next_id x);
      packet = Some (send_packet x r payload to);
      context = with_endpoint (with_flying_command x Sending ep 0) ep (Sends (less_one r));
    }) refl

reply_to_tells : (c : Command) (x : Context) (ep token : ℕ) (payload : List ℕ) (r : ReceiveRecord) (o : Option Message) → TellsOf c (reply_to x ep token payload r o)
reply_to_tells c x ep token payload r None = refl
reply_to_tells c x ep token payload r (Some m) = refl

reply_tells : (c : Command) (x : Context) (ep token : ℕ) (payload : List ℕ) (e : Endpoint) → TellsOf c (reply x ep token payload e)
reply_tells c x ep token payload Free = refl
reply_tells c x ep token payload (Sends r) = refl
reply_tells c x ep token payload (Reaches r) = refl
reply_tells c x ep token payload (Receives r) =
    let o = unmarked_message (fetched_at token r.fetched) in
    unless_tells c (reply_refusal r token payload) x (reply_to x ep token payload r o) (reply_to_tells c x ep token payload r o)

message_tells : (ep t : ℕ) (m : Message) (b : Bool) → allows_for_do (Command.Fetch ep) (shown_message t m b) ≡ true
message_tells ep t m true = refl
message_tells ep t m false = refl

fetch_from_tells : (ep : ℕ) (x : Context) (r : ReceiveRecord) (ms : List Message) → TellsOf (Command.Fetch ep) (fetch_from x ep r ms)
fetch_from_tells ep x r [] = refl
fetch_from_tells ep x r (m ∷ ms) = message_tells ep r.next_token m (m.header.flags == 0)

fetch_tells : (ep : ℕ) (x : Context) (e : Endpoint) → TellsOf (Command.Fetch ep) (fetch x ep e)
fetch_tells ep x Free = refl
fetch_tells ep x (Sends r) = refl
fetch_tells ep x (Reaches r) = refl
fetch_tells ep x (Receives r) =
    unless_tells (Command.Fetch ep) (first_of ((r.closing, Refusal.Revoked) ∷ [])) x (fetch_from x ep r r.unread) (fetch_from_tells ep x r r.unread)

acknowledged_tells : (ep token : ℕ) (x : Context) (r : ReceiveRecord) (m : Message) (b : Bool) → TellsOf (Command.Acknowledge ep token) (after_acknowledge x ep r token m b)
acknowledged_tells ep token x r m true = refl
acknowledged_tells ep token x r m false = refl

acknowledge_at_tells : (ep token : ℕ) (x : Context) (r : ReceiveRecord) (o : Option Message) → TellsOf (Command.Acknowledge ep token) (acknowledge_at x ep r token o)
acknowledge_at_tells ep token x r None = refl
acknowledge_at_tells ep token x r (Some m) = acknowledged_tells ep token x r m (m.header.flags == 0)

acknowledge_tells : (ep token : ℕ) (x : Context) (e : Endpoint) → TellsOf (Command.Acknowledge ep token) (acknowledge x ep token e)
acknowledge_tells ep token x Free = refl
acknowledge_tells ep token x (Sends r) = refl
acknowledge_tells ep token x (Reaches r) = refl
acknowledge_tells ep token x (Receives r) =
    let o = unmarked_message (fetched_at token r.fetched) in
    unless_tells (Command.Acknowledge ep token) (first_of ((r.closing, Refusal.Revoked) ∷ [])) x (acknowledge_at x ep r token o) (acknowledge_at_tells ep token x r o)

read_tells : (c : Command) (x : Context) (ep off len : ℕ) (e : Endpoint) → TellsOf c (read x ep off len e)
read_tells c x ep off len Free = refl
read_tells c x ep off len (Sends r) = refl
read_tells c x ep off len (Receives r) = refl
read_tells c x ep off len (Reaches r) =
    unless_tells c (access_refusal r off len (may_read r.perm)) x (access x Reading ep (Packet.Read (next_id x) r.grant (r.start + off) (replicate len 0))) refl

write_tells : (c : Command) (x : Context) (ep off : ℕ) (payload : List ℕ) (e : Endpoint) → TellsOf c (write x ep off payload e)
write_tells c x ep off payload Free = refl
write_tells c x ep off payload (Sends r) = refl
write_tells c x ep off payload (Receives r) = refl
write_tells c x ep off payload (Reaches r) =
    unless_tells c (access_refusal r off (length payload) (may_write r.perm)) x (access x Writing ep (Packet.Write (next_id x) r.grant (r.start + off) payload)) refl

pub issue_tells : (x : Context) (c : Command) → IssuedTells c (issue x c)
issue_tells x (Command.Send ep payload to) =
    unless_busy_tells (Command.Send ep payload to) x (send x ep payload to (endpoint x ep)) (send_tells (Command.Send ep payload to) x ep payload to (endpoint x ep))
issue_tells x (Command.Reply ep token payload) =
    unless_busy_tells (Command.Reply ep token payload) x (reply x ep token payload (endpoint x ep)) (reply_tells (Command.Reply ep token payload) x ep token payload (endpoint x ep))
issue_tells x (Command.Fetch ep) = fetch_tells ep x (endpoint x ep)
issue_tells x (Command.Acknowledge ep token) = acknowledge_tells ep token x (endpoint x ep)
issue_tells x (Command.Read ep off len) =
    unless_busy_tells (Command.Read ep off len) x (read x ep off len (endpoint x ep)) (read_tells (Command.Read ep off len) x ep off len (endpoint x ep))
issue_tells x (Command.Write ep off payload) =
    unless_busy_tells (Command.Write ep off payload) x (write x ep off payload (endpoint x ep)) (write_tells (Command.Write ep off payload) x ep off payload (endpoint x ep))
