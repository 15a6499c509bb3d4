-- What commands and arrivals send is neither an Install nor a Close: these are the kernel's own.
use Rattle.std.proofs.Common.{ℕ, Bool, true, false, List, [], ◌∷◌, length, Option, Some, None}
use Rattle.std.specs.Prelude.{if◌then◌else◌, ◌==◌}
use Rattle.m3_base.specs.declared.ids.FlightId.{FlightId}
use Rattle.m3_base.specs.declared.command.Answer.{Answer}
use Rattle.m3_base.specs.declared.command.Command.{Command}
use Rattle.m3_base.specs.declared.command.Refusal.{Refusal}
use Rattle.m3_base.specs.declared.message.Message.{Message}
use Rattle.m3_base.specs.declared.packet.Packet.{Packet}
use Rattle.m3_base.specs.Ideal.Context.{Flying, ReceiveRecord, Endpoint, Free, Sends, Receives, Reaches, Context, endpoint, with_endpoint}
use Rattle.m3_base.specs.Ideal.ReceiveRecord.{fetched_at, unmarked_message}
use Rattle.m3_base.specs.Ideal.Issue.{Issued, first_of, issue, unless_refusal, unless_busy, is_busy, send, send_refusal, reply, reply_refusal, reply_to, fetch, fetch_from, acknowledge, acknowledge_at, after_acknowledge, may_read, may_write, access_refusal, read, write}
use Rattle.m3_base.specs.Ideal.Landing.{land_by, land_refusal, has_live, closed_at, flies_at, flying_at}
use Rattle.m3_base.specs.Ideal.Arrival.{Arrival, arrive, answer_arrives, close_arrives}
use Rattle.m3_base.specs.Ideal.Acceptance.{fits, arrive_fit}
use Rattle.m3_model.specs.Config.KnownActivities.{is_named}
use Rattle.m3_model.specs.Config.Site.{Site}
use Rattle.m3_model.specs.Tile.Step.{arrive_named}
use Rattle.m3_model.specs.Ways.{IsPlain}
use Rattle.m3_refine.proofs.lists.EachElement.{InSome}

abbrev pub PlainIf : Option Packet → Type 0
PlainIf o = InSome IsPlain o

-- ---- commands

unless_plain : (why : Option Refusal) (c : Context) (i : Issued) → PlainIf i.packet → PlainIf (unless_refusal why c i).packet
unless_plain None c i p = p
unless_plain (Some x) c i p = tt

send_plain : (c : Context) (ep : ℕ) (payload : List ℕ) (to : Option ℕ) (e : Endpoint) → PlainIf (send c ep payload to e).packet
send_plain c ep payload to (Sends r) = unless_plain (send_refusal c r payload to) c _ tt
send_plain c ep payload to Free = tt
send_plain c ep payload to (Receives r) = tt
send_plain c ep payload to (Reaches r) = tt

reply_to_plain : (c : Context) (ep token : ℕ) (payload : List ℕ) (r : ReceiveRecord) (o : Option Message) → PlainIf (reply_to c ep token payload r o).packet
reply_to_plain c ep token payload r None = tt
reply_to_plain c ep token payload r (Some m) = tt

reply_plain : (c : Context) (ep token : ℕ) (payload : List ℕ) (e : Endpoint) → PlainIf (reply c ep token payload e).packet
reply_plain c ep token payload (Receives r) = unless_plain (reply_refusal r token payload) c _ (reply_to_plain c ep token payload r (unmarked_message (fetched_at token r.fetched)))
reply_plain c ep token payload Free = tt
reply_plain c ep token payload (Sends r) = tt
reply_plain c ep token payload (Reaches r) = tt

fetch_from_plain : (c : Context) (ep : ℕ) (r : ReceiveRecord) (ms : List Message) → PlainIf (fetch_from c ep r ms).packet
fetch_from_plain c ep r [] = tt
fetch_from_plain c ep r (m ∷ ms) = tt

fetch_plain : (c : Context) (ep : ℕ) (e : Endpoint) → PlainIf (fetch c ep e).packet
fetch_plain c ep (Receives r) = unless_plain (first_of ((r.closing, Refusal.Revoked) ∷ [])) c _ (fetch_from_plain c ep r r.unread)
fetch_plain c ep Free = tt
fetch_plain c ep (Sends r) = tt
fetch_plain c ep (Reaches r) = tt

acknowledged_plain : (c : Context) (ep : ℕ) (r : ReceiveRecord) (token : ℕ) (m : Message) (b : Bool) → PlainIf (after_acknowledge c ep r token m b).packet
acknowledged_plain c ep r token m true = tt
acknowledged_plain c ep r token m false = tt

acknowledge_at_plain : (c : Context) (ep token : ℕ) (r : ReceiveRecord) (o : Option Message) → PlainIf (acknowledge_at c ep r token o).packet
acknowledge_at_plain c ep token r None = tt
acknowledge_at_plain c ep token r (Some m) = acknowledged_plain c ep r token m (m.header.flags == 0)

acknowledge_plain : (c : Context) (ep token : ℕ) (e : Endpoint) → PlainIf (acknowledge c ep token e).packet
acknowledge_plain c ep token (Receives r) = unless_plain (first_of ((r.closing, Refusal.Revoked) ∷ [])) c _ (acknowledge_at_plain c ep token r (unmarked_message (fetched_at token r.fetched)))
acknowledge_plain c ep token Free = tt
acknowledge_plain c ep token (Sends r) = tt
acknowledge_plain c ep token (Reaches r) = tt

read_plain : (c : Context) (ep off len : ℕ) (e : Endpoint) → PlainIf (read c ep off len e).packet
read_plain c ep off len (Reaches r) = unless_plain (access_refusal r off len (may_read r.perm)) c _ tt
read_plain c ep off len Free = tt
read_plain c ep off len (Sends r) = tt
read_plain c ep off len (Receives r) = tt

write_plain : (c : Context) (ep off : ℕ) (payload : List ℕ) (e : Endpoint) → PlainIf (write c ep off payload e).packet
write_plain c ep off payload (Reaches r) = unless_plain (access_refusal r off (length payload) (may_write r.perm)) c _ tt
write_plain c ep off payload Free = tt
write_plain c ep off payload (Sends r) = tt
write_plain c ep off payload (Receives r) = tt

abbrev pub PlainIssued : Option Issued → Type 0
PlainIssued o = InSome (λ i. PlainIf i.packet) o

busy_plain : (c : Context) (i : Issued) → PlainIf i.packet → PlainIssued (unless_busy c i)
busy_plain c i p = by_busy (is_busy c)
  where
    by_busy : (b : Bool) → PlainIssued (if b then None else Some i)
    by_busy true = tt
    by_busy false = p

pub issue_plain : (c : Context) (command : Command) → PlainIssued (issue c command)
issue_plain c (Command.Send ep payload to) = busy_plain c _ (send_plain c ep payload to (endpoint c ep))
issue_plain c (Command.Reply ep token payload) = busy_plain c _ (reply_plain c ep token payload (endpoint c ep))
issue_plain c (Command.Fetch ep) = fetch_plain c ep (endpoint c ep)
issue_plain c (Command.Acknowledge ep token) = acknowledge_plain c ep token (endpoint c ep)
issue_plain c (Command.Read ep off len) = busy_plain c _ (read_plain c ep off len (endpoint c ep))
issue_plain c (Command.Write ep off payload) = busy_plain c _ (write_plain c ep off payload (endpoint c ep))

-- ---- arrivals

abbrev pub PlainArrived : Option Arrival → Type 0
PlainArrived o = InSome (λ r. PlainIf r.answer) o

land_plain : (ep : ℕ) (m : Message) (c : Context) (o : Option Refusal) → IsPlain (land_by ep m c o).answer
land_plain ep m c None = tt
land_plain ep m c (Some why) = tt

answer_plain : (c : Context) (id : FlightId) (answer : Answer) (o : Option Flying) → PlainArrived (answer_arrives c id answer o)
answer_plain c id answer None = tt
answer_plain c id answer (Some f) = tt

close_plain : (c : Context) (id : FlightId) (ep g : ℕ) (d : Context) (b : Bool) → PlainArrived (close_arrives c id ep g d b)
close_plain c id ep g d true = tt
close_plain c id ep g d false = tt

arrive_plain : (c : Context) (p : Packet) → PlainArrived (arrive c p)
arrive_plain c (Packet.Message to ep g m) = land_plain ep m c (land_refusal g m (endpoint c ep))
arrive_plain c (Packet.Credit id to g) = tt
arrive_plain c (Packet.Read id g place buffer) = tt
arrive_plain c (Packet.Write id g place payload) = tt
arrive_plain c (Packet.Answer id answer) = answer_plain c id answer (flying_at id.number c.flying)
arrive_plain c (Packet.Install id to ep f) = tt
arrive_plain c (Packet.Close id to ep g) = by_live (has_live g (endpoint c ep))
  where
    by_live : (b : Bool) → PlainArrived (if b then close_arrives c id ep g (with_endpoint c ep (closed_at (endpoint c ep))) (flies_at ep c) else None)
    by_live true = close_plain c id ep g (with_endpoint c ep (closed_at (endpoint c ep))) (flies_at ep c)
    by_live false = tt

pub fit_plain : (c : Context) (p : Packet) → PlainArrived (arrive_fit c p)
fit_plain c p = by_fit (fits c p)
  where
    by_fit : (b : Bool) → PlainArrived (if b then arrive c p else None)
    by_fit true = arrive_plain c p
    by_fit false = tt

pub named_plain : (h : Site) (c : Context) (p : Packet) → PlainArrived (arrive_named h c p)
named_plain h c p = by_named (is_named h p)
  where
    by_named : (b : Bool) → PlainArrived (if b then arrive_fit c p else None)
    by_named true = fit_plain c p
    by_named false = tt
