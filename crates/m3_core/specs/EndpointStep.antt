-- One endpoint's part of each command and packet.
use Rattle.std.specs.Prelude.{ℕ, ◌+◌, ◌<◌, Bool, not, ◌==◌, ◌||◌, nat_lt, [], ◌∷◌, length, Option, Some, None, Result, Ok, Err, option_map}
use Rattle.m3_base.specs.declared.message.Header.{Header}
use Rattle.m3_base.specs.declared.message.Message.{Message}
use Rattle.m3_base.specs.declared.command.Refusal.{Refusal}
use Rattle.m3_base.specs.Ideal.Context.{SendRecord, ReceiveRecord, MemoryRecord, Endpoint, Sends, Receives, Reaches}
use Rattle.m3_base.specs.Ideal.ReceiveRecord.{fetched_at, unmarked_message}
use Rattle.m3_base.specs.Ideal.Issue.{first_of, less_one, access_refusal, permits}
use Rattle.m3_endpoint.specs.ReceiveOps.{message_in, header_or_refusal, with_reply_mark}
use Rattle.m3_base.specs.Ideal.EndpointStep.{unless_refused, send_refusal_at, reply_refusal_at, closing_refusal}
use Rattle.m3_core.specs.declared.slot.SendTarget.{SendTarget}
use Rattle.m3_core.specs.declared.slot.AccessTarget.{AccessTarget}

-- ---- send

-- where a send goes, and what its header takes from the record
abbrev pub target_of : SendRecord → SendTarget
target_of r = record { to = r.to; ep = r.to_ep; grant = r.to_grant; send = r.grant; label = r.label }

abbrev pub send_target : ℕ → Bool → Endpoint → Result SendTarget Refusal
send_target bytes bad (Sends r) = unless_refused (send_refusal_at r bytes bad) (target_of r)
send_target bytes bad _ = Err Refusal.NoEndpoint

abbrev pub held_in : SendRecord → ℕ
held_in r = r.held

abbrev pub less_unless : {X : Type 0} → Result X Refusal → SendRecord → SendRecord
less_unless (Ok x) r = less_one r
less_unless (Err why) r = r

-- ---- reply, fetch and acknowledge

abbrev pub header_unless : Option Refusal → Option Message → Result Header Refusal
header_unless (Some why) m = Err why
header_unless None m = header_or_refusal m

-- the header of the message that is replied to
abbrev pub reply_header : ℕ → ℕ → Endpoint → Result Header Refusal
reply_header token bytes (Receives r) =
    header_unless (reply_refusal_at r token bytes) (unmarked_message (fetched_at token r.fetched))
reply_header token bytes _ = Err Refusal.NoEndpoint

abbrev pub acknowledge_header : ℕ → Endpoint → Result Header Refusal
acknowledge_header token (Receives r) = header_unless (closing_refusal r) (unmarked_message (fetched_at token r.fetched))
acknowledge_header token _ = Err Refusal.NoEndpoint

-- the next token of a receive record is below the largest number
abbrev pub HasToken : Endpoint → Type 0
HasToken (Receives r) = r.next_token < 4294967295
HasToken e = Unit {0}

-- ---- read and write

abbrev pub place_of : MemoryRecord → ℕ → AccessTarget
place_of r off = record { grant = r.grant; at = r.start + off }

-- the grant and the place in memory of an access
abbrev pub access_place : ℕ → ℕ → Bool → Endpoint → Result AccessTarget Refusal
access_place off len is_write (Reaches r) = unless_refused (access_refusal r off len (permits is_write r.perm)) (place_of r off)
access_place off len is_write _ = Err Refusal.NoEndpoint

-- ---- landing

-- why a message to this grant can't land in a receive record, were all its slots free
abbrev pub refusal_with_room : ℕ → Message → ReceiveRecord → Option Refusal
refusal_with_room g m r =
    first_of (
    (r.closing || not (r.grant == g), Refusal.Revoked)
    ∷ (nat_lt r.size (length m.payload), Refusal.TooLarge)
    ∷ []
    )

-- ---- readers

abbrev pub fetched_message_at : ℕ → Endpoint → Option Message
fetched_message_at token (Receives r) = option_map message_in (fetched_at token r.fetched)
fetched_message_at token _ = None

-- a reply to the message of this token has landed, or was refused
abbrev pub replied_at : Bool → ℕ → Endpoint → Endpoint
replied_at landed token (Receives r) = Receives (with_reply_mark landed token r)
replied_at landed token e = e
