-- One endpoint's part of each command and packet.
use Rattle.std.specs.Prelude.{◌≡◌, ℕ, ◌+◌, ◌-◌, Bool, ◌==◌, Option, Some, None, Result, Ok, Err, if◌then◌else◌}
use Rattle.m3_base.specs.declared.message.Message.{Message}
use Rattle.m3_base.specs.declared.command.Refusal.{Refusal}
use Rattle.m3_base.specs.Ideal.Context.{SendRecord, MemoryRecord, Endpoint, Sends, Receives, Reaches}
use Rattle.m3_base.specs.Ideal.ReceiveRecord.{fetched_at, unmarked_message}
use Rattle.m3_base.specs.Ideal.Issue.{access_refusal, permits}
use Rattle.m3_ideal.specs.declared.records.SendEnd.{SendEnd}
use Rattle.m3_ideal.specs.declared.slot.commands.Target.{Target}
use Rattle.m3_ideal.specs.declared.slot.commands.Return.{Return}
use Rattle.m3_ideal.specs.declared.slot.commands.CreditTo.{CreditTo}
use Rattle.m3_ideal.specs.declared.slot.commands.Access.{Access}
use Rattle.m3_ideal.specs.Records.{send_record}
use Rattle.m3_base.specs.Ideal.EndpointStep.{unless_refused, changed_if, send_refusal_at, reply_refusal_at, closing_refusal, after_fetch_at, fetch_outcome}

-- ---- send

-- where a send goes, and what its header takes from the record
abbrev pub target_of : SendRecord → Target
target_of r = record { to = r.to; ep = r.to_ep; grant = r.to_grant; send = r.grant; label = r.label }

abbrev pub send_by : SendEnd → ℕ → Bool → Result Target Refusal
send_by r bytes bad = unless_refused (send_refusal_at (send_record r) bytes bad) (target_of (send_record r))

abbrev pub sent : ℕ → Bool → Endpoint → Result Target Refusal
sent bytes bad (Sends r) = unless_refused (send_refusal_at r bytes bad) (target_of r)
sent bytes bad _ = Err Refusal.NoEndpoint

abbrev pub less_unless : {X : Type 0} → Result X Refusal → SendEnd → SendEnd
less_unless (Ok x) r = record r { held = r.held - 1 }
less_unless (Err why) r = r

-- ---- reply, fetch and acknowledge

-- where the reply to this message goes, and what its header takes from it
abbrev pub return_of : Message → Return
return_of m =
    record {
      address = record { to = m.header.sender; ep = m.header.reply_ep; grant = m.header.reply };
      send = m.header.send;
      label = m.header.label;
    }

abbrev pub return_unless : Option Refusal → Option Message → Result Return Refusal
return_unless (Some why) m = Err why
return_unless None None = Err Refusal.NoSuchToken
return_unless None (Some m) = Ok (return_of m)

abbrev pub replying : ℕ → ℕ → Endpoint → Result Return Refusal
replying token bytes (Receives r) = return_unless (reply_refusal_at r token bytes) (unmarked_message (fetched_at token r.fetched))
replying token bytes _ = Err Refusal.NoEndpoint

pub record Fetches (answer : Result (Option ℕ) Refusal) (old new : Endpoint) : Type 0 where
  pub token : answer ≡ fetch_outcome old
  pub after : new ≡ changed_if answer (after_fetch_at old) old

-- a message that isn't a reply owes a credit
abbrev pub credit_of : Message → Option CreditTo
credit_of m = if m.header.flags == 0 then Some (record { to = m.header.sender; grant = m.header.send }) else None

abbrev pub credit_unless : Option Refusal → Option Message → Result (Option CreditTo) Refusal
credit_unless (Some why) m = Err why
credit_unless None None = Err Refusal.NoSuchToken
credit_unless None (Some m) = Ok (credit_of m)

abbrev pub acknowledging : ℕ → Endpoint → Result (Option CreditTo) Refusal
acknowledging token (Receives r) = credit_unless (closing_refusal r) (unmarked_message (fetched_at token r.fetched))
acknowledging token _ = Err Refusal.NoEndpoint

-- ---- read and write

abbrev pub place_of : MemoryRecord → ℕ → Access
place_of r off = record { grant = r.grant; place = r.start + off }

-- the grant and the place in memory of an access
abbrev pub accessing : ℕ → ℕ → Bool → Endpoint → Result Access Refusal
accessing off len is_write (Reaches r) = unless_refused (access_refusal r off len (permits is_write r.perm)) (place_of r off)
accessing off len is_write _ = Err Refusal.NoEndpoint

-- ---- landing

-- ---- readers
