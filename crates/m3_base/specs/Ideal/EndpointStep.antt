-- One endpoint's part of each command and packet.
use Rattle.std.specs.Prelude.{ℕ, Bool, ◌==◌, nat_lt, [], ◌∷◌, slice_get, Option, Some, None, is_none, Result, Ok, Err}
use Rattle.m3_base.specs.declared.message.Message.{Message}
use Rattle.m3_base.specs.declared.command.Refusal.{Refusal}
use Rattle.m3_base.specs.Ideal.Context.{SendRecord, ReceiveRecord, Endpoint, Sends, Receives}
use Rattle.m3_base.specs.Ideal.ReceiveRecord.{fetched_at, fetched_one, fetched_token, unmarked_message, without_fetched, with_mark_at}
use Rattle.m3_base.specs.Ideal.Issue.{first_of, wants_no_reply, less_one}
use Rattle.m3_base.specs.Ideal.Landing.{with_message}

-- what is refused, or what is given
abbrev pub unless_refused : {X : Type 0} → Option Refusal → X → Result X Refusal
unless_refused (Some why) x = Err why
unless_refused None x = Ok x

-- what is left where there is a refusal, or none
abbrev pub changed_if : {X : Type 0} → Result X Refusal → Endpoint → Endpoint → Endpoint
changed_if (Ok x) new old = new
changed_if (Err why) new old = old

-- ---- send

abbrev pub send_refusal_at : SendRecord → ℕ → Bool → Option Refusal
send_refusal_at r bytes is_bad_reply =
    first_of (
    (r.closing, Refusal.Revoked)
    ∷ (is_bad_reply, Refusal.BadReplyEndpoint)
    ∷ (nat_lt r.size bytes, Refusal.TooLarge)
    ∷ (r.held == 0, Refusal.NoCredits)
    ∷ []
    )

abbrev pub less_at : Endpoint → Endpoint
less_at (Sends r) = Sends (less_one r)
less_at e = e

-- ---- reply, fetch and acknowledge

abbrev pub reply_refusal_at : ReceiveRecord → ℕ → ℕ → Option Refusal
reply_refusal_at r token bytes =
    let m = unmarked_message (fetched_at token r.fetched) in
    first_of (
    (r.closing, Refusal.Revoked)
    ∷ (is_none m, Refusal.NoSuchToken)
    ∷ (wants_no_reply m, Refusal.NoReplyWanted)
    ∷ (nat_lt 512 bytes, Refusal.TooLarge)
    ∷ []
    )

abbrev pub marking_at : Bool → ℕ → Endpoint → Endpoint
marking_at b token (Receives r) = Receives (with_mark_at b r token)
marking_at b token e = e

abbrev pub closing_refusal : ReceiveRecord → Option Refusal
closing_refusal r = first_of ((r.closing, Refusal.Revoked) ∷ [])

abbrev pub fetch_outcome : Endpoint → Result (Option ℕ) Refusal
fetch_outcome (Receives r) = unless_refused (closing_refusal r) (fetched_token r r.unread)
fetch_outcome _ = Err Refusal.NoEndpoint

abbrev pub after_fetch_at : Endpoint → Endpoint
after_fetch_at (Receives r) = Receives (fetched_one r r.unread)
after_fetch_at e = e

abbrev pub freed_at : ℕ → Endpoint → Endpoint
freed_at token (Receives r) = Receives (without_fetched r token)
freed_at token e = e

-- ---- landing

abbrev pub joined_if : Option Refusal → Message → Endpoint → Endpoint
joined_if (Some why) m e = e
joined_if None m e = with_message m e

-- ---- readers

abbrev pub oldest_at : Endpoint → Option Message
oldest_at (Receives r) = slice_get r.unread 0
oldest_at _ = None
