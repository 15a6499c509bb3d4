-- A refused reply, by its endpoint.
use Rattle.std.proofs.Common.{◌≡◌, ℕ, List, length, Some, None, Err, arith}
use Rattle.std.specs.Prelude.{Option}
use Rattle.m3_base.specs.declared.command.Refusal.{Refusal}
use Rattle.m3_base.specs.declared.command.Reply.{Reply}
use Rattle.m3_base.specs.declared.message.Message.{Message}
use Rattle.m3_base.specs.Ideal.Context.{ReceiveRecord, Endpoint, Free, Sends, Receives, Reaches, Context}
use Rattle.m3_base.specs.Ideal.ReceiveRecord.{fetched_at, unmarked_message}
use Rattle.m3_base.specs.Ideal.Issue.{immediate_reply, unless_refusal, reply, reply_to, reply_refusal}
use Rattle.m3_core.specs.EndpointStep.{reply_header, header_unless}

by_refusal : (c : Context) (ep token : ℕ) (payload : List ℕ) (r : ReceiveRecord) (why : Refusal) (x : Option Refusal) (m : Option Message)
    → header_unless x m ≡ Err why → unless_refusal x c (reply_to c ep token payload r m) ≡ immediate_reply c (Reply.Refused why)
by_refusal c ep token payload r why (Some w) m h = grind arith
by_refusal c ep token payload r why None None h = grind arith
by_refusal c ep token payload r why None (Some m) h = grind arith

pub refused_reply : (c : Context) (ep token : ℕ) (payload : List ℕ) (e : Endpoint) (why : Refusal)
    → reply_header token (length payload) e ≡ Err why → reply c ep token payload e ≡ immediate_reply c (Reply.Refused why)
refused_reply c ep token payload (Receives r) why h =
    by_refusal c ep token payload r why (reply_refusal r token payload) (unmarked_message (fetched_at token r.fetched)) h
refused_reply c ep token payload Free why h = grind arith
refused_reply c ep token payload (Sends r) why h = grind arith
refused_reply c ep token payload (Reaches r) why h = grind arith
