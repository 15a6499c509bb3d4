-- A command that is issued: no endpoint gets an unread message, and a new packet has the next name.
use Rattle.std.proofs.Common.{◌≡◌, ℕ, suc, ◌+◌, Bool, true, false, List, [], ◌∷◌, length, Some, None, refl, sym, subst, ◌∙◌, ap, arith}
use Rattle.std.specs.Prelude.{Option, if◌then◌else◌, ◌==◌, not, replicate}
use Rattle.std.proofs.lemmas.Bool.Decides.{nat_tests}
use Rattle.m3_base.specs.declared.message.Message.{Message}
use Rattle.m3_base.specs.declared.packet.Packet.{Packet}
use Rattle.m3_base.specs.declared.command.Command.{Command}
use Rattle.m3_base.specs.declared.command.Refusal.{Refusal}
use Rattle.m3_base.specs.declared.command.Reply.{Reply}
use Rattle.m3_base.specs.Ideal.Flights.{name_of}
use Rattle.m3_base.specs.Ideal.Context.{Sending, Reading, Writing, ReceiveRecord, Endpoint, Free, Sends, Receives, Reaches, Context, endpoint, with_endpoint}
use Rattle.m3_base.specs.Ideal.ReceiveRecord.{with_fetched, without_fetched, with_mark_at, fetched_at, unmarked_message}
use Rattle.m3_base.specs.Ideal.Issue.{Issued, Flies, next_id, with_flying_command, immediate_reply, unless_refusal, first_of, send, send_refusal, send_packet, less_one, reply, reply_refusal, reply_to, reply_packet, fetch, fetch_from, acknowledge, acknowledge_at, after_acknowledge, credit_packet, access, access_refusal, read, write, may_read, may_write, is_busy, issue}
use Rattle.m3_base.specs.Ideal.Step.{has_unread}
use Rattle.m3_quiet.proofs.Sums.Contexts.{FewerIn, fewer-set}

pub record IssueOk (c : Context) (i : Issued) : Type 0 where
  pub act : i.context.act ≡ c.act
  pub calm : FewerIn has_unread i.context c
  pub named : (q : Packet) → i.packet ≡ Some q → name_of q ≡ next_id c

abbrev pub AllIssued : Context → Option Issued → Type 0
AllIssued c None = Unit {0}
AllIssued c (Some i) = IssueOk c i

not_empty : (n : ℕ) → not (suc n == 0) ≡ true
not_empty n = grind (arith, nat_tests)

module _ (c : Context) where
  gives_ok : (r : Reply) → IssueOk c (immediate_reply c r)
  gives_ok r = record { act = refl; calm = λ ep h. h; named = λ q e. absurd (cc) }

  gives_set : (ep : ℕ) (d : Endpoint) (r : Reply) → (has_unread d ≡ true → has_unread (endpoint c ep) ≡ true) → IssueOk c (immediate_reply (with_endpoint c ep d) r)
  gives_set ep d r less = record { act = refl; calm = λ k h. fewer-set has_unread c.endpoints ep k d less h; named = λ q e. absurd (cc) }

  unless_ok : (why : Option Refusal) (i : Issued) → IssueOk c i → IssueOk c (unless_refusal why c i)
  unless_ok None i ok = ok
  unless_ok (Some w) i ok = gives_ok (Reply.Refused w)

  busy_ok : (b : Bool) (i : Issued) → IssueOk c i → AllIssued c (if b then None else Some i)
  busy_ok true i ok = tt
  busy_ok false i ok = ok

  its_name : (q p : Packet) → Some p ≡ Some q → name_of p ≡ next_id c → name_of q ≡ next_id c
  its_name q p e h = let same : p ≡ q = cc in subst (λ z. name_of z ≡ next_id c) same h

  send_ok : (ep : ℕ) (payload : List ℕ) (to : Option ℕ) (e : Endpoint) → IssueOk c (send c ep payload to e)
  send_ok ep payload to Free = gives_ok (Reply.Refused Refusal.NoEndpoint)
  send_ok ep payload to (Receives r) = gives_ok (Reply.Refused Refusal.NoEndpoint)
  send_ok ep payload to (Reaches r) = gives_ok (Reply.Refused Refusal.NoEndpoint)
  send_ok ep payload to (Sends r) =
      unless_ok (send_refusal c r payload to)
      (record { told = Flies (next_id c); packet = Some (send_packet c r payload to); context = with_endpoint (with_flying_command c Sending ep 0) ep (Sends (less_one r)) })
      (record { act = refl; calm = λ k h. fewer-set has_unread c.endpoints ep k (Sends (less_one r)) (λ z. absurd (cc)) h; named = λ q e. its_name q (send_packet c r payload to) e refl })

  marked_ok : (ep token : ℕ) (payload : List ℕ) (r : ReceiveRecord) (o : Option Message) → endpoint c ep ≡ Receives r → IssueOk c (reply_to c ep token payload r o)
  marked_ok ep token payload r None e = gives_ok (Reply.Refused Refusal.NoSuchToken)
  marked_ok ep token payload r (Some m) e =
      record { act = refl; calm = λ k h. fewer-set has_unread c.endpoints ep k (Receives (with_mark_at true r token)) (λ z. subst (λ d. has_unread d ≡ true) (sym e) z) h; named = λ q f. its_name q (reply_packet c payload m) f refl }

  reply_ok : (ep token : ℕ) (payload : List ℕ) (e : Endpoint) → endpoint c ep ≡ e → IssueOk c (reply c ep token payload e)
  reply_ok ep token payload Free e = gives_ok (Reply.Refused Refusal.NoEndpoint)
  reply_ok ep token payload (Sends r) e = gives_ok (Reply.Refused Refusal.NoEndpoint)
  reply_ok ep token payload (Reaches r) e = gives_ok (Reply.Refused Refusal.NoEndpoint)
  reply_ok ep token payload (Receives r) e =
      unless_ok (reply_refusal r token payload) (reply_to c ep token payload r (unmarked_message (fetched_at token r.fetched))) (marked_ok ep token payload r (unmarked_message (fetched_at token r.fetched)) e)

  front_ok : (ep : ℕ) (r : ReceiveRecord) (ms : List Message) → endpoint c ep ≡ Receives r → r.unread ≡ ms → IssueOk c (fetch_from c ep r ms)
  front_ok ep r [] e f = gives_ok Reply.Nothing
  front_ok ep r (m ∷ rest) e f =
      let there : has_unread (endpoint c ep) ≡ true = ap has_unread e ∙ (ap (λ us. not (length us == 0)) f ∙ not_empty (length rest)) in
      gives_set ep (Receives (with_fetched r m rest)) (Reply.Fetched r.next_token m) (λ z. there)

  fetch_ok : (ep : ℕ) (e : Endpoint) → endpoint c ep ≡ e → IssueOk c (fetch c ep e)
  fetch_ok ep Free e = gives_ok (Reply.Refused Refusal.NoEndpoint)
  fetch_ok ep (Sends r) e = gives_ok (Reply.Refused Refusal.NoEndpoint)
  fetch_ok ep (Reaches r) e = gives_ok (Reply.Refused Refusal.NoEndpoint)
  fetch_ok ep (Receives r) e = unless_ok (first_of ((r.closing, Refusal.Revoked) ∷ [])) (fetch_from c ep r r.unread) (front_ok ep r r.unread e refl)

  gone_ok : (ep token : ℕ) (r : ReceiveRecord) (m : Message) (b : Bool) → endpoint c ep ≡ Receives r → IssueOk c (after_acknowledge c ep r token m b)
  gone_ok ep token r m true e =
      record { act = refl; calm = λ k h. fewer-set has_unread c.endpoints ep k (Receives (without_fetched r token)) (λ z. subst (λ d. has_unread d ≡ true) (sym e) z) h; named = λ q f. its_name q (credit_packet c m) f refl }
  gone_ok ep token r m false e = gives_set ep (Receives (without_fetched r token)) (Reply.Acknowledged None) (λ z. subst (λ d. has_unread d ≡ true) (sym e) z)

  token_ok : (ep token : ℕ) (r : ReceiveRecord) (o : Option Message) → endpoint c ep ≡ Receives r → IssueOk c (acknowledge_at c ep r token o)
  token_ok ep token r None e = gives_ok (Reply.Refused Refusal.NoSuchToken)
  token_ok ep token r (Some m) e = gone_ok ep token r m (m.header.flags == 0) e

  acknowledge_ok : (ep token : ℕ) (e : Endpoint) → endpoint c ep ≡ e → IssueOk c (acknowledge c ep token e)
  acknowledge_ok ep token Free e = gives_ok (Reply.Refused Refusal.NoEndpoint)
  acknowledge_ok ep token (Sends r) e = gives_ok (Reply.Refused Refusal.NoEndpoint)
  acknowledge_ok ep token (Reaches r) e = gives_ok (Reply.Refused Refusal.NoEndpoint)
  acknowledge_ok ep token (Receives r) e =
      unless_ok (first_of ((r.closing, Refusal.Revoked) ∷ [])) (acknowledge_at c ep r token (unmarked_message (fetched_at token r.fetched))) (token_ok ep token r (unmarked_message (fetched_at token r.fetched)) e)

  read_ok : (ep off len : ℕ) (e : Endpoint) → IssueOk c (read c ep off len e)
  read_ok ep off len Free = gives_ok (Reply.Refused Refusal.NoEndpoint)
  read_ok ep off len (Sends r) = gives_ok (Reply.Refused Refusal.NoEndpoint)
  read_ok ep off len (Receives r) = gives_ok (Reply.Refused Refusal.NoEndpoint)
  read_ok ep off len (Reaches r) =
      unless_ok (access_refusal r off len (may_read r.perm)) (access c Reading ep (Packet.Read (next_id c) r.grant (r.start + off) (replicate len 0)))
      (record { act = refl; calm = λ k h. h; named = λ q f. its_name q (Packet.Read (next_id c) r.grant (r.start + off) (replicate len 0)) f refl })

  write_ok : (ep off : ℕ) (payload : List ℕ) (e : Endpoint) → IssueOk c (write c ep off payload e)
  write_ok ep off payload Free = gives_ok (Reply.Refused Refusal.NoEndpoint)
  write_ok ep off payload (Sends r) = gives_ok (Reply.Refused Refusal.NoEndpoint)
  write_ok ep off payload (Receives r) = gives_ok (Reply.Refused Refusal.NoEndpoint)
  write_ok ep off payload (Reaches r) =
      unless_ok (access_refusal r off (length payload) (may_write r.perm)) (access c Writing ep (Packet.Write (next_id c) r.grant (r.start + off) payload))
      (record { act = refl; calm = λ k h. h; named = λ q f. its_name q (Packet.Write (next_id c) r.grant (r.start + off) payload) f refl })

pub issue_ok : (c : Context) (d : Command) → AllIssued c (issue c d)
issue_ok c (Command.Send ep payload to) = busy_ok c (is_busy c) (send c ep payload to (endpoint c ep)) (send_ok c ep payload to (endpoint c ep))
issue_ok c (Command.Reply ep token payload) = busy_ok c (is_busy c) (reply c ep token payload (endpoint c ep)) (reply_ok c ep token payload (endpoint c ep) refl)
issue_ok c (Command.Fetch ep) = fetch_ok c ep (endpoint c ep) refl
issue_ok c (Command.Acknowledge ep token) = acknowledge_ok c ep token (endpoint c ep) refl
issue_ok c (Command.Read ep off len) = busy_ok c (is_busy c) (read c ep off len (endpoint c ep)) (read_ok c ep off len (endpoint c ep))
issue_ok c (Command.Write ep off payload) = busy_ok c (is_busy c) (write c ep off payload (endpoint c ep)) (write_ok c ep off payload (endpoint c ep))
