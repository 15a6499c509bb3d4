-- Next numbers and next tokens rise by one at most.
use Rattle.std.proofs.Common.{◌≡◌, ℕ, ◌+◌, ◌<◌, ◌≤◌, Bool, true, false, List, [], ◌∷◌, length, get_or, set, Option, Some, None, refl, sym, subst, arith, ⊎_elim}
use Rattle.std.specs.Prelude.{if◌then◌else◌, ◌==◌}
use Rattle.std.proofs.lemmas.List.{get_or-set_same, get_or-set_other, set_past}
use Rattle.std.proofs.lemmas.Bool.{cases_eq, cases_lt}
use Rattle.m3_base.specs.declared.command.Command.{Command}
use Rattle.m3_base.specs.declared.command.Refusal.{Refusal}
use Rattle.m3_base.specs.declared.message.Message.{Message}
use Rattle.m3_base.specs.Ideal.Context.{ReceiveRecord, Endpoint, Free, Sends, Receives, Reaches, Context, endpoint}
use Rattle.m3_base.specs.Ideal.ReceiveRecord.{with_fetched, fetched_at, unmarked_message, without_fetched, with_mark_at}
use Rattle.m3_base.specs.Ideal.Issue.{Issued, first_of, issue, unless_refusal, unless_busy, is_busy, less_one, send, send_refusal, reply, reply_refusal, reply_to, fetch, fetch_from, acknowledge, acknowledge_at, after_acknowledge, may_read, may_write, access_refusal, read, write}
use Rattle.m3_model.specs.Config.KnownActivities.{next_token_at}
use Rattle.m3_model.specs.NumberBounds.{HasBoundedCounters}

pub low_more : (n : ℕ) (c : Context) → HasBoundedCounters n c → HasBoundedCounters (n + 1) c
low_more n c h = record { number = omega (arith, h.number); tokens = λ ep. omega (arith, h.tokens ep) }

-- an endpoint of n at most, among others
pub token_set : (n ep k : ℕ) (es : List Endpoint) (e : Endpoint) → ((j : ℕ) → next_token_at (get_or es j Free) ≤ n) → next_token_at e ≤ n → next_token_at (get_or (set es ep e) k Free) ≤ n
token_set n ep k es e low token = ⊎_elim (λ (same : k ≡ ep). subst (λ (j : ℕ). next_token_at (get_or (set es ep e) j Free) ≤ n) (sym same) here) other (cases_eq k ep)
  where
    here : next_token_at (get_or (set es ep e) ep Free) ≤ n
    here =
        ⊎_elim
        (λ (within : ep < length es). subst (λ (x : Endpoint). next_token_at x ≤ n) (sym (get_or-set_same es ep e Free within)) token)
        (λ (past : length es ≤ ep). subst (λ (xs : List Endpoint). next_token_at (get_or xs ep Free) ≤ n) (sym (set_past es ep e past)) (low ep))
        (cases_lt ep (length es))

    other : (k ≡ ep → ⊥) → next_token_at (get_or (set es ep e) k Free) ≤ n
    other ne = subst (λ (x : Endpoint). next_token_at x ≤ n) (sym (get_or-set_other es ep k e Free ne)) (low k)

-- an endpoint of n + 1 at most, among those of n
at_set : (n ep k : ℕ) (es : List Endpoint) (e : Endpoint) → ((j : ℕ) → next_token_at (get_or es j Free) ≤ n) → next_token_at e ≤ n + 1 → next_token_at (get_or (set es ep e) k Free) ≤ n + 1
at_set n ep k es e low token = token_set (n + 1) ep k es e (λ j. let t : next_token_at (get_or es j Free) ≤ n = low j in omega (arith, t)) token

-- an endpoint is written, and the next number rises by one at most
low_write : (n ep : ℕ) (c d : Context) (e : Endpoint) → HasBoundedCounters n c → d.next ≤ c.next + 1 → d.endpoints ≡ set c.endpoints ep e → next_token_at e ≤ n + 1 → HasBoundedCounters (n + 1) d
low_write n ep c d e h next same token = record {
  number = (let m : c.next ≤ n + 1 = h.number in omega (arith, m, next));
  tokens = λ k. subst (λ (es : List Endpoint). next_token_at (get_or es k Free) ≤ n + 1) (sym same) (at_set n ep k c.endpoints e h.tokens token);
}

-- the endpoints stay
low_stay : (n : ℕ) (c d : Context) → HasBoundedCounters n c → d.next ≤ c.next + 1 → d.endpoints ≡ c.endpoints → HasBoundedCounters (n + 1) d
low_stay n c d h next same = record {
  number = (let m : c.next ≤ n + 1 = h.number in omega (arith, m, next));
  tokens = λ k. subst (λ (es : List Endpoint). next_token_at (get_or es k Free) ≤ n + 1) (sym same) (let t : next_token_at (get_or c.endpoints k Free) ≤ n = h.tokens k in omega (arith, t));
}

-- ---- each command

unless_low : (n : ℕ) (why : Option Refusal) (c : Context) (i : Issued) → HasBoundedCounters n c → HasBoundedCounters (n + 1) i.context → HasBoundedCounters (n + 1) (unless_refusal why c i).context
unless_low n None c i h g = g
unless_low n (Some x) c i h g = low_more n c h

send_low : (n : ℕ) (c : Context) (ep : ℕ) (payload : List ℕ) (to : Option ℕ) (e : Endpoint) → HasBoundedCounters n c → HasBoundedCounters (n + 1) (send c ep payload to e).context
send_low n c ep payload to (Sends r) h = unless_low n (send_refusal c r payload to) c _ h (low_write n ep c _ (Sends (less_one r)) h (omega arith) refl (omega arith))
send_low n c ep payload to Free h = low_more n c h
send_low n c ep payload to (Receives r) h = low_more n c h
send_low n c ep payload to (Reaches r) h = low_more n c h

-- a receive record of the context
abbrev IsLowRecord : ℕ → ReceiveRecord → Type 0
IsLowRecord n r = r.next_token ≤ n

reply_to_low : (n : ℕ) (c : Context) (ep token : ℕ) (payload : List ℕ) (r : ReceiveRecord) (o : Option Message) → IsLowRecord n r → HasBoundedCounters n c → HasBoundedCounters (n + 1) (reply_to c ep token payload r o).context
reply_to_low n c ep token payload r None l h = low_more n c h
reply_to_low n c ep token payload r (Some m) l h = low_write n ep c _ (Receives (with_mark_at true r token)) h (omega arith) refl (omega (arith, l))

reply_low : (n : ℕ) (c : Context) (ep token : ℕ) (payload : List ℕ) (e : Endpoint) → next_token_at e ≤ n → HasBoundedCounters n c → HasBoundedCounters (n + 1) (reply c ep token payload e).context
reply_low n c ep token payload (Receives r) l h =
    unless_low n (reply_refusal r token payload) c _ h (reply_to_low n c ep token payload r (unmarked_message (fetched_at token r.fetched)) l h)
reply_low n c ep token payload Free l h = low_more n c h
reply_low n c ep token payload (Sends r) l h = low_more n c h
reply_low n c ep token payload (Reaches r) l h = low_more n c h

acknowledged_low : (n : ℕ) (c : Context) (ep : ℕ) (r : ReceiveRecord) (token : ℕ) (m : Message) (b : Bool) → IsLowRecord n r → HasBoundedCounters n c → HasBoundedCounters (n + 1) (after_acknowledge c ep r token m b).context
acknowledged_low n c ep r token m true l h = low_write n ep c _ (Receives (without_fetched r token)) h (omega arith) refl (omega (arith, l))
acknowledged_low n c ep r token m false l h = low_write n ep c _ (Receives (without_fetched r token)) h (omega arith) refl (omega (arith, l))

acknowledge_at_low : (n : ℕ) (c : Context) (ep token : ℕ) (r : ReceiveRecord) (o : Option Message) → IsLowRecord n r → HasBoundedCounters n c → HasBoundedCounters (n + 1) (acknowledge_at c ep r token o).context
acknowledge_at_low n c ep token r None l h = low_more n c h
acknowledge_at_low n c ep token r (Some m) l h = acknowledged_low n c ep r token m (m.header.flags == 0) l h

acknowledge_low : (n : ℕ) (c : Context) (ep token : ℕ) (e : Endpoint) → next_token_at e ≤ n → HasBoundedCounters n c → HasBoundedCounters (n + 1) (acknowledge c ep token e).context
acknowledge_low n c ep token (Receives r) l h =
    unless_low n (first_of ((r.closing, Refusal.Revoked) ∷ [])) c _ h (acknowledge_at_low n c ep token r (unmarked_message (fetched_at token r.fetched)) l h)
acknowledge_low n c ep token Free l h = low_more n c h
acknowledge_low n c ep token (Sends r) l h = low_more n c h
acknowledge_low n c ep token (Reaches r) l h = low_more n c h

fetch_from_low : (n : ℕ) (c : Context) (ep : ℕ) (r : ReceiveRecord) (ms : List Message) → IsLowRecord n r → HasBoundedCounters n c → HasBoundedCounters (n + 1) (fetch_from c ep r ms).context
fetch_from_low n c ep r [] l h = low_more n c h
fetch_from_low n c ep r (m ∷ ms) l h = low_write n ep c _ (Receives (with_fetched r m ms)) h (omega arith) refl (omega (arith, l))

fetch_low : (n : ℕ) (c : Context) (ep : ℕ) (e : Endpoint) → next_token_at e ≤ n → HasBoundedCounters n c → HasBoundedCounters (n + 1) (fetch c ep e).context
fetch_low n c ep (Receives r) l h = unless_low n (first_of ((r.closing, Refusal.Revoked) ∷ [])) c _ h (fetch_from_low n c ep r r.unread l h)
fetch_low n c ep Free l h = low_more n c h
fetch_low n c ep (Sends r) l h = low_more n c h
fetch_low n c ep (Reaches r) l h = low_more n c h

read_low : (n : ℕ) (c : Context) (ep off len : ℕ) (e : Endpoint) → HasBoundedCounters n c → HasBoundedCounters (n + 1) (read c ep off len e).context
read_low n c ep off len (Reaches r) h = unless_low n (access_refusal r off len (may_read r.perm)) c _ h (low_stay n c _ h (omega arith) refl)
read_low n c ep off len Free h = low_more n c h
read_low n c ep off len (Sends r) h = low_more n c h
read_low n c ep off len (Receives r) h = low_more n c h

write_low : (n : ℕ) (c : Context) (ep off : ℕ) (payload : List ℕ) (e : Endpoint) → HasBoundedCounters n c → HasBoundedCounters (n + 1) (write c ep off payload e).context
write_low n c ep off payload (Reaches r) h = unless_low n (access_refusal r off (length payload) (may_write r.perm)) c _ h (low_stay n c _ h (omega arith) refl)
write_low n c ep off payload Free h = low_more n c h
write_low n c ep off payload (Sends r) h = low_more n c h
write_low n c ep off payload (Receives r) h = low_more n c h

abbrev pub AllLow : ℕ → Option Issued → Type 0
AllLow n None = Unit {0}
AllLow n (Some i) = HasBoundedCounters n i.context

busy_low : (n : ℕ) (c : Context) (i : Issued) → HasBoundedCounters n i.context → AllLow n (unless_busy c i)
busy_low n c i g = by_busy (is_busy c)
  where
    by_busy : (b : Bool) → AllLow n (if b then None else Some i)
    by_busy true = tt
    by_busy false = g

pub issue_low : (n : ℕ) (c : Context) (command : Command) → HasBoundedCounters n c → AllLow (n + 1) (issue c command)
issue_low n c (Command.Send ep payload to) h = busy_low (n + 1) c _ (send_low n c ep payload to (endpoint c ep) h)
issue_low n c (Command.Reply ep token payload) h = busy_low (n + 1) c _ (reply_low n c ep token payload (endpoint c ep) (h.tokens ep) h)
issue_low n c (Command.Fetch ep) h = fetch_low n c ep (endpoint c ep) (h.tokens ep) h
issue_low n c (Command.Acknowledge ep token) h = acknowledge_low n c ep token (endpoint c ep) (h.tokens ep) h
issue_low n c (Command.Read ep off len) h = busy_low (n + 1) c _ (read_low n c ep off len (endpoint c ep) h)
issue_low n c (Command.Write ep off payload) h = busy_low (n + 1) c _ (write_low n c ep off payload (endpoint c ep) h)
