-- The messages of a grant that were fetched, and then those that are unread, are those that landed.
use Rattle.std.proofs.Common.{◌≡◌, ℕ, zero, suc, Bool, true, false, List, [], ◌∷◌, ◌++◌, length, get_or, set, Some, None, refl, sym, subst, ◌∙◌, ap, inl, inr, append_assoc}
use Rattle.std.specs.Prelude.{Option, if◌then◌else◌, ◌==◌, ◌⊎◌}
use Rattle.std.proofs.lemmas.List.{append-nil}
use Rattle.m3_base.specs.declared.ids.FlightId.{FlightId}
use Rattle.m3_base.specs.declared.message.Message.{Message}
use Rattle.m3_base.specs.declared.packet.Packet.{Packet}
use Rattle.m3_base.specs.declared.packet.Fresh.{Fresh}
use Rattle.m3_base.specs.declared.command.Refusal.{Refusal}
use Rattle.m3_base.specs.declared.command.Reply.{Reply}
use Rattle.m3_base.specs.declared.command.Command.{Command}
use Rattle.m3_base.specs.Ideal.Flights.{flight}
use Rattle.m3_base.specs.Ideal.Context.{Kind, Sending, Reading, Writing, ReceiveRecord, Endpoint, Free, Sends, Receives, Reaches, Context, endpoint, with_endpoint}
use Rattle.m3_base.specs.Ideal.ReceiveRecord.{with_fetched, fetched_at, unmarked_message, without_fetched, with_mark_at}
use Rattle.m3_base.specs.Ideal.Issue.{IssueOutcome, Issued, issue, send, send_refusal, send_packet, next_id, with_flying_command, less_one, unless_refusal, reply, reply_refusal, reply_to, fetch, fetch_from, acknowledge, acknowledge_at, after_acknowledge, read, write, access, access_refusal, may_read, may_write, first_of, is_busy}
use Rattle.m3_base.specs.Ideal.Landing.{grant_of, endpoints_with_credit, sends_by, more_at}
use Rattle.m3_base.specs.Ideal.State.{Grant, State, context_of, put_context, same_act, grant_in, holder, holder_ep}
use Rattle.m3_base.specs.Ideal.Step.{number_of}
use Rattle.m3_base.specs.Ideal.MessageTraces.{only_of, shown_by}
use Rattle.m3_laws.specs.Laws.{parent_at}
use Rattle.m3_laws.specs.Invariant.{Invariant}
use Rattle.m3_laws.proofs.credits.Issue.{came_through}
use Rattle.m3_laws.proofs.invariant.step.LookUps.{found_after}
use Rattle.m3_laws.proofs.credits.Counting.{at_set}
use Rattle.m3_laws.proofs.invariant.step.Consequences.{held_there}
use Rattle.m3_base.specs.Lists.Prefixes.{IsPrefix}
use Rattle.std.proofs.lemmas.Option.{same_Some}

abbrev pub sent_of : ℕ → List Message → List Message
sent_of g [] = []
sent_of g (m ∷ ms) = only_of g m ++ sent_of g ms

abbrev pub unread_of : Endpoint → List Message
unread_of Free = []
unread_of (Sends r) = []
unread_of (Reaches r) = []
unread_of (Receives r) = r.unread

abbrev pub IsParent : List Grant → ℕ → ℕ → Type 0
IsParent gs g h = parent_at (grant_in gs g) ≡ Some h

pub record Shown (g : ℕ) (s : State) (fetched landed : List Message) : Type 0 where
  -- at the record of its parent
  pub at : (a ep h : ℕ) (c : Context) → context_of a s.contexts ≡ Some c → grant_of (endpoint c ep) ≡ Some h → IsParent s.grants g h → fetched ++ sent_of g (unread_of (endpoint c ep)) ≡ landed
  -- while its parent's Install flies, and before it is made
  pub coming : (id x : FlightId) (to ep : ℕ) (f : Fresh) → flight id s.flights ≡ Some (Packet.Install x to ep f) → IsParent s.grants g (number_of f) → fetched ≡ landed
  pub unmade : grant_in s.grants g ≡ None → fetched ≡ landed
  -- for ever
  pub prefix : IsPrefix fetched landed

-- an endpoint of an earlier state with these messages unread
pub record Before (g : ℕ) (s : State) (a ep h : ℕ) (e : Endpoint) : Type 0 where
  pub context : Context
  pub found : context_of a s.contexts ≡ Some context
  pub grant : grant_of (endpoint context ep) ≡ Some h
  pub sent : sent_of g (unread_of (endpoint context ep)) ≡ sent_of g (unread_of e)

abbrev pub AllBefore : ℕ → State → List Context → Type 0
AllBefore g s cs = (a ep h : ℕ) (c : Context) → context_of a cs ≡ Some c → grant_of (endpoint c ep) ≡ Some h → Before g s a ep h (endpoint c ep)

pub before_same : (g : ℕ) (s : State) → AllBefore g s s.contexts
before_same g s a ep h c at e = record { context = c; found = at; grant = e; sent = refl }

-- a state that says the same of g
pub record Alike (g : ℕ) (s n : State) : Type 0 where
  pub parents : (h : ℕ) → IsParent n.grants g h → IsParent s.grants g h
  pub unmade : grant_in n.grants g ≡ None → grant_in s.grants g ≡ None
  pub contexts : AllBefore g s n.contexts
  pub flights : (id x : FlightId) (to ep : ℕ) (f : Fresh) → flight id n.flights ≡ Some (Packet.Install x to ep f) → flight id s.flights ≡ Some (Packet.Install x to ep f)

pub shown_stays : (g : ℕ) (s n : State) (fetched landed : List Message) → Alike g s n → Shown g s fetched landed → Shown g n fetched landed
shown_stays g s n fetched landed l old = record {
  at = λ a ep h c at e p. by_before a ep h (endpoint c ep) (l.contexts a ep h c at e) (l.parents h p);
  coming = λ id x to ep f e p. old.coming id x to ep f (l.flights id x to ep f e) (l.parents (number_of f) p);
  unmade = λ e. old.unmade (l.unmade e);
  prefix = old.prefix;
}
  where
    by_before : (a ep h : ℕ) (e : Endpoint) → Before g s a ep h e → IsParent s.grants g h → fetched ++ sent_of g (unread_of e) ≡ landed
    by_before a ep h e b p = ap (λ z. fetched ++ z) (sym b.sent) ∙ old.at a ep h b.context b.found b.grant p

-- ---- one context in place of another

-- where an endpoint has a grant after the change, it had it before, with these messages unread
abbrev pub AllSame : ℕ → List Endpoint → List Endpoint → Type 0
AllSame g es ds = (i h : ℕ) → grant_of (get_or ds i Free) ≡ Some h → (grant_of (get_or es i Free) ≡ Some h) × (sent_of g (unread_of (get_or es i Free)) ≡ sent_of g (unread_of (get_or ds i Free)))

pub same_itself : (g : ℕ) (es : List Endpoint) → AllSame g es es
same_itself g es i h e = (e, refl)

pub same_set : (g : ℕ) (es : List Endpoint) (ep : ℕ) (e : Endpoint) → ((h : ℕ) → grant_of e ≡ Some h → (grant_of (get_or es ep Free) ≡ Some h) × (sent_of g (unread_of (get_or es ep Free)) ≡ sent_of g (unread_of e))) → AllSame g es (set es ep e)
same_set g es ep e k i h w = by_place (at_set es ep i e)
  where
    by_place : (get_or (set es ep e) i Free ≡ get_or es i Free) ⊎ ((i ≡ ep) × (get_or (set es ep e) i Free ≡ e)) → (grant_of (get_or es i Free) ≡ Some h) × (sent_of g (unread_of (get_or es i Free)) ≡ sent_of g (unread_of (get_or (set es ep e) i Free)))
    by_place (inl q) = (ap grant_of (sym q) ∙ w, ap (λ z. sent_of g (unread_of z)) (sym q))
    by_place (inr q) =
        let z = k h (ap grant_of (sym q.1) ∙ w) in
        (ap (λ j. grant_of (get_or es j Free)) q.0 ∙ z.0, ap (λ j. sent_of g (unread_of (get_or es j Free))) q.0 ∙ (z.1 ∙ ap (λ z. sent_of g (unread_of z)) (sym q.1)))

pub same_then : (g : ℕ) (es ds ks : List Endpoint) → AllSame g es ds → AllSame g ds ks → AllSame g es ks
same_then g es ds ks x y i h e = let b = y i h e in let a = x i h b.0 in (a.0, a.1 ∙ b.1)

pub before_put : (g : ℕ) (s : State) (c d : Context) → context_of d.act s.contexts ≡ Some c → AllSame g c.endpoints d.endpoints → AllBefore g s (put_context d s.contexts)
before_put g s c d at same a ep h x e w = by_found (found_after a x c d s.contexts at e)
  where
    by_found : ((a ≡ d.act) × (x ≡ d)) ⊎ ((same_act a d.act ≡ false) × (context_of a s.contexts ≡ Some x)) → Before g s a ep h (endpoint x ep)
    by_found (inr q) = record { context = x; found = q.1; grant = w; sent = refl }
    by_found (inl q) =
        let z = same ep h (ap (λ y. grant_of (endpoint y ep)) (sym q.1) ∙ w) in
        record { context = c; found = subst (λ k. context_of k s.contexts ≡ Some c) (sym q.0) at; grant = z.0; sent = z.1 ∙ ap (λ y. sent_of g (unread_of (endpoint y ep))) (sym q.1) }

pub same_credited : (g h : ℕ) (es : List Endpoint) → AllSame g es (endpoints_with_credit h es)
same_credited g h [] i k e = (e, refl)
same_credited g h (x ∷ es) i k e = by_send x (sends_by h x) (same_credited g h es) i e
  where
    more_same : (x : Endpoint) (k : ℕ) → grant_of (more_at x) ≡ Some k → (grant_of x ≡ Some k) × (sent_of g (unread_of x) ≡ sent_of g (unread_of (more_at x)))
    more_same Free k e = (e, refl)
    more_same (Sends r) k e = (e, refl)
    more_same (Receives r) k e = (e, refl)
    more_same (Reaches r) k e = (e, refl)

    by_send : (x : Endpoint) (b : Bool) → AllSame g es (endpoints_with_credit h es) → (i : ℕ) → grant_of (get_or (if b then more_at x ∷ es else x ∷ endpoints_with_credit h es) i Free) ≡ Some k → (grant_of (get_or (x ∷ es) i Free) ≡ Some k) × (sent_of g (unread_of (get_or (x ∷ es) i Free)) ≡ sent_of g (unread_of (get_or (if b then more_at x ∷ es else x ∷ endpoints_with_credit h es) i Free)))
    by_send x true ih zero e = more_same x k e
    by_send x true ih (suc i) e = (e, refl)
    by_send x false ih zero e = (e, refl)
    by_send x false ih (suc i) e = ih i k e

-- ---- commands

-- a command leaves what is unread, or it fetches the oldest
pub record Fetches (c : Context) (i : Issued) : Type 0 where
  pub ep : ℕ
  pub its : ReceiveRecord
  pub message : Message
  pub rest : List Message
  pub found : endpoint c ep ≡ Receives its
  pub unread : its.unread ≡ message ∷ rest
  pub endpoints : i.context.endpoints ≡ set c.endpoints ep (Receives (with_fetched its message rest))
  pub told : i.told ≡ IssueOutcome.Gives (Reply.Fetched its.next_token message)

abbrev pub Leaves : ℕ → Context → Issued → Type 0
Leaves g c i = (AllSame g c.endpoints i.context.endpoints × (shown_by g i.told ≡ [])) ⊎ Fetches c i

leaves_as : (g : ℕ) (c : Context) (i : Issued) → i.context.endpoints ≡ c.endpoints → shown_by g i.told ≡ [] → Leaves g c i
leaves_as g c i e w = inl (subst (AllSame g c.endpoints) (sym e) (same_itself g c.endpoints), w)

leaves_set : (g : ℕ) (c : Context) (i : Issued) (ep : ℕ) (e : Endpoint) → i.context.endpoints ≡ set c.endpoints ep e → shown_by g i.told ≡ [] → grant_of e ≡ grant_of (endpoint c ep) → unread_of e ≡ unread_of (endpoint c ep) → Leaves g c i
leaves_set g c i ep e q w k u = inl (subst (AllSame g c.endpoints) (sym q) (same_set g c.endpoints ep e (λ h z. (sym k ∙ z, ap (sent_of g) (sym u)))), w)

send_leaves : (g : ℕ) (c : Context) (ep : ℕ) (payload : List ℕ) (to : Option ℕ) (e : Endpoint) → endpoint c ep ≡ e → Leaves g c (send c ep payload to e)
send_leaves g c ep payload to Free at = leaves_as g c _ refl refl
send_leaves g c ep payload to (Receives r) at = leaves_as g c _ refl refl
send_leaves g c ep payload to (Reaches r) at = leaves_as g c _ refl refl
send_leaves g c ep payload to (Sends r) at = by_why (send_refusal c r payload to)
  where
    by_why : (why : Option Refusal) → Leaves g c (unless_refusal why c (record { told = IssueOutcome.Flies (next_id c); packet = Some (send_packet c r payload to); context = with_endpoint (with_flying_command c Sending ep 0) ep (Sends (less_one r)) }))
    by_why (Some w) = leaves_as g c _ refl refl
    by_why None = leaves_set g c _ ep (Sends (less_one r)) refl refl (ap grant_of (sym at)) (ap unread_of (sym at))

reply_leaves : (g : ℕ) (c : Context) (ep token : ℕ) (payload : List ℕ) (e : Endpoint) → endpoint c ep ≡ e → Leaves g c (reply c ep token payload e)
reply_leaves g c ep token payload Free at = leaves_as g c _ refl refl
reply_leaves g c ep token payload (Sends r) at = leaves_as g c _ refl refl
reply_leaves g c ep token payload (Reaches r) at = leaves_as g c _ refl refl
reply_leaves g c ep token payload (Receives r) at = by_why (reply_refusal r token payload) (unmarked_message (fetched_at token r.fetched))
  where
    by_why : (why : Option Refusal) (o : Option Message) → Leaves g c (unless_refusal why c (reply_to c ep token payload r o))
    by_why (Some w) o = leaves_as g c _ refl refl
    by_why None None = leaves_as g c _ refl refl
    by_why None (Some m) = leaves_set g c _ ep (Receives (with_mark_at true r token)) refl refl (ap grant_of (sym at)) (ap unread_of (sym at))

fetch_leaves : (g : ℕ) (c : Context) (ep : ℕ) (e : Endpoint) → endpoint c ep ≡ e → Leaves g c (fetch c ep e)
fetch_leaves g c ep Free at = leaves_as g c _ refl refl
fetch_leaves g c ep (Sends r) at = leaves_as g c _ refl refl
fetch_leaves g c ep (Reaches r) at = leaves_as g c _ refl refl
fetch_leaves g c ep (Receives r) at = by_why (first_of ((r.closing, Refusal.Revoked) ∷ [])) r.unread refl
  where
    by_why : (why : Option Refusal) (ms : List Message) → r.unread ≡ ms → Leaves g c (unless_refusal why c (fetch_from c ep r ms))
    by_why (Some w) ms e = leaves_as g c _ refl refl
    by_why None [] e = leaves_as g c _ refl refl
    by_why None (m ∷ rest) e = inr (record { ep = ep; its = r; message = m; rest = rest; found = at; unread = e; endpoints = refl; told = refl })

acknowledge_leaves : (g : ℕ) (c : Context) (ep token : ℕ) (e : Endpoint) → endpoint c ep ≡ e → Leaves g c (acknowledge c ep token e)
acknowledge_leaves g c ep token Free at = leaves_as g c _ refl refl
acknowledge_leaves g c ep token (Sends r) at = leaves_as g c _ refl refl
acknowledge_leaves g c ep token (Reaches r) at = leaves_as g c _ refl refl
acknowledge_leaves g c ep token (Receives r) at = by_why (first_of ((r.closing, Refusal.Revoked) ∷ [])) (unmarked_message (fetched_at token r.fetched))
  where
    done : (m : Message) (b : Bool) → Leaves g c (after_acknowledge c ep r token m b)
    done m true = leaves_set g c _ ep (Receives (without_fetched r token)) refl refl (ap grant_of (sym at)) (ap unread_of (sym at))
    done m false = leaves_set g c _ ep (Receives (without_fetched r token)) refl refl (ap grant_of (sym at)) (ap unread_of (sym at))

    by_why : (why : Option Refusal) (o : Option Message) → Leaves g c (unless_refusal why c (acknowledge_at c ep r token o))
    by_why (Some w) o = leaves_as g c _ refl refl
    by_why None None = leaves_as g c _ refl refl
    by_why None (Some m) = done m (m.header.flags == 0)

access_leaves : (g : ℕ) (c : Context) (kind : Kind) (ep : ℕ) (p : Packet) (why : Option Refusal) → Leaves g c (unless_refusal why c (access c kind ep p))
access_leaves g c kind ep p (Some w) = leaves_as g c _ refl refl
access_leaves g c kind ep p None = leaves_as g c _ refl refl

read_leaves : (g : ℕ) (c : Context) (ep off len : ℕ) (e : Endpoint) → Leaves g c (read c ep off len e)
read_leaves g c ep off len (Reaches r) = access_leaves g c Reading ep _ (access_refusal r off len (may_read r.perm))
read_leaves g c ep off len Free = leaves_as g c _ refl refl
read_leaves g c ep off len (Sends r) = leaves_as g c _ refl refl
read_leaves g c ep off len (Receives r) = leaves_as g c _ refl refl

write_leaves : (g : ℕ) (c : Context) (ep off : ℕ) (payload : List ℕ) (e : Endpoint) → Leaves g c (write c ep off payload e)
write_leaves g c ep off payload (Reaches r) = access_leaves g c Writing ep _ (access_refusal r off (length payload) (may_write r.perm))
write_leaves g c ep off payload Free = leaves_as g c _ refl refl
write_leaves g c ep off payload (Sends r) = leaves_as g c _ refl refl
write_leaves g c ep off payload (Receives r) = leaves_as g c _ refl refl

pub issue_leaves : (g : ℕ) (c : Context) (k : Command) (i : Issued) → issue c k ≡ Some i → Leaves g c i
issue_leaves g c (Command.Send ep payload to) i e = subst (Leaves g c) (came_through (is_busy c) _ i e) (send_leaves g c ep payload to (endpoint c ep) refl)
issue_leaves g c (Command.Reply ep token payload) i e = subst (Leaves g c) (came_through (is_busy c) _ i e) (reply_leaves g c ep token payload (endpoint c ep) refl)
issue_leaves g c (Command.Fetch ep) i e = subst (Leaves g c) (same_Some _ i e) (fetch_leaves g c ep (endpoint c ep) refl)
issue_leaves g c (Command.Acknowledge ep token) i e = subst (Leaves g c) (same_Some _ i e) (acknowledge_leaves g c ep token (endpoint c ep) refl)
issue_leaves g c (Command.Read ep off len) i e = subst (Leaves g c) (came_through (is_busy c) _ i e) (read_leaves g c ep off len (endpoint c ep))
issue_leaves g c (Command.Write ep off payload) i e = subst (Leaves g c) (came_through (is_busy c) _ i e) (write_leaves g c ep off payload (endpoint c ep))

-- ---- one record of a grant

pub one_place : (s : State) → Invariant s → (h a b i j : ℕ) (c d : Context) → context_of a s.contexts ≡ Some c → context_of b s.contexts ≡ Some d → grant_of (endpoint c i) ≡ Some h → grant_of (endpoint d j) ≡ Some h → (a ≡ b) × (i ≡ j)
one_place s law h a b i j c d at at' e e' =
    let x = held_there s law a i h c at e in
    let y = held_there s law b j h d at' e' in
    let same : Some x.grant ≡ Some y.grant = sym x.found ∙ y.found in
    let grant : x.grant ≡ y.grant = cc in
    (sym x.act ∙ (ap (λ z. holder z.line) grant ∙ y.act), sym x.endpoint ∙ (ap (λ z. holder_ep z.line) grant ∙ y.endpoint))

pub sent_of-push : (g : ℕ) (ms : List Message) (m : Message) → sent_of g (ms ++ m ∷ []) ≡ sent_of g ms ++ only_of g m
sent_of-push g [] m = append-nil (only_of g m)
sent_of-push g (x ∷ ms) m = ap (λ z. only_of g x ++ z) (sent_of-push g ms m) ∙ sym (append_assoc (only_of g x) (sent_of g ms) (only_of g m))
