-- What a command does to queues, and what its packet names.
use Rattle.std.proofs.Common.{◌≡◌, ℕ, zero, suc, ◌<◌, ◌≤◌, Bool, true, false, List, [], ◌∷◌, ◌++◌, length, get_or, set, Some, None, refl, sym, subst, ◌∙◌, ap, arith, inl, inr, length-append}
use Rattle.std.specs.Prelude.{Option, if◌then◌else◌, ◌==◌, ◌⊎◌}
use Rattle.std.proofs.lemmas.Bool.Decides.{nat_tests}
use Rattle.m3_base.specs.declared.message.Message.{Message}
use Rattle.m3_base.specs.declared.packet.Packet.{Packet}
use Rattle.m3_base.specs.declared.command.Refusal.{Refusal}
use Rattle.m3_base.specs.declared.command.Command.{Command}
use Rattle.m3_base.specs.Ideal.Context.{Kind, Sending, Reading, Writing, Flying, SendRecord, Fetched, ReceiveRecord, Endpoint, Free, Sends, Receives, Reaches, Context, endpoint, with_endpoint}
use Rattle.m3_base.specs.Ideal.ReceiveRecord.{with_fetched, fetched_at, unmarked_message, without_token, with_mark, without_fetched, with_mark_at}
use Rattle.m3_base.specs.Ideal.Issue.{less_one, send, send_refusal, reply, reply_to, reply_refusal, fetch, fetch_from, acknowledge, acknowledge_at, after_acknowledge, read, write, access, access_refusal, may_read, may_write, unless_refusal, first_of, with_flying_command, next_id, Issued, issue, is_busy, IssueOutcome, send_packet}
use Rattle.m3_base.specs.Ideal.Landing.{flying_at}
use Rattle.m3_laws.proofs.credits.Issue.{came_through}
use Rattle.m3_laws.proofs.invariant.step.IssueEffects.{no_flags}
use Rattle.m3_base.specs.Ideal.State.{Grant, grant_in}
use Rattle.m3_laws.specs.GrantInvariant.{HolderIs, ChildOf, SentTo, AllSentTo, AllFetchedTo, QueueLawful}
use Rattle.std.proofs.lemmas.Option.{same_Some}

abbrev pub EachLawful : List Grant → List Endpoint → Type 0
EachLawful gs es = (i : ℕ) → QueueLawful gs (get_or es i Free)

pub child_holder : (o : Option Grant) (a h : ℕ) → ChildOf o a h → HolderIs o a
child_holder None a h c = absurd c
child_holder (Some x) a h c = c.0

pub sent-push : (gs : List Grant) (h : ℕ) (m : Message) (ms : List Message) → SentTo gs h m → AllSentTo gs h ms → AllSentTo gs h (ms ++ m ∷ [])
sent-push gs h m [] s a = (s, tt)
sent-push gs h m (x ∷ ms) s a = (a.0, sent-push gs h m ms s a.1)

fetched-push : (gs : List Grant) (h : ℕ) (f : Fetched) (fs : List Fetched) → SentTo gs h f.message → AllFetchedTo gs h fs → AllFetchedTo gs h (fs ++ f ∷ [])
fetched-push gs h f [] s a = (s, tt)
fetched-push gs h f (x ∷ fs) s a = (a.0, fetched-push gs h f fs s a.1)

pub fetched-without : (gs : List Grant) (h : ℕ) (t : ℕ) (fs : List Fetched) → AllFetchedTo gs h fs → AllFetchedTo gs h (without_token t fs)
fetched-without gs h t [] a = tt
fetched-without gs h t (x ∷ fs) a = by_token (x.token == t) (fetched-without gs h t fs a.1)
  where
    by_token : (b : Bool) → AllFetchedTo gs h (without_token t fs) → AllFetchedTo gs h (if b then fs else x ∷ without_token t fs)
    by_token true s = a.1
    by_token false s = (a.0, s)

pub fetched-mark : (gs : List Grant) (h : ℕ) (b : Bool) (t : ℕ) (fs : List Fetched) → AllFetchedTo gs h fs → AllFetchedTo gs h (with_mark b t fs)
fetched-mark gs h b t [] a = tt
fetched-mark gs h b t (x ∷ fs) a = by_token (x.token == t) (fetched-mark gs h b t fs a.1)
  where
    by_token : (d : Bool) → AllFetchedTo gs h (with_mark b t fs) → AllFetchedTo gs h (if d then record x { marked = b } ∷ fs else x ∷ with_mark b t fs)
    by_token true s = a
    by_token false s = (a.0, s)

pub fetched-found : (gs : List Grant) (h : ℕ) (t : ℕ) (m : Message) (fs : List Fetched) → AllFetchedTo gs h fs → unmarked_message (fetched_at t fs) ≡ Some m → SentTo gs h m
fetched-found gs h t m [] a e = absurd (cc)
fetched-found gs h t m (x ∷ fs) a e = by_token (x.token == t) refl (fetched-found gs h t m fs a.1)
  where
    by_token : (b : Bool) → (x.token == t) ≡ b → (unmarked_message (fetched_at t fs) ≡ Some m → SentTo gs h m) → SentTo gs h m
    by_token true w ih = let same : x.message ≡ m = grind (arith, w, e) in subst (SentTo gs h) same a.0
    by_token false w ih = ih (grind (arith, w, e))

-- what a new packet names
abbrev pub NewLawful : List Grant → Option Packet → Type 0
NewLawful gs (Some (Packet.Message to ep h m)) = SentTo gs h m × ((m.header.flags == 0) ≡ false → HolderIs (grant_in gs m.header.send) to)
NewLawful gs (Some (Packet.Credit id to h)) = HolderIs (grant_in gs h) to
NewLawful gs p = Unit {0}

pub record Owns (gs : List Grant) (c : Context) (i : Issued) : Type 0 where
  pub each : EachLawful gs i.context.endpoints
  pub packet : NewLawful gs i.packet
  pub lone : length c.flying ≤ 1 → length i.context.flying ≤ 1
  pub next : c.next ≤ i.context.next
  pub rose : flying_at c.next c.flying ≡ None → (flying_at c.next i.context.flying ≡ None) ⊎ (c.next < i.context.next)
  pub rose_packet : (i.packet ≡ None) ⊎ (c.next < i.context.next)

stays : (gs : List Grant) (c : Context) (i : Issued) → EachLawful gs c.endpoints → i.context ≡ c → i.packet ≡ None → Owns gs c i
stays gs c i h e p = record {
  each = subst (λ x. EachLawful gs x.endpoints) (sym e) h;
  packet = subst (NewLawful gs) (sym p) tt;
  lone = λ l. subst (λ x. length x.flying ≤ 1) (sym e) l;
  next = subst (λ x. c.next ≤ x.next) (sym e) (omega arith);
  rose = λ n. inl (ap (λ x. flying_at c.next x.flying) e ∙ n);
  rose_packet = inl p;
}

pub each_set : (gs : List Grant) (es : List Endpoint) (ep : ℕ) (d : Endpoint) → EachLawful gs es → QueueLawful gs d → EachLawful gs (set es ep d)
each_set gs [] ep d h q i = tt
each_set gs (x ∷ es) zero d h q zero = q
each_set gs (x ∷ es) zero d h q (suc i) = h (suc i)
each_set gs (x ∷ es) (suc ep) d h q zero = h 0
each_set gs (x ∷ es) (suc ep) d h q (suc i) = each_set gs es ep d (λ k. h (suc k)) q i

send_homes : (gs : List Grant) (c : Context) (ep : ℕ) (payload : List ℕ) (to : Option ℕ) (r : SendRecord) → ChildOf (grant_in gs r.grant) c.act r.to_grant → EachLawful gs c.endpoints → endpoint c ep ≡ Sends r → c.flying ≡ [] → (why : Option Refusal) → Owns gs c (unless_refusal why c (record { told = IssueOutcome.Flies (next_id c); packet = Some (send_packet c r payload to); context = with_endpoint (with_flying_command c Sending ep 0) ep (Sends (less_one r)) }))
send_homes gs c ep payload to r child h at idle (Some why) = stays gs c _ h refl refl
send_homes gs c ep payload to r child h at idle None = record {
  each = each_set gs c.endpoints ep (Sends (less_one r)) h tt;
  packet = (λ z. child, λ z. absurd (cc));
  lone = λ l. grind (arith, idle, length-append c.flying);
  next = omega arith;
  rose = λ n. inr (omega arith);
  rose_packet = inr (omega arith);
}

queue_at : (gs : List Grant) (c : Context) (ep : ℕ) (e : Endpoint) → EachLawful gs c.endpoints → endpoint c ep ≡ e → QueueLawful gs e
queue_at gs c ep e h at = subst (QueueLawful gs) at (h ep)

idle_lone : (c : Context) (f : Flying) → c.flying ≡ [] → length (c.flying ++ f ∷ []) ≤ 1
idle_lone c f idle = subst (λ fs. length (fs ++ f ∷ []) ≤ 1) (sym idle) (omega arith)

reply_homes : (gs : List Grant) (c : Context) (ep token : ℕ) (payload : List ℕ) (r : ReceiveRecord) → EachLawful gs c.endpoints → endpoint c ep ≡ Receives r → c.flying ≡ [] → (why : Option Refusal) → reply_refusal r token payload ≡ why → (o : Option Message) → unmarked_message (fetched_at token r.fetched) ≡ o → Owns gs c (unless_refusal why c (reply_to c ep token payload r o))
reply_homes gs c ep token payload r h at idle (Some why) w o e = stays gs c _ h refl refl
reply_homes gs c ep token payload r h at idle None w None e = stays gs c _ h refl refl
reply_homes gs c ep token payload r h at idle None w (Some m) e =
    let q = queue_at gs c ep (Receives r) h at in
    record {
      each = each_set gs c.endpoints ep (Receives (with_mark_at true r token)) h (q.0, fetched-mark gs r.grant true token r.fetched q.1);
      packet = (λ z. absurd (cc), λ z. child_holder (grant_in gs m.header.send) m.header.sender r.grant (fetched-found gs r.grant token m r.fetched q.1 e (no_flags r token payload m e w)));
      lone = λ l. idle_lone c _ idle;
      next = omega arith;
      rose = λ n. inr (omega arith);
      rose_packet = inr (omega arith);
    }

-- only an endpoint's queue changes
queue_only : (gs : List Grant) (c : Context) (ep : ℕ) (d : Endpoint) (i : Issued) → EachLawful gs c.endpoints → QueueLawful gs d → i.context ≡ with_endpoint c ep d → i.packet ≡ None → Owns gs c i
queue_only gs c ep d i h q e p = record {
  each = subst (λ x. EachLawful gs x.endpoints) (sym e) (each_set gs c.endpoints ep d h q);
  packet = subst (NewLawful gs) (sym p) tt;
  lone = λ l. subst (λ x. length x.flying ≤ 1) (sym e) l;
  next = subst (λ x. c.next ≤ x.next) (sym e) (omega arith);
  rose = λ n. inl (ap (λ x. flying_at c.next x.flying) e ∙ n);
  rose_packet = inl p;
}

fetch_homes : (gs : List Grant) (c : Context) (ep : ℕ) (r : ReceiveRecord) → EachLawful gs c.endpoints → endpoint c ep ≡ Receives r → (why : Option Refusal) (ms : List Message) → r.unread ≡ ms → Owns gs c (unless_refusal why c (fetch_from c ep r ms))
fetch_homes gs c ep r h at (Some why) ms e = stays gs c _ h refl refl
fetch_homes gs c ep r h at None [] e = stays gs c _ h refl refl
fetch_homes gs c ep r h at None (m ∷ rest) e =
    let q = queue_at gs c ep (Receives r) h at in
    let u = subst (AllSentTo gs r.grant) e q.0 in
    queue_only gs c ep (Receives (with_fetched r m rest)) _ h (u.1, fetched-push gs r.grant (record { token = r.next_token; marked = false; message = m }) r.fetched u.0 q.1) refl refl

acknowledged_homes : (gs : List Grant) (c : Context) (ep token : ℕ) (r : ReceiveRecord) (m : Message) → EachLawful gs c.endpoints → endpoint c ep ≡ Receives r → unmarked_message (fetched_at token r.fetched) ≡ Some m → (b : Bool) → (m.header.flags == 0) ≡ b → Owns gs c (after_acknowledge c ep r token m b)
acknowledged_homes gs c ep token r m h at e true z =
    let q = queue_at gs c ep (Receives r) h at in
    record {
      each = each_set gs c.endpoints ep (Receives (without_fetched r token)) h (q.0, fetched-without gs r.grant token r.fetched q.1);
      packet = child_holder (grant_in gs m.header.send) m.header.sender r.grant (fetched-found gs r.grant token m r.fetched q.1 e (grind (arith, nat_tests, z)));
      lone = λ l. l;
      next = omega arith;
      rose = λ n. inl n;
      rose_packet = inr (omega arith);
    }
acknowledged_homes gs c ep token r m h at e false z =
    let q = queue_at gs c ep (Receives r) h at in
    queue_only gs c ep (Receives (without_fetched r token)) _ h (q.0, fetched-without gs r.grant token r.fetched q.1) refl refl

acknowledge_homes : (gs : List Grant) (c : Context) (ep token : ℕ) (r : ReceiveRecord) → EachLawful gs c.endpoints → endpoint c ep ≡ Receives r → (why : Option Refusal) (o : Option Message) → unmarked_message (fetched_at token r.fetched) ≡ o → Owns gs c (unless_refusal why c (acknowledge_at c ep r token o))
acknowledge_homes gs c ep token r h at (Some why) o e = stays gs c _ h refl refl
acknowledge_homes gs c ep token r h at None None e = stays gs c _ h refl refl
acknowledge_homes gs c ep token r h at None (Some m) e = acknowledged_homes gs c ep token r m h at e (m.header.flags == 0) refl

access_homes : (gs : List Grant) (c : Context) (kind : Kind) (ep : ℕ) (p : Packet) → EachLawful gs c.endpoints → NewLawful gs (Some p) → c.flying ≡ [] → (why : Option Refusal) → Owns gs c (unless_refusal why c (access c kind ep p))
access_homes gs c kind ep p h n idle (Some why) = stays gs c _ h refl refl
access_homes gs c kind ep p h n idle None = record {
  each = h;
  packet = n;
  lone = λ l. idle_lone c _ idle;
  next = omega arith;
  rose = λ n. inr (omega arith);
  rose_packet = inr (omega arith);
}

-- ---- any command

idle_of : (c : Context) (x i : Issued) → (if is_busy c then None else Some x) ≡ Some i → c.flying ≡ []
idle_of c x i e = none_flying c.flying (grind (arith, nat_tests, e))
  where
    none_flying : (fs : List Flying) → length fs < 1 → fs ≡ []
    none_flying [] h = refl
    none_flying (f ∷ fs) h = absurd (omega arith)

send_all : (gs : List Grant) (c : Context) (ep : ℕ) (payload : List ℕ) (to : Option ℕ) (e : Endpoint) → ((r : SendRecord) → e ≡ Sends r → ChildOf (grant_in gs r.grant) c.act r.to_grant) → EachLawful gs c.endpoints → endpoint c ep ≡ e → c.flying ≡ [] → Owns gs c (send c ep payload to e)
send_all gs c ep payload to (Sends r) child h at idle = send_homes gs c ep payload to r (child r refl) h at idle (send_refusal c r payload to)
send_all gs c ep payload to Free child h at idle = stays gs c _ h refl refl
send_all gs c ep payload to (Receives r) child h at idle = stays gs c _ h refl refl
send_all gs c ep payload to (Reaches r) child h at idle = stays gs c _ h refl refl

reply_all : (gs : List Grant) (c : Context) (ep token : ℕ) (payload : List ℕ) (e : Endpoint) → EachLawful gs c.endpoints → endpoint c ep ≡ e → c.flying ≡ [] → Owns gs c (reply c ep token payload e)
reply_all gs c ep token payload (Receives r) h at idle = reply_homes gs c ep token payload r h at idle (reply_refusal r token payload) refl (unmarked_message (fetched_at token r.fetched)) refl
reply_all gs c ep token payload Free h at idle = stays gs c _ h refl refl
reply_all gs c ep token payload (Sends r) h at idle = stays gs c _ h refl refl
reply_all gs c ep token payload (Reaches r) h at idle = stays gs c _ h refl refl

fetch_all : (gs : List Grant) (c : Context) (ep : ℕ) (e : Endpoint) → EachLawful gs c.endpoints → endpoint c ep ≡ e → Owns gs c (fetch c ep e)
fetch_all gs c ep (Receives r) h at = fetch_homes gs c ep r h at (first_of ((r.closing, Refusal.Revoked) ∷ [])) r.unread refl
fetch_all gs c ep Free h at = stays gs c _ h refl refl
fetch_all gs c ep (Sends r) h at = stays gs c _ h refl refl
fetch_all gs c ep (Reaches r) h at = stays gs c _ h refl refl

acknowledge_all : (gs : List Grant) (c : Context) (ep token : ℕ) (e : Endpoint) → EachLawful gs c.endpoints → endpoint c ep ≡ e → Owns gs c (acknowledge c ep token e)
acknowledge_all gs c ep token (Receives r) h at = acknowledge_homes gs c ep token r h at (first_of ((r.closing, Refusal.Revoked) ∷ [])) (unmarked_message (fetched_at token r.fetched)) refl
acknowledge_all gs c ep token Free h at = stays gs c _ h refl refl
acknowledge_all gs c ep token (Sends r) h at = stays gs c _ h refl refl
acknowledge_all gs c ep token (Reaches r) h at = stays gs c _ h refl refl

read_all : (gs : List Grant) (c : Context) (ep off len : ℕ) (e : Endpoint) → EachLawful gs c.endpoints → c.flying ≡ [] → Owns gs c (read c ep off len e)
read_all gs c ep off len (Reaches r) h idle = access_homes gs c Reading ep _ h tt idle (access_refusal r off len (may_read r.perm))
read_all gs c ep off len Free h idle = stays gs c _ h refl refl
read_all gs c ep off len (Sends r) h idle = stays gs c _ h refl refl
read_all gs c ep off len (Receives r) h idle = stays gs c _ h refl refl

write_all : (gs : List Grant) (c : Context) (ep off : ℕ) (payload : List ℕ) (e : Endpoint) → EachLawful gs c.endpoints → c.flying ≡ [] → Owns gs c (write c ep off payload e)
write_all gs c ep off payload (Reaches r) h idle = access_homes gs c Writing ep _ h tt idle (access_refusal r off (length payload) (may_write r.perm))
write_all gs c ep off payload Free h idle = stays gs c _ h refl refl
write_all gs c ep off payload (Sends r) h idle = stays gs c _ h refl refl
write_all gs c ep off payload (Receives r) h idle = stays gs c _ h refl refl

pub issue_owns : (gs : List Grant) (c : Context) (k : Command) (i : Issued) → ((ep : ℕ) (r : SendRecord) → endpoint c ep ≡ Sends r → ChildOf (grant_in gs r.grant) c.act r.to_grant) → EachLawful gs c.endpoints → issue c k ≡ Some i → Owns gs c i
issue_owns gs c (Command.Send ep payload to) i child h e = subst (Owns gs c) (came_through (is_busy c) _ i e) (send_all gs c ep payload to (endpoint c ep) (child ep) h refl (idle_of c _ i e))
issue_owns gs c (Command.Reply ep token payload) i child h e = subst (Owns gs c) (came_through (is_busy c) _ i e) (reply_all gs c ep token payload (endpoint c ep) h refl (idle_of c _ i e))
issue_owns gs c (Command.Fetch ep) i child h e = subst (Owns gs c) (same_Some _ i e) (fetch_all gs c ep (endpoint c ep) h refl)
issue_owns gs c (Command.Acknowledge ep token) i child h e = subst (Owns gs c) (same_Some _ i e) (acknowledge_all gs c ep token (endpoint c ep) h refl)
issue_owns gs c (Command.Read ep off len) i child h e = subst (Owns gs c) (came_through (is_busy c) _ i e) (read_all gs c ep off len (endpoint c ep) h (idle_of c _ i e))
issue_owns gs c (Command.Write ep off payload) i child h e = subst (Owns gs c) (came_through (is_busy c) _ i e) (write_all gs c ep off payload (endpoint c ep) h (idle_of c _ i e))
