-- What an issued command leaves of a context: its records stay, and its flight is the one that its command waits for.
use Rattle.std.proofs.Common.{◌≡◌, ◌≢◌, ℕ, zero, suc, ◌+◌, Bool, true, false, List, [], ◌∷◌, ◌++◌, length, get_or, set, Some, None, refl, sym, subst, ◌∙◌, ap, arith, replicate}
use Rattle.std.specs.Prelude.{Option, ◌==◌, if◌then◌else◌}
use Rattle.std.proofs.lemmas.Bool.Decides.{nat_tests}
use Rattle.std.proofs.lemmas.List.{get_or-set_same}
use Rattle.m3_base.specs.declared.message.Message.{Message}
use Rattle.m3_base.specs.declared.packet.Packet.{Packet}
use Rattle.m3_base.specs.declared.command.Refusal.{Refusal}
use Rattle.m3_base.specs.declared.command.Command.{Command}
use Rattle.m3_base.specs.Ideal.Flights.{name_of}
use Rattle.m3_base.specs.Ideal.Context.{Kind, Sending, Replying, Reading, Writing, Flying, SendRecord, Fetched, ReceiveRecord, MemoryRecord, Endpoint, Free, Sends, Receives, Reaches, Context, endpoint, with_endpoint}
use Rattle.m3_base.specs.Ideal.ReceiveRecord.{with_fetched, fetched_at, unmarked_message, with_mark, without_fetched, with_mark_at}
use Rattle.m3_base.specs.Ideal.Issue.{less_one, send, send_refusal, reply, reply_to, reply_refusal, fetch, acknowledge, read, write, unless_refusal, first_of, with_flying_command, next_id, Issued, issue, IssueOutcome, send_packet, fetch_from, after_acknowledge, acknowledge_at, access, access_refusal, may_read, may_write, is_busy}
use Rattle.m3_base.specs.Ideal.Landing.{flying_at, one_more, endpoints_with_credit}
use Rattle.m3_base.specs.Ideal.Credits.{gives_back_by}
use Rattle.m3_laws.proofs.credits.Issue.{in_range, came_through}
use Rattle.m3_laws.proofs.invariant.step.CommandRecordsStay.{Safe, safe, safe-sends, safe-receives, fetched_at-push, fetched_at-without, fetched_at-mark, apart_tokens}
use Rattle.m3_laws.specs.CommandRecord.{IsRecordFor, CommandHasRecord}
use Rattle.std.proofs.lemmas.Option.{same_Some}

abbrev pub EachSafe : List Endpoint → List Endpoint → Type 0
EachSafe es ds = (i : ℕ) → Safe (get_or es i Free) (get_or ds i Free)

pub each_safe : (es : List Endpoint) → EachSafe es es
each_safe es i = safe (get_or es i Free)

pub each-set : (es : List Endpoint) (ep : ℕ) (e d : Endpoint) → get_or es ep Free ≡ e → Safe e d → EachSafe es (set es ep d)
each-set [] ep e d at h i = safe Free
each-set (x ∷ es) zero e d at h zero = subst (λ y. Safe y d) (sym at) h
each-set (x ∷ es) zero e d at h (suc i) = safe (get_or es i Free)
each-set (x ∷ es) (suc ep) e d at h zero = safe x
each-set (x ∷ es) (suc ep) e d at h (suc i) = each-set es ep e d at h i

pub flying_at-other : (n : ℕ) (f : Flying) (fs : List Flying) → n ≢ f.number → flying_at n (fs ++ f ∷ []) ≡ flying_at n fs
flying_at-other n f [] h = grind (arith, nat_tests)
flying_at-other n f (x ∷ fs) h = grind (arith, nat_tests, flying_at-other n f fs h)

pub flying_at-new : (f : Flying) (fs : List Flying) → flying_at f.number fs ≡ None → flying_at f.number (fs ++ f ∷ []) ≡ Some f
flying_at-new f [] h = grind (arith, nat_tests)
flying_at-new f (x ∷ fs) h = grind (arith, nat_tests, flying_at-new f fs)

-- a packet's own command gives back what the packet carries
abbrev pub OwnBack : Context → Option Flying → Packet → Type 0
OwnBack c f (Packet.Message to ep h m) = (g : ℕ) → gives_back_by g c f ≡ (m.header.send == g)
OwnBack c f (Packet.Credit id to h) = Unit {0}
OwnBack c f (Packet.Read id h place buffer) = Unit {0}
OwnBack c f (Packet.Write id h place payload) = Unit {0}
OwnBack c f p = ⊥

abbrev pub NewPacket : Context → Context → Option Packet → Type 0
NewPacket c d None = Unit {0}
NewPacket c d (Some p) = (name_of p ≡ next_id c) × OwnBack d (flying_at c.next d.flying) p

-- what an issue does
pub record IssueEffect (c : Context) (i : Issued) : Type 0 where
  pub act : i.context.act ≡ c.act
  pub each : EachSafe c.endpoints i.context.endpoints
  pub others : (n : ℕ) → n ≢ c.next → flying_at n i.context.flying ≡ flying_at n c.flying
  pub own : CommandHasRecord i.context (flying_at c.next i.context.flying)
  pub packet : NewPacket c i.context i.packet

-- a refusal leaves all as it was
pub refusal_effect : (c : Context) (i : Issued) → i.context ≡ c → i.packet ≡ None → flying_at c.next c.flying ≡ None → IssueEffect c i
refusal_effect c i e p none = record {
  act = ap (λ x. x.act) e;
  each = subst (λ x. EachSafe c.endpoints x.endpoints) (sym e) (each_safe c.endpoints);
  others = λ n h. ap (λ x. flying_at n x.flying) e;
  own = subst (λ x. CommandHasRecord x (flying_at c.next x.flying)) (sym e) (subst (CommandHasRecord c) (sym none) tt);
  packet = subst (NewPacket c i.context) (sym p) tt;
}

send_done : (c : Context) (ep : ℕ) (payload : List ℕ) (to : Option ℕ) (r : SendRecord) → endpoint c ep ≡ Sends r → flying_at c.next c.flying ≡ None → (why : Option Refusal) → IssueEffect c (unless_refusal why c (record { told = IssueOutcome.Flies (next_id c); packet = Some (send_packet c r payload to); context = with_endpoint (with_flying_command c Sending ep 0) ep (Sends (less_one r)) }))
send_done c ep payload to r at none (Some why) = refusal_effect c _ refl refl none
send_done c ep payload to r at none None =
    let f : Flying = record { number = c.next; kind = Sending; ep = ep; token = 0 } in
    let d : Context = with_endpoint (with_flying_command c Sending ep 0) ep (Sends (less_one r)) in
    let here : flying_at c.next d.flying ≡ Some f = flying_at-new f c.flying none in
    let there : endpoint d ep ≡ Sends (less_one r) = get_or-set_same c.endpoints ep (Sends (less_one r)) Free (in_range c.endpoints ep (λ x. cc)) in
    record {
      act = refl;
      each = each-set c.endpoints ep (Sends r) (Sends (less_one r)) at (safe-sends r (less_one r) refl);
      others = λ n h. flying_at-other n f c.flying h;
      own = rw here (rw there tt);
      packet = (refl, λ g. rw here (rw there refl));
    }

pub send_effect : (c : Context) (ep : ℕ) (payload : List ℕ) (to : Option ℕ) (e : Endpoint) → endpoint c ep ≡ e → flying_at c.next c.flying ≡ None → IssueEffect c (send c ep payload to e)
send_effect c ep payload to (Sends r) at none = send_done c ep payload to r at none (send_refusal c r payload to)
send_effect c ep payload to Free at none = refusal_effect c _ refl refl none
send_effect c ep payload to (Receives r) at none = refusal_effect c _ refl refl none
send_effect c ep payload to (Reaches r) at none = refusal_effect c _ refl refl none

-- ---- reply

marked_now : (t : ℕ) (m : Message) (fs : List Fetched) → unmarked_message (fetched_at t fs) ≡ Some m → (f : Fetched) × (fetched_at t (with_mark true t fs) ≡ Some f) × (f.marked ≡ true) × (f.message ≡ m)
marked_now t m [] e = absurd (cc)
marked_now t m (x ∷ fs) e = by_token (x.token == t) refl (marked_now t m fs)
  where
    by_token : (b : Bool) → (x.token == t) ≡ b → (unmarked_message (fetched_at t fs) ≡ Some m → (f : Fetched) × (fetched_at t (with_mark true t fs) ≡ Some f) × (f.marked ≡ true) × (f.message ≡ m)) → (f : Fetched) × (fetched_at t (with_mark true t (x ∷ fs)) ≡ Some f) × (f.marked ≡ true) × (f.message ≡ m)
    by_token true h ih = (record x { marked = true }, grind (arith, h), refl, grind (arith, h, e))
    by_token false h ih = let r = ih (grind (arith, h, e)) in (r.0, grind (arith, h, r.1), r.2, r.3)

pub no_flags : (r : ReceiveRecord) (token : ℕ) (payload : List ℕ) (m : Message) → unmarked_message (fetched_at token r.fetched) ≡ Some m → reply_refusal r token payload ≡ None → m.header.flags ≡ 0
no_flags r token payload m e ok = grind (arith, nat_tests)

safe-marking : (token : ℕ) (m : Message) (r : ReceiveRecord) → unmarked_message (fetched_at token r.fetched) ≡ Some m → Safe (Receives r) (Receives (with_mark_at true r token))
safe-marking token m r e = safe-receives r (with_mark_at true r token) (λ t h. fetched_at-mark t token true r.fetched (apart_tokens t token m r.fetched h e))

reply_done : (c : Context) (ep token : ℕ) (payload : List ℕ) (r : ReceiveRecord) (m : Message) → endpoint c ep ≡ Receives r → flying_at c.next c.flying ≡ None → unmarked_message (fetched_at token r.fetched) ≡ Some m → m.header.flags ≡ 0 → IssueEffect c (reply_to c ep token payload r (Some m))
reply_done c ep token payload r m at none e flags =
    let f : Flying = record { number = c.next; kind = Replying; ep = ep; token = token } in
    let q : Endpoint = Receives (with_mark_at true r token) in
    let d : Context = with_endpoint (with_flying_command c Replying ep token) ep q in
    let here : flying_at c.next d.flying ≡ Some f = flying_at-new f c.flying none in
    let there : endpoint d ep ≡ q = get_or-set_same c.endpoints ep q Free (in_range c.endpoints ep (λ x. cc)) in
    let found = marked_now token m r.fetched e in
    record {
      act = refl;
      each = each-set c.endpoints ep (Receives r) q at (safe-marking token m r e);
      others = λ n h. flying_at-other n f c.flying h;
      own = rw here (rw there (rw found.1 (found.2, ap (λ x. x.header.flags) found.3 ∙ flags)));
      packet = (refl, λ g. rw here (rw there (rw found.1 (ap (λ x. x.header.send == g) found.3))));
    }

reply_by : (c : Context) (ep token : ℕ) (payload : List ℕ) (r : ReceiveRecord) → endpoint c ep ≡ Receives r → flying_at c.next c.flying ≡ None → (why : Option Refusal) → reply_refusal r token payload ≡ why → (o : Option Message) → unmarked_message (fetched_at token r.fetched) ≡ o → IssueEffect c (unless_refusal why c (reply_to c ep token payload r o))
reply_by c ep token payload r at none (Some why) w o e = refusal_effect c _ refl refl none
reply_by c ep token payload r at none None w None e = refusal_effect c _ refl refl none
reply_by c ep token payload r at none None w (Some m) e = reply_done c ep token payload r m at none e (no_flags r token payload m e w)

pub reply_effect : (c : Context) (ep token : ℕ) (payload : List ℕ) (e : Endpoint) → endpoint c ep ≡ e → flying_at c.next c.flying ≡ None → IssueEffect c (reply c ep token payload e)
reply_effect c ep token payload (Receives r) at none = reply_by c ep token payload r at none (reply_refusal r token payload) refl (unmarked_message (fetched_at token r.fetched)) refl
reply_effect c ep token payload Free at none = refusal_effect c _ refl refl none
reply_effect c ep token payload (Sends r) at none = refusal_effect c _ refl refl none
reply_effect c ep token payload (Reaches r) at none = refusal_effect c _ refl refl none

-- ---- fetch and acknowledge: only the endpoint changes

at_endpoint : (c : Context) (ep : ℕ) (e d : Endpoint) (i : Issued) → endpoint c ep ≡ e → Safe e d → flying_at c.next c.flying ≡ None → i.context.act ≡ c.act → i.context.endpoints ≡ set c.endpoints ep d → i.context.flying ≡ c.flying → NewPacket c i.context i.packet → IssueEffect c i
at_endpoint c ep e d i at h none a es fs p = record {
  act = a;
  each = subst (EachSafe c.endpoints) (sym es) (each-set c.endpoints ep e d at h);
  others = λ n x. ap (flying_at n) fs;
  own = subst (λ x. CommandHasRecord i.context (flying_at c.next x)) (sym fs) (subst (CommandHasRecord i.context) (sym none) tt);
  packet = p;
}

fetch_by : (c : Context) (ep : ℕ) (r : ReceiveRecord) → endpoint c ep ≡ Receives r → flying_at c.next c.flying ≡ None → (why : Option Refusal) (ms : List Message) → IssueEffect c (unless_refusal why c (fetch_from c ep r ms))
fetch_by c ep r at none (Some why) ms = refusal_effect c _ refl refl none
fetch_by c ep r at none None [] = refusal_effect c _ refl refl none
fetch_by c ep r at none None (m ∷ rest) = at_endpoint c ep (Receives r) (Receives (with_fetched r m rest)) _ at (safe-receives r (with_fetched r m rest) (λ t h. fetched_at-push t _ r.fetched h)) none refl refl refl tt

pub fetch_effect : (c : Context) (ep : ℕ) (e : Endpoint) → endpoint c ep ≡ e → flying_at c.next c.flying ≡ None → IssueEffect c (fetch c ep e)
fetch_effect c ep (Receives r) at none = fetch_by c ep r at none (first_of ((r.closing, Refusal.Revoked) ∷ [])) r.unread
fetch_effect c ep Free at none = refusal_effect c _ refl refl none
fetch_effect c ep (Sends r) at none = refusal_effect c _ refl refl none
fetch_effect c ep (Reaches r) at none = refusal_effect c _ refl refl none

safe-freed : (token : ℕ) (m : Message) (r : ReceiveRecord) → unmarked_message (fetched_at token r.fetched) ≡ Some m → Safe (Receives r) (Receives (without_fetched r token))
safe-freed token m r e = safe-receives r (without_fetched r token) (λ t h. fetched_at-without t token r.fetched (apart_tokens t token m r.fetched h e))

acknowledge_done : (c : Context) (ep token : ℕ) (r : ReceiveRecord) (m : Message) → endpoint c ep ≡ Receives r → flying_at c.next c.flying ≡ None → unmarked_message (fetched_at token r.fetched) ≡ Some m → (b : Bool) → IssueEffect c (after_acknowledge c ep r token m b)
acknowledge_done c ep token r m at none e true = at_endpoint c ep (Receives r) (Receives (without_fetched r token)) _ at (safe-freed token m r e) none refl refl refl (refl, tt)
acknowledge_done c ep token r m at none e false = at_endpoint c ep (Receives r) (Receives (without_fetched r token)) _ at (safe-freed token m r e) none refl refl refl tt

acknowledge_by : (c : Context) (ep token : ℕ) (r : ReceiveRecord) → endpoint c ep ≡ Receives r → flying_at c.next c.flying ≡ None → (why : Option Refusal) (o : Option Message) → unmarked_message (fetched_at token r.fetched) ≡ o → IssueEffect c (unless_refusal why c (acknowledge_at c ep r token o))
acknowledge_by c ep token r at none (Some why) o e = refusal_effect c _ refl refl none
acknowledge_by c ep token r at none None None e = refusal_effect c _ refl refl none
acknowledge_by c ep token r at none None (Some m) e = acknowledge_done c ep token r m at none e (m.header.flags == 0)

pub acknowledge_effect : (c : Context) (ep token : ℕ) (e : Endpoint) → endpoint c ep ≡ e → flying_at c.next c.flying ≡ None → IssueEffect c (acknowledge c ep token e)
acknowledge_effect c ep token (Receives r) at none = acknowledge_by c ep token r at none (first_of ((r.closing, Refusal.Revoked) ∷ [])) (unmarked_message (fetched_at token r.fetched)) refl
acknowledge_effect c ep token Free at none = refusal_effect c _ refl refl none
acknowledge_effect c ep token (Sends r) at none = refusal_effect c _ refl refl none
acknowledge_effect c ep token (Reaches r) at none = refusal_effect c _ refl refl none

-- ---- read and write

access_done : (c : Context) (kind : Kind) (ep : ℕ) (p : Packet) (r : MemoryRecord) → IsRecordFor kind 0 (Reaches r) → endpoint c ep ≡ Reaches r → flying_at c.next c.flying ≡ None → name_of p ≡ next_id c → ((x : Option Flying) → OwnBack (with_flying_command c kind ep 0) x p) → (why : Option Refusal) → IssueEffect c (unless_refusal why c (access c kind ep p))
access_done c kind ep p r s at none name own (Some why) = refusal_effect c _ refl refl none
access_done c kind ep p r s at none name own None =
    let f : Flying = record { number = c.next; kind = kind; ep = ep; token = 0 } in
    let here : flying_at c.next (with_flying_command c kind ep 0).flying ≡ Some f = flying_at-new f c.flying none in
    record {
      act = refl;
      each = each_safe c.endpoints;
      others = λ n h. flying_at-other n f c.flying h;
      own = rw here (rw at s);
      packet = (name, own _);
    }

pub read_effect : (c : Context) (ep off len : ℕ) (e : Endpoint) → endpoint c ep ≡ e → flying_at c.next c.flying ≡ None → IssueEffect c (read c ep off len e)
read_effect c ep off len (Reaches r) at none = access_done c Reading ep (Packet.Read (next_id c) r.grant (r.start + off) (replicate len 0)) r tt at none refl (λ x. tt) (access_refusal r off len (may_read r.perm))
read_effect c ep off len Free at none = refusal_effect c _ refl refl none
read_effect c ep off len (Sends r) at none = refusal_effect c _ refl refl none
read_effect c ep off len (Receives r) at none = refusal_effect c _ refl refl none

pub write_effect : (c : Context) (ep off : ℕ) (payload : List ℕ) (e : Endpoint) → endpoint c ep ≡ e → flying_at c.next c.flying ≡ None → IssueEffect c (write c ep off payload e)
write_effect c ep off payload (Reaches r) at none = access_done c Writing ep (Packet.Write (next_id c) r.grant (r.start + off) payload) r tt at none refl (λ x. tt) (access_refusal r off (length payload) (may_write r.perm))
write_effect c ep off payload Free at none = refusal_effect c _ refl refl none
write_effect c ep off payload (Sends r) at none = refusal_effect c _ refl refl none
write_effect c ep off payload (Receives r) at none = refusal_effect c _ refl refl none

-- ---- any command

pub issue_effect : (c : Context) (k : Command) (i : Issued) → issue c k ≡ Some i → flying_at c.next c.flying ≡ None → IssueEffect c i
issue_effect c (Command.Send ep payload to) i e none = subst (IssueEffect c) (came_through (is_busy c) _ i e) (send_effect c ep payload to (endpoint c ep) refl none)
issue_effect c (Command.Reply ep token payload) i e none = subst (IssueEffect c) (came_through (is_busy c) _ i e) (reply_effect c ep token payload (endpoint c ep) refl none)
issue_effect c (Command.Fetch ep) i e none = subst (IssueEffect c) (same_Some _ i e) (fetch_effect c ep (endpoint c ep) refl none)
issue_effect c (Command.Acknowledge ep token) i e none = subst (IssueEffect c) (same_Some _ i e) (acknowledge_effect c ep token (endpoint c ep) refl none)
issue_effect c (Command.Read ep off len) i e none = subst (IssueEffect c) (came_through (is_busy c) _ i e) (read_effect c ep off len (endpoint c ep) refl none)
issue_effect c (Command.Write ep off payload) i e none = subst (IssueEffect c) (came_through (is_busy c) _ i e) (write_effect c ep off payload (endpoint c ep) refl none)

pub more_safe : (h : ℕ) (r : SendRecord) (es : List Endpoint) → EachSafe es (endpoints_with_credit h es) → (b : Bool) → EachSafe (Sends r ∷ es) (if b then Sends (one_more r) ∷ es else Sends r ∷ endpoints_with_credit h es)
more_safe h r es rest true zero = safe-sends r (one_more r) refl
more_safe h r es rest true (suc i) = safe (get_or es i Free)
more_safe h r es rest false zero = safe (Sends r)
more_safe h r es rest false (suc i) = rest i

pub safe-credited : (h : ℕ) (es : List Endpoint) → EachSafe es (endpoints_with_credit h es)
safe-credited h [] i = safe Free
safe-credited h (Free ∷ es) zero = safe Free
safe-credited h (Free ∷ es) (suc i) = safe-credited h es i
safe-credited h (Receives r ∷ es) zero = safe (Receives r)
safe-credited h (Receives r ∷ es) (suc i) = safe-credited h es i
safe-credited h (Reaches r ∷ es) zero = safe (Reaches r)
safe-credited h (Reaches r ∷ es) (suc i) = safe-credited h es i
safe-credited h (Sends r ∷ es) i = more_safe h r es (safe-credited h es) (r.grant == h) i
