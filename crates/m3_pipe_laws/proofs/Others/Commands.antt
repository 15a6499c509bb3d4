-- Nobody else comes into a pipe's way by a command.
use Rattle.std.proofs.Common.{◌≡◌, ◌≢◌, ℕ, Bool, true, false, List, [], ◌∷◌, ◌++◌, length, get_or, set, Some, None, refl, sym, subst, ◌∙◌, ap, arith, inl, inr}
use Rattle.std.specs.Prelude.{Option, if◌then◌else◌, ◌==◌, ◌⊎◌}
use Rattle.m3_base.specs.declared.message.Message.{Message}
use Rattle.m3_base.specs.declared.packet.Packet.{Packet}
use Rattle.m3_base.specs.declared.packet.Fresh.{Fresh}
use Rattle.m3_base.specs.declared.command.Command.{Command}
use Rattle.m3_base.specs.declared.command.Refusal.{Refusal}
use Rattle.m3_base.specs.declared.command.Reply.{Reply}
use Rattle.m3_base.specs.Ideal.Context.{Kind, Sending, Reading, Writing, Fetched, Endpoint, Free, Sends, Receives, Reaches, Context, endpoint, with_endpoint}
use Rattle.m3_base.specs.Ideal.ReceiveRecord.{with_fetched, fetched_at, unmarked_message, without_token, with_mark, without_fetched, with_mark_at}
use Rattle.m3_base.specs.Ideal.Issue.{IssueOutcome, Issued, issue, immediate_reply, unless_refusal, first_of, next_id, with_flying_command, live_receive, reply_grant, or_else, send, send_packet, send_refusal, less_one, reply, reply_to, reply_refusal, fetch, fetch_from, acknowledge, acknowledge_at, after_acknowledge, access, access_refusal, read, write, may_read, may_write, is_busy}
use Rattle.m3_base.specs.Ideal.State.{State, Grant, context_of, grant_in}
use Rattle.m3_base.specs.Ideal.Step.{number_of}
use Rattle.m3_laws.specs.Laws.{parent_at}
use Rattle.m3_laws.specs.GrantInvariant.{IsHeldAt, FormLawful, form_of, ChildOf, QueueLawful}
use Rattle.m3_laws.specs.Invariant.{Invariant}
use Rattle.m3_laws.proofs.credits.Issue.{came_through}
use Rattle.m3_laws.proofs.invariant.step.IssueEffects.{no_flags}
use Rattle.m3_laws.proofs.credits.Counting.{at_set}
use Rattle.m3_laws.proofs.invariant.records.QueueOwners.{fetched-found}
use Rattle.m3_pipe_laws.proofs.Invariant.Sides.{Sides}
use Rattle.m3_pipe_laws.proofs.Invariant.Isolation.{GrantsApart, MessageApart, AllApart, FetchedApart, QueueApart, WriterSends, ReaderSends}
use Rattle.m3_pipe_laws.proofs.Others.Landings.{only_form, one_place}
use Rattle.m3_base.proofs.Activities.{act_found}
use Rattle.std.proofs.lemmas.Option.{same_Some}

-- ---- queues

pub apart-push : (e : Sides) (m : Message) (ms : List Message) → MessageApart e m → AllApart e ms → AllApart e (ms ++ m ∷ [])
apart-push e m [] h a = (h, tt)
apart-push e m (x ∷ ms) h a = (a.0, apart-push e m ms h a.1)

fetched-push : (e : Sides) (f : Fetched) (fs : List Fetched) → MessageApart e f.message → FetchedApart e fs → FetchedApart e (fs ++ f ∷ [])
fetched-push e f [] h a = (h, tt)
fetched-push e f (x ∷ fs) h a = (a.0, fetched-push e f fs h a.1)

pub fetched-less : (e : Sides) (t : ℕ) (fs : List Fetched) → FetchedApart e fs → FetchedApart e (without_token t fs)
fetched-less e t [] a = tt
fetched-less e t (x ∷ fs) a = by_token (x.token == t) (fetched-less e t fs a.1)
  where
    by_token : (b : Bool) → FetchedApart e (without_token t fs) → FetchedApart e (if b then fs else x ∷ without_token t fs)
    by_token true s = a.1
    by_token false s = (a.0, s)

pub fetched-marked : (e : Sides) (b : Bool) (t : ℕ) (fs : List Fetched) → FetchedApart e fs → FetchedApart e (with_mark b t fs)
fetched-marked e b t [] a = tt
fetched-marked e b t (x ∷ fs) a = by_token (x.token == t) (fetched-marked e b t fs a.1)
  where
    by_token : (d : Bool) → FetchedApart e (with_mark b t fs) → FetchedApart e (if d then record x { marked = b } ∷ fs else x ∷ with_mark b t fs)
    by_token true s = a
    by_token false s = (a.0, s)

fetched-one : (e : Sides) (t : ℕ) (m : Message) (fs : List Fetched) → FetchedApart e fs → unmarked_message (fetched_at t fs) ≡ Some m → MessageApart e m
fetched-one e t m [] a q = absurd (cc)
fetched-one e t m (x ∷ fs) a q = by_token (x.token == t) refl (fetched-one e t m fs a.1)
  where
    by_token : (b : Bool) → (x.token == t) ≡ b → (unmarked_message (fetched_at t fs) ≡ Some m → MessageApart e m) → MessageApart e m
    by_token true w ih = let same : x.message ≡ m = grind (arith, w, q) in subst (MessageApart e) same a.0
    by_token false w ih = ih (grind (arith, w, q))

abbrev pub EachApart : Sides → List Endpoint → Type 0
EachApart e es = (i : ℕ) → QueueApart e (get_or es i Free)

pub each_set : (e : Sides) (es : List Endpoint) (ep : ℕ) (d : Endpoint) → EachApart e es → QueueApart e d → EachApart e (set es ep d)
each_set e es ep d h q i = by_set (at_set es ep i d)
  where
    by_set : (get_or (set es ep d) i Free ≡ get_or es i Free) ⊎ ((i ≡ ep) × (get_or (set es ep d) i Free ≡ d)) → QueueApart e (get_or (set es ep d) i Free)
    by_set (inl z) = subst (QueueApart e) (sym z) (h i)
    by_set (inr z) = subst (QueueApart e) (sym z.1) q

-- ---- commands

-- what a new packet is, but for where a write goes
abbrev pub NewApart : Sides → Option Packet → Type 0
NewApart e (Some (Packet.Message to ep g m)) = MessageApart e m × ((m.header.flags == 0) ≡ false → (g ≢ e.inbox.grant) × (g ≡ e.replies.grant → m.header.sender ≡ e.r))
NewApart e (Some (Packet.Install id to ep f)) = ⊥
NewApart e p = Unit {0}

pub record Leaves (e : Sides) (i : Issued) : Type 0 where
  pub each : EachApart e i.context.endpoints
  pub packet : NewApart e i.packet

module _ (e : Sides) (s : State) (law : Invariant s) (grants : GrantsApart e s.grants) (a : ℕ) (c : Context) (at : context_of a s.contexts ≡ Some c) (h : EachApart e c.endpoints) where
  is_act : a ≡ c.act
  is_act = act_found a c s.contexts at

  held_here : (ep : ℕ) (f : Fresh) → form_of (endpoint c ep) ≡ Some f → IsHeldAt (grant_in s.grants (number_of f)) a ep f
  held_here ep f q = subst (FormLawful s.grants a ep) q (law.lawful.placed.records a c at ep)

  -- a receive record of a grant that is held elsewhere isn't here
  place_of_grant : (b i ep g : ℕ) (f k : Fresh) → IsHeldAt (grant_in s.grants g) b i f → number_of k ≡ g → form_of (endpoint c ep) ≡ Some k → a ≡ b
  place_of_grant b i ep g f k x n q = (one_place s.grants g b i a ep f k x (subst (λ z. IsHeldAt (grant_in s.grants z) a ep k) n (held_here ep k q))).0

  zero_grant : (b i : ℕ) (f : Fresh) (g : ℕ) → IsHeldAt (grant_in s.grants g) b i f → 0 ≢ g
  zero_grant b i f g x q = subst (λ z. IsHeldAt (grant_in s.grants z) b i f) (sym q) x

  -- where replies are wanted
  reply_place : (b i g : ℕ) (f : Fresh) → IsHeldAt (grant_in s.grants g) b i f → (to : Option ℕ) → reply_grant c to ≡ g → a ≡ b
  reply_place b i g f x None q = absurd (zero_grant b i f g x q)
  reply_place b i g f x (Some j) q = by_end (endpoint c j) refl q
    where
      by_end : (y : Endpoint) → endpoint c j ≡ y → or_else (live_receive y) 0 ≡ g → a ≡ b
      by_end Free w q = absurd (zero_grant b i f g x q)
      by_end (Sends r) w q = absurd (zero_grant b i f g x q)
      by_end (Reaches r) w q = absurd (zero_grant b i f g x q)
      by_end (Receives r) w q = by_closing r.closing q
        where
          by_closing : (d : Bool) → or_else (if d then None else Some r.grant) 0 ≡ g → a ≡ b
          by_closing true q = absurd (zero_grant b i f g x q)
          by_closing false q = place_of_grant b i j g f (Fresh.Receive r.grant r.slots r.size) x q (ap form_of w)

  stays : (i : Issued) → i.context ≡ c → i.packet ≡ None → Leaves e i
  stays i q p = record { each = subst (λ z. EachApart e z.endpoints) (sym q) h; packet = subst (NewApart e) (sym p) tt }

  refused : (why : Refusal) → Leaves e (immediate_reply c (Reply.Refused why))
  refused why = stays (immediate_reply c (Reply.Refused why)) refl refl

  send_leaves : (ep : ℕ) (payload : List ℕ) (to : Option ℕ) → (a ≡ e.w → ep ≡ e.writer.send) → (a ≡ e.r → ⊥) → (y : Endpoint) → endpoint c ep ≡ y → Leaves e (send c ep payload to y)
  send_leaves ep payload to as_w as_r Free q = refused Refusal.NoEndpoint
  send_leaves ep payload to as_w as_r (Receives r) q = refused Refusal.NoEndpoint
  send_leaves ep payload to as_w as_r (Reaches r) q = refused Refusal.NoEndpoint
  send_leaves ep payload to as_w as_r (Sends r) q = by_why (send_refusal c r payload to)
    where
      k : Fresh
      k = Fresh.Send r.grant r.to r.to_ep r.to_grant r.label r.size r.limit

      number : a ≡ e.w → r.grant ≡ e.notices.grant
      number w = ap number_of (only_form s.grants e.w e.writer.send (Fresh.Send e.notices.grant e.r e.reader.recv e.inbox.grant e.notices.label e.notices.size e.notices.limit) k grants.notices (subst (λ z. IsHeldAt (grant_in s.grants r.grant) e.w z k) (as_w w) (subst (λ z. IsHeldAt (grant_in s.grants r.grant) z ep k) w (held_here ep k (ap form_of q)))))

      by_why : (w : Option Refusal) → Leaves e (unless_refusal w c (record { told = IssueOutcome.Flies (next_id c); packet = Some (send_packet c r payload to); context = with_endpoint (with_flying_command c Sending ep 0) ep (Sends (less_one r)) }))
      by_why (Some w) = refused w
      by_why None = record {
        each = each_set e c.endpoints ep (Sends (less_one r)) h tt;
        packet = (λ z. (λ w. as_r (reply_place e.r e.reader.recv e.inbox.grant (Fresh.Receive e.inbox.grant e.inbox.slots e.inbox.size) grants.inbox.held to w), λ w. number (reply_place e.w e.writer.reply e.replies.grant (Fresh.Receive e.replies.grant e.replies.slots e.replies.size) grants.replies.held to w)), λ z. absurd (cc));
      }

  reply_leaves : (ep token : ℕ) (payload : List ℕ) (y : Endpoint) → endpoint c ep ≡ y → Leaves e (reply c ep token payload y)
  reply_leaves ep token payload Free q = refused Refusal.NoEndpoint
  reply_leaves ep token payload (Sends r) q = refused Refusal.NoEndpoint
  reply_leaves ep token payload (Reaches r) q = refused Refusal.NoEndpoint
  reply_leaves ep token payload (Receives r) q = by_why (reply_refusal r token payload) refl (unmarked_message (fetched_at token r.fetched)) refl
    where
      queue : AllApart e r.unread × FetchedApart e r.fetched
      queue = subst (QueueApart e) q (h ep)

      lawful : QueueLawful s.grants (Receives r)
      lawful = subst (QueueLawful s.grants) q ((law.lawful.traffic.contexts a c at).queues ep)

      child_of : (o : Option Grant) (b g : ℕ) → ChildOf o b g → parent_at o ≡ Some g
      child_of None b g x = absurd x
      child_of (Some x) b g z = z.1

      -- a reply to the writer's replies is the reader's
      to_writer : (m : Message) → unmarked_message (fetched_at token r.fetched) ≡ Some m → m.header.flags ≡ 0 → m.header.reply ≡ e.replies.grant → c.act ≡ e.r
      to_writer m u flags w =
          let n : m.header.send ≡ e.notices.grant = (fetched-one e token m r.fetched queue.1 u flags).1 w in
          let sent = fetched-found s.grants r.grant token m r.fetched lawful.1 u flags in
          let parent : parent_at (grant_in s.grants e.notices.grant) ≡ Some r.grant = subst (λ z. parent_at (grant_in s.grants z) ≡ Some r.grant) n (child_of (grant_in s.grants m.header.send) m.header.sender r.grant sent) in
          let both : Some r.grant ≡ Some e.inbox.grant = sym parent ∙ grants.child in
          let same : r.grant ≡ e.inbox.grant = cc in
          sym is_act ∙ place_of_grant e.r e.reader.recv ep e.inbox.grant (Fresh.Receive e.inbox.grant e.inbox.slots e.inbox.size) (Fresh.Receive r.grant r.slots r.size) grants.inbox.held same (ap form_of q)

      by_why : (w : Option Refusal) → reply_refusal r token payload ≡ w → (o : Option Message) → unmarked_message (fetched_at token r.fetched) ≡ o → Leaves e (unless_refusal w c (reply_to c ep token payload r o))
      by_why (Some w) v o u = refused w
      by_why None v None u = refused Refusal.NoSuchToken
      by_why None v (Some m) u =
          let flags = no_flags r token payload m u v in
          record {
            each = each_set e c.endpoints ep (Receives (with_mark_at true r token)) h (queue.0, fetched-marked e true token r.fetched queue.1);
            packet = (λ z. absurd (cc), λ z. ((fetched-one e token m r.fetched queue.1 u flags).0, λ w. to_writer m u flags w));
          }

  fetch_leaves : (ep : ℕ) (y : Endpoint) → endpoint c ep ≡ y → Leaves e (fetch c ep y)
  fetch_leaves ep Free q = refused Refusal.NoEndpoint
  fetch_leaves ep (Sends r) q = refused Refusal.NoEndpoint
  fetch_leaves ep (Reaches r) q = refused Refusal.NoEndpoint
  fetch_leaves ep (Receives r) q = by_why (first_of ((r.closing, Refusal.Revoked) ∷ [])) r.unread refl
    where
      queue : AllApart e r.unread × FetchedApart e r.fetched
      queue = subst (QueueApart e) q (h ep)

      by_why : (w : Option Refusal) (ms : List Message) → r.unread ≡ ms → Leaves e (unless_refusal w c (fetch_from c ep r ms))
      by_why (Some w) ms u = refused w
      by_why None [] u = stays (immediate_reply c Reply.Nothing) refl refl
      by_why None (m ∷ ms) u =
          let all = subst (AllApart e) u queue.0 in
          record { each = each_set e c.endpoints ep (Receives (with_fetched r m ms)) h (all.1, fetched-push e (record { token = r.next_token; marked = false; message = m }) r.fetched all.0 queue.1); packet = tt }

  acknowledge_leaves : (ep token : ℕ) (y : Endpoint) → endpoint c ep ≡ y → Leaves e (acknowledge c ep token y)
  acknowledge_leaves ep token Free q = refused Refusal.NoEndpoint
  acknowledge_leaves ep token (Sends r) q = refused Refusal.NoEndpoint
  acknowledge_leaves ep token (Reaches r) q = refused Refusal.NoEndpoint
  acknowledge_leaves ep token (Receives r) q = by_why (first_of ((r.closing, Refusal.Revoked) ∷ [])) (unmarked_message (fetched_at token r.fetched))
    where
      queue : AllApart e r.unread × FetchedApart e r.fetched
      queue = subst (QueueApart e) q (h ep)

      by_flags : (m : Message) (b : Bool) → Leaves e (after_acknowledge c ep r token m b)
      by_flags m true = record { each = each_set e c.endpoints ep (Receives (without_fetched r token)) h (queue.0, fetched-less e token r.fetched queue.1); packet = tt }
      by_flags m false = record { each = each_set e c.endpoints ep (Receives (without_fetched r token)) h (queue.0, fetched-less e token r.fetched queue.1); packet = tt }

      by_why : (w : Option Refusal) (o : Option Message) → Leaves e (unless_refusal w c (acknowledge_at c ep r token o))
      by_why (Some w) o = refused w
      by_why None None = refused Refusal.NoSuchToken
      by_why None (Some m) = by_flags m (m.header.flags == 0)

  access_leaves : (kind : Kind) (ep : ℕ) (p : Packet) (w : Option Refusal) → NewApart e (Some p) → Leaves e (unless_refusal w c (access c kind ep p))
  access_leaves kind ep p (Some w) n = refused w
  access_leaves kind ep p None n = record { each = h; packet = n }

  read_leaves : (ep off len : ℕ) (y : Endpoint) → Leaves e (read c ep off len y)
  read_leaves ep off len Free = refused Refusal.NoEndpoint
  read_leaves ep off len (Sends r) = refused Refusal.NoEndpoint
  read_leaves ep off len (Receives r) = refused Refusal.NoEndpoint
  read_leaves ep off len (Reaches r) = access_leaves Reading ep _ (access_refusal r off len (may_read r.perm)) tt

  write_leaves : (ep off : ℕ) (payload : List ℕ) (y : Endpoint) → Leaves e (write c ep off payload y)
  write_leaves ep off payload Free = refused Refusal.NoEndpoint
  write_leaves ep off payload (Sends r) = refused Refusal.NoEndpoint
  write_leaves ep off payload (Receives r) = refused Refusal.NoEndpoint
  write_leaves ep off payload (Reaches r) = access_leaves Writing ep _ (access_refusal r off (length payload) (may_write r.perm)) tt

  pub issue_leaves : (k : Command) (i : Issued) → (a ≡ e.w → WriterSends e k) → (a ≡ e.r → ReaderSends k) → issue c k ≡ Some i → Leaves e i
  issue_leaves (Command.Send ep payload to) i as_w as_r q = subst (Leaves e) (came_through (is_busy c) _ i q) (send_leaves ep payload to as_w as_r (endpoint c ep) refl)
  issue_leaves (Command.Reply ep token payload) i as_w as_r q = subst (Leaves e) (came_through (is_busy c) _ i q) (reply_leaves ep token payload (endpoint c ep) refl)
  issue_leaves (Command.Fetch ep) i as_w as_r q = subst (Leaves e) (same_Some _ i q) (fetch_leaves ep (endpoint c ep) refl)
  issue_leaves (Command.Acknowledge ep token) i as_w as_r q = subst (Leaves e) (same_Some _ i q) (acknowledge_leaves ep token (endpoint c ep) refl)
  issue_leaves (Command.Read ep off len) i as_w as_r q = subst (Leaves e) (came_through (is_busy c) _ i q) (read_leaves ep off len (endpoint c ep))
  issue_leaves (Command.Write ep off payload) i as_w as_r q = subst (Leaves e) (came_through (is_busy c) _ i q) (write_leaves ep off payload (endpoint c ep))
