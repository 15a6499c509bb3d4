-- Each step keeps a pipe's grants and what is around it.
use Rattle.std.proofs.Common.{◌≡◌, ◌≢◌, ℕ, zero, suc, ◌+◌, ◌-◌, ◌*◌, ◌≤◌, Bool, true, false, List, [], ◌∷◌, ◌++◌, length, get_or, set, Some, None, refl, sym, subst, ◌∙◌, ap, arith, inl, inr}
use Rattle.std.specs.Prelude.{Option, if◌then◌else◌, ◌==◌, ◌&&◌, ◌⊎◌, not, slice_get}
use Rattle.std.proofs.lemmas.Bool.Decides.{nat_tests}
use Rattle.m3_base.specs.declared.ids.FlightId.{FlightId}
use Rattle.m3_base.specs.declared.message.Message.{Message}
use Rattle.m3_base.specs.declared.packet.Packet.{Packet}
use Rattle.m3_base.specs.declared.packet.Fresh.{Fresh}
use Rattle.m3_base.specs.declared.command.Command.{Command}
use Rattle.m3_base.specs.declared.command.Answer.{Answer}
use Rattle.m3_base.specs.declared.command.Refusal.{Refusal}
use Rattle.m3_base.specs.declared.order.GrantLine.{GrantLine}
use Rattle.m3_base.specs.declared.event.No.{No}
use Rattle.m3_base.specs.Ideal.Flights.{flight, name_of, new_flight, change_flight, end_flight}
use Rattle.m3_base.specs.Ideal.Context.{Kind, Sending, Replying, Flying, Endpoint, Free, Sends, Receives, Reaches, Context, endpoint, with_endpoint, new_endpoint}
use Rattle.m3_base.specs.Ideal.Issue.{Issued, issue, next_id}
use Rattle.m3_base.specs.Ideal.Landing.{land_by, land_refusal, with_message, after_message, with_credit, endpoints_with_credit, more_at, closed_at, has_live, has_closing, flies_at, flying_at, context_after_answer, endpoint_after_answer, message_id, landed_answer, written_at, bytes_at}
use Rattle.m3_base.specs.Ideal.State.{State, Grant, context_of, put_context, same_act, grant_in, holder, holder_ep, parent_of, parent_in, undone}
use Rattle.m3_base.specs.Ideal.GrantRules.{form, make_refusal, kernel_id, may_close, close_sent, change_grant, is_closed_grant, after_revoke, with_root_closing, closing_where, marks_under, new_grant, to_closing, or_false, to_root, to_done}
use Rattle.m3_base.specs.Ideal.Step.{IdealResult, step_to, with_packet, issue_in, issued_in, land_in, message_in, credit_in, install_in, close_in, answered_in, answer_in, settle_in, make_in, make_for, revoke_in, send_close_in, closed_in, free_in, done_in, Starts_closing, Closes_endpoint, Sends_close, Frees, Finishes, number_of, after_ending}
use Rattle.m3_base.specs.Ideal.FlightNames.{Apart}
use Rattle.m3_laws.specs.Laws.{parent_at}
use Rattle.m3_laws.specs.GrantInvariant.{IsHeldAt}
use Rattle.m3_laws.specs.Invariant.{Invariant}
use Rattle.m3_base.proofs.FlightNames.{name_found}
use Rattle.m3_laws.proofs.invariant.step.LookUps.{found_after}
use Rattle.m3_laws.proofs.invariant.step.LookUps.{found_ended}
use Rattle.m3_laws.proofs.invariant.step.LookUps.{found_changed}
use Rattle.m3_laws.proofs.invariant.step.LookUps.{found_new}
use Rattle.m3_laws.proofs.invariant.records.OrdersKeepRecords.{form_number}
use Rattle.m3_laws.proofs.invariant.records.ClosingRecords.{to_closed}
use Rattle.m3_laws.proofs.grants.GrantList.{Changes, at_one, grant_added, changed_from}
use Rattle.m3_laws.proofs.grants.OrdersKeepGrants.{closing_changes, one_changes}
use Rattle.m3_laws.proofs.invariant.wellformed.ChangeKeeps.{Lasts, lasts_changed, lasts_added}
use Rattle.m3_laws.proofs.invariant.step.IssueEffects.{NewPacket, issue_effect}
use Rattle.m3_pipe_laws.specs.Pipe.{Disjoint, WritesOutside, IssuesOutside, CommandOutside, MakesApart}
use Rattle.m3_pipe_laws.proofs.Invariant.Sides.{Sides}
use Rattle.m3_pipe_laws.proofs.Invariant.Isolation.{Alone, GrantsApart, MessageApart, QueueApart, PacketApart, Isolation, WriterSends, ReaderSends}
use Rattle.m3_pipe_laws.proofs.Writer.Landings.{taken_act}
use Rattle.m3_pipe_laws.proofs.Others.Commands.{EachApart, each_set, apart-push, fetched-less, fetched-marked, NewApart, issue_leaves}
use Rattle.m3_base.proofs.Activities.{act_found}
use Rattle.m3_base.proofs.GrantsByNumber.{grant_past}

-- ---- grants

-- a grant of the new list is one of the old, or is apart
abbrev pub Comes_from : Sides → List Grant → List Grant → Type 0
Comes_from e gs ks = (g : ℕ) (y : Grant) → grant_in ks g ≡ Some y → ((x : Grant) × ((grant_in gs g ≡ Some x) × (y.line ≡ x.line))) ⊎ MakesApart e.w e.r e.writer e.reader e.inbox.grant e.replies.grant y.line

held_on : (gs ks : List Grant) → Lasts gs ks → (g a ep : ℕ) (f : Fresh) → IsHeldAt (grant_in gs g) a ep f → IsHeldAt (grant_in ks g) a ep f
held_on gs ks last g a ep f h = by_grant (grant_in gs g) refl h
  where
    by_grant : (o : Option Grant) → grant_in gs g ≡ o → IsHeldAt o a ep f → IsHeldAt (grant_in ks g) a ep f
    by_grant None q h = absurd h
    by_grant (Some x) q h =
        let y = last g x q in
        subst (λ z. IsHeldAt z a ep f) (sym y.1.0) (record { fresh = y.1.1.1 ∙ h.fresh; act = ap holder y.1.1.0 ∙ h.act; ep = ap holder_ep y.1.1.0 ∙ h.ep })

alone_on : (e : Sides) (gs ks : List Grant) → Lasts gs ks → Comes_from e gs ks → (a ep : ℕ) (f : Fresh) → ((line : GrantLine) → MakesApart e.w e.r e.writer e.reader e.inbox.grant e.replies.grant line → holder line ≡ a → holder_ep line ≡ ep → ⊥) → Alone gs a ep f → Alone ks a ep f
alone_on e gs ks last from a ep f never h = record { held = held_on gs ks last (number_of f) a ep f h.held; only = λ g y q u v. by_from g y u v (from g y q) }
  where
    by_from : (g : ℕ) (y : Grant) → holder y.line ≡ a → holder_ep y.line ≡ ep → ((x : Grant) × ((grant_in gs g ≡ Some x) × (y.line ≡ x.line))) ⊎ MakesApart e.w e.r e.writer e.reader e.inbox.grant e.replies.grant y.line → g ≡ number_of f
    by_from g y u v (inl x) = h.only g x.0 x.1.0 (ap holder (sym x.1.1) ∙ u) (ap holder_ep (sym x.1.1) ∙ v)
    by_from g y u v (inr k) = absurd (never y.line k u v)

parent_on : (gs ks : List Grant) → Lasts gs ks → (g h : ℕ) → parent_at (grant_in gs g) ≡ Some h → parent_at (grant_in ks g) ≡ Some h
parent_on gs ks last g h q = by_grant (grant_in gs g) refl q
  where
    by_grant : (o : Option Grant) → grant_in gs g ≡ o → parent_at o ≡ Some h → parent_at (grant_in ks g) ≡ Some h
    by_grant None u q = absurd (cc)
    by_grant (Some x) u q = let y = last g x u in ap parent_at y.1.0 ∙ (ap parent_of y.1.1.0 ∙ q)

pub grants_on : (e : Sides) (gs ks : List Grant) → Lasts gs ks → Comes_from e gs ks → GrantsApart e gs → GrantsApart e ks
grants_on e gs ks last from h = record {
  out = alone_on e gs ks last from e.w e.writer.mem _ (λ l k u v. (k.writers u).0 v) h.out;
  into = alone_on e gs ks last from e.r e.reader.mem _ (λ l k u v. (k.readers u).0 v) h.into;
  notices = alone_on e gs ks last from e.w e.writer.send _ (λ l k u v. (k.writers u).1 v) h.notices;
  inbox = alone_on e gs ks last from e.r e.reader.recv _ (λ l k u v. (k.readers u).1 v) h.inbox;
  replies = alone_on e gs ks last from e.w e.writer.reply _ (λ l k u v. (k.writers u).2 v) h.replies;
  child = parent_on gs ks last e.notices.grant e.inbox.grant h.child;
  only_child = λ g y q u. only g y u (from g y q);
  no_child = λ g y q u. none g y u (from g y q);
}
  where
    only : (g : ℕ) (y : Grant) → parent_of y.line ≡ Some e.inbox.grant → ((x : Grant) × ((grant_in gs g ≡ Some x) × (y.line ≡ x.line))) ⊎ MakesApart e.w e.r e.writer e.reader e.inbox.grant e.replies.grant y.line → g ≡ e.notices.grant
    only g y u (inl x) = h.only_child g x.0 x.1.0 (ap parent_of (sym x.1.1) ∙ u)
    only g y u (inr k) = absurd (k.parent.0 u)

    none : (g : ℕ) (y : Grant) → parent_of y.line ≡ Some e.replies.grant → ((x : Grant) × ((grant_in gs g ≡ Some x) × (y.line ≡ x.line))) ⊎ MakesApart e.w e.r e.writer e.reader e.inbox.grant e.replies.grant y.line → ⊥
    none g y u (inl x) = h.no_child g x.0 x.1.0 (ap parent_of (sym x.1.1) ∙ u)
    none g y u (inr k) = k.parent.1 u

pub grants_changed : (e : Sides) (gs ks : List Grant) (f : ℕ → Grant → Grant) → Changes gs ks f → GrantsApart e gs → GrantsApart e ks
grants_changed e gs ks f ch h = grants_on e gs ks (lasts_changed gs ks f ch) from h
  where
    from : Comes_from e gs ks
    from g y q = let x = changed_from gs ks f ch g y (grant_in gs g) refl (sym (ch.at g) ∙ q) in inl (x.0, (x.1.0, ap (λ z. z.line) (sym x.1.1) ∙ ch.line g x.0))

pub grants_added : (e : Sides) (gs : List Grant) (x : Grant) → MakesApart e.w e.r e.writer e.reader e.inbox.grant e.replies.grant x.line → GrantsApart e gs → GrantsApart e (gs ++ x ∷ [])
grants_added e gs x k h = grants_on e gs (gs ++ x ∷ []) (lasts_added gs x) from h
  where
    from : Comes_from e gs (gs ++ x ∷ [])
    from g y q = by_new (g == (length gs + 1)) (sym (grant_added gs x g) ∙ q)
      where
        by_new : (b : Bool) → (if b then Some x else grant_in gs g) ≡ Some y → ((z : Grant) × ((grant_in gs g ≡ Some z) × (y.line ≡ z.line))) ⊎ MakesApart e.w e.r e.writer e.reader e.inbox.grant e.replies.grant y.line
        by_new true u = let same : x ≡ y = cc in inr (subst (λ z. MakesApart e.w e.r e.writer e.reader e.inbox.grant e.replies.grant z.line) same k)
        by_new false u = inl (y, (u, refl))

held_past : (gs : List Grant) (g a ep : ℕ) (f : Fresh) → IsHeldAt (grant_in gs g) a ep f → g ≤ length gs
held_past gs g a ep f h = by_grant (grant_in gs g) refl h
  where
    by_grant : (o : Option Grant) → grant_in gs g ≡ o → IsHeldAt o a ep f → g ≤ length gs
    by_grant None q h = absurd h
    by_grant (Some x) q h = grant_past gs g x q

-- ---- queues

credited_apart : (e : Sides) (g : ℕ) (es : List Endpoint) → EachApart e es → EachApart e (endpoints_with_credit g es)
credited_apart e g [] h i = h i
credited_apart e g (Free ∷ es) h zero = tt
credited_apart e g (Free ∷ es) h (suc i) = credited_apart e g es (λ j. h (suc j)) i
credited_apart e g (Receives r ∷ es) h zero = h 0
credited_apart e g (Receives r ∷ es) h (suc i) = credited_apart e g es (λ j. h (suc j)) i
credited_apart e g (Reaches r ∷ es) h zero = tt
credited_apart e g (Reaches r ∷ es) h (suc i) = credited_apart e g es (λ j. h (suc j)) i
credited_apart e g (Sends r ∷ es) h i = by_grant (r.grant == g) i (λ j. credited_apart e g es (λ k. h (suc k)) j)
  where
    by_grant : (b : Bool) (i : ℕ) → ((j : ℕ) → QueueApart e (get_or (endpoints_with_credit g es) j Free)) → QueueApart e (get_or (if b then more_at (Sends r) ∷ es else Sends r ∷ endpoints_with_credit g es) i Free)
    by_grant true zero ih = tt
    by_grant true (suc i) ih = h (suc i)
    by_grant false zero ih = tt
    by_grant false (suc i) ih = ih i

joined_apart : (e : Sides) (m : Message) (y : Endpoint) → MessageApart e m → QueueApart e y → QueueApart e (with_message m y)
joined_apart e m Free k h = tt
joined_apart e m (Sends r) k h = tt
joined_apart e m (Reaches r) k h = tt
joined_apart e m (Receives r) k h = (apart-push e m r.unread k h.0, h.1)

taken_apart : (e : Sides) (ep : ℕ) (m : Message) (c : Context) → MessageApart e m → EachApart e c.endpoints → EachApart e (after_message ep m c).endpoints
taken_apart e ep m c k h = by_flags (m.header.flags == 0)
  where
    first : EachApart e (set c.endpoints ep (with_message m (endpoint c ep)))
    first = each_set e c.endpoints ep (with_message m (endpoint c ep)) h (joined_apart e m (endpoint c ep) k (h ep))

    by_flags : (b : Bool) → EachApart e (if b then with_endpoint c ep (with_message m (endpoint c ep)) else with_credit m.header.send (with_endpoint c ep (with_message m (endpoint c ep)))).endpoints
    by_flags true = first
    by_flags false = credited_apart e m.header.send (set c.endpoints ep (with_message m (endpoint c ep))) first

opened_apart : (e : Sides) (f : Fresh) → QueueApart e (new_endpoint f)
opened_apart e (Fresh.Send g a b to_grant label size limit) = tt
opened_apart e (Fresh.Receive g slots size) = (tt, tt)
opened_apart e (Fresh.Memory g start len perm) = tt

closed_apart : (e : Sides) (y : Endpoint) → QueueApart e y → QueueApart e (closed_at y)
closed_apart e Free h = tt
closed_apart e (Sends r) h = tt
closed_apart e (Reaches r) h = tt
closed_apart e (Receives r) h = h

settled_apart : (e : Sides) (k : Kind) (t : ℕ) (answer : Answer) (y : Endpoint) → QueueApart e y → QueueApart e (endpoint_after_answer k t answer y)
settled_apart e Sending t (Answer.Refused why) (Sends r) h = tt
settled_apart e Replying t Answer.Replied (Receives r) h = (h.0, fetched-less e t r.fetched h.1)
settled_apart e Replying t (Answer.Refused why) (Receives r) h = (h.0, fetched-marked e false t r.fetched h.1)
settled_apart e k t answer y h = h

-- ---- states

module _ (e : Sides) (s : State) (law : Invariant s) (around : Isolation e s) where
  each_of : (a : ℕ) (c : Context) → context_of a s.contexts ≡ Some c → EachApart e c.endpoints
  each_of a c at i = around.queues a c at i

  -- one context changed
  queues_put : (c d : Context) → context_of d.act s.contexts ≡ Some c → EachApart e d.endpoints → (a : ℕ) (x : Context) → context_of a (put_context d s.contexts) ≡ Some x → (ep : ℕ) → QueueApart e (endpoint x ep)
  queues_put c d at h a x q = by_found (found_after a x c d s.contexts at q)
    where
      by_found : ((a ≡ d.act) × (x ≡ d)) ⊎ ((same_act a d.act ≡ false) × (context_of a s.contexts ≡ Some x)) → (ep : ℕ) → QueueApart e (endpoint x ep)
      by_found (inl z) = subst (λ y. EachApart e y.endpoints) (sym z.1) h
      by_found (inr z) = around.queues a x z.1

  packets_changed : (old p : Packet) → flight (name_of p) s.flights ≡ Some old → PacketApart e p → (id : FlightId) (q : Packet) → flight id (change_flight p s.flights) ≡ Some q → PacketApart e q
  packets_changed old p find h id q z = by_found (found_changed id q old p s.flights find z)
    where
      by_found : (q ≡ p) ⊎ (flight id s.flights ≡ Some q) → PacketApart e q
      by_found (inl y) = subst (PacketApart e) (sym y) h
      by_found (inr y) = around.packets id q y

  packets_new : (p : Packet) → Apart (name_of p) s.flights → PacketApart e p → (id : FlightId) (q : Packet) → flight id (new_flight p s.flights) ≡ Some q → PacketApart e q
  packets_new p apart h id q z = by_found (found_new id q p s.flights apart z)
    where
      by_found : (q ≡ p) ⊎ (flight id s.flights ≡ Some q) → PacketApart e q
      by_found (inl y) = subst (PacketApart e) (sym y) h
      by_found (inr y) = around.packets id q y

  packets_ended : (x id : FlightId) (q : Packet) → flight id (end_flight x s.flights) ≡ Some q → PacketApart e q
  packets_ended x id q z = around.packets id q (found_ended x id q s.flights law.lawful.placed.distinct z)

  abbrev pub AllAround : Option IdealResult → Type 0
  AllAround None = Unit {0}
  AllAround (Some n) = Isolation e n.state

  -- ---- commands

  new_packet : (a : ℕ) (c : Context) (p : Packet) → a ≡ c.act → name_of p ≡ next_id c → NewApart e (Some p) → (a ≢ e.w → WritesOutside e.out.start (e.writer.ring * e.writer.chunk) (Some p)) → PacketApart e p
  new_packet a c (Packet.Message to ep g m) act n h out = h
  new_packet a c (Packet.Credit id to g) act n h out = tt
  new_packet a c (Packet.Read id g place buffer) act n h out = tt
  new_packet a c (Packet.Answer id answer) act n h out = tt
  new_packet a c (Packet.Install id to ep f) act n h out = absurd h
  new_packet a c (Packet.Close id to ep g) act n h out = tt
  new_packet a c (Packet.Write id g place payload) act n h out = by_act (a == e.w) refl
    where
      by_act : (b : Bool) → (a == e.w) ≡ b → (id.issuer ≡ e.w) ⊎ Disjoint e.out.start (e.writer.ring * e.writer.chunk) place (length payload)
      by_act true w = let q : a ≡ e.w = grind (arith, nat_tests, w) in inl (ap (λ z. z.issuer) n ∙ (sym act ∙ q))
      by_act false w = inr (out (λ q. absurd (grind (arith, nat_tests, w, q))))

  issued_around : (a : ℕ) (k : Command) (c : Context) (i : Issued) → (a ≡ e.w → WriterSends e k) → (a ≡ e.r → ReaderSends k) → (a ≢ e.w → IssuesOutside e.out.start (e.writer.ring * e.writer.chunk) (Some i)) → context_of a s.contexts ≡ Some c → issue c k ≡ Some i → Isolation e (record s { contexts = put_context i.context s.contexts; flights = with_packet i.packet s.flights })
  issued_around a k c i as_w as_r out at q =
      let ctx = law.lawful.traffic.contexts a c at in
      let does = issue_effect c k i q (ctx.fresh c.next (omega arith)) in
      let leaves = issue_leaves e s law around.grants a c at (each_of a c at) k i as_w as_r q in
      let act : a ≡ c.act = act_found a c s.contexts at in
      record {
        grants = around.grants;
        packets = by_packet i.packet does.packet leaves.packet out;
        queues = queues_put c i.context (subst (λ z. context_of z s.contexts ≡ Some c) (act ∙ sym does.act) at) leaves.each;
      }
    where
      by_packet : (mp : Option Packet) → NewPacket c i.context mp → NewApart e mp → (a ≢ e.w → WritesOutside e.out.start (e.writer.ring * e.writer.chunk) mp) → (id : FlightId) (q : Packet) → flight id (with_packet mp s.flights) ≡ Some q → PacketApart e q
      by_packet None n h w = around.packets
      by_packet (Some p) n h w = packets_new p (subst (λ z. Apart z s.flights) (sym n.0) ((law.lawful.traffic.contexts a c at).apart c.next (omega arith))) (new_packet a c p (act_found a c s.contexts at) n.0 h w)

  pub issue_around : (a : ℕ) (k : Command) → (a ≡ e.w → WriterSends e k) → (a ≡ e.r → ReaderSends k) → (o : Option Context) → (a ≢ e.w → CommandOutside e.out.start (e.writer.ring * e.writer.chunk) o k) → context_of a s.contexts ≡ o → AllAround (issue_in s o k)
  issue_around a k as_w as_r None out at = tt
  issue_around a k as_w as_r (Some c) out at = by_issue (issue c k) refl out
    where
      by_issue : (o : Option Issued) → issue c k ≡ o → (a ≢ e.w → IssuesOutside e.out.start (e.writer.ring * e.writer.chunk) o) → AllAround (issued_in s o)
      by_issue None q w = tt
      by_issue (Some i) q w = issued_around a k c i as_w as_r w at q

  -- ---- landings

  message_around : (id : FlightId) (to ep g : ℕ) (m : Message) → flight id s.flights ≡ Some (Packet.Message to ep g m) → (o : Option Context) → context_of to s.contexts ≡ o → AllAround (message_in s id ep g m o)
  message_around id to ep g m find None at = tt
  message_around id to ep g m find (Some x) at = by_why (land_refusal g m (endpoint x ep))
    where
      its : flight (message_id m) s.flights ≡ Some (Packet.Message to ep g m)
      its = subst (λ z. flight z s.flights ≡ Some (Packet.Message to ep g m)) (name_found id (Packet.Message to ep g m) s.flights find) find

      found : context_of x.act s.contexts ≡ Some x
      found = subst (λ z. context_of z s.contexts ≡ Some x) (act_found to x s.contexts at) at

      by_why : (why : Option Refusal) → Isolation e (record s { contexts = put_context (land_by ep m x why).context s.contexts; flights = change_flight (land_by ep m x why).answer s.flights })
      by_why (Some why) = record { grants = around.grants; packets = packets_changed (Packet.Message to ep g m) (Packet.Answer (message_id m) (Answer.Refused why)) its tt; queues = queues_put x x found (each_of to x at) }
      by_why None = record {
        grants = around.grants;
        packets = packets_changed (Packet.Message to ep g m) (Packet.Answer (message_id m) (landed_answer m)) its tt;
        queues = queues_put x (after_message ep m x) (subst (λ z. context_of z s.contexts ≡ Some x) (sym (taken_act ep m x)) found) (taken_apart e ep m x (around.packets id (Packet.Message to ep g m) find).0 (each_of to x at));
      }

  ended_around : (id : FlightId) (x d : Context) → context_of d.act s.contexts ≡ Some x → EachApart e d.endpoints → Isolation e (after_ending s id d)
  ended_around id x d at h = record { grants = around.grants; packets = packets_ended id; queues = queues_put x d at h }

  credit_around : (id : FlightId) (to g : ℕ) (o : Option Context) → context_of to s.contexts ≡ o → AllAround (credit_in s id g o)
  credit_around id to g None at = tt
  credit_around id to g (Some x) at = ended_around id x (with_credit g x) (subst (λ z. context_of z s.contexts ≡ Some x) (act_found to x s.contexts at) at) (credited_apart e g x.endpoints (each_of to x at))

  install_around : (id : FlightId) (to ep : ℕ) (f : Fresh) (o : Option Context) → context_of to s.contexts ≡ o → AllAround (install_in s id ep f o)
  install_around id to ep f None at = tt
  install_around id to ep f (Some x) at = ended_around id x (with_endpoint x ep (new_endpoint f)) (subst (λ z. context_of z s.contexts ≡ Some x) (act_found to x s.contexts at) at) (each_set e x.endpoints ep (new_endpoint f) (each_of to x at) (opened_apart e f))

  close_around : (id : FlightId) (to ep g : ℕ) (o : Option Context) → context_of to s.contexts ≡ o → AllAround (close_in s id ep g o)
  close_around id to ep g None at = tt
  close_around id to ep g (Some x) at = by_test (has_live g (endpoint x ep))
    where
      by_test : (b : Bool) → AllAround (if b then step_to (if flies_at ep x then Starts_closing id g else Closes_endpoint id g) (after_ending s id (with_endpoint x ep (closed_at (endpoint x ep)))) else None)
      by_test true = ended_around id x (with_endpoint x ep (closed_at (endpoint x ep))) (subst (λ z. context_of z s.contexts ≡ Some x) (act_found to x s.contexts at) at) (each_set e x.endpoints ep (closed_at (endpoint x ep)) (each_of to x at) (closed_apart e (endpoint x ep) (each_of to x at ep)))
      by_test false = tt

  served_around : (memory : List ℕ) (old p : Packet) → flight (name_of p) s.flights ≡ Some old → PacketApart e p → Isolation e (record s { memory = memory; flights = change_flight p s.flights })
  served_around memory old p find h = record { grants = around.grants; packets = packets_changed old p find h; queues = around.queues }

  pub land_around : (id : FlightId) (o : Option Packet) → flight id s.flights ≡ o → AllAround (land_in s id o)
  land_around id None find = tt
  land_around id (Some (Packet.Message to ep g m)) find = message_around id to ep g m find (context_of to s.contexts) refl
  land_around id (Some (Packet.Credit y to g)) find = credit_around id to g (context_of to s.contexts) refl
  land_around id (Some (Packet.Read y g place buffer)) find = served_around s.memory (Packet.Read y g place buffer) (Packet.Answer id (Answer.Bytes (bytes_at place (length buffer) s.memory))) find tt
  land_around id (Some (Packet.Write y g place payload)) find = served_around (written_at place payload s.memory) (Packet.Write y g place payload) (Packet.Answer id Answer.Written) find tt
  land_around id (Some (Packet.Answer y answer)) find = tt
  land_around id (Some (Packet.Install y to ep f)) find = install_around id to ep f (context_of to s.contexts) refl
  land_around id (Some (Packet.Close y to ep g)) find = close_around id to ep g (context_of to s.contexts) refl

  -- ---- answers

  pub answered_around : (id : FlightId) (o : Option Packet) → AllAround (answered_in s id o)
  answered_around id None = tt
  answered_around id (Some (Packet.Message to ep g m)) = tt
  answered_around id (Some (Packet.Credit y to g)) = tt
  answered_around id (Some (Packet.Read y g place buffer)) = tt
  answered_around id (Some (Packet.Write y g place payload)) = tt
  answered_around id (Some (Packet.Install y to ep f)) = tt
  answered_around id (Some (Packet.Close y to ep g)) = tt
  answered_around id (Some (Packet.Answer y answer)) = by_context (context_of id.issuer s.contexts) refl
    where
      by_flying : (x : Context) → context_of id.issuer s.contexts ≡ Some x → (o : Option Flying) → AllAround (settle_in s id answer x o)
      by_flying x at None = tt
      by_flying x at (Some f) = ended_around id x (context_after_answer f answer x) (subst (λ z. context_of z s.contexts ≡ Some x) (act_found id.issuer x s.contexts at) at) (each_set e x.endpoints f.ep (endpoint_after_answer f.kind f.token answer (endpoint x f.ep)) (each_of id.issuer x at) (settled_apart e f.kind f.token answer (endpoint x f.ep) (each_of id.issuer x at f.ep)))

      by_context : (o : Option Context) → context_of id.issuer s.contexts ≡ o → AllAround (answer_in s id answer o)
      by_context None at = tt
      by_context (Some x) at = by_flying x at (flying_at id.number x.flying)

  -- ---- orders

  order_around : (gs : List Grant) (p : Packet) → name_of p ≡ kernel_id s → PacketApart e p → GrantsApart e gs → Isolation e (record s { flights = new_flight p s.flights; kernel_next = s.kernel_next + 1; grants = gs })
  order_around gs p n h k = record { grants = k; packets = packets_new p (subst (λ z. Apart z s.flights) (sym n) (law.lawful.traffic.orders s.kernel_next (omega arith))) h; queues = around.queues }

  make_around : (line : GrantLine) → MakesApart e.w e.r e.writer e.reader e.inbox.grant e.replies.grant line → (w : Option No) (f : Option Fresh) → form (length s.grants + 1) line (undone (parent_in s.grants (parent_of line))) ≡ f → AllAround (make_in s line w f)
  make_around line k (Some why) f q = around
  make_around line k None None q = tt
  make_around line k None (Some f) q =
      let n : number_of f ≡ length s.grants + 1 = form_number (length s.grants + 1) line (undone (parent_in s.grants (parent_of line))) f q in
      let a = held_past s.grants e.inbox.grant e.r e.reader.recv _ around.grants.inbox.held in
      let b = held_past s.grants e.replies.grant e.w e.writer.reply _ around.grants.replies.held in
      order_around (s.grants ++ new_grant line f ∷ []) (Packet.Install (kernel_id s) (holder line) (holder_ep line) f) refl (λ z. absurd (omega (arith, n, a, z)), λ z. absurd (omega (arith, n, b, z))) (grants_added e s.grants (new_grant line f) k around.grants)

  pub make_for_around : (line : GrantLine) → MakesApart e.w e.r e.writer e.reader e.inbox.grant e.replies.grant line → (o : Option Context) → AllAround (make_for s line o)
  make_for_around line k None = tt
  make_for_around line k (Some x) = make_around line k (make_refusal (length s.memory) s.grants line) (form (length s.grants + 1) line (undone (parent_in s.grants (parent_of line)))) refl

  changed_around : (gs : List Grant) → GrantsApart e gs → Isolation e (record s { grants = gs })
  changed_around gs k = record { grants = k; packets = around.packets; queues = around.queues }

  pub revoke_around : (g : ℕ) (w : Option No) → AllAround (revoke_in s g w)
  revoke_around g (Some why) = around
  revoke_around g None =
      let bs = marks_under g 1 [] s.grants in
      let hs = closing_where bs s.grants in
      changed_around (after_revoke s.grants g) (grants_changed e hs (with_root_closing hs g) (at_one g to_root) (one_changes hs g to_root (λ x. (refl, refl))) (grants_changed e s.grants hs (λ h x. to_closing (or_false (slice_get bs (h - 1))) x) (closing_changes bs s.grants) around.grants))

  pub close_grant_around : (g : ℕ) (o : Option Grant) → AllAround (send_close_in s g o)
  close_grant_around g None = tt
  close_grant_around g (Some x) = by_test (may_close s.grants g (Some x))
    where
      by_test : (b : Bool) → AllAround (if b then step_to (Sends_close g (kernel_id s)) (close_sent s g x) else None)
      by_test true = order_around (change_grant s.grants g (λ y. record y { close_sent = true })) (Packet.Close (kernel_id s) (holder x.line) (holder_ep x.line) g) refl tt (grants_changed e s.grants (change_grant s.grants g (λ y. record y { close_sent = true })) (at_one g (λ y. record y { close_sent = true })) (one_changes s.grants g (λ y. record y { close_sent = true }) (λ y. (refl, refl))) around.grants)
      by_test false = tt

  free_around : (g a ep : ℕ) (o : Option Context) → context_of a s.contexts ≡ o → AllAround (free_in s g ep o)
  free_around g a ep None at = tt
  free_around g a ep (Some c) at = by_test (has_closing g (endpoint c ep) && not (flies_at ep c))
    where
      by_test : (b : Bool) → AllAround (if b then step_to (Frees g) (record s { contexts = put_context (with_endpoint c ep Free) s.contexts; grants = change_grant s.grants g to_closed }) else None)
      by_test true = record {
        grants = grants_changed e s.grants (change_grant s.grants g to_closed) (at_one g to_closed) (one_changes s.grants g to_closed (λ x. (refl, refl))) around.grants;
        packets = around.packets;
        queues = queues_put c (with_endpoint c ep Free) (subst (λ z. context_of z s.contexts ≡ Some c) (act_found a c s.contexts at) at) (each_set e c.endpoints ep Free (each_of a c at) tt);
      }
      by_test false = tt

  pub closed_around : (g : ℕ) (o : Option Grant) → AllAround (closed_in s g o)
  closed_around g None = tt
  closed_around g (Some x) = free_around g (holder x.line) (holder_ep x.line) (context_of (holder x.line) s.contexts) refl

  pub done_around : (g : ℕ) (o : Option Grant) → AllAround (done_in s g o)
  done_around g None = tt
  done_around g (Some x) = by_test (is_closed_grant x.standing)
    where
      by_test : (b : Bool) → AllAround (if b then step_to (Finishes g x.is_root) (record s { grants = change_grant s.grants g to_done }) else None)
      by_test true = changed_around (change_grant s.grants g to_done) (grants_changed e s.grants (change_grant s.grants g to_done) (at_one g to_done) (one_changes s.grants g to_done (λ x. (refl, refl))) around.grants)
      by_test false = tt
