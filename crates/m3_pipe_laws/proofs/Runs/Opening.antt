-- A pipe's invariant holds at opening.
use Rattle.std.proofs.Common.{◌≡◌, ℕ, ◌+◌, Bool, true, false, List, [], ◌∷◌, length, get_or, set, Some, None, refl, sym, subst, ◌∙◌, ap, arith, inl, inr}
use Rattle.std.specs.Prelude.{Option, if◌then◌else◌, ◌==◌, ◌⊎◌, nat_lt, replicate}
use Rattle.std.proofs.lemmas.List.{length-replicate}
use Rattle.m3_base.specs.declared.packet.Fresh.{Fresh}
use Rattle.m3_base.specs.declared.order.GrantLine.{GrantLine}
use Rattle.m3_base.specs.declared.setup_line.SetupLine.{SetupLine}
use Rattle.m3_base.specs.Ideal.Flights.{flight}
use Rattle.m3_base.specs.Ideal.Context.{Endpoint, Free, Sends, Receives, Reaches, SendRecord, ReceiveRecord, Context, new_context, endpoint, with_endpoint, new_endpoint}
use Rattle.m3_base.specs.Ideal.State.{State, Grant, Live, context_of, new_context_in, put_context, same_act, grant_in, parent_in, parent_of, holder, holder_ep, is_done}
use Rattle.m3_base.specs.Ideal.GrantRules.{form, send_form, part_form, new_grant}
use Rattle.m3_base.specs.Ideal.Step.{number_of}
use Rattle.m3_base.specs.Ideal.Opening.{contexts_with_record, state_with_grant, with_line, with_lines, opening}
use Rattle.m3_laws.specs.Laws.{parent_at}
use Rattle.m3_laws.specs.GrantInvariant.{IsHeldAt, FormLawful, form_of}
use Rattle.m3_laws.specs.Invariant.{Invariant}
use Rattle.m3_laws.proofs.invariant.step.Invariant.{invariant_opening}
use Rattle.m3_laws.proofs.credits.Counting.{at_set}
use Rattle.m3_laws.proofs.invariant.step.OpeningHolds.{free_at, no_grant}
use Rattle.m3_laws.proofs.grants.GrantList.{grant_added}
use Rattle.m3_pipe_laws.specs.Protocol.{Waits, writer_start, reader_start}
use Rattle.m3_pipe_laws.specs.Pipe.{endpoint_at, endpoint_in, writer_player, reader_player}
use Rattle.m3_pipe_laws.specs.Ring.{empty_line}
use Rattle.m3_pipe_laws.proofs.Invariant.Sides.{Sides}
use Rattle.m3_pipe_laws.proofs.Invariant.Isolation.{Alone, GrantsApart, AllApart, FetchedApart, QueueApart, Isolation}
use Rattle.m3_pipe_laws.proofs.Invariant.Flights.{flying_in, flying_of, Queue, queue_of}
use Rattle.m3_pipe_laws.proofs.Invariant.WriterSide.{RepliesOk}
use Rattle.m3_pipe_laws.proofs.Invariant.ReaderSide.{AreNotices, InboxOk}
use Rattle.m3_pipe_laws.proofs.Invariant.WholePipe.{Marks, PipeAt, OpeningHasPipe, sides_of}
use Rattle.m3_pipe_laws.proofs.Writer.Commands.{chooses_at}

-- ---- nothing flies or is queued, and each grant is live

abbrev pub NoQueue : Option Queue → Type 0
NoQueue None = Unit {0}
NoQueue (Some q) = (q.unread ≡ []) × (q.fetched ≡ [])

pub record Calm (c : Context) : Type 0 where
  pub flying : c.flying ≡ []
  pub queues : (i : ℕ) → NoQueue (queue_of (get_or c.endpoints i Free))

abbrev pub AllCalm : List Context → Type 0
AllCalm [] = Unit {0}
AllCalm (c ∷ cs) = Calm c × AllCalm cs

pub record CalmState (memory : ℕ) (s : State) : Type 0 where
  pub bytes : s.memory ≡ replicate memory 0
  pub flights : s.flights ≡ []
  pub contexts : AllCalm s.contexts
  pub live : (g : ℕ) (x : Grant) → grant_in s.grants g ≡ Some x → x.standing ≡ Live

calm_inserted : (d : Context) (cs : List Context) → Calm d → AllCalm cs → AllCalm (new_context_in d cs)
calm_inserted d [] h a = (h, tt)
calm_inserted d (y ∷ ys) h a = by_order (nat_lt d.act y.act) (calm_inserted d ys h a.1)
  where
    by_order : (b : Bool) → AllCalm (new_context_in d ys) → AllCalm (if b then d ∷ y ∷ ys else y ∷ new_context_in d ys)
    by_order true k = (h, a)
    by_order false k = (a.0, k)

calm_put : (d : Context) (cs : List Context) → Calm d → AllCalm cs → AllCalm (put_context d cs)
calm_put d [] h a = tt
calm_put d (y ∷ ys) h a = by_same (same_act d.act y.act) (calm_put d ys h a.1)
  where
    by_same : (b : Bool) → AllCalm (put_context d ys) → AllCalm (if b then d ∷ ys else y ∷ put_context d ys)
    by_same true k = (h, a.1)
    by_same false k = (a.0, k)

calm_found : (a : ℕ) (c : Context) (cs : List Context) → AllCalm cs → context_of a cs ≡ Some c → Calm c
calm_found a c [] h q = absurd (cc)
calm_found a c (y ∷ ys) h q = by_same (same_act a y.act) q (calm_found a c ys h.1)
  where
    by_same : (b : Bool) → (if b then Some y else context_of a ys) ≡ Some c → (context_of a ys ≡ Some c → Calm c) → Calm c
    by_same true q k = let same : y ≡ c = cc in subst Calm same h.0
    by_same false q k = k q

calm_new : (a : ℕ) → Calm (new_context a)
calm_new a = record { flying = refl; queues = λ i. subst (λ z. NoQueue (queue_of z)) (sym (free_at 16 i)) tt }

opened_empty : (f : Fresh) → NoQueue (queue_of (new_endpoint f))
opened_empty (Fresh.Send g a b to_grant label size limit) = tt
opened_empty (Fresh.Receive g slots size) = (refl, refl)
opened_empty (Fresh.Memory g start len perm) = tt

calm_opened : (c : Context) (ep : ℕ) (f : Fresh) → Calm c → Calm (with_endpoint c ep (new_endpoint f))
calm_opened c ep f h = record { flying = h.flying; queues = λ i. by_set i (at_set c.endpoints ep i (new_endpoint f)) }
  where
    by_set : (i : ℕ) → (get_or (set c.endpoints ep (new_endpoint f)) i Free ≡ get_or c.endpoints i Free) ⊎ ((i ≡ ep) × (get_or (set c.endpoints ep (new_endpoint f)) i Free ≡ new_endpoint f)) → NoQueue (queue_of (get_or (set c.endpoints ep (new_endpoint f)) i Free))
    by_set i (inl z) = subst (λ y. NoQueue (queue_of y)) (sym z) (h.queues i)
    by_set i (inr z) = subst (λ y. NoQueue (queue_of y)) (sym z.1) (opened_empty f)

calm_installed : (ep : ℕ) (f : Fresh) (cs : List Context) (a : ℕ) (o : Option Context) → context_of a cs ≡ o → AllCalm cs → AllCalm (contexts_with_record ep f cs o)
calm_installed ep f cs a None q h = h
calm_installed ep f cs a (Some c) q h = calm_put (with_endpoint c ep (new_endpoint f)) cs (calm_opened c ep f (calm_found a c cs h q)) h

calm_granted : (memory : ℕ) (s : State) (line : GrantLine) (o : Option Fresh) → CalmState memory s → CalmState memory (state_with_grant s line o)
calm_granted memory s line None h = h
calm_granted memory s line (Some f) h = record {
  bytes = h.bytes;
  flights = h.flights;
  contexts = calm_installed (holder_ep line) f s.contexts (holder line) (context_of (holder line) s.contexts) refl h.contexts;
  live = λ g x q. by_number g x (g == (length s.grants + 1)) (sym (grant_added s.grants (new_grant line f) g) ∙ q);
}
  where
    by_number : (g : ℕ) (x : Grant) (b : Bool) → (if b then Some (new_grant line f) else grant_in s.grants g) ≡ Some x → x.standing ≡ Live
    by_number g x true q = let same : new_grant line f ≡ x = cc in ap (λ z. z.standing) (sym same)
    by_number g x false q = h.live g x q

calm_line : (memory : ℕ) (s : State) (l : SetupLine) → CalmState memory s → CalmState memory (with_line s l)
calm_line memory s (SetupLine.Act a t) h = record { bytes = h.bytes; flights = h.flights; contexts = calm_inserted (new_context a) s.contexts (calm_new a) h.contexts; live = h.live }
calm_line memory s (SetupLine.Grant line) h = calm_granted memory s line (form (length s.grants + 1) line (parent_in s.grants (parent_of line))) h
calm_line memory s (SetupLine.Quantum q) h = h
calm_line memory s (SetupLine.Files g) h = h
calm_line memory s (SetupLine.Item a c) h = h
calm_line memory s (SetupLine.AwaitItem a ep) h = h
calm_line memory s (SetupLine.Writer a m r p c n b) h = h
calm_line memory s (SetupLine.Reader a m r c n f) h = h
calm_line memory s (SetupLine.Boxed a k f) h = h

calm_lines : (memory : ℕ) (s : State) (ls : List SetupLine) → CalmState memory s → CalmState memory (with_lines s ls)
calm_lines memory s [] h = h
calm_lines memory s (l ∷ ls) h = calm_lines memory (with_line s l) ls (calm_line memory s l h)

pub calm_opening : (memory : ℕ) (lines : List SetupLine) → CalmState memory (opening memory lines)
calm_opening memory lines = calm_lines memory (opening memory []) lines (record { bytes = refl; flights = refl; contexts = tt; live = λ g x q. absurd (let z = no_grant g in cc) })

-- ---- the five grants

of_send : (gs : List Grant) (g : ℕ) (line : GrantLine) (n to to_ep to_grant label size limit : ℕ) → form g line (parent_in gs (parent_of line)) ≡ Some (Fresh.Send n to to_ep to_grant label size limit) → (above : Grant) × ((grant_in gs to_grant ≡ Some above) × ((holder above.line ≡ to) × ((holder_ep above.line ≡ to_ep) × (parent_of line ≡ Some to_grant))))
of_send gs g (GrantLine.Recv act ep slots sz) n to to_ep to_grant label size limit q = absurd (cc)
of_send gs g (GrantLine.Range act ep at len perm) n to to_ep to_grant label size limit q = absurd (cc)
of_send gs g (GrantLine.Part act ep of at len perm) n to to_ep to_grant label size limit q = by_above (grant_in gs of) q
  where
    by_form : (above : Grant) (f : Fresh) → part_form g at len perm f ≡ Some (Fresh.Send n to to_ep to_grant label size limit) → ⊥
    by_form above (Fresh.Send a b c d l s m) q = absurd (cc)
    by_form above (Fresh.Receive h slots sz) q = absurd (cc)
    by_form above (Fresh.Memory h start length its) q = absurd (cc)

    by_above : (o : Option Grant) → form g (GrantLine.Part act ep of at len perm) o ≡ Some (Fresh.Send n to to_ep to_grant label size limit) → (above : Grant) × ((grant_in gs to_grant ≡ Some above) × ((holder above.line ≡ to) × ((holder_ep above.line ≡ to_ep) × (Some of ≡ Some to_grant))))
    by_above None q = absurd (cc)
    by_above (Some above) q = absurd (by_form above above.fresh q)
of_send gs g (GrantLine.Send act ep of lab credits) n to to_ep to_grant label size limit q = by_above (grant_in gs of) refl q
  where
    by_form : (above : Grant) → grant_in gs of ≡ Some above → (f : Fresh) → send_form g of lab credits above.line f ≡ Some (Fresh.Send n to to_ep to_grant label size limit) → (above : Grant) × ((grant_in gs to_grant ≡ Some above) × ((holder above.line ≡ to) × ((holder_ep above.line ≡ to_ep) × (Some of ≡ Some to_grant))))
    by_form above at (Fresh.Send a b c d l s m) q = absurd (cc)
    by_form above at (Fresh.Memory h start length its) q = absurd (cc)
    by_form above at (Fresh.Receive h slots sz) q =
        let a : holder above.line ≡ to = cc in
        let b : holder_ep above.line ≡ to_ep = cc in
        let c : of ≡ to_grant = cc in
        (above, (subst (λ z. grant_in gs z ≡ Some above) c at, (a, (b, ap Some c))))

    by_above : (o : Option Grant) → grant_in gs of ≡ o → form g (GrantLine.Send act ep of lab credits) o ≡ Some (Fresh.Send n to to_ep to_grant label size limit) → (above : Grant) × ((grant_in gs to_grant ≡ Some above) × ((holder above.line ≡ to) × ((holder_ep above.line ≡ to_ep) × (Some of ≡ Some to_grant))))
    by_above None at q = absurd (cc)
    by_above (Some above) at q = by_form above at above.fresh q

module _ (memory : ℕ) (s : State) (law : Invariant s) (calm : CalmState memory s) where
  undone_all : (g : ℕ) (x : Grant) → grant_in s.grants g ≡ Some x → is_done x.standing ≡ false
  undone_all g x q = ap is_done (calm.live g x q)

  record_held : (a ep : ℕ) (y : Endpoint) (f : Fresh) → endpoint_at s a ep ≡ y → form_of y ≡ Some f → IsHeldAt (grant_in s.grants (number_of f)) a ep f
  record_held a ep y f q u = by_context (context_of a s.contexts) refl (ap form_of q ∙ u)
    where
      by_context : (o : Option Context) → context_of a s.contexts ≡ o → form_of (endpoint_in ep o) ≡ Some f → IsHeldAt (grant_in s.grants (number_of f)) a ep f
      by_context None at v = absurd (cc)
      by_context (Some c) at v = subst (FormLawful s.grants a ep) v (law.lawful.placed.records a c at ep)

  record_alone : (a ep : ℕ) (y : Endpoint) (f : Fresh) → endpoint_at s a ep ≡ y → form_of y ≡ Some f → Alone s.grants a ep f
  record_alone a ep y f q u = record { held = held; only = λ g x v b c. only g x v b c (grant_in s.grants (number_of f)) refl held }
    where
      held : IsHeldAt (grant_in s.grants (number_of f)) a ep f
      held = record_held a ep y f q u

      only : (g : ℕ) (x : Grant) → grant_in s.grants g ≡ Some x → holder x.line ≡ a → holder_ep x.line ≡ ep → (o : Option Grant) → grant_in s.grants (number_of f) ≡ o → IsHeldAt o a ep f → g ≡ number_of f
      only g x v b c None at k = absurd k
      only g x v b c (Some z) at k = law.lawful.placed.slots g (number_of f) x z v at (undone_all g x v) (undone_all (number_of f) z at) (b ∙ sym k.act) (c ∙ sym k.ep)

  -- the writer's send grant leads to the reader's inbox
  leads : (a ep b i : ℕ) (r : SendRecord) (q : ReceiveRecord) → endpoint_at s a ep ≡ Sends r → endpoint_at s b i ≡ Receives q → r.to_grant ≡ q.grant → (r.to ≡ b) × ((r.to_ep ≡ i) × (parent_at (grant_in s.grants r.grant) ≡ Some q.grant))
  leads a ep b i r q at there to = by_grant (grant_in s.grants r.grant) refl (record_held a ep (Sends r) (Fresh.Send r.grant r.to r.to_ep r.to_grant r.label r.size r.limit) at refl)
    where
      inbox : IsHeldAt (grant_in s.grants q.grant) b i (Fresh.Receive q.grant q.slots q.size)
      inbox = record_held b i (Receives q) (Fresh.Receive q.grant q.slots q.size) there refl

      by_above : (above : Grant) → grant_in s.grants q.grant ≡ Some above → (holder above.line ≡ b) × (holder_ep above.line ≡ i)
      by_above above v = let k : IsHeldAt (Some above) b i (Fresh.Receive q.grant q.slots q.size) = subst (λ z. IsHeldAt z b i (Fresh.Receive q.grant q.slots q.size)) v inbox in (k.act, k.ep)

      by_grant : (o : Option Grant) → grant_in s.grants r.grant ≡ o → IsHeldAt o a ep (Fresh.Send r.grant r.to r.to_ep r.to_grant r.label r.size r.limit) → (r.to ≡ b) × ((r.to_ep ≡ i) × (parent_at o ≡ Some q.grant))
      by_grant None v k = absurd k
      by_grant (Some x) v k =
          let form_is = (law.lawful.placed.grants r.grant x v).fresh ∙ ap Some k.fresh in
          let z = of_send s.grants r.grant x.line r.grant r.to r.to_ep r.to_grant r.label r.size r.limit form_is in
          let w = by_above z.0 (subst (λ u. grant_in s.grants u ≡ Some z.0) to z.1.0) in
          (sym z.1.1.0 ∙ w.0, (sym z.1.1.1.0 ∙ w.1, z.1.1.1.1 ∙ ap Some to))

  queue_apart : (e : Sides) (y : Endpoint) → NoQueue (queue_of y) → QueueApart e y
  queue_apart e Free h = tt
  queue_apart e (Sends r) h = tt
  queue_apart e (Reaches r) h = tt
  queue_apart e (Receives r) h = (subst (AllApart e) (sym h.0) tt, subst (FetchedApart e) (sym h.1) tt)

  idle_all : (a : ℕ) → flying_of a s ≡ []
  idle_all a = by_context (context_of a s.contexts) refl
    where
      by_context : (o : Option Context) → context_of a s.contexts ≡ o → flying_in o ≡ []
      by_context None at = refl
      by_context (Some c) at = (calm_found a c s.contexts calm.contexts at).flying

  empty_at : (a ep : ℕ) → NoQueue (queue_of (endpoint_at s a ep))
  empty_at a ep = by_context (context_of a s.contexts) refl
    where
      by_context : (o : Option Context) → context_of a s.contexts ≡ o → NoQueue (queue_of (endpoint_in ep o))
      by_context None at = tt
      by_context (Some c) at = (calm_found a c s.contexts calm.contexts at).queues ep

no_replies : (o : Option Queue) → NoQueue o → RepliesOk writer_start 0 false o
no_replies None h = tt
no_replies (Some q) h = let a = ap length h.0 in let b = ap length h.1 in omega (arith, a, b)

no_notices : (e : Sides) (o : Option Queue) → NoQueue o → InboxOk e (record reader_start { task = Waits }) 0 false o
no_notices e None h = tt
no_notices e (Some q) h = λ on. record { notices = subst (AreNotices e 0) (sym h.0) tt; count = (let a = ap length h.0 in omega (arith, a)); hand = h.1 }

pub opening_stays : OpeningHasPipe
opening_stays setup steps w r writer reader valid p = record { marks = marks; joined = joined; around = around }
  where
    s : State
    s = opening setup.memory setup.lines

    e : Sides
    e = sides_of p

    law : Invariant s
    law = invariant_opening setup valid

    calm : CalmState setup.memory s
    calm = calm_opening setup.memory setup.lines

    marks : Marks
    marks = record { l = empty_line s.memory; over = false; shut = false; put = 0; took = 0 }

    lead : (p.notices.to ≡ r) × ((p.notices.to_ep ≡ reader.recv) × (parent_at (grant_in s.grants p.notices.grant) ≡ Some p.inbox.grant))
    lead = leads setup.memory s law calm w writer.send r reader.recv p.notices p.inbox p.notices_at p.inbox_at p.target

    length_is : length s.memory ≡ setup.memory
    length_is = ap length calm.bytes ∙ length-replicate setup.memory 0

    notice_form : Fresh.Send p.notices.grant p.notices.to p.notices.to_ep p.notices.to_grant p.notices.label p.notices.size p.notices.limit ≡ Fresh.Send p.notices.grant r reader.recv p.inbox.grant p.notices.label p.notices.size p.notices.limit
    notice_form = rw (lead.0, lead.1.0, p.target) refl

    grants : GrantsApart e s.grants
    grants = record {
      out = record_alone setup.memory s law calm w writer.mem (Reaches p.out) (Fresh.Memory p.out.grant p.out.start p.out.length p.out.perm) p.out_at refl;
      into = record_alone setup.memory s law calm r reader.mem (Reaches p.into) (Fresh.Memory p.into.grant p.into.start p.into.length p.into.perm) p.into_at refl;
      notices = subst (Alone s.grants w writer.send) notice_form (record_alone setup.memory s law calm w writer.send (Sends p.notices) (Fresh.Send p.notices.grant p.notices.to p.notices.to_ep p.notices.to_grant p.notices.label p.notices.size p.notices.limit) p.notices_at refl);
      inbox = record_alone setup.memory s law calm r reader.recv (Receives p.inbox) (Fresh.Receive p.inbox.grant p.inbox.slots p.inbox.size) p.inbox_at refl;
      replies = record_alone setup.memory s law calm w writer.reply (Receives p.replies) (Fresh.Receive p.replies.grant p.replies.slots p.replies.size) p.replies_at refl;
      child = lead.1.1;
      only_child = p.only_child;
      no_child = p.no_child;
    }

    around : Isolation e s
    around = record {
      grants = grants;
      packets = λ id k q. absurd (let z = calm.flights in let y : flight id [] ≡ Some k = subst (λ fs. flight id fs ≡ Some k) z q in cc);
      queues = λ a c at ep. queue_apart setup.memory s law calm e (endpoint c ep) ((calm_found a c s.contexts calm.contexts at).queues ep);
    }

    joined : PipeAt e s (writer_player writer) (reader_player reader) [] [] [] marks
    joined = record {
      ring = record {
        ring = record { inside = (let a = p.inside in omega (arith, a, length_is)); back_most = omega arith; replied_most = omega arith; read_most = omega arith; noticed_most = omega arith; window = omega arith; content = λ i a b. absurd (omega arith); got = refl };
        memory = refl;
        real = λ i a. absurd (omega arith);
        last_notice = λ z. absurd (cc);
        last_reply = λ z. absurd (cc);
        put_least = omega arith;
        put_most = omega arith;
        took_most = omega arith;
        puts = refl;
        takes = refl;
      };
      writer = chooses_at e s writer_start [] 0 0 0 0 0 false false (idle_all setup.memory s law calm w) (record { back = λ z. refl; few = λ z. omega arith; replies = no_replies (queue_of (endpoint_at s w writer.reply)) (empty_at setup.memory s law calm w writer.reply) }) (record { written = refl; noticed = refl; put = refl; over = refl });
      reader = record {
        by = (idle_all setup.memory s law calm r, (refl, record { read = refl; replied = refl; took = refl; more = refl }));
        due = tt;
        inbox = no_notices e (queue_of (endpoint_at s r reader.recv)) (empty_at setup.memory s law calm r reader.recv);
        taken = refl;
      };
    }
