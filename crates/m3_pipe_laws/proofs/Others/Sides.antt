-- Steps of others keep the writer's and the reader's side; so do orders.
use Rattle.std.proofs.Common.{◌≡◌, ◌≢◌, ℕ, ◌+◌, ◌*◌, ◌<◌, Bool, true, false, List, [], length, Some, None, refl, sym, subst, ◌∙◌, ap, arith, inl, inr}
use Rattle.std.specs.Prelude.{Option, if◌then◌else◌, ◌&&◌, ◌⊎◌, not}
use Rattle.std.proofs.lemmas.Bool.Decides.{nat_tests}
use Rattle.m3_base.specs.declared.packet.Packet.{Packet}
use Rattle.m3_base.specs.declared.packet.Fresh.{Fresh}
use Rattle.m3_base.specs.declared.command.Command.{Command}
use Rattle.m3_base.specs.declared.order.GrantLine.{GrantLine}
use Rattle.m3_base.specs.declared.event.No.{No}
use Rattle.m3_base.specs.declared.program.Move.{Move}
use Rattle.m3_base.specs.Ideal.Flights.{kernel, same_name, name_of, new_flight, flight_name}
use Rattle.m3_base.specs.Ideal.Context.{Sending, Replying, Reading, Writing, Free, Context, endpoint, with_endpoint}
use Rattle.m3_base.specs.Ideal.Issue.{Issued, issue}
use Rattle.m3_base.specs.Ideal.Landing.{has_closing, flies_at, written_at}
use Rattle.m3_base.specs.Ideal.State.{State, Grant, context_of, put_context, holder, holder_ep, parent_of, parent_in, undone}
use Rattle.m3_base.specs.Ideal.GrantRules.{kernel_id, form, make_refusal, may_close, close_sent, change_grant, is_closed_grant, to_done}
use Rattle.m3_base.specs.Ideal.Step.{IdealResult, step_to, with_packet, make_in, make_for, revoke_in, send_close_in, closed_in, free_in, done_in, Sends_close, Frees, Finishes}
use Rattle.m3_laws.specs.Invariant.{Invariant}
use Rattle.m3_laws.proofs.invariant.step.IssueEffects.{NewPacket, issue_effect}
use Rattle.m3_laws.proofs.invariant.records.ClosingRecords.{to_closed}
use Rattle.m3_pipe_laws.specs.Protocol.{WriterState, WriterPhase, Begins, Writes, Sends, Awaits, Fetches, Acknowledges, Over, ReaderState, ReaderPhase, Starts, Waits, Looks, Reads, Replies, Closes, Finished}
use Rattle.m3_pipe_laws.specs.Pipe.{Player, Disjoint, endpoint_at}
use Rattle.m3_pipe_laws.proofs.Invariant.Sides.{Sides}
use Rattle.m3_pipe_laws.proofs.Invariant.Flights.{lone_flying, flying_in, Queue, queue_of}
use Rattle.m3_pipe_laws.proofs.Invariant.WriterSide.{WriterBy, WriterFlies, WriterSide, RepliesOk}
use Rattle.m3_pipe_laws.proofs.Invariant.ReaderSide.{ReaderBy, ReaderFlies, ReaderSide, InboxOk}
use Rattle.m3_pipe_laws.proofs.Invariant.WholePipe.{RingSide, Marks}
use Rattle.m3_pipe_laws.proofs.Others.Frames.{SameFlight, Steady, Side, side_put, side_same, NotOwn, not_issuer, same_new, same_none, kept_set, flown_stays}
use Rattle.m3_pipe_laws.proofs.Ring.Delivery.{other_write}
use Rattle.m3_base.proofs.Activities.{act_found}

-- ---- the two sides over a step that leaves them

pub writer_flies : (e : Sides) (s n : State) (p : WriterState) (w m k : ℕ) (over : Bool) (last : List ℕ) (d : WriterPhase) → Steady e.w s n → WriterFlies e s p w m k over last d → WriterFlies e n p w m k over last d
writer_flies e s n p w m k over last Begins side h = absurd h
writer_flies e s n p w m k over last Writes side h = flown_stays e.w s n Writing e.writer.mem 0 _ side h
writer_flies e s n p w m k over last Sends side h = flown_stays e.w s n Sending e.writer.send 0 _ side h
writer_flies e s n p w m k over last Awaits side h = absurd h
writer_flies e s n p w m k over last Fetches side h = absurd h
writer_flies e s n p w m k over last Acknowledges side h = absurd h
writer_flies e s n p w m k over last Over side h = absurd h

pub writer_by : (e : Sides) (s n : State) (p : WriterState) (w m k : ℕ) (over : Bool) (last : List ℕ) (wants : Option Move) → Steady e.w s n → WriterBy e s p w m k over last wants → WriterBy e n p w m k over last wants
writer_by e s n p w m k over last None side h = writer_flies e s n p w m k over last p.doing side h
writer_by e s n p w m k over last (Some v) side h = (side.flying ∙ h.0, h.1)

pub replies_kept : (p : WriterState) (d : ℕ) (shut : Bool) (x y : Option Queue) → (y ≡ x) ⊎ (y ≡ None) → RepliesOk p d shut x → RepliesOk p d shut y
replies_kept p d shut x y (inl q) h = subst (RepliesOk p d shut) (sym q) h
replies_kept p d shut x y (inr q) h = subst (RepliesOk p d shut) (sym q) tt

pub writer_stays : (e : Sides) (s n : State) (p : Player WriterState) (last : List ℕ) (w m k b d : ℕ) (over shut : Bool) → Side e.w e.writer.reply s n → WriterSide e s p last w m k b d over shut → WriterSide e n p last w m k b d over shut
writer_stays e s n p last w m k b d over shut side h = record {
  by = writer_by e s n p.at w m k over last p.wants side.steady h.by;
  back = h.back;
  few = h.few;
  replies = replies_kept p.at d shut (queue_of (endpoint_at s e.w e.writer.reply)) (queue_of (endpoint_at n e.w e.writer.reply)) side.queue h.replies;
}

pub reader_flies : (e : Sides) (s n : State) (p : ReaderState) (d c t : ℕ) (shut : Bool) (task : ReaderPhase) → Steady e.r s n → ReaderFlies e s p d c t shut task → ReaderFlies e n p d c t shut task
reader_flies e s n p d c t shut Starts side h = absurd h
reader_flies e s n p d c t shut Waits side h = absurd h
reader_flies e s n p d c t shut Looks side h = absurd h
reader_flies e s n p d c t shut Reads side h = flown_stays e.r s n Reading e.reader.mem 0 _ side h
reader_flies e s n p d c t shut Replies side h = flown_stays e.r s n Replying e.reader.recv p.token _ side h
reader_flies e s n p d c t shut Closes side h = flown_stays e.r s n Replying e.reader.recv p.token _ side h
reader_flies e s n p d c t shut Finished side h = absurd h

pub reader_by : (e : Sides) (s n : State) (p : ReaderState) (d c t : ℕ) (shut : Bool) (wants : Option Move) → Steady e.r s n → ReaderBy e s p d c t shut wants → ReaderBy e n p d c t shut wants
reader_by e s n p d c t shut None side h = reader_flies e s n p d c t shut p.task side h
reader_by e s n p d c t shut (Some v) side h = (side.flying ∙ h.0, h.1)

inbox_kept : (e : Sides) (p : ReaderState) (n : ℕ) (over : Bool) (x y : Option Queue) → (y ≡ x) ⊎ (y ≡ None) → InboxOk e p n over x → InboxOk e p n over y
inbox_kept e p n over x y (inl q) h = subst (InboxOk e p n over) (sym q) h
inbox_kept e p n over x y (inr q) h = subst (InboxOk e p n over) (sym q) tt

pub reader_stays : (e : Sides) (s n : State) (p : Player ReaderState) (takes : List ℕ) (m d c t : ℕ) (over shut : Bool) → Side e.r e.reader.recv s n → ReaderSide e s p takes m d c t over shut → ReaderSide e n p takes m d c t over shut
reader_stays e s n p takes m d c t over shut side h = record {
  by = reader_by e s n p.at d c t shut p.wants side.steady h.by;
  due = h.due;
  inbox = inbox_kept e p.at m over (queue_of (endpoint_at s e.r e.reader.recv)) (queue_of (endpoint_at n e.r e.reader.recv)) side.queue h.inbox;
  taken = h.taken;
}

-- ---- the ring over a write elsewhere

pub ring_elsewhere : (e : Sides) (bytes puts takes : List ℕ) (x : Marks) (place : ℕ) (payload : List ℕ) → Disjoint e.out.start (e.writer.ring * e.writer.chunk) place (length payload) → RingSide e bytes puts takes x → RingSide e (written_at place payload bytes) puts takes (record x { l = record x.l { memory = written_at place payload x.l.memory } })
ring_elsewhere e bytes puts takes x place payload away h = record {
  ring = other_write e.writer e.out.start x.l h.ring place payload away;
  memory = ap (written_at place payload) h.memory;
  real = h.real;
  last_notice = h.last_notice;
  last_reply = h.last_reply;
  put_least = h.put_least;
  put_most = h.put_most;
  took_most = h.took_most;
  puts = h.puts;
  takes = h.takes;
}

-- ---- commands of others

module _ (s : State) (law : Invariant s) where
  pub issue_side : (a ep b : ℕ) (c : Context) (k : Command) (i : Issued) → a ≢ b → context_of b s.contexts ≡ Some c → issue c k ≡ Some i → Side a ep s (record s { contexts = put_context i.context s.contexts; flights = with_packet i.packet s.flights })
  issue_side a ep b c k i ne at e =
      let ctx = law.lawful.traffic.contexts b c at in
      let writer_reaction = issue_effect c k i e (ctx.fresh c.next (omega arith)) in
      let act : b ≡ i.context.act = act_found b c s.contexts at ∙ sym writer_reaction.act in
      side_put a ep s _ c i.context refl (subst (λ z. context_of z s.contexts ≡ Some c) act at) (λ q. absurd (ne (q ∙ sym act))) (by_packet i.packet writer_reaction.packet)
    where
      by_packet : (mp : Option Packet) → NewPacket c i.context mp → SameFlight a s (with_packet mp s.flights)
      by_packet None h = same_none a s
      by_packet (Some p) h = same_new a s p (not_issuer a s (name_of p) (λ q. ne (q ∙ (ap (λ z. z.issuer) h.0 ∙ sym (act_found b c s.contexts at)))))

  -- ---- orders

  not_kernel : (a n : ℕ) → NotOwn a s (record { issuer = kernel; number = n })
  not_kernel a n k kind ep token e = by_context (context_of a s.contexts) refl
    where
      by_context : (o : Option Context) → context_of a s.contexts ≡ o → same_name (flight_name a k) (record { issuer = kernel; number = n }) ≡ false
      by_context None at = let q : [] ≡ lone_flying k kind ep token = ap flying_in (sym at) ∙ e in absurd (cc)
      by_context (Some c) at =
          let below : c.act < kernel = (law.lawful.traffic.contexts a c at).act in
          let act : a ≡ c.act = act_found a c s.contexts at in
          grind (arith, nat_tests, below, act)

  -- the state after an order, by its contexts and flights
  pub record Ordered (n : State) : Type 0 where
    pub memory : n.memory ≡ s.memory
    pub side : (a ep : ℕ) → Side a ep s n

  abbrev pub AllOrdered : Option IdealResult → Type 0
  AllOrdered None = Unit {0}
  AllOrdered (Some n) = Ordered n.state

  nothing : Ordered s
  nothing = record { memory = refl; side = λ a ep. side_same a ep s s refl (same_none a s) }

  new_grants : (gs : List Grant) → Ordered (record s { grants = gs })
  new_grants gs = record { memory = refl; side = λ a ep. side_same a ep s (record s { grants = gs }) refl (same_none a s) }

  sent_order : (gs : List Grant) (p : Packet) → name_of p ≡ kernel_id s → Ordered (record s { flights = new_flight p s.flights; kernel_next = s.kernel_next + 1; grants = gs })
  sent_order gs p q = record { memory = refl; side = λ a ep. side_same a ep s (record s { flights = new_flight p s.flights; kernel_next = s.kernel_next + 1; grants = gs }) refl (same_new a s p (subst (NotOwn a s) (sym q) (not_kernel a s.kernel_next))) }

  make_ordered : (line : GrantLine) (w : Option No) (f : Option Fresh) → AllOrdered (make_in s line w f)
  make_ordered line (Some why) f = nothing
  make_ordered line None None = tt
  make_ordered line None (Some f) = sent_order _ (Packet.Install (kernel_id s) (holder line) (holder_ep line) f) refl

  pub make_for_ordered : (line : GrantLine) (o : Option Context) → AllOrdered (make_for s line o)
  make_for_ordered line None = tt
  make_for_ordered line (Some x) = make_ordered line (make_refusal (length s.memory) s.grants line) (form (length s.grants + 1) line (undone (parent_in s.grants (parent_of line))))

  pub revoke_ordered : (g : ℕ) (w : Option No) → AllOrdered (revoke_in s g w)
  revoke_ordered g (Some why) = nothing
  revoke_ordered g None = new_grants _

  pub close_ordered : (g : ℕ) (o : Option Grant) → AllOrdered (send_close_in s g o)
  close_ordered g None = tt
  close_ordered g (Some x) = by_test (may_close s.grants g (Some x))
    where
      by_test : (b : Bool) → AllOrdered (if b then step_to (Sends_close g (kernel_id s)) (close_sent s g x) else None)
      by_test true = sent_order _ (Packet.Close (kernel_id s) (holder x.line) (holder_ep x.line) g) refl
      by_test false = tt

  free_ordered : (g a ep : ℕ) (o : Option Context) → context_of a s.contexts ≡ o → AllOrdered (free_in s g ep o)
  free_ordered g a ep None at = tt
  free_ordered g a ep (Some c) at = by_test (has_closing g (endpoint c ep) && not (flies_at ep c))
    where
      by_test : (b : Bool) → AllOrdered (if b then step_to (Frees g) (record s { contexts = put_context (with_endpoint c ep Free) s.contexts; grants = change_grant s.grants g to_closed }) else None)
      by_test true = record {
        memory = refl;
        side = λ i j. side_put i j s (record s { contexts = put_context (with_endpoint c ep Free) s.contexts; grants = change_grant s.grants g to_closed }) c (with_endpoint c ep Free) refl (subst (λ z. context_of z s.contexts ≡ Some c) (act_found a c s.contexts at) at) (λ q. (refl, kept_set c.endpoints ep j Free (λ u. inr refl))) (same_none i s);
      }
      by_test false = tt

  pub closed_ordered : (g : ℕ) (o : Option Grant) → AllOrdered (closed_in s g o)
  closed_ordered g None = tt
  closed_ordered g (Some x) = free_ordered g (holder x.line) (holder_ep x.line) (context_of (holder x.line) s.contexts) refl

  pub done_ordered : (g : ℕ) (o : Option Grant) → AllOrdered (done_in s g o)
  done_ordered g None = tt
  done_ordered g (Some x) = by_test (is_closed_grant x.standing)
    where
      by_test : (b : Bool) → AllOrdered (if b then step_to (Finishes g x.is_root) (record s { grants = change_grant s.grants g to_done }) else None)
      by_test true = new_grants _
      by_test false = tt
