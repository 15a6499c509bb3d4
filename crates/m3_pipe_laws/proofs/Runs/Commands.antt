-- Commands and awaits of the writer, of the reader and of others keep the sides of a pipe.
use Rattle.std.proofs.Common.{◌≡◌, ℕ, ◌+◌, ◌<◌, Bool, true, false, List, [], ◌++◌, length, Some, None, refl, sym, subst, ◌∙◌, ap, arith, inl, inr}
use Rattle.std.specs.Prelude.{Option, if◌then◌else◌}
use Rattle.std.proofs.lemmas.List.{append-nil}
use Rattle.m3_base.specs.declared.command.Command.{Command}
use Rattle.m3_base.specs.declared.program.Move.{Move}
use Rattle.m3_base.specs.declared.step.Step.{Step}
use Rattle.m3_base.specs.Lists.Counting.{one}
use Rattle.m3_base.specs.Ideal.Context.{Sending, Replying, Reading, Writing, Context, endpoint}
use Rattle.m3_base.specs.Ideal.Issue.{Issued, issue, is_busy, send, reply, fetch, acknowledge, read, write}
use Rattle.m3_base.specs.Ideal.State.{State, context_of, put_context}
use Rattle.m3_base.specs.Ideal.Step.{IdealResult, with_packet, after_issue}
use Rattle.m3_base.specs.Ideal.MessageTraces.{state_after_steps}
use Rattle.m3_laws.specs.Invariant.{Invariant}
use Rattle.m3_pipe_laws.specs.Protocol.{WriterState, WriterPhase, Begins, Writes, Sends, Awaits, Fetches, Acknowledges, Over, writer_step, ReaderState, ReaderPhase, Starts, Waits, Looks, Reads, Replies, Closes, Finished, reader_step, notice, slot}
use Rattle.m3_base.specs.FourBytes.{four_bytes}
use Rattle.m3_pipe_laws.specs.Pipe.{Player, player_after, written_bytes_at, read_bytes_at, last_bytes, write_payload, player_at_issue}
use Rattle.m3_pipe_laws.proofs.Invariant.Sides.{Sides, SidesOk, piece_of}
use Rattle.m3_pipe_laws.proofs.Invariant.Isolation.{Isolation}
use Rattle.m3_pipe_laws.proofs.Invariant.Flights.{flying_in}
use Rattle.m3_pipe_laws.proofs.Invariant.WriterSide.{AtRest, WriterWants, WriterFlies, WriterBy, WriterSide}
use Rattle.m3_pipe_laws.proofs.Invariant.ReaderSide.{ReaderWants, ReplyFlies, EndFlies, ReaderFlies, ReaderBy, ReaderSide, is_open_phase, holds_notice}
use Rattle.m3_pipe_laws.proofs.Invariant.WholePipe.{RingSide, Marks, PipeAt}
use Rattle.m3_pipe_laws.proofs.Others.Frames.{Side}
use Rattle.m3_pipe_laws.proofs.Others.Landings.{Lone}
use Rattle.m3_pipe_laws.proofs.Others.Sides.{writer_stays, reader_stays, issue_side}
use Rattle.m3_pipe_laws.proofs.Ring.Delivery.{comes_back}
use Rattle.m3_pipe_laws.proofs.Writer.Commands as writing
use Rattle.m3_pipe_laws.proofs.Writer.Commands.{WriterHas, Acked, Not_acked, Is_acked}
use Rattle.m3_pipe_laws.proofs.Reader.Commands as reading
use Rattle.m3_pipe_laws.proofs.Writer.Landings.{Joins}

-- ---- what a step makes of the joined sides

abbrev pub Goal : Sides → State → Player WriterState → Player ReaderState → List ℕ → List ℕ → List ℕ → Step → Option IdealResult → Type 0
Goal e s pw pr last puts takes t o =
    Joins e (state_after_steps s o) (player_after (writer_step e.writer) e.w pw t o) (player_after (reader_step e.reader) e.r pr t o) (last_bytes e.w last t) (puts ++ written_bytes_at e.w last t o) (takes ++ read_bytes_at e.r t o)

pub no_more : (e : Sides) (n : State) (pw : Player WriterState) (pr : Player ReaderState) (last puts takes : List ℕ) → Joins e n pw pr last puts takes → Joins e n pw pr last (puts ++ []) (takes ++ [])
no_more e n pw pr last puts takes h = subst (λ z. Joins e n pw pr last z (takes ++ [])) (sym (append-nil puts)) (subst (λ z. Joins e n pw pr last puts z) (sym (append-nil takes)) h)

pub join_sides : (e : Sides) (s n : State) (pw : Player WriterState) (pr : Player ReaderState) (last puts takes : List ℕ) (x : Marks) → Side e.w e.writer.reply s n → Side e.r e.reader.recv s n → n.memory ≡ s.memory → PipeAt e s pw pr last puts takes x → Joins e n pw pr last puts takes
join_sides e s n pw pr last puts takes x side_w side_r same h = record {
  marks = x;
  joined = record {
    ring = subst (λ z. RingSide e z puts takes x) (sym same) h.ring;
    writer = writer_stays e s n pw last x.l.written x.l.noticed x.put x.l.back x.l.replied x.over x.shut side_w h.writer;
    reader = reader_stays e s n pr takes x.l.noticed x.l.read x.l.replied x.took x.over x.shut side_r h.reader;
  };
}

-- ---- what flies

pub lone_writer : (e : Sides) (s : State) (p : WriterState) (w v k : ℕ) (over : Bool) (last : List ℕ) (wants : Option Move) → WriterBy e s p w v k over last wants → Lone e.w s
lone_writer e s p w v k over last (Some m) h = inl h.0
lone_writer e s p w v k over last None h = by_doing p.doing h
  where
    by_doing : (d : WriterPhase) → WriterFlies e s p w v k over last d → Lone e.w s
    by_doing Begins h = absurd h
    by_doing Writes h = inr (h.number, (Writing, (e.writer.mem, (0, h.flying))))
    by_doing Sends h = inr (h.number, (Sending, (e.writer.send, (0, h.flying))))
    by_doing Awaits h = absurd h
    by_doing Fetches h = absurd h
    by_doing Acknowledges h = absurd h
    by_doing Over h = absurd h

pub lone_reader : (e : Sides) (s : State) (p : ReaderState) (d c t : ℕ) (shut : Bool) (wants : Option Move) → ReaderBy e s p d c t shut wants → Lone e.r s
lone_reader e s p d c t shut (Some m) h = inl h.0
lone_reader e s p d c t shut None h = by_task p.task h
  where
    by_task : (z : ReaderPhase) → ReaderFlies e s p d c t shut z → Lone e.r s
    by_task Starts h = absurd h
    by_task Waits h = absurd h
    by_task Looks h = absurd h
    by_task Reads h = inr (h.number, (Reading, (e.reader.mem, (0, h.flying))))
    by_task Replies h = inr (h.number, (Replying, (e.reader.recv, (p.token, h.flying))))
    by_task Closes h = inr (h.number, (Replying, (e.reader.recv, (p.token, h.flying))))
    by_task Finished h = absurd h

-- ---- what the writer wants

pub do_is : (m : Move) (a b : Command) → m ≡ Move.Do a → m ≡ Move.Do b → a ≡ b
do_is m a b h k = let q : Move.Do a ≡ Move.Do b = sym h ∙ k in cc

pub do_await : (m : Move) (a : Command) (ep : ℕ) → m ≡ Move.Do a → m ≡ Move.Await ep → ⊥
do_await m a ep h k = let q : Move.Do a ≡ Move.Await ep = sym h ∙ k in absurd (cc)

pub do_ended : (m : Move) (a : Command) → m ≡ Move.Do a → m ≡ Move.Ended → ⊥
do_ended m a h k = let q : Move.Do a ≡ Move.Ended = sym h ∙ k in absurd (cc)

pub await_ended : (m : Move) (ep : ℕ) → m ≡ Move.Await ep → m ≡ Move.Ended → ⊥
await_ended m ep h k = let q : Move.Await ep ≡ Move.Ended = sym h ∙ k in absurd (cc)

abbrev pub AllJoins : Sides → State → WriterState → Player ReaderState → List ℕ → List ℕ → List ℕ → Option Issued → Type 0
AllJoins e s p pr last puts takes None = Unit {0}
AllJoins e s p pr last puts takes (Some i) = Joins e (record s { contexts = put_context i.context s.contexts; flights = with_packet i.packet s.flights }) (player_at_issue (writer_step e.writer) e.w p i.told) pr last puts takes

module _ (e : Sides) (s : State) (ok : SidesOk e) (law : Invariant s) (around : Isolation e s) (p : WriterState) (m : Move) (pr : Player ReaderState) (last puts takes : List ℕ) (x : Marks) (h : PipeAt e s (record { at = p; wants = Some m }) pr last puts takes x) (lone_w : Lone e.w s) (lone_r : Lone e.r s) (c : Context) (at : context_of e.w s.contexts ≡ Some c) where
  idle : c.flying ≡ []
  idle = ap flying_in (sym at) ∙ h.writer.by.0

  has : WriterHas e s p x.l.back x.l.replied x.shut
  has = record { back = h.writer.back; few = h.writer.few; replies = h.writer.replies }

  reader_now : (k : Command) (i : Issued) → issue c k ≡ Some i → ReaderSide e (after_issue s i) pr takes x.l.noticed x.l.read x.l.replied x.took x.over x.shut
  reader_now k i q = reader_stays e s (after_issue s i) pr takes x.l.noticed x.l.read x.l.replied x.took x.over x.shut (issue_side s law e.r e.reader.recv e.w c k i (λ z. ok.apart (sym z)) at q) h.reader

  busy_or_not : (k : Command) (last' : List ℕ) (i : Issued) → issue c k ≡ (if is_busy c then None else Some i) → (issue c k ≡ Some i → Joins e (after_issue s i) (player_at_issue (writer_step e.writer) e.w p i.told) pr last' puts takes) → AllJoins e s p pr last' puts takes (issue c k)
  busy_or_not k last' i q rest = by_busy (is_busy c) q
    where
      by_busy : (b : Bool) → issue c k ≡ (if b then None else Some i) → AllJoins e s p pr last' puts takes (issue c k)
      by_busy true q = subst (AllJoins e s p pr last' puts takes) (sym q) tt
      by_busy false q = subst (AllJoins e s p pr last' puts takes) (sym q) (rest q)

  same_marks : (k : Command) (last' : List ℕ) (i : Issued) → WriterSide e (after_issue s i) (player_at_issue (writer_step e.writer) e.w p i.told) last' x.l.written x.l.noticed x.put x.l.back x.l.replied x.over x.shut → issue c k ≡ Some i → Joins e (after_issue s i) (player_at_issue (writer_step e.writer) e.w p i.told) pr last' puts takes
  same_marks k last' i side q = record { marks = x; joined = record { ring = h.ring; writer = side; reader = reader_now k i q } }

  -- a reply more is back
  one_back_more : (token : ℕ) (i : Issued) → AtRest p x.l.written x.l.noticed x.put x.over → p.back < x.l.replied + one x.shut → WriterSide e (after_issue s i) (player_at_issue (writer_step e.writer) e.w p i.told) [] x.l.written x.l.noticed x.put (if p.ended then x.l.back else x.l.back + 1) x.l.replied x.over x.shut → issue c (Command.Acknowledge e.writer.reply token) ≡ Some i → Joins e (after_issue s i) (player_at_issue (writer_step e.writer) e.w p i.told) pr [] puts takes
  one_back_more token i rest some side q = by_ended p.ended refl side
    where
      not_shut : (b : Bool) → x.shut ≡ b → x.over ≡ false → b ≡ false
      not_shut false w o = refl
      not_shut true w o = let z = h.ring.last_reply w in absurd (let y : true ≡ false = sym z ∙ o in cc)

      by_ended : (b : Bool) → p.ended ≡ b → WriterSide e (after_issue s i) (player_at_issue (writer_step e.writer) e.w p i.told) [] x.l.written x.l.noticed x.put (if b then x.l.back else x.l.back + 1) x.l.replied x.over x.shut → Joins e (after_issue s i) (player_at_issue (writer_step e.writer) e.w p i.told) pr [] puts takes
      by_ended true w side = same_marks (Command.Acknowledge e.writer.reply token) [] i side q
      by_ended false w side =
          let open_end = ap one (not_shut x.shut refl (rest.over ∙ w)) in
          let b = h.writer.back w in
          let below : x.l.back < x.l.replied = omega (arith, some, open_end, b) in
          record {
            marks = record x { l = record x.l { back = x.l.back + 1 } };
            joined = record {
              ring = record { ring = comes_back e.writer e.out.start x.l h.ring.ring below; memory = h.ring.memory; real = h.ring.real; last_notice = h.ring.last_notice; last_reply = h.ring.last_reply; put_least = h.ring.put_least; put_most = h.ring.put_most; took_most = h.ring.took_most; puts = h.ring.puts; takes = h.ring.takes };
              writer = side;
              reader = reader_now (Command.Acknowledge e.writer.reply token) i q;
            };
          }

  ack_now : (token : ℕ) (doing : p.doing ≡ Acknowledges) (rest : AtRest p x.l.written x.l.noticed x.put x.over) (i : Issued) → Acked e s law around lone_w lone_r p c at idle x.l.written x.l.noticed x.put x.l.back x.l.replied x.over x.shut has [] doing rest i → issue c (Command.Acknowledge e.writer.reply token) ≡ Some i → Joins e (after_issue s i) (player_at_issue (writer_step e.writer) e.w p i.told) pr [] puts takes
  ack_now token doing rest i (Not_acked side) q = same_marks (Command.Acknowledge e.writer.reply token) [] i side q
  ack_now token doing rest i (Is_acked some side) q = one_back_more token i rest some side q

  pub writer_issues : (k : Command) → m ≡ Move.Do k → AllJoins e s p pr (write_payload k) puts takes (issue c k)
  writer_issues k mk = by_doing p.doing refl h.writer.by.1
    where
      by_doing : (d : WriterPhase) → p.doing ≡ d → WriterWants e p x.l.written x.l.noticed x.put x.over m d → AllJoins e s p pr (write_payload k) puts takes (issue c k)
      by_doing Begins q y = absurd y
      by_doing Awaits q y = absurd (do_await m k e.writer.reply mk y.0)
      by_doing Over q y = absurd (do_ended m k mk y)
      by_doing Writes q y =
          let key : Command.Write e.writer.mem (slot e.writer.ring e.writer.chunk p.sent) (piece_of e p.sent) ≡ k = do_is m _ k y.0 mk in
          let i = write c e.writer.mem (slot e.writer.ring e.writer.chunk p.sent) (piece_of e p.sent) (endpoint c e.writer.mem) in
          subst (λ z. AllJoins e s p pr (write_payload z) puts takes (issue c z)) key (busy_or_not (Command.Write e.writer.mem (slot e.writer.ring e.writer.chunk p.sent) (piece_of e p.sent)) (piece_of e p.sent) i refl (same_marks (Command.Write e.writer.mem (slot e.writer.ring e.writer.chunk p.sent) (piece_of e p.sent)) (piece_of e p.sent) i (writing.write_by e s law around lone_w lone_r p c at idle x.l.written x.l.noticed x.put x.l.back x.l.replied x.over x.shut has q y.1.0 y.1.1.0 y.1.1.1 (endpoint c e.writer.mem) refl)))
      by_doing Sends q y =
          let key : Command.Send e.writer.send (notice p.sent (length (piece_of e p.sent))) (Some e.writer.reply) ≡ k = do_is m _ k y.0 mk in
          let i = send c e.writer.send (notice p.sent (length (piece_of e p.sent))) (Some e.writer.reply) (endpoint c e.writer.send) in
          subst (λ z. AllJoins e s p pr (write_payload z) puts takes (issue c z)) key (busy_or_not (Command.Send e.writer.send (notice p.sent (length (piece_of e p.sent))) (Some e.writer.reply)) [] i refl (same_marks (Command.Send e.writer.send (notice p.sent (length (piece_of e p.sent))) (Some e.writer.reply)) [] i (writing.send_by e s law around lone_w lone_r p c at idle x.l.written x.l.noticed x.put x.l.back x.l.replied x.over x.shut has [] q y.1.0 y.1.1 (endpoint c e.writer.send) refl)))
      by_doing Fetches q y =
          let key : Command.Fetch e.writer.reply ≡ k = do_is m _ k y.0 mk in
          let i = fetch c e.writer.reply (endpoint c e.writer.reply) in
          subst (λ z. AllJoins e s p pr (write_payload z) puts takes (issue c z)) key (same_marks (Command.Fetch e.writer.reply) [] i (writing.fetch_by e s law around lone_w lone_r p c at idle x.l.written x.l.noticed x.put x.l.back x.l.replied x.over x.shut has [] q y.1 (endpoint c e.writer.reply) refl) refl)
      by_doing Acknowledges q y =
          let key : Command.Acknowledge e.writer.reply y.0 ≡ k = do_is m _ k y.1.0 mk in
          let i = acknowledge c e.writer.reply y.0 (endpoint c e.writer.reply) in
          subst (λ z. AllJoins e s p pr (write_payload z) puts takes (issue c z)) key (ack_now y.0 q y.1.1 i (writing.ack_by e s law around lone_w lone_r p c at idle x.l.written x.l.noticed x.put x.l.back x.l.replied x.over x.shut has [] q y.1.1 y.0 (endpoint c e.writer.reply) refl) refl)

-- ---- what the reader wants

abbrev pub AllReads : Sides → State → Player WriterState → ReaderState → List ℕ → List ℕ → List ℕ → Option Issued → Type 0
AllReads e s pw p last puts takes None = Unit {0}
AllReads e s pw p last puts takes (Some i) = Joins e (record s { contexts = put_context i.context s.contexts; flights = with_packet i.packet s.flights }) pw (player_at_issue (reader_step e.reader) e.r p i.told) last puts takes

module _ (e : Sides) (s : State) (ok : SidesOk e) (law : Invariant s) (around : Isolation e s) (pw : Player WriterState) (p : ReaderState) (m : Move) (last puts takes : List ℕ) (x : Marks) (h : PipeAt e s pw (record { at = p; wants = Some m }) last puts takes x) (lone_w : Lone e.w s) (lone_r : Lone e.r s) (c : Context) (at : context_of e.r s.contexts ≡ Some c) where
  still : c.flying ≡ []
  still = ap flying_in (sym at) ∙ h.reader.by.0

  read_marks : (k : Command) (i : Issued) → ReaderSide e (after_issue s i) (player_at_issue (reader_step e.reader) e.r p i.told) takes x.l.noticed x.l.read x.l.replied x.took x.over x.shut → issue c k ≡ Some i → Joins e (after_issue s i) pw (player_at_issue (reader_step e.reader) e.r p i.told) last puts takes
  read_marks k i side q = record { marks = x; joined = record { ring = h.ring; writer = writer_stays e s (after_issue s i) pw last x.l.written x.l.noticed x.put x.l.back x.l.replied x.over x.shut (issue_side s law e.w e.writer.reply e.r c k i ok.apart at q) h.writer; reader = side } }

  read_or_busy : (k : Command) (i : Issued) → issue c k ≡ (if is_busy c then None else Some i) → ReaderSide e (after_issue s i) (player_at_issue (reader_step e.reader) e.r p i.told) takes x.l.noticed x.l.read x.l.replied x.took x.over x.shut → AllReads e s pw p last puts takes (issue c k)
  read_or_busy k i q side = by_busy (is_busy c) q
    where
      by_busy : (b : Bool) → issue c k ≡ (if b then None else Some i) → AllReads e s pw p last puts takes (issue c k)
      by_busy true q = subst (AllReads e s pw p last puts takes) (sym q) tt
      by_busy false q = subst (AllReads e s pw p last puts takes) (sym q) (read_marks k i side q)

  pub reader_issues : (k : Command) → m ≡ Move.Do k → AllReads e s pw p last puts takes (issue c k)
  reader_issues k mk = by_task p.task refl h.reader.by.1
    where
      by_task : (t : ReaderPhase) → p.task ≡ t → ReaderWants e p x.l.read x.l.replied x.took x.shut m t → AllReads e s pw p last puts takes (issue c k)
      by_task Starts q y = absurd y
      by_task Waits q y = absurd (do_await m k e.reader.recv mk y.0)
      by_task Finished q y = absurd (do_ended m k mk y)
      by_task Looks q y =
          let key : Command.Fetch e.reader.recv ≡ k = do_is m _ k y.0 mk in
          let i = fetch c e.reader.recv (endpoint c e.reader.recv) in
          subst (λ z. AllReads e s pw p last puts takes (issue c z)) key (read_marks (Command.Fetch e.reader.recv) i (reading.fetch_by e s law around lone_w lone_r ok p c at still s.memory puts takes x h.ring h.reader.due h.reader.inbox h.reader.taken q y.1 (endpoint c e.reader.recv) refl) refl)
      by_task Reads q y =
          let key : Command.Read e.reader.mem (slot e.reader.ring e.reader.chunk p.next) (length (piece_of e p.next)) ≡ k = do_is m _ k y.0 mk in
          let i = read c e.reader.mem (slot e.reader.ring e.reader.chunk p.next) (length (piece_of e p.next)) (endpoint c e.reader.mem) in
          subst (λ z. AllReads e s pw p last puts takes (issue c z)) key (read_or_busy (Command.Read e.reader.mem (slot e.reader.ring e.reader.chunk p.next) (length (piece_of e p.next))) i refl (reading.read_by e s law around lone_w lone_r ok p c at still s.memory puts takes x h.ring h.reader.due h.reader.inbox h.reader.taken q y.1 (endpoint c e.reader.mem) refl))
      by_task Replies q y =
          let key : Command.Reply e.reader.recv p.token (four_bytes p.next) ≡ k = do_is m _ k y.0 mk in
          let i = reply c e.reader.recv p.token (four_bytes p.next) (endpoint c e.reader.recv) in
          subst (λ z. AllReads e s pw p last puts takes (issue c z)) key (read_or_busy (Command.Reply e.reader.recv p.token (four_bytes p.next)) i refl (reading.reply_by e s law around lone_w lone_r ok p c at still s.memory puts takes x h.ring h.reader.due h.reader.inbox h.reader.taken (ap is_open_phase q) (ap holds_notice q) (ReplyFlies e p x.l.read x.l.replied x.took x.shut) (λ u to ep g z same k. subst (ReplyFlies e p x.l.read x.l.replied x.took x.shut) (sym same) (k, y.1)) (λ n f. subst (ReaderFlies e n p x.l.read x.l.replied x.took x.shut) (sym q) f) (four_bytes p.next) (endpoint c e.reader.recv) refl))
      by_task Closes q y =
          let key : Command.Reply e.reader.recv p.token (four_bytes p.next) ≡ k = do_is m _ k y.0 mk in
          let i = reply c e.reader.recv p.token (four_bytes p.next) (endpoint c e.reader.recv) in
          subst (λ z. AllReads e s pw p last puts takes (issue c z)) key (read_or_busy (Command.Reply e.reader.recv p.token (four_bytes p.next)) i refl (reading.reply_by e s law around lone_w lone_r ok p c at still s.memory puts takes x h.ring h.reader.due h.reader.inbox h.reader.taken (ap is_open_phase q) (ap holds_notice q) (EndFlies e p x.l.read x.l.replied x.took x.shut) (λ u to ep g z same k. subst (EndFlies e p x.l.read x.l.replied x.took x.shut) (sym same) (k, y.1)) (λ n f. subst (ReaderFlies e n p x.l.read x.l.replied x.took x.shut) (sym q) f) (four_bytes p.next) (endpoint c e.reader.recv) refl))
