-- Answers and landings keep a pipe's invariant, whoever's they are.
use Rattle.std.proofs.Common.{◌≡◌, ◌≢◌, ℕ, ◌*◌, Bool, true, false, List, [], ◌++◌, length, Some, None, refl, sym, subst, ◌∙◌, ap, arith, inl, inr}
use Rattle.std.specs.Prelude.{Option, if◌then◌else◌, ◌==◌, ◌⊎◌}
use Rattle.std.proofs.lemmas.Bool.Decides.{nat_tests}
use Rattle.std.proofs.lemmas.List.{append-nil}
use Rattle.m3_base.specs.declared.ids.FlightId.{FlightId}
use Rattle.m3_base.specs.declared.message.Message.{Message}
use Rattle.m3_base.specs.declared.packet.Packet.{Packet}
use Rattle.m3_base.specs.declared.packet.Fresh.{Fresh}
use Rattle.m3_base.specs.declared.command.Answer.{Answer}
use Rattle.m3_base.specs.declared.program.Move.{Move}
use Rattle.m3_base.specs.declared.program.Seen.{Seen}
use Rattle.m3_base.specs.declared.step.Step.{Step}
use Rattle.m3_base.specs.Ideal.Flights.{flight, change_flight, flight_name}
use Rattle.m3_base.specs.Ideal.Context.{Kind, Sending, Replying, Reading, Writing, Flying, Context, endpoint, with_endpoint}
use Rattle.m3_base.specs.Ideal.Landing.{flying_at, context_after_answer, written_at, has_live, flies_at, closed_at}
use Rattle.m3_base.specs.Ideal.State.{State, context_of}
use Rattle.m3_base.specs.Ideal.Step.{IdealResult, step_to, land_in, message_in, credit_in, install_in, close_in, answered_in, answer_in, settle_in, Starts_closing, Closes_endpoint, after_ending}
use Rattle.m3_laws.specs.Invariant.{Invariant}
use Rattle.m3_base.proofs.FlightNames.{name_found}
use Rattle.m3_pipe_laws.specs.Protocol.{WriterState, WriterPhase, Begins, Writes, Sends, Awaits, Fetches, Acknowledges, Over, writer_step, ReaderState, ReaderPhase, Starts, Waits, Looks, Reads, Replies, Closes, Finished, reader_step}
use Rattle.m3_pipe_laws.specs.Pipe.{Player, next_player, bytes_if_written, bytes_if_read, Disjoint}
use Rattle.m3_base.specs.Journal.Replies.{reply_of}
use Rattle.m3_pipe_laws.proofs.Invariant.Sides.{Sides, SidesOk}
use Rattle.m3_pipe_laws.proofs.Invariant.Isolation.{Isolation}
use Rattle.m3_pipe_laws.proofs.Invariant.Flights.{lone_flying, flying_in, flying_of}
use Rattle.m3_pipe_laws.proofs.Invariant.WriterSide.{WriteFlies, NoticeFlies, WriterFlies}
use Rattle.m3_pipe_laws.proofs.Invariant.ReaderSide.{ReadFlies, ReplyFlies, EndFlies, ReaderFlies}
use Rattle.m3_pipe_laws.proofs.Invariant.WholePipe.{Marks, PipeAt}
use Rattle.m3_pipe_laws.proofs.Others.Frames.{Side, NotOwn, IsOwn, own_or_not, flies-same}
use Rattle.m3_pipe_laws.proofs.Others.Landings.{Lone, AllElsewhere, land_elsewhere, answered_elsewhere, not_by}
use Rattle.m3_pipe_laws.proofs.Others.Sides.{writer_stays, reader_stays, ring_elsewhere}
use Rattle.m3_pipe_laws.proofs.Writer.Landings.{Joins}
use Rattle.m3_pipe_laws.proofs.Writer.Answers.{ended, writes_told, sends_told}
use Rattle.m3_pipe_laws.proofs.Reader.Landings.{reads_told, closes_told, replies_told}
use Rattle.m3_pipe_laws.proofs.Runs.Commands.{Goal, no_more, join_sides, lone_writer, lone_reader}
use Rattle.m3_pipe_laws.proofs.Runs.Landings.{JoinsAfter, land_goal, writer_lands, reader_lands}

-- ---- landings of others

abbrev pub AllSame : State → Option IdealResult → Type 0
AllSame s None = Unit {0}
AllSame s (Some n) = n.state.memory ≡ s.memory

same_message : (s : State) (id : FlightId) (ep g : ℕ) (m : Message) (o : Option Context) → AllSame s (message_in s id ep g m o)
same_message s id ep g m None = tt
same_message s id ep g m (Some x) = refl

same_credit : (s : State) (id : FlightId) (g : ℕ) (o : Option Context) → AllSame s (credit_in s id g o)
same_credit s id g None = tt
same_credit s id g (Some x) = refl

same_install : (s : State) (id : FlightId) (ep : ℕ) (f : Fresh) (o : Option Context) → AllSame s (install_in s id ep f o)
same_install s id ep f None = tt
same_install s id ep f (Some x) = refl

same_close : (s : State) (id : FlightId) (ep g : ℕ) (o : Option Context) → AllSame s (close_in s id ep g o)
same_close s id ep g None = tt
same_close s id ep g (Some x) = by_test (has_live g (endpoint x ep))
  where
    by_test : (b : Bool) → AllSame s (if b then step_to (if flies_at ep x then Starts_closing id g else Closes_endpoint id g) (after_ending s id (with_endpoint x ep (closed_at (endpoint x ep)))) else None)
    by_test true = refl
    by_test false = tt

-- ---- a test of who issued

pub equal : (a : ℕ) → (a == a) ≡ true
equal a = grind (arith, nat_tests)

pub unequal : (a b : ℕ) → a ≢ b → (a == b) ≡ false
unequal a b h = by_bool (a == b) refl
  where
    by_bool : (c : Bool) → (a == b) ≡ c → c ≡ false
    by_bool false w = refl
    by_bool true w = absurd (h (grind (arith, nat_tests, w)))

-- what the two programs and the bytes are, by who it was
pub by_who : (e : Sides) (n : State) (b d b' d' : Bool) (pw : Bool → Player WriterState) (pr : Bool → Player ReaderState) (last puts takes : Bool → List ℕ) → b ≡ b' → d ≡ d' → Joins e n (pw b') (pr d') (last b') (puts b') (takes d') → Joins e n (pw b) (pr d) (last b) (puts b) (takes d)
by_who e n b d b' d' pw pr last puts takes p q h = subst (λ z. Joins e n (pw z) (pr d) (last z) (puts z) (takes d)) (sym p) (subst (λ z. Joins e n (pw b') (pr z) (last b') (puts b') (takes z)) (sym q) h)

more_puts : (e : Sides) (n : State) (pw : Player WriterState) (pr : Player ReaderState) (last puts takes : List ℕ) → Joins e n pw pr last puts takes → Joins e n pw pr last puts (takes ++ [])
more_puts e n pw pr last puts takes h = subst (λ z. Joins e n pw pr last puts z) (sym (append-nil takes)) h

more_takes : (e : Sides) (n : State) (pw : Player WriterState) (pr : Player ReaderState) (last puts takes : List ℕ) → Joins e n pw pr last puts takes → Joins e n pw pr last (puts ++ []) takes
more_takes e n pw pr last puts takes h = subst (λ z. Joins e n pw pr last z takes) (sym (append-nil puts)) h

-- ---- the last bytes matter only while a write flies

pub relast : (e : Sides) (s : State) (p : WriterState) (m : Move) (pr : Player ReaderState) (last last' puts takes : List ℕ) (x : Marks) → PipeAt e s (record { at = p; wants = Some m }) pr last puts takes x → Joins e s (record { at = p; wants = Some m }) pr last' puts takes
relast e s p m pr last last' puts takes x h = record { marks = x; joined = record { ring = h.ring; writer = record { by = h.writer.by; back = h.writer.back; few = h.writer.few; replies = h.writer.replies }; reader = h.reader } }

pub some_move : (a b : Move) → Some a ≡ Some b → a ≡ b
some_move a b q = cc

pub no_move : (a : Move) → None ≡ Some a → ⊥
no_move a q = absurd (cc)

module _ (e : Sides) (s : State) (ok : SidesOk e) (law : Invariant s) (around : Isolation e s) (last puts takes : List ℕ) (x : Marks) where
  module _ (pw : Player WriterState) (pr : Player ReaderState) (h : PipeAt e s pw pr last puts takes x) where
    lone_w : Lone e.w s
    lone_w = lone_writer e s pw.at x.l.written x.l.noticed x.put x.over last pw.wants h.writer.by

    lone_r : Lone e.r s
    lone_r = lone_reader e s pr.at x.l.read x.l.replied x.took x.shut pr.wants h.reader.by

    same : Joins e s pw pr last puts takes
    same = record { marks = x; joined = h }

    -- ---- landings

    after_elsewhere : (o : Option IdealResult) → AllElsewhere e s law around lone_w lone_r o → AllSame s o → JoinsAfter e s pw pr last puts takes o
    after_elsewhere None k q = same
    after_elsewhere (Some n) k q = join_sides e s n.state pw pr last puts takes x k.writer k.reader q h

    others_land : (id : FlightId) → NotOwn e.w s id → NotOwn e.r s id → (o : Option Packet) → flight id s.flights ≡ o → JoinsAfter e s pw pr last puts takes (land_in s id o)
    others_land id not_w not_r None find = same
    others_land id not_w not_r (Some (Packet.Message to ep g m)) find = after_elsewhere (land_in s id (Some (Packet.Message to ep g m))) (land_elsewhere e s law around lone_w lone_r id not_w not_r (Some (Packet.Message to ep g m)) find) (same_message s id ep g m (context_of to s.contexts))
    others_land id not_w not_r (Some (Packet.Credit y to g)) find = after_elsewhere (land_in s id (Some (Packet.Credit y to g))) (land_elsewhere e s law around lone_w lone_r id not_w not_r (Some (Packet.Credit y to g)) find) (same_credit s id g (context_of to s.contexts))
    others_land id not_w not_r (Some (Packet.Install y to ep f)) find = after_elsewhere (land_in s id (Some (Packet.Install y to ep f))) (land_elsewhere e s law around lone_w lone_r id not_w not_r (Some (Packet.Install y to ep f)) find) (same_install s id ep f (context_of to s.contexts))
    others_land id not_w not_r (Some (Packet.Close y to ep g)) find = after_elsewhere (land_in s id (Some (Packet.Close y to ep g))) (land_elsewhere e s law around lone_w lone_r id not_w not_r (Some (Packet.Close y to ep g)) find) (same_close s id ep g (context_of to s.contexts))
    others_land id not_w not_r (Some (Packet.Answer y answer)) find = same
    others_land id not_w not_r (Some (Packet.Read y g place buffer)) find = after_elsewhere (land_in s id (Some (Packet.Read y g place buffer))) (land_elsewhere e s law around lone_w lone_r id not_w not_r (Some (Packet.Read y g place buffer)) find) refl
    others_land id not_w not_r (Some (Packet.Write y g place payload)) find =
        let k = land_elsewhere e s law around lone_w lone_r id not_w not_r (Some (Packet.Write y g place payload)) find in
        by_place k.writer k.reader (around.packets id (Packet.Write y g place payload) find)
      where
        n : State
        n = record s { memory = written_at place payload s.memory; flights = change_flight (Packet.Answer id Answer.Written) s.flights }

        by_place : Side e.w e.writer.reply s n → Side e.r e.reader.recv s n → (y.issuer ≡ e.w) ⊎ Disjoint e.out.start (e.writer.ring * e.writer.chunk) place (length payload) → Joins e n pw pr last puts takes
        by_place side_w side_r (inl q) = absurd (not_by e s law around lone_w lone_r e.w id (Packet.Write y g place payload) lone_w not_w find tt (ap (λ z. z.issuer) (name_found id (Packet.Write y g place payload) s.flights find) ∙ q))
        by_place side_w side_r (inr away) = record {
          marks = record x { l = record x.l { memory = written_at place payload x.l.memory } };
          joined = record {
            ring = ring_elsewhere e s.memory puts takes x place payload away h.ring;
            writer = writer_stays e s n pw last x.l.written x.l.noticed x.put x.l.back x.l.replied x.over x.shut side_w h.writer;
            reader = reader_stays e s n pr takes x.l.noticed x.l.read x.l.replied x.took x.over x.shut side_r h.reader;
          };
        }

    -- ---- answers of others

    others_told : (id : FlightId) → NotOwn e.w s id → NotOwn e.r s id → (o : Option Packet) → flight id s.flights ≡ o → Goal e s pw pr last puts takes (Step.Answered id) (answered_in s id o)
    others_told id not_w not_r None find = no_more e s pw pr last puts takes same
    others_told id not_w not_r (Some (Packet.Message to ep g m)) find = no_more e s pw pr last puts takes same
    others_told id not_w not_r (Some (Packet.Credit y to g)) find = no_more e s pw pr last puts takes same
    others_told id not_w not_r (Some (Packet.Install y to ep f)) find = no_more e s pw pr last puts takes same
    others_told id not_w not_r (Some (Packet.Close y to ep g)) find = no_more e s pw pr last puts takes same
    others_told id not_w not_r (Some (Packet.Read y g place buffer)) find = no_more e s pw pr last puts takes same
    others_told id not_w not_r (Some (Packet.Write y g place payload)) find = no_more e s pw pr last puts takes same
    others_told id not_w not_r (Some (Packet.Answer y answer)) find = by_context (context_of id.issuer s.contexts) (answered_elsewhere e s law around lone_w lone_r id not_w not_r (Some (Packet.Answer y answer)) find)
      where
        who_w : (id.issuer == e.w) ≡ false
        who_w = unequal id.issuer e.w (not_by e s law around lone_w lone_r e.w id (Packet.Answer y answer) lone_w not_w find tt)

        who_r : (id.issuer == e.r) ≡ false
        who_r = unequal id.issuer e.r (not_by e s law around lone_w lone_r e.r id (Packet.Answer y answer) lone_r not_r find tt)

        by_flying : (c : Context) (o : Option Flying) → AllElsewhere e s law around lone_w lone_r (settle_in s id answer c o) → Goal e s pw pr last puts takes (Step.Answered id) (settle_in s id answer c o)
        by_flying c None k = no_more e s pw pr last puts takes same
        by_flying c (Some f) k =
            let n = after_ending s id (context_after_answer f answer c) in
            by_who e n (id.issuer == e.w) (id.issuer == e.r) false false (λ z. if z then next_player (writer_step e.writer) e.w pw.at (Seen.Answer (reply_of answer)) else pw) (λ z. if z then next_player (reader_step e.reader) e.r pr.at (Seen.Answer (reply_of answer)) else pr) (λ z. last) (λ z. puts ++ (if z then bytes_if_written answer last else [])) (λ z. takes ++ (if z then bytes_if_read answer else [])) who_w who_r (no_more e n pw pr last puts takes (join_sides e s n pw pr last puts takes x k.writer k.reader refl h))

        by_context : (o : Option Context) → AllElsewhere e s law around lone_w lone_r (answer_in s id answer o) → Goal e s pw pr last puts takes (Step.Answered id) (answer_in s id answer o)
        by_context None k = no_more e s pw pr last puts takes same
        by_context (Some c) k = by_flying c (flying_at id.number c.flying) k

  -- ---- the writer's own answers

  module _ (p : WriterState) (pr : Player ReaderState) (h : PipeAt e s (record { at = p; wants = None }) pr last puts takes x) where
    abbrev pub TellsW : FlightId → Option IdealResult → Type 0
    TellsW id = Goal e s (record { at = p; wants = None }) pr last puts takes (Step.Answered id)

    same_w : Joins e s (record { at = p; wants = None }) pr last (puts ++ []) (takes ++ [])
    same_w = no_more e s (record { at = p; wants = None }) pr last puts takes (record { marks = x; joined = h })

    told_w : (number : ℕ) (kind : Kind) (ep : ℕ) (answer : Answer) → flying_of e.w s ≡ lone_flying number kind ep 0 → ((c : Context) (at : context_of e.w s.contexts ≡ Some c) (fly : flying_of e.w s ≡ lone_flying number kind ep 0) → Joins e (ended s e.w number kind ep 0 answer c at fly) (next_player (writer_step e.writer) e.w p (Seen.Answer (reply_of answer))) pr last (puts ++ bytes_if_written answer last) takes) → (o : Option Context) → context_of e.w s.contexts ≡ o → TellsW (flight_name e.w number) (answer_in s (flight_name e.w number) answer o)
    told_w number kind ep answer fly rest None at = same_w
    told_w number kind ep answer fly rest (Some c) at =
        let mine : c.flying ≡ lone_flying number kind ep 0 = ap flying_in (sym at) ∙ fly in
        let found : flying_at number c.flying ≡ Some (record { number = number; kind = kind; ep = ep; token = 0 }) = ap (flying_at number) mine ∙ grind (arith, nat_tests) in
        subst (λ o. TellsW (flight_name e.w number) (settle_in s (flight_name e.w number) answer c o)) (sym found) (
        by_who e (ended s e.w number kind ep 0 answer c at fly) (e.w == e.w) (e.w == e.r) true false (λ z. if z then next_player (writer_step e.writer) e.w p (Seen.Answer (reply_of answer)) else record { at = p; wants = None }) (λ z. if z then next_player (reader_step e.reader) e.r pr.at (Seen.Answer (reply_of answer)) else pr) (λ z. last) (λ z. puts ++ (if z then bytes_if_written answer last else [])) (λ z. takes ++ (if z then bytes_if_read answer else [])) (equal e.w) (unequal e.w e.r ok.apart) (more_puts e (ended s e.w number kind ep 0 answer c at fly) (next_player (writer_step e.writer) e.w p (Seen.Answer (reply_of answer))) pr last (puts ++ bytes_if_written answer last) takes (rest c at fly))
        )

    -- an answer that is its own
    packet_w : (number : ℕ) (k : Packet) → ((y : FlightId) (answer : Answer) → k ≡ Packet.Answer y answer → TellsW (flight_name e.w number) (answer_in s (flight_name e.w number) answer (context_of e.w s.contexts))) → TellsW (flight_name e.w number) (answered_in s (flight_name e.w number) (Some k))
    packet_w number (Packet.Answer y answer) rest = rest y answer refl
    packet_w number (Packet.Message to ep g m) rest = same_w
    packet_w number (Packet.Credit y to g) rest = same_w
    packet_w number (Packet.Read y g place buffer) rest = same_w
    packet_w number (Packet.Write y g place payload) rest = same_w
    packet_w number (Packet.Install y to ep f) rest = same_w
    packet_w number (Packet.Close y to ep g) rest = same_w

    pub writer_told_own : (id : FlightId) → IsOwn e.w s id → TellsW id (answered_in s id (flight id s.flights))
    writer_told_own id its = by_doing p.doing refl h.writer.by
      where
        by_number : (n : ℕ) (kind : Kind) (ep token : ℕ) → flying_of e.w s ≡ lone_flying n kind ep token → id ≡ flight_name e.w n
        by_number n kind ep token f = its.name ∙ ap (flight_name e.w) (flies-same e.w s its.number n its.kind kind its.ep its.token ep token its.flying f)

        by_doing : (d : WriterPhase) → p.doing ≡ d → WriterFlies e s p x.l.written x.l.noticed x.put x.over last d → TellsW id (answered_in s id (flight id s.flights))
        by_doing Begins q f = absurd f
        by_doing Awaits q f = absurd f
        by_doing Fetches q f = absurd f
        by_doing Acknowledges q f = absurd f
        by_doing Over q f = absurd f
        by_doing Writes q f = subst (λ z. TellsW z (answered_in s z (flight z s.flights))) (sym (by_number f.number Writing e.writer.mem 0 f.flying)) (subst (λ o. TellsW (flight_name e.w f.number) (answered_in s (flight_name e.w f.number) o)) (sym f.found) (packet_w f.number f.packet (λ y answer same. told_w f.number Writing e.writer.mem answer f.flying (λ c at fly. writes_told e s ok p pr last puts takes x h f.number Writing e.writer.mem c at fly refl y answer q (subst (WriteFlies e p x.l.written x.l.noticed x.put x.over last) same f.phase)) (context_of e.w s.contexts) refl)))
        by_doing Sends q f = subst (λ z. TellsW z (answered_in s z (flight z s.flights))) (sym (by_number f.number Sending e.writer.send 0 f.flying)) (subst (λ o. TellsW (flight_name e.w f.number) (answered_in s (flight_name e.w f.number) o)) (sym f.found) (packet_w f.number f.packet (λ y answer same. told_w f.number Sending e.writer.send answer f.flying (λ c at fly. sends_told e s ok p pr last puts takes x h f.number Sending e.writer.send c at fly refl y answer q (subst (NoticeFlies e p x.l.written x.l.noticed x.put x.over) same f.phase)) (context_of e.w s.contexts) refl)))

  -- ---- the reader's own answers

  module _ (pw : Player WriterState) (p : ReaderState) (h : PipeAt e s pw (record { at = p; wants = None }) last puts takes x) where
    abbrev pub TellsR : FlightId → Option IdealResult → Type 0
    TellsR id = Goal e s pw (record { at = p; wants = None }) last puts takes (Step.Answered id)

    same_r : Joins e s pw (record { at = p; wants = None }) last (puts ++ []) (takes ++ [])
    same_r = no_more e s pw (record { at = p; wants = None }) last puts takes (record { marks = x; joined = h })

    told_r : (number : ℕ) (kind : Kind) (ep token : ℕ) (answer : Answer) → flying_of e.r s ≡ lone_flying number kind ep token → ((c : Context) (at : context_of e.r s.contexts ≡ Some c) (fly : flying_of e.r s ≡ lone_flying number kind ep token) → Joins e (ended s e.r number kind ep token answer c at fly) pw (next_player (reader_step e.reader) e.r p (Seen.Answer (reply_of answer))) last puts (takes ++ bytes_if_read answer)) → (o : Option Context) → context_of e.r s.contexts ≡ o → TellsR (flight_name e.r number) (answer_in s (flight_name e.r number) answer o)
    told_r number kind ep token answer fly rest None at = same_r
    told_r number kind ep token answer fly rest (Some c) at =
        let mine : c.flying ≡ lone_flying number kind ep token = ap flying_in (sym at) ∙ fly in
        let found : flying_at number c.flying ≡ Some (record { number = number; kind = kind; ep = ep; token = token }) = ap (flying_at number) mine ∙ grind (arith, nat_tests) in
        subst (λ o. TellsR (flight_name e.r number) (settle_in s (flight_name e.r number) answer c o)) (sym found) (
        by_who e (ended s e.r number kind ep token answer c at fly) (e.r == e.w) (e.r == e.r) false true (λ z. if z then next_player (writer_step e.writer) e.w pw.at (Seen.Answer (reply_of answer)) else pw) (λ z. if z then next_player (reader_step e.reader) e.r p (Seen.Answer (reply_of answer)) else record { at = p; wants = None }) (λ z. last) (λ z. puts ++ (if z then bytes_if_written answer last else [])) (λ z. takes ++ (if z then bytes_if_read answer else [])) (unequal e.r e.w (λ z. ok.apart (sym z))) (equal e.r) (more_takes e (ended s e.r number kind ep token answer c at fly) pw (next_player (reader_step e.reader) e.r p (Seen.Answer (reply_of answer))) last puts (takes ++ bytes_if_read answer) (rest c at fly))
        )

    packet_r : (number : ℕ) (k : Packet) → ((y : FlightId) (answer : Answer) → k ≡ Packet.Answer y answer → TellsR (flight_name e.r number) (answer_in s (flight_name e.r number) answer (context_of e.r s.contexts))) → TellsR (flight_name e.r number) (answered_in s (flight_name e.r number) (Some k))
    packet_r number (Packet.Answer y answer) rest = rest y answer refl
    packet_r number (Packet.Message to ep g m) rest = same_r
    packet_r number (Packet.Credit y to g) rest = same_r
    packet_r number (Packet.Read y g place buffer) rest = same_r
    packet_r number (Packet.Write y g place payload) rest = same_r
    packet_r number (Packet.Install y to ep f) rest = same_r
    packet_r number (Packet.Close y to ep g) rest = same_r

    pub reader_told_own : (id : FlightId) → IsOwn e.r s id → TellsR id (answered_in s id (flight id s.flights))
    reader_told_own id its = by_task p.task refl h.reader.by
      where
        by_number : (n : ℕ) (kind : Kind) (ep token : ℕ) → flying_of e.r s ≡ lone_flying n kind ep token → id ≡ flight_name e.r n
        by_number n kind ep token f = its.name ∙ ap (flight_name e.r) (flies-same e.r s its.number n its.kind kind its.ep its.token ep token its.flying f)

        by_task : (t : ReaderPhase) → p.task ≡ t → ReaderFlies e s p x.l.read x.l.replied x.took x.shut t → TellsR id (answered_in s id (flight id s.flights))
        by_task Starts q f = absurd f
        by_task Waits q f = absurd f
        by_task Looks q f = absurd f
        by_task Finished q f = absurd f
        by_task Reads q f = subst (λ z. TellsR z (answered_in s z (flight z s.flights))) (sym (by_number f.number Reading e.reader.mem 0 f.flying)) (subst (λ o. TellsR (flight_name e.r f.number) (answered_in s (flight_name e.r f.number) o)) (sym f.found) (packet_r f.number f.packet (λ y answer same. told_r f.number Reading e.reader.mem 0 answer f.flying (λ c at fly. reads_told e s ok pw p last puts takes x h f.number Reading e.reader.mem 0 c at fly y answer q refl (subst (ReadFlies e p x.l.read x.l.replied x.took x.shut) same f.phase)) (context_of e.r s.contexts) refl)))
        by_task Replies q f = subst (λ z. TellsR z (answered_in s z (flight z s.flights))) (sym (by_number f.number Replying e.reader.recv p.token f.flying)) (subst (λ o. TellsR (flight_name e.r f.number) (answered_in s (flight_name e.r f.number) o)) (sym f.found) (packet_r f.number f.packet (λ y answer same. told_r f.number Replying e.reader.recv p.token answer f.flying (λ c at fly. replies_told e s ok pw p last puts takes x h f.number c at fly y answer q (subst (ReplyFlies e p x.l.read x.l.replied x.took x.shut) same f.phase)) (context_of e.r s.contexts) refl)))
        by_task Closes q f = subst (λ z. TellsR z (answered_in s z (flight z s.flights))) (sym (by_number f.number Replying e.reader.recv p.token f.flying)) (subst (λ o. TellsR (flight_name e.r f.number) (answered_in s (flight_name e.r f.number) o)) (sym f.found) (packet_r f.number f.packet (λ y answer same. told_r f.number Replying e.reader.recv p.token answer f.flying (λ c at fly. closes_told e s ok pw p last puts takes x h f.number Replying e.reader.recv p.token c at fly y answer q (subst (EndFlies e p x.l.read x.l.replied x.took x.shut) same f.phase)) (context_of e.r s.contexts) refl)))

  -- ---- landings and answers, whose ever

  pub land_all : (p : WriterState) (ww : Option Move) (q : ReaderState) (rw : Option Move) → PipeAt e s (record { at = p; wants = ww }) (record { at = q; wants = rw }) last puts takes x → (id : FlightId) → Goal e s (record { at = p; wants = ww }) (record { at = q; wants = rw }) last puts takes (Step.Land id) (land_in s id (flight id s.flights))
  land_all p ww q rw h id = land_goal e s (record { at = p; wants = ww }) (record { at = q; wants = rw }) last puts takes id (land_in s id (flight id s.flights)) (by_writer ww h (own_or_not e.w s id))
    where
      by_reader : (ww rw : Option Move) (h : PipeAt e s (record { at = p; wants = ww }) (record { at = q; wants = rw }) last puts takes x) → NotOwn e.w s id → IsOwn e.r s id ⊎ NotOwn e.r s id → JoinsAfter e s (record { at = p; wants = ww }) (record { at = q; wants = rw }) last puts takes (land_in s id (flight id s.flights))
      by_reader ww None h not_w (inl its) = reader_lands e s ok (record { at = p; wants = ww }) q last puts takes x h id its
      by_reader ww (Some m) h not_w (inl its) = let z : [] ≡ lone_flying its.number its.kind its.ep its.token = sym h.reader.by.0 ∙ its.flying in absurd (cc)
      by_reader ww rw h not_w (inr not_r) = others_land (record { at = p; wants = ww }) (record { at = q; wants = rw }) h id not_w not_r (flight id s.flights) refl

      by_writer : (ww : Option Move) (h : PipeAt e s (record { at = p; wants = ww }) (record { at = q; wants = rw }) last puts takes x) → IsOwn e.w s id ⊎ NotOwn e.w s id → JoinsAfter e s (record { at = p; wants = ww }) (record { at = q; wants = rw }) last puts takes (land_in s id (flight id s.flights))
      by_writer None h (inl its) = writer_lands e s ok p (record { at = q; wants = rw }) last puts takes x h id its
      by_writer (Some m) h (inl its) = let z : [] ≡ lone_flying its.number its.kind its.ep its.token = sym h.writer.by.0 ∙ its.flying in absurd (cc)
      by_writer ww h (inr not_w) = by_reader ww rw h not_w (own_or_not e.r s id)

  pub answer_all : (p : WriterState) (ww : Option Move) (q : ReaderState) (rw : Option Move) → PipeAt e s (record { at = p; wants = ww }) (record { at = q; wants = rw }) last puts takes x → (id : FlightId) → Goal e s (record { at = p; wants = ww }) (record { at = q; wants = rw }) last puts takes (Step.Answered id) (answered_in s id (flight id s.flights))
  answer_all p ww q rw h id = by_writer ww h (own_or_not e.w s id)
    where
      by_reader : (ww rw : Option Move) (h : PipeAt e s (record { at = p; wants = ww }) (record { at = q; wants = rw }) last puts takes x) → NotOwn e.w s id → IsOwn e.r s id ⊎ NotOwn e.r s id → Goal e s (record { at = p; wants = ww }) (record { at = q; wants = rw }) last puts takes (Step.Answered id) (answered_in s id (flight id s.flights))
      by_reader ww None h not_w (inl its) = reader_told_own (record { at = p; wants = ww }) q h id its
      by_reader ww (Some m) h not_w (inl its) = let z : [] ≡ lone_flying its.number its.kind its.ep its.token = sym h.reader.by.0 ∙ its.flying in absurd (cc)
      by_reader ww rw h not_w (inr not_r) = others_told (record { at = p; wants = ww }) (record { at = q; wants = rw }) h id not_w not_r (flight id s.flights) refl

      by_writer : (ww : Option Move) (h : PipeAt e s (record { at = p; wants = ww }) (record { at = q; wants = rw }) last puts takes x) → IsOwn e.w s id ⊎ NotOwn e.w s id → Goal e s (record { at = p; wants = ww }) (record { at = q; wants = rw }) last puts takes (Step.Answered id) (answered_in s id (flight id s.flights))
      by_writer None h (inl its) = writer_told_own p (record { at = q; wants = rw }) h id its
      by_writer (Some m) h (inl its) = let z : [] ≡ lone_flying its.number its.kind its.ep its.token = sym h.writer.by.0 ∙ its.flying in absurd (cc)
      by_writer ww h (inr not_w) = by_reader ww rw h not_w (own_or_not e.r s id)
