-- Where the answers of the writer's commands come back.
use Rattle.std.proofs.Common.{◌≡◌, ◌≢◌, ℕ, suc, ◌+◌, ◌*◌, ◌<◌, ◌≤◌, Bool, true, false, List, [], ◌++◌, length, Some, None, refl, sym, subst, ◌∙◌, ap, arith, inl, inr}
use Rattle.std.specs.Prelude.{Option, if◌then◌else◌, ◌⊎◌, not}
use Rattle.std.proofs.lemmas.Bool.Decides.{nat_tests}
use Rattle.std.proofs.lemmas.List.{append-nil}
use Rattle.std.proofs.Math.Nat.{le-mul_of_pos_right}
use Rattle.m3_base.specs.declared.ids.FlightId.{FlightId}
use Rattle.m3_base.specs.declared.packet.Packet.{Packet}
use Rattle.m3_base.specs.declared.command.Answer.{Answer}
use Rattle.m3_base.specs.declared.command.Refusal.{Refusal}
use Rattle.m3_base.specs.declared.command.Reply.{Reply}
use Rattle.m3_base.specs.declared.program.Seen.{Seen}
use Rattle.m3_base.specs.Lists.Counting.{one}
use Rattle.m3_base.specs.Ideal.Context.{Kind, Sending, Replying, Reading, Writing, Flying, Endpoint, Sends as Sends_by, Context, endpoint}
use Rattle.m3_base.specs.Ideal.Landing.{without_flying, context_after_answer, endpoint_after_answer}
use Rattle.m3_base.specs.Ideal.State.{State, context_of}
use Rattle.m3_laws.proofs.credits.Counting.{at_set}
use Rattle.m3_pipe_laws.specs.Protocol.{WriterState, Writes, Sends, writer_step, writer_at_answer, with_notice_sent, piece, ReaderState}
use Rattle.m3_pipe_laws.specs.Pipe.{Player, next_player, endpoint_at, endpoint_in, bytes_if_written, SameRing}
use Rattle.m3_base.specs.Journal.Replies.{reply_of}
use Rattle.m3_pipe_laws.specs.Ring.{pieces}
use Rattle.m3_pipe_laws.proofs.Invariant.Sides.{Sides, piece_of, has_one, SidesOk}
use Rattle.m3_pipe_laws.proofs.Invariant.Flights.{lone_flying, flying_in, flying_of, Queue, queue_of}
use Rattle.m3_base.specs.Lists.CountDown.{one_less}
use Rattle.m3_pipe_laws.proofs.Invariant.WriterSide.{announced_count, AtRest, Busy, WriterCounts, count_with_chunk, WriteFlies, NoticeFlies, RepliesOk}
use Rattle.m3_pipe_laws.proofs.Invariant.ReaderSide.{ReaderSide}
use Rattle.m3_pipe_laws.proofs.Invariant.WholePipe.{RingSide, Marks, PipeAt}
use Rattle.m3_pipe_laws.proofs.Others.Frames.{Side, side_put, not_issuer, same_ended}
use Rattle.m3_pipe_laws.proofs.Others.Sides.{reader_stays}
use Rattle.m3_pipe_laws.proofs.Writer.Commands.{WriterAt, WriterHas, over_at, chooses_at, refused_over, replies_doing}
use Rattle.m3_pipe_laws.proofs.Writer.Landings.{Joins}
use Rattle.m3_base.specs.Ideal.Flights.{flight_name}
use Rattle.m3_base.proofs.Activities.{act_found, context-put_same}
use Rattle.m3_base.specs.Ideal.Step.{after_ending}

pub without_self : (k : ℕ) (kind : Kind) (ep token : ℕ) → without_flying k (lone_flying k kind ep token) ≡ []
without_self k kind ep token = grind (arith, nat_tests)

abbrev pub is_reply : Kind → Bool
is_reply Replying = true
is_reply kind = false

pub settled_queue : (kind : Kind) (t : ℕ) (answer : Answer) (e : Endpoint) → is_reply kind ≡ false → queue_of (endpoint_after_answer kind t answer e) ≡ queue_of e
settled_queue Replying t answer e h = absurd (cc)
settled_queue Reading t answer e h = refl
settled_queue Writing t answer e h = refl
settled_queue Sending t (Answer.Refused why) (Sends_by r) h = refl
settled_queue Sending t answer e h = refl

-- an activity's only command ends
module _ (s : State) (a number : ℕ) (kind : Kind) (ep token : ℕ) (answer : Answer) (c : Context) (at : context_of a s.contexts ≡ Some c) (fly : flying_of a s ≡ lone_flying number kind ep token) where
  abbrev pub its : Flying
  its = record { number = number; kind = kind; ep = ep; token = token }

  abbrev pub ended : State
  ended = after_ending s (flight_name a number) (context_after_answer its answer c)

  is_act : a ≡ c.act
  is_act = act_found a c s.contexts at

  pub ended_now : context_of a ended.contexts ≡ Some (context_after_answer its answer c)
  ended_now = subst (λ z. context_of z ended.contexts ≡ Some (context_after_answer its answer c)) (sym is_act) (context-put_same c (context_after_answer its answer c) s.contexts (subst (λ z. context_of z s.contexts ≡ Some c) is_act at))

  pub ended_idle : flying_of a ended ≡ []
  ended_idle =
      let mine : c.flying ≡ lone_flying number kind ep token = ap flying_in (sym at) ∙ fly in
      ap flying_in ended_now ∙ (ap (without_flying number) mine ∙ without_self number kind ep token)

  pub ended_queue : (i : ℕ) → is_reply kind ≡ false → queue_of (endpoint_at ended a i) ≡ queue_of (endpoint_at s a i)
  ended_queue i h = ap (λ z. queue_of (endpoint_in i z)) ended_now ∙ (by_set (at_set c.endpoints ep i (endpoint_after_answer kind token answer (endpoint c ep))) ∙ ap (λ z. queue_of (endpoint_in i z)) (sym at))
    where
      by_set : (endpoint (context_after_answer its answer c) i ≡ endpoint c i) ⊎ ((i ≡ ep) × (endpoint (context_after_answer its answer c) i ≡ endpoint_after_answer kind token answer (endpoint c ep))) → queue_of (endpoint (context_after_answer its answer c) i) ≡ queue_of (endpoint c i)
      by_set (inl q) = ap queue_of q
      by_set (inr q) = ap queue_of q.1 ∙ (settled_queue kind token answer (endpoint c ep) h ∙ ap (λ z. queue_of (endpoint c z)) (sym q.0))

  pub ended_side : (b i : ℕ) → b ≢ a → Side b i s ended
  ended_side b i ne = side_put b i s ended c (context_after_answer its answer c) refl (subst (λ z. context_of z s.contexts ≡ Some c) is_act at) (λ q. absurd (ne (q ∙ sym is_act))) (same_ended b s (flight_name a number) (not_issuer b s (flight_name a number) ne))

-- ---- counting on

pub ring_puts : (e : Sides) (bytes puts takes more : List ℕ) (x : Marks) → more ≡ [] → RingSide e bytes puts takes x → RingSide e bytes (puts ++ more) takes x
ring_puts e bytes puts takes more x q h = subst (λ z. RingSide e bytes z takes x) (sym (ap (λ z. puts ++ z) q ∙ append-nil puts)) h

pub pieces_on : (chunk : ℕ) (bytes : List ℕ) (n : ℕ) → pieces chunk bytes (n + 1) ≡ pieces chunk bytes n ++ piece chunk bytes n
pieces_on chunk bytes n = let q : n + 1 ≡ suc n = omega arith in ap (pieces chunk bytes) q

pub less_one_more : (n : ℕ) → one_less (n + 1) ≡ n
less_one_more n = let q : n + 1 ≡ suc n = omega arith in ap one_less q

-- a chunk's number is below the length of the data
pub few_more : (e : Sides) (i : ℕ) → SameRing e.writer e.reader → has_one e i ≡ true → i + 1 ≤ 65536
few_more e i ok h =
    let least : i ≤ i * e.writer.chunk = le-mul_of_pos_right i ok.chunk_least in
    let below : i * e.writer.chunk < length e.writer.bytes = grind (arith, nat_tests, h) in
    omega (arith, least, below, ok.bytes_most)

module _ (e : Sides) (s : State) (ok : SidesOk e) (p : WriterState) (pr : Player ReaderState) (last puts takes : List ℕ) (x : Marks) (h : PipeAt e s (record { at = p; wants = None }) pr last puts takes x) (number : ℕ) (kind : Kind) (ep : ℕ) (c : Context) (at : context_of e.w s.contexts ≡ Some c) (fly : flying_of e.w s ≡ lone_flying number kind ep 0) (no_reply : is_reply kind ≡ false) where
  abbrev pub over_now : Answer → State
  over_now answer = ended s e.w number kind ep 0 answer c at fly

  idle : (answer : Answer) → flying_of e.w (over_now answer) ≡ []
  idle answer = ended_idle s e.w number kind ep 0 answer c at fly

  has_now : (answer : Answer) → WriterHas e (over_now answer) p x.l.back x.l.replied x.shut
  has_now answer = record { back = h.writer.back; few = h.writer.few; replies = subst (RepliesOk p x.l.replied x.shut) (sym (ended_queue s e.w number kind ep 0 answer c at fly e.writer.reply no_reply)) h.writer.replies }

  reader_now : (answer : Answer) → ReaderSide e (over_now answer) pr takes x.l.noticed x.l.read x.l.replied x.took x.over x.shut
  reader_now answer = reader_stays e s (over_now answer) pr takes x.l.noticed x.l.read x.l.replied x.took x.over x.shut (ended_side s e.w number kind ep 0 answer c at fly e.r e.reader.recv (λ q. ok.apart (sym q))) h.reader

  abbrev pub WriterTold : Answer → Type 0
  WriterTold answer = Joins e (over_now answer) (next_player (writer_step e.writer) e.w p (Seen.Answer (reply_of answer))) pr last (puts ++ bytes_if_written answer last) takes

  told_refused : (why : Refusal) → WriterTold (Answer.Refused why)
  told_refused why = record {
    marks = x;
    joined = record {
      ring = ring_puts e s.memory puts takes [] x refl h.ring;
      writer = subst (λ m. WriterAt e (over_now (Answer.Refused why)) m last x.l.written x.l.noticed x.put x.l.back x.l.replied x.over x.shut) (sym (refused_over e.writer p p.doing why)) (over_at e (over_now (Answer.Refused why)) p last x.l.written x.l.noticed x.put x.l.back x.l.replied x.over x.shut (idle (Answer.Refused why)) (has_now (Answer.Refused why)));
      reader = reader_now (Answer.Refused why);
    };
  }

  -- its write was answered
  told_written : (y : FlightId) → p.doing ≡ Writes → WriteFlies e p x.l.written x.l.noticed x.put x.over last (Packet.Answer y Answer.Written) → WriterTold Answer.Written
  told_written y doing phase = record {
    marks = record x { put = x.put + 1 };
    joined = record {
      ring = record {
        ring = h.ring.ring;
        memory = h.ring.memory;
        real = h.ring.real;
        last_notice = h.ring.last_notice;
        last_reply = h.ring.last_reply;
        put_least = (let z = h.ring.put_least in omega (arith, z));
        put_most = (let a = counts.written in let b = counts.put in omega (arith, a, b));
        took_most = h.ring.took_most;
        puts = ap (λ z. z ++ last) h.ring.puts ∙ (ap (λ z. pieces e.writer.chunk e.writer.bytes x.put ++ z) (phase.1.0 ∙ ap (piece_of e) (sym counts.put)) ∙ sym (pieces_on e.writer.chunk e.writer.bytes x.put));
        takes = h.ring.takes;
      };
      writer = subst (λ d. WriterAt e (over_now Answer.Written) (writer_at_answer e.writer p d Reply.Written) last x.l.written x.l.noticed (x.put + 1) x.l.back x.l.replied x.over x.shut) (sym doing) (record {
        by = (idle Answer.Written, (refl, (record { more = busy.more; room = busy.room }, record { written = counts.written ∙ sym this; noticed = counts.noticed; put = ap (λ z. z + 1) counts.put ∙ sym this; over = counts.over })));
        back = h.writer.back;
        few = h.writer.few;
        replies = replies_doing p x.l.replied x.shut Sends (queue_of (endpoint_at (over_now Answer.Written) e.w e.writer.reply)) (has_now Answer.Written).replies;
      });
      reader = reader_now Answer.Written;
    };
  }
    where
      busy : Busy e p
      busy = phase.1.1.0

      counts : WriterCounts x.l.written x.l.noticed x.put x.over (p.sent + 1) p.sent p.sent false
      counts = phase.1.1.1

      this : count_with_chunk e p ≡ p.sent + 1
      this = ap (λ z. p.sent + one z) phase.0

  -- its notice was answered
  told_sent : (y : FlightId) → p.doing ≡ Sends → NoticeFlies e p x.l.written x.l.noticed x.put x.over (Packet.Answer y Answer.Sent) → WriterTold Answer.Sent
  told_sent y doing phase = record {
    marks = x;
    joined = record {
      ring = ring_puts e s.memory puts takes [] x refl h.ring;
      writer = subst (λ d. WriterAt e (over_now Answer.Sent) (writer_at_answer e.writer p d Reply.Sent) last x.l.written x.l.noticed x.put x.l.back x.l.replied x.over x.shut) (sym doing) (chooses_at e (over_now Answer.Sent) (with_notice_sent e.writer p) last x.l.written x.l.noticed x.put x.l.back x.l.replied x.over x.shut (idle Answer.Sent) has_more rest);
      reader = reader_now Answer.Sent;
    };
  }
    where
      busy : Busy e p
      busy = phase.0

      counts : WriterCounts x.l.written x.l.noticed x.put x.over (count_with_chunk e p) (count_with_chunk e p) (count_with_chunk e p) (not (has_one e p.sent))
      counts = phase.1

      chunks : announced_count (with_notice_sent e.writer p) ≡ count_with_chunk e p
      chunks = by_more (has_one e p.sent)
        where
          by_more : (b : Bool) → (if not b then one_less (p.sent + 1) else p.sent + 1) ≡ p.sent + one b
          by_more true = refl
          by_more false = less_one_more p.sent ∙ omega arith

      rest : AtRest (with_notice_sent e.writer p) x.l.written x.l.noticed x.put x.over
      rest = record { written = counts.written ∙ sym chunks; noticed = counts.noticed ∙ sym chunks; put = counts.put ∙ sym chunks; over = counts.over }

      is_one : (b : Bool) → not b ≡ false → b ≡ true
      is_one true q = refl
      is_one false q = absurd (cc)

      replies_sent : (o : Option Queue) → RepliesOk p x.l.replied x.shut o → RepliesOk (with_notice_sent e.writer p) x.l.replied x.shut o
      replies_sent None k = tt
      replies_sent (Some q) k = k

      has_more : WriterHas e (over_now Answer.Sent) (with_notice_sent e.writer p) x.l.back x.l.replied x.shut
      has_more = record {
        back = λ z. h.writer.back busy.more;
        few = λ z. few_more e p.sent ok.numbers (is_one (has_one e p.sent) z);
        replies = replies_sent (queue_of (endpoint_at (over_now Answer.Sent) e.w e.writer.reply)) (has_now Answer.Sent).replies;
      }

  pub writes_told : (y : FlightId) (answer : Answer) → p.doing ≡ Writes → WriteFlies e p x.l.written x.l.noticed x.put x.over last (Packet.Answer y answer) → WriterTold answer
  writes_told y Answer.Written doing phase = told_written y doing phase
  writes_told y (Answer.Refused why) doing phase = told_refused why
  writes_told y Answer.Sent doing phase = absurd phase
  writes_told y Answer.Replied doing phase = absurd phase
  writes_told y (Answer.Bytes bytes) doing phase = absurd phase

  pub sends_told : (y : FlightId) (answer : Answer) → p.doing ≡ Sends → NoticeFlies e p x.l.written x.l.noticed x.put x.over (Packet.Answer y answer) → WriterTold answer
  sends_told y Answer.Sent doing phase = told_sent y doing phase
  sends_told y (Answer.Refused why) doing phase = told_refused why
  sends_told y Answer.Written doing phase = absurd phase
  sends_told y Answer.Replied doing phase = absurd phase
  sends_told y (Answer.Bytes bytes) doing phase = absurd phase
