-- The reader's read, replies and answers, where they land and where they come back.
use Rattle.std.proofs.Common.{◌≡◌, ℕ, ◌+◌, ◌<◌, ◌≤◌, Bool, true, false, List, [], ◌∷◌, ◌++◌, length, Some, None, refl, sym, subst, ◌∙◌, ap, arith, inl, inr, length-append}
use Rattle.std.specs.Prelude.{Option, if◌then◌else◌, ◌==◌, ◌⊎◌}
use Rattle.std.proofs.lemmas.Bool.Decides.{nat_tests}
use Rattle.std.proofs.lemmas.List.{get_or-set_same, append-nil}
use Rattle.m3_base.specs.declared.ids.FlightId.{FlightId}
use Rattle.m3_base.specs.declared.message.Message.{Message}
use Rattle.m3_base.specs.declared.packet.Packet.{Packet}
use Rattle.m3_base.specs.declared.command.Answer.{Answer}
use Rattle.m3_base.specs.declared.command.Refusal.{Refusal}
use Rattle.m3_base.specs.declared.command.Reply.{Reply}
use Rattle.m3_base.specs.declared.program.Seen.{Seen}
use Rattle.m3_base.specs.Lists.Counting.{one}
use Rattle.m3_base.specs.Ideal.Flights.{flight, change_flight, flight_name}
use Rattle.m3_base.specs.Ideal.Context.{Kind, Replying, Reading, Fetched, Endpoint, Free, Sends as Sends_by, Receives, Reaches, ReceiveRecord, Context, endpoint}
use Rattle.m3_base.specs.Ideal.ReceiveRecord.{without_token}
use Rattle.m3_base.specs.Ideal.Landing.{land_refusal, landed_answer, message_id, after_message, context_after_answer, endpoint_after_answer, bytes_at}
use Rattle.m3_base.specs.Ideal.State.{State, context_of, same_act}
use Rattle.m3_base.proofs.FlightNames.{name_found}
use Rattle.m3_laws.proofs.credits.Issue.{in_range}
use Rattle.m3_laws.proofs.credits.Counting.{at_set}
use Rattle.m3_pipe_laws.specs.Protocol.{WriterState, ReaderState, Waits, Reads, Replies, Closes, reader_step, reader_at_answer, reader_over, with_bytes, piece}
use Rattle.m3_pipe_laws.specs.Pipe.{Player, next_player, endpoint_at, endpoint_in, bytes_if_read}
use Rattle.m3_base.specs.Journal.Replies.{reply_of}
use Rattle.m3_pipe_laws.specs.Ring.{place_of, pieces}
use Rattle.m3_pipe_laws.proofs.Invariant.Sides.{Sides, piece_of, place_at, SidesOk}
use Rattle.m3_pipe_laws.proofs.Invariant.Flights.{lone_flying, flying_in, flying_of, LoneFlight, Queue, queue_of}
use Rattle.m3_pipe_laws.proofs.Invariant.WriterSide.{RepliesOk, WriterSide}
use Rattle.m3_pipe_laws.proofs.Invariant.ReaderSide.{ReaderCounts, ReadFlies, ReplyFlies, EndFlies, ReaderFlies, Due, AreNotices, IsAtHand, AtHand, InboxIs, InboxOk, fetched_count, is_open_phase, holds_notice, ReaderSide}
use Rattle.m3_pipe_laws.proofs.Invariant.WholePipe.{RingSide, Marks, PipeAt}
use Rattle.m3_pipe_laws.proofs.Others.Frames.{Steady, side_put, side_same, steady_put, NotOwn, not_issuer, same_changed, kept_same, message_landed}
use Rattle.m3_pipe_laws.proofs.Others.Sides.{writer_stays, writer_by}
use Rattle.m3_pipe_laws.proofs.Ring.Delivery.{read_lands, reply_lands}
use Rattle.m3_pipe_laws.proofs.Writer.Landings.{Joins, changed_found, landed_queue, taken_act, taken_flying}
use Rattle.m3_pipe_laws.proofs.Writer.Answers.{is_reply, ended, ended_now, ended_idle, ended_queue, ended_side, pieces_on}
use Rattle.m3_pipe_laws.proofs.Reader.Commands.{ReaderAt, finished_at, refused_finished}
use Rattle.m3_base.proofs.Activities.{same_act-is, act_found, context-put_other, context-put_same}

-- ---- the read lands

module _ (e : Sides) (s : State) (ok : SidesOk e) (pw : Player WriterState) (p : ReaderState) (last puts takes : List ℕ) (x : Marks) where
  pub read_landed : (number place g : ℕ) (y : FlightId) (buffer : List ℕ) → PipeAt e s pw (record { at = p; wants = None }) last puts takes x → p.task ≡ Reads → flying_of e.r s ≡ lone_flying number Reading e.reader.mem 0 → flight (flight_name e.r number) s.flights ≡ Some (Packet.Read y g place buffer) → ReadFlies e p x.l.read x.l.replied x.took x.shut (Packet.Read y g place buffer) →
      Joins e (record s { flights = change_flight (Packet.Answer (flight_name e.r number) (Answer.Bytes (bytes_at place (length buffer) s.memory))) s.flights }) pw (record { at = p; wants = None }) last puts takes
  read_landed number place g y buffer h task fly find phase = record { marks = new; joined = record { ring = ring; writer = writer; reader = reader } }
    where
      answer : Answer
      answer = Answer.Bytes (bytes_at place (length buffer) s.memory)

      n : State
      n = record s { flights = change_flight (Packet.Answer (flight_name e.r number) (Answer.Bytes (bytes_at place (length buffer) s.memory))) s.flights }

      new : Marks
      new = record x { l = record x.l { read = x.l.read + 1; got = x.l.got ++ bytes_at (place_of e.writer e.out.start x.l.read) (length (piece e.writer.chunk e.writer.bytes x.l.read)) x.l.memory } }

      stood : ReaderCounts x.l.read x.l.replied x.took x.shut p.next p.next p.next
      stood = phase.1.1

      due : p.next < x.l.noticed
      due = subst (Due p x.l.noticed x.over) task h.reader.due

      below : x.l.read < x.l.noticed
      below = let a = stood.read in omega (arith, a, due)

      came : bytes_at place (length buffer) s.memory ≡ piece_of e p.next
      came =
          let a = stood.read in
          let most : p.next < x.l.written = (let z = h.ring.ring.noticed_most in omega (arith, z, due)) in
          ap (λ z. bytes_at z (length buffer) s.memory) phase.0 ∙ (ap (λ z. bytes_at (place_at e p.next) z s.memory) phase.1.0 ∙ (ap (bytes_at (place_at e p.next) (length (piece_of e p.next))) (sym h.ring.memory) ∙ h.ring.ring.content p.next (omega (arith, a)) most))

      ring : RingSide e s.memory puts takes new
      ring = record {
        ring = read_lands e.writer e.out.start x.l h.ring.ring below;
        memory = h.ring.memory;
        real = h.ring.real;
        last_notice = h.ring.last_notice;
        last_reply = h.ring.last_reply;
        put_least = h.ring.put_least;
        put_most = h.ring.put_most;
        took_most = (let z = h.ring.took_most in omega (arith, z));
        puts = h.ring.puts;
        takes = h.ring.takes;
      }

      writer : WriterSide e n pw last x.l.written x.l.noticed x.put x.l.back x.l.replied x.over x.shut
      writer = writer_stays e s n pw last x.l.written x.l.noticed x.put x.l.back x.l.replied x.over x.shut (side_same e.w e.writer.reply s n refl (same_changed e.w s (Packet.Answer (flight_name e.r number) answer) (not_issuer e.w s (flight_name e.r number) ok.apart))) h.writer

      flown : LoneFlight e.r n Reading e.reader.mem 0 (ReadFlies e p (x.l.read + 1) x.l.replied x.took x.shut)
      flown = record {
        number = number;
        flying = fly;
        packet = Packet.Answer (flight_name e.r number) (Answer.Bytes (bytes_at place (length buffer) s.memory));
        found = changed_found e.r number (Packet.Read y g place buffer) (Packet.Answer (flight_name e.r number) (Answer.Bytes (bytes_at place (length buffer) s.memory))) s refl find;
        phase = (came, record { read = ap (λ z. z + 1) stood.read; replied = stood.replied; took = stood.took; more = stood.more });
      }

      reader : ReaderSide e n (record { at = p; wants = None }) takes x.l.noticed (x.l.read + 1) x.l.replied x.took x.over x.shut
      reader = record { by = subst (ReaderFlies e n p (x.l.read + 1) x.l.replied x.took x.shut) (sym task) flown; due = h.reader.due; inbox = h.reader.inbox; taken = h.reader.taken }

-- ---- a reply lands

module _ (e : Sides) (s : State) (ok : SidesOk e) (pw : Player WriterState) (p : ReaderState) (last puts takes : List ℕ) (x : Marks) (h : PipeAt e s pw (record { at = p; wants = None }) last puts takes x) (number : ℕ) (fly : flying_of e.r s ≡ lone_flying number Replying e.reader.recv p.token) (m : Message) (find : flight (flight_name e.r number) s.flights ≡ Some (Packet.Message e.w e.writer.reply e.replies.grant m)) (flags : m.header.flags ≡ 1) (c : Context) (at : context_of e.w s.contexts ≡ Some c) where
  is_act : e.w ≡ c.act
  is_act = act_found e.w c s.contexts at

  name : flight_name e.r number ≡ message_id m
  name = name_found (flight_name e.r number) (Packet.Message e.w e.writer.reply e.replies.grant m) s.flights find

  not_writer : NotOwn e.w s (message_id m)
  not_writer = subst (NotOwn e.w s) name (not_issuer e.w s (flight_name e.r number) ok.apart)

  reader_context : (d : Context) (answer : Answer) → d.act ≡ c.act → context_of e.r (message_landed s m d answer).contexts ≡ context_of e.r s.contexts
  reader_context d answer q = context-put_other e.r d s.contexts (by_bool (same_act e.r d.act) refl)
    where
      by_bool : (b : Bool) → same_act e.r d.act ≡ b → b ≡ false
      by_bool false w = refl
      by_bool true w = absurd (ok.apart (sym (same_act-is e.r d.act w ∙ (q ∙ sym is_act))))

  pub flown_after : (d : Context) (answer : Answer) (P : Packet → Type 0) → d.act ≡ c.act → P (Packet.Answer (message_id m) answer) → LoneFlight e.r (message_landed s m d answer) Replying e.reader.recv p.token P
  flown_after d answer P q phase = record {
    number = number;
    flying = ap flying_in (reader_context d answer q) ∙ fly;
    packet = Packet.Answer (message_id m) answer;
    found = changed_found e.r number (Packet.Message e.w e.writer.reply e.replies.grant m) (Packet.Answer (message_id m) answer) s (sym name) find;
    phase = phase;
  }

  reader_after : (d : Context) (answer : Answer) (replied : ℕ) (shut : Bool) → d.act ≡ c.act → ReaderFlies e (message_landed s m d answer) p x.l.read replied x.took shut p.task → ReaderSide e (message_landed s m d answer) (record { at = p; wants = None }) takes x.l.noticed x.l.read replied x.took x.over shut
  reader_after d answer replied shut q by = record { by = by; due = h.reader.due; inbox = subst (InboxOk e p x.l.noticed x.over) (ap (λ z. queue_of (endpoint_in e.reader.recv z)) (sym (reader_context d answer q))) h.reader.inbox; taken = h.reader.taken }

  pub reply_refused : (why : Refusal) → ReaderFlies e (message_landed s m c (Answer.Refused why)) p x.l.read x.l.replied x.took x.shut p.task → Joins e (message_landed s m c (Answer.Refused why)) pw (record { at = p; wants = None }) last puts takes
  reply_refused why by = record {
    marks = x;
    joined = record {
      ring = h.ring;
      writer = writer_stays e s (message_landed s m c (Answer.Refused why)) pw last x.l.written x.l.noticed x.put x.l.back x.l.replied x.over x.shut (side_put e.w e.writer.reply s (message_landed s m c (Answer.Refused why)) c c refl (subst (λ z. context_of z s.contexts ≡ Some c) is_act at) (λ z. (refl, kept_same (endpoint c e.writer.reply))) (same_changed e.w s (Packet.Answer (message_id m) (Answer.Refused why)) not_writer)) h.writer;
      reader = reader_after c (Answer.Refused why) x.l.replied x.shut refl by;
    };
  }

  is_replied : landed_answer m ≡ Answer.Replied
  is_replied = let q : (m.header.flags == 0) ≡ false = grind (arith, nat_tests, flags) in ap (λ b. if b then Answer.Sent else Answer.Replied) q

  replies_more : (q : Queue) (d : ℕ) (shut : Bool) → x.l.replied + one x.shut + 1 ≤ d + one shut → RepliesOk pw.at x.l.replied x.shut (Some q) → RepliesOk pw.at d shut (Some (record { unread = q.unread ++ m ∷ []; fetched = q.fetched }))
  replies_more q d shut least k = omega (arith, least, k, length-append q.unread (m ∷ []))

  writer_after : (replied : ℕ) (shut : Bool) → land_refusal e.replies.grant m (endpoint c e.writer.reply) ≡ None → x.l.replied + one x.shut + 1 ≤ replied + one shut → WriterSide e (message_landed s m (after_message e.writer.reply m c) Answer.Replied) pw last x.l.written x.l.noticed x.put x.l.back replied x.over shut
  writer_after replied shut lands least =
      let d = after_message e.writer.reply m c in
      let n = message_landed s m d Answer.Replied in
      let there = landed_queue e.writer.reply e.replies.grant m c lands in
      let found : context_of d.act s.contexts ≡ Some c = subst (λ z. context_of z s.contexts ≡ Some c) (is_act ∙ sym (taken_act e.writer.reply m c)) at in
      let now : context_of e.w n.contexts ≡ Some d = subst (λ z. context_of z n.contexts ≡ Some d) (taken_act e.writer.reply m c ∙ sym is_act) (context-put_same c d s.contexts found) in
      let steady : Steady e.w s n = steady_put e.w s n c d refl found (λ z. taken_flying e.writer.reply m c) (same_changed e.w s (Packet.Answer (message_id m) Answer.Replied) not_writer) in
      let old : RepliesOk pw.at x.l.replied x.shut (queue_of (endpoint c e.writer.reply)) = subst (RepliesOk pw.at x.l.replied x.shut) (ap (λ z. queue_of (endpoint_in e.writer.reply z)) at) h.writer.replies in
      let old_some = subst (RepliesOk pw.at x.l.replied x.shut) (ap queue_of there.1.0) old in
      record {
        by = writer_by e s n pw.at x.l.written x.l.noticed x.put x.over last pw.wants steady h.writer.by;
        back = h.writer.back;
        few = h.writer.few;
        replies = subst (RepliesOk pw.at replied shut) (sym (ap (λ z. queue_of (endpoint_in e.writer.reply z)) now ∙ there.1.1)) (replies_more (record { unread = (there.0).unread; fetched = (there.0).fetched }) replied shut least old_some);
      }

  -- a chunk's reply
  pub reply_landed : p.task ≡ Replies → ReaderCounts x.l.read x.l.replied x.took x.shut (p.next + 1) p.next (p.next + 1) → land_refusal e.replies.grant m (endpoint c e.writer.reply) ≡ None → Joins e (message_landed s m (after_message e.writer.reply m c) (landed_answer m)) pw (record { at = p; wants = None }) last puts takes
  reply_landed task stood lands = subst (λ z. Joins e (message_landed s m (after_message e.writer.reply m c) z) pw (record { at = p; wants = None }) last puts takes) (sym is_replied) (record {
    marks = record x { l = record x.l { replied = x.l.replied + 1 } };
    joined = record {
      ring = record {
        ring = reply_lands e.writer e.out.start x.l h.ring.ring (let a = stood.read in let b = stood.replied in omega (arith, a, b));
        memory = h.ring.memory;
        real = h.ring.real;
        last_notice = h.ring.last_notice;
        last_reply = h.ring.last_reply;
        put_least = h.ring.put_least;
        put_most = h.ring.put_most;
        took_most = h.ring.took_most;
        puts = h.ring.puts;
        takes = h.ring.takes;
      };
      writer = writer_after (x.l.replied + 1) x.shut lands (omega arith);
      reader = reader_after (after_message e.writer.reply m c) Answer.Replied (x.l.replied + 1) x.shut (taken_act e.writer.reply m c) (subst (ReaderFlies e (message_landed s m (after_message e.writer.reply m c) Answer.Replied) p x.l.read (x.l.replied + 1) x.took x.shut) (sym task) (flown_after (after_message e.writer.reply m c) Answer.Replied (ReplyFlies e p x.l.read (x.l.replied + 1) x.took x.shut) (taken_act e.writer.reply m c) (record { read = stood.read; replied = ap (λ z. z + 1) stood.replied; took = stood.took; more = stood.more })));
    };
  })

  -- the end's reply
  pub end_landed : p.task ≡ Closes → ReaderCounts x.l.read x.l.replied x.took x.shut p.next p.next p.next → land_refusal e.replies.grant m (endpoint c e.writer.reply) ≡ None → Joins e (message_landed s m (after_message e.writer.reply m c) (landed_answer m)) pw (record { at = p; wants = None }) last puts takes
  end_landed task stood lands = subst (λ z. Joins e (message_landed s m (after_message e.writer.reply m c) z) pw (record { at = p; wants = None }) last puts takes) (sym is_replied) (record {
    marks = record x { shut = true };
    joined = record {
      ring = record {
        ring = h.ring.ring;
        memory = h.ring.memory;
        real = h.ring.real;
        last_notice = h.ring.last_notice;
        last_reply = λ z. subst (Due p x.l.noticed x.over) task h.reader.due;
        put_least = h.ring.put_least;
        put_most = h.ring.put_most;
        took_most = h.ring.took_most;
        puts = h.ring.puts;
        takes = h.ring.takes;
      };
      writer = writer_after x.l.replied true lands (let z = ap one stood.more in omega (arith, z));
      reader = reader_after (after_message e.writer.reply m c) Answer.Replied x.l.replied true (taken_act e.writer.reply m c) (subst (ReaderFlies e (message_landed s m (after_message e.writer.reply m c) Answer.Replied) p x.l.read x.l.replied x.took true) (sym task) (flown_after (after_message e.writer.reply m c) Answer.Replied (EndFlies e p x.l.read x.l.replied x.took true) (taken_act e.writer.reply m c) tt));
    };
  })

-- ---- answers come back

pub ring_takes : (e : Sides) (bytes puts takes more : List ℕ) (x : Marks) → more ≡ [] → RingSide e bytes puts takes x → RingSide e bytes puts (takes ++ more) x
ring_takes e bytes puts takes more x q h = subst (λ z. RingSide e bytes puts z x) (sym (ap (λ z. takes ++ z) q ∙ append-nil takes)) h

module _ (e : Sides) (s : State) (ok : SidesOk e) (pw : Player WriterState) (p : ReaderState) (last puts takes : List ℕ) (x : Marks) (h : PipeAt e s pw (record { at = p; wants = None }) last puts takes x) (number : ℕ) (kind : Kind) (ep token : ℕ) (c : Context) (at : context_of e.r s.contexts ≡ Some c) (fly : flying_of e.r s ≡ lone_flying number kind ep token) where
  abbrev pub over_now : Answer → State
  over_now answer = ended s e.r number kind ep token answer c at fly

  idle : (answer : Answer) → flying_of e.r (over_now answer) ≡ []
  idle answer = ended_idle s e.r number kind ep token answer c at fly

  writer_now : (answer : Answer) → WriterSide e (over_now answer) pw last x.l.written x.l.noticed x.put x.l.back x.l.replied x.over x.shut
  writer_now answer = writer_stays e s (over_now answer) pw last x.l.written x.l.noticed x.put x.l.back x.l.replied x.over x.shut (ended_side s e.r number kind ep token answer c at fly e.w e.writer.reply ok.apart) h.writer

  abbrev pub ReaderTold : Answer → Type 0
  ReaderTold answer = Joins e (over_now answer) pw (next_player (reader_step e.reader) e.r p (Seen.Answer (reply_of answer))) last puts (takes ++ bytes_if_read answer)

  finished_now : (answer : Answer) → bytes_if_read answer ≡ [] → reader_at_answer e.reader p p.task (reply_of answer) ≡ reader_over p → ReaderTold answer
  finished_now answer none q = record {
    marks = x;
    joined = record {
      ring = ring_takes e s.memory puts takes (bytes_if_read answer) x none h.ring;
      writer = writer_now answer;
      reader = subst (λ m. ReaderAt e (over_now answer) m (takes ++ bytes_if_read answer) x.l.noticed x.l.read x.l.replied x.took x.over x.shut) (sym q) (finished_at e (over_now answer) p (takes ++ bytes_if_read answer) x.l.noticed x.l.read x.l.replied x.took x.over x.shut (idle answer) (ap (λ z. takes ++ z) none ∙ (append-nil takes ∙ h.reader.taken)));
    };
  }

  told_refused : (why : Refusal) → ReaderTold (Answer.Refused why)
  told_refused why = finished_now (Answer.Refused why) refl (refused_finished e.reader p p.task why)

  -- its read was answered
  told_bytes : (y : FlightId) (bytes : List ℕ) → p.task ≡ Reads → is_reply kind ≡ false → ReadFlies e p x.l.read x.l.replied x.took x.shut (Packet.Answer y (Answer.Bytes bytes)) → ReaderTold (Answer.Bytes bytes)
  told_bytes y bytes task no_reply phase = record {
    marks = record x { took = x.took + 1 };
    joined = record {
      ring = record {
        ring = h.ring.ring;
        memory = h.ring.memory;
        real = h.ring.real;
        last_notice = h.ring.last_notice;
        last_reply = h.ring.last_reply;
        put_least = h.ring.put_least;
        put_most = h.ring.put_most;
        took_most = (let a = stood.read in let b = stood.took in omega (arith, a, b));
        puts = h.ring.puts;
        takes = ap (λ z. z ++ bytes) h.ring.takes ∙ (ap (λ z. pieces e.writer.chunk e.writer.bytes x.took ++ z) (phase.0 ∙ ap (piece_of e) (sym stood.took)) ∙ sym (pieces_on e.writer.chunk e.writer.bytes x.took));
      };
      writer = writer_now (Answer.Bytes bytes);
      reader = subst (λ t. ReaderAt e (over_now (Answer.Bytes bytes)) (reader_at_answer e.reader p t (Reply.Bytes bytes)) (takes ++ bytes) x.l.noticed x.l.read x.l.replied (x.took + 1) x.over x.shut) (sym task) (record {
        by = (idle (Answer.Bytes bytes), (refl, record { read = stood.read; replied = stood.replied; took = ap (λ z. z + 1) stood.took; more = stood.more }));
        due = tt;
        inbox = subst (InboxOk e (record (with_bytes p bytes) { task = Replies }) x.l.noticed x.over) (sym (ended_queue s e.r number kind ep token (Answer.Bytes bytes) c at fly e.reader.recv no_reply)) (still_held (queue_of (endpoint_at s e.r e.reader.recv)) h.reader.inbox);
        taken = ap (λ z. z ++ bytes) h.reader.taken;
      });
    };
  }
    where
      stood : ReaderCounts x.l.read x.l.replied x.took x.shut (p.next + 1) p.next p.next
      stood = phase.1

      fetched_so : fetched_count p ≡ p.next + 1
      fetched_so = ap (λ t. p.next + one (holds_notice t)) task

      still_held : (o : Option Queue) → InboxOk e p x.l.noticed x.over o → InboxOk e (record (with_bytes p bytes) { task = Replies }) x.l.noticed x.over o
      still_held None k = tt
      still_held (Some q) k = λ on.
          let is = k (ap is_open_phase task) in
          let hand : IsAtHand e p q.fetched = subst (λ t. AtHand e p q.fetched (holds_notice t)) task is.hand in
          record { notices = subst (λ z. AreNotices e z q.unread) fetched_so is.notices; count = ap (λ z. z + length q.unread) (sym fetched_so) ∙ is.count; hand = record { fetched = hand.fetched; only = hand.only; token = hand.token; notice = hand.notice } }

  pub reads_told : (y : FlightId) (answer : Answer) → p.task ≡ Reads → is_reply kind ≡ false → ReadFlies e p x.l.read x.l.replied x.took x.shut (Packet.Answer y answer) → ReaderTold answer
  reads_told y (Answer.Bytes bytes) task no_reply phase = told_bytes y bytes task no_reply phase
  reads_told y (Answer.Refused why) task no_reply phase = told_refused why
  reads_told y Answer.Sent task no_reply phase = absurd phase
  reads_told y Answer.Replied task no_reply phase = absurd phase
  reads_told y Answer.Written task no_reply phase = absurd phase

  pub closes_told : (y : FlightId) (answer : Answer) → p.task ≡ Closes → EndFlies e p x.l.read x.l.replied x.took x.shut (Packet.Answer y answer) → ReaderTold answer
  closes_told y Answer.Replied task phase = finished_now Answer.Replied refl (ap (λ t. reader_at_answer e.reader p t Reply.Replied) task)
  closes_told y (Answer.Refused why) task phase = told_refused why
  closes_told y Answer.Sent task phase = absurd phase
  closes_told y Answer.Written task phase = absurd phase
  closes_told y (Answer.Bytes bytes) task phase = absurd phase

-- a chunk's reply was answered: its message is gone
module _ (e : Sides) (s : State) (ok : SidesOk e) (pw : Player WriterState) (p : ReaderState) (last puts takes : List ℕ) (x : Marks) (h : PipeAt e s pw (record { at = p; wants = None }) last puts takes x) (number : ℕ) (c : Context) (at : context_of e.r s.contexts ≡ Some c) (fly : flying_of e.r s ≡ lone_flying number Replying e.reader.recv p.token) where
  abbrev n : State
  n = ended s e.r number Replying e.reader.recv p.token Answer.Replied c at fly

  old_inbox : InboxOk e p x.l.noticed x.over (queue_of (endpoint c e.reader.recv))
  old_inbox = subst (InboxOk e p x.l.noticed x.over) (ap (λ z. queue_of (endpoint_in e.reader.recv z)) at) h.reader.inbox

  without_hand : (t : ℕ) (f : Fetched) → f.token ≡ t → without_token t (f ∷ []) ≡ []
  without_hand t f q = grind (arith, nat_tests, q)

  told_replied : p.task ≡ Replies → ReaderCounts x.l.read x.l.replied x.took x.shut (p.next + 1) (p.next + 1) (p.next + 1) → ReaderTold e s ok pw p last puts takes x h number Replying e.reader.recv p.token c at fly Answer.Replied
  told_replied task stood = record {
    marks = x;
    joined = record {
      ring = ring_takes e s.memory puts takes [] x refl h.ring;
      writer = writer_stays e s n pw last x.l.written x.l.noticed x.put x.l.back x.l.replied x.over x.shut (ended_side s e.r number Replying e.reader.recv p.token Answer.Replied c at fly e.w e.writer.reply ok.apart) h.writer;
      reader = subst (λ t. ReaderAt e n (reader_at_answer e.reader p t Reply.Replied) (takes ++ []) x.l.noticed x.l.read x.l.replied x.took x.over x.shut) (sym task) (record {
        by = (ended_idle s e.r number Replying e.reader.recv p.token Answer.Replied c at fly, (refl, stood));
        due = tt;
        inbox = by_end (endpoint c e.reader.recv) refl;
        taken = append-nil takes ∙ h.reader.taken;
      });
    };
  }
    where
      fetched_so : fetched_count p ≡ p.next + 1
      fetched_so = ap (λ t. p.next + one (holds_notice t)) task

      now : queue_of (endpoint_at n e.r e.reader.recv) ≡ queue_of (endpoint (context_after_answer (record { number = number; kind = Replying; ep = e.reader.recv; token = p.token }) Answer.Replied c) e.reader.recv)
      now = ap (λ z. queue_of (endpoint_in e.reader.recv z)) (ended_now s e.r number Replying e.reader.recv p.token Answer.Replied c at fly)

      some_record : (y : ReceiveRecord) → Receives y ≡ Free → ⊥
      some_record y z = absurd (cc)

      -- a place with no queue has none after it
      no_queue : queue_of (endpoint c e.reader.recv) ≡ None → queue_of (endpoint_after_answer Replying p.token Answer.Replied (endpoint c e.reader.recv)) ≡ None → queue_of (endpoint_at n e.r e.reader.recv) ≡ None
      no_queue a b = now ∙ by_set (at_set c.endpoints e.reader.recv e.reader.recv (endpoint_after_answer Replying p.token Answer.Replied (endpoint c e.reader.recv)))
        where
          by_set : (endpoint (context_after_answer (record { number = number; kind = Replying; ep = e.reader.recv; token = p.token }) Answer.Replied c) e.reader.recv ≡ endpoint c e.reader.recv) ⊎ ((e.reader.recv ≡ e.reader.recv) × (endpoint (context_after_answer (record { number = number; kind = Replying; ep = e.reader.recv; token = p.token }) Answer.Replied c) e.reader.recv ≡ endpoint_after_answer Replying p.token Answer.Replied (endpoint c e.reader.recv))) → queue_of (endpoint (context_after_answer (record { number = number; kind = Replying; ep = e.reader.recv; token = p.token }) Answer.Replied c) e.reader.recv) ≡ None
          by_set (inl q) = ap queue_of q ∙ a
          by_set (inr q) = ap queue_of q.1 ∙ b

      next : ReaderState
      next = record p { next = p.next + 1; task = Waits }

      none_ok : queue_of (endpoint_at n e.r e.reader.recv) ≡ None → InboxOk e next x.l.noticed x.over (queue_of (endpoint_at n e.r e.reader.recv))
      none_ok q = subst (InboxOk e next x.l.noticed x.over) (sym q) tt

      by_end : (y : Endpoint) → endpoint c e.reader.recv ≡ y → InboxOk e next x.l.noticed x.over (queue_of (endpoint_at n e.r e.reader.recv))
      by_end Free q = none_ok (no_queue (ap queue_of q) (ap (λ z. queue_of (endpoint_after_answer Replying p.token Answer.Replied z)) q))
      by_end (Sends_by r) q = none_ok (no_queue (ap queue_of q) (ap (λ z. queue_of (endpoint_after_answer Replying p.token Answer.Replied z)) q))
      by_end (Reaches r) q = none_ok (no_queue (ap queue_of q) (ap (λ z. queue_of (endpoint_after_answer Replying p.token Answer.Replied z)) q))
      by_end (Receives r) q =
          let is : InboxIs e p x.l.noticed x.over (record { unread = r.unread; fetched = r.fetched }) = subst (λ z. InboxOk e p x.l.noticed x.over (queue_of z)) q old_inbox (ap is_open_phase task) in
          let hand : IsAtHand e p r.fetched = subst (λ t. AtHand e p r.fetched (holds_notice t)) task is.hand in
          let gone : without_token p.token r.fetched ≡ [] = ap (without_token p.token) hand.only ∙ without_hand p.token hand.fetched hand.token in
          let there : queue_of (endpoint_at n e.r e.reader.recv) ≡ Some (record { unread = r.unread; fetched = without_token p.token r.fetched }) = now ∙ ap queue_of (get_or-set_same c.endpoints e.reader.recv (endpoint_after_answer Replying p.token Answer.Replied (endpoint c e.reader.recv)) Free (in_range c.endpoints e.reader.recv (λ z. some_record r (sym q ∙ z))) ∙ ap (endpoint_after_answer Replying p.token Answer.Replied) q) in
          let same : p.next + 1 + 0 ≡ fetched_count p = omega (arith, fetched_so) in
          subst (InboxOk e next x.l.noticed x.over) (sym there) (λ on. record { notices = subst (λ z. AreNotices e z r.unread) (sym same) is.notices; count = ap (λ z. z + length r.unread) same ∙ is.count; hand = gone })

  pub replies_told : (y : FlightId) (answer : Answer) → p.task ≡ Replies → ReplyFlies e p x.l.read x.l.replied x.took x.shut (Packet.Answer y answer) → ReaderTold e s ok pw p last puts takes x h number Replying e.reader.recv p.token c at fly answer
  replies_told y Answer.Replied task phase = told_replied task phase
  replies_told y (Answer.Refused why) task phase = told_refused e s ok pw p last puts takes x h number Replying e.reader.recv p.token c at fly why
  replies_told y Answer.Sent task phase = absurd phase
  replies_told y Answer.Written task phase = absurd phase
  replies_told y (Answer.Bytes bytes) task phase = absurd phase
