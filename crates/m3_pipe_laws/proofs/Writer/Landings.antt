-- The writer's write, notice and answers, where they land and where they come back.
use Rattle.std.proofs.Common.{◌≡◌, ℕ, suc, ◌+◌, ◌<◌, ◌≤◌, Bool, true, false, List, [], ◌∷◌, ◌++◌, length, Some, None, refl, sym, subst, ◌∙◌, ap, arith, length-append}
use Rattle.std.specs.Prelude.{if◌then◌else◌, ◌==◌, not}
use Rattle.std.proofs.lemmas.Bool.Decides.{nat_tests}
use Rattle.std.proofs.lemmas.List.{get_or-set_same}
use Rattle.m3_base.specs.declared.ids.FlightId.{FlightId}
use Rattle.m3_base.specs.declared.message.Message.{Message}
use Rattle.m3_base.specs.declared.packet.Packet.{Packet}
use Rattle.m3_base.specs.declared.command.Answer.{Answer}
use Rattle.m3_base.specs.declared.command.Refusal.{Refusal}
use Rattle.m3_base.specs.Lists.Counting.{one}
use Rattle.m3_base.specs.Ideal.Flights.{flight, name_of, same_name, name_before, change_flight, flight_name}
use Rattle.m3_base.specs.Ideal.Context.{Sending, Writing, Endpoint, Free, Sends as Sends_by, Receives, Reaches, ReceiveRecord, Context, endpoint, with_endpoint}
use Rattle.m3_base.specs.Ideal.Landing.{land_refusal, landed_answer, message_id, with_message, after_message, with_credit, written_at}
use Rattle.m3_base.specs.Ideal.State.{State, context_of, same_act}
use Rattle.m3_base.proofs.KeyedList.{find-replaced_same}
use Rattle.m3_base.proofs.FlightNames.{name_found, same_name-itself}
use Rattle.m3_laws.proofs.credits.Issue.{in_range}
use Rattle.m3_pipe_laws.specs.Protocol.{WriterState, Writes, Sends, piece, ReaderState, ReaderPhase, Starts, Waits, Looks, Reads, Replies, Closes, Finished}
use Rattle.m3_pipe_laws.specs.Pipe.{Player, endpoint_in}
use Rattle.m3_pipe_laws.specs.Ring.{place_of}
use Rattle.m3_pipe_laws.proofs.Invariant.Sides.{Sides, has_one, SidesOk}
use Rattle.m3_pipe_laws.proofs.Invariant.Flights.{lone_flying, flying_in, flying_of, LoneFlight, Queue, queue_of}
use Rattle.m3_pipe_laws.proofs.Invariant.WriterSide.{Busy, WriterCounts, count_with_chunk, WriteFlies, NoticeFlies, IsNotice, WriterFlies, RepliesOk, WriterSide}
use Rattle.m3_pipe_laws.proofs.Invariant.ReaderSide.{ReaderSide, AreNotices, InboxOk, Due, fetched_count}
use Rattle.m3_pipe_laws.proofs.Invariant.WholePipe.{RingSide, Marks, PipeAt}
use Rattle.m3_pipe_laws.proofs.Others.Frames.{Steady, side_put, side_same, steady_put, NotOwn, not_issuer, same_changed, kept_same, queue_taken, message_landed}
use Rattle.m3_pipe_laws.proofs.Others.Sides.{reader_stays, reader_by}
use Rattle.m3_pipe_laws.proofs.Ring.Delivery.{write_lands, notice_lands}
use Rattle.m3_base.proofs.Activities.{act_found, context-put_same, context-put_other, same_act-is}

-- the joined sides, for some marks
pub record Joins (e : Sides) (s : State) (pw : Player WriterState) (pr : Player ReaderState) (last puts takes : List ℕ) : Type 0 where
  pub marks : Marks
  pub joined : PipeAt e s pw pr last puts takes marks

pub changed_found : (a k : ℕ) (old p : Packet) (s : State) → name_of p ≡ flight_name a k → flight (flight_name a k) s.flights ≡ Some old → flight (flight_name a k) (change_flight p s.flights) ≡ Some p
changed_found a k old p s n find = subst (λ z. flight z (change_flight p s.flights) ≡ Some p) n (find-replaced_same name_of same_name name_before p old s.flights (same_name-itself (name_of p)) (subst (λ z. flight z s.flights ≡ Some old) (sym n) find))

-- ---- the write lands

module _ (e : Sides) (s : State) (ok : SidesOk e) (p : WriterState) (pr : Player ReaderState) (last puts takes : List ℕ) (x : Marks) where
  write_marks : Marks
  write_marks = record x { l = record x.l { memory = written_at (place_of e.writer e.out.start x.l.written) (piece e.writer.chunk e.writer.bytes x.l.written) x.l.memory; written = x.l.written + 1 } }

  pub write_landed : (number place g : ℕ) (y : FlightId) (payload : List ℕ) → PipeAt e s (record { at = p; wants = None }) pr last puts takes x → p.doing ≡ Writes → flying_of e.w s ≡ lone_flying number Writing e.writer.mem 0 → flight (flight_name e.w number) s.flights ≡ Some (Packet.Write y g place payload) → WriteFlies e p x.l.written x.l.noticed x.put x.over last (Packet.Write y g place payload) →
      Joins e (record s { memory = written_at place payload s.memory; flights = change_flight (Packet.Answer (flight_name e.w number) Answer.Written) s.flights }) (record { at = p; wants = None }) pr last puts takes
  write_landed number place g y payload h doing fly find phase =
      record { marks = new; joined = record { ring = ring; writer = writer; reader = reader } }
    where
      new : Marks
      new = record x { l = record x.l { memory = written_at (place_of e.writer e.out.start x.l.written) (piece e.writer.chunk e.writer.bytes x.l.written) x.l.memory; written = x.l.written + 1 } }

      n : State
      n = record s { memory = written_at place payload s.memory; flights = change_flight (Packet.Answer (flight_name e.w number) Answer.Written) s.flights }

      busy : Busy e p
      busy = phase.1.1.1.1.0

      counts : WriterCounts x.l.written x.l.noticed x.put x.over p.sent p.sent p.sent false
      counts = phase.1.1.1.1.1

      same_place : place ≡ place_of e.writer e.out.start x.l.written
      same_place = phase.0 ∙ ap (place_of e.writer e.out.start) (sym counts.written)

      same_payload : payload ≡ piece e.writer.chunk e.writer.bytes x.l.written
      same_payload = phase.1.0 ∙ ap (piece e.writer.chunk e.writer.bytes) (sym counts.written)

      room : x.l.written < x.l.back + e.writer.ring
      room = let a = h.writer.back busy.more in let b = busy.room in let c = counts.written in omega (arith, a, b, c)

      same_memory : new.l.memory ≡ n.memory
      same_memory = rw (same_place, same_payload) (ap (written_at (place_of e.writer e.out.start x.l.written) (piece e.writer.chunk e.writer.bytes x.l.written)) h.ring.memory)

      real : (i : ℕ) → i < x.l.written + 1 → has_one e i ≡ true
      real i a = by_last (i == x.l.written) refl
        where
          by_last : (b : Bool) → (i == x.l.written) ≡ b → has_one e i ≡ true
          by_last true w = let q : i ≡ p.sent = grind (arith, nat_tests, w, counts.written) in subst (λ z. has_one e z ≡ true) (sym q) phase.1.1.0
          by_last false w = h.ring.real i (grind (arith, nat_tests, w, a))

      ring : RingSide e n.memory puts takes new
      ring = record {
        ring = write_lands e.writer e.out.start x.l h.ring.ring (counts.written ∙ sym counts.noticed) room;
        memory = same_memory;
        real = real;
        last_notice = h.ring.last_notice;
        last_reply = h.ring.last_reply;
        put_least = h.ring.put_least;
        put_most = (let z = h.ring.put_most in omega (arith, z));
        took_most = h.ring.took_most;
        puts = h.ring.puts;
        takes = h.ring.takes;
      }

      flown : LoneFlight e.w n Writing e.writer.mem 0 (WriteFlies e p (x.l.written + 1) x.l.noticed x.put x.over last)
      flown = record {
        number = number;
        flying = fly;
        packet = Packet.Answer (flight_name e.w number) Answer.Written;
        found = changed_found e.w number (Packet.Write y g place payload) (Packet.Answer (flight_name e.w number) Answer.Written) s refl find;
        phase = (phase.1.1.0, (phase.1.1.1.0, (busy, record { written = ap (λ z. z + 1) counts.written; noticed = counts.noticed; put = counts.put; over = counts.over })));
      }

      writer : WriterSide e n (record { at = p; wants = None }) last (x.l.written + 1) x.l.noticed x.put x.l.back x.l.replied x.over x.shut
      writer = record { by = subst (WriterFlies e n p (x.l.written + 1) x.l.noticed x.put x.over last) (sym doing) flown; back = h.writer.back; few = h.writer.few; replies = h.writer.replies }

      reader : ReaderSide e n pr takes x.l.noticed x.l.read x.l.replied x.took x.over x.shut
      reader = reader_stays e s n pr takes x.l.noticed x.l.read x.l.replied x.took x.over x.shut (side_same e.r e.reader.recv s n refl (same_changed e.r s (Packet.Answer (flight_name e.w number) Answer.Written) (not_issuer e.r s (flight_name e.w number) (λ q. ok.apart (sym q))))) h.reader

-- ---- the notice lands

pub push_notice : (e : Sides) (i : ℕ) (ms : List Message) (m : Message) → AreNotices e i ms → IsNotice e (i + length ms) m → AreNotices e i (ms ++ m ∷ [])
push_notice e i [] m h k = let z : i + 0 ≡ i = omega arith in (subst (λ j. IsNotice e j m) z k, tt)
push_notice e i (y ∷ ms) m h k = let z : i + suc (length ms) ≡ i + 1 + length ms = omega arith in (h.0, push_notice e (i + 1) ms m h.1 (subst (λ j. IsNotice e j m) z k))

pub due_later : (p : ReaderState) (v v' : ℕ) (over over' : Bool) (t : ReaderPhase) → v ≤ v' → (over ≡ true → over' ≡ true) → Due p v over t → Due p v' over' t
due_later p v v' over over' Reads a b h = omega (arith, a, h)
due_later p v v' over over' Closes a b h = b h
due_later p v v' over over' Starts a b h = tt
due_later p v v' over over' Waits a b h = tt
due_later p v v' over over' Looks a b h = tt
due_later p v v' over over' Replies a b h = tt
due_later p v v' over over' Finished a b h = tt

-- one more is in the queue
pub inbox_more : (e : Sides) (p : ReaderState) (v v' : ℕ) (over' : Bool) (q : Queue) (m : Message) → v' + one over' ≡ v + 1 → IsNotice e v m → InboxOk e p v false (Some q) → InboxOk e p v' over' (Some (record { unread = q.unread ++ m ∷ []; fetched = q.fetched }))
inbox_more e p v v' over' q m sum k h on =
    let old = h on in
    let c : fetched_count p + length q.unread ≡ v = (let z = old.count in omega (arith, z)) in
    record {
      notices = push_notice e (fetched_count p) q.unread m old.notices (subst (λ j. IsNotice e j m) (sym c) k);
      count = omega (arith, sum, c, length-append q.unread (m ∷ []));
      hand = old.hand;
    }

-- where a message lands, it joins the queue
pub landed_queue : (ep g : ℕ) (m : Message) (c : Context) → land_refusal g m (endpoint c ep) ≡ None → (q : ReceiveRecord) × ((endpoint c ep ≡ Receives q) × (queue_of (endpoint (after_message ep m c) ep) ≡ Some (record { unread = q.unread ++ m ∷ []; fetched = q.fetched })))
landed_queue ep g m c h = by_end (endpoint c ep) refl h
  where
    by_end : (x : Endpoint) → endpoint c ep ≡ x → land_refusal g m x ≡ None → (q : ReceiveRecord) × ((endpoint c ep ≡ Receives q) × (queue_of (endpoint (after_message ep m c) ep) ≡ Some (record { unread = q.unread ++ m ∷ []; fetched = q.fetched })))
    by_end Free at h = absurd (cc)
    by_end (Sends_by r) at h = absurd (cc)
    by_end (Reaches r) at h = absurd (cc)
    by_end (Receives q) at h =
        let range = in_range c.endpoints ep (λ z. some_record q (sym at ∙ z)) in
        (q, (at, queue_taken ep ep m c ∙ ap queue_of (get_or-set_same c.endpoints ep (with_message m (endpoint c ep)) Free range ∙ ap (with_message m) at)))
      where
        some_record : (y : ReceiveRecord) → Receives y ≡ Free → ⊥
        some_record y z = absurd (cc)

pub taken_act : (ep : ℕ) (m : Message) (c : Context) → (after_message ep m c).act ≡ c.act
taken_act ep m c = by_flags (m.header.flags == 0)
  where
    by_flags : (b : Bool) → (if b then with_endpoint c ep (with_message m (endpoint c ep)) else with_credit m.header.send (with_endpoint c ep (with_message m (endpoint c ep)))).act ≡ c.act
    by_flags true = refl
    by_flags false = refl

pub taken_flying : (ep : ℕ) (m : Message) (c : Context) → (after_message ep m c).flying ≡ c.flying
taken_flying ep m c = by_flags (m.header.flags == 0)
  where
    by_flags : (b : Bool) → (if b then with_endpoint c ep (with_message m (endpoint c ep)) else with_credit m.header.send (with_endpoint c ep (with_message m (endpoint c ep)))).flying ≡ c.flying
    by_flags true = refl
    by_flags false = refl

module _ (e : Sides) (s : State) (ok : SidesOk e) (p : WriterState) (pr : Player ReaderState) (last puts takes : List ℕ) (x : Marks) (h : PipeAt e s (record { at = p; wants = None }) pr last puts takes x) (doing : p.doing ≡ Sends) (number : ℕ) (fly : flying_of e.w s ≡ lone_flying number Sending e.writer.send 0) (m : Message) (find : flight (flight_name e.w number) s.flights ≡ Some (Packet.Message e.r e.reader.recv e.inbox.grant m)) (notice : IsNotice e p.sent m) (busy : Busy e p) (counts : WriterCounts x.l.written x.l.noticed x.put x.over (count_with_chunk e p) p.sent (count_with_chunk e p) false) (c : Context) (at : context_of e.r s.contexts ≡ Some c) where
  is_act : e.r ≡ c.act
  is_act = act_found e.r c s.contexts at

  name : flight_name e.w number ≡ message_id m
  name = name_found (flight_name e.w number) (Packet.Message e.r e.reader.recv e.inbox.grant m) s.flights find

  not_reader : (d : Context) (answer : Answer) → NotOwn e.r s (name_of (Packet.Answer (message_id m) answer))
  not_reader d answer = subst (NotOwn e.r s) name (not_issuer e.r s (flight_name e.w number) (λ q. ok.apart (sym q)))

  found_after : (answer : Answer) → flight (flight_name e.w number) (change_flight (Packet.Answer (message_id m) answer) s.flights) ≡ Some (Packet.Answer (message_id m) answer)
  found_after answer = changed_found e.w number (Packet.Message e.r e.reader.recv e.inbox.grant m) (Packet.Answer (message_id m) answer) s (sym name) find

  -- the writer's context stays
  writer_context : (d : Context) (answer : Answer) → d.act ≡ c.act → context_of e.w (message_landed s m d answer).contexts ≡ context_of e.w s.contexts
  writer_context d answer q = context-put_other e.w d s.contexts (by_bool (same_act e.w d.act) refl)
    where
      by_bool : (b : Bool) → same_act e.w d.act ≡ b → b ≡ false
      by_bool false w = refl
      by_bool true w = absurd (ok.apart (same_act-is e.w d.act w ∙ (q ∙ sym is_act)))

  writer_after : (d : Context) (answer : Answer) (v : ℕ) (over : Bool) → d.act ≡ c.act → NoticeFlies e p x.l.written v x.put over (Packet.Answer (message_id m) answer) → WriterSide e (message_landed s m d answer) (record { at = p; wants = None }) last x.l.written v x.put x.l.back x.l.replied over x.shut
  writer_after d answer v over q phase = record {
    by = subst (WriterFlies e (message_landed s m d answer) p x.l.written v x.put over last) (sym doing) (record {
      number = number;
      flying = ap flying_in (writer_context d answer q) ∙ fly;
      packet = Packet.Answer (message_id m) answer;
      found = found_after answer;
      phase = phase;
    });
    back = h.writer.back;
    few = h.writer.few;
    replies = subst (RepliesOk p x.l.replied x.shut) (ap (λ z. queue_of (endpoint_in e.writer.reply z)) (sym (writer_context d answer q))) h.writer.replies;
  }

  pub notice_refused : (why : Refusal) → Joins e (message_landed s m c (Answer.Refused why)) (record { at = p; wants = None }) pr last puts takes
  notice_refused why = record {
    marks = x;
    joined = record {
      ring = h.ring;
      writer = writer_after c (Answer.Refused why) x.l.noticed x.over refl tt;
      reader = reader_stays e s (message_landed s m c (Answer.Refused why)) pr takes x.l.noticed x.l.read x.l.replied x.took x.over x.shut (side_put e.r e.reader.recv s (message_landed s m c (Answer.Refused why)) c c refl (subst (λ z. context_of z s.contexts ≡ Some c) is_act at) (λ z. (refl, kept_same (endpoint c e.reader.recv))) (same_changed e.r s (Packet.Answer (message_id m) (Answer.Refused why)) (not_reader c (Answer.Refused why)))) h.reader;
    };
  }

  is_sent : landed_answer m ≡ Answer.Sent
  is_sent = let q : (m.header.flags == 0) ≡ true = grind (arith, nat_tests, notice.flags) in ap (λ b. if b then Answer.Sent else Answer.Replied) q

  over_before : x.over ≡ false
  over_before = counts.over

  -- the reader's side with one more in its queue
  reader_after : (v : ℕ) (over : Bool) → land_refusal e.inbox.grant m (endpoint c e.reader.recv) ≡ None → x.l.noticed ≤ v → v + one over ≡ x.l.noticed + 1 → ReaderSide e (message_landed s m (after_message e.reader.recv m c) Answer.Sent) pr takes v x.l.read x.l.replied x.took over x.shut
  reader_after v over lands least sum =
      let d = after_message e.reader.recv m c in
      let n = message_landed s m d Answer.Sent in
      let there = landed_queue e.reader.recv e.inbox.grant m c lands in
      let found : context_of d.act s.contexts ≡ Some c = subst (λ z. context_of z s.contexts ≡ Some c) (is_act ∙ sym (taken_act e.reader.recv m c)) at in
      let now : context_of e.r n.contexts ≡ Some d = subst (λ z. context_of z n.contexts ≡ Some d) (taken_act e.reader.recv m c ∙ sym is_act) (context-put_same c d s.contexts found) in
      let steady : Steady e.r s n = steady_put e.r s n c d refl found (λ z. taken_flying e.reader.recv m c) (same_changed e.r s (Packet.Answer (message_id m) Answer.Sent) (not_reader d Answer.Sent)) in
      let old : InboxOk e pr.at x.l.noticed x.over (queue_of (endpoint c e.reader.recv)) = subst (InboxOk e pr.at x.l.noticed x.over) (ap (λ z. queue_of (endpoint_in e.reader.recv z)) at) h.reader.inbox in
      let old_some : InboxOk e pr.at x.l.noticed false (Some (record { unread = (there.0).unread; fetched = (there.0).fetched })) = subst (λ z. InboxOk e pr.at x.l.noticed z (Some (record { unread = (there.0).unread; fetched = (there.0).fetched }))) over_before (subst (InboxOk e pr.at x.l.noticed x.over) (ap queue_of there.1.0) old) in
      record {
        by = reader_by e s n pr.at x.l.read x.l.replied x.took x.shut pr.wants steady h.reader.by;
        due = due_later pr.at x.l.noticed v x.over over pr.at.task least (λ z. absurd (not_over z)) h.reader.due;
        inbox = subst (InboxOk e pr.at v over) (sym (ap (λ z. queue_of (endpoint_in e.reader.recv z)) now ∙ there.1.1)) (inbox_more e pr.at x.l.noticed v over (record { unread = (there.0).unread; fetched = (there.0).fetched }) m sum (subst (λ j. IsNotice e j m) (sym counts.noticed) notice) old_some);
        taken = h.reader.taken;
      }
    where
      not_over : x.over ≡ true → ⊥
      not_over z = let q : true ≡ false = sym z ∙ over_before in absurd (cc)

  pub notice_landed : land_refusal e.inbox.grant m (endpoint c e.reader.recv) ≡ None → Joins e (message_landed s m (after_message e.reader.recv m c) (landed_answer m)) (record { at = p; wants = None }) pr last puts takes
  notice_landed lands = subst (λ z. Joins e (message_landed s m (after_message e.reader.recv m c) z) (record { at = p; wants = None }) pr last puts takes) (sym is_sent) (by_more (has_one e p.sent) refl)
    where
      d : Context
      d = after_message e.reader.recv m c

      by_more : (b : Bool) → has_one e p.sent ≡ b → Joins e (message_landed s m d Answer.Sent) (record { at = p; wants = None }) pr last puts takes
      by_more true w =
          let this : count_with_chunk e p ≡ p.sent + 1 = ap (λ z. p.sent + one z) w in
          let below : x.l.noticed < x.l.written = (let a = counts.written in let b = counts.noticed in omega (arith, this, a, b)) in
          record {
            marks = record x { l = record x.l { noticed = x.l.noticed + 1 } };
            joined = record {
              ring = record {
                ring = notice_lands e.writer e.out.start x.l h.ring.ring below;
                memory = h.ring.memory;
                real = h.ring.real;
                last_notice = λ z. absurd (let q : true ≡ false = sym z ∙ over_before in cc);
                last_reply = h.ring.last_reply;
                put_least = (let a = counts.put in let b = counts.noticed in omega (arith, this, a, b));
                put_most = h.ring.put_most;
                took_most = h.ring.took_most;
                puts = h.ring.puts;
                takes = h.ring.takes;
              };
              writer = writer_after d Answer.Sent (x.l.noticed + 1) x.over (taken_act e.reader.recv m c) (busy, record { written = counts.written; noticed = ap (λ z. z + 1) counts.noticed ∙ sym this; put = counts.put; over = over_before ∙ ap not (sym w) });
              reader = reader_after (x.l.noticed + 1) x.over lands (omega arith) (let q = ap one over_before in omega (arith, q));
            };
          }
      by_more false w =
          let this : count_with_chunk e p ≡ p.sent = ap (λ z. p.sent + one z) w ∙ omega arith in
          record {
            marks = record x { over = true };
            joined = record {
              ring = record {
                ring = h.ring.ring;
                memory = h.ring.memory;
                real = h.ring.real;
                last_notice = λ z. ap (has_one e) counts.noticed ∙ w;
                last_reply = λ z. refl;
                put_least = h.ring.put_least;
                put_most = h.ring.put_most;
                took_most = h.ring.took_most;
                puts = h.ring.puts;
                takes = h.ring.takes;
              };
              writer = writer_after d Answer.Sent x.l.noticed true (taken_act e.reader.recv m c) (busy, record { written = counts.written; noticed = counts.noticed ∙ sym this; put = counts.put; over = ap not (sym w) });
              reader = reader_after x.l.noticed true lands (omega arith) (omega arith);
            };
          }
