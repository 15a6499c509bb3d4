-- The reader's own commands, where they are issued.
use Rattle.std.proofs.Common.{◌≡◌, ◌≢◌, ℕ, suc, ◌+◌, ◌*◌, ◌<◌, ◌≤◌, Bool, true, false, List, [], ◌∷◌, ◌++◌, length, Some, None, refl, sym, subst, ◌∙◌, ap, arith, length-take, length-drop}
use Rattle.std.specs.Prelude.{Option, if◌then◌else◌, ◌==◌, not, replicate, drop}
use Rattle.std.proofs.lemmas.Bool.Decides.{nat_tests}
use Rattle.std.proofs.lemmas.List.{get_or-set_same, length-replicate}
use Rattle.m3_base.specs.declared.message.Message.{Message}
use Rattle.m3_base.specs.declared.packet.Packet.{Packet}
use Rattle.m3_base.specs.declared.packet.Fresh.{Fresh}
use Rattle.m3_base.specs.declared.command.Command.{Command}
use Rattle.m3_base.specs.declared.command.Refusal.{Refusal}
use Rattle.m3_base.specs.declared.command.Reply.{Reply}
use Rattle.m3_base.specs.declared.program.Move.{Move}
use Rattle.m3_base.specs.Lists.Counting.{one}
use Rattle.m3_base.specs.Ideal.Flights.{flight, name_of, new_flight, flight_name}
use Rattle.m3_base.specs.Ideal.Context.{Kind, Replying, Reading, Fetched, Endpoint, Free, Sends as Sends_by, Receives, Reaches, ReceiveRecord, Context, endpoint, with_endpoint}
use Rattle.m3_base.specs.Ideal.ReceiveRecord.{with_fetched, fetched_at, unmarked_message, with_mark, with_mark_at}
use Rattle.m3_base.specs.Ideal.Issue.{Gives, Issued, immediate_reply, unless_refusal, first_of, next_id, reply, reply_to, reply_packet, reply_refusal, fetch, fetch_from, access, access_refusal, read, may_read}
use Rattle.m3_base.specs.Ideal.State.{State, context_of}
use Rattle.m3_base.specs.Ideal.Step.{after_issue}
use Rattle.m3_base.specs.Ideal.FlightNames.{Apart}
use Rattle.m3_base.proofs.FlightOrder.{find-new}
use Rattle.m3_laws.specs.GrantInvariant.{form_of}
use Rattle.m3_laws.specs.Invariant.{Invariant}
use Rattle.m3_laws.proofs.credits.Issue.{in_range}
use Rattle.m3_pipe_laws.specs.Protocol.{Reader, ReaderState, ReaderPhase, Starts, Waits, Looks, Reads, Replies, Closes, Finished, Reaction, reader_step, reader_at_answer, reader_over, at_notice, is_next, reply_with_number, reader_reaction, with_token, read_notice, slot}
use Rattle.m3_pipe_laws.specs.Pipe.{player_at_issue, endpoint_at, endpoint_in, SameRing}
use Rattle.m3_pipe_laws.proofs.Invariant.Sides.{Sides, piece_of, has_one, place_at, SidesOk}
use Rattle.m3_pipe_laws.proofs.Invariant.Isolation.{Isolation}
use Rattle.m3_pipe_laws.proofs.Invariant.Flights.{lone_flying, flying_in, flying_of, LoneFlight, Queue, queue_of}
use Rattle.m3_pipe_laws.proofs.Invariant.WriterSide.{IsNotice}
use Rattle.m3_pipe_laws.proofs.Invariant.ReaderSide.{ReaderCounts, ReadFlies, IsReply, ReaderFlies, Due, AreNotices, IsAtHand, AtHand, InboxIs, InboxOk, fetched_count, is_open_phase, holds_notice, ReaderSide}
use Rattle.m3_pipe_laws.proofs.Invariant.WholePipe.{RingSide, Marks}
use Rattle.m3_pipe_laws.proofs.Others.Landings.{Lone, form_there}
use Rattle.m3_pipe_laws.proofs.Ring.Delivery.{piece_most}
use Rattle.m3_pipe_laws.proofs.Writer.Commands.{start_of}
use Rattle.m3_pipe_laws.proofs.Protocol.Notices.{notices_read}
use Rattle.m3_base.proofs.Activities.{act_found, context-put_same}

-- ---- where the reader goes on

abbrev pub ReaderAt : Sides → State → Reaction ReaderState → List ℕ → ℕ → ℕ → ℕ → ℕ → Bool → Bool → Type 0
ReaderAt e n m takes v d c t over shut = ReaderSide e n (record { at = m.next; wants = Some m.move }) takes v d c t over shut

pub refused_finished : (r : Reader) (p : ReaderState) (t : ReaderPhase) (why : Refusal) → reader_at_answer r p t (Reply.Refused why) ≡ reader_over p
refused_finished r p Starts why = refl
refused_finished r p Waits why = refl
refused_finished r p Looks why = refl
refused_finished r p Reads why = refl
refused_finished r p Replies why = refl
refused_finished r p Closes why = refl
refused_finished r p Finished why = refl

inbox_finished : (e : Sides) (p : ReaderState) (v : ℕ) (over : Bool) (o : Option Queue) → is_open_phase p.task ≡ false → InboxOk e p v over o
inbox_finished e p v over None h = tt
inbox_finished e p v over (Some q) h = λ on. absurd (let z : true ≡ false = sym on ∙ h in cc)

pub finished_at : (e : Sides) (n : State) (p : ReaderState) (takes : List ℕ) (v d c t : ℕ) (over shut : Bool) → flying_of e.r n ≡ [] → takes ≡ p.taken → ReaderAt e n (reader_over p) takes v d c t over shut
finished_at e n p takes v d c t over shut idle h = record { by = (idle, refl); due = tt; inbox = inbox_finished e (record p { task = Finished }) v over (queue_of (endpoint_at n e.r e.reader.recv)) refl; taken = h }

-- ---- chunks and their lengths

pub some_length : (e : Sides) (i : ℕ) → SameRing e.writer e.reader → (length (piece_of e i) == 0) ≡ false → has_one e i ≡ true
some_length e i ok h = by_more (has_one e i) refl
  where
    by_more : (b : Bool) → has_one e i ≡ b → b ≡ true
    by_more true w = refl
    by_more false w =
        let past : length e.writer.bytes ≤ i * e.writer.chunk = grind (arith, nat_tests, w) in
        let a = length-take e.writer.chunk (drop (i * e.writer.chunk) e.writer.bytes) in
        let b = length-drop (i * e.writer.chunk) e.writer.bytes in
        let none : length (piece_of e i) ≡ 0 = omega (arith, past, a, b) in
        absurd (grind (arith, nat_tests, none, h))

pub no_length : (e : Sides) (i : ℕ) → SameRing e.writer e.reader → (length (piece_of e i) == 0) ≡ true → has_one e i ≡ false
no_length e i ok h = by_more (has_one e i) refl
  where
    by_more : (b : Bool) → has_one e i ≡ b → b ≡ false
    by_more false w = refl
    by_more true w =
        let below : i * e.writer.chunk < length e.writer.bytes = grind (arith, nat_tests, w) in
        let a = length-take e.writer.chunk (drop (i * e.writer.chunk) e.writer.bytes) in
        let b = length-drop (i * e.writer.chunk) e.writer.bytes in
        let least = ok.chunk_least in
        let some : 1 ≤ length (piece_of e i) = omega (arith, below, a, b, least) in
        absurd (grind (arith, nat_tests, some, h))

-- ---- its commands

module _ (e : Sides) (s : State) (law : Invariant s) (around : Isolation e s) (lone_w : Lone e.w s) (lone_r : Lone e.r s) (ok : SidesOk e) (p : ReaderState) (c : Context) (at : context_of e.r s.contexts ≡ Some c) (idle : c.flying ≡ []) (bytes puts takes : List ℕ) (x : Marks) (ring : RingSide e bytes puts takes x) (due : Due p x.l.noticed x.over p.task) (inbox : InboxOk e p x.l.noticed x.over (queue_of (endpoint_at s e.r e.reader.recv))) (taken : takes ≡ p.taken) where
  is_act : e.r ≡ c.act
  is_act = act_found e.r c s.contexts at

  now : (i : Issued) → i.context.act ≡ c.act → context_of e.r (after_issue s i).contexts ≡ Some i.context
  now i h =
      let same : e.r ≡ i.context.act = is_act ∙ sym h in
      subst (λ z. context_of z (after_issue s i).contexts ≡ Some i.context) (sym same) (context-put_same c i.context s.contexts (subst (λ z. context_of z s.contexts ≡ Some c) same at))

  new_queue : (i : Issued) → i.context.act ≡ c.act → queue_of (endpoint_at (after_issue s i) e.r e.reader.recv) ≡ queue_of (endpoint i.context e.reader.recv)
  new_queue i h = ap (λ z. queue_of (endpoint_in e.reader.recv z)) (now i h)

  old_inbox : InboxOk e p x.l.noticed x.over (queue_of (endpoint c e.reader.recv))
  old_inbox = subst (InboxOk e p x.l.noticed x.over) (ap (λ z. queue_of (endpoint_in e.reader.recv z)) at) inbox

  -- where its player stands then
  abbrev pub After : Issued → Type 0
  After i = ReaderSide e (after_issue s i) (player_at_issue (reader_step e.reader) e.r p i.told) takes x.l.noticed x.l.read x.l.replied x.took x.over x.shut

  still_idle : (i : Issued) → i.context.act ≡ c.act → i.context.flying ≡ c.flying → flying_of e.r (after_issue s i) ≡ []
  still_idle i h q = ap flying_in (now i h) ∙ (q ∙ idle)

  pub refused : (why : Refusal) → After (immediate_reply c (Reply.Refused why))
  refused why =
      let i = immediate_reply c (Reply.Refused why) in
      subst (λ m. ReaderAt e (after_issue s i) m takes x.l.noticed x.l.read x.l.replied x.took x.over x.shut) (sym (refused_finished e.reader p p.task why)) (finished_at e (after_issue s i) p takes x.l.noticed x.l.read x.l.replied x.took x.over x.shut (still_idle i refl refl) taken)

  new_flying : (i : Issued) (kind : Kind) (ep token : ℕ) → i.context.act ≡ c.act → i.context.flying ≡ c.flying ++ record { number = c.next; kind = kind; ep = ep; token = token } ∷ [] → flying_of e.r (after_issue s i) ≡ lone_flying c.next kind ep token
  new_flying i kind ep token h q = ap flying_in (now i h) ∙ (q ∙ ap (λ fs. fs ++ record { number = c.next; kind = kind; ep = ep; token = token } ∷ []) idle)

  new_found : (y : Packet) → name_of y ≡ next_id c → flight (flight_name e.r c.next) (new_flight y s.flights) ≡ Some y
  new_found y q =
      let name : name_of y ≡ flight_name e.r c.next = q ∙ ap (λ z. flight_name z c.next) (sym is_act) in
      let apart : Apart (name_of y) s.flights = subst (λ z. Apart z s.flights) (sym q) ((law.lawful.traffic.contexts e.r c at).apart c.next (omega arith)) in
      subst (λ z. flight z (new_flight y s.flights) ≡ Some y) name (find-new y s.flights apart)

  -- ---- a read

  module _ (task : p.task ≡ Reads) (stood : ReaderCounts x.l.read x.l.replied x.took x.shut p.next p.next p.next) where
    pub read_by : (ep : Endpoint) → endpoint c e.reader.mem ≡ ep → After (read c e.reader.mem (slot e.reader.ring e.reader.chunk p.next) (length (piece_of e p.next)) ep)
    read_by Free q = refused Refusal.NoEndpoint
    read_by (Sends_by r) q = refused Refusal.NoEndpoint
    read_by (Receives r) q = refused Refusal.NoEndpoint
    read_by (Reaches r) q = by_why (access_refusal r (slot e.reader.ring e.reader.chunk p.next) (length (piece_of e p.next)) (may_read r.perm))
      where
        y : Packet
        y = Packet.Read (next_id c) r.grant (r.start + slot e.reader.ring e.reader.chunk p.next) (replicate (length (piece_of e p.next)) 0)

        i : Issued
        i = access c Reading e.reader.mem y

        start : r.start ≡ e.out.start
        start = ap start_of (form_there e s law around lone_w lone_r e.r e.reader.mem (Fresh.Memory e.into.grant e.into.start e.into.length e.into.perm) (Fresh.Memory r.grant r.start r.length r.perm) c around.grants.into at (ap form_of q)) ∙ ok.same_start

        place : r.start + slot e.reader.ring e.reader.chunk p.next ≡ place_at e p.next
        place = rw (start, ok.numbers.ring, ok.numbers.chunk) refl

        flown : LoneFlight e.r (after_issue s i) Reading e.reader.mem 0 (ReadFlies e p x.l.read x.l.replied x.took x.shut)
        flown = record { number = c.next; flying = new_flying i Reading e.reader.mem 0 refl refl; packet = y; found = new_found y refl; phase = (place, (length-replicate (length (piece_of e p.next)) 0, stood)) }

        by_why : (why : Option Refusal) → After (unless_refusal why c (access c Reading e.reader.mem y))
        by_why (Some why) = refused why
        by_why None = record { by = subst (ReaderFlies e (after_issue s i) p x.l.read x.l.replied x.took x.shut) (sym task) flown; due = due; inbox = subst (InboxOk e p x.l.noticed x.over) (sym (new_queue i refl)) old_inbox; taken = taken }

  -- ---- a reply

  at_hand : (t : ℕ) (f : Fetched) (m : Message) → f.token ≡ t → unmarked_message (fetched_at t (f ∷ [])) ≡ Some m → f.message ≡ m
  at_hand t f m h q = grind (arith, nat_tests, h, q)

  marked_hand : (t : ℕ) (f : Fetched) → f.token ≡ t → with_mark true t (f ∷ []) ≡ record f { marked = true } ∷ []
  marked_hand t f h = grind (arith, nat_tests, h)

  hand_is : holds_notice p.task ≡ true → (fs : List Fetched) → AtHand e p fs (holds_notice p.task) → IsAtHand e p fs
  hand_is h fs k = subst (AtHand e p fs) h k

  hand_was : holds_notice p.task ≡ true → (fs : List Fetched) → IsAtHand e p fs → AtHand e p fs (holds_notice p.task)
  hand_was h fs k = subst (AtHand e p fs) (sym h) k

  module _ (on : is_open_phase p.task ≡ true) (holds : holds_notice p.task ≡ true) (P : Packet → Type 0) (into : (y : Packet) → (to ep g : ℕ) (m : Message) → y ≡ Packet.Message to ep g m → IsReply e to ep g m → P y) (flown_as : (n : State) → LoneFlight e.r n Replying e.reader.recv p.token P → ReaderFlies e n p x.l.read x.l.replied x.took x.shut p.task) where
    pub reply_by : (payload : List ℕ) (ep : Endpoint) → endpoint c e.reader.recv ≡ ep → After (reply c e.reader.recv p.token payload ep)
    reply_by payload Free q = refused Refusal.NoEndpoint
    reply_by payload (Sends_by r) q = refused Refusal.NoEndpoint
    reply_by payload (Reaches r) q = refused Refusal.NoEndpoint
    reply_by payload (Receives r) q = by_why (reply_refusal r p.token payload) (unmarked_message (fetched_at p.token r.fetched)) refl
      where
        is : InboxIs e p x.l.noticed x.over (record { unread = r.unread; fetched = r.fetched })
        is = subst (λ z. InboxOk e p x.l.noticed x.over (queue_of z)) q old_inbox on

        hand : IsAtHand e p r.fetched
        hand = hand_is holds r.fetched is.hand

        some_record : (y : ReceiveRecord) → Receives y ≡ Free → ⊥
        some_record y z = absurd (cc)

        by_message : (m : Message) → unmarked_message (fetched_at p.token r.fetched) ≡ Some m → After (reply_to c e.reader.recv p.token payload r (Some m))
        by_message m u =
            let i : Issued = reply_to c e.reader.recv p.token payload r (Some m) in
            let f = hand.fetched in
            let same : f.message ≡ m = at_hand p.token f m hand.token (ap (λ z. unmarked_message (fetched_at p.token z)) (sym hand.only) ∙ u) in
            let k : IsNotice e p.next m = subst (IsNotice e p.next) same hand.notice in
            let there : endpoint i.context e.reader.recv ≡ Receives (with_mark_at true r p.token) = get_or-set_same c.endpoints e.reader.recv (Receives (with_mark_at true r p.token)) Free (in_range c.endpoints e.reader.recv (λ z. some_record r (sym q ∙ z))) in
            let marked : with_mark true p.token r.fetched ≡ record f { marked = true } ∷ [] = ap (with_mark true p.token) hand.only ∙ marked_hand p.token f hand.token in
            record {
              by = flown_as (after_issue s i) (record {
                number = c.next;
                flying = new_flying i Replying e.reader.recv p.token refl refl;
                packet = reply_packet c payload m;
                found = new_found (reply_packet c payload m) refl;
                phase = into (reply_packet c payload m) m.header.sender m.header.reply_ep m.header.reply _ refl (k.sender, (k.reply_ep, (k.reply, refl)));
              });
              due = due;
              inbox = subst (InboxOk e p x.l.noticed x.over) (sym (new_queue i refl ∙ ap queue_of there)) (λ z. record { notices = is.notices; count = is.count; hand = hand_was holds (with_mark true p.token r.fetched) (record { fetched = record f { marked = true }; only = marked; token = hand.token; notice = hand.notice }) });
              taken = taken;
            }

        by_why : (why : Option Refusal) (o : Option Message) → unmarked_message (fetched_at p.token r.fetched) ≡ o → After (unless_refusal why c (reply_to c e.reader.recv p.token payload r o))
        by_why (Some why) o u = refused why
        by_why None None u = refused Refusal.NoSuchToken
        by_why None (Some m) u = by_message m u

  -- ---- a fetch

  module _ (task : p.task ≡ Looks) (stood : ReaderCounts x.l.read x.l.replied x.took x.shut p.next p.next p.next) where
    told_fetch : (i : Issued) (answer : Reply) → i.told ≡ Gives answer → ReaderAt e (after_issue s i) (reader_at_answer e.reader p Looks answer) takes x.l.noticed x.l.read x.l.replied x.took x.over x.shut → After i
    told_fetch i answer q h = subst (λ z. ReaderSide e (after_issue s i) (player_at_issue (reader_step e.reader) e.r p z) takes x.l.noticed x.l.read x.l.replied x.took x.over x.shut) (sym q) (subst (λ z. ReaderAt e (after_issue s i) (reader_at_answer e.reader p z answer) takes x.l.noticed x.l.read x.l.replied x.took x.over x.shut) (sym task) h)

    module _ (r : ReceiveRecord) (m : Message) (ms : List Message) (q : endpoint c e.reader.recv ≡ Receives r) (u : r.unread ≡ m ∷ ms) where
      abbrev pub i : Issued
      i = immediate_reply (with_endpoint c e.reader.recv (Receives (with_fetched r m ms))) (Reply.Fetched r.next_token m)

      is : InboxIs e p x.l.noticed x.over (record { unread = r.unread; fetched = r.fetched })
      is = subst (λ z. InboxOk e p x.l.noticed x.over (queue_of z)) q old_inbox (ap is_open_phase task)

      first : fetched_count p ≡ p.next
      first = ap (λ t. p.next + one (holds_notice t)) task ∙ omega arith

      nothing_held : r.fetched ≡ []
      nothing_held = subst (λ t. AtHand e p r.fetched (holds_notice t)) task is.hand

      are : AreNotices e p.next (m ∷ ms)
      are = subst (AreNotices e p.next) u (subst (λ z. AreNotices e z r.unread) first is.notices)

      count : p.next + 1 + length ms ≡ x.l.noticed + one x.over
      count = let a = is.count in let b : length r.unread ≡ suc (length ms) = ap length u in omega (arith, a, b, first)

      some_record : (y : ReceiveRecord) → Receives y ≡ Free → ⊥
      some_record y z = absurd (cc)

      there : queue_of (endpoint_at (after_issue s i) e.r e.reader.recv) ≡ Some (record { unread = ms; fetched = r.fetched ++ record { token = r.next_token; marked = false; message = m } ∷ [] })
      there = new_queue i refl ∙ ap queue_of (get_or-set_same c.endpoints e.reader.recv (Receives (with_fetched r m ms)) Free (in_range c.endpoints e.reader.recv (λ z. some_record r (sym q ∙ z))))

      -- with the notice at hand, whatever it does next
      held : (t : ReaderPhase) → holds_notice t ≡ true → InboxOk e (record p { token = r.next_token; task = t }) x.l.noticed x.over (queue_of (endpoint_at (after_issue s i) e.r e.reader.recv))
      held t h = subst (InboxOk e (record p { token = r.next_token; task = t }) x.l.noticed x.over) (sym there) (λ on. record {
        notices = subst (λ z. AreNotices e (p.next + one z) ms) (sym h) are.1;
        count = ap (λ z. p.next + one z + length ms) h ∙ count;
        hand = subst (AtHand e (record p { token = r.next_token; task = t }) (r.fetched ++ record { token = r.next_token; marked = false; message = m } ∷ [])) (sym h) (record { fetched = record { token = r.next_token; marked = false; message = m }; only = ap (λ z. z ++ record { token = r.next_token; marked = false; message = m } ∷ []) nothing_held; token = refl; notice = are.0 });
      })

      -- the end landed where no chunk has this number
      ends : has_one e p.next ≡ false → x.over ≡ true
      ends h = by_over x.over refl
        where
          by_over : (b : Bool) → x.over ≡ b → b ≡ true
          by_over true w = refl
          by_over false w =
              let a = ap one w in
              let below : p.next < x.l.written = (let z = ring.ring.noticed_most in omega (arith, z, count, a)) in
              let y : has_one e p.next ≡ true = ring.real p.next below in
              absurd (let z : true ≡ false = sym y ∙ h in cc)

      -- a chunk of this number was announced
      announced_count : has_one e p.next ≡ true → p.next < x.l.noticed
      announced_count h = by_over x.over refl
        where
          by_same : x.over ≡ true → (b : Bool) → (p.next == x.l.noticed) ≡ b → p.next < x.l.noticed
          by_same w true v =
              let same : p.next ≡ x.l.noticed = grind (arith, nat_tests, v) in
              let y : has_one e p.next ≡ false = ap (has_one e) same ∙ ring.last_notice w in
              absurd (let z : true ≡ false = sym h ∙ y in cc)
          by_same w false v =
              let ne : p.next ≢ x.l.noticed = λ z. absurd (grind (arith, nat_tests, v, z)) in
              let a = ap one w in
              let most : p.next ≤ x.l.noticed = omega (arith, count, a) in
              grind (arith, nat_tests, v, most)

          by_over : (b : Bool) → x.over ≡ b → p.next < x.l.noticed
          by_over false w = let a = ap one w in omega (arith, count, a)
          by_over true w = by_same w (p.next == x.l.noticed) refl

      stood_at : (t : ReaderPhase) → ReaderCounts x.l.read x.l.replied x.took x.shut p.next p.next p.next
      stood_at t = stood

      next_move : (b z : Bool) → (length (piece_of e p.next) == 0) ≡ z → ReaderAt e (after_issue s i) (if not b then reader_over (with_token p r.next_token) else (if z then reply_with_number e.reader (with_token p r.next_token) Closes else reader_reaction (with_token p r.next_token) Reads (Move.Do (Command.Read e.reader.mem (slot e.reader.ring e.reader.chunk p.next) (length (piece_of e p.next)))))) takes x.l.noticed x.l.read x.l.replied x.took x.over x.shut
      next_move false z h = finished_at e (after_issue s i) (with_token p r.next_token) takes x.l.noticed x.l.read x.l.replied x.took x.over x.shut (still_idle i refl refl) taken
      next_move true true h = record { by = (still_idle i refl refl, (refl, stood)); due = ends (no_length e p.next ok.numbers h); inbox = held Closes refl; taken = taken }
      next_move true false h = record { by = (still_idle i refl refl, (refl, stood)); due = announced_count (some_length e p.next ok.numbers h); inbox = held Reads refl; taken = taken }

      reads_it : read_notice m.payload ≡ Some (record { number = p.next; size = length (piece_of e p.next) })
      reads_it =
          let small : p.next < 4294967296 = (let z = are.0.number in omega (arith, z)) in
          let short : length (piece_of e p.next) < 4294967296 = (let z = piece_most e.writer.chunk e.writer.bytes p.next in let y = ok.numbers.chunk_most in omega (arith, z, y)) in
          ap read_notice are.0.payload ∙ notices_read p.next (length (piece_of e p.next)) small short

      pub fetched_now : After i
      fetched_now = told_fetch i (Reply.Fetched r.next_token m) refl (subst (λ z. ReaderAt e (after_issue s i) (at_notice e.reader (with_token p r.next_token) z) takes x.l.noticed x.l.read x.l.replied x.took x.over x.shut) (sym reads_it) (next_move (is_next e.reader (with_token p r.next_token) (record { number = p.next; size = length (piece_of e p.next) })) (length (piece_of e p.next) == 0) refl))

    fetch_now : (r : ReceiveRecord) (ms : List Message) → endpoint c e.reader.recv ≡ Receives r → r.unread ≡ ms → After (fetch_from c e.reader.recv r ms)
    fetch_now r [] q u =
        let i = immediate_reply c Reply.Nothing in
        told_fetch i Reply.Nothing refl (finished_at e (after_issue s i) p takes x.l.noticed x.l.read x.l.replied x.took x.over x.shut (still_idle i refl refl) taken)
    fetch_now r (m ∷ ms) q u = fetched_now r m ms q u

    pub fetch_by : (ep : Endpoint) → endpoint c e.reader.recv ≡ ep → After (fetch c e.reader.recv ep)
    fetch_by Free q = refused Refusal.NoEndpoint
    fetch_by (Sends_by r) q = refused Refusal.NoEndpoint
    fetch_by (Reaches r) q = refused Refusal.NoEndpoint
    fetch_by (Receives r) q = by_why (first_of ((r.closing, Refusal.Revoked) ∷ []))
      where
        by_why : (why : Option Refusal) → After (unless_refusal why c (fetch_from c e.reader.recv r r.unread))
        by_why (Some why) = refused why
        by_why None = fetch_now r r.unread q refl
