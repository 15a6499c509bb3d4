-- The writer's own commands, where they are issued.
use Rattle.std.proofs.Common.{◌≡◌, ℕ, suc, ◌+◌, ◌<◌, ◌≤◌, Bool, true, false, List, [], ◌∷◌, ◌++◌, length, get_or, set, Some, None, refl, sym, subst, ◌∙◌, ap, arith, inl, inr, length-append}
use Rattle.std.specs.Prelude.{Option, if◌then◌else◌, ◌==◌, ◌||◌, ◌⊎◌, not, is_some, nat_lt}
use Rattle.std.proofs.lemmas.Bool.Decides.{nat_tests}
use Rattle.std.proofs.lemmas.List.{get_or-set_same}
use Rattle.m3_base.specs.declared.ids.FlightId.{FlightId}
use Rattle.m3_base.specs.declared.message.Message.{Message}
use Rattle.m3_base.specs.declared.packet.Packet.{Packet}
use Rattle.m3_base.specs.declared.packet.Fresh.{Fresh}
use Rattle.m3_base.specs.declared.command.Refusal.{Refusal}
use Rattle.m3_base.specs.declared.command.Reply.{Reply}
use Rattle.m3_base.specs.Lists.Counting.{one}
use Rattle.m3_base.specs.Ideal.Flights.{flight, name_of, new_flight, flight_name}
use Rattle.m3_base.specs.Ideal.Context.{Kind, Sending, Writing, Fetched, Endpoint, Free, Sends as Sends_by, Receives, Reaches, ReceiveRecord, Context, endpoint, with_endpoint}
use Rattle.m3_base.specs.Ideal.ReceiveRecord.{with_fetched, fetched_at, unmarked_message, without_token, without_fetched}
use Rattle.m3_base.specs.Ideal.Issue.{Gives, Flies, Issued, immediate_reply, unless_refusal, first_of, next_id, with_flying_command, live_receive, is_bad_reply, reply_grant, send, send_packet, send_refusal, less_one, fetch, fetch_from, acknowledge, acknowledge_at, after_acknowledge, access, access_refusal, write, may_write, or_else}
use Rattle.m3_base.specs.Ideal.State.{State, context_of}
use Rattle.m3_base.specs.Ideal.Step.{after_issue}
use Rattle.m3_base.specs.Ideal.FlightNames.{Apart}
use Rattle.m3_base.proofs.FlightOrder.{find-new}
use Rattle.m3_laws.specs.GrantInvariant.{form_of}
use Rattle.m3_laws.specs.Invariant.{Invariant}
use Rattle.m3_laws.proofs.credits.Issue.{in_range}
use Rattle.m3_laws.proofs.credits.Counting.{at_set}
use Rattle.m3_pipe_laws.specs.Protocol.{Writer, WriterState, WriterPhase, Begins, Writes, Sends, Awaits, Fetches, Acknowledges, Over, Reaction, writer_step, writer_at_answer, writer_over, writer_choice, await_of_reply, write_of_piece, send_of_notice, is_answered, has_room, with_reply_back, slot, notice}
use Rattle.m3_pipe_laws.specs.Pipe.{player_at_issue, endpoint_at, endpoint_in}
use Rattle.m3_pipe_laws.proofs.Invariant.Sides.{Sides, piece_of, has_one}
use Rattle.m3_pipe_laws.proofs.Invariant.Isolation.{Isolation}
use Rattle.m3_pipe_laws.proofs.Invariant.Flights.{lone_flying, flying_in, flying_of, LoneFlight, Queue, queue_of}
use Rattle.m3_base.specs.Lists.CountDown.{one_less}
use Rattle.m3_pipe_laws.proofs.Invariant.WriterSide.{announced_count, AtRest, Busy, WriterCounts, count_with_chunk, WriteFlies, NoticeFlies, WriterFlies, RepliesOk, WriterSide}
use Rattle.m3_pipe_laws.proofs.Others.Landings.{Lone, form_there}
use Rattle.m3_base.proofs.Activities.{act_found, context-put_same}

-- ---- where the writer goes on

-- its side where it stands at p and sees what leads to m
abbrev pub WriterAt : Sides → State → Reaction WriterState → List ℕ → ℕ → ℕ → ℕ → ℕ → ℕ → Bool → Bool → Type 0
WriterAt e n m last w v k b d over shut = WriterSide e n (record { at = m.next; wants = Some m.move }) last w v k b d over shut

pub refused_over : (w : Writer) (p : WriterState) (d : WriterPhase) (why : Refusal) → writer_at_answer w p d (Reply.Refused why) ≡ writer_over p
refused_over w p Begins why = refl
refused_over w p Writes why = refl
refused_over w p Sends why = refl
refused_over w p Awaits why = refl
refused_over w p Fetches why = refl
refused_over w p Acknowledges why = refl
refused_over w p Over why = refl

-- what its side needs beside its place
pub record WriterHas (e : Sides) (n : State) (p : WriterState) (b d : ℕ) (shut : Bool) : Type 0 where
  pub back : p.ended ≡ false → b ≡ p.back
  pub few : p.ended ≡ false → p.sent ≤ 65536
  pub replies : RepliesOk p d shut (queue_of (endpoint_at n e.w e.writer.reply))

pub replies_doing : (p : WriterState) (d : ℕ) (shut : Bool) (g : WriterPhase) (o : Option Queue) → RepliesOk p d shut o → RepliesOk (record p { doing = g }) d shut o
replies_doing p d shut g None h = tt
replies_doing p d shut g (Some q) h = h

pub over_at : (e : Sides) (n : State) (p : WriterState) (last : List ℕ) (w v k b d : ℕ) (over shut : Bool) → flying_of e.w n ≡ [] → WriterHas e n p b d shut → WriterAt e n (writer_over p) last w v k b d over shut
over_at e n p last w v k b d over shut idle h = record { by = (idle, refl); back = h.back; few = h.few; replies = replies_doing p d shut Over (queue_of (endpoint_at n e.w e.writer.reply)) h.replies }

pub rest_doing : (p : WriterState) (w v k : ℕ) (over : Bool) (g : WriterPhase) → AtRest p w v k over → AtRest (record p { doing = g }) w v k over
rest_doing p w v k over g h = record { written = h.written; noticed = h.noticed; put = h.put; over = h.over }

announced_now : (p : WriterState) → p.ended ≡ false → announced_count p ≡ p.sent
announced_now p h = ap (λ b. if b then one_less p.sent else p.sent) h

pub chooses_at : (e : Sides) (n : State) (p : WriterState) (last : List ℕ) (w v k b d : ℕ) (over shut : Bool) → flying_of e.w n ≡ [] → WriterHas e n p b d shut → AtRest p w v k over → WriterAt e n (writer_choice e.writer p) last w v k b d over shut
chooses_at e n p last w v k b d over shut idle h rest = by_tests (is_answered p) (has_room e.writer p) p.ended (has_one e p.sent) refl refl refl
  where
    q : (g : WriterPhase) → RepliesOk (record p { doing = g }) d shut (queue_of (endpoint_at n e.w e.writer.reply))
    q g = replies_doing p d shut g (queue_of (endpoint_at n e.w e.writer.reply)) h.replies

    counts : (g : WriterPhase) → p.ended ≡ false → WriterCounts w v k over p.sent p.sent p.sent false
    counts g f = record { written = rest.written ∙ announced_now p f; noticed = rest.noticed ∙ announced_now p f; put = rest.put ∙ announced_now p f; over = rest.over ∙ f }

    by_tests : (a c f g : Bool) → has_room e.writer p ≡ c → p.ended ≡ f → has_one e p.sent ≡ g → WriterAt e n (if a then writer_over p else (if not c || f then await_of_reply e.writer p else (if g then write_of_piece e.writer p else send_of_notice e.writer p))) last w v k b d over shut
    by_tests true c f g x y z = over_at e n p last w v k b d over shut idle h
    by_tests false false f g x y z = record { by = (idle, (refl, rest_doing p w v k over Awaits rest)); back = h.back; few = h.few; replies = q Awaits }
    by_tests false true true g x y z = record { by = (idle, (refl, rest_doing p w v k over Awaits rest)); back = h.back; few = h.few; replies = q Awaits }
    by_tests false true false true x y z =
        let room : p.sent < p.back + e.writer.ring = grind (arith, nat_tests, x) in
        record { by = (idle, (refl, (z, (record { more = y; room = room }, counts Writes y)))); back = h.back; few = h.few; replies = q Writes }
    by_tests false true false false x y z =
        let room : p.sent < p.back + e.writer.ring = grind (arith, nat_tests, x) in
        let none : p.sent ≡ p.sent + one (has_one e p.sent) = rw z (omega arith) in
        let c = counts Sends y in
        record { by = (idle, (refl, (record { more = y; room = room }, record { written = c.written ∙ none; noticed = c.noticed; put = c.put ∙ none; over = c.over }))); back = h.back; few = h.few; replies = q Sends }

-- ---- its commands

-- one fetched message less
pub less_fetched : (t : ℕ) (fs : List Fetched) (m : Message) → unmarked_message (fetched_at t fs) ≡ Some m → length (without_token t fs) + 1 ≡ length fs
less_fetched t [] m h = absurd (cc)
less_fetched t (f ∷ fs) m h = by_token (f.token == t) refl (less_fetched t fs m)
  where
    by_token : (b : Bool) → (f.token == t) ≡ b → (unmarked_message (fetched_at t fs) ≡ Some m → length (without_token t fs) + 1 ≡ length fs) → length (if b then fs else f ∷ without_token t fs) + 1 ≡ length (f ∷ fs)
    by_token true w ih = omega arith
    by_token false w ih = let z = ih (grind (arith, w, h)) in omega (arith, z)

live_has : (e : Endpoint) → is_some (live_receive e) ≡ true → (q : ReceiveRecord) × ((e ≡ Receives q) × (live_receive e ≡ Some q.grant))
live_has Free h = absurd (cc)
live_has (Sends_by r) h = absurd (cc)
live_has (Reaches r) h = absurd (cc)
live_has (Receives r) h = by_closing r.closing refl
  where
    by_closing : (b : Bool) → r.closing ≡ b → (q : ReceiveRecord) × ((Receives r ≡ Receives q) × (live_receive (Receives r) ≡ Some q.grant))
    by_closing true w = absurd (grind (arith, w, h))
    by_closing false w = (r, (refl, ap (λ b. if b then None else Some r.grant) w))

second : (a b c d : Bool) (x y z u : Refusal) → first_of ((a, x) ∷ (b, y) ∷ (c, z) ∷ (d, u) ∷ []) ≡ None → b ≡ false
second true b c d x y z u e = absurd (cc)
second false true c d x y z u e = absurd (cc)
second false false c d x y z u e = refl

or_else_is : (o : Option ℕ) (n : ℕ) → o ≡ Some n → or_else o 0 ≡ n
or_else_is o n q = ap (λ z. or_else z 0) q

abbrev pub start_of : Fresh → ℕ
start_of (Fresh.Memory g start len perm) = start
start_of f = 0

abbrev pub to_of : Fresh → ℕ
to_of (Fresh.Send g to to_ep to_grant label size limit) = to
to_of f = 0

abbrev pub to_ep_of : Fresh → ℕ
to_ep_of (Fresh.Send g to to_ep to_grant label size limit) = to_ep
to_ep_of f = 0

abbrev pub to_grant_of : Fresh → ℕ
to_grant_of (Fresh.Send g to to_ep to_grant label size limit) = to_grant
to_grant_of f = 0

abbrev pub grant_number : Fresh → ℕ
grant_number (Fresh.Receive g slots size) = g
grant_number f = 0

module _ (e : Sides) (s : State) (law : Invariant s) (around : Isolation e s) (lone_w : Lone e.w s) (lone_r : Lone e.r s) (p : WriterState) (c : Context) (at : context_of e.w s.contexts ≡ Some c) (idle : c.flying ≡ []) (w v k b d : ℕ) (over shut : Bool) (has : WriterHas e s p b d shut) where
  is_act : e.w ≡ c.act
  is_act = act_found e.w c s.contexts at

  now : (i : Issued) → i.context.act ≡ c.act → context_of e.w (after_issue s i).contexts ≡ Some i.context
  now i h =
      let same : e.w ≡ i.context.act = is_act ∙ sym h in
      subst (λ z. context_of z (after_issue s i).contexts ≡ Some i.context) (sym same) (context-put_same c i.context s.contexts (subst (λ z. context_of z s.contexts ≡ Some c) same at))

  old_queue : queue_of (endpoint_at s e.w e.writer.reply) ≡ queue_of (endpoint c e.writer.reply)
  old_queue = ap (λ z. queue_of (endpoint_in e.writer.reply z)) at

  new_queue : (i : Issued) → i.context.act ≡ c.act → queue_of (endpoint_at (after_issue s i) e.w e.writer.reply) ≡ queue_of (endpoint i.context e.writer.reply)
  new_queue i h = ap (λ z. queue_of (endpoint_in e.writer.reply z)) (now i h)

  has_old : RepliesOk p d shut (queue_of (endpoint c e.writer.reply))
  has_old = subst (RepliesOk p d shut) old_queue has.replies

  -- where the queue of replies stays or is no queue
  has_by : (i : Issued) → i.context.act ≡ c.act → (queue_of (endpoint i.context e.writer.reply) ≡ queue_of (endpoint c e.writer.reply)) ⊎ (queue_of (endpoint i.context e.writer.reply) ≡ None) → WriterHas e (after_issue s i) p b d shut
  has_by i h (inl q) = record { back = has.back; few = has.few; replies = subst (RepliesOk p d shut) (sym (new_queue i h ∙ q)) has_old }
  has_by i h (inr q) = record { back = has.back; few = has.few; replies = subst (RepliesOk p d shut) (sym (new_queue i h ∙ q)) tt }

  -- where its player stands then
  abbrev pub After : List ℕ → ℕ → ℕ → ℕ → ℕ → Issued → Type 0
  After last w' v' k' b' i = WriterSide e (after_issue s i) (player_at_issue (writer_step e.writer) e.w p i.told) last w' v' k' b' d over shut

  still_idle : (i : Issued) → i.context.act ≡ c.act → i.context.flying ≡ c.flying → flying_of e.w (after_issue s i) ≡ []
  still_idle i h q = ap flying_in (now i h) ∙ (q ∙ idle)

  pub refused : (last : List ℕ) (why : Refusal) → After last w v k b (immediate_reply c (Reply.Refused why))
  refused last why =
      let i = immediate_reply c (Reply.Refused why) in
      subst (λ m. WriterAt e (after_issue s i) m last w v k b d over shut) (sym (refused_over e.writer p p.doing why)) (over_at e (after_issue s i) p last w v k b d over shut (still_idle i refl refl) (has_by i refl (inl refl)))

  new_flying : (i : Issued) (kind : Kind) (ep : ℕ) → i.context.act ≡ c.act → i.context.flying ≡ c.flying ++ record { number = c.next; kind = kind; ep = ep; token = 0 } ∷ [] → flying_of e.w (after_issue s i) ≡ lone_flying c.next kind ep 0
  new_flying i kind ep h q = ap flying_in (now i h) ∙ (q ∙ ap (λ fs. fs ++ record { number = c.next; kind = kind; ep = ep; token = 0 } ∷ []) idle)

  new_found : (x : Packet) → name_of x ≡ next_id c → flight (flight_name e.w c.next) (new_flight x s.flights) ≡ Some x
  new_found x q =
      let name : name_of x ≡ flight_name e.w c.next = q ∙ ap (λ z. flight_name z c.next) (sym is_act) in
      let apart : Apart (name_of x) s.flights = subst (λ z. Apart z s.flights) (sym q) ((law.lawful.traffic.contexts e.w c at).apart c.next (omega arith)) in
      subst (λ z. flight z (new_flight x s.flights) ≡ Some x) name (find-new x s.flights apart)

  -- ---- a write

  module _ (doing : p.doing ≡ Writes) (one_more : has_one e p.sent ≡ true) (busy : Busy e p) (counts : WriterCounts w v k over p.sent p.sent p.sent false) where
    pub write_by : (ep : Endpoint) → endpoint c e.writer.mem ≡ ep → After (piece_of e p.sent) w v k b (write c e.writer.mem (slot e.writer.ring e.writer.chunk p.sent) (piece_of e p.sent) ep)
    write_by Free q = refused (piece_of e p.sent) Refusal.NoEndpoint
    write_by (Sends_by r) q = refused (piece_of e p.sent) Refusal.NoEndpoint
    write_by (Receives r) q = refused (piece_of e p.sent) Refusal.NoEndpoint
    write_by (Reaches r) q = by_why (access_refusal r (slot e.writer.ring e.writer.chunk p.sent) (length (piece_of e p.sent)) (may_write r.perm))
      where
        x : Packet
        x = Packet.Write (next_id c) r.grant (r.start + slot e.writer.ring e.writer.chunk p.sent) (piece_of e p.sent)

        i : Issued
        i = access c Writing e.writer.mem x

        start : r.start ≡ e.out.start
        start = ap start_of (form_there e s law around lone_w lone_r e.w e.writer.mem (Fresh.Memory e.out.grant e.out.start e.out.length e.out.perm) (Fresh.Memory r.grant r.start r.length r.perm) c around.grants.out at (ap form_of q))

        flown : LoneFlight e.w (after_issue s i) Writing e.writer.mem 0 (WriteFlies e p w v k over (piece_of e p.sent))
        flown = record {
          number = c.next;
          flying = new_flying i Writing e.writer.mem refl refl;
          packet = x;
          found = new_found x refl;
          phase = (ap (λ z. z + slot e.writer.ring e.writer.chunk p.sent) start, (refl, (one_more, (refl, (busy, counts)))));
        }

        by_why : (why : Option Refusal) → After (piece_of e p.sent) w v k b (unless_refusal why c (access c Writing e.writer.mem x))
        by_why (Some why) = refused (piece_of e p.sent) why
        by_why None = let h = has_by i refl (inl refl) in record { by = subst (WriterFlies e (after_issue s i) p w v k over (piece_of e p.sent)) (sym doing) flown; back = h.back; few = h.few; replies = h.replies }

  -- ---- a notice

  module _ (last : List ℕ) (doing : p.doing ≡ Sends) (busy : Busy e p) (counts : WriterCounts w v k over (count_with_chunk e p) p.sent (count_with_chunk e p) false) where
    pub send_by : (ep : Endpoint) → endpoint c e.writer.send ≡ ep → After last w v k b (send c e.writer.send (notice p.sent (length (piece_of e p.sent))) (Some e.writer.reply) ep)
    send_by Free q = refused last Refusal.NoEndpoint
    send_by (Reaches r) q = refused last Refusal.NoEndpoint
    send_by (Receives r) q = refused last Refusal.NoEndpoint
    send_by (Sends_by r) q = by_why (send_refusal c r payload (Some e.writer.reply)) refl
      where
        payload : List ℕ
        payload = notice p.sent (length (piece_of e p.sent))

        x : Packet
        x = send_packet c r payload (Some e.writer.reply)

        i : Issued
        i = record { told = Flies (next_id c); packet = Some x; context = with_endpoint (with_flying_command c Sending e.writer.send 0) e.writer.send (Sends_by (less_one r)) }

        form : Fresh.Send r.grant r.to r.to_ep r.to_grant r.label r.size r.limit ≡ Fresh.Send e.notices.grant e.r e.reader.recv e.inbox.grant e.notices.label e.notices.size e.notices.limit
        form = form_there e s law around lone_w lone_r e.w e.writer.send (Fresh.Send e.notices.grant e.r e.reader.recv e.inbox.grant e.notices.label e.notices.size e.notices.limit) (Fresh.Send r.grant r.to r.to_ep r.to_grant r.label r.size r.limit) c around.grants.notices at (ap form_of q)

        live_is : (q : ReceiveRecord) → endpoint c e.writer.reply ≡ Receives q → live_receive (endpoint c e.writer.reply) ≡ Some q.grant → reply_grant c (Some e.writer.reply) ≡ e.replies.grant
        live_is q at_reply live =
            or_else_is (live_receive (endpoint c e.writer.reply)) q.grant live
            ∙ ap grant_number (form_there e s law around lone_w lone_r e.w e.writer.reply (Fresh.Receive e.replies.grant e.replies.slots e.replies.size) (Fresh.Receive q.grant q.slots q.size) c around.grants.replies at (ap form_of at_reply))

        reply_is : send_refusal c r payload (Some e.writer.reply) ≡ None → reply_grant c (Some e.writer.reply) ≡ e.replies.grant
        reply_is h =
            let ok : is_bad_reply c (Some e.writer.reply) ≡ false = second r.closing (is_bad_reply c (Some e.writer.reply)) (nat_lt r.size (length payload)) (r.held == 0) Refusal.Revoked Refusal.BadReplyEndpoint Refusal.TooLarge Refusal.NoCredits h in
            let live = live_has (endpoint c e.writer.reply) (grind (arith, ok)) in
            live_is live.0 live.1.0 live.1.1

        flown : send_refusal c r payload (Some e.writer.reply) ≡ None → LoneFlight e.w (after_issue s i) Sending e.writer.send 0 (NoticeFlies e p w v k over)
        flown h = record {
          number = c.next;
          flying = new_flying i Sending e.writer.send refl refl;
          packet = x;
          found = new_found x refl;
          phase = (ap to_of form, (ap to_ep_of form, (ap to_grant_of form, (record { number = has.few busy.more; payload = refl; flags = refl; sender = sym is_act; reply_ep = refl; reply = reply_is h }, (busy, counts)))));
        }

        queue : (queue_of (endpoint i.context e.writer.reply) ≡ queue_of (endpoint c e.writer.reply)) ⊎ (queue_of (endpoint i.context e.writer.reply) ≡ None)
        queue = by_case (at_set c.endpoints e.writer.send e.writer.reply (Sends_by (less_one r)))
          where
            by_case : (endpoint i.context e.writer.reply ≡ endpoint c e.writer.reply) ⊎ ((e.writer.reply ≡ e.writer.send) × (endpoint i.context e.writer.reply ≡ Sends_by (less_one r))) → (queue_of (endpoint i.context e.writer.reply) ≡ queue_of (endpoint c e.writer.reply)) ⊎ (queue_of (endpoint i.context e.writer.reply) ≡ None)
            by_case (inl z) = inl (ap queue_of z)
            by_case (inr z) = inr (ap queue_of z.1)

        by_why : (why : Option Refusal) → send_refusal c r payload (Some e.writer.reply) ≡ why → After last w v k b (unless_refusal why c i)
        by_why (Some why) h = refused last why
        by_why None h = let y = has_by i refl queue in record { by = subst (WriterFlies e (after_issue s i) p w v k over last) (sym doing) (flown h); back = y.back; few = y.few; replies = y.replies }

  -- ---- its queue of replies

  module _ (last : List ℕ) (doing : p.doing ≡ Fetches) (rest : AtRest p w v k over) where
    told_fetch : (i : Issued) (answer : Reply) → i.told ≡ Gives answer → WriterAt e (after_issue s i) (writer_at_answer e.writer p Fetches answer) last w v k b d over shut → After last w v k b i
    told_fetch i answer q h = subst (λ z. WriterSide e (after_issue s i) (player_at_issue (writer_step e.writer) e.w p z) last w v k b d over shut) (sym q) (subst (λ z. WriterAt e (after_issue s i) (writer_at_answer e.writer p z answer) last w v k b d over shut) (sym doing) h)

    same_count : (r : ReceiveRecord) (m : Message) (ms : List Message) → endpoint c e.writer.reply ≡ Receives r → r.unread ≡ m ∷ ms → RepliesOk p d shut (queue_of (Receives (with_fetched r m ms)))
    same_count r m ms q u =
        let old : p.back + (length r.unread + length r.fetched) ≤ d + one shut = subst (λ z. RepliesOk p d shut (queue_of z)) q has_old in
        let less : length r.unread ≡ suc (length ms) = ap length u in
        omega (arith, old, less, length-append r.fetched (record { token = r.next_token; marked = false; message = m } ∷ []))

    fetch_now : (r : ReceiveRecord) (ms : List Message) → endpoint c e.writer.reply ≡ Receives r → r.unread ≡ ms → After last w v k b (fetch_from c e.writer.reply r ms)
    fetch_now r [] q u =
        let i = immediate_reply c Reply.Nothing in
        told_fetch i Reply.Nothing refl (over_at e (after_issue s i) p last w v k b d over shut (still_idle i refl refl) (has_by i refl (inl refl)))
    fetch_now r (m ∷ ms) q u =
        let i = immediate_reply (with_endpoint c e.writer.reply (Receives (with_fetched r m ms))) (Reply.Fetched r.next_token m) in
        told_fetch i (Reply.Fetched r.next_token m) refl (record {
          by = (still_idle i refl refl, (r.next_token, (refl, rest_doing p w v k over Acknowledges rest)));
          back = has.back;
          few = has.few;
          replies = replies_doing p d shut Acknowledges (queue_of (endpoint_at (after_issue s i) e.w e.writer.reply)) (by_set (at_set c.endpoints e.writer.reply e.writer.reply (Receives (with_fetched r m ms))));
        })
      where
        i : Issued
        i = immediate_reply (with_endpoint c e.writer.reply (Receives (with_fetched r m ms))) (Reply.Fetched r.next_token m)

        by_set : (endpoint i.context e.writer.reply ≡ endpoint c e.writer.reply) ⊎ ((e.writer.reply ≡ e.writer.reply) × (endpoint i.context e.writer.reply ≡ Receives (with_fetched r m ms))) → RepliesOk p d shut (queue_of (endpoint_at (after_issue s i) e.w e.writer.reply))
        by_set (inl z) = subst (RepliesOk p d shut) (sym (new_queue i refl ∙ ap queue_of z)) has_old
        by_set (inr z) = subst (RepliesOk p d shut) (sym (new_queue i refl ∙ ap queue_of z.1)) (same_count r m ms q u)

    pub fetch_by : (ep : Endpoint) → endpoint c e.writer.reply ≡ ep → After last w v k b (fetch c e.writer.reply ep)
    fetch_by Free q = refused last Refusal.NoEndpoint
    fetch_by (Sends_by r) q = refused last Refusal.NoEndpoint
    fetch_by (Reaches r) q = refused last Refusal.NoEndpoint
    fetch_by (Receives r) q = by_why (first_of ((r.closing, Refusal.Revoked) ∷ []))
      where
        by_why : (why : Option Refusal) → After last w v k b (unless_refusal why c (fetch_from c e.writer.reply r r.unread))
        by_why (Some why) = refused last why
        by_why None = fetch_now r r.unread q refl

  module _ (last : List ℕ) (doing : p.doing ≡ Acknowledges) (rest : AtRest p w v k over) where
    -- the reply of a chunk counts as back, that of the end doesn't
    abbrev pub back_after : ℕ
    back_after = if p.ended then b else b + 1

    told_ack : (i : Issued) (credit : Option FlightId) → i.told ≡ Gives (Reply.Acknowledged credit) → WriterAt e (after_issue s i) (writer_choice e.writer (with_reply_back p)) last w v k back_after d over shut → After last w v k back_after i
    told_ack i credit q h = subst (λ z. WriterSide e (after_issue s i) (player_at_issue (writer_step e.writer) e.w p z) last w v k back_after d over shut) (sym q) (subst (λ z. WriterAt e (after_issue s i) (writer_at_answer e.writer p z (Reply.Acknowledged credit)) last w v k back_after d over shut) (sym doing) h)

    one_less_queued : (r : ReceiveRecord) (token : ℕ) (m : Message) → endpoint c e.writer.reply ≡ Receives r → unmarked_message (fetched_at token r.fetched) ≡ Some m → RepliesOk (with_reply_back p) d shut (queue_of (Receives (without_fetched r token)))
    one_less_queued r token m q u =
        let old : p.back + (length r.unread + length r.fetched) ≤ d + one shut = subst (λ z. RepliesOk p d shut (queue_of z)) q has_old in
        let less = less_fetched token r.fetched m u in
        omega (arith, old, less)

    -- something was there to be acknowledged
    pub some_back : (r : ReceiveRecord) (token : ℕ) (m : Message) → endpoint c e.writer.reply ≡ Receives r → unmarked_message (fetched_at token r.fetched) ≡ Some m → p.back < d + one shut
    some_back r token m q u =
        let old : p.back + (length r.unread + length r.fetched) ≤ d + one shut = subst (λ z. RepliesOk p d shut (queue_of z)) q has_old in
        let less = less_fetched token r.fetched m u in
        omega (arith, old, less)

    ack_at : (i : Issued) (r : ReceiveRecord) (token : ℕ) (m : Message) (credit : Option FlightId) → endpoint c e.writer.reply ≡ Receives r → unmarked_message (fetched_at token r.fetched) ≡ Some m → i.told ≡ Gives (Reply.Acknowledged credit) → i.context.act ≡ c.act → i.context.flying ≡ c.flying → i.context.endpoints ≡ set c.endpoints e.writer.reply (Receives (without_fetched r token)) → After last w v k back_after i
    ack_at i r token m credit q u told act fly ends =
        let range = in_range c.endpoints e.writer.reply (λ z. some_record r (sym q ∙ z)) in
        let there : endpoint i.context e.writer.reply ≡ Receives (without_fetched r token) = ap (λ es. get_or es e.writer.reply Free) ends ∙ get_or-set_same c.endpoints e.writer.reply (Receives (without_fetched r token)) Free range in
        told_ack i credit told (chooses_at e (after_issue s i) (with_reply_back p) last w v k back_after d over shut (still_idle i act fly) (record {
          back = λ h. ap (λ z. if z then b else b + 1) h ∙ ap (λ z. z + 1) (has.back h);
          few = has.few;
          replies = subst (RepliesOk (with_reply_back p) d shut) (sym (new_queue i act ∙ ap queue_of there)) (one_less_queued r token m q u);
        }) (record { written = rest.written; noticed = rest.noticed; put = rest.put; over = rest.over }))
      where
        some_record : (x : ReceiveRecord) → Receives x ≡ Free → ⊥
        some_record x z = absurd (cc)

    ack_by_flags : (r : ReceiveRecord) (token : ℕ) (m : Message) → endpoint c e.writer.reply ≡ Receives r → unmarked_message (fetched_at token r.fetched) ≡ Some m → (f : Bool) → After last w v k back_after (after_acknowledge c e.writer.reply r token m f)
    ack_by_flags r token m q u true = ack_at (after_acknowledge c e.writer.reply r token m true) r token m (Some (next_id c)) q u refl refl refl refl
    ack_by_flags r token m q u false = ack_at (after_acknowledge c e.writer.reply r token m false) r token m None q u refl refl refl refl

    -- either it is refused, or something was there
    pub data Acked (i : Issued) : Type 0 where
      Not_acked : After last w v k b i → Acked i
      Is_acked : p.back < d + one shut → After last w v k back_after i → Acked i

    pub ack_by : (token : ℕ) (ep : Endpoint) → endpoint c e.writer.reply ≡ ep → Acked (acknowledge c e.writer.reply token ep)
    ack_by token Free q = Not_acked (refused last Refusal.NoEndpoint)
    ack_by token (Sends_by r) q = Not_acked (refused last Refusal.NoEndpoint)
    ack_by token (Reaches r) q = Not_acked (refused last Refusal.NoEndpoint)
    ack_by token (Receives r) q = by_why (first_of ((r.closing, Refusal.Revoked) ∷ [])) (unmarked_message (fetched_at token r.fetched)) refl
      where
        by_why : (why : Option Refusal) (o : Option Message) → unmarked_message (fetched_at token r.fetched) ≡ o → Acked (unless_refusal why c (acknowledge_at c e.writer.reply r token o))
        by_why (Some why) o u = Not_acked (refused last why)
        by_why None None u = Not_acked (refused last Refusal.NoSuchToken)
        by_why None (Some m) u = Is_acked (some_back r token m q u) (ack_by_flags r token m q u (m.header.flags == 0))
