-- Landings of the writer's and the reader's packets keep the sides of a pipe.
use Rattle.std.proofs.Common.{◌≡◌, ℕ, List, Some, None, refl, sym, subst, ◌∙◌, ap}
use Rattle.std.specs.Prelude.{Option}
use Rattle.m3_base.specs.declared.ids.FlightId.{FlightId}
use Rattle.m3_base.specs.declared.message.Message.{Message}
use Rattle.m3_base.specs.declared.packet.Packet.{Packet}
use Rattle.m3_base.specs.declared.command.Answer.{Answer}
use Rattle.m3_base.specs.declared.command.Refusal.{Refusal}
use Rattle.m3_base.specs.declared.step.Step.{Step}
use Rattle.m3_base.specs.Ideal.Flights.{flight, flight_name}
use Rattle.m3_base.specs.Ideal.Context.{Kind, Sending, Replying, Reading, Writing, Context, endpoint}
use Rattle.m3_base.specs.Ideal.Landing.{land_by, land_refusal}
use Rattle.m3_base.specs.Ideal.State.{State, context_of}
use Rattle.m3_base.specs.Ideal.Step.{IdealResult, land_in, message_in, landed_in}
use Rattle.m3_pipe_laws.specs.Protocol.{WriterState, WriterPhase, Begins, Writes, Sends, Awaits, Fetches, Acknowledges, Over, ReaderState, ReaderPhase, Starts, Waits, Looks, Reads, Replies, Closes, Finished}
use Rattle.m3_pipe_laws.specs.Pipe.{Player}
use Rattle.m3_pipe_laws.proofs.Invariant.Sides.{Sides, SidesOk}
use Rattle.m3_pipe_laws.proofs.Invariant.Flights.{lone_flying, flying_of}
use Rattle.m3_pipe_laws.proofs.Invariant.WriterSide.{WriteFlies, NoticeFlies, WriterFlies}
use Rattle.m3_pipe_laws.proofs.Invariant.ReaderSide.{ReadFlies, ReplyFlies, EndFlies, ReaderFlies}
use Rattle.m3_pipe_laws.proofs.Invariant.WholePipe.{Marks, PipeAt}
use Rattle.m3_pipe_laws.proofs.Others.Frames.{IsOwn, flies-same}
use Rattle.m3_pipe_laws.proofs.Writer.Landings.{Joins, write_landed, notice_refused, notice_landed}
use Rattle.m3_pipe_laws.proofs.Reader.Landings.{read_landed, flown_after, reply_refused, reply_landed, end_landed}
use Rattle.m3_pipe_laws.proofs.Runs.Commands.{Goal, no_more}

-- ---- the joined sides after a step that no program sees

abbrev pub JoinsAfter : Sides → State → Player WriterState → Player ReaderState → List ℕ → List ℕ → List ℕ → Option IdealResult → Type 0
JoinsAfter e s pw pr last puts takes None = Joins e s pw pr last puts takes
JoinsAfter e s pw pr last puts takes (Some n) = Joins e n.state pw pr last puts takes

pub land_goal : (e : Sides) (s : State) (pw : Player WriterState) (pr : Player ReaderState) (last puts takes : List ℕ) (id : FlightId) (o : Option IdealResult) → JoinsAfter e s pw pr last puts takes o → Goal e s pw pr last puts takes (Step.Land id) o
land_goal e s pw pr last puts takes id None h = no_more e s pw pr last puts takes h
land_goal e s pw pr last puts takes id (Some n) h = no_more e n.state pw pr last puts takes h

-- ---- the writer's packet lands

module _ (e : Sides) (s : State) (ok : SidesOk e) (p : WriterState) (pr : Player ReaderState) (last puts takes : List ℕ) (x : Marks) (h : PipeAt e s (record { at = p; wants = None }) pr last puts takes x) where
  abbrev pub LandsW : Option IdealResult → Type 0
  LandsW = JoinsAfter e s (record { at = p; wants = None }) pr last puts takes

  same_w : Joins e s (record { at = p; wants = None }) pr last puts takes
  same_w = record { marks = x; joined = h }

  notice_case : (number : ℕ) → p.doing ≡ Sends → flying_of e.w s ≡ lone_flying number Sending e.writer.send 0 → (m : Message) → flight (flight_name e.w number) s.flights ≡ Some (Packet.Message e.r e.reader.recv e.inbox.grant m) → NoticeFlies e p x.l.written x.l.noticed x.put x.over (Packet.Message e.r e.reader.recv e.inbox.grant m) → (o : Option Context) → context_of e.r s.contexts ≡ o → LandsW (message_in s (flight_name e.w number) e.reader.recv e.inbox.grant m o)
  notice_case number doing fly m find phase None at = same_w
  notice_case number doing fly m find phase (Some c) at = by_why (land_refusal e.inbox.grant m (endpoint c e.reader.recv)) refl
    where
      by_why : (w : Option Refusal) → land_refusal e.inbox.grant m (endpoint c e.reader.recv) ≡ w → LandsW (landed_in s (flight_name e.w number) (land_by e.reader.recv m c w))
      by_why (Some why) q = notice_refused e s ok p pr last puts takes x h doing number fly m find phase.1.1.1.0 phase.1.1.1.1.0 phase.1.1.1.1.1 c at why
      by_why None q = notice_landed e s ok p pr last puts takes x h doing number fly m find phase.1.1.1.0 phase.1.1.1.1.0 phase.1.1.1.1.1 c at q

  sends_case : (number : ℕ) → p.doing ≡ Sends → flying_of e.w s ≡ lone_flying number Sending e.writer.send 0 → (k : Packet) → flight (flight_name e.w number) s.flights ≡ Some k → NoticeFlies e p x.l.written x.l.noticed x.put x.over k → LandsW (land_in s (flight_name e.w number) (Some k))
  sends_case number doing fly (Packet.Answer y answer) find phase = same_w
  sends_case number doing fly (Packet.Credit y to g) find phase = absurd phase
  sends_case number doing fly (Packet.Read y g place buffer) find phase = absurd phase
  sends_case number doing fly (Packet.Write y g place payload) find phase = absurd phase
  sends_case number doing fly (Packet.Install y to ep f) find phase = absurd phase
  sends_case number doing fly (Packet.Close y to ep g) find phase = absurd phase
  sends_case number doing fly (Packet.Message to ep g m) find phase =
      at_to to phase.0 find phase
    where
      at_grant : (g : ℕ) → g ≡ e.inbox.grant → flight (flight_name e.w number) s.flights ≡ Some (Packet.Message e.r e.reader.recv g m) → NoticeFlies e p x.l.written x.l.noticed x.put x.over (Packet.Message e.r e.reader.recv g m) → LandsW (message_in s (flight_name e.w number) e.reader.recv g m (context_of e.r s.contexts))
      at_grant g q = subst (λ z. flight (flight_name e.w number) s.flights ≡ Some (Packet.Message e.r e.reader.recv z m) → NoticeFlies e p x.l.written x.l.noticed x.put x.over (Packet.Message e.r e.reader.recv z m) → LandsW (message_in s (flight_name e.w number) e.reader.recv z m (context_of e.r s.contexts))) (sym q) (λ f k. notice_case number doing fly m f k (context_of e.r s.contexts) refl)

      at_ep : (ep : ℕ) → ep ≡ e.reader.recv → flight (flight_name e.w number) s.flights ≡ Some (Packet.Message e.r ep g m) → NoticeFlies e p x.l.written x.l.noticed x.put x.over (Packet.Message e.r ep g m) → LandsW (message_in s (flight_name e.w number) ep g m (context_of e.r s.contexts))
      at_ep ep q = subst (λ z. flight (flight_name e.w number) s.flights ≡ Some (Packet.Message e.r z g m) → NoticeFlies e p x.l.written x.l.noticed x.put x.over (Packet.Message e.r z g m) → LandsW (message_in s (flight_name e.w number) z g m (context_of e.r s.contexts))) (sym q) (at_grant g phase.1.1.0)

      at_to : (to : ℕ) → to ≡ e.r → flight (flight_name e.w number) s.flights ≡ Some (Packet.Message to ep g m) → NoticeFlies e p x.l.written x.l.noticed x.put x.over (Packet.Message to ep g m) → LandsW (message_in s (flight_name e.w number) ep g m (context_of to s.contexts))
      at_to to q = subst (λ z. flight (flight_name e.w number) s.flights ≡ Some (Packet.Message z ep g m) → NoticeFlies e p x.l.written x.l.noticed x.put x.over (Packet.Message z ep g m) → LandsW (message_in s (flight_name e.w number) ep g m (context_of z s.contexts))) (sym q) (at_ep ep phase.1.0)

  writes_case : (number : ℕ) → p.doing ≡ Writes → flying_of e.w s ≡ lone_flying number Writing e.writer.mem 0 → (k : Packet) → flight (flight_name e.w number) s.flights ≡ Some k → WriteFlies e p x.l.written x.l.noticed x.put x.over last k → LandsW (land_in s (flight_name e.w number) (Some k))
  writes_case number doing fly (Packet.Answer y answer) find phase = same_w
  writes_case number doing fly (Packet.Write y g place payload) find phase = write_landed e s ok p pr last puts takes x number place g y payload h doing fly find phase
  writes_case number doing fly (Packet.Credit y to g) find phase = absurd phase
  writes_case number doing fly (Packet.Read y g place buffer) find phase = absurd phase
  writes_case number doing fly (Packet.Message to ep g m) find phase = absurd phase
  writes_case number doing fly (Packet.Install y to ep f) find phase = absurd phase
  writes_case number doing fly (Packet.Close y to ep g) find phase = absurd phase

  pub writer_lands : (id : FlightId) → IsOwn e.w s id → LandsW (land_in s id (flight id s.flights))
  writer_lands id its = by_doing p.doing refl h.writer.by
    where
      by_number : (n : ℕ) (kind : Kind) (ep token : ℕ) → flying_of e.w s ≡ lone_flying n kind ep token → id ≡ flight_name e.w n
      by_number n kind ep token f = its.name ∙ ap (flight_name e.w) (flies-same e.w s its.number n its.kind kind its.ep its.token ep token its.flying f)

      by_doing : (d : WriterPhase) → p.doing ≡ d → WriterFlies e s p x.l.written x.l.noticed x.put x.over last d → LandsW (land_in s id (flight id s.flights))
      by_doing Begins q f = absurd f
      by_doing Awaits q f = absurd f
      by_doing Fetches q f = absurd f
      by_doing Acknowledges q f = absurd f
      by_doing Over q f = absurd f
      by_doing Writes q f = subst (λ z. LandsW (land_in s z (flight z s.flights))) (sym (by_number f.number Writing e.writer.mem 0 f.flying)) (subst (λ o. LandsW (land_in s (flight_name e.w f.number) o)) (sym f.found) (writes_case f.number q f.flying f.packet f.found f.phase))
      by_doing Sends q f = subst (λ z. LandsW (land_in s z (flight z s.flights))) (sym (by_number f.number Sending e.writer.send 0 f.flying)) (subst (λ o. LandsW (land_in s (flight_name e.w f.number) o)) (sym f.found) (sends_case f.number q f.flying f.packet f.found f.phase))

-- ---- the reader's packet lands

module _ (e : Sides) (s : State) (ok : SidesOk e) (pw : Player WriterState) (p : ReaderState) (last puts takes : List ℕ) (x : Marks) (h : PipeAt e s pw (record { at = p; wants = None }) last puts takes x) where
  abbrev pub LandsR : Option IdealResult → Type 0
  LandsR = JoinsAfter e s pw (record { at = p; wants = None }) last puts takes

  same_r : Joins e s pw (record { at = p; wants = None }) last puts takes
  same_r = record { marks = x; joined = h }

  -- a reply, whose landing is shown for the writer's record
  module _ (number : ℕ) (fly : flying_of e.r s ≡ lone_flying number Replying e.reader.recv p.token) (m : Message) where
    at_writer : (to ep g : ℕ) → to ≡ e.w → ep ≡ e.writer.reply → g ≡ e.replies.grant → flight (flight_name e.r number) s.flights ≡ Some (Packet.Message to ep g m) → (flight (flight_name e.r number) s.flights ≡ Some (Packet.Message e.w e.writer.reply e.replies.grant m) → LandsR (message_in s (flight_name e.r number) e.writer.reply e.replies.grant m (context_of e.w s.contexts))) → LandsR (message_in s (flight_name e.r number) ep g m (context_of to s.contexts))
    at_writer to ep g a b c find lands =
        subst (λ z. flight (flight_name e.r number) s.flights ≡ Some (Packet.Message z ep g m) → LandsR (message_in s (flight_name e.r number) ep g m (context_of z s.contexts))) (sym a) (
        subst (λ z. flight (flight_name e.r number) s.flights ≡ Some (Packet.Message e.w z g m) → LandsR (message_in s (flight_name e.r number) z g m (context_of e.w s.contexts))) (sym b) (
        subst (λ z. flight (flight_name e.r number) s.flights ≡ Some (Packet.Message e.w e.writer.reply z m) → LandsR (message_in s (flight_name e.r number) e.writer.reply z m (context_of e.w s.contexts))) (sym c) lands)) find

    reply_case : p.task ≡ Replies → (phase : ReplyFlies e p x.l.read x.l.replied x.took x.shut (Packet.Message e.w e.writer.reply e.replies.grant m)) → flight (flight_name e.r number) s.flights ≡ Some (Packet.Message e.w e.writer.reply e.replies.grant m) → (o : Option Context) → context_of e.w s.contexts ≡ o → LandsR (message_in s (flight_name e.r number) e.writer.reply e.replies.grant m o)
    reply_case task phase find None at = same_r
    reply_case task phase find (Some c) at = by_why (land_refusal e.replies.grant m (endpoint c e.writer.reply)) refl
      where
        by_why : (w : Option Refusal) → land_refusal e.replies.grant m (endpoint c e.writer.reply) ≡ w → LandsR (landed_in s (flight_name e.r number) (land_by e.writer.reply m c w))
        by_why (Some why) q = reply_refused e s ok pw p last puts takes x h number fly m find phase.0.1.1.1 c at why (subst (ReaderFlies e _ p x.l.read x.l.replied x.took x.shut) (sym task) (flown_after e s ok pw p last puts takes x h number fly m find phase.0.1.1.1 c at c (Answer.Refused why) (ReplyFlies e p x.l.read x.l.replied x.took x.shut) refl tt))
        by_why None q = reply_landed e s ok pw p last puts takes x h number fly m find phase.0.1.1.1 c at task phase.1 q

    end_case : p.task ≡ Closes → (phase : EndFlies e p x.l.read x.l.replied x.took x.shut (Packet.Message e.w e.writer.reply e.replies.grant m)) → flight (flight_name e.r number) s.flights ≡ Some (Packet.Message e.w e.writer.reply e.replies.grant m) → (o : Option Context) → context_of e.w s.contexts ≡ o → LandsR (message_in s (flight_name e.r number) e.writer.reply e.replies.grant m o)
    end_case task phase find None at = same_r
    end_case task phase find (Some c) at = by_why (land_refusal e.replies.grant m (endpoint c e.writer.reply)) refl
      where
        by_why : (w : Option Refusal) → land_refusal e.replies.grant m (endpoint c e.writer.reply) ≡ w → LandsR (landed_in s (flight_name e.r number) (land_by e.writer.reply m c w))
        by_why (Some why) q = reply_refused e s ok pw p last puts takes x h number fly m find phase.0.1.1.1 c at why (subst (ReaderFlies e _ p x.l.read x.l.replied x.took x.shut) (sym task) (flown_after e s ok pw p last puts takes x h number fly m find phase.0.1.1.1 c at c (Answer.Refused why) (EndFlies e p x.l.read x.l.replied x.took x.shut) refl tt))
        by_why None q = end_landed e s ok pw p last puts takes x h number fly m find phase.0.1.1.1 c at task phase.1 q

  replies_case : (number : ℕ) → p.task ≡ Replies → flying_of e.r s ≡ lone_flying number Replying e.reader.recv p.token → (k : Packet) → flight (flight_name e.r number) s.flights ≡ Some k → ReplyFlies e p x.l.read x.l.replied x.took x.shut k → LandsR (land_in s (flight_name e.r number) (Some k))
  replies_case number task fly (Packet.Answer y answer) find phase = same_r
  replies_case number task fly (Packet.Credit y to g) find phase = absurd phase
  replies_case number task fly (Packet.Read y g place buffer) find phase = absurd phase
  replies_case number task fly (Packet.Write y g place payload) find phase = absurd phase
  replies_case number task fly (Packet.Install y to ep f) find phase = absurd phase
  replies_case number task fly (Packet.Close y to ep g) find phase = absurd phase
  replies_case number task fly (Packet.Message to ep g m) find phase = at_writer number fly m to ep g phase.0.0 phase.0.1.0 phase.0.1.1.0 find (λ f. reply_case number fly m task ((refl, (refl, (refl, phase.0.1.1.1))), phase.1) f (context_of e.w s.contexts) refl)

  closes_case : (number : ℕ) → p.task ≡ Closes → flying_of e.r s ≡ lone_flying number Replying e.reader.recv p.token → (k : Packet) → flight (flight_name e.r number) s.flights ≡ Some k → EndFlies e p x.l.read x.l.replied x.took x.shut k → LandsR (land_in s (flight_name e.r number) (Some k))
  closes_case number task fly (Packet.Answer y answer) find phase = same_r
  closes_case number task fly (Packet.Credit y to g) find phase = absurd phase
  closes_case number task fly (Packet.Read y g place buffer) find phase = absurd phase
  closes_case number task fly (Packet.Write y g place payload) find phase = absurd phase
  closes_case number task fly (Packet.Install y to ep f) find phase = absurd phase
  closes_case number task fly (Packet.Close y to ep g) find phase = absurd phase
  closes_case number task fly (Packet.Message to ep g m) find phase = at_writer number fly m to ep g phase.0.0 phase.0.1.0 phase.0.1.1.0 find (λ f. end_case number fly m task ((refl, (refl, (refl, phase.0.1.1.1))), phase.1) f (context_of e.w s.contexts) refl)

  reads_case : (number : ℕ) → p.task ≡ Reads → flying_of e.r s ≡ lone_flying number Reading e.reader.mem 0 → (k : Packet) → flight (flight_name e.r number) s.flights ≡ Some k → ReadFlies e p x.l.read x.l.replied x.took x.shut k → LandsR (land_in s (flight_name e.r number) (Some k))
  reads_case number task fly (Packet.Answer y answer) find phase = same_r
  reads_case number task fly (Packet.Read y g place buffer) find phase = read_landed e s ok pw p last puts takes x number place g y buffer h task fly find phase
  reads_case number task fly (Packet.Credit y to g) find phase = absurd phase
  reads_case number task fly (Packet.Write y g place payload) find phase = absurd phase
  reads_case number task fly (Packet.Message to ep g m) find phase = absurd phase
  reads_case number task fly (Packet.Install y to ep f) find phase = absurd phase
  reads_case number task fly (Packet.Close y to ep g) find phase = absurd phase

  pub reader_lands : (id : FlightId) → IsOwn e.r s id → LandsR (land_in s id (flight id s.flights))
  reader_lands id its = by_task p.task refl h.reader.by
    where
      by_number : (n : ℕ) (kind : Kind) (ep token : ℕ) → flying_of e.r s ≡ lone_flying n kind ep token → id ≡ flight_name e.r n
      by_number n kind ep token f = its.name ∙ ap (flight_name e.r) (flies-same e.r s its.number n its.kind kind its.ep its.token ep token its.flying f)

      by_task : (t : ReaderPhase) → p.task ≡ t → ReaderFlies e s p x.l.read x.l.replied x.took x.shut t → LandsR (land_in s id (flight id s.flights))
      by_task Starts q f = absurd f
      by_task Waits q f = absurd f
      by_task Looks q f = absurd f
      by_task Finished q f = absurd f
      by_task Reads q f = subst (λ z. LandsR (land_in s z (flight z s.flights))) (sym (by_number f.number Reading e.reader.mem 0 f.flying)) (subst (λ o. LandsR (land_in s (flight_name e.r f.number) o)) (sym f.found) (reads_case f.number q f.flying f.packet f.found f.phase))
      by_task Replies q f = subst (λ z. LandsR (land_in s z (flight z s.flights))) (sym (by_number f.number Replying e.reader.recv p.token f.flying)) (subst (λ o. LandsR (land_in s (flight_name e.r f.number) o)) (sym f.found) (replies_case f.number q f.flying f.packet f.found f.phase))
      by_task Closes q f = subst (λ z. LandsR (land_in s z (flight z s.flights))) (sym (by_number f.number Replying e.reader.recv p.token f.flying)) (subst (λ o. LandsR (land_in s (flight_name e.r f.number) o)) (sym f.found) (closes_case f.number q f.flying f.packet f.found f.phase))
