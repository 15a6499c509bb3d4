-- Each step keeps a pipe's invariant: commands, awaits, orders, and all together.
use Rattle.std.proofs.Common.{◌≡◌, ◌≢◌, ℕ, ◌+◌, Bool, true, false, List, [], ◌++◌, length, Some, None, refl, sym, subst, ◌∙◌, ap, arith}
use Rattle.std.specs.Prelude.{Option, if◌then◌else◌, ◌==◌}
use Rattle.m3_base.specs.declared.command.Command.{Command}
use Rattle.m3_base.specs.declared.order.GrantLine.{GrantLine}
use Rattle.m3_base.specs.declared.program.Move.{Move}
use Rattle.m3_base.specs.declared.program.Seen.{Seen}
use Rattle.m3_base.specs.declared.step.Step.{Step}
use Rattle.m3_base.specs.Lists.Counting.{one}
use Rattle.m3_base.specs.Ideal.Flights.{flight}
use Rattle.m3_base.specs.Ideal.Context.{Context, endpoint}
use Rattle.m3_base.specs.Ideal.Issue.{Issued, issue}
use Rattle.m3_base.specs.Ideal.State.{State, context_of, put_context, grant_in, holder}
use Rattle.m3_base.specs.Ideal.GrantRules.{revoke_refusal}
use Rattle.m3_base.specs.Ideal.Step.{IdealResult, ideal_step, issue_in, issued_in, await_in, has_unread, with_packet, Present, step_to}
use Rattle.m3_base.specs.Ideal.MessageTraces.{state_after_steps}
use Rattle.m3_laws.specs.Invariant.{Invariant}
use Rattle.m3_pipe_laws.specs.Protocol.{WriterState, WriterPhase, Begins, Writes, Sends, Awaits, Fetches, Acknowledges, Over, writer_step, writer_awake, ReaderState, ReaderPhase, Starts, Waits, Looks, Reads, Replies, Closes, Finished, reader_step, reader_awake}
use Rattle.m3_pipe_laws.specs.Pipe.{Player, player_after, written_bytes_at, read_bytes_at, last_bytes, write_payload, player_at_issue, next_player}
use Rattle.m3_pipe_laws.proofs.Invariant.Sides.{Sides, SidesOk}
use Rattle.m3_pipe_laws.proofs.Invariant.Isolation.{Isolation, WriterSends, ReaderSends}
use Rattle.m3_pipe_laws.proofs.Invariant.Flights.{Queue, queue_of}
use Rattle.m3_pipe_laws.proofs.Invariant.WriterSide.{WriterWants, WriterSide}
use Rattle.m3_pipe_laws.proofs.Invariant.ReaderSide.{ReaderWants, ReaderSide, AtHand, AreNotices, InboxOk, fetched_count, is_open_phase, holds_notice}
use Rattle.m3_pipe_laws.proofs.Invariant.WholePipe.{Marks, PipeAt, PipeInvariant, StepsKeepPipe}
use Rattle.m3_pipe_laws.specs.Pipe.{endpoint_at}
use Rattle.m3_pipe_laws.proofs.Others.Sides.{issue_side, AllOrdered, make_for_ordered, revoke_ordered, close_ordered, closed_ordered, done_ordered}
use Rattle.m3_pipe_laws.proofs.Writer.Commands.{replies_doing, rest_doing}
use Rattle.m3_pipe_laws.proofs.Writer.Landings.{Joins}
use Rattle.m3_pipe_laws.proofs.Others.Grants.{AllAround, land_around, answered_around, issue_around, make_for_around, revoke_around, close_grant_around, closed_around, done_around}
use Rattle.m3_pipe_laws.proofs.Runs.Commands.{Goal, no_more, join_sides, lone_writer, lone_reader, AllJoins, AllReads, writer_issues, reader_issues, do_is, do_await, do_ended, await_ended}
use Rattle.m3_pipe_laws.proofs.Runs.Landings.{JoinsAfter}
use Rattle.m3_pipe_laws.proofs.Runs.Answers.{equal, unequal, by_who, relast, some_move, no_move, land_all, answer_all}
use Rattle.std.proofs.lemmas.Bool.{eqb-true}

-- ---- what the two programs send

writer_sends : (e : Sides) (p : WriterState) (w v k : ℕ) (o : Bool) (m : Move) (d : WriterPhase) (c : Command) → WriterWants e p w v k o m d → m ≡ Move.Do c → WriterSends e c
writer_sends e p w v k o m Begins c h q = absurd h
writer_sends e p w v k o m Writes c h q = subst (WriterSends e) (do_is m _ c h.0 q) tt
writer_sends e p w v k o m Sends c h q = subst (WriterSends e) (do_is m _ c h.0 q) refl
writer_sends e p w v k o m Awaits c h q = absurd (do_await m c e.writer.reply q h.0)
writer_sends e p w v k o m Fetches c h q = subst (WriterSends e) (do_is m _ c h.0 q) tt
writer_sends e p w v k o m Acknowledges c h q = subst (WriterSends e) (do_is m _ c h.1.0 q) tt
writer_sends e p w v k o m Over c h q = absurd (do_ended m c q h)

reader_sends : (e : Sides) (p : ReaderState) (d c t : ℕ) (shut : Bool) (m : Move) (task : ReaderPhase) (k : Command) → ReaderWants e p d c t shut m task → m ≡ Move.Do k → ReaderSends k
reader_sends e p d c t shut m Starts k h q = absurd h
reader_sends e p d c t shut m Waits k h q = absurd (do_await m k e.reader.recv q h.0)
reader_sends e p d c t shut m Looks k h q = subst ReaderSends (do_is m _ k h.0 q) tt
reader_sends e p d c t shut m Reads k h q = subst ReaderSends (do_is m _ k h.0 q) tt
reader_sends e p d c t shut m Replies k h q = subst ReaderSends (do_is m _ k h.0 q) tt
reader_sends e p d c t shut m Closes k h q = subst ReaderSends (do_is m _ k h.0 q) tt
reader_sends e p d c t shut m Finished k h q = absurd (do_ended m k q h)

module _ (e : Sides) (s : State) (ok : SidesOk e) (law : Invariant s) (around : Isolation e s) (p : WriterState) (q : ReaderState) (last puts takes : List ℕ) (x : Marks) where
  -- ---- commands

  module _ (k : Command) where
    issue_w : (m : Move) (rw : Option Move) → m ≡ Move.Do k → PipeAt e s (record { at = p; wants = Some m }) (record { at = q; wants = rw }) last puts takes x → Goal e s (record { at = p; wants = Some m }) (record { at = q; wants = rw }) last puts takes (Step.Issue e.w k) (issue_in s (context_of e.w s.contexts) k)
    issue_w m rw mk h = by_context (context_of e.w s.contexts) refl
      where
        nothing : Joins e s (record { at = p; wants = Some m }) (record { at = q; wants = rw }) (if e.w == e.w then write_payload k else last) (puts ++ []) (takes ++ [])
        nothing = by_who e s (e.w == e.w) (e.w == e.r) true false (λ z. record { at = p; wants = Some m }) (λ z. record { at = q; wants = rw }) (λ z. if z then write_payload k else last) (λ z. puts ++ []) (λ z. takes ++ []) (equal e.w) (unequal e.w e.r ok.apart) (no_more e s (record { at = p; wants = Some m }) (record { at = q; wants = rw }) (write_payload k) puts takes (relast e s p m (record { at = q; wants = rw }) last (write_payload k) puts takes x h))

        by_issue : (o : Option Issued) → AllJoins e s p (record { at = q; wants = rw }) (write_payload k) puts takes o → Goal e s (record { at = p; wants = Some m }) (record { at = q; wants = rw }) last puts takes (Step.Issue e.w k) (issued_in s o)
        by_issue None j = nothing
        by_issue (Some i) j =
            let n = record s { contexts = put_context i.context s.contexts; flights = with_packet i.packet s.flights } in
            by_who e n (e.w == e.w) (e.w == e.r) true false (λ z. if z then player_at_issue (writer_step e.writer) e.w p i.told else record { at = p; wants = Some m }) (λ z. if z then player_at_issue (reader_step e.reader) e.r q i.told else record { at = q; wants = rw }) (λ z. if z then write_payload k else last) (λ z. puts ++ []) (λ z. takes ++ []) (equal e.w) (unequal e.w e.r ok.apart) (no_more e n (player_at_issue (writer_step e.writer) e.w p i.told) (record { at = q; wants = rw }) (write_payload k) puts takes j)

        by_context : (o : Option Context) → context_of e.w s.contexts ≡ o → Goal e s (record { at = p; wants = Some m }) (record { at = q; wants = rw }) last puts takes (Step.Issue e.w k) (issue_in s o k)
        by_context None at = nothing
        by_context (Some c) at = by_issue (issue c k) (writer_issues e s ok law around p m (record { at = q; wants = rw }) last puts takes x h (lone_writer e s p x.l.written x.l.noticed x.put x.over last (Some m) h.writer.by) (lone_reader e s q x.l.read x.l.replied x.took x.shut rw h.reader.by) c at k mk)

    issue_r : (ww : Option Move) (m : Move) → m ≡ Move.Do k → PipeAt e s (record { at = p; wants = ww }) (record { at = q; wants = Some m }) last puts takes x → Goal e s (record { at = p; wants = ww }) (record { at = q; wants = Some m }) last puts takes (Step.Issue e.r k) (issue_in s (context_of e.r s.contexts) k)
    issue_r ww m mk h = by_context (context_of e.r s.contexts) refl
      where
        nothing : Joins e s (record { at = p; wants = ww }) (record { at = q; wants = Some m }) (if e.r == e.w then write_payload k else last) (puts ++ []) (takes ++ [])
        nothing = by_who e s (e.r == e.w) (e.r == e.r) false true (λ z. record { at = p; wants = ww }) (λ z. record { at = q; wants = Some m }) (λ z. if z then write_payload k else last) (λ z. puts ++ []) (λ z. takes ++ []) (unequal e.r e.w (λ z. ok.apart (sym z))) (equal e.r) (no_more e s (record { at = p; wants = ww }) (record { at = q; wants = Some m }) last puts takes (record { marks = x; joined = h }))

        by_issue : (o : Option Issued) → AllReads e s (record { at = p; wants = ww }) q last puts takes o → Goal e s (record { at = p; wants = ww }) (record { at = q; wants = Some m }) last puts takes (Step.Issue e.r k) (issued_in s o)
        by_issue None j = nothing
        by_issue (Some i) j =
            let n = record s { contexts = put_context i.context s.contexts; flights = with_packet i.packet s.flights } in
            by_who e n (e.r == e.w) (e.r == e.r) false true (λ z. if z then player_at_issue (writer_step e.writer) e.w p i.told else record { at = p; wants = ww }) (λ z. if z then player_at_issue (reader_step e.reader) e.r q i.told else record { at = q; wants = Some m }) (λ z. if z then write_payload k else last) (λ z. puts ++ []) (λ z. takes ++ []) (unequal e.r e.w (λ z. ok.apart (sym z))) (equal e.r) (no_more e n (record { at = p; wants = ww }) (player_at_issue (reader_step e.reader) e.r q i.told) last puts takes j)

        by_context : (o : Option Context) → context_of e.r s.contexts ≡ o → Goal e s (record { at = p; wants = ww }) (record { at = q; wants = Some m }) last puts takes (Step.Issue e.r k) (issue_in s o k)
        by_context None at = nothing
        by_context (Some c) at = by_issue (issue c k) (reader_issues e s ok law around (record { at = p; wants = ww }) q m last puts takes x h (lone_writer e s p x.l.written x.l.noticed x.put x.over last ww h.writer.by) (lone_reader e s q x.l.read x.l.replied x.took x.shut (Some m) h.reader.by) c at k mk)

    issue_o : (ww rw : Option Move) (a : ℕ) → a ≢ e.w → a ≢ e.r → PipeAt e s (record { at = p; wants = ww }) (record { at = q; wants = rw }) last puts takes x → (o : Option Context) → context_of a s.contexts ≡ o → Goal e s (record { at = p; wants = ww }) (record { at = q; wants = rw }) last puts takes (Step.Issue a k) (issue_in s o k)
    issue_o ww rw a not_w not_r h o at = by_context o at
      where
        pw : Player WriterState
        pw = record { at = p; wants = ww }

        pr : Player ReaderState
        pr = record { at = q; wants = rw }

        nothing : Joins e s pw pr (if a == e.w then write_payload k else last) (puts ++ []) (takes ++ [])
        nothing = by_who e s (a == e.w) (a == e.r) false false (λ z. pw) (λ z. pr) (λ z. if z then write_payload k else last) (λ z. puts ++ []) (λ z. takes ++ []) (unequal a e.w not_w) (unequal a e.r not_r) (no_more e s pw pr last puts takes (record { marks = x; joined = h }))

        by_issue : (c : Context) → context_of a s.contexts ≡ Some c → (o : Option Issued) → issue c k ≡ o → Goal e s pw pr last puts takes (Step.Issue a k) (issued_in s o)
        by_issue c at None u = nothing
        by_issue c at (Some i) u =
            let n = record s { contexts = put_context i.context s.contexts; flights = with_packet i.packet s.flights } in
            by_who e n (a == e.w) (a == e.r) false false (λ z. if z then player_at_issue (writer_step e.writer) e.w p i.told else pw) (λ z. if z then player_at_issue (reader_step e.reader) e.r q i.told else pr) (λ z. if z then write_payload k else last) (λ z. puts ++ []) (λ z. takes ++ []) (unequal a e.w not_w) (unequal a e.r not_r) (no_more e n pw pr last puts takes (join_sides e s n pw pr last puts takes x (issue_side s law e.w e.writer.reply a c k i (λ z. not_w (sym z)) at u) (issue_side s law e.r e.reader.recv a c k i (λ z. not_r (sym z)) at u) refl h))

        by_context : (o : Option Context) → context_of a s.contexts ≡ o → Goal e s pw pr last puts takes (Step.Issue a k) (issue_in s o k)
        by_context None at = nothing
        by_context (Some c) at = by_issue c at (issue c k) refl

    issue_all : (ww rw : Option Move) (a : ℕ) → ((a == e.w) ≡ true → ww ≡ Some (Move.Do k)) → ((a == e.r) ≡ true → rw ≡ Some (Move.Do k)) → PipeAt e s (record { at = p; wants = ww }) (record { at = q; wants = rw }) last puts takes x → Goal e s (record { at = p; wants = ww }) (record { at = q; wants = rw }) last puts takes (Step.Issue a k) (issue_in s (context_of a s.contexts) k)
    issue_all ww rw a move_w move_r h = by_writer (a == e.w) refl
      where
        as_w : (ww : Option Move) → ww ≡ Some (Move.Do k) → PipeAt e s (record { at = p; wants = ww }) (record { at = q; wants = rw }) last puts takes x → Goal e s (record { at = p; wants = ww }) (record { at = q; wants = rw }) last puts takes (Step.Issue e.w k) (issue_in s (context_of e.w s.contexts) k)
        as_w None u h = absurd (no_move (Move.Do k) u)
        as_w (Some m) u h = issue_w m rw (some_move m (Move.Do k) u) h

        as_r : (rw : Option Move) → rw ≡ Some (Move.Do k) → PipeAt e s (record { at = p; wants = ww }) (record { at = q; wants = rw }) last puts takes x → Goal e s (record { at = p; wants = ww }) (record { at = q; wants = rw }) last puts takes (Step.Issue e.r k) (issue_in s (context_of e.r s.contexts) k)
        as_r None u h = absurd (no_move (Move.Do k) u)
        as_r (Some m) u h = issue_r ww m (some_move m (Move.Do k) u) h

        by_reader : (b : Bool) → (a == e.r) ≡ b → (a == e.w) ≡ false → Goal e s (record { at = p; wants = ww }) (record { at = q; wants = rw }) last puts takes (Step.Issue a k) (issue_in s (context_of a s.contexts) k)
        by_reader true v w = subst (λ z. Goal e s (record { at = p; wants = ww }) (record { at = q; wants = rw }) last puts takes (Step.Issue z k) (issue_in s (context_of z s.contexts) k)) (sym (eqb-true a e.r v)) (as_r rw (move_r v) h)
        by_reader false v w = issue_o ww rw a (λ z. let y : true ≡ false = sym (subst (λ u. (u == e.w) ≡ true) (sym z) (equal e.w)) ∙ w in absurd (cc)) (λ z. let y : true ≡ false = sym (subst (λ u. (u == e.r) ≡ true) (sym z) (equal e.r)) ∙ v in absurd (cc)) h (context_of a s.contexts) refl

        by_writer : (b : Bool) → (a == e.w) ≡ b → Goal e s (record { at = p; wants = ww }) (record { at = q; wants = rw }) last puts takes (Step.Issue a k) (issue_in s (context_of a s.contexts) k)
        by_writer true w = subst (λ z. Goal e s (record { at = p; wants = ww }) (record { at = q; wants = rw }) last puts takes (Step.Issue z k) (issue_in s (context_of z s.contexts) k)) (sym (eqb-true a e.w w)) (as_w ww (move_w w) h)
        by_writer false w = by_reader (a == e.r) refl w

    sends_w : (ww rw : Option Move) (a : ℕ) → ((a == e.w) ≡ true → ww ≡ Some (Move.Do k)) → PipeAt e s (record { at = p; wants = ww }) (record { at = q; wants = rw }) last puts takes x → a ≡ e.w → WriterSends e k
    sends_w None rw a move h z = absurd (no_move (Move.Do k) (move (subst (λ u. (u == e.w) ≡ true) (sym z) (equal e.w))))
    sends_w (Some m) rw a move h z = writer_sends e p x.l.written x.l.noticed x.put x.over m p.doing k h.writer.by.1 (some_move m (Move.Do k) (move (subst (λ u. (u == e.w) ≡ true) (sym z) (equal e.w))))

    sends_r : (ww rw : Option Move) (a : ℕ) → ((a == e.r) ≡ true → rw ≡ Some (Move.Do k)) → PipeAt e s (record { at = p; wants = ww }) (record { at = q; wants = rw }) last puts takes x → a ≡ e.r → ReaderSends k
    sends_r ww None a move h z = absurd (no_move (Move.Do k) (move (subst (λ u. (u == e.r) ≡ true) (sym z) (equal e.r))))
    sends_r ww (Some m) a move h z = reader_sends e q x.l.read x.l.replied x.took x.shut m q.task k h.reader.by.1 (some_move m (Move.Do k) (move (subst (λ u. (u == e.r) ≡ true) (sym z) (equal e.r))))

  -- ---- awaits

  awake_w : (m : Move) (ep : ℕ) (pr : Player ReaderState) → m ≡ Move.Await ep → PipeAt e s (record { at = p; wants = Some m }) pr last puts takes x → Joins e s (next_player (writer_step e.writer) e.w p Seen.Awake) pr last puts takes
  awake_w m ep pr mk h = record { marks = x; joined = record { ring = h.ring; writer = by_doing p.doing refl h.writer.by.1; reader = h.reader } }
    where
      by_doing : (d : WriterPhase) → p.doing ≡ d → WriterWants e p x.l.written x.l.noticed x.put x.over m d → WriterSide e s (record { at = (writer_awake e.writer p p.doing).next; wants = Some (writer_awake e.writer p p.doing).move }) last x.l.written x.l.noticed x.put x.l.back x.l.replied x.over x.shut
      by_doing Begins u y = absurd y
      by_doing Writes u y = absurd (do_await m _ ep y.0 mk)
      by_doing Sends u y = absurd (do_await m _ ep y.0 mk)
      by_doing Fetches u y = absurd (do_await m _ ep y.0 mk)
      by_doing Acknowledges u y = absurd (do_await m _ ep y.1.0 mk)
      by_doing Over u y = absurd (await_ended m ep mk y)
      by_doing Awaits u y = subst (λ d. WriterSide e s (record { at = (writer_awake e.writer p d).next; wants = Some (writer_awake e.writer p d).move }) last x.l.written x.l.noticed x.put x.l.back x.l.replied x.over x.shut) (sym u) (record { by = (h.writer.by.0, (refl, rest_doing p x.l.written x.l.noticed x.put x.over Fetches y.1)); back = h.writer.back; few = h.writer.few; replies = replies_doing p x.l.replied x.shut Fetches (queue_of (endpoint_at s e.w e.writer.reply)) h.writer.replies })

  awake_r : (m : Move) (ep : ℕ) (pw : Player WriterState) → m ≡ Move.Await ep → PipeAt e s pw (record { at = q; wants = Some m }) last puts takes x → Joins e s pw (next_player (reader_step e.reader) e.r q Seen.Awake) last puts takes
  awake_r m ep pw mk h = record { marks = x; joined = record { ring = h.ring; writer = h.writer; reader = by_task q.task refl h.reader.by.1 } }
    where
      looks : (o : Option Queue) → q.task ≡ Waits → InboxOk e q x.l.noticed x.over o → InboxOk e (record q { task = Looks }) x.l.noticed x.over o
      looks None u k = tt
      looks (Some y) u k = λ on.
          let is = k (ap is_open_phase u) in
          let first : fetched_count q ≡ q.next + 0 = ap (λ t. q.next + one (holds_notice t)) u in
          record { notices = subst (λ z. AreNotices e z y.unread) first is.notices; count = ap (λ z. z + length y.unread) (sym first) ∙ is.count; hand = subst (λ t. AtHand e q y.fetched (holds_notice t)) u is.hand }

      by_task : (t : ReaderPhase) → q.task ≡ t → ReaderWants e q x.l.read x.l.replied x.took x.shut m t → ReaderSide e s (record { at = (reader_awake e.reader q q.task).next; wants = Some (reader_awake e.reader q q.task).move }) takes x.l.noticed x.l.read x.l.replied x.took x.over x.shut
      by_task Starts u y = absurd y
      by_task Looks u y = absurd (do_await m _ ep y.0 mk)
      by_task Reads u y = absurd (do_await m _ ep y.0 mk)
      by_task Replies u y = absurd (do_await m _ ep y.0 mk)
      by_task Closes u y = absurd (do_await m _ ep y.0 mk)
      by_task Finished u y = absurd (await_ended m ep mk y)
      by_task Waits u y = subst (λ t. ReaderSide e s (record { at = (reader_awake e.reader q t).next; wants = Some (reader_awake e.reader q t).move }) takes x.l.noticed x.l.read x.l.replied x.took x.over x.shut) (sym u) (record { by = (h.reader.by.0, (refl, y.1)); due = tt; inbox = looks (queue_of (endpoint_at s e.r e.reader.recv)) u h.reader.inbox; taken = h.reader.taken })

  await_all : (ww rw : Option Move) (a ep : ℕ) → ((a == e.w) ≡ true → ww ≡ Some (Move.Await ep)) → ((a == e.r) ≡ true → rw ≡ Some (Move.Await ep)) → PipeAt e s (record { at = p; wants = ww }) (record { at = q; wants = rw }) last puts takes x → (o : Option Context) → Goal e s (record { at = p; wants = ww }) (record { at = q; wants = rw }) last puts takes (Step.Await a ep) (await_in s o ep)
  await_all ww rw a ep move_w move_r h None = no_more e s (record { at = p; wants = ww }) (record { at = q; wants = rw }) last puts takes (record { marks = x; joined = h })
  await_all ww rw a ep move_w move_r h (Some c) = by_present (has_unread (endpoint c ep))
    where
      as_w : (ww : Option Move) → ww ≡ Some (Move.Await ep) → PipeAt e s (record { at = p; wants = ww }) (record { at = q; wants = rw }) last puts takes x → Joins e s (next_player (writer_step e.writer) e.w p Seen.Awake) (record { at = q; wants = rw }) last puts takes
      as_w None u h = absurd (no_move (Move.Await ep) u)
      as_w (Some m) u h = awake_w m ep (record { at = q; wants = rw }) (some_move m (Move.Await ep) u) h

      as_r : (rw : Option Move) → rw ≡ Some (Move.Await ep) → PipeAt e s (record { at = p; wants = ww }) (record { at = q; wants = rw }) last puts takes x → Joins e s (record { at = p; wants = ww }) (next_player (reader_step e.reader) e.r q Seen.Awake) last puts takes
      as_r None u h = absurd (no_move (Move.Await ep) u)
      as_r (Some m) u h = awake_r m ep (record { at = p; wants = ww }) (some_move m (Move.Await ep) u) h

      both : (a == e.w) ≡ true → (a == e.r) ≡ true → ⊥
      both u v = ok.apart (sym (eqb-true a e.w u) ∙ eqb-true a e.r v)

      by_acts : (b d : Bool) → (a == e.w) ≡ b → (a == e.r) ≡ d → Joins e s (if b then next_player (writer_step e.writer) e.w p Seen.Awake else record { at = p; wants = ww }) (if d then next_player (reader_step e.reader) e.r q Seen.Awake else record { at = q; wants = rw }) last (puts ++ []) (takes ++ [])
      by_acts true true u v = absurd (both u v)
      by_acts true false u v = no_more e s (next_player (writer_step e.writer) e.w p Seen.Awake) (record { at = q; wants = rw }) last puts takes (as_w ww (move_w u) h)
      by_acts false true u v = no_more e s (record { at = p; wants = ww }) (next_player (reader_step e.reader) e.r q Seen.Awake) last puts takes (as_r rw (move_r v) h)
      by_acts false false u v = no_more e s (record { at = p; wants = ww }) (record { at = q; wants = rw }) last puts takes (record { marks = x; joined = h })

      by_present : (b : Bool) → Goal e s (record { at = p; wants = ww }) (record { at = q; wants = rw }) last puts takes (Step.Await a ep) (step_to (Present b) s)
      by_present false = no_more e s (record { at = p; wants = ww }) (record { at = q; wants = rw }) last puts takes (record { marks = x; joined = h })
      by_present true = by_acts (a == e.w) (a == e.r) refl refl

-- ---- orders

module _ (e : Sides) (s : State) (law : Invariant s) (pw : Player WriterState) (pr : Player ReaderState) (last puts takes : List ℕ) (x : Marks) (h : PipeAt e s pw pr last puts takes x) where
  ordered : (o : Option IdealResult) → AllOrdered s law o → JoinsAfter e s pw pr last puts takes o
  ordered None k = record { marks = x; joined = h }
  ordered (Some n) k = join_sides e s n.state pw pr last puts takes x (k.side e.w e.writer.reply) (k.side e.r e.reader.recv) k.memory h

  make_goal : (line : GrantLine) (o : Option IdealResult) → JoinsAfter e s pw pr last puts takes o → Goal e s pw pr last puts takes (Step.Make line) o
  make_goal line None k = no_more e s pw pr last puts takes k
  make_goal line (Some n) k = no_more e n.state pw pr last puts takes k

  revoke_goal : (g : ℕ) (o : Option IdealResult) → JoinsAfter e s pw pr last puts takes o → Goal e s pw pr last puts takes (Step.Revoke g) o
  revoke_goal g None k = no_more e s pw pr last puts takes k
  revoke_goal g (Some n) k = no_more e n.state pw pr last puts takes k

  close_goal : (g : ℕ) (o : Option IdealResult) → JoinsAfter e s pw pr last puts takes o → Goal e s pw pr last puts takes (Step.Close g) o
  close_goal g None k = no_more e s pw pr last puts takes k
  close_goal g (Some n) k = no_more e n.state pw pr last puts takes k

  closed_goal : (g : ℕ) (o : Option IdealResult) → JoinsAfter e s pw pr last puts takes o → Goal e s pw pr last puts takes (Step.Closed g) o
  closed_goal g None k = no_more e s pw pr last puts takes k
  closed_goal g (Some n) k = no_more e n.state pw pr last puts takes k

  done_goal : (g : ℕ) (o : Option IdealResult) → JoinsAfter e s pw pr last puts takes o → Goal e s pw pr last puts takes (Step.Done g) o
  done_goal g None k = no_more e s pw pr last puts takes k
  done_goal g (Some n) k = no_more e n.state pw pr last puts takes k

-- ---- all

module _ (e : Sides) (s : State) (pw : Player WriterState) (pr : Player ReaderState) (last puts takes : List ℕ) (law : Invariant s) (around : Isolation e s) where
  together : (t : Step) (o : Option IdealResult) → Goal e s pw pr last puts takes t o → AllAround e s law around o → PipeInvariant e (state_after_steps s o) (player_after (writer_step e.writer) e.w pw t o) (player_after (reader_step e.reader) e.r pr t o) (last_bytes e.w last t) (puts ++ written_bytes_at e.w last t o) (takes ++ read_bytes_at e.r t o)
  together t None g k = record { marks = g.marks; joined = g.joined; around = around }
  together t (Some n) g k = record { marks = g.marks; joined = g.joined; around = k }

await_around : (e : Sides) (s : State) (law : Invariant s) (around : Isolation e s) (o : Option Context) (ep : ℕ) → AllAround e s law around (await_in s o ep)
await_around e s law around None ep = tt
await_around e s law around (Some c) ep = around

pub step_stays : StepsKeepPipe
step_stays e s pw pr last puts takes (Step.Issue a k) ok law h makes outside move_w move_r =
    together e s pw pr last puts takes law h.around (Step.Issue a k) (issue_in s (context_of a s.contexts) k) (issue_all e s ok law h.around pw.at pr.at last puts takes h.marks k pw.wants pr.wants a move_w move_r h.joined) (issue_around e s law h.around a k (sends_w e s ok law h.around pw.at pr.at last puts takes h.marks k pw.wants pr.wants a move_w h.joined) (sends_r e s ok law h.around pw.at pr.at last puts takes h.marks k pw.wants pr.wants a move_r h.joined) (context_of a s.contexts) outside refl)
step_stays e s pw pr last puts takes (Step.Await a ep) ok law h makes outside move_w move_r =
    together e s pw pr last puts takes law h.around (Step.Await a ep) (await_in s (context_of a s.contexts) ep) (await_all e s ok law h.around pw.at pr.at last puts takes h.marks pw.wants pr.wants a ep move_w move_r h.joined (context_of a s.contexts)) (await_around e s law h.around (context_of a s.contexts) ep)
step_stays e s pw pr last puts takes (Step.Land id) ok law h makes outside move_w move_r =
    together e s pw pr last puts takes law h.around (Step.Land id) (ideal_step s (Step.Land id)) (land_all e s ok law h.around last puts takes h.marks pw.at pw.wants pr.at pr.wants h.joined id) (land_around e s law h.around id (flight id s.flights) refl)
step_stays e s pw pr last puts takes (Step.Answered id) ok law h makes outside move_w move_r =
    together e s pw pr last puts takes law h.around (Step.Answered id) (ideal_step s (Step.Answered id)) (answer_all e s ok law h.around last puts takes h.marks pw.at pw.wants pr.at pr.wants h.joined id) (answered_around e s law h.around id (flight id s.flights))
step_stays e s pw pr last puts takes (Step.Make line) ok law h makes outside move_w move_r =
    let o = ideal_step s (Step.Make line) in
    together e s pw pr last puts takes law h.around (Step.Make line) (ideal_step s (Step.Make line)) (make_goal e s law pw pr last puts takes h.marks h.joined line o (ordered e s law pw pr last puts takes h.marks h.joined o (make_for_ordered s law line (context_of (holder line) s.contexts)))) (make_for_around e s law h.around line makes (context_of (holder line) s.contexts))
step_stays e s pw pr last puts takes (Step.Revoke g) ok law h makes outside move_w move_r =
    let o = ideal_step s (Step.Revoke g) in
    together e s pw pr last puts takes law h.around (Step.Revoke g) (ideal_step s (Step.Revoke g)) (revoke_goal e s law pw pr last puts takes h.marks h.joined g o (ordered e s law pw pr last puts takes h.marks h.joined o (revoke_ordered s law g (revoke_refusal (grant_in s.grants g))))) (revoke_around e s law h.around g (revoke_refusal (grant_in s.grants g)))
step_stays e s pw pr last puts takes (Step.Close g) ok law h makes outside move_w move_r =
    let o = ideal_step s (Step.Close g) in
    together e s pw pr last puts takes law h.around (Step.Close g) (ideal_step s (Step.Close g)) (close_goal e s law pw pr last puts takes h.marks h.joined g o (ordered e s law pw pr last puts takes h.marks h.joined o (close_ordered s law g (grant_in s.grants g)))) (close_grant_around e s law h.around g (grant_in s.grants g))
step_stays e s pw pr last puts takes (Step.Closed g) ok law h makes outside move_w move_r =
    let o = ideal_step s (Step.Closed g) in
    together e s pw pr last puts takes law h.around (Step.Closed g) (ideal_step s (Step.Closed g)) (closed_goal e s law pw pr last puts takes h.marks h.joined g o (ordered e s law pw pr last puts takes h.marks h.joined o (closed_ordered s law g (grant_in s.grants g)))) (closed_around e s law h.around g (grant_in s.grants g))
step_stays e s pw pr last puts takes (Step.Done g) ok law h makes outside move_w move_r =
    let o = ideal_step s (Step.Done g) in
    together e s pw pr last puts takes law h.around (Step.Done g) (ideal_step s (Step.Done g)) (done_goal e s law pw pr last puts takes h.marks h.joined g o (ordered e s law pw pr last puts takes h.marks h.joined o (done_ordered s law g (grant_in s.grants g)))) (done_around e s law h.around g (grant_in s.grants g))
