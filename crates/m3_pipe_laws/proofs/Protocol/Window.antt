-- The writer stays in its window.
use Rattle.std.proofs.Common.{◌≡◌, ◌+◌, ◌<◌, ◌≤◌, Bool, true, false, List, [], ◌∷◌, refl, arith}
use Rattle.std.specs.Prelude.{if◌then◌else◌, not, ◌||◌}
use Rattle.std.proofs.lemmas.Bool.Decides.{nat_tests}
use Rattle.m3_base.specs.declared.command.Reply.{Reply}
use Rattle.m3_base.specs.declared.program.Seen.{Seen}
use Rattle.m3_pipe_laws.specs.Protocol.{Reaction, Writer, WriterState, WriterPhase, Begins, Writes, Sends, Awaits, Fetches, Acknowledges, writer_start, writer_step, writer_at_answer, writer_first, writer_awake, writer_choice, writer_over, await_of_reply, write_of_piece, send_of_notice, is_answered, has_room, has_piece, with_notice_sent, with_reply_back, state_along}
use Rattle.m3_pipe_laws.specs.Laws.{InWindow, WriterWindow, WriterMove, WriterFits}

-- what holds while a write or a notice is under way
abbrev pub BusyOk : Writer → WriterState → WriterPhase → Type 0
BusyOk w p Writes = (has_piece w.chunk w.bytes p.sent ≡ true) × (p.sent < p.back + w.ring)
BusyOk w p Sends = p.sent < p.back + w.ring
BusyOk w p d = Unit {0}

pub record StepOk (w : Writer) (m : Reaction WriterState) : Type 0 where
  pub most : m.next.sent ≤ m.next.back + w.ring
  pub busy : BusyOk w m.next m.next.doing
  pub move : InWindow w m.next m.move
  pub fits : WriterMove w m.next m.move m.next.doing

over_ok : (w : Writer) (p : WriterState) → p.sent ≤ p.back + w.ring → StepOk w (writer_over p)
over_ok w p h = record { most = h; busy = tt; move = tt; fits = refl }

chooses_ok : (w : Writer) (p : WriterState) → p.sent ≤ p.back + w.ring → StepOk w (writer_choice w p)
chooses_ok w p h = by_tests (is_answered p) (has_room w p) p.ended (has_piece w.chunk w.bytes p.sent) refl refl
  where
    by_tests : (a b c d : Bool) → has_room w p ≡ b → has_piece w.chunk w.bytes p.sent ≡ d → StepOk w (if a then writer_over p else (if not b || c then await_of_reply w p else (if d then write_of_piece w p else send_of_notice w p)))
    by_tests true b c d e f = over_ok w p h
    by_tests false false c d e f = record { most = h; busy = tt; move = tt; fits = refl }
    by_tests false true true d e f = record { most = h; busy = tt; move = tt; fits = refl }
    by_tests false true false true e f =
        let room : p.sent < p.back + w.ring = grind (arith, nat_tests, e) in
        record { most = h; busy = (f, room); move = (refl, refl, refl, f, room); fits = (refl, f, room) }
    by_tests false true false false e f =
        let room : p.sent < p.back + w.ring = grind (arith, nat_tests, e) in
        record { most = h; busy = room; move = (refl, refl, refl, room); fits = (refl, room) }

told_ok : (w : Writer) (p : WriterState) (d : WriterPhase) (answer : Reply) → p.sent ≤ p.back + w.ring → BusyOk w p d → StepOk w (writer_at_answer w p d answer)
told_ok w p Writes Reply.Written h b = record { most = h; busy = b.1; move = (refl, refl, refl, b.1); fits = (refl, b.1) }
told_ok w p Sends Reply.Sent h b = chooses_ok w (with_notice_sent w p) (omega arith)
told_ok w p Fetches (Reply.Fetched token m) h b = record { most = h; busy = tt; move = tt; fits = (token, refl) }
told_ok w p Acknowledges (Reply.Acknowledged credit) h b = chooses_ok w (with_reply_back p) (omega arith)
told_ok w p d answer h b = over_ok w p h

first_ok : (w : Writer) (p : WriterState) (d : WriterPhase) → p.sent ≤ p.back + w.ring → StepOk w (writer_first w p d)
first_ok w p Begins h = chooses_ok w p h
first_ok w p d h = over_ok w p h

awake_ok : (w : Writer) (p : WriterState) (d : WriterPhase) → p.sent ≤ p.back + w.ring → StepOk w (writer_awake w p d)
awake_ok w p Awaits h = record { most = h; busy = tt; move = tt; fits = refl }
awake_ok w p d h = over_ok w p h

pub step_ok : (w : Writer) (p : WriterState) (s : Seen) → p.sent ≤ p.back + w.ring → BusyOk w p p.doing → StepOk w (writer_step w p s)
step_ok w p Seen.First h b = first_ok w p p.doing h
step_ok w p Seen.Awake h b = awake_ok w p p.doing h
step_ok w p (Seen.Answer answer) h b = told_ok w p p.doing answer h b

pub record StandsOk (w : Writer) (p : WriterState) : Type 0 where
  pub most : p.sent ≤ p.back + w.ring
  pub busy : BusyOk w p p.doing

pub stands_ok : (w : Writer) (p : WriterState) (seen : List Seen) → StandsOk w p → StandsOk w (state_along (writer_step w) p seen)
stands_ok w p [] h = h
stands_ok w p (s ∷ ss) h = let k = step_ok w p s h.most h.busy in stands_ok w (writer_step w p s).next ss (record { most = k.most; busy = k.busy })

pub writer_window : WriterWindow
writer_window w seen last =
    let h = stands_ok w writer_start seen (record { most = omega arith; busy = tt }) in
    let k = step_ok w (state_along (writer_step w) writer_start seen) last h.most h.busy in
    record { most = k.most; move = k.move }

pub writer_fits : WriterFits
writer_fits w seen last =
    let h = stands_ok w writer_start seen (record { most = omega arith; busy = tt }) in
    (step_ok w (state_along (writer_step w) writer_start seen) last h.most h.busy).fits
