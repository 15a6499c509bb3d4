-- The reader goes by the numbers of the notices.
use Rattle.std.proofs.Common.{◌≡◌, Bool, true, false, Some, None, refl, arith}
use Rattle.std.specs.Prelude.{Option, if◌then◌else◌, not, ◌==◌}
use Rattle.std.proofs.lemmas.Bool.Decides.{nat_tests}
use Rattle.m3_base.specs.declared.command.Reply.{Reply}
use Rattle.m3_base.specs.declared.command.Command.{Command}
use Rattle.m3_base.specs.declared.program.Move.{Move}
use Rattle.m3_base.specs.declared.program.Seen.{Seen}
use Rattle.m3_pipe_laws.specs.Protocol.{Reaction, Notice, Reader, ReaderState, ReaderPhase, Starts, Waits, Looks, Reads, Replies, Closes, reader_at_answer, reader_first, reader_awake, reader_over, at_notice, is_next, reply_with_number, reader_reaction, slot, with_token, read_notice}
use Rattle.m3_pipe_laws.specs.Laws.{InOrder, ReaderOrder, ReaderMove, ReaderFits}

abbrev pub Goes : Reader → Reaction ReaderState → Type 0
Goes r m = InOrder r m.next m.move

notice_goes : (r : Reader) (p : ReaderState) (o : Option Notice) → Goes r (at_notice r p o)
notice_goes r p None = tt
notice_goes r p (Some n) = by_tests (is_next r p n) (n.size == 0) refl
  where
    by_tests : (b z : Bool) → is_next r p n ≡ b → Goes r (if not b then reader_over p else (if z then reply_with_number r p Closes else reader_reaction p Reads (Move.Do (Command.Read r.mem (slot r.ring r.chunk p.next) n.size))))
    by_tests false z e = tt
    by_tests true true e = (refl, refl, refl)
    by_tests true false e = (refl, refl, grind (arith, nat_tests, e))

told_goes : (r : Reader) (p : ReaderState) (t : ReaderPhase) (answer : Reply) → Goes r (reader_at_answer r p t answer)
told_goes r p Looks (Reply.Fetched token m) = notice_goes r (with_token p token) (read_notice m.payload)
told_goes r p Reads (Reply.Bytes bytes) = (refl, refl, refl)
told_goes r p Replies Reply.Replied = tt
told_goes r p t answer = tt

first_goes : (r : Reader) (p : ReaderState) (t : ReaderPhase) → Goes r (reader_first r p t)
first_goes r p Starts = tt
first_goes r p t = tt

awake_goes : (r : Reader) (p : ReaderState) (t : ReaderPhase) → Goes r (reader_awake r p t)
awake_goes r p Waits = tt
awake_goes r p t = tt

pub reader_order : ReaderOrder
reader_order r p Seen.First = first_goes r p p.task
reader_order r p Seen.Awake = awake_goes r p p.task
reader_order r p (Seen.Answer answer) = told_goes r p p.task answer

-- ---- what it wants where it stands

abbrev pub Fits : Reader → Reaction ReaderState → Type 0
Fits r m = ReaderMove r m.next m.move m.next.task

notice_fits : (r : Reader) (p : ReaderState) (o : Option Notice) → Fits r (at_notice r p o)
notice_fits r p None = refl
notice_fits r p (Some n) = by_tests (is_next r p n) (n.size == 0) refl
  where
    by_tests : (b z : Bool) → is_next r p n ≡ b → Fits r (if not b then reader_over p else (if z then reply_with_number r p Closes else reader_reaction p Reads (Move.Do (Command.Read r.mem (slot r.ring r.chunk p.next) n.size))))
    by_tests false z e = refl
    by_tests true true e = refl
    by_tests true false e = (n.size, refl, grind (arith, nat_tests, e))

told_fits : (r : Reader) (p : ReaderState) (t : ReaderPhase) (answer : Reply) → Fits r (reader_at_answer r p t answer)
told_fits r p Looks (Reply.Fetched token m) = notice_fits r (with_token p token) (read_notice m.payload)
told_fits r p Reads (Reply.Bytes bytes) = refl
told_fits r p Replies Reply.Replied = refl
told_fits r p t answer = refl

first_fits : (r : Reader) (p : ReaderState) (t : ReaderPhase) → Fits r (reader_first r p t)
first_fits r p Starts = refl
first_fits r p t = refl

awake_fits : (r : Reader) (p : ReaderState) (t : ReaderPhase) → Fits r (reader_awake r p t)
awake_fits r p Waits = refl
awake_fits r p t = refl

pub reader_fits : ReaderFits
reader_fits r p Seen.First = first_fits r p p.task
reader_fits r p Seen.Awake = awake_fits r p p.task
reader_fits r p (Seen.Answer answer) = told_fits r p p.task answer
