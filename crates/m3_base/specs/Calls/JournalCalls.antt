-- The calls of an activity's program, as a journal tells them: at each what the program sees, and
-- its move.
use Rattle.std.specs.Prelude.{ℕ, ◌==◌, List, [], ◌∷◌, ◌++◌, Option, Some, None, if◌then◌else◌}
use Rattle.m3_base.specs.declared.program.Seen.{Seen}
use Rattle.m3_base.specs.declared.program.Move.{Move}
use Rattle.m3_base.specs.declared.command.Reply.{Reply}
use Rattle.m3_base.specs.declared.command.Command.{Command}
use Rattle.m3_base.specs.declared.event.Event.{Event}
use Rattle.m3_base.specs.declared.event.Made.{Made}
use Rattle.m3_base.specs.declared.event.Said.{Said}
use Rattle.m3_base.specs.declared.event.Outcome.{Outcome}
use Rattle.m3_base.specs.declared.event.Entry.{Entry}
use Rattle.m3_base.specs.Ideal.State.{State}
use Rattle.m3_base.specs.Ideal.Flights.{same_name}
use Rattle.m3_base.specs.Journal.Entry.{next_state}
use Rattle.m3_base.specs.Journal.Replies.{printed_at_issue, reply_of}

-- a call of a program: what it sees, and its move
pub record Call : Type 0 where
  pub seen : Seen
  pub move : Move

-- what a program is to see next, or what is pending before that; missing where an entry told no
-- reply
pub data Input : Type 0 where
  Known : Seen → Input
  PendingAnswer : ℕ → Input
  PendingAwait : ℕ → Input
  Missing : Input

-- ---- the call in an entry

-- of a turn, the program's own move; a quantum turn has none
abbrev pub own_move : Made → Option Move
own_move (Made.Command c) = Some (Move.Do c)
own_move (Made.Await ep) = Some (Move.Await ep)
own_move Made.Quantum = None
own_move Made.End = Some Move.Ended

-- a program is called where its input is known, so a pending Await is not repeated
abbrev pub call_with : Input → Option Move → List Call
call_with (Known seen) (Some move) = record { seen = seen; move = move } ∷ []
call_with i move = []

-- the call in a turn with this move; an idle turn has none
abbrev pub call_of_turn : Input → Option Made → List Call
call_of_turn i None = []
call_of_turn i (Some m) = call_with i (own_move m)

-- the call in an entry, where that is a turn of the activity
abbrev pub call_in : ℕ → Input → Event → Outcome → List Call
call_in a i (Event.Turn b) o = if b == a then call_of_turn i o.made else []
call_in a i event o = []

-- ---- the input after an entry

-- the reply that an entry tells
abbrev pub input_of_reply : List Reply → Input
input_of_reply [] = Missing
input_of_reply (r ∷ rs) = Known (Seen.Answer r)

-- after a command: its reply, or where it flies its answer to come
abbrev pub input_after_do : State → ℕ → Command → Said → Input
input_after_do s a c (Said.Flying id) = PendingAnswer id.number
input_after_do s a c said = input_of_reply (printed_at_issue s a c said)

-- after an Await, which is awake at once or pending
abbrev pub input_after_await : ℕ → Said → Input
input_after_await ep Said.Awake = Known Seen.Awake
input_after_await ep said = PendingAwait ep

-- after a turn; idle turns, quantum turns and ends leave the input as it is
abbrev pub input_after_turn : State → ℕ → Input → Option Made → Said → Input
input_after_turn s a i (Some (Made.Command c)) said = input_after_do s a c said
input_after_turn s a i (Some (Made.Await ep)) said = input_after_await ep said
input_after_turn s a i made said = i

-- after an answer: it is seen where it is that of the last Do, whether the tile or the kernel
-- applies it
abbrev pub input_after_answer : ℕ → Input → Said → Input
input_after_answer a (PendingAnswer n) (Said.Answered id answer freed) =
    if same_name id (record { issuer = a; number = n })
    then Known (Seen.Answer (reply_of answer))
    else PendingAnswer n
input_after_answer a i said = i

-- after an entry of any event
abbrev pub input_after_event : ℕ → State → Input → Event → Outcome → Input
input_after_event a s i (Event.Turn b) o =
    if b == a then input_after_turn s a i o.made o.said else i
input_after_event a s i (Event.Take to from) o = input_after_answer a i o.said
input_after_event a s i (Event.Tend b) o = input_after_answer a i o.said
input_after_event a s i event o = i

-- ---- whole journals

-- the calls in these entries, from this state and this input on
abbrev pub calls_from : ℕ → State → Input → List Entry → List Call
calls_from a s i [] = []
calls_from a s i (e ∷ es) =
    call_in a i e.event e.outcome
    ++ calls_from a (next_state s e) (input_after_event a s i e.event e.outcome) es

-- the input after these entries
abbrev pub input_along : ℕ → State → Input → List Entry → Input
input_along a s i [] = i
input_along a s i (e ∷ es) =
    input_along a (next_state s e) (input_after_event a s i e.event e.outcome) es

-- the calls in a journal, and an end for want of fuel as one more
abbrev pub all_calls : ℕ → State → List Entry → List Call
all_calls a s es = calls_from a s (Known Seen.First) es

-- what the program is to see after a journal
abbrev pub last_input : ℕ → State → List Entry → Input
last_input a s es = input_along a s (Known Seen.First) es
