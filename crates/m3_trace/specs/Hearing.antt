-- What programs hear: what each is to see next, by what its tile has of it and what it heard while it was away.
use Rattle.std.specs.Prelude.{◌≡◌, ℕ, true, List, [], ◌++◌, Option, Some, None, is_some, if◌then◌else◌, ◌==◌}
use Rattle.m3_base.specs.declared.program.Seen as program
use Rattle.m3_base.specs.declared.event.Event.{Event}
use Rattle.m3_base.specs.declared.event.Entry.{Entry}
use Rattle.m3_base.specs.declared.event.Outcome.{Outcome}
use Rattle.m3_base.specs.Calls.JournalCalls.{Call, Input, Known, PendingAnswer, PendingAwait, Missing, call_of_turn, last_input}
use Rattle.m3_base.specs.Ideal.Context.{Context, Flying}
use Rattle.m3_base.specs.Ideal.Landing.{flying_at}
use Rattle.m3_base.specs.Ideal.State.{State, context_of}
use Rattle.m3_model.specs.Abstraction.{flat_map, ideal_of}
use Rattle.m3_model.specs.Config.KnownActivities.{is_home}
use Rattle.m3_model.specs.Config.Site.{Site, tile_of}
use Rattle.m3_model.specs.Invariant.Housing.{resident_at}
use Rattle.m3_model.specs.Kernel.State.{ActivityEntry, EntryResidency, Is_coming, Is_leaving, Is_placed, Is_resting}
use Rattle.m3_model.specs.Kernel.Step.{entry_of}
use Rattle.m3_model.specs.Machine.{Machine, link_at, tile_at}
use Rattle.m3_model.specs.Parcel.{Closed, Data, Heard, Parcel, Restore, Save, Saved, Yield}
use Rattle.m3_model.specs.Tile.Ask.{Ask, Idle_turn, Pending_turn, Program_turn, Quantum_turn, turn_ask}
use Rattle.m3_model.specs.Tile.State.{Awake, First, Got, Resident, Seen, Waits}
use Rattle.m3_model.specs.Tile.Step.{seen_after_answers}

-- ---- what was heard away from the tile

abbrev pub heard_in : ℕ → Parcel → List Heard
heard_in a (Data p) = []
heard_in a (Save b) = []
heard_in a (Saved b c waiting ended) = []
heard_in a (Restore b c xs) = if b == a then xs else []
heard_in a (Yield b) = []
heard_in a (Closed g) = []

abbrev pub residency_heard : EntryResidency → List Heard
residency_heard Is_placed = []
residency_heard Is_leaving = []
residency_heard (Is_resting y) = y.heard
residency_heard (Is_coming y) = y.heard

abbrev pub entry_heard : Option ActivityEntry → List Heard
entry_heard None = []
entry_heard (Some x) = residency_heard x.seating

-- on the kernel's link to the activity's tile
abbrev pub heard_on_link : Site → Machine → ℕ → List Heard
heard_on_link h m a = flat_map (heard_in a) (link_at 0 (tile_of h a) m)

-- what the activity's tile is still to hear: on the kernel's link to it, and then in the kernel's entry
abbrev pub heard_away : Site → Machine → ℕ → List Heard
heard_away h m a = heard_on_link h m a ++ entry_heard (entry_of a m.kernel)

-- ---- what its program is to see

abbrev pub input_of_seen : Seen → Input
input_of_seen First = Known program.Seen.First
input_of_seen Awake = Known program.Seen.Awake
input_of_seen (Got r) = Known (program.Seen.Answer r)
input_of_seen (Waits n) = PendingAnswer n

-- a pending Await comes first
abbrev pub input_by : Option ℕ → Seen → Input
input_by None seen = input_of_seen seen
input_by (Some ep) seen = PendingAwait ep

abbrev pub resident_input : Option Resident → List Heard → Input
resident_input None xs = Missing
resident_input (Some y) xs = input_by y.pending (seen_after_answers y.seen xs)

-- what the activity's program is to see next, or what is pending before that
abbrev pub program_input : Site → Machine → ℕ → Input
program_input h m a = resident_input (resident_at h m.tiles a) (heard_away h m a)

-- each program is to see what the journal tells it
abbrev pub HearsAs : Site → State → List Entry → Machine → Type 0
HearsAs h s entries m = (a : ℕ) → is_home h a ≡ true → last_input a s entries ≡ program_input h m a

-- ---- the command whose answer a program waits for

abbrev pub command_of : ℕ → Option Context → Option Flying
command_of n None = None
command_of n (Some c) = flying_at n c.flying

-- the activity's command of this number flies
abbrev pub IsFlying : ℕ → ℕ → State → Type 0
IsFlying a n s = is_some (command_of n (context_of a s.contexts)) ≡ true

-- the command flies whose answer a program waits for, wherever its context is
abbrev pub WaitsFly : Site → Machine → Type 0
WaitsFly h m = (a n : ℕ) → is_home h a ≡ true → program_input h m a ≡ PendingAnswer n → IsFlying a n (ideal_of m)

-- ---- calls

-- what the program sees where a turn asks it
abbrev pub input_of_ask : Ask → Input
input_of_ask (Idle_turn why) = Missing
input_of_ask Quantum_turn = Missing
input_of_ask (Pending_turn ep) = PendingAwait ep
input_of_ask (Program_turn seen) = input_of_seen seen

-- the call of the activity's program in an event: at its turn, where that asks it
abbrev pub call_asked : Site → Machine → ℕ → Event → Outcome → List Call
call_asked h m a (Event.Turn b) o =
    if b == a then call_of_turn (input_of_ask (turn_ask h (tile_at (tile_of h a) m) a)) o.made else []
call_asked h m a event o = []
