-- Turns of a program.
use Rattle.std.specs.Prelude.{ℕ, ◌+◌, Bool, true, false, not, ◌&&◌, ◌==◌, nat_le, List, [], ◌∷◌, length, filter, Option, Some, None, is_some, if◌then◌else◌}
use Rattle.m3_base.specs.declared.step.Step.{Step}
use Rattle.m3_base.specs.declared.event.Made.{Made}
use Rattle.m3_base.specs.declared.event.Said.{Said}
use Rattle.m3_base.specs.declared.event.IdleWhy.{IdleWhy}
use Rattle.m3_base.specs.Ideal.Context.{Context}
use Rattle.m3_base.specs.Ideal.State.{State, context_of}
use Rattle.m3_base.specs.Ideal.Step.{ideal_run}
use Rattle.m3_base.specs.Placement.State.{PlacedActivity, Placement, Yield, is_current, with_actor, with_token}
use Rattle.m3_base.specs.Placement.Landing.{PlacementResult, idle_outcome, step_outcome}
use Rattle.m3_base.specs.Placement.Take.{has_unread_at, is_waiting}
use Rattle.m3_base.specs.Placement.Command.{command_by}

-- ---- turns

abbrev pub busy_any : Option Context → Bool
busy_any None = false
busy_any (Some x) = not (length x.flying == 0)

-- the tile has more than one activity
abbrev pub is_shared : ℕ → List PlacedActivity → Bool
is_shared t xs = nat_le 2 (length (filter (λ x. x.home == t) xs))

abbrev pub is_due_quantum : Placement → PlacedActivity → Bool
is_due_quantum p x = not x.yield_sent && (is_shared x.home p.actors && (x.moves == p.quantum))

abbrev pub is_waiting_turn : State → PlacedActivity → Bool
is_waiting_turn s x = x.yield_sent && is_waiting s (Some x)

-- a Yield goes out, unless this stay has sent one
abbrev pub yield_once : PlacedActivity → Placement → Placement
yield_once x p =
    if x.yield_sent then with_actor x p else with_token x.home 0 (Yield x.act) (with_actor (record x { yield_sent = true }) p)

abbrev pub await_turn : State → Placement → PlacedActivity → ℕ → Bool → Option PlacementResult
await_turn s p x ep true = step_outcome Said.Awake s (with_actor (record x { pending = None }) p)
await_turn s p x ep false =
    step_outcome (if x.yield_sent then Said.Asleep else Said.Yield) s (yield_once (record x { pending = Some ep }) p)

-- the move that the entry names has to be one that the turn can make
abbrev pub is_repeat : Option ℕ → ℕ → Bool
is_repeat None ep = true
is_repeat (Some e) ep = e == ep

abbrev pub turn_move : State → Placement → PlacedActivity → Made → Option PlacementResult
turn_move s p x (Made.Command c) =
    if is_some x.pending
    then None
    else command_by s (with_actor (record x { moves = x.moves + 1 }) p) x.act (ideal_run (Step.Issue x.act c ∷ []) s)
turn_move s p x (Made.Await ep) =
    if is_repeat x.pending ep then await_turn s p x ep (has_unread_at (context_of x.act s.contexts) (Some ep)) else None
turn_move s p x Made.Quantum = None
turn_move s p x Made.End =
    if is_some x.pending then None else step_outcome Said.Ended s (yield_once (record x { ended = true }) p)

abbrev pub quantum_turn : State → Placement → PlacedActivity → Made → Option PlacementResult
quantum_turn s p x Made.Quantum = step_outcome Said.Yield s (yield_once x p)
quantum_turn s p x m = None

abbrev pub turn_made : State → Placement → PlacedActivity → Option Made → Option PlacementResult
turn_made s p x None = None
turn_made s p x (Some m) =
    if is_due_quantum p x then quantum_turn s p x m else turn_move s p x m

abbrev pub turn_of : State → Placement → Option Made → Option PlacedActivity → Option PlacementResult
turn_of s p made None = None
turn_of s p made (Some x) =
    if not (is_current x.act p)
    then idle_outcome IdleWhy.NotCurrent s p
    else (
    if x.ended
    then idle_outcome IdleWhy.Ended s p
    else (
    if busy_any (context_of x.act s.contexts)
    then idle_outcome IdleWhy.Busy s p
    else (if is_waiting_turn s x then idle_outcome IdleWhy.Waiting s p else turn_made s p x made)
    )
    )
