-- A turn is made with each move that answers what it asks, and its outcome has such a move alone.
use Rattle.std.proofs.Common.{◌≡◌, ℕ, Bool, true, false, cond, length, Option, Some, None, refl, subst, ◌∙◌, ap, arith}
use Rattle.std.specs.Prelude.{◌==◌, ◌&&◌, not, is_some}
use Rattle.m3_base.specs.declared.command.Command.{Command}
use Rattle.m3_base.specs.declared.event.Event.{Event}
use Rattle.m3_base.specs.declared.event.IdleWhy.{IdleWhy}
use Rattle.m3_base.specs.declared.event.Made.{Made}
use Rattle.m3_base.specs.declared.event.Said.{Said}
use Rattle.m3_base.specs.Ideal.Context.{Context, endpoint}
use Rattle.m3_base.specs.Ideal.Issue.{Issued, flies_always, is_busy, issue}
use Rattle.m3_base.specs.Ideal.Step.{has_unread}
use Rattle.m3_base.specs.Placement.Turn.{is_repeat}
use Rattle.m3_model.specs.Config.KnownActivities.{is_home}
use Rattle.m3_model.specs.Config.Site.{Site, tile_of}
use Rattle.m3_model.specs.Invariant.Housing.{IsPresent}
use Rattle.m3_model.specs.Invariant.Structure.{MachineStructure}
use Rattle.m3_model.specs.LocalStep.{LocalResult, idle_result}
use Rattle.m3_model.specs.Machine.{Machine, done_by, machine_step, of_turn, part_step, tile_at}
use Rattle.m3_model.specs.Tile.Ask.{Ask, Idle_turn, Pending_turn, Program_turn, Quantum_turn, answers_ask, ask_at, ask_by, ask_pending, turn_ask}
use Rattle.m3_model.specs.Tile.State.{Resident, Tile}
use Rattle.m3_model.specs.Tile.Step.{is_due, is_waiting, resident_of, tile_turn, turn_at, turn_await, turn_by, turn_issued, turn_made, turn_move, turn_quantum, yield_result}
use Rattle.m3_refine.proofs.events.HomeTile.{home_part}
use Rattle.m3_refine.proofs.events.command.Issue.{WaitsIf, issue_waits}
use Rattle.m3_refine.proofs.events.turn.TurnCommand.{idle_issues}
use Rattle.m3_refine.proofs.lists.EachElement.{InSome}

-- this step of a turn is there where the move answers what is asked, and its outcome has a move that does
pub record IsAsAsked (ask : Ask) (made : Option Made) (o : Option (LocalResult Tile)) : Type 0 where
  pub made_if : answers_ask ask made ≡ true → is_some o ≡ true
  pub answers : InSome (λ d. answers_ask ask d.outcome.made ≡ true) o

asked_if : (b : Bool) (p q : Ask) (made : Option Made) (x y : Option (LocalResult Tile)) → (b ≡ true → IsAsAsked p made x) → (b ≡ false → IsAsAsked q made y) → IsAsAsked (cond b p q) made (cond b x y)
asked_if true p q made x y f g = f refl
asked_if false p q made x y f g = g refl

module _ (h : Site) (t : Tile) where
  idle_asked : (why : IdleWhy) (made : Option Made) → IsAsAsked (Idle_turn why) made (Some (idle_result why t))
  idle_asked why made = record { made_if = λ e. refl; answers = refl }

  module _ (x : Context) (y : Resident) where
    quantum_asked : (made : Made) → IsAsAsked Quantum_turn (Some made) (turn_quantum t y made)
    quantum_asked Made.Quantum = record { made_if = λ e. refl; answers = refl }
    quantum_asked (Made.Command c) = record { made_if = λ e. absurd (cc); answers = tt }
    quantum_asked (Made.Await ep) = record { made_if = λ e. absurd (cc); answers = tt }
    quantum_asked Made.End = record { made_if = λ e. absurd (cc); answers = tt }

    issued_asked : (c : Command) (o : Option Issued) → WaitsIf (flies_always c && is_busy x) o → (length x.flying == 0) ≡ true → IsAsAsked (Program_turn y.seen) (Some (Made.Command c)) (Some (turn_issued h t y (Made.Command c) o))
    issued_asked c None w idle = absurd (let k = idle_issues x c idle in cc)
    issued_asked c (Some i) w idle = record { made_if = λ e. refl; answers = refl }

    await_asked : (ask : Ask) (ep : ℕ) → answers_ask ask (Some (Made.Await ep)) ≡ true → (b : Bool) → IsAsAsked ask (Some (Made.Await ep)) (Some (turn_await t y ep b))
    await_asked ask ep k true = record { made_if = λ e. refl; answers = k }
    await_asked ask ep k false = record { made_if = λ e. refl; answers = k }

    -- the move, where this Await pends or none does
    abbrev move_with : Option ℕ → Made → Option (LocalResult Tile)
    move_with o (Made.Command c) = cond (is_some o) None (Some (turn_issued h t y (Made.Command c) (issue x c)))
    move_with o (Made.Await ep) = cond (is_repeat o ep) (Some (turn_await t y ep (has_unread (endpoint x ep)))) None
    move_with o Made.Quantum = None
    move_with o Made.End = cond (is_some o) None (Some (yield_result Made.End Said.Ended t (record y { ended = true })))

    move_asked : (length x.flying == 0) ≡ true → (o : Option ℕ) (made : Made) → IsAsAsked (ask_pending y o) (Some made) (move_with o made)
    move_asked idle None (Made.Command c) = issued_asked c (issue x c) (issue_waits x c) idle
    move_asked idle None (Made.Await ep) = await_asked (Program_turn y.seen) ep refl (has_unread (endpoint x ep))
    move_asked idle None Made.Quantum = record { made_if = λ e. absurd (cc); answers = tt }
    move_asked idle None Made.End = record { made_if = λ e. refl; answers = refl }
    move_asked idle (Some e) (Made.Command c) = record { made_if = λ e. absurd (cc); answers = tt }
    move_asked idle (Some e) (Made.Await ep) = by_repeat (e == ep) refl
      where
        by_repeat : (b : Bool) → (e == ep) ≡ b → IsAsAsked (Pending_turn e) (Some (Made.Await ep)) (cond b (Some (turn_await t y ep (has_unread (endpoint x ep)))) None)
        by_repeat true k = await_asked (Pending_turn e) ep k (has_unread (endpoint x ep))
        by_repeat false k = record { made_if = λ f. absurd (cc); answers = tt }
    move_asked idle (Some e) Made.Quantum = record { made_if = λ e. absurd (cc); answers = tt }
    move_asked idle (Some e) Made.End = record { made_if = λ e. absurd (cc); answers = tt }

    same_move : (made : Made) → move_with y.pending made ≡ turn_move h t x y made
    same_move (Made.Command c) = refl
    same_move (Made.Await ep) = refl
    same_move Made.Quantum = refl
    same_move Made.End = refl

    none_asked : (b : Bool) (o : Option ℕ) → IsAsAsked (cond b Quantum_turn (ask_pending y o)) None None
    none_asked true o = record { made_if = λ e. absurd (cc); answers = tt }
    none_asked false None = record { made_if = λ e. absurd (cc); answers = tt }
    none_asked false (Some ep) = record { made_if = λ e. absurd (cc); answers = tt }

    made_asked : (length x.flying == 0) ≡ true → (made : Option Made) → IsAsAsked (cond (is_due h t y) Quantum_turn (ask_pending y y.pending)) made (turn_made h t x y made)
    made_asked idle None = none_asked (is_due h t y) y.pending
    made_asked idle (Some k) =
        asked_if (is_due h t y) Quantum_turn (ask_pending y y.pending) (Some k) (turn_quantum t y k) (turn_move h t x y k) (λ e. quantum_asked k)
        (λ e. subst (IsAsAsked (ask_pending y y.pending) (Some k)) (same_move k) (move_asked idle y.pending k))

    by_asked : (made : Option Made) → IsAsAsked (ask_by h t x (Some y)) made (turn_by h t x made (Some y))
    by_asked made =
        let asks = cond (is_due h t y) Quantum_turn (ask_pending y y.pending) in
        let waits = cond (y.yield_sent && is_waiting x y) (Idle_turn IdleWhy.Waiting) asks in
        let waiting = cond (y.yield_sent && is_waiting x y) (Some (idle_result IdleWhy.Waiting t)) (turn_made h t x y made) in
        asked_if y.ended (Idle_turn IdleWhy.Ended) (cond (not (length x.flying == 0)) (Idle_turn IdleWhy.Busy) waits) made (Some (idle_result IdleWhy.Ended t)) (cond (not (length x.flying == 0)) (Some (idle_result IdleWhy.Busy t)) waiting)
        (λ e. idle_asked IdleWhy.Ended made)
        (λ e. asked_if (not (length x.flying == 0)) (Idle_turn IdleWhy.Busy) waits made (Some (idle_result IdleWhy.Busy t)) waiting (λ f. idle_asked IdleWhy.Busy made)
        (λ f. asked_if (y.yield_sent && is_waiting x y) (Idle_turn IdleWhy.Waiting) asks made (Some (idle_result IdleWhy.Waiting t)) (turn_made h t x y made) (λ g. idle_asked IdleWhy.Waiting made)
        (λ g. made_asked (grind (arith, f)) made)))

  resident_asked : (x : Context) (made : Option Made) (o : Option Resident) → IsPresent o → IsAsAsked (ask_by h t x o) made (turn_by h t x made o)
  resident_asked x made None k = absurd k
  resident_asked x made (Some y) k = by_asked x y made

  at_asked : (a : ℕ) (made : Option Made) → IsPresent (resident_of a t) → (o : Option Context) → IsAsAsked (ask_at h t a o) made (turn_at h t a made o)
  at_asked a made there None = idle_asked IdleWhy.NotCurrent made
  at_asked a made there (Some x) =
      asked_if (x.act == a) (ask_by h t x (resident_of a t)) (Idle_turn IdleWhy.NotCurrent) made (turn_by h t x made (resident_of a t)) (Some (idle_result IdleWhy.NotCurrent t))
      (λ e. resident_asked x made (resident_of a t) there) (λ e. idle_asked IdleWhy.NotCurrent made)

  pub turn_asked : (a : ℕ) (made : Option Made) → IsPresent (resident_of a t) → IsAsAsked (turn_ask h t a) made (tile_turn h t a made)
  turn_asked a made there = at_asked a made there t.current

-- ---- the machine's turn

-- a declared activity's turn is made with each move that answers what its tile asks
pub turn_is_made : (h : Site) (m : Machine) (a : ℕ) (made : Option Made) → MachineStructure h m → is_home h a ≡ true
    → answers_ask (turn_ask h (tile_at (tile_of h a) m) a) made ≡ true → is_some (machine_step h m (Event.Turn a) made) ≡ true
turn_is_made h m a made sound known e =
    let x = tile_at (tile_of h a) m in
    let there = sound.housed.stays a known in
    ap (λ z. is_some (done_by (tile_of h a) m (part_step h z (Event.Turn a) made None))) (home_part h m a sound known)
    ∙ by_turn (tile_turn h x a made) ((turn_asked h x a made there).made_if e)
  where
    by_turn : (o : Option (LocalResult Tile)) → is_some o ≡ true → is_some (done_by (tile_of h a) m (of_turn o)) ≡ true
    by_turn None k = absurd (cc)
    by_turn (Some d) k = refl
