-- A turn that is made with the move that answers what it asks tells just that move.
use Rattle.std.proofs.Common.{◌≡◌, ℕ, Bool, true, false, cond, length, Option, Some, None, refl, arith}
use Rattle.std.specs.Prelude.{◌==◌, ◌&&◌, not, is_some}
use Rattle.m3_base.specs.declared.command.Command.{Command}
use Rattle.m3_base.specs.declared.event.IdleWhy.{IdleWhy}
use Rattle.m3_base.specs.declared.event.Made.{Made}
use Rattle.m3_base.specs.declared.event.Said.{Said}
use Rattle.m3_base.specs.Ideal.Context.{Context, endpoint}
use Rattle.m3_base.specs.Ideal.Issue.{Issued, flies_always, is_busy, issue}
use Rattle.m3_base.specs.Ideal.Step.{has_unread}
use Rattle.m3_base.specs.Placement.Turn.{is_repeat}
use Rattle.m3_model.specs.Config.Site.{Site}
use Rattle.m3_model.specs.Invariant.Housing.{IsPresent}
use Rattle.m3_model.specs.LocalStep.{LocalResult, idle_result}
use Rattle.m3_model.specs.Tile.Ask.{Ask, Idle_turn, Quantum_turn, answers_ask, ask_at, ask_by, ask_pending, turn_ask}
use Rattle.m3_model.specs.Tile.State.{Resident, Tile}
use Rattle.m3_model.specs.Tile.Step.{is_due, is_waiting, resident_of, tile_turn, turn_at, turn_await, turn_by, turn_issued, turn_made, turn_move, turn_quantum, yield_result}
use Rattle.m3_refine.proofs.events.command.Issue.{WaitsIf, issue_waits}
use Rattle.m3_refine.proofs.events.turn.TurnCommand.{idle_issues}
use Rattle.m3_refine.proofs.lists.EachElement.{InSome}

-- this step of a turn tells its move, where that answers what is asked
abbrev pub TellsMove : Ask → Option Made → Option (LocalResult Tile) → Type 0
TellsMove ask made o = answers_ask ask made ≡ true → InSome (λ d. d.outcome.made ≡ made) o

tells_if : (b : Bool) (p q : Ask) (made : Option Made) (x y : Option (LocalResult Tile)) → (b ≡ true → TellsMove p made x) → (b ≡ false → TellsMove q made y) → TellsMove (cond b p q) made (cond b x y)
tells_if true p q made x y f g = f refl
tells_if false p q made x y f g = g refl

module _ (h : Site) (t : Tile) where
  idle_tells : (why : IdleWhy) (made : Option Made) → TellsMove (Idle_turn why) made (Some (idle_result why t))
  idle_tells why None e = refl
  idle_tells why (Some made) e = absurd (cc)

  module _ (x : Context) (y : Resident) where
    quantum_tells : (made : Made) → InSome (λ d. d.outcome.made ≡ Some made) (turn_quantum t y made)
    quantum_tells Made.Quantum = refl
    quantum_tells (Made.Command c) = tt
    quantum_tells (Made.Await ep) = tt
    quantum_tells Made.End = tt

    issued_tells : (c : Command) (o : Option Issued) → WaitsIf (flies_always c && is_busy x) o → (length x.flying == 0) ≡ true → (turn_issued h t y (Made.Command c) o).outcome.made ≡ Some (Made.Command c)
    issued_tells c None w idle = absurd (let k = idle_issues x c idle in cc)
    issued_tells c (Some i) w idle = refl

    await_tells : (ep : ℕ) (b : Bool) → (turn_await t y ep b).outcome.made ≡ Some (Made.Await ep)
    await_tells ep true = refl
    await_tells ep false = refl

    some_if : (b : Bool) (made : Made) (o : Option (LocalResult Tile)) → InSome (λ d. d.outcome.made ≡ Some made) o → InSome (λ d. d.outcome.made ≡ Some made) (cond b None o)
    some_if true made o k = tt
    some_if false made o k = k

    some_where : (b : Bool) (made : Made) (o : Option (LocalResult Tile)) → InSome (λ d. d.outcome.made ≡ Some made) o → InSome (λ d. d.outcome.made ≡ Some made) (cond b o None)
    some_where true made o k = k
    some_where false made o k = tt

    move_tells : (length x.flying == 0) ≡ true → (made : Made) → InSome (λ d. d.outcome.made ≡ Some made) (turn_move h t x y made)
    move_tells idle (Made.Command c) = some_if (is_some y.pending) (Made.Command c) (Some (turn_issued h t y (Made.Command c) (issue x c))) (issued_tells c (issue x c) (issue_waits x c) idle)
    move_tells idle (Made.Await ep) = some_where (is_repeat y.pending ep) (Made.Await ep) (Some (turn_await t y ep (has_unread (endpoint x ep)))) (await_tells ep (has_unread (endpoint x ep)))
    move_tells idle Made.Quantum = tt
    move_tells idle Made.End = some_if (is_some y.pending) Made.End (Some (yield_result Made.End Said.Ended t (record y { ended = true }))) refl

    made_tells : (length x.flying == 0) ≡ true → (made : Option Made) → TellsMove (cond (is_due h t y) Quantum_turn (ask_pending y y.pending)) made (turn_made h t x y made)
    made_tells idle None e = tt
    made_tells idle (Some k) e = by_due (is_due h t y)
      where
        by_due : (b : Bool) → InSome (λ d. d.outcome.made ≡ Some k) (cond b (turn_quantum t y k) (turn_move h t x y k))
        by_due true = quantum_tells k
        by_due false = move_tells idle k

    by_tells : (made : Option Made) → TellsMove (ask_by h t x (Some y)) made (turn_by h t x made (Some y))
    by_tells made =
        let asks = cond (is_due h t y) Quantum_turn (ask_pending y y.pending) in
        let waits = cond (y.yield_sent && is_waiting x y) (Idle_turn IdleWhy.Waiting) asks in
        let waiting = cond (y.yield_sent && is_waiting x y) (Some (idle_result IdleWhy.Waiting t)) (turn_made h t x y made) in
        tells_if y.ended (Idle_turn IdleWhy.Ended) (cond (not (length x.flying == 0)) (Idle_turn IdleWhy.Busy) waits) made (Some (idle_result IdleWhy.Ended t)) (cond (not (length x.flying == 0)) (Some (idle_result IdleWhy.Busy t)) waiting)
        (λ e. idle_tells IdleWhy.Ended made)
        (λ e. tells_if (not (length x.flying == 0)) (Idle_turn IdleWhy.Busy) waits made (Some (idle_result IdleWhy.Busy t)) waiting (λ f. idle_tells IdleWhy.Busy made)
        (λ f. tells_if (y.yield_sent && is_waiting x y) (Idle_turn IdleWhy.Waiting) asks made (Some (idle_result IdleWhy.Waiting t)) (turn_made h t x y made) (λ g. idle_tells IdleWhy.Waiting made)
        (λ g. made_tells (grind (arith, f)) made)))

  resident_tells : (x : Context) (made : Option Made) (o : Option Resident) → IsPresent o → TellsMove (ask_by h t x o) made (turn_by h t x made o)
  resident_tells x made None k = absurd k
  resident_tells x made (Some y) k = by_tells x y made

  at_tells : (a : ℕ) (made : Option Made) → IsPresent (resident_of a t) → (o : Option Context) → TellsMove (ask_at h t a o) made (turn_at h t a made o)
  at_tells a made there None = idle_tells IdleWhy.NotCurrent made
  at_tells a made there (Some x) =
      tells_if (x.act == a) (ask_by h t x (resident_of a t)) (Idle_turn IdleWhy.NotCurrent) made (turn_by h t x made (resident_of a t)) (Some (idle_result IdleWhy.NotCurrent t))
      (λ e. resident_tells x made (resident_of a t) there) (λ e. idle_tells IdleWhy.NotCurrent made)

  pub turn_tells : (a : ℕ) (made : Option Made) → IsPresent (resident_of a t) → TellsMove (turn_ask h t a) made (tile_turn h t a made)
  turn_tells a made there = at_tells a made there t.current
