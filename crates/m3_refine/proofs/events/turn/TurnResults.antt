-- What a turn gives, in all its cases: what holds of each holds of the turn's step. And its step is made with the move that
-- its outcome has: an idle turn is idle whatever the program would do.
use Rattle.std.proofs.Common.{◌≡◌, ℕ, ◌+◌, Bool, true, false, [], length, Option, Some, None, refl, subst, ◌∙◌, ap, arith, ◌⊎◌, inl, inr}
use Rattle.std.specs.Prelude.{if◌then◌else◌, ◌==◌, ◌&&◌, not, is_some}
use Rattle.m3_base.specs.declared.command.Command.{Command}
use Rattle.m3_base.specs.declared.event.IdleWhy.{IdleWhy}
use Rattle.m3_base.specs.declared.event.Made.{Made}
use Rattle.m3_base.specs.declared.event.Said.{Said}
use Rattle.m3_base.specs.Ideal.Context.{Context, endpoint}
use Rattle.m3_base.specs.Ideal.Issue.{Issued, flies_always, is_busy, issue}
use Rattle.m3_base.specs.Ideal.Step.{has_unread}
use Rattle.m3_base.specs.Journal.Entry.{shown_told}
use Rattle.m3_base.specs.Journal.OutcomeForms.{allows_for_turn}
use Rattle.m3_base.specs.Placement.Turn.{is_repeat}
use Rattle.m3_model.specs.Config.Site.{Site}
use Rattle.m3_model.specs.LocalStep.{LocalResult, idle_result, local_result_made}
use Rattle.m3_model.specs.Tile.State.{Awake, Resident, Tile}
use Rattle.m3_model.specs.Tile.Step.{is_due, is_waiting, new_out, resident_of, seen_of_reply, tile_turn, turn_at, turn_await, turn_by, turn_issued, turn_made, turn_move, turn_quantum, with_current, with_resident, yield_result}
use Rattle.m3_refine.proofs.events.command.Issue.{WaitsIf, issue_waits}
use Rattle.m3_refine.proofs.events.turn.TurnCommand.{idle_issues}
use Rattle.m3_refine.proofs.lists.EachElement.{InSome}

-- ---- what holds in each case

-- y: the activity as its tile has it before
pub record HoldsInCases (h : Site) (t : Tile) (a : ℕ) (P : LocalResult Tile → Type 0) : Type 0 where
  pub idle : (why : IdleWhy) → allows_for_turn None (Said.Idle why) ≡ true → P (idle_result why t)
  pub issued : (x : Context) (y : Resident) (c : Command) (i : Issued) → t.current ≡ Some x → resident_of a t ≡ Some y → issue x c ≡ Some i
      → P (local_result_made (Made.Command c) (shown_told i.told) (with_resident (record y { moves = y.moves + 1; seen = seen_of_reply i.told }) (with_current (Some i.context) t)) (new_out h i.packet))
  pub awake : (ep : ℕ) (y : Resident) → resident_of a t ≡ Some y → P (local_result_made (Made.Await ep) Said.Awake (with_resident (record y { pending = None; seen = Awake }) t) [])
  pub yields : (made : Made) (said : Said) (y z : Resident) → resident_of a t ≡ Some y → z.moves ≡ y.moves → allows_for_turn (Some made) said ≡ true → P (yield_result made said t z)

module _ (h : Site) (t : Tile) (a : ℕ) (P : LocalResult Tile → Type 0) (cases : HoldsInCases h t a P) where
  one_of : (b : Bool) (x y : Option (LocalResult Tile)) → InSome P x → InSome P y → InSome P (if b then x else y)
  one_of true x y k l = k
  one_of false x y k l = l

  module _ (x : Context) (e : t.current ≡ Some x) where
    module _ (y : Resident) (found : resident_of a t ≡ Some y) where
      issued_holds : (c : Command) (o : Option Issued) → issue x c ≡ o → P (turn_issued h t y (Made.Command c) o)
      issued_holds c None is = cases.idle IdleWhy.Busy refl
      issued_holds c (Some i) is = cases.issued x y c i e found is

      await_holds : (ep : ℕ) (b : Bool) → P (turn_await t y ep b)
      await_holds ep true = cases.awake ep y found
      await_holds ep false = by_sent y.yield_sent
        where
          by_sent : (b : Bool) → P (yield_result (Made.Await ep) (if b then Said.Asleep else Said.Yield) t (record y { pending = Some ep }))
          by_sent true = cases.yields (Made.Await ep) Said.Asleep y (record y { pending = Some ep }) found refl refl
          by_sent false = cases.yields (Made.Await ep) Said.Yield y (record y { pending = Some ep }) found refl refl

      move_holds : (made : Made) → InSome P (turn_move h t x y made)
      move_holds (Made.Command c) = one_of (is_some y.pending) None (Some (turn_issued h t y (Made.Command c) (issue x c))) tt (issued_holds c (issue x c) refl)
      move_holds (Made.Await ep) = one_of (is_repeat y.pending ep) (Some (turn_await t y ep (has_unread (endpoint x ep)))) None (await_holds ep (has_unread (endpoint x ep))) tt
      move_holds Made.Quantum = tt
      move_holds Made.End =
          one_of (is_some y.pending) None (Some (yield_result Made.End Said.Ended t (record y { ended = true }))) tt (cases.yields Made.End Said.Ended y (record y { ended = true }) found refl refl)

      quantum_holds : (made : Made) → InSome P (turn_quantum t y made)
      quantum_holds Made.Quantum = cases.yields Made.Quantum Said.Yield y y found refl refl
      quantum_holds (Made.Command c) = tt
      quantum_holds (Made.Await ep) = tt
      quantum_holds Made.End = tt

      made_holds : (made : Option Made) → InSome P (turn_made h t x y made)
      made_holds None = tt
      made_holds (Some k) = one_of (is_due h t y) (turn_quantum t y k) (turn_move h t x y k) (quantum_holds k) (move_holds k)

    by_holds : (made : Option Made) (o : Option Resident) → resident_of a t ≡ o → InSome P (turn_by h t x made o)
    by_holds made None f = tt
    by_holds made (Some y) f =
        let waiting = if y.yield_sent && is_waiting x y then Some (idle_result IdleWhy.Waiting t) else turn_made h t x y made in
        let busy = if not (length x.flying == 0) then Some (idle_result IdleWhy.Busy t) else waiting in
        one_of y.ended (Some (idle_result IdleWhy.Ended t)) busy (cases.idle IdleWhy.Ended refl)
        (one_of (not (length x.flying == 0)) (Some (idle_result IdleWhy.Busy t)) waiting (cases.idle IdleWhy.Busy refl)
        (one_of (y.yield_sent && is_waiting x y) (Some (idle_result IdleWhy.Waiting t)) (turn_made h t x y made) (cases.idle IdleWhy.Waiting refl) (made_holds y f made)))

  at_holds : (made : Option Made) (o : Option Context) → t.current ≡ o → InSome P (turn_at h t a made o)
  at_holds made None e = cases.idle IdleWhy.NotCurrent refl
  at_holds made (Some x) e =
      one_of (x.act == a) (turn_by h t x made (resident_of a t)) (Some (idle_result IdleWhy.NotCurrent t)) (by_holds x e made (resident_of a t) refl) (cases.idle IdleWhy.NotCurrent refl)

  pub each_turn : (made : Option Made) → InSome P (tile_turn h t a made)
  each_turn made = at_holds made t.current refl

-- ---- the move that the outcome has

-- a step with this move has it in its outcome, or it is the step with none
abbrev HasOwnMove : Option Made → Option (LocalResult Tile) → Option (LocalResult Tile) → Type 0
HasOwnMove made None idle = Unit {0}
HasOwnMove made (Some d) idle = (d.outcome.made ≡ made) ⊎ ((d.outcome.made ≡ None) × (idle ≡ Some d))

module _ (made : Option Made) where
  own_if : (b : Bool) (x y v w : Option (LocalResult Tile)) → (b ≡ true → HasOwnMove made x v) → (b ≡ false → HasOwnMove made y w) → HasOwnMove made (if b then x else y) (if b then v else w)
  own_if true x y v w f g = f refl
  own_if false x y v w f g = g refl

  or_none : (b : Bool) (x y : Option (LocalResult Tile)) → HasOwnMove made x None → HasOwnMove made y None → HasOwnMove made (if b then x else y) None
  or_none true x y k l = k
  or_none false x y k l = l

module _ (h : Site) (t : Tile) where
  issued_own : (y : Resident) (c : Command) (x : Context) (o : Option Issued) → WaitsIf (flies_always c && is_busy x) o → (length x.flying == 0) ≡ true → HasOwnMove (Some (Made.Command c)) (Some (turn_issued h t y (Made.Command c) o)) None
  issued_own y c x None w e = absurd (let k = idle_issues x c e in cc)
  issued_own y c x (Some i) w e = inl refl

  await_own : (y : Resident) (ep : ℕ) (b : Bool) → HasOwnMove (Some (Made.Await ep)) (Some (turn_await t y ep b)) None
  await_own y ep true = inl refl
  await_own y ep false = inl refl

  move_own : (x : Context) (y : Resident) (k : Made) → (length x.flying == 0) ≡ true → HasOwnMove (Some k) (turn_move h t x y k) None
  move_own x y (Made.Command c) e =
      or_none (Some (Made.Command c)) (is_some y.pending) None (Some (turn_issued h t y (Made.Command c) (issue x c))) tt (issued_own y c x (issue x c) (issue_waits x c) e)
  move_own x y (Made.Await ep) e =
      or_none (Some (Made.Await ep)) (is_repeat y.pending ep) (Some (turn_await t y ep (has_unread (endpoint x ep)))) None (await_own y ep (has_unread (endpoint x ep))) tt
  move_own x y Made.Quantum e = tt
  move_own x y Made.End e = or_none (Some Made.End) (is_some y.pending) None (Some (yield_result Made.End Said.Ended t (record y { ended = true }))) tt (inl refl)

  quantum_own : (y : Resident) (k : Made) → HasOwnMove (Some k) (turn_quantum t y k) None
  quantum_own y Made.Quantum = inl refl
  quantum_own y (Made.Command c) = tt
  quantum_own y (Made.Await ep) = tt
  quantum_own y Made.End = tt

  made_own : (x : Context) (y : Resident) (made : Option Made) → (length x.flying == 0) ≡ true → HasOwnMove made (turn_made h t x y made) None
  made_own x y None e = tt
  made_own x y (Some k) e = or_none (Some k) (is_due h t y) (turn_quantum t y k) (turn_move h t x y k) (quantum_own y k) (move_own x y k e)

  by_own : (x : Context) (made : Option Made) (o : Option Resident) → HasOwnMove made (turn_by h t x made o) (turn_by h t x None o)
  by_own x made None = tt
  by_own x made (Some y) =
      let waiting : Option Made → Option (LocalResult Tile) = (λ k. if y.yield_sent && is_waiting x y then Some (idle_result IdleWhy.Waiting t) else turn_made h t x y k) in
      let busy : Option Made → Option (LocalResult Tile) = (λ k. if not (length x.flying == 0) then Some (idle_result IdleWhy.Busy t) else waiting k) in
      own_if made y.ended (Some (idle_result IdleWhy.Ended t)) (busy made) (Some (idle_result IdleWhy.Ended t)) (busy None) (λ e. inr (refl, refl))
      (λ e. own_if made (not (length x.flying == 0)) (Some (idle_result IdleWhy.Busy t)) (waiting made) (Some (idle_result IdleWhy.Busy t)) (waiting None) (λ f. inr (refl, refl))
      (λ f. own_if made (y.yield_sent && is_waiting x y) (Some (idle_result IdleWhy.Waiting t)) (turn_made h t x y made) (Some (idle_result IdleWhy.Waiting t)) None (λ g. inr (refl, refl))
      (λ g. made_own x y made (grind (arith, f)))))

  at_own : (a : ℕ) (made : Option Made) (o : Option Context) → HasOwnMove made (turn_at h t a made o) (turn_at h t a None o)
  at_own a made None = inr (refl, refl)
  at_own a made (Some x) =
      own_if made (x.act == a) (turn_by h t x made (resident_of a t)) (Some (idle_result IdleWhy.NotCurrent t)) (turn_by h t x None (resident_of a t)) (Some (idle_result IdleWhy.NotCurrent t))
      (λ e. by_own x made (resident_of a t)) (λ e. inr (refl, refl))

  pub turn_own_move : (a : ℕ) (made : Option Made) (d : LocalResult Tile) → tile_turn h t a made ≡ Some d → tile_turn h t a d.outcome.made ≡ Some d
  turn_own_move a made d is = by_case (subst (λ o. HasOwnMove made o (tile_turn h t a None)) is (at_own a made t.current))
    where
      by_case : HasOwnMove made (Some d) (tile_turn h t a None) → tile_turn h t a d.outcome.made ≡ Some d
      by_case (inl e) = ap (tile_turn h t a) e ∙ is
      by_case (inr e) = ap (tile_turn h t a) e.0 ∙ e.1
