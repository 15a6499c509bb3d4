-- The turn of a tile, by what it asks for.
use Rattle.std.proofs.Common.{◌≡◌, ℕ, Bool, true, false, List, length, set, get_or, Option, Some, None, refl, sym, ap, ◌∙◌, subst, arith}
use Rattle.std.specs.Prelude.{if◌then◌else◌, ◌==◌, ◌&&◌, not, is_some}
use Rattle.std.proofs.lemmas.Bool.Decides.{nat_tests}
use Rattle.m3_base.specs.declared.event.IdleWhy.{IdleWhy}
use Rattle.m3_base.specs.declared.event.Event.{Event}
use Rattle.m3_base.specs.declared.event.Made.{Made}
use Rattle.m3_base.specs.Ideal.Context.{Context}
use Rattle.m3_base.specs.Placement.Turn.{is_repeat}
use Rattle.m3_model.specs.Config.Site.{Site, has_program}
use Rattle.m3_model.specs.Invariant.Housing.{IsPresent}
use Rattle.m3_model.specs.LocalStep.{LocalResult, idle_result}
use Rattle.m3_model.specs.Tile.Ask.{Ask, Idle_turn, Quantum_turn, Program_turn, answers_ask, ask_by, ask_pending, ask_at, turn_ask}
use Rattle.m3_model.specs.Tile.State.{Resident, Seen, Tile}
use Rattle.m3_model.specs.Tile.Step.{is_due, is_waiting, resident_of, tile_turn, turn_at, turn_by, turn_move, turn_quantum, with_current, with_resident}
use Rattle.m3_trace.specs.DriverOfMachine as driver
use Rattle.m3_engine.specs.NextEvent.{turn_of}
use Rattle.m3_engine.specs.StayView.{IsStayAt, stay_in, with_stay}
use Rattle.m3_engine.specs.TileStepView.{Does}
use Rattle.m3_engine.specs.ShownSeen.{shown_seen}
use Rattle.m3_engine.specs.TurnView.{TurnDoes, ask_kind, can_move_in, made_result, shown_to}
use Rattle.m3_engine.specs.declared.ask.Ask.{Ask as AskKind}
use Rattle.m3_engine.specs.declared.tile.TileDid.{TileDid}
use Rattle.m3_engine.proofs.StayPlace.{read_stay, read_act}

-- this move of this stay is what the turn is
pub record IsTurn (h : Site) (t : Tile) (a : ℕ) (made : Made) : Type 0 where
  pub context : Context
  pub stay : Resident
  pub current : t.current ≡ Some context
  pub found : resident_of a t ≡ Some stay
  pub idle : length context.flying ≡ 0
  pub step : tile_turn h t a (Some made) ≡ Some (made_result h t context stay made)

-- the turn is idle for this reason
pub record IsIdleTurn (h : Site) (t : Tile) (a : ℕ) : Type 0 where
  pub why : IdleWhy
  pub asked : ask_kind (turn_ask h t a) ≡ AskKind.Idle why
  pub step : tile_turn h t a None ≡ Some (idle_result why t)

module _ (h : Site) (t : Tile) (a : ℕ) (x : Context) where
  module _ (y : Resident) where
    -- the same by their tests
    abbrev asks : Bool → Bool → Bool → Bool → Option ℕ → Ask
    asks ended still asleep due pending =
        if ended then Idle_turn IdleWhy.Ended else (if not still then Idle_turn IdleWhy.Busy else (if asleep then Idle_turn IdleWhy.Waiting else (if due then Quantum_turn else ask_pending y pending)))

    abbrev moves : Bool → Made → Option (LocalResult Tile)
    moves due m = if due then turn_quantum t y m else turn_move h t x y m

    abbrev turns : Bool → Bool → Bool → Option (LocalResult Tile) → Option (LocalResult Tile)
    turns ended still asleep made =
        if ended then Some (idle_result IdleWhy.Ended t) else (if not still then Some (idle_result IdleWhy.Busy t) else (if asleep then Some (idle_result IdleWhy.Waiting t) else made))

    due_move : (made : Made) → answers_ask Quantum_turn (Some made) ≡ true → moves true made ≡ Some (made_result h t x y made)
    due_move Made.Quantum e = refl
    due_move (Made.Command c) e = absurd (cc)
    due_move (Made.Await ep) e = absurd (cc)
    due_move Made.End e = absurd (cc)

    pending_move : (made : Made) (o : Option ℕ) → y.pending ≡ o → answers_ask (ask_pending y o) (Some made) ≡ true → moves false made ≡ Some (made_result h t x y made)
    pending_move Made.Quantum None p e = absurd (cc)
    pending_move Made.Quantum (Some ep) p e = absurd (cc)
    pending_move (Made.Command c) None p e = ap (λ o. if is_some o then None else Some (made_result h t x y (Made.Command c))) p
    pending_move (Made.Command c) (Some ep) p e = absurd (cc)
    pending_move (Made.Await ep) None p e = ap (λ o. if is_repeat o ep then Some (made_result h t x y (Made.Await ep)) else None) p
    pending_move (Made.Await ep) (Some k) p e =
        ap (λ o. if is_repeat o ep then Some (made_result h t x y (Made.Await ep)) else None) p
        ∙ ap (λ b. if b then Some (made_result h t x y (Made.Await ep)) else None) e
    pending_move Made.End None p e = ap (λ o. if is_some o then None else Some (made_result h t x y Made.End)) p
    pending_move Made.End (Some ep) p e = absurd (cc)

    turn_tests : (made : Made) (ended still asleep due : Bool) → answers_ask (asks ended still asleep due y.pending) (Some made) ≡ true
        → (turns ended still asleep (moves due made) ≡ Some (made_result h t x y made)) × (still ≡ true)
    turn_tests made true still asleep due e = absurd (cc)
    turn_tests made false false asleep due e = absurd (cc)
    turn_tests made false true true due e = absurd (cc)
    turn_tests made false true false true e = (due_move made e, refl)
    turn_tests made false true false false e = (pending_move made y.pending refl e, refl)

    idle_tests : (ended still asleep due : Bool) → answers_ask (asks ended still asleep due y.pending) None ≡ true
        → (why : IdleWhy) × (ask_kind (asks ended still asleep due y.pending) ≡ AskKind.Idle why) × (turns ended still asleep None ≡ Some (idle_result why t))
    idle_tests true still asleep due e = (IdleWhy.Ended, refl, refl)
    idle_tests false false asleep due e = (IdleWhy.Busy, refl, refl)
    idle_tests false true true due e = (IdleWhy.Waiting, refl, refl)
    idle_tests false true false true e = absurd (cc)
    idle_tests false true false false e = absurd (no_idle y.pending e)
      where
        no_idle : (o : Option ℕ) → answers_ask (ask_pending y o) None ≡ true → ⊥
        no_idle None e = cc
        no_idle (Some ep) e = cc

    -- who is asked sees what its stay has
    asked_tests : (value : Seen) (ended still asleep due : Bool) (o : Option ℕ) → asks ended still asleep due o ≡ Program_turn value → y.seen ≡ value
    asked_tests value true still asleep due o e = absurd (cc)
    asked_tests value false false asleep due o e = absurd (cc)
    asked_tests value false true true due o e = absurd (cc)
    asked_tests value false true false true o e = absurd (cc)
    asked_tests value false true false false None e = cc
    asked_tests value false true false false (Some ep) e = absurd (cc)

  none_flies : {X : Type 0} (xs : List X) → (length xs == 0) ≡ true → length xs ≡ 0
  none_flies xs e = grind (arith, nat_tests, e)

  turn_found : (made : Made) (o : Option Resident) → t.current ≡ Some x → resident_of a t ≡ o → IsPresent o → answers_ask (ask_by h t x o) (Some made) ≡ true
      → tile_turn h t a (Some made) ≡ turn_by h t x (Some made) o → IsTurn h t a made
  turn_found made None current is here e step = absurd here
  turn_found made (Some y) current is here e step =
      let w = turn_tests y made y.ended (length x.flying == 0) (y.yield_sent && is_waiting x y) (is_due h t y) e in
      record { context = x; stay = y; current = current; found = is; idle = none_flies x.flying w.1; step = step ∙ w.0 }

  idle_found : (o : Option Resident) → IsPresent o → answers_ask (ask_by h t x o) None ≡ true → turn_ask h t a ≡ ask_by h t x o
      → tile_turn h t a None ≡ turn_by h t x None o → IsIdleTurn h t a
  idle_found None here e ask step = absurd here
  idle_found (Some y) here e ask step =
      let w = idle_tests y y.ended (length x.flying == 0) (y.yield_sent && is_waiting x y) (is_due h t y) e in
      record { why = w.0; asked = ap ask_kind ask ∙ w.1; step = step ∙ w.2 }

module _ (h : Site) (t : Tile) (a : ℕ) where
  asked_at : (o : Option Context) (b : Context → Bool) → Option Context → Ask
  asked_at o b None = Idle_turn IdleWhy.NotCurrent
  asked_at o b (Some x) = if b x then ask_by h t x (resident_of a t) else Idle_turn IdleWhy.NotCurrent

  pub turn_is : (made : Made) → IsPresent (resident_of a t) → answers_ask (turn_ask h t a) (Some made) ≡ true → IsTurn h t a made
  turn_is made here e = by_current t.current refl e
    where
      by_act : (x : Context) (b : Bool) → t.current ≡ Some x → (x.act == a) ≡ b → answers_ask (if b then ask_by h t x (resident_of a t) else Idle_turn IdleWhy.NotCurrent) (Some made) ≡ true → IsTurn h t a made
      by_act x false current act e = absurd (cc)
      by_act x true current act e =
          turn_found h t a x made (resident_of a t) current refl here e (
          ap (turn_at h t a (Some made)) current ∙ ap (λ b. if b then turn_by h t x (Some made) (resident_of a t) else Some (idle_result IdleWhy.NotCurrent t)) act
          )

      by_current : (o : Option Context) → t.current ≡ o → answers_ask (ask_at h t a o) (Some made) ≡ true → IsTurn h t a made
      by_current None current e = absurd (cc)
      by_current (Some x) current e = by_act x (x.act == a) current refl e

  pub idle_is : IsPresent (resident_of a t) → answers_ask (turn_ask h t a) None ≡ true → IsIdleTurn h t a
  idle_is here e = by_current t.current refl e
    where
      by_act : (x : Context) (b : Bool) → t.current ≡ Some x → (x.act == a) ≡ b → answers_ask (if b then ask_by h t x (resident_of a t) else Idle_turn IdleWhy.NotCurrent) None ≡ true → IsIdleTurn h t a
      by_act x false current act e = record {
        why = IdleWhy.NotCurrent;
        asked = ap (λ o. ask_kind (ask_at h t a o)) current ∙ ap (λ b. ask_kind (if b then ask_by h t x (resident_of a t) else Idle_turn IdleWhy.NotCurrent)) act;
        step = ap (turn_at h t a None) current ∙ ap (λ b. if b then turn_by h t x None (resident_of a t) else Some (idle_result IdleWhy.NotCurrent t)) act;
      }
      by_act x true current act e =
          idle_found h t a x (resident_of a t) here e
          (ap (ask_at h t a) current ∙ ap (λ b. if b then ask_by h t x (resident_of a t) else Idle_turn IdleWhy.NotCurrent) act)
          (ap (turn_at h t a None) current ∙ ap (λ b. if b then turn_by h t x None (resident_of a t) else Some (idle_result IdleWhy.NotCurrent t)) act)

      by_current : (o : Option Context) → t.current ≡ o → answers_ask (ask_at h t a o) None ≡ true → IsIdleTurn h t a
      by_current None current e = record { why = IdleWhy.NotCurrent; asked = ap (λ o. ask_kind (ask_at h t a o)) current; step = ap (turn_at h t a None) current }
      by_current (Some x) current e = by_act x (x.act == a) current refl e

  -- a program that is asked sees what its stay has
  pub asked_seen : (value : Seen) → turn_ask h t a ≡ Program_turn value → shown_to (resident_of a t) ≡ shown_seen value
  asked_seen value e = by_current t.current e
    where
      by_stay : (x : Context) (o : Option Resident) → ask_by h t x o ≡ Program_turn value → shown_to o ≡ shown_seen value
      by_stay x None e = absurd (cc)
      by_stay x (Some y) e = ap shown_seen (asked_tests h t a x y value y.ended (length x.flying == 0) (y.yield_sent && is_waiting x y) (is_due h t y) y.pending e)

      by_act : (x : Context) (b : Bool) → (if b then ask_by h t x (resident_of a t) else Idle_turn IdleWhy.NotCurrent) ≡ Program_turn value → shown_to (resident_of a t) ≡ shown_seen value
      by_act x false e = absurd (cc)
      by_act x true e = by_stay x (resident_of a t) e

      by_current : (o : Option Context) → ask_at h t a o ≡ Program_turn value → shown_to (resident_of a t) ≡ shown_seen value
      by_current None e = absurd (cc)
      by_current (Some x) e = by_act x (x.act == a) e

-- ---- the tile after it

-- a stay's move is its tile's
pub moves_there : (h : Site) (ys : List Resident) (a at : ℕ) (x new : Context) (read now : Resident) (made : Made) (d : TileDid) → IsStayAt ys a at → read ≡ get_or ys at read → now.act ≡ read.act
    → ((u : Tile) → u.current ≡ Some x → Does d (with_resident now (with_current (Some new) u)) (made_result h u x read made))
    → (t : Tile) (y : Resident) → t.current ≡ Some x → t.stays ≡ ys → stay_in a ys ≡ Some y → Does d (record t { current = Some new; stays = set ys at now }) (made_result h t x y made)
moves_there h ys a at x new read now made d place e act does t y current stays found =
    let same : read ≡ y = same_stay read y (sym (read_stay ys a at read place e) ∙ found) in
    let set_there : with_stay now t.stays ≡ set ys at now = ap (with_stay now) stays ∙ place.set now (act ∙ read_act ys a at read place e) in
    subst (λ (zs : List Resident). Does d (record t { current = Some new; stays = zs }) (made_result h t x y made)) set_there (
    subst (λ (z : Resident). Does d (with_resident now (with_current (Some new) t)) (made_result h t x z made)) same (does t current)
    )
  where
    same_stay : (b c : Resident) → Some b ≡ Some c → b ≡ c
    same_stay b c w = cc

pub turns_there : (h : Site) (t : Tile) (a : ℕ) (x new : Context) (after : List Resident) (made : Made) (d : TileDid) → IsTurn h t a made → t.current ≡ Some x
    → ((u : Tile) (y : Resident) → u.current ≡ Some x → u.stays ≡ t.stays → stay_in a t.stays ≡ Some y → Does d (record u { current = Some new; stays = after }) (made_result h u x y made))
    → TurnDoes d (record t { current = Some new; stays = after }) (tile_turn h t a (Some made))
turns_there h t a x new after made d is current does =
    let context : is.context ≡ x = same_context is.context x (sym is.current ∙ current) in
    let step : tile_turn h t a (Some made) ≡ Some (made_result h t x is.stay made) = is.step ∙ (λ i. Some (made_result h t (context i) is.stay made)) in
    subst (TurnDoes d (record t { current = Some new; stays = after })) (sym step) (does t is.stay current refl is.found)
  where
    same_context : (b c : Context) → Some b ≡ Some c → b ≡ c
    same_context b c w = cc

pub present_stay : (o : Option Resident) → IsPresent o → o ≡ None → ⊥
present_stay None here e = here
present_stay (Some y) here e = cc

-- ---- the driver's turn

turn_if : (h : Site) (x : Context) (o : Option Resident) → driver.turn_by h x o ≡ (if has_program h x.act && can_move_in x o then Some (Event.Turn x.act) else None)
turn_if h x (Some y) = refl
turn_if h x None = sym (by_test (has_program h x.act))
  where
    by_test : (b : Bool) → (if b && false then Some (Event.Turn x.act) else None) ≡ None
    by_test true = refl
    by_test false = refl

pub turns_if : (h : Site) (t : Tile) (x : Context) (b c : Bool) → t.current ≡ Some x → has_program h x.act ≡ b → can_move_in x (resident_of x.act t) ≡ c → turn_of h t ≡ (if b && c then Some (Event.Turn x.act) else None)
turns_if h t x b c current program move =
    ap (λ o. driver.turn_at h t o) current ∙ turn_if h x (resident_of x.act t) ∙ (λ i. if program i && move i then Some (Event.Turn x.act) else None)

pub turns_none : (h : Site) (t : Tile) → t.current ≡ None → turn_of h t ≡ None
turns_none h t none = ap (λ o. driver.turn_at h t o) none
