-- A program makes its turn, with whatever move: the whole event.
use Rattle.std.proofs.Common.{◌≡◌, ℕ, suc, ◌+◌, ◌<◌, ◌≤◌, Bool, true, false, cond, List, [], ◌∷◌, filter, length, map, Option, Some, None, refl, sym, subst, ◌∙◌, ap, arith}
use Rattle.std.specs.Prelude.{◌==◌, not, ◌&&◌, is_some, nat_le}
use Rattle.std.proofs.lemmas.Bool.Decides.{nat_tests}
use Rattle.m3_base.specs.declared.event.Event.{Event}
use Rattle.m3_base.specs.declared.event.IdleWhy.{IdleWhy}
use Rattle.m3_base.specs.declared.event.Made.{Made}
use Rattle.m3_base.specs.declared.event.Said.{Said}
use Rattle.m3_base.specs.Ideal.Context.{Context, endpoint}
use Rattle.m3_base.specs.Ideal.Issue.{issue}
use Rattle.m3_base.specs.Ideal.State.{State, context_of, is_number}
use Rattle.m3_base.specs.Ideal.Step.{has_unread, ideal_run}
use Rattle.m3_base.specs.declared.step.Step.{Step}
use Rattle.m3_base.specs.Placement.Command.{command_by}
use Rattle.m3_base.specs.Placement.Landing as places_landing
use Rattle.m3_base.specs.Placement.Landing.{PlacementResult}
use Rattle.m3_base.specs.Placement.State as places_state
use Rattle.m3_base.specs.Placement.State.{Placement, PlacedActivity, actor, is_current}
use Rattle.m3_base.specs.Placement.Take.{has_unread_at}
use Rattle.m3_base.specs.Placement.Turn as places_turn
use Rattle.m3_base.specs.Placement.Turn.{is_repeat}
use Rattle.m3_model.specs.Config.KnownActivities.{is_home}
use Rattle.m3_model.specs.Config.Site.{Home, Site, home_of, is_shared, tile_in, tile_of}
use Rattle.m3_model.specs.LocalStep.{idle_result, LocalResult}
use Rattle.m3_model.specs.Tile.State.{Awake, Resident, Tile}
use Rattle.m3_model.specs.Tile.Step.{act_in, is_due, is_waiting, resident_of, turn_at, turn_await, turn_by, turn_issued, turn_made, turn_move, turn_quantum, yield_result}
use Rattle.m3_model.specs.Kernel.Step.{entry_of}
use Rattle.m3_model.specs.Machine.{Machine, tile_at, done_by, machine_step, of_turn, part_at, part_step}
use Rattle.m3_model.specs.Abstraction.{ideal_of, actor_in, actor_by, placement_of}
use Rattle.m3_model.specs.Invariant.IdealFacts.{IdealFacts}
use Rattle.m3_model.specs.Invariant.Structure.{MachineStructure}
use Rattle.m3_model.specs.Refinement.{Refines}
use Rattle.m3_refine.proofs.abstraction.ChangeResident.{current_activity}
use Rattle.m3_refine.proofs.abstraction.FindActor.{find_actor, same_unread}
use Rattle.m3_refine.proofs.arrival.CurrentContext.{current_found, stay_key}
use Rattle.m3_refine.proofs.events.HomeTile.{home_range, home_in_tiles, home_part, home_current}
use Rattle.m3_refine.proofs.events.take.RouteRefines.{KnownActivity, known_activity}
use Rattle.m3_refine.proofs.events.turn.TurnCommand.{command_matches}
use Rattle.m3_refine.proofs.events.turn.TurnMatches.{Matches, either, idle_matches, matching_refines, stay_matches, yield_matches}
use Rattle.m3_refine.proofs.opening.HomesAndContexts.{some_there}

-- the places count the activities of a tile as the setup does
homes_there : (m : Machine) (t : ℕ) (xs : List Home) → length (filter (λ (x : PlacedActivity). x.home == t) (map (actor_in m) xs)) ≡ length (filter (λ (x : Home). x.tile == t) xs)
homes_there m t [] = refl
homes_there m t (x ∷ xs) = by_test (x.tile == t) (homes_there m t xs)
  where
    by_test : (b : Bool) → length (filter (λ (x : PlacedActivity). x.home == t) (map (actor_in m) xs)) ≡ length (filter (λ (x : Home). x.tile == t) xs)
        → length (cond b (actor_in m x ∷ filter (λ (x : PlacedActivity). x.home == t) (map (actor_in m) xs)) (filter (λ (x : PlacedActivity). x.home == t) (map (actor_in m) xs)))
        ≡ length (cond b (x ∷ filter (λ (x : Home). x.tile == t) xs) (filter (λ (x : Home). x.tile == t) xs))
    by_test true r = ap (λ n. suc n) r
    by_test false r = r

-- ---- the activity is current

module _ (h : Site) (m : Machine) (c : Context) (sound : MachineStructure h m) (hyp : IdealFacts m) (known : is_home h c.act ≡ true) (here : (tile_at (tile_of h c.act) m).current ≡ Some c)
    (y : Resident) (found : resident_of c.act (tile_at (tile_of h c.act) m) ≡ Some y) where
  abbrev t : ℕ
  t = tile_of h c.act

  abbrev tile_now : Tile
  tile_now = tile_at (tile_of h c.act) m

  range : (2 ≤ tile_of h c.act) × (tile_of h c.act < 16)
  range = home_range h m c.act sound known

  low : 1 ≤ tile_of h c.act
  low = let l = range.0 in omega arith

  act : y.act ≡ c.act
  act = stay_key c.act (tile_at t m).stays y found

  abbrev pub its : KnownActivity h m c.act
  its = current_activity h m t sound c here

  its_tile : its.home.tile ≡ t
  its_tile = sym (ap tile_in its.found)

  abbrev s : State
  s = ideal_of m

  abbrev p : Placement
  p = placement_of h m

  -- the activity as the places have it
  abbrev pub x : PlacedActivity
  x = actor_by its.home (entry_of its.home.act m.kernel) (Some y)

  pub actor_is : actor c.act p ≡ Some x
  actor_is =
      find_actor m c.act h.homes its.home its.found
      ∙ ap (λ o. Some (actor_by its.home (entry_of its.home.act m.kernel) o))
      (ap (λ a. resident_of a (tile_at its.home.tile m)) its.key ∙ ap (λ u. resident_of c.act (tile_at u m)) its_tile ∙ found)

  pub context_is : context_of its.home.act s.contexts ≡ Some c
  context_is = ap (λ a. context_of a s.contexts) its.key ∙ current_found m t (home_in_tiles h m c.act sound known) c here sound

  current_is : is_current its.home.act p ≡ true
  current_is =
      ap (λ a. is_current a p) its.key ∙ home_current h m c.act sound known (Some c) here
      ∙ (let k : (c.act == c.act) ≡ true = grind (arith, nat_tests) in k)

  pub waiting_is : places_turn.is_waiting_turn s x ≡ y.yield_sent && is_waiting c y
  waiting_is =
      ap (λ o. y.yield_sent && (is_some y.pending && not (has_unread_at o y.pending))) context_is
      ∙ ap (λ b. y.yield_sent && (is_some y.pending && not b)) (same_unread c y.pending)

  due_is : places_turn.is_due_quantum p x ≡ is_due h tile_now y
  due_is =
      let tile : tile_now.tile ≡ t = sound.housed.tiles t range.1 in
      ap (λ n. not y.yield_sent && (nat_le 2 n && (y.moves == h.quantum))) (homes_there m its.home.tile h.homes)
      ∙ ap (λ u. not y.yield_sent && (is_shared u h.homes && (y.moves == h.quantum))) (its_tile ∙ sym tile)

  -- ---- an await that finds a message, and one that doesn't

  await_matches : (ep : ℕ) (b : Bool) → Matches h m t (Some (turn_await tile_now y ep b)) (places_turn.await_turn s p x ep b)
  await_matches ep true = stay_matches h m t low range.1 sound c here y found (Made.Await ep) Said.Awake (record y { pending = None; seen = Awake }) act
  await_matches ep false =
      yield_matches h m t low range.1 sound c here y found (Made.Await ep) (cond y.yield_sent Said.Asleep Said.Yield) (record y { pending = Some ep }) act

  -- ---- the program's move, where its quantum isn't used up

  move_matches : (length c.flying == 0) ≡ true → (made : Made) → Matches h m t (turn_move h tile_now c y made) (places_turn.turn_move s p x made)
  move_matches idle (Made.Command k) =
      either h m t (is_some y.pending) None (Some (turn_issued h tile_now y (Made.Command k) (issue c k))) None
      (command_by s (places_state.with_actor (record x { moves = x.moves + 1 }) p) x.act (ideal_run (Step.Issue x.act k ∷ []) s)) (λ e. tt) (λ e. command_matches h m c sound hyp known here y found act k idle)
  move_matches idle (Made.Await ep) =
      subst (λ o. Matches h m t (turn_move h tile_now c y (Made.Await ep)) (cond (is_repeat y.pending ep) (places_turn.await_turn s p x ep (has_unread_at o (Some ep))) None)) (sym context_is) (
      either h m t (is_repeat y.pending ep) (Some (turn_await tile_now y ep (has_unread (endpoint c ep)))) None (places_turn.await_turn s p x ep (has_unread (endpoint c ep))) None (λ e. await_matches ep (has_unread (endpoint c ep))) (λ e. tt)
      )
  move_matches idle Made.Quantum = tt
  move_matches idle Made.End =
      either h m t (is_some y.pending) None (Some (yield_result Made.End Said.Ended tile_now (record y { ended = true }))) None (places_landing.step_outcome Said.Ended s (places_turn.yield_once (record x { ended = true }) p)) (λ e. tt)
      (λ e. yield_matches h m t low range.1 sound c here y found Made.End Said.Ended (record y { ended = true }) act)

  quantum_matches : (made : Made) → Matches h m t (turn_quantum tile_now y made) (places_turn.quantum_turn s p x made)
  quantum_matches Made.Quantum = yield_matches h m t low range.1 sound c here y found Made.Quantum Said.Yield y act
  quantum_matches (Made.Command k) = tt
  quantum_matches (Made.Await ep) = tt
  quantum_matches Made.End = tt

  made_matches : (length c.flying == 0) ≡ true → (made : Option Made) → Matches h m t (turn_made h tile_now c y made) (places_turn.turn_made s p x made)
  made_matches idle None = tt
  made_matches idle (Some k) =
      subst (λ b. Matches h m t (turn_made h tile_now c y (Some k)) (cond b (places_turn.quantum_turn s p x k) (places_turn.turn_move s p x k))) (sym due_is) (
      either h m t (is_due h tile_now y) (turn_quantum tile_now y k) (turn_move h tile_now c y k) (places_turn.quantum_turn s p x k) (places_turn.turn_move s p x k) (λ e. quantum_matches k) (λ e. move_matches idle k)
      )

  -- ---- the whole

  -- with what the places ask told as the tile asks it
  abbrev places_do : Option Made → Option PlacementResult
  places_do made =
      cond y.ended (places_landing.idle_outcome IdleWhy.Ended s p) (
      cond (not (length c.flying == 0)) (places_landing.idle_outcome IdleWhy.Busy s p)
      (cond (y.yield_sent && is_waiting c y) (places_landing.idle_outcome IdleWhy.Waiting s p) (places_turn.turn_made s p x made))
      )

  places_are : (made : Option Made) → places_turn.turn_of s p made (actor c.act p) ≡ places_do made
  places_are made =
      ap (places_turn.turn_of s p made) actor_is
      ∙ ap (λ b. cond (not b) (places_landing.idle_outcome IdleWhy.NotCurrent s p) (after (places_turn.busy_any (context_of its.home.act s.contexts)) (places_turn.is_waiting_turn s x))) current_is
      ∙ ap (λ o. after (places_turn.busy_any o) (places_turn.is_waiting_turn s x)) context_is
      ∙ ap (after (not (length c.flying == 0))) waiting_is
    where
      after : Bool → Bool → Option PlacementResult
      after busy waits =
          cond y.ended (places_landing.idle_outcome IdleWhy.Ended s p)
          (cond busy (places_landing.idle_outcome IdleWhy.Busy s p) (cond waits (places_landing.idle_outcome IdleWhy.Waiting s p) (places_turn.turn_made s p x made)))

  turn_matches : (made : Option Made) → Matches h m t (turn_by h tile_now c made (Some y)) (places_do made)
  turn_matches made =
      either h m t y.ended (Some (idle_result IdleWhy.Ended tile_now)) (busy_then made) (places_landing.idle_outcome IdleWhy.Ended s p) (places_busy made) (λ e. idle_matches h m t sound IdleWhy.Ended)
      (λ e. either h m t (not (length c.flying == 0)) (Some (idle_result IdleWhy.Busy tile_now)) (waits_then made) (places_landing.idle_outcome IdleWhy.Busy s p) (places_wait made) (λ e. idle_matches h m t sound IdleWhy.Busy)
      (λ e. either h m t (y.yield_sent && is_waiting c y) (Some (idle_result IdleWhy.Waiting tile_now)) (turn_made h tile_now c y made) (places_landing.idle_outcome IdleWhy.Waiting s p) (places_turn.turn_made s p x made) (λ f. idle_matches h m t sound IdleWhy.Waiting)
      (λ f. made_matches (grind (arith, e)) made)))
    where
      waits_then : Option Made → Option (LocalResult Tile)
      waits_then made = cond (y.yield_sent && is_waiting c y) (Some (idle_result IdleWhy.Waiting tile_now)) (turn_made h tile_now c y made)

      busy_then : Option Made → Option (LocalResult Tile)
      busy_then made = cond (not (length c.flying == 0)) (Some (idle_result IdleWhy.Busy tile_now)) (waits_then made)

      places_wait : Option Made → Option PlacementResult
      places_wait made = cond (y.yield_sent && is_waiting c y) (places_landing.idle_outcome IdleWhy.Waiting s p) (places_turn.turn_made s p x made)

      places_busy : Option Made → Option PlacementResult
      places_busy made = cond (not (length c.flying == 0)) (places_landing.idle_outcome IdleWhy.Busy s p) (places_wait made)

-- ---- the event

-- an activity that the setup doesn't declare has no tile, and the kernel makes no turn
pub undeclared_turn : (h : Site) (m : Machine) (a : ℕ) (made : Option Made) → home_of a h ≡ None → machine_step h m (Event.Turn a) made ≡ None
undeclared_turn h m a made e = ap (λ o. done_by (tile_in o) m (part_step h (part_at (tile_in o) m) (Event.Turn a) made None)) e

module _ (h : Site) (m : Machine) (a : ℕ) (made : Option Made) (sound : MachineStructure h m) (hyp : IdealFacts m) where
  module _ (known : is_home h a ≡ true) where
    turn_is : (o : Option Context) → (tile_at (tile_of h a) m).current ≡ o → machine_step h m (Event.Turn a) made ≡ done_by (tile_of h a) m (of_turn (turn_at h (tile_at (tile_of h a) m) a made o))
    turn_is o e =
        ap (λ z. done_by (tile_of h a) m (part_step h z (Event.Turn a) made None)) (home_part h m a sound known)
        ∙ ap (λ z. done_by (tile_of h a) m (of_turn (turn_at h (tile_at (tile_of h a) m) a made z))) e

    -- somebody else is current, or nobody
    away : (o : Option Context) → (tile_at (tile_of h a) m).current ≡ o → is_number a (act_in o) ≡ false
        → turn_at h (tile_at (tile_of h a) m) a made o ≡ Some (idle_result IdleWhy.NotCurrent (tile_at (tile_of h a) m)) → Refines h m (Event.Turn a) made (machine_step h m (Event.Turn a) made)
    away o e other tile =
        let its = known_activity h m a sound known in
        let p = placement_of h m in
        let not_current : is_current its.home.act p ≡ false = ap (λ n. is_current n p) its.key ∙ home_current h m a sound known o e ∙ other in
        matching_refines h m (tile_of h a) (Event.Turn a) made (Some (idle_result IdleWhy.NotCurrent (tile_at (tile_of h a) m))) (places_landing.idle_outcome IdleWhy.NotCurrent (ideal_of m) p)
        (turn_is o e ∙ ap (λ z. done_by (tile_of h a) m (of_turn z)) tile)
        (ap (places_turn.turn_of (ideal_of m) p made) (find_actor m a h.homes its.home its.found)
        ∙ ap (λ b. cond (not b) (places_landing.idle_outcome IdleWhy.NotCurrent (ideal_of m) p) (rest (actor_in m its.home))) not_current)
        (idle_matches h m (tile_of h a) sound IdleWhy.NotCurrent)
      where
        rest : PlacedActivity → Option PlacementResult
        rest x =
            let s = ideal_of m in
            let p = placement_of h m in
            cond x.ended (places_landing.idle_outcome IdleWhy.Ended s p) (
            cond (places_turn.busy_any (context_of x.act s.contexts)) (places_landing.idle_outcome IdleWhy.Busy s p)
            (cond (places_turn.is_waiting_turn s x) (places_landing.idle_outcome IdleWhy.Waiting s p) (places_turn.turn_made s p x made))
            )

    by_current : (o : Option Context) → (tile_at (tile_of h a) m).current ≡ o → Refines h m (Event.Turn a) made (machine_step h m (Event.Turn a) made)
    by_current None e = away None e refl refl
    by_current (Some c) e = by_test (c.act == a) refl
      where
        by_test : (b : Bool) → (c.act == a) ≡ b → Refines h m (Event.Turn a) made (machine_step h m (Event.Turn a) made)
        by_test false d =
            away (Some c) e d (ap (λ b. cond b (turn_by h (tile_at (tile_of h a) m) c made (resident_of a (tile_at (tile_of h a) m))) (Some (idle_result IdleWhy.NotCurrent (tile_at (tile_of h a) m)))) d)
        by_test true d =
            let same : a ≡ c.act = grind (arith, nat_tests, d) in
            let here : (tile_at (tile_of h c.act) m).current ≡ Some c = subst (λ n. (tile_at (tile_of h n) m).current ≡ Some c) same e in
            let its : is_home h c.act ≡ true = subst (λ n. is_home h n ≡ true) same known in
            let y = some_there (resident_of c.act (tile_at (tile_of h c.act) m)) (sound.housed.stays c.act its) in
            matching_refines h m (tile_of h a) (Event.Turn a) made (turn_by h (tile_at (tile_of h a) m) c made (resident_of a (tile_at (tile_of h a) m))) (places_do h m c sound hyp its here y.0 y.1 made)
            (turn_is (Some c) e ∙ ap (λ b. done_by (tile_of h a) m (of_turn (cond b (turn_by h (tile_at (tile_of h a) m) c made (resident_of a (tile_at (tile_of h a) m))) (Some (idle_result IdleWhy.NotCurrent (tile_at (tile_of h a) m)))))) d)
            (ap (λ n. places_turn.turn_of (ideal_of m) (placement_of h m) made (actor n (placement_of h m))) same ∙ places_are h m c sound hyp its here y.0 y.1 made)
            (subst (λ n. Matches h m (tile_of h n) (turn_by h (tile_at (tile_of h n) m) c made (resident_of n (tile_at (tile_of h n) m))) (places_do h m c sound hyp its here y.0 y.1 made)) (sym same) (
            subst (λ o. Matches h m (tile_of h c.act) (turn_by h (tile_at (tile_of h c.act) m) c made o) (places_do h m c sound hyp its here y.0 y.1 made)) (sym y.1) (turn_matches h m c sound hyp its here y.0 y.1 made)
            ))

  pub turn_refines : Refines h m (Event.Turn a) made (machine_step h m (Event.Turn a) made)
  turn_refines = by_test (is_home h a) refl
    where
      by_test : (b : Bool) → is_home h a ≡ b → Refines h m (Event.Turn a) made (machine_step h m (Event.Turn a) made)
      by_test true known = by_current known (tile_at (tile_of h a) m).current refl
      by_test false k = subst (Refines h m (Event.Turn a) made) (sym (undeclared_turn h m a made (absent (home_of a h) k))) tt
        where
          absent : (o : Option Home) → is_some o ≡ false → o ≡ None
          absent None e = refl
          absent (Some x) e = absurd (cc)
