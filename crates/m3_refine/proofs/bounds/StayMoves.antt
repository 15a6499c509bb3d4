-- Each step makes at most one Do move, and at the opening none was made: so no stay has made more than the journal has entries.
use Rattle.std.proofs.Common.{◌≡◌, ℕ, ◌+◌, ◌≤◌, Bool, true, false, List, [], ◌∷◌, map, Option, Some, None, refl, sym, subst, arith}
use Rattle.std.specs.Prelude.{if◌then◌else◌, ◌==◌}
use Rattle.m3_base.specs.declared.command.Command.{Command}
use Rattle.m3_base.specs.declared.event.Event.{Event}
use Rattle.m3_base.specs.declared.event.IdleWhy.{IdleWhy}
use Rattle.m3_base.specs.declared.event.Made.{Made}
use Rattle.m3_base.specs.declared.event.Said.{Said}
use Rattle.m3_base.specs.declared.packet.Packet.{Packet}
use Rattle.m3_base.specs.declared.setup_line.SetupLine.{SetupLine}
use Rattle.m3_base.specs.Ideal.Arrival.{Arrival}
use Rattle.m3_base.specs.Ideal.Context.{Context}
use Rattle.m3_base.specs.Ideal.Issue.{Issued, issue}
use Rattle.m3_base.specs.Ideal.Opening.{opening}
use Rattle.m3_base.specs.Ideal.State.{State, context_of, same_act}
use Rattle.m3_base.specs.Lists.EachElement.{Each}
use Rattle.m3_base.specs.Placement.Routing.{target}
use Rattle.m3_base.specs.Placement.Take.{is_here}
use Rattle.m3_merge.proofs.MergedIsRun.{each_append, each_map}
use Rattle.m3_model.specs.Config.FromSetup.{site_of}
use Rattle.m3_model.specs.Config.Site.{Home, Site}
use Rattle.m3_model.specs.LocalStep.{LocalResult, dropped_result, heard_in_answer, idle_result, local_result}
use Rattle.m3_model.specs.Machine.{Machine, MachineResult, Part, Kernel_part, Memory_part, Tile_part, context_or_new, done_by, empty_tile, entry_at_opening, machine_step, of_turn, opened_machine, parcel_taken, part_at, part_step, tile_at, tile_for_event, with_entries, with_parcel, with_parcels, with_part, without_front}
use Rattle.m3_model.specs.Parcel.{Heard, Parcel, Data, Save, Saved, Restore, Yield, Closed}
use Rattle.m3_model.specs.StayMoves.{HasFewMoves, StaysAreShort}
use Rattle.m3_model.specs.Tile.State.{Awake, Resident, Tile}
use Rattle.m3_model.specs.Tile.Step.{act_in, after_restore, arrive_named, bounced, do_at, do_issued, has_ended, heard_by, is_waiting_resident, may_return, resident_act, resident_after_answers, resident_at_restore, resident_of, seen_of_reply, take_arrived, take_here, take_restore, take_save, tile_take, tile_turn, with_current, with_resident, yield_out_of}
use Rattle.m3_refine.proofs.events.turn.TurnResults.{HoldsInCases, each_turn}
use Rattle.m3_refine.proofs.lists.EachElement.{InSome, each_found, each_read, each_replaced, each_write}
use Rattle.m3_refine.proofs.opening.OpensRefines.{first_machine}
use Rattle.m3_refine.proofs.bounds.SameParts.{parts_with_parcels, parts_without_front}

few_more : (n : ℕ) (t : Tile) → HasFewMoves n t → HasFewMoves (n + 1) t
few_more n t l = each_map (λ (y : Resident). y.moves ≤ n) (λ y. y.moves ≤ n + 1) (λ y k. omega (arith, k)) t.stays l

-- ---- a tile

module _ (h : Site) (n : ℕ) (t : Tile) (few : HasFewMoves n t) where
  abbrev Keeps : LocalResult Tile → Type 0
  Keeps d = HasFewMoves (n + 1) d.part

  more : HasFewMoves (n + 1) t
  more = few_more n t few

  one_of : (b : Bool) (x y : LocalResult Tile) → Keeps x → Keeps y → Keeps (if b then x else y)
  one_of true x y k l = k
  one_of false x y k l = l

  -- a resident of the tile, and one more in its place
  its_moves : (a : ℕ) (y : Resident) → resident_of a t ≡ Some y → y.moves ≤ n
  its_moves a y e = subst (InSome (λ (z : Resident). z.moves ≤ n)) e (each_found (λ z. z.moves ≤ n) resident_act same_act a t.stays few)

  replaced : (z : Resident) (c : Option Context) → z.moves ≤ n + 1 → HasFewMoves (n + 1) (with_resident z (with_current c t))
  replaced z c k = each_replaced (λ (y : Resident). y.moves ≤ n + 1) resident_act same_act z t.stays more k

  issued_keeps : (o : Option Issued) → Keeps (do_issued h t o)
  issued_keeps None = more
  issued_keeps (Some i) = more

  do_keeps : (a : ℕ) (c : Command) (o : Option Context) → Keeps (do_at h t a c o)
  do_keeps a c None = more
  do_keeps a c (Some x) = one_of (x.act == a) (do_issued h t (issue x c)) (idle_result IdleWhy.NotCurrent t) (issued_keeps (issue x c)) more

  heard_keeps : (a : ℕ) (xs : List Heard) (c : Option Context) (o : Option Resident) → resident_of a t ≡ o → HasFewMoves (n + 1) (heard_by xs (with_current c t) o)
  heard_keeps a xs c None e = more
  heard_keeps a xs c (Some y) e = replaced (resident_after_answers xs y) c (let k = its_moves a y e in omega (arith, k))

  arrived_keeps : (p : Packet) (o : Option Arrival) → Keeps (take_arrived h t p o)
  arrived_keeps p None = more
  arrived_keeps p (Some r) = heard_keeps r.context.act (heard_in_answer p) (Some r.context) (resident_of r.context.act t) refl

  here_keeps : (p : Packet) (o : Option Context) → Keeps (take_here h t p o)
  here_keeps p None = more
  here_keeps p (Some x) = arrived_keeps p (arrive_named h x p)

  bounced_keeps : (p : Packet) (o : Option ℕ) → Keeps (bounced t p o)
  bounced_keeps p None = more
  bounced_keeps p (Some a) = more

  save_keeps : (a : ℕ) (o : Option Context) → Keeps (take_save t a o)
  save_keeps a None = more
  save_keeps a (Some x) =
      one_of (x.act == a) (local_result (Said.Saving a) (with_current None t) ((0, Saved x.act x (is_waiting_resident x (resident_of a t)) (has_ended (resident_of a t))) ∷ [])) (dropped_result t) more more

  restored_keeps : (c : Context) (xs : List Heard) (o : Option Resident) → Keeps (after_restore t c xs o)
  restored_keeps c xs None = more
  restored_keeps c xs (Some y) = replaced (resident_at_restore xs y) (Some c) (omega arith)

  restore_keeps : (a : ℕ) (c : Context) (xs : List Heard) (o : Option Context) → Keeps (take_restore h t a c xs o)
  restore_keeps a c xs (Some y) = more
  restore_keeps a c xs None = one_of (may_return h a c) (after_restore t c xs (resident_of c.act t)) (dropped_result t) (restored_keeps c xs (resident_of c.act t)) more

  take_keeps : (q : Parcel) → Keeps (tile_take h t q)
  take_keeps (Data p) = one_of (is_here (target p) (act_in t.current)) (take_here h t p t.current) (bounced t p (target p)) (here_keeps p t.current) (bounced_keeps p (target p))
  take_keeps (Save a) = save_keeps a t.current
  take_keeps (Restore a c xs) = restore_keeps a c xs t.current
  take_keeps (Saved a c w e) = more
  take_keeps (Yield a) = more
  take_keeps (Closed g) = more

  yield_moves : (z : Resident) → (yield_out_of z).moves ≡ z.moves
  yield_moves z = by_sent z.yield_sent
    where
      by_sent : (b : Bool) → (if b then z else record z { yield_sent = true }).moves ≡ z.moves
      by_sent true = refl
      by_sent false = refl

  turn_cases : (a : ℕ) → HoldsInCases h t a (λ d. HasFewMoves (n + 1) d.part)
  turn_cases a = record {
    idle = λ why e. more;
    issued = λ x y c i e f is. replaced (record y { moves = y.moves + 1; seen = seen_of_reply i.told }) (Some i.context) (let k = its_moves a y f in omega (arith, k));
    awake = λ ep y f. replaced (record y { pending = None; seen = Awake }) t.current (let k = its_moves a y f in omega (arith, k));
    yields = λ made said y z f same e. replaced (yield_out_of z) t.current (let k = its_moves a y f in let s = yield_moves z in omega (arith, k, same, s));
  }

-- ---- a step

module _ (h : Site) (n : ℕ) where
  abbrev OfPart : ℕ → Part → Type 0
  OfPart k (Kernel_part x) = Unit {0}
  OfPart k (Memory_part x) = Unit {0}
  OfPart k (Tile_part t) = HasFewMoves k t

  abbrev OfStep : Option (LocalResult Part) → Type 0
  OfStep o = InSome (λ d. OfPart (n + 1) d.part) o

  turned : (o : Option (LocalResult Tile)) → InSome (λ d. HasFewMoves (n + 1) d.part) o → OfStep (of_turn o)
  turned None k = tt
  turned (Some d) k = k

  part_keeps : (x : Part) (e : Event) (made : Option Made) (q : Option Parcel) → OfPart n x → OfStep (part_step h x e made q)
  part_keeps (Kernel_part k) (Event.Take to from) made None l = tt
  part_keeps (Memory_part x) (Event.Take to from) made None l = tt
  part_keeps (Tile_part t) (Event.Take to from) made None l = few_more n t l
  part_keeps (Kernel_part k) (Event.Take to from) made (Some q) l = tt
  part_keeps (Memory_part x) (Event.Take to from) made (Some q) l = tt
  part_keeps (Tile_part t) (Event.Take to from) made (Some q) l = take_keeps h n t l q
  part_keeps (Kernel_part k) (Event.Do a c) made q l = tt
  part_keeps (Memory_part x) (Event.Do a c) made q l = tt
  part_keeps (Tile_part t) (Event.Do a c) made q l = do_keeps h n t l a c t.current
  part_keeps (Kernel_part k) (Event.Turn a) made q l = tt
  part_keeps (Memory_part x) (Event.Turn a) made q l = tt
  part_keeps (Tile_part t) (Event.Turn a) made q l = turned (tile_turn h t a made) (each_turn h t a (λ d. HasFewMoves (n + 1) d.part) (turn_cases h n t l a) made)
  part_keeps (Kernel_part k) (Event.Tend a) made q l = tt
  part_keeps (Memory_part x) (Event.Tend a) made q l = tt
  part_keeps (Tile_part t) (Event.Tend a) made q l = tt
  part_keeps (Kernel_part k) Event.Close made q l = tt
  part_keeps (Memory_part x) Event.Close made q l = tt
  part_keeps (Tile_part t) Event.Close made q l = tt
  part_keeps (Kernel_part k) (Event.Order o) made q l = tt
  part_keeps (Memory_part x) (Event.Order o) made q l = tt
  part_keeps (Tile_part t) (Event.Order o) made q l = tt
  part_keeps (Kernel_part k) (Event.File f) made q l = tt
  part_keeps (Memory_part x) (Event.File f) made q l = tt
  part_keeps (Tile_part t) (Event.File f) made q l = tt

  module _ (m : Machine) (few : StaysAreShort n m) where
    at_tile : (t : ℕ) → OfPart n (part_at t m)
    at_tile t = by_tests (t == 0) (t == 1)
      where
        by_tests : (a b : Bool) → OfPart n (if a then Kernel_part m.kernel else (if b then Memory_part m.memory else Tile_part (tile_at t m)))
        by_tests true b = tt
        by_tests false true = tt
        by_tests false false = each_read (HasFewMoves n) m.tiles t (empty_tile t) few tt

    all_more : StaysAreShort (n + 1) m
    all_more = each_map (HasFewMoves n) (HasFewMoves (n + 1)) (few_more n) m.tiles few

    with_kept : (t : ℕ) (x : Part) (e : Event) → OfPart (n + 1) x → StaysAreShort (n + 1) (with_part t x (without_front e m))
    with_kept t (Kernel_part k) e l = subst (Each (HasFewMoves (n + 1))) (sym (parts_without_front e m).tiles) all_more
    with_kept t (Memory_part x) e l = subst (Each (HasFewMoves (n + 1))) (sym (parts_without_front e m).tiles) all_more
    with_kept t (Tile_part x) e l = each_write (HasFewMoves (n + 1)) (without_front e m).tiles t x (subst (Each (HasFewMoves (n + 1))) (sym (parts_without_front e m).tiles) all_more) l

    done_keeps : (t : ℕ) (e : Event) (o : Option (LocalResult Part)) → OfStep o → (d : MachineResult) → done_by t (without_front e m) o ≡ Some d → StaysAreShort (n + 1) d.machine
    done_keeps t e None k d is = absurd (cc)
    done_keeps t e (Some x) k d is =
        let after = with_part t x.part (without_front e m) in
        let same : record { outcome = x.outcome; machine = with_parcels t x.out after } ≡ d = cc in
        subst (λ (z : MachineResult). StaysAreShort (n + 1) z.machine) same (subst (Each (HasFewMoves (n + 1))) (sym (parts_with_parcels t x.out after).tiles) (with_kept t x.part e k))

    -- each step makes at most one move
    pub stays_kept : (e : Event) (made : Option Made) (d : MachineResult) → machine_step h m e made ≡ Some d → StaysAreShort (n + 1) d.machine
    stays_kept e made d is =
        let t = tile_for_event h e in
        done_keeps t e (part_step h (part_at t m) e made (parcel_taken e m)) (part_keeps (part_at t m) e made (parcel_taken e m) (at_tile t)) d is

-- ---- at the opening

empty_tiles_few : (ns : List ℕ) → Each (HasFewMoves 0) (map empty_tile ns)
empty_tiles_few [] = tt
empty_tiles_few (n ∷ ns) = (tt, empty_tiles_few ns)

entries_few : (s : State) (xs : List Home) (m : Machine) → StaysAreShort 0 m → StaysAreShort 0 (with_entries s m xs)
entries_few s [] m k = k
entries_few s (x ∷ xs) m k =
    let t = tile_at x.tile m in
    let here : HasFewMoves 0 t = each_read (HasFewMoves 0) m.tiles x.tile (empty_tile x.tile) k tt in
    let one = entry_at_opening x (context_or_new x.act (context_of x.act s.contexts)) t m in
    entries_few s xs one (each_write (HasFewMoves 0) m.tiles x.tile _ k (each_append (λ (y : Resident). y.moves ≤ 0) t.stays _ here (omega arith, tt)))

pub stays_at_opening : (memory : ℕ) (programs : List ℕ) (lines : List SetupLine) → StaysAreShort 0 (opened_machine memory programs lines)
stays_at_opening memory programs lines =
    let s = opening memory lines in
    entries_few s (site_of memory programs lines).homes (first_machine s) (empty_tiles_few (0 ∷ 1 ∷ 2 ∷ 3 ∷ 4 ∷ 5 ∷ 6 ∷ 7 ∷ 8 ∷ 9 ∷ 10 ∷ 11 ∷ 12 ∷ 13 ∷ 14 ∷ 15 ∷ []))
