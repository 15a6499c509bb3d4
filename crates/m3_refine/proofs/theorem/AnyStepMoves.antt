-- Any step of the machine, a program's turn among them, is a move of its parts over their links: it is made with the move that
-- its outcome has, and sends to no tile that isn't there.
use Rattle.std.proofs.Common.{◌≡◌, ℕ, ◌<◌, Bool, true, false, [], ◌∷◌, Option, Some, None, refl, sym, subst, ◌∙◌, ap, arith}
use Rattle.std.specs.Prelude.{if◌then◌else◌}
use Rattle.m3_base.specs.declared.event.Event.{Event}
use Rattle.m3_base.specs.declared.event.Made.{Made}
use Rattle.m3_model.specs.Config.Site.{Site, home_of, tile_of}
use Rattle.m3_model.specs.Parcel.{Parcel, Yield}
use Rattle.m3_model.specs.Tile.State.{Resident, Tile}
use Rattle.m3_model.specs.Tile.Step.{tile_turn, yield_out}
use Rattle.m3_model.specs.LocalStep.{LocalResult}
use Rattle.m3_model.specs.LocalMoves.{MovesByEntry}
use Rattle.m3_model.specs.Machine.{Machine, MachineResult, Part, Kernel_part, Memory_part, Tile_part, part_at, with_part, with_parcels, of_tile, of_turn, part_step, tile_for_event, parcel_taken, without_front, done_by, machine_step}
use Rattle.m3_model.specs.Events.{IsWithin}
use Rattle.m3_model.specs.Invariant.Structure.{MachineStructure}
use Rattle.m3_refine.proofs.events.turn.TurnResults.{HoldsInCases, each_turn, turn_own_move}
use Rattle.m3_refine.proofs.lists.EachElement.{InSome}
use Rattle.m3_refine.proofs.theorem.NoProgramMoves.{AreTiles, IsNoTurn, OrdersTile, TameIn, new_low, part_tame}
use Rattle.m3_refine.proofs.theorem.StepIsLocalMove.{event_below, homes_below, item, moves}

-- ---- an event that no program makes

-- whatever move is given
unasked_part : (h : Site) (x : Part) (e : Event) (made : Option Made) (q : Option Parcel) → IsNoTurn e → part_step h x e None q ≡ part_step h x e made q
unasked_part h (Kernel_part k) (Event.Take to from) made (Some q) i = refl
unasked_part h (Memory_part x) (Event.Take to from) made (Some q) i = refl
unasked_part h (Tile_part x) (Event.Take to from) made (Some q) i = refl
unasked_part h (Kernel_part k) (Event.Take to from) made None i = refl
unasked_part h (Memory_part x) (Event.Take to from) made None i = refl
unasked_part h (Tile_part x) (Event.Take to from) made None i = refl
unasked_part h (Kernel_part k) (Event.Do a c) made q i = refl
unasked_part h (Memory_part x) (Event.Do a c) made q i = refl
unasked_part h (Tile_part x) (Event.Do a c) made q i = refl
unasked_part h x (Event.Turn a) made q i = absurd i
unasked_part h (Kernel_part k) (Event.Tend a) made q i = refl
unasked_part h (Memory_part x) (Event.Tend a) made q i = refl
unasked_part h (Tile_part x) (Event.Tend a) made q i = refl
unasked_part h (Kernel_part k) Event.Close made q i = refl
unasked_part h (Memory_part x) Event.Close made q i = refl
unasked_part h (Tile_part x) Event.Close made q i = refl
unasked_part h (Kernel_part k) (Event.Order o) made q i = refl
unasked_part h (Memory_part x) (Event.Order o) made q i = refl
unasked_part h (Tile_part x) (Event.Order o) made q i = refl
unasked_part h (Kernel_part k) (Event.File l) made q i = refl
unasked_part h (Memory_part x) (Event.File l) made q i = refl
unasked_part h (Tile_part x) (Event.File l) made q i = refl

pub unasked_step : (h : Site) (m : Machine) (e : Event) (made : Option Made) → IsNoTurn e → machine_step h m e None ≡ machine_step h m e made
unasked_step h m e made i = ap (done_by (tile_for_event h e) (without_front e m)) (unasked_part h (part_at (tile_for_event h e) m) e made (parcel_taken e m) i)

-- ---- the move that the outcome has

module _ (h : Site) (q : Option Parcel) (made : Option Made) (d : LocalResult Part) where
  other_own_move : (x : Part) (e : Event) → IsNoTurn e → part_step h x e made q ≡ Some d → part_step h x e d.outcome.made q ≡ Some d
  other_own_move x e i is = sym (unasked_part h x e d.outcome.made q i) ∙ unasked_part h x e made q i ∙ is

  turn_own : (x : Tile) (a : ℕ) (o : Option (LocalResult Tile)) → tile_turn h x a made ≡ o → of_turn o ≡ Some d → of_turn (tile_turn h x a d.outcome.made) ≡ Some d
  turn_own x a None e k = absurd (cc)
  turn_own x a (Some z) e k =
      let same : of_tile z ≡ d = cc in
      subst (λ (d : LocalResult Part). of_turn (tile_turn h x a d.outcome.made) ≡ Some d) same (ap of_turn (turn_own_move h x a made z e))

  part_own_move : (x : Part) (e : Event) → part_step h x e made q ≡ Some d → part_step h x e d.outcome.made q ≡ Some d
  part_own_move x (Event.Take to from) is = other_own_move x (Event.Take to from) tt is
  part_own_move x (Event.Do a c) is = other_own_move x (Event.Do a c) tt is
  part_own_move (Kernel_part k) (Event.Turn a) is = is
  part_own_move (Memory_part x) (Event.Turn a) is = is
  part_own_move (Tile_part x) (Event.Turn a) is = turn_own x a (tile_turn h x a made) refl is
  part_own_move x (Event.Tend a) is = other_own_move x (Event.Tend a) tt is
  part_own_move x Event.Close is = other_own_move x Event.Close tt is
  part_own_move x (Event.Order o) is = other_own_move x (Event.Order o) tt is
  part_own_move x (Event.File l) is = other_own_move x (Event.File l) tt is

-- so the machine's step is made with it
pub step_own_move : (h : Site) (m : Machine) (e : Event) (made : Option Made) (d : MachineResult) → machine_step h m e made ≡ Some d → machine_step h m e d.outcome.made ≡ Some d
step_own_move h m e made d is = by_part (part_step h (part_at (tile_for_event h e) m) e made (parcel_taken e m)) refl is
  where
    by_part : (o : Option (LocalResult Part)) → part_step h (part_at (tile_for_event h e) m) e made (parcel_taken e m) ≡ o → done_by (tile_for_event h e) (without_front e m) o ≡ Some d → machine_step h m e d.outcome.made ≡ Some d
    by_part None s k = absurd (cc)
    by_part (Some x) s k =
        let t = tile_for_event h e in
        let same : record { outcome = x.outcome; machine = with_parcels t x.out (with_part t x.part (without_front e m)) } ≡ d = cc in
        subst (λ (d : MachineResult). machine_step h m e d.outcome.made ≡ Some d) same (ap (done_by t (without_front e m)) (part_own_move h (parcel_taken e m) made x (part_at t m) e s))

-- ---- what it sends

module _ (h : Site) (low : (a : ℕ) → tile_of h a < 16) where
  abbrev SendsToTiles : Option (LocalResult Part) → Type 0
  SendsToTiles o = InSome (λ d. AreTiles d.out) o

  tame_sends : (o : Option (LocalResult Part)) → TameIn o → SendsToTiles o
  tame_sends None k = tt
  tame_sends (Some d) k = k.out

  yield_low : (y : Resident) → AreTiles (yield_out y)
  yield_low y = by_sent y.yield_sent
    where
      by_sent : (b : Bool) → AreTiles (if b then [] else (0, Yield y.act) ∷ [])
      by_sent true = tt
      by_sent false = (omega arith, tt)

  turn_sends : (x : Tile) (a : ℕ) (made : Option Made) → SendsToTiles (of_turn (tile_turn h x a made))
  turn_sends x a made = as_part (tile_turn h x a made) (each_turn h x a (λ d. AreTiles d.out) cases made)
    where
      cases : HoldsInCases h x a (λ d. AreTiles d.out)
      cases = record {
        idle = λ why e. tt;
        issued = λ c y k i e f is. new_low h low i.packet;
        awake = λ ep y f. tt;
        yields = λ made said y z f same e. yield_low z;
      }

      as_part : (o : Option (LocalResult Tile)) → InSome (λ d. AreTiles d.out) o → SendsToTiles (of_turn o)
      as_part None k = tt
      as_part (Some d) k = k

  pub part_sends : (x : Part) (e : Event) (made : Option Made) (q : Option Parcel) → OrdersTile e → SendsToTiles (part_step h x e made q)
  part_sends x (Event.Take to from) made q high = tame_sends (part_step h x (Event.Take to from) made q) (part_tame h low x (Event.Take to from) made q tt high)
  part_sends x (Event.Do a c) made q high = tame_sends (part_step h x (Event.Do a c) made q) (part_tame h low x (Event.Do a c) made q tt high)
  part_sends (Kernel_part k) (Event.Turn a) made q high = tt
  part_sends (Memory_part x) (Event.Turn a) made q high = tt
  part_sends (Tile_part x) (Event.Turn a) made q high = turn_sends x a made
  part_sends x (Event.Tend a) made q high = tame_sends (part_step h x (Event.Tend a) made q) (part_tame h low x (Event.Tend a) made q tt high)
  part_sends x Event.Close made q high = tame_sends (part_step h x Event.Close made q) (part_tame h low x Event.Close made q tt high)
  part_sends x (Event.Order o) made q high = tame_sends (part_step h x (Event.Order o) made q) (part_tame h low x (Event.Order o) made q tt high)
  part_sends x (Event.File l) made q high = tame_sends (part_step h x (Event.File l) made q) (part_tame h low x (Event.File l) made q tt high)

-- ---- the machine's step

module _ (h : Site) (m : Machine) (e : Event) (made : Option Made) (sound : MachineStructure h m) (within : IsWithin e) (high : OrdersTile e) where
  by_deed : (o : Option (LocalResult Part)) → part_step h (part_at (tile_for_event h e) m) e made (parcel_taken e m) ≡ o → InSome (λ d. AreTiles d.out) o → (d : MachineResult) → done_by (tile_for_event h e) (without_front e m) o ≡ Some d
      → MovesByEntry h m (record { event = e; outcome = d.outcome }) d.machine
  by_deed None step sends d done = absurd (cc)
  by_deed (Some x) step sends d done =
      let did : record { outcome = x.outcome; machine = with_parcels (tile_for_event h e) x.out (with_part (tile_for_event h e) x.part (without_front e m)) } ≡ d = cc in
      subst (λ (z : MachineResult). MovesByEntry h m (record { event = e; outcome = z.outcome }) z.machine) did (
      record {
        item = item h m e x;
        is = refl;
        moves = moves h m e x sound.tiles sound.links (event_below h (homes_below h sound.setup) e within) within sends (part_own_move h (parcel_taken e m) made x (part_at (tile_for_event h e) m) e step);
      }
      )

  pub any_step_moves : (d : MachineResult) → machine_step h m e made ≡ Some d → MovesByEntry h m (record { event = e; outcome = d.outcome }) d.machine
  any_step_moves d step = by_deed (part_step h (part_at (tile_for_event h e) m) e made (parcel_taken e m)) refl (part_sends h (homes_below h sound.setup) (part_at (tile_for_event h e) m) e made (parcel_taken e m) high) d step
