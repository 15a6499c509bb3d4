-- Each turn of a program keeps next numbers and next tokens low.
use Rattle.std.proofs.Common.{ℕ, ◌+◌, Bool, true, false, [], ◌∷◌, Option, Some, None, subst}
use Rattle.std.specs.Prelude.{if◌then◌else◌}
use Rattle.m3_base.specs.declared.event.Event.{Event}
use Rattle.m3_base.specs.declared.event.Made.{Made}
use Rattle.m3_model.specs.Config.Site.{Site}
use Rattle.m3_model.specs.Parcel.{Yield}
use Rattle.m3_model.specs.Tile.State.{Resident, Tile}
use Rattle.m3_model.specs.Tile.Step.{tile_turn, yield_out}
use Rattle.m3_model.specs.LocalStep.{LocalResult}
use Rattle.m3_model.specs.Machine.{Part, Kernel_part, Memory_part, Tile_part, of_tile, of_turn, part_step}
use Rattle.m3_model.specs.NumberBounds.{CountersBoundedIn, TileBounded}
use Rattle.m3_refine.proofs.bounds.RiseByOne.{AllLow, issue_low}
use Rattle.m3_refine.proofs.bounds.BoundsOfParts.{LowDeed, LowMade, LowOut, LowPart, low_in_more, low_new}
use Rattle.m3_refine.proofs.events.turn.TurnResults.{HoldsInCases, each_turn}
use Rattle.m3_refine.proofs.lists.EachElement.{InSome}

yield_low : (n : ℕ) (y : Resident) → LowOut n (yield_out y)
yield_low n y = by_sent y.yield_sent
  where
    by_sent : (b : Bool) → LowOut n (if b then [] else (0, Yield y.act) ∷ [])
    by_sent true = tt
    by_sent false = (tt, tt)

module _ (h : Site) (n : ℕ) (t : Tile) (low : TileBounded n t) where
  cases_low : (a : ℕ) → HoldsInCases h t a (λ d. LowDeed (n + 1) (of_tile d))
  cases_low a = record {
    idle = λ why e. (low_in_more n t.current low, tt);
    issued = λ x y c i e f is. (subst (AllLow (n + 1)) is (issue_low n x c (subst (CountersBoundedIn n) e low)), low_new h (n + 1) i.packet);
    awake = λ ep y f. (low_in_more n t.current low, tt);
    yields = λ made said y z f same e. (low_in_more n t.current low, yield_low (n + 1) z);
  }

  made_low : (o : Option (LocalResult Tile)) → InSome (λ d. LowDeed (n + 1) (of_tile d)) o → LowMade (n + 1) (of_turn o)
  made_low None k = tt
  made_low (Some d) k = k

-- by any part
pub turn_low : (h : Site) (n : ℕ) (x : Part) → LowPart n x → (a : ℕ) (made : Option Made) → LowMade (n + 1) (part_step h x (Event.Turn a) made None)
turn_low h n (Kernel_part k) l a made = tt
turn_low h n (Memory_part x) l a made = tt
turn_low h n (Tile_part t) l a made = made_low h n t l (tile_turn h t a made) (each_turn h t a (λ d. LowDeed (n + 1) (of_tile d)) (cases_low h n t l a) made)
