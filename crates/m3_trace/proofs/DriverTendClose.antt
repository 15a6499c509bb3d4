-- The tend and the close that a machine does next are those of the places.
use Rattle.std.proofs.Common.{◌≡◌, cond, List, [], ◌∷◌, length, map, Some, refl, sym, ap, ◌∙◌}
use Rattle.std.specs.Prelude.{not, ◌&&◌, ◌||◌, ◌==◌}
use Rattle.m3_base.specs.Placement.State as places_state
use Rattle.m3_base.specs.Placement.Driver as driver
use Rattle.m3_base.specs.Placement.Driver.{least_of}
use Rattle.m3_model.specs.Config.Site.{Home, Site}
use Rattle.m3_model.specs.Kernel.State.{ActivityEntry}
use Rattle.m3_model.specs.Kernel.Step.{is_placed_entry, is_leaving_entry}
use Rattle.m3_model.specs.Machine.{Machine}
use Rattle.m3_model.specs.Abstraction.{actor_in, placement_of}
use Rattle.m3_model.specs.Kernel.Driver.{can_tend, least_tend}
use Rattle.m3_model.specs.Invariant.Structure.{MachineStructure}
use Rattle.m3_refine.proofs.abstraction.EntriesMatchActors.{SeatOf, AreSeats, are_seats, actor_place, actor_hold, length-names, placed_same, leaving_same}

module _ (h : Site) (m : Machine) where
  tend_one : (x : ActivityEntry) (y : Home) → SeatOf h m.kernel x y → driver.can_tend (actor_in m y) ≡ can_tend x
  tend_one x y s =
      ap (λ w. not (places_state.is_placed w || places_state.is_leaving w) && not (length (actor_in m y).hold == 0)) (actor_place h m x y s)
      ∙ (λ i. not (placed_same x.seating i || leaving_same x.seating i) && not (length (actor_hold h m x y s i) == 0))
      ∙ ap (λ n. not (is_placed_entry x.seating || is_leaving_entry x.seating) && not (n == 0)) (length-names h m x y s)

  tend_along : (xs : List ActivityEntry) (ys : List Home) → AreSeats h m.kernel xs ys → driver.least_tend (map (actor_in m) ys) ≡ least_tend xs
  tend_along [] [] a = refl
  tend_along (x ∷ xs) (y ∷ ys) a =
      (λ i. cond (tend_one x y a.0 i) (Some (least_of (tend_along xs ys a.1 i) (sym a.0.act i))) (tend_along xs ys a.1 i))
  tend_along [] (y ∷ ys) a = absurd a
  tend_along (x ∷ xs) [] a = absurd a

  -- the least activity that can be tended
  pub tend_same : MachineStructure h m → driver.least_tend (placement_of h m).actors ≡ least_tend m.kernel.seats
  tend_same sound = tend_along m.kernel.seats h.homes (are_seats h m.kernel sound.housed.seats sound.setup.homes)
