-- The next take and the lines on tiles are those of the places.
use Rattle.std.proofs.Common.{◌≡◌, ℕ, zero, suc, ◌+◌, ◌-◌, ◌*◌, get_or, List, [], ◌∷◌, Option, None, map, refl, ap, ◌∙◌}
use Rattle.std.proofs.Math.ListN.{get_or-map}
use Rattle.m3_base.specs.declared.event.Event.{Event}
use Rattle.m3_base.specs.Placement.State.{LinkToken}
use Rattle.m3_base.specs.declared.journal.AuditLine.{AuditLine}
use Rattle.m3_base.specs.Journal.Audit as audit
use Rattle.m3_base.specs.Placement.Driver as driver
use Rattle.m3_base.specs.Placement.Driver.{tiles, first_for, first_some}
use Rattle.m3_model.specs.Config.Site.{Site}
use Rattle.m3_model.specs.Machine.{Machine}
use Rattle.m3_model.specs.Abstraction.{link_token, placement_of, current_act}
use Rattle.m3_trace.specs.DriverOfMachine.{take_if, take_on, next_take_at, next_take_on, next_take, tile_lines, tile_lines_from}

pub first_same : (f g : ℕ → Option Event) → ((t : ℕ) → f t ≡ g t) → (ts : List ℕ) → first_for ts f ≡ first_for ts g
first_same f g same [] = refl
first_same f g same (t ∷ ts) =
    ap (λ o. first_some (o ∷ first_for ts f ∷ [])) (same t) ∙ ap (λ o. first_some (g t ∷ o ∷ [])) (first_same f g same ts)

-- what parcels are is no matter to who takes next
module _ {X Y : Type 0} (p : X → Y) where
  take_mapped : (to from : ℕ) (ps : List X) → take_if to from (map p ps) ≡ take_if to from ps
  take_mapped to from [] = refl
  take_mapped to from (x ∷ ps) = refl

  on_mapped : (links : List (List X)) (to from : ℕ) → take_on (map (λ ps. map p ps) links) to from ≡ take_on links to from
  on_mapped links to from =
      ap (take_if to from) (get_or-map (λ (ps : List X). map p ps) links (16 * from + to) []) ∙ take_mapped to from (get_or links (16 * from + to) [])

  at_mapped : (links : List (List X)) (to : ℕ) → next_take_at (map (λ ps. map p ps) links) to ≡ next_take_at links to
  unfolding next_take_at
  at_mapped links to = first_same (take_on (map (λ ps. map p ps) links) to) (take_on links to) (on_mapped links to) tiles

  pub next_mapped : (links : List (List X)) → next_take_on (map (λ ps. map p ps) links) ≡ next_take_on links
  unfolding next_take_on
  next_mapped links = first_same (next_take_at (map (λ ps. map p ps) links)) (next_take_at links) (at_mapped links) tiles

driver_if : (to from : ℕ) (ts : List LinkToken) → driver.take_if to from ts ≡ take_if to from ts
driver_if to from [] = refl
driver_if to from (t ∷ ts) = refl

driver_at : (links : List (List LinkToken)) (to : ℕ) → first_for tiles (λ from. driver.take_if to from (get_or links (16 * from + to) [])) ≡ next_take_at links to
unfolding next_take_at
driver_at links to =
    first_same (λ from. driver.take_if to from (get_or links (16 * from + to) [])) (take_on links to) (λ from. driver_if to from (get_or links (16 * from + to) [])) tiles

driver_on : (links : List (List LinkToken)) → first_for tiles (λ to. first_for tiles (λ from. driver.take_if to from (get_or links (16 * from + to) []))) ≡ next_take_on links
unfolding next_take_on
driver_on links =
    first_same (λ to. first_for tiles (λ from. driver.take_if to from (get_or links (16 * from + to) []))) (next_take_at links) (driver_at links) tiles

-- the driver of the whole system takes the same
pub next_is_driver : (h : Site) (m : Machine) → driver.next_take (placement_of h m) ≡ next_take m
next_is_driver h m = driver_on (map (λ xs. map link_token xs) m.links) ∙ next_mapped link_token m.links

tile_lines_same : (t n : ℕ) (h : Site) (m : Machine) → audit.tile_lines_from t n (placement_of h m) ≡ tile_lines_from t n (map current_act m.tiles)
tile_lines_same t zero h m = refl
tile_lines_same t (suc n) h m = ap (λ ls. AuditLine.Tile t (get_or (map current_act m.tiles) t None) ∷ ls) (tile_lines_same (t + 1) n h m)

-- the lines on tiles are those of the places
pub tile_lines_are : (count : ℕ) (h : Site) (m : Machine) → audit.tile_lines count (placement_of h m) ≡ tile_lines count m.tiles
tile_lines_are count h m = tile_lines_same 2 (count - 2) h m
