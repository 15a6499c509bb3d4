-- The table that finds the stays of a tile by their activities' numbers.
use Rattle.std.specs.Prelude.{◌≡◌, ℕ, suc, ◌<◌, ◌==◌, List, [], ◌∷◌, length, option_map, slice_index_or, slice_set, Option, Some, None, if◌then◌else◌}
use Rattle.m3_model.specs.Tile.State.{Resident}

-- the place of the first stay of this activity
abbrev pub first_place : ℕ → List Resident → Option ℕ
first_place a [] = None
first_place a (y ∷ ys) = if y.act == a then Some 0 else option_map (λ i. suc i) (first_place a ys)

-- the table has the place of each activity's stay
pub record ArePlaces (ys : List Resident) (places : List (Option ℕ)) : Type 0 where
  pub count : length places ≡ 64
  pub same : (a : ℕ) → a < 64 → slice_index_or places a None ≡ first_place a ys

abbrev pub place_if_none : Option ℕ → ℕ → ℕ → List (Option ℕ) → List (Option ℕ)
place_if_none None a at places = slice_set places a (Some at)
place_if_none (Some i) a at places = places

-- the table with a stay of the activity at this place; the first of an activity stands
abbrev pub with_place : ℕ → ℕ → List (Option ℕ) → List (Option ℕ)
with_place a at places = place_if_none (slice_index_or places a None) a at places
