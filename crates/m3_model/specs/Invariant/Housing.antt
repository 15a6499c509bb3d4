-- The setup, and what stays at its place: entries, tiles and residents.
use Rattle.std.specs.Prelude.{◌≡◌, ℕ, ◌<◌, ◌≤◌, true, List, [], map, slice_index_or, Option, Some, None}
use Rattle.m3_base.specs.Ideal.Context.{Context}
use Rattle.m3_model.specs.Config.Site.{Home, Site, tile_of, home_of, home_act}
use Rattle.m3_model.specs.Tile.State.{Resident, Tile}
use Rattle.m3_model.specs.Config.KnownActivities.{is_home}
use Rattle.m3_model.specs.Tile.Step.{resident_of}
use Rattle.m3_model.specs.Kernel.Step.{entry_act}
use Rattle.m3_model.specs.Machine.{Machine, empty_tile, tile_at}
use Rattle.m3_model.specs.Invariant.Distinct.{DistinctHomes}

pub record IsSetup (h : Site) : Type 0 where
  -- each activity is declared once
  pub homes : DistinctHomes h.homes
  -- at a tile from 2 on
  pub tiles : (a : ℕ) (y : Home) → home_of a h ≡ Some y → (2 ≤ y.tile) × (y.tile < 16)

-- ---- what stays at its place: seats, tiles and who is at home there

abbrev pub IsPresent : {X : Type 0} → Option X → Type 0
IsPresent None = ⊥
IsPresent (Some x) = Unit {0}

-- this activity has its home at that tile
abbrev pub HasHome : Site → ℕ → ℕ → Type 0
HasHome h t a = (y : Home) × (home_of a h ≡ Some y) × (y.tile ≡ t)

-- an activity as its home tile has it
abbrev pub resident_at : Site → List Tile → ℕ → Option Resident
resident_at h ts a = resident_of a (slice_index_or ts (tile_of h a) (empty_tile (tile_of h a)))

pub record Housing (h : Site) (m : Machine) : Type 0 where
  -- the kernel has a seat for each activity, in the order of the setup
  pub seats : map entry_act m.kernel.seats ≡ map home_act h.homes
  pub tiles : (t : ℕ) → t < 16 → (tile_at t m).tile ≡ t
  pub stays : (a : ℕ) → is_home h a ≡ true → IsPresent (resident_at h m.tiles a)
  pub current : (t : ℕ) (c : Context) → (tile_at t m).current ≡ Some c → HasHome h t c.act
