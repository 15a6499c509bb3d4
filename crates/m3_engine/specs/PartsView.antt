-- The parts of a machine as contracts see them, and what one of them did.
use Rattle.std.specs.Prelude.{◌≡◌, ℕ, ◌≤◌, ◌++◌, true, List, [], length, map, Option, Some}
use Rattle.m3_base.specs.declared.event.Event.{Event}
use Rattle.m3_model.specs.Config.KnownActivities.{is_home}
use Rattle.m3_model.specs.Config.Site.{Site, home_act, tile_of}
use Rattle.m3_model.specs.Invariant.Housing.{IsPresent, resident_at}
use Rattle.m3_model.specs.Kernel.State.{Kernel}
use Rattle.m3_model.specs.Kernel.Step.{entry_act}
use Rattle.m3_model.specs.KernelNumber.{HasLowKernel}
use Rattle.m3_model.specs.Parcel.{Parcel}
use Rattle.m3_model.specs.Tile.Ask.{Ask, turn_ask}
use Rattle.m3_model.specs.Tile.State.{Resident, Tile}
use Rattle.m3_model.specs.Tile.Step.{resident_of}
use Rattle.m3_model.specs.LocalStep.{LocalResult}
use Rattle.m3_model.specs.NumberBounds.{CountersBounded}
use Rattle.m3_model.specs.StayMoves.{StaysAreShort}
use Rattle.m3_model.specs.Machine.{Machine, Part, part_at, tile_at, with_part}
use Rattle.m3_kernel.specs.ParcelView.{out_of}
use Rattle.m3_kernel.specs.declared.done.Done.{Done}
use Rattle.m3_engine.specs.TileView.{AreAtSite, tiles_of}
use Rattle.m3_engine.specs.declared.parts.Parts.{Parts as CodeParts}

pub record Parts : Type 0 where
  pub site : Site
  pub kernel : Kernel
  pub memory : List ℕ
  pub tiles : List Tile

abbrev pub parts_of : CodeParts → Parts
parts_of p = record { site = p.kernel.site; kernel = p.kernel.kernel; memory = p.memory.memory; tiles = tiles_of p.tiles.items }

-- there is a part for each of the 16 tiles, and each part's site is the kernel's
pub record HasParts (p : CodeParts) : Type 0 where
  pub count : length p.tiles.items ≡ 16
  pub memory : p.memory.site ≡ p.kernel.site
  pub tiles : AreAtSite p.kernel.site p.tiles.items

-- a machine of these parts and these links
abbrev pub linked : List (List Parcel) → Parts → Machine
linked links p = record { kernel = p.kernel; memory = p.memory; tiles = p.tiles; links = links }

-- the part at a tile, whatever the links are
abbrev pub part_of : ℕ → Parts → Part
part_of t p = part_at t (linked [] p)

-- what a turn of this activity asks for
abbrev pub ask_in : Parts → ℕ → Ask
ask_in p a = turn_ask p.site (tile_at (tile_of p.site a) (linked [] p)) a

-- the stay of this activity on its home tile
abbrev pub stay_at_home : Parts → ℕ → Option Resident
stay_at_home p a = resident_of a (tile_at (tile_of p.site a) (linked [] p))

-- the event takes no parcel
abbrev pub IsNoTake : Event → Type 0
IsNoTake (Event.Take to from) = ⊥
IsNoTake event = Unit {0}

-- next numbers, next tokens and moves of stays are those that so many entries leave, wherever a context is, the kernel has
-- a seat for each activity, and its home tile has its stay
pub record IsAble (p : Parts) : Type 0 where
  pub entries : ℕ
  pub few : entries ≤ 2097152
  pub links : List (List Parcel)
  pub low : CountersBounded entries (linked links p)
  pub number : HasLowKernel entries (linked links p)
  pub stays : StaysAreShort entries (linked links p)
  pub seats : map entry_act p.kernel.seats ≡ map home_act p.site.homes
  pub residents : (a : ℕ) → is_home p.site a ≡ true → IsPresent (resident_at p.site p.tiles a)

-- the part at this tile did what the local step says, and no other part changed
pub record DoesAt (t : ℕ) (old new : Parts) (done : Done) (step : Option (LocalResult Part)) : Type 0 where
  pub deed : LocalResult Part
  pub is : step ≡ Some deed
  pub outcome : done.outcome ≡ deed.outcome
  pub out : out_of done.first ++ out_of done.second ≡ deed.out
  pub parts : (links : List (List Parcel)) → with_part t deed.part (linked links old) ≡ linked links new
  pub site : new.site ≡ old.site
