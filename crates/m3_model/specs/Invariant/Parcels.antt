-- What may be on which link.
use Rattle.std.specs.Prelude.{◌≡◌, ℕ, ◌<◌, Bool, true, false, not, ◌&&◌, ◌||◌, ◌==◌, List, [], ◌∷◌, Option, Some, None, ◌⊎◌}
use Rattle.m3_base.specs.Placement.Routing.{target}
use Rattle.m3_base.specs.Lists.EachElement.{Each}
use Rattle.m3_model.specs.Config.Site.{Site, tile_of}
use Rattle.m3_model.specs.Parcel.{Parcel, Data, Save, Saved, Restore, Yield, Closed}
use Rattle.m3_model.specs.Tile.State.{Resident, Tile}
use Rattle.m3_model.specs.Kernel.State.{ActivityEntry, Kernel}
use Rattle.m3_model.specs.Config.KnownActivities.{is_home, is_named}
use Rattle.m3_model.specs.Kernel.Step.{entry_of, is_placed_entry, is_leaving_entry}
use Rattle.m3_model.specs.Machine.{Machine, link_at}
use Rattle.m3_model.specs.Invariant.Housing.{resident_at}

-- ---- parcels

-- the kernel knows whether the program has ended
abbrev pub EndedFlagIs : Bool → Option Resident → Type 0
EndedFlagIs e None = ⊥
EndedFlagIs e (Some z) = z.ended ≡ e

abbrev pub is_here_entry : Option ActivityEntry → Bool
is_here_entry None = false
is_here_entry (Some x) = is_placed_entry x.seating || is_leaving_entry x.seating

-- a read or a write is on its way to the memory, any other packet to the home of its activity, or to the kernel
abbrev pub HasDestination : Site → ℕ → Option ℕ → Type 0
HasDestination h to None = to ≡ 1
HasDestination h to (Some a) = (to ≡ 0) ⊎ (to ≡ tile_of h a)

-- what may be on the link from one tile to another
abbrev pub ParcelOk : Site → Kernel → List Tile → ℕ → ℕ → Parcel → Type 0
ParcelOk h k ts from to (Data p) = (is_named h p ≡ true) × HasDestination h to (target p)
ParcelOk h k ts from to (Save a) = (from ≡ 0) × (is_home h a ≡ true) × (to ≡ tile_of h a)
ParcelOk h k ts from to (Saved a c waiting ended) =
    (to ≡ 0) × (is_home h c.act ≡ true) × (from ≡ tile_of h c.act) × EndedFlagIs ended (resident_at h ts c.act)
    × (a ≡ c.act)
ParcelOk h k ts from to (Restore a c xs) = (from ≡ 0) × (is_home h c.act ≡ true) × (to ≡ tile_of h c.act) × (a ≡ c.act)
ParcelOk h k ts from to (Yield a) = (to ≡ 0) × (from ≡ tile_of h a) × (is_here_entry (entry_of a k) ≡ true)
ParcelOk h k ts from to (Closed g) = to ≡ 0

abbrev pub ParcelsOk : Site → Machine → Type 0
ParcelsOk h m = (from to : ℕ) → from < 16 → to < 16 → Each (ParcelOk h m.kernel m.tiles from to) (link_at from to m)

-- no Yield of this activity
abbrev pub no_yield : ℕ → List Parcel → Bool
no_yield a [] = true
no_yield a (Yield b ∷ qs) = not (b == a) && no_yield a qs
no_yield a (q ∷ qs) = no_yield a qs

-- the Yields of an activity stand before its Saved
abbrev pub YieldsBeforeSaved : List Parcel → Type 0
YieldsBeforeSaved [] = Unit {0}
YieldsBeforeSaved (Saved a c waiting ended ∷ qs) = (no_yield c.act qs ≡ true) × YieldsBeforeSaved qs
YieldsBeforeSaved (q ∷ qs) = YieldsBeforeSaved qs
