-- Who is Placed, Leaving, Resting or Coming, and what is held.
use Rattle.std.specs.Prelude.{◌≡◌, ℕ, ◌+◌, ◌<◌, ◌≤◌, Bool, true, false, ◌&&◌, ◌==◌, List, [], Option, Some, None}
use Rattle.std.specs.List.{list_any}
use Rattle.m3_base.specs.declared.packet.Packet.{Packet}
use Rattle.m3_base.specs.Lists.Counting.{total, one, how_many}
use Rattle.m3_base.specs.Placement.Routing.{target}
use Rattle.m3_base.specs.Lists.EachElement.{Each}
use Rattle.m3_model.specs.Config.Site.{Home, Site, tile_of}
use Rattle.m3_model.specs.Parcel.{Parcel, Data, Save, Saved, Restore, Yield, Closed}
use Rattle.m3_model.specs.Tile.State.{Tile}
use Rattle.m3_model.specs.Kernel.State.{EntryResidency, Is_placed, Is_leaving, Is_resting, Is_coming, ActivityEntry, Kernel}
use Rattle.m3_model.specs.Config.KnownActivities.{is_named}
use Rattle.m3_model.specs.Kernel.Step.{entry_of, is_placed_entry, is_leaving_entry, is_leaving_at, is_coming_entry}
use Rattle.m3_model.specs.Machine.{Machine, tile_at, link_at}
use Rattle.m3_model.specs.Abstraction.{current_act}
use Rattle.m3_model.specs.Invariant.LinkWalk.{CurrentAlongLink, placed_on}
use Rattle.m3_model.specs.Invariant.Housing.{resident_at}
use Rattle.m3_model.specs.Invariant.Parcels.{EndedFlagIs, YieldsBeforeSaved}

-- ---- the kernel's places

abbrev pub is_save_of : ℕ → Parcel → Bool
is_save_of a (Data p) = false
is_save_of a (Save b) = b == a
is_save_of a (Saved b c w e) = c.act == a
is_save_of a (Restore b c xs) = false
is_save_of a (Yield b) = false
is_save_of a (Closed g) = false

-- the Saves and Saveds of an activity, on all links
abbrev pub saves_in_flight : ℕ → List (List Parcel) → ℕ
saves_in_flight a links = total (λ qs. how_many (is_save_of a) qs) links

abbrev pub is_leaving_of : Option ActivityEntry → Bool
is_leaving_of None = false
is_leaving_of (Some x) = is_leaving_entry x.seating

abbrev pub is_placed_at : Site → ℕ → ActivityEntry → Bool
is_placed_at h t x = (tile_of h x.act == t) && is_placed_entry x.seating

abbrev pub is_coming_at : Site → ℕ → ActivityEntry → Bool
is_coming_at h t x = (tile_of h x.act == t) && is_coming_entry x.seating

abbrev pub has_home : ℕ → List Home → Bool
has_home t xs = list_any (λ x. x.tile == t) xs

-- what is held is for the seat's own activity
abbrev pub HoldOk : Site → ℕ → Packet → Type 0
HoldOk h a p = (is_named h p ≡ true) × (target p ≡ Some a)

abbrev pub EntryOk : Site → List Tile → ActivityEntry → EntryResidency → Type 0
EntryOk h ts x Is_placed = x.hold ≡ []
EntryOk h ts x Is_leaving = Unit {0}
EntryOk h ts x (Is_resting y) = (y.context.act ≡ x.act) × EndedFlagIs y.ended (resident_at h ts x.act)
EntryOk h ts x (Is_coming y) = (y.context.act ≡ x.act) × EndedFlagIs y.ended (resident_at h ts x.act)

-- each of the kernel's entries
abbrev pub EntriesOk : Site → List Tile → Kernel → Type 0
EntriesOk h tiles k =
    (a : ℕ) (x : ActivityEntry) → entry_of a k ≡ Some x → EntryOk h tiles x x.seating × Each (HoldOk h x.act) x.hold

-- the links of the kernel in this machine, for the entries of this kernel
abbrev pub LinksLeadOn : Site → Machine → Kernel → Type 0
LinksLeadOn h m k = (t : ℕ) → 2 ≤ t → t < 16 → CurrentAlongLink (current_act (tile_at t m)) (link_at 0 t m) (placed_on h t k)

pub record Scheduling (h : Site) (m : Machine) : Type 0 where
  pub seats : EntriesOk h m.tiles m.kernel
  -- a tile with activities has one that is Placed or one that comes, and at most one that leaves
  pub filled : (t : ℕ)
      → how_many (is_placed_at h t) m.kernel.seats + how_many (is_coming_at h t) m.kernel.seats ≡ one (has_home t h.homes)
  pub leaving : (t : ℕ) → how_many (is_leaving_at h t) m.kernel.seats ≤ how_many (is_coming_at h t) m.kernel.seats
  -- a Leaving one has exactly one Save or Saved on a link
  pub departing : (a : ℕ) → saves_in_flight a m.links ≡ one (is_leaving_of (entry_of a m.kernel))
  -- the kernel's links, walked along from who is current, lead to who is Placed
  pub walks : LinksLeadOn h m m.kernel
  pub orderly : (t : ℕ) → t < 16 → YieldsBeforeSaved (link_at t 0 m)
