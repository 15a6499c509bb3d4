-- The machine's step as a move of parts over links: the words of the merge theorem.
use Rattle.std.specs.Prelude.{◌≡◌, ℕ, nat_lt, cond, [], Option, Some, None}
use Rattle.m3_base.specs.declared.event.Event.{Event}
use Rattle.m3_base.specs.declared.event.Entry.{Entry}
use Rattle.m3_merge.specs.Interleaving.{Item, Moves}
use Rattle.m3_merge.specs.Interleaving as merge
use Rattle.m3_model.specs.Config.Site.{Site}
use Rattle.m3_model.specs.Parcel.{Parcel}
use Rattle.m3_model.specs.Machine.{Machine, Part, part_at, link_at, part_step, tile_for_event}

abbrev pub parcel_of : Option (ℕ × Parcel) → Option Parcel
parcel_of None = None
parcel_of (Some p) = Some p.1

-- a take takes from the link that it names, or finds it empty; no other event takes
abbrev pub TakesFrom : Event → Option (ℕ × Parcel) → Type 0
TakesFrom (Event.Take to from) (Some p) = p.0 ≡ from
TakesFrom (Event.Take to from) None = Unit {0}
TakesFrom event (Some p) = ⊥
TakesFrom event None = Unit {0}

-- one entry of a part: its local step, whose outcome the entry has
pub record Steps (h : Site) (t : ℕ) (before : Part) (x : Item Entry Parcel) (after : Part) : Type 0 where
  pub tile : tile_for_event h x.entry.event ≡ t
  pub from : TakesFrom x.entry.event x.took
  pub step :
      part_step h before x.entry.event x.entry.outcome.made (parcel_of x.took)
      ≡ Some (record { outcome = x.entry.outcome; part = after; out = x.out })

-- a machine as the merge theorem has it: there are 16 tiles
abbrev pub parts_of : Machine → merge.Machine Part Parcel
parts_of m = record { parts = λ t. part_at t m; links = λ from to. cond (nat_lt to 16) (link_at from to m) [] }

abbrev pub MovesBy : Site → Machine → Item Entry Parcel → Machine → Type 0
MovesBy h m x n = Moves (Steps h) (parts_of m) x (parts_of n)

-- the machine moves by this entry, with what its part took and sent in it
pub record MovesByEntry (h : Site) (m : Machine) (entry : Entry) (next : Machine) : Type 0 where
  pub item : Item Entry Parcel
  pub is : item.entry ≡ entry
  pub moves : MovesBy h m item next
