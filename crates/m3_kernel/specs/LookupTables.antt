-- The kernel's tables: where each activity's seat is, and for each tile who leaves and who is there or comes.
use Rattle.std.specs.Prelude.{◌≡◌, ℕ, Bool, false, ◌&&◌, ◌||◌, ◌==◌, List, [], length, slice_get, slice_index_or, Option, Some, None}
use Rattle.m3_base.specs.Ideal.State.{same_act, is_number}
use Rattle.m3_bit_set.specs.BitSet.{has_place}
use Rattle.m3_model.specs.Config.Site.{Site, tile_of}
use Rattle.m3_model.specs.Kernel.State.{ActivityEntry}
use Rattle.m3_model.specs.Kernel.Step.{entry_act, is_placed_entry, is_coming_entry, is_leaving_at}
use Rattle.m3_kernel.specs.declared.berth.Berth.{Berth}

module _ {X : Type 0} where
  abbrev pub test : (X → Bool) → Option X → Bool
  test p None = false
  test p (Some x) = p x

  -- the elements that the test holds of: none, or the one at this place alone
  abbrev pub IsOnly : (X → Bool) → List X → Option ℕ → Type 0
  IsOnly p xs o = (i : ℕ) → test p (slice_get xs i) ≡ is_number i o

abbrev pub is_of : ℕ → ActivityEntry → Bool
is_of a x = same_act a (entry_act x)

-- Placed or Coming, at its tile
abbrev pub is_there_at : Site → ℕ → ActivityEntry → Bool
is_there_at h t x = (tile_of h x.act == t) && (is_placed_entry x.seating || is_coming_entry x.seating)

abbrev pub empty_berth : Berth
empty_berth = record { leaving = None; there = None }

abbrev pub berth_at : List Berth → ℕ → Berth
berth_at berths t = slice_index_or berths t empty_berth

-- nothing is held for an activity that isn't in this set
abbrev pub IsHeldSet : List ActivityEntry → List ℕ → Type 0
IsHeldSet seats held = (i : ℕ) (x : ActivityEntry) → slice_get seats i ≡ Some x → has_place held x.act ≡ false → x.hold ≡ []

pub record AreTables (h : Site) (seats : List ActivityEntry) (index : List (Option ℕ)) (berths : List Berth) : Type 0 where
  pub acts : length index ≡ 64
  pub tiles : length berths ≡ 16
  pub places : (a : ℕ) → IsOnly (is_of a) seats (slice_index_or index a None)
  pub leaving : (t : ℕ) → IsOnly (is_leaving_at h t) seats (berth_at berths t).leaving
  pub there : (t : ℕ) → IsOnly (is_there_at h t) seats (berth_at berths t).there
