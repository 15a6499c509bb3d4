-- What contracts see of the links.
use Rattle.std.specs.Prelude.{◌≡◌, ℕ, ◌-◌, ◌<◌, ◌≤◌, Bool, true, false, List, length, map, slice_index_or, slice_set}
use Rattle.std.specs.VecDeque.{deque_len, deque_capacity}
use Rattle.std.specs.declared.collections.VecDeque.{VecDeque}
use Rattle.std.specs.declared.alloc.Global.{Global}
use Rattle.m3_core.specs.declared.parcel.Parcel.{Parcel}
use Rattle.m3_bit_set.specs.BitSet.{has_place}
use Rattle.m3_link.specs.LinkOps.{HasRoom, has_parcel, place}

-- for each pair of tiles, at 16 * from + to
pub record Wires : Type 0 where
  -- the parcels, the front first
  pub lists : List (List Parcel)
  -- how many more have a place
  pub spare : List ℕ

module _ {X : Type 0} where
  abbrev pub lists_in : List (VecDeque X Global) → List (List X)
  lists_in links = map (λ l. l.items) links

  abbrev pub spare_in : VecDeque X Global → ℕ
  spare_in l = deque_capacity l - deque_len l

abbrev pub wires_of : List (VecDeque Parcel Global) → Wires
wires_of links = record { lists = lists_in links; spare = map spare_in links }

-- each link from a tile that is marked has two spare places
abbrev pub AreRoomy : List Bool → List ℕ → Type 0
AreRoomy marks spare = (from : ℕ) → slice_index_or marks from false ≡ true → HasRoom spare 2 from

-- the mark of a tile goes where its links may have lost room
abbrev pub marks_noted : Bool → ℕ → List Bool → List Bool
marks_noted true from marks = marks
marks_noted false from marks = slice_set marks from false

-- the set of the links that have a parcel, the one from a tile to another at 16 * to + from
pub record IsOccupancy (lists : List (List Parcel)) (set : List ℕ) : Type 0 where
  pub links : (f t : ℕ) → f < 16 → t < 16 → has_place set (place t f) ≡ has_parcel lists f t
  pub few : (i : ℕ) → 256 ≤ i → has_place set i ≡ false

pub record IsWhole (links : List (VecDeque Parcel Global)) (marks : List Bool) (set : List ℕ) : Type 0 where
  pub count : length links ≡ 256
  pub tiles : length marks ≡ 16
  pub roomy : AreRoomy marks (map spare_in links)
  pub occupancy : IsOccupancy (lists_in links) set
