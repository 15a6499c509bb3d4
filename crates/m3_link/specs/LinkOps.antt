-- What the links hold, and how many more parcels each has a place for.
use Rattle.std.specs.Prelude.{◌≡◌, ℕ, ◌+◌, ◌-◌, ◌*◌, ◌<◌, ◌≤◌, Bool, true, false, not, List, [], ◌∷◌, ◌++◌, Option, Some, None, drop, slice_set, slice_index_or}
use Rattle.m3_core.specs.declared.parcel.Parcel.{Parcel}

-- the link from one tile to another, among all
abbrev pub place : ℕ → ℕ → ℕ
place from to = 16 * from + to

module _ {X : Type 0} where
  abbrev pub list_at : List (List X) → ℕ → List X
  list_at links k = slice_index_or links k []

  abbrev pub with_pushed : List (List X) → ℕ → X → List (List X)
  with_pushed links k p = slice_set links k (list_at links k ++ p ∷ [])

  abbrev pub with_popped : List (List X) → ℕ → List (List X)
  with_popped links k = slice_set links k (drop 1 (list_at links k))

  abbrev pub first : List X → Option X
  first [] = None
  first (p ∷ ps) = Some p

  -- the front again
  abbrev pub put_back : List (List X) → ℕ → X → List (List X)
  put_back links k p = slice_set links k (p ∷ list_at links k)

  -- the parcel with i others before it
  abbrev pub parcel_at : List X → ℕ → Option X
  parcel_at ps i = first (drop i ps)

  abbrev pub is_nil : List X → Bool
  is_nil [] = true
  is_nil (x ∷ xs) = false

-- ---- the least link that isn't empty, by the receiving tile, then by the sending tile

module _ {X : Type 0} where
  -- the link from one tile to another has a parcel
  abbrev pub has_parcel : List (List X) → ℕ → ℕ → Bool
  has_parcel links from to = not (is_nil (list_at links (place from to)))

  -- it is this one; the places of the links back are in that order
  pub record IsLeastTo (links : List (List X)) (to from : ℕ) : Type 0 where
    pub to_low : to < 16
    pub from_low : from < 16
    pub some : has_parcel links from to ≡ true
    pub least : (f t : ℕ) → f < 16 → place t f < place to from → has_parcel links f t ≡ false

  -- the receiving and the sending tile of it, if any
  abbrev pub IsLeastLink : List (List X) → Option (ℕ × ℕ) → Type 0
  IsLeastLink links None = (f t : ℕ) → f < 16 → t < 16 → has_parcel links f t ≡ false
  IsLeastLink links (Some (to, from)) = IsLeastTo links to from

-- ---- spare places

abbrev pub spare_at : List ℕ → ℕ → ℕ
spare_at spare k = slice_index_or spare k 0

-- one place fewer on this link
abbrev pub with_one_less : List ℕ → ℕ → List ℕ
with_one_less spare k = slice_set spare k (spare_at spare k - 1)

-- one more where a parcel left
abbrev pub with_freed : List ℕ → ℕ → Option Parcel → List ℕ
with_freed spare k None = spare
with_freed spare k (Some p) = slice_set spare k (spare_at spare k + 1)

-- each link from this tile has so many
abbrev pub HasRoom : List ℕ → ℕ → ℕ → Type 0
HasRoom spare n from = (to : ℕ) → to < 16 → n ≤ spare_at spare (place from to)

-- no link has fewer than before
abbrev pub IsRoomier : List ℕ → List ℕ → Type 0
IsRoomier old new = (k : ℕ) → spare_at old k ≤ spare_at new k

-- ---- data

-- the data on a link, and on all links
abbrev pub data_in : List Parcel → ℕ
data_in [] = 0
data_in (Parcel.Data p ∷ ps) = 1 + data_in ps
data_in (p ∷ ps) = data_in ps

abbrev pub data_on : List (List Parcel) → ℕ
data_on [] = 0
data_on (ps ∷ links) = data_in ps + data_on links
