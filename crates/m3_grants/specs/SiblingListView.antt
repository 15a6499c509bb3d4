-- What the links of grants say of their parents.
use Rattle.std.specs.Prelude.{◌≡◌, ℕ, ◌+◌, ◌-◌, ◌≤◌, true, List, length, map, slice_get, slice_set, Option, Some, None}
use Rattle.m3_grants.specs.declared.siblings.Kin.{Kin}
use Rattle.m3_base.specs.Setup.GrantTable.{is_before}
use Rattle.m3_grants.specs.Siblings.{IsLast, IsPrevious}

abbrev pub parents_in : List Kin → List (Option ℕ)
parents_in = map (λ l. l.parent)

-- the link at a place says who is kin to the grant there
abbrev pub SaysKin : List (Option ℕ) → ℕ → Option Kin → Type 0
SaysKin parents i None = Unit {0}
SaysKin parents i (Some l) =
    (is_before l.parent i ≡ true) × (IsPrevious parents (i + 1) l.previous × IsLast parents (i + 1) (length parents) l.last_child)

pub record IsLinked (links : List Kin) : Type 0 where
  pub few : length links ≤ 4096
  pub kin : (i : ℕ) → SaysKin (parents_in links) i (slice_get links i)

-- ---- one more

abbrev pub last_in : Option Kin → Option ℕ
last_in None = None
last_in (Some l) = l.last_child

-- the last under this one before the next is there
abbrev pub last_before : List Kin → Option ℕ → Option ℕ
last_before links None = None
last_before links (Some g) = last_in (slice_get links (g - 1))

abbrev pub with_child : Option ℕ → Kin → Kin
with_child c l = record l { last_child = c }

abbrev pub set_last : List Kin → ℕ → ℕ → Option Kin → List Kin
set_last links i c None = links
set_last links i c (Some l) = slice_set links i (with_child (Some c) l)

abbrev pub with_last : List Kin → Option ℕ → ℕ → List Kin
with_last links None c = links
with_last links (Some g) c = set_last links (g - 1) c (slice_get links (g - 1))
