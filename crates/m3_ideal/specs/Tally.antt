-- The tables of the grants that aren't done.
use Rattle.std.specs.Prelude.{◌≡◌, ℕ, ◌+◌, ◌-◌, ◌*◌, ◌<◌, ◌≤◌, List, length, count_by, slice_index_or, slice_set, Option, Some, None}
use Rattle.m3_base.specs.declared.order.GrantLine.{GrantLine}
use Rattle.m3_base.specs.Ideal.State.{Grant, parent_of, holder, holder_ep}
use Rattle.m3_base.specs.Ideal.GrantRules.{holds_at, is_open_child}

pub record IsSize (held children : List ℕ) : Type 0 where
  pub places : length held ≡ 1024
  pub numbers : length children ≡ 4097

pub record IsTallied (gs : List Grant) (held children : List ℕ) : Type 0 where
  pub few : length gs ≤ 4096
  pub size : IsSize held children
  pub holds : (a ep : ℕ) → a < 64 → ep < 16 → slice_index_or held (16 * a + ep) 0 ≡ count_by (holds_at a ep) gs
  pub under : (g : ℕ) → g < 4097 → slice_index_or children g 0 ≡ count_by (is_open_child g) gs

-- ---- one more or less

abbrev pub place_of : GrantLine → ℕ
place_of line = 16 * holder line + holder_ep line

abbrev pub raised_at : ℕ → List ℕ → List ℕ
raised_at i t = slice_set t i (slice_index_or t i 0 + 1)

abbrev pub lowered_at : ℕ → List ℕ → List ℕ
lowered_at i t = slice_set t i (slice_index_or t i 0 - 1)

abbrev pub held_raised : GrantLine → List ℕ → List ℕ
held_raised line = raised_at (place_of line)

abbrev pub held_lowered : GrantLine → List ℕ → List ℕ
held_lowered line = lowered_at (place_of line)

abbrev pub under_raised : Option ℕ → List ℕ → List ℕ
under_raised None t = t
under_raised (Some p) t = raised_at p t

abbrev pub under_lowered : Option ℕ → List ℕ → List ℕ
under_lowered None t = t
under_lowered (Some p) t = lowered_at p t

abbrev pub IsParent : Option ℕ → Type 0
IsParent None = Unit {0}
IsParent (Some p) = p ≤ 4096

abbrev pub IsFew : Option ℕ → List ℕ → Type 0
IsFew None t = Unit {0}
IsFew (Some p) t = slice_index_or t p 0 ≤ 4096

abbrev pub IsSome_under : Option ℕ → List ℕ → Type 0
IsSome_under None t = Unit {0}
IsSome_under (Some p) t = 0 < slice_index_or t p 0

pub record MayRaise (line : GrantLine) (held children : List ℕ) : Type 0 where
  pub here : slice_index_or held (place_of line) 0 ≤ 4096
  pub above : IsFew (parent_of line) children

pub record MayLower (line : GrantLine) (held children : List ℕ) : Type 0 where
  pub here : 0 < slice_index_or held (place_of line) 0
  pub above : IsSome_under (parent_of line) children
