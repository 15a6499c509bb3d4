-- Kin among grants, of which each one's parent is listed.
use Rattle.std.specs.Prelude.{◌≡◌, ℕ, ◌-◌, ◌<◌, ◌≤◌, Bool, true, false, List, slice_index_or, Option, Some, None}
use Rattle.m3_base.specs.Ideal.State.{is_number}

-- whether the one at this place was made under p
abbrev pub is_under : List (Option ℕ) → ℕ → ℕ → Bool
is_under parents p i = is_number p (slice_index_or parents i None)

-- the last that was made under p, of those before the place n
abbrev pub IsLast : List (Option ℕ) → ℕ → ℕ → Option ℕ → Type 0
IsLast parents p n None = (i : ℕ) → i < n → is_under parents p i ≡ false
IsLast parents p n (Some h) =
    ((0 < h) × (h ≤ n)) × ((is_under parents p (h - 1) ≡ true) × ((i : ℕ) → h ≤ i → i < n → is_under parents p i ≡ false))

-- the one made before g under the same
abbrev pub IsPrevious : List (Option ℕ) → ℕ → Option ℕ → Type 0
IsPrevious parents g found = (p : ℕ) → is_under parents p (g - 1) ≡ true → IsLast parents p (g - 1) found
