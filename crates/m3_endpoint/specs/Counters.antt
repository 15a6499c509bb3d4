-- Counts by number, each of which stands still at the largest number.
use Rattle.std.specs.Prelude.{◌≡◌, ℕ, ◌+◌, ◌<◌, ◌≤◌, min, ◌==◌, List, length, slice_index_or, if◌then◌else◌}

abbrev pub most : ℕ
most = 4294967295

-- so many for this number, and nothing for another
abbrev pub only : ℕ → ℕ → ℕ → ℕ
only number more g = if number == g then more else 0

-- each count rose by what there is for its number
pub record Adds (more : ℕ → ℕ) (old new : List ℕ) : Type 0 where
  pub size : length new ≡ length old
  pub counts : (g : ℕ) → g < length old → slice_index_or old g 0 ≤ most
      → slice_index_or new g 0 ≡ min most (slice_index_or old g 0 + more g)
