-- Sets of places, as the bits of words of 64.
use Rattle.std.specs.Prelude.{◌≡◌, ℕ, ◌/◌, ◌%◌, ◌<◌, ◌==◌, Bool, true, false, nat_lt, List, length, slice_index_or, Option, Some, None}
use Rattle.std.specs.Int.{bit_at}

abbrev pub has_bit : ℕ → ℕ → Bool
has_bit word k = bit_at word k == 1

abbrev pub has_place : List ℕ → ℕ → Bool
has_place words i = has_bit (slice_index_or words (i / 64) 0) (i % 64)

-- the bit of each word that isn't 0 is set
pub record IsFilled (words : List ℕ) (filled : ℕ) : Type 0 where
  pub room : length words ≡ 64
  pub bits : (w : ℕ) → w < 64 → has_bit filled w ≡ nat_lt 0 (slice_index_or words w 0)

-- the least place, if any
abbrev pub IsFirst : (ℕ → Bool) → Option ℕ → Type 0
IsFirst has None = (i : ℕ) → has i ≡ false
IsFirst has (Some f) = (has f ≡ true) × ((i : ℕ) → i < f → has i ≡ false)
