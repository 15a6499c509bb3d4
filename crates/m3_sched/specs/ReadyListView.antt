-- A ready list: its activities, front first, and which they are by their numbers.
use Rattle.std.specs.Prelude.{◌≡◌, ℕ, ◌≤◌, Bool, false, ◌==◌, List, length, slice_index_or}
use Rattle.std.specs.List.{list_any, IsDistinct}

-- no activity is twice in the list, and there is room for all 64
pub record IsList (acts : List ℕ) (capacity : ℕ) (has : List Bool) : Type 0 where
  pub room : 64 ≤ capacity
  pub count : length has ≡ 64
  pub flags : (a : ℕ) → slice_index_or has a false ≡ list_any (λ b. b == a) acts
  pub distinct : IsDistinct ◌==◌ acts
