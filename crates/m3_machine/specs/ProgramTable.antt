-- Programs by the numbers of their activities.
use Rattle.std.specs.Prelude.{ℕ, List, [], ◌∷◌, slice_set, replicate, Option, Some, None}

module _ {P : Type 0} where
  abbrev pub with_programs : List (ℕ × P) → List (Option P) → List (Option P)
  with_programs [] table = table
  with_programs (x ∷ xs) table = with_programs xs (slice_set table x.0 (Some x.1))

  -- a place for each number; of two programs for one activity the later one stands there
  abbrev pub program_table : List (ℕ × P) → List (Option P)
  program_table xs = with_programs xs (replicate 64 None)
