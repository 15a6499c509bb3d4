-- The contexts of activities in a table by their numbers.
use Rattle.std.specs.Prelude.{◌≡◌, ℕ, List, length, Option, None, slice_index_or}
use Rattle.m3_base.specs.Ideal.Context.{Context}
use Rattle.m3_base.specs.Ideal.State.{context_of}

-- the table has just these contexts
pub record HasContexts (table : List (Option Context)) (contexts : List Context) : Type 0 where
  pub count : length table ≡ 64
  pub same : (a : ℕ) → slice_index_or table a None ≡ context_of a contexts
