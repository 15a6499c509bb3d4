-- The table of contexts has 64 places, and each context stands at the number of its activity.
use Rattle.std.specs.Prelude.{◌≡◌, ℕ, List, length, Option}
use Rattle.m3_base.specs.Ideal.Context.{Context}
use Rattle.m3_base.specs.Ideal.State.{act_of}
use Rattle.m3_ideal.specs.Tables.{AreKeyed}

abbrev pub act_at : ℕ → ℕ
act_at n = n

pub record IsSeated (ts : List (Option Context)) : Type 0 where
  pub size : length ts ≡ 64
  pub acts : AreKeyed act_of act_at 0 ts
