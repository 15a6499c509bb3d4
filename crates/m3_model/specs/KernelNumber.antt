-- The kernel's own next number stays below the number of entries.
use Rattle.std.specs.Prelude.{ℕ, ◌+◌, ◌≤◌}
use Rattle.m3_model.specs.Machine.{Machine}

-- where the journal has n entries
abbrev pub HasLowKernel : ℕ → Machine → Type 0
HasLowKernel n m = m.kernel.next ≤ n + 1
