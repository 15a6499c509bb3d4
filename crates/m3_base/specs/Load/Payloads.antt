-- The bytes that the activities of a load send.
use Rattle.std.specs.Prelude.{ℕ, ◌+◌, ◌*◌, ◌%◌, List}
use Rattle.m3_base.specs.FourBytes.{four_bytes}

-- what activity a sends in round k
abbrev pub load_bytes : ℕ → ℕ → List ℕ
load_bytes a k = four_bytes ((1103515245 * (k + 1000 * a) + 12345) % 4294967296)
