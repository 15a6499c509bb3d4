-- A notice reads back as what it was made of.
use Rattle.std.proofs.Common.{◌≡◌, ℕ, ◌/◌, ◌%◌, ◌<◌, Some, refl, arith}
use Rattle.m3_pipe_laws.specs.Protocol.{notice, read_notice, number_of_four}

pub of32_le32 : (n : ℕ) → n < 4294967296 → number_of_four (n % 256) ((n / 256) % 256) ((n / 65536) % 256) ((n / 16777216) % 256) ≡ n
of32_le32 n h = omega arith

pub notices_read : (number size : ℕ) → number < 4294967296 → size < 4294967296 → read_notice (notice number size) ≡ Some (record { number = number; size = size })
notices_read number size a b = rw (of32_le32 number a, of32_le32 size b) refl
