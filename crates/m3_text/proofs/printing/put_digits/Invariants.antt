use Rattle.std.proofs.Common.{◌≡◌, ◌++◌, length, string_bytes}
use Rattle.hex.specs.Hex.{encode_lower}
use Rattle.m3_text.proofs.printing.put_digits.Given as goal

abbrev pub invariant-chunks : goal.invariant-chunks
invariant-chunks l = string_bytes l.out ++ encode_lower l.rest ≡ string_bytes l.fn.out ++ encode_lower l.bytes

abbrev pub decreases-chunks : goal.decreases-chunks
decreases-chunks l = length l.rest
