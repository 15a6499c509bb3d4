use Rattle.std.proofs.Common.{◌≡◌, ◌++◌, drop, string_bytes}
use Rattle.hex.specs.Hex.{encode_lower}
use Rattle.m3_text.proofs.printing.put_bytes.Given as goal

abbrev pub invariant-loop-byte : goal.invariant-loop-byte
invariant-loop-byte l = string_bytes l.out ++ encode_lower (drop l.byte-index l.bytes) ≡ string_bytes l.fn.out ++ encode_lower l.bytes
