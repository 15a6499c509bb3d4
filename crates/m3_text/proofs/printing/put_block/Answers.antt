use Rattle.std.proofs.lemmas.Str.{IsUtf8-from_ascii}
use Rattle.hex.specs.Hex.{lower_digits}
use Rattle.hex.proofs.HexLemmas.{IsAscii-encode_with}
use Rattle.m3_text.proofs.HexDigits.{digits_ascii}
use Rattle.m3_text.proofs.printing.put_block.Goals as goal

pub from_utf8_unchecked-requires : goal.from_utf8_unchecked-requires
from_utf8_unchecked-requires c =
    rw c.block_digits-digits.ensures (IsUtf8-from_ascii _ (IsAscii-encode_with lower_digits c.args.block.now digits_ascii))
