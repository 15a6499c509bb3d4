use Rattle.std.proofs.Common.{◌≡◌, ◌++◌, ◌∷◌, ◌%◌, [], slice_index, string_bytes}
use Rattle.std.proofs.lemmas.Result.{on_ok_weaker}
use Rattle.hex.specs.Hex.{lower_digits}
use Rattle.m3_text.proofs.HexDigits.{two_digits}
use Rattle.m3_text.proofs.printing.put_byte.Goals as goal

pub returns : goal.returns
returns c =
    on_ok_weaker c.put_hex_digit-2.result
    (λ (h : string_bytes c.put_hex_digit-2.new.out ≡ string_bytes c.put_hex_digit.new.out ++ slice_index lower_digits (c.args.byte % 16) ∷ []).
    two_digits (string_bytes c.args.out.now) (string_bytes c.put_hex_digit.new.out) (string_bytes c.put_hex_digit-2.new.out) c.args.byte c.in_ok-put_hex_digit.ensures h)
    c.put_hex_digit-2.ensures
