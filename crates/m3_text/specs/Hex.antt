-- Words as bytes, and bytes as words: pairs of hexadecimal digits, or a dash for no bytes.
use Rattle.std.specs.Prelude.{ℕ, Bool, ◌&&◌, nat_le, if◌then◌else◌, List, [], ◌∷◌, length, codes, Result, Ok, Err}
use Rattle.std.specs.List.{list_any}
use Rattle.std.specs.Str.{bytes_eq}
use Rattle.hex.specs.Hex.{decode_of, encode_lower}
use Rattle.hex.specs.declared.error.FromHexError.{FromHexError}
use Rattle.m3_text.specs.declared.hexes.HexCase.{HexCase}
use Rattle.m3_text.specs.declared.refusal.Why.{Why}
use Rattle.m3_text.specs.declared.refusal.Why.TheVariants as why

abbrev pub at_most : ℕ → Result (List ℕ) FromHexError → Result (List ℕ) Why
at_most max (Ok bytes) = if nat_le (length bytes) max then Ok bytes else Err why.Hex
at_most max (Err e) = Err why.Hex

-- digits of either case, of at most max bytes
unfoldable pub hex : ℕ → List ℕ → Result (List ℕ) Why
hex max w = if bytes_eq w (codes "-") then Ok [] else at_most max (decode_of w)

-- whether a digit is a capital letter
abbrev pub has_capital : List ℕ → Bool
has_capital w = list_any (λ b. nat_le 65 b && nat_le b 70) w

-- digits with the letters that are allowed, of at most max bytes
unfoldable pub hex_of : HexCase → ℕ → List ℕ → Result (List ℕ) Why
hex_of HexCase.Either max w = hex max w
hex_of HexCase.Lower max w = if has_capital w then Err why.Hex else hex max w

-- how bytes are printed
abbrev pub hex_text : List ℕ → List ℕ
hex_text [] = codes "-"
hex_text (b ∷ bytes) = encode_lower (b ∷ bytes)
