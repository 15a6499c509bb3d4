-- What is printed is read back: words and lines that are joined are cut again, and values are printed as words that are
-- read as these values.
use Rattle.std.specs.Prelude.{◌≡◌, ℕ, ◌<◌, ◌≤◌, ◌^◌, true, List, length, decimal, Ok}
use Rattle.std.specs.List.{list_all}
use Rattle.hex.specs.Hex.{IsBytes}
use Rattle.m3_base.specs.declared.ids.FlightId.{FlightId}
use Rattle.m3_base.specs.Ideal.Flights.{kernel}
use Rattle.std.specs.Str.Lines.{lines}
use Rattle.m3_text.specs.declared.hexes.HexCase.{HexCase}
use Rattle.m3_text.specs.Flights.{flight_of}
use Rattle.m3_text.specs.Hex.{hex_of, hex_text}
use Rattle.m3_text.specs.Lines.{words, is_plain, is_word}
use Rattle.m3_text.specs.Number.{number}
use Rattle.m3_text.specs.Printing.{line_text, text_of_lines, flight_word}

-- ---- lines and words

abbrev pub LinesAgain : Type 0
LinesAgain = (ls : List (List ℕ)) → list_all (list_all is_plain) ls ≡ true → lines (text_of_lines ls) ≡ ls

abbrev pub WordsAgain : Type 0
WordsAgain = (ws : List (List ℕ)) → list_all is_word ws ≡ true → words (line_text ws) ≡ ws

-- a line of words has spaces and visible characters alone
abbrev pub WordsPlain : Type 0
WordsPlain = (ws : List (List ℕ)) → list_all is_word ws ≡ true → list_all is_plain (line_text ws) ≡ true

-- ---- values

abbrev pub NumbersAgain : Type 0
NumbersAgain = (low high n : ℕ) → high < 2 ^ 64 → low ≤ n → n ≤ high → number low high (decimal n) ≡ Ok n

abbrev pub NumbersVisible : Type 0
NumbersVisible = (n : ℕ) → n < 2 ^ 64 → is_word (decimal n) ≡ true

-- at most so many bytes
abbrev pub BytesWithin : ℕ → List ℕ → Type 0
BytesWithin most bytes = IsBytes bytes × (length bytes ≤ most)

abbrev pub HexAgain : Type 0
HexAgain = (case : HexCase) (max : ℕ) (bytes : List ℕ) → BytesWithin max bytes → hex_of case max (hex_text bytes) ≡ Ok bytes

abbrev pub HexVisible : Type 0
HexVisible = (bytes : List ℕ) → IsBytes bytes → is_word (hex_text bytes) ≡ true

-- the numbers that a flight's name has
pub record IsFlight (id : FlightId) : Type 0 where
  pub issuer : id.issuer ≤ kernel
  pub some : 1 ≤ id.number
  pub limit : id.number ≤ 4294967295

abbrev pub FlightsAgain : Type 0
FlightsAgain = (id : FlightId) → IsFlight id → flight_of (flight_word id) ≡ Ok id

abbrev pub FlightsVisible : Type 0
FlightsVisible = (id : FlightId) → IsFlight id → is_word (flight_word id) ≡ true
