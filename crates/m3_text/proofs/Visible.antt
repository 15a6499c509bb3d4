-- What values are printed as is words.
use Rattle.std.proofs.Common.{◌≡◌, ℕ, suc, ◌^◌, ◌<◌, ◌≤◌, Bool, true, false, ltb, eqb, List, [], ◌∷◌, ◌++◌, length, refl, arith, rules, codes, append_assoc}
use Rattle.std.specs.Prelude.{decimal, if◌then◌else◌}
use Rattle.std.specs.List.{list_all, AllPass}
use Rattle.std.specs.Str.{all_ascii_digits}
use Rattle.std.specs.Char.{is_ascii_digit}
use Rattle.std.proofs.lemmas.Str.Parse.{IsNumeralModel, numerals_by_fold}
use Rattle.std.proofs.lemmas.Fmt.{digits_decimal, decimal_nonempty}
use Rattle.std.proofs.lemmas.Grind.{common_steps}
use Rattle.std.proofs.lemmas.List.Folds.{list_all-append}
use Rattle.hex.specs.Hex.{IsBytes, is_hex_digit, encode_lower, lower_digits}
use Rattle.hex.proofs.HexLemmas.{decode_of-encode_lower, decode_of-ok, length-encode_with}
use Rattle.m3_base.specs.declared.ids.FlightId.{FlightId}
use Rattle.m3_base.specs.FileName.{is_visible}
use Rattle.m3_text.specs.Hex.{hex_text}
use Rattle.m3_text.specs.Lines.{is_word}
use Rattle.m3_text.specs.Number.{read_on}
use Rattle.m3_text.specs.Printing.{flight_word}
use Rattle.m3_text.specs.ReadBack.{IsFlight}
use Rattle.std.proofs.lemmas.Bool.{and_parts as split}
use Rattle.m3_base.specs.Display.{issuer_text}

-- the digits of a number are what `read_on` reads
pub own : IsNumeralModel (λ ds. all_ascii_digits ds ≡ true) (read_on 0)
own = numerals_by_fold _ (search rules) read_on (search rules)

digit_visible : (c : ℕ) → is_ascii_digit c ≡ true → is_visible c ≡ true
digit_visible c h = grind (arith, common_steps)

digits_visible : (w : List ℕ) → all_ascii_digits w ≡ true → list_all is_visible w ≡ true
digits_visible [] h = refl
digits_visible (c ∷ w) h = let s = split (is_ascii_digit c) (all_ascii_digits w) h in rw (digit_visible c s.0, digits_visible w s.1) refl

pub decimal_visible : (n : ℕ) → n < 2 ^ 64 → list_all is_visible (decimal n) ≡ true
decimal_visible n lt = digits_visible (decimal n) (digits_decimal own n lt)

pub number_visible : (n : ℕ) → n < 2 ^ 64 → is_word (decimal n) ≡ true
number_visible n lt =
    let some : ltb 0 (length (decimal n)) ≡ true = (let h = decimal_nonempty n lt in grind arith) in
    rw (some, decimal_visible n lt) refl

hex_digit_visible : (c : ℕ) → is_hex_digit c ≡ true → is_visible c ≡ true
hex_digit_visible c h = grind (arith, common_steps)

pub pass_visible : (w : List ℕ) → AllPass is_hex_digit w → list_all is_visible w ≡ true
pass_visible [] h = refl
pass_visible (c ∷ w) h = rw (hex_digit_visible c (h 0 0 (omega arith)), pass_visible w (λ i d lt. h (suc i) d (omega arith))) refl

pub hex_visible : (bytes : List ℕ) → IsBytes bytes → is_word (hex_text bytes) ≡ true
hex_visible [] are = refl
hex_visible (b ∷ bytes) are =
    let ok = decode_of-ok (encode_lower (b ∷ bytes)) (b ∷ bytes) (decode_of-encode_lower (b ∷ bytes) are) in
    let some : ltb 0 (length (encode_lower (b ∷ bytes))) ≡ true = (let len = length-encode_with lower_digits (b ∷ bytes) in grind arith) in
    rw (some, pass_visible (encode_lower (b ∷ bytes)) ok.1) refl

-- an issuer is printed as a word, whatever it is
pub issuer_visible : (i : ℕ) → i ≤ 64 → is_word (issuer_text i) ≡ true
issuer_visible i le = go (eqb i 64) (number_visible i (omega arith))
  where
    go : (b : Bool) → is_word (decimal i) ≡ true → is_word (if b then codes "k" else decimal i) ≡ true
    go true h = refl
    go false h = h

joined_word : (v w : List ℕ) → is_word v ≡ true → list_all is_visible w ≡ true → is_word (v ++ w) ≡ true
joined_word [] w is h = absurd cc
joined_word (c ∷ v) w is h =
    let s = split (ltb 0 (length (c ∷ v))) (list_all is_visible (c ∷ v)) is in
    let t = split (is_visible c) (list_all is_visible v) s.1 in
    let some : ltb 0 (length ((c ∷ v) ++ w)) ≡ true = grind arith in
    rw (some, list_all-append is_visible v w, t.0, t.1, h) refl

pub flight_text : (id : FlightId) → flight_word id ≡ issuer_text id.issuer ++ 46 ∷ decimal id.number
flight_text id = append_assoc (issuer_text id.issuer) (46 ∷ []) (decimal id.number)

pub flight_visible : (id : FlightId) → IsFlight id → is_word (flight_word id) ≡ true
flight_visible id is =
    rw (flight_text id) (joined_word (issuer_text id.issuer) (46 ∷ decimal id.number) (issuer_visible id.issuer is.issuer) (decimal_visible id.number (omega (arith, is.limit))))
