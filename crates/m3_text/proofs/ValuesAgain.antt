-- Values that are printed are read back.
use Rattle.std.proofs.Common.{◌≡◌, ◌≢◌, ℕ, zero, suc, ◌^◌, ◌/◌, ◌%◌, ◌<◌, ◌≤◌, Bool, true, false, ◌&&◌, ◌||◌, eqb, leb, ltb, List, [], ◌∷◌, ◌++◌, length, get_or, Some, Ok, refl, ap, arith, inl, inr, codes, lit<, position, length-append}
use Rattle.std.specs.Prelude.{decimal}
use Rattle.std.specs.List.{list_any, position_or_len}
use Rattle.std.specs.Str.{all_ascii_digits, bytes_eq}
use Rattle.std.specs.Char.{is_ascii_digit}
use Rattle.std.proofs.Math.Seq.{take-append_seam, drop-append-add}
use Rattle.std.proofs.lemmas.Fmt.{digits_decimal, digits_value-decimal, decimal_nonempty, first_decimal, decimal_digit}
use Rattle.std.proofs.lemmas.Bool.{cases_eq, and_parts as split}
use Rattle.std.proofs.lemmas.Grind.{common_steps}
use Rattle.hex.specs.Hex.{IsBytes, encode_lower, encode_with, lower_digits}
use Rattle.hex.proofs.HexLemmas.{decode_of-encode_lower, length-encode_with}
use Rattle.m3_base.specs.declared.ids.FlightId.{FlightId}
use Rattle.m3_text.specs.declared.hexes.HexCase.{HexCase}
use Rattle.m3_text.specs.Number.{read_on, is_decimal, number}
use Rattle.m3_text.specs.Hex.{hex, hex_of, hex_text, has_capital}
use Rattle.m3_text.specs.Flights.{issuer_of, name_at, flight_of}
use Rattle.m3_text.specs.Printing.{flight_word}
use Rattle.m3_text.specs.ReadBack.{IsFlight, BytesWithin}
use Rattle.m3_text.proofs.Visible.{own, flight_text}
use Rattle.m3_base.specs.Display.{issuer_text}

-- ---- numbers

or-true : (b : Bool) → (b || true) ≡ true
or-true true = refl
or-true false = refl

pub is_decimal_again : (n : ℕ) → n < 2 ^ 64 → is_decimal (decimal n) ≡ true
is_decimal_again n lt =
    let d = digits_decimal own n lt in
    let some = decimal_nonempty n lt in
    elim (cases_eq n 0) [
      | inl none ↦ rw (none, decimal_digit 0 (lit< tt)) refl
      | inr more ↦ let first = first_decimal n (omega arith) lt in
          let nonzero : eqb (get_or (decimal n) 0 0) 48 ≡ false = grind arith in
          let long : ltb 0 (length (decimal n)) ≡ true = grind arith in
          rw (d, long, nonzero) (or-true (eqb (length (decimal n)) 1))
    ]

pub number_again : (low high n : ℕ) → high < 2 ^ 64 → low ≤ n → n ≤ high → number low high (decimal n) ≡ Ok n
unfolding number
number_again low high n fits lo hi =
    let lt : n < 2 ^ 64 = omega arith in
    let v : read_on 0 (decimal n) ≡ n = digits_value-decimal own n lt in
    rw (is_decimal_again n lt, v) (grind (arith, common_steps))

-- ---- bytes

not_same : (xs ys : List ℕ) → length xs ≢ length ys → bytes_eq xs ys ≡ false
not_same [] [] other = absurd (other refl)
not_same [] (y ∷ ys) other = refl
not_same (x ∷ xs) [] other = refl
not_same (x ∷ xs) (y ∷ ys) other = rw (not_same xs ys (λ e. other (ap suc e))) (and-false (eqb x y))
  where
    and-false : (b : Bool) → (b && false) ≡ false
    and-false true = refl
    and-false false = refl

pub hex_again : (max : ℕ) (bytes : List ℕ) → IsBytes bytes → length bytes ≤ max → hex max (hex_text bytes) ≡ Ok bytes
unfolding hex
hex_again max [] are fits = refl
hex_again max (b ∷ bytes) are fits =
    let d = decode_of-encode_lower (b ∷ bytes) are in
    let len = length-encode_with lower_digits (b ∷ bytes) in
    let other : bytes_eq (encode_lower (b ∷ bytes)) (codes "-") ≡ false = not_same (encode_lower (b ∷ bytes)) (codes "-") (omega arith) in
    let small : leb (length (b ∷ bytes)) max ≡ true = grind (arith, common_steps) in
    rw (other, d, small) refl

neither : (a b : Bool) → (a || b) ≡ false → (a ≡ false) × (b ≡ false)
neither false false e = (refl, refl)
neither true b e = absurd cc
neither false true e = absurd cc

abbrev capital : ℕ → Bool
capital b = leb 65 b && leb b 70

no_capital_in : (t : List ℕ) (i : ℕ) → list_any capital t ≡ false → capital (get_or t i 0) ≡ false
no_capital_in [] i h = refl
no_capital_in (c ∷ t) zero h = (neither (capital c) (list_any capital t) h).0
no_capital_in (c ∷ t) (suc i) h = no_capital_in t i (neither (capital c) (list_any capital t) h).1

lower : (bytes : List ℕ) → has_capital (encode_lower bytes) ≡ false
unfolding encode_with
lower [] = refl
lower (b ∷ bytes) = rw (no_capital_in lower_digits (b / 16) refl, no_capital_in lower_digits (b % 16) refl, lower bytes) refl

no_capital : (bytes : List ℕ) → has_capital (hex_text bytes) ≡ false
no_capital [] = refl
no_capital (b ∷ bytes) = lower (b ∷ bytes)

pub hex_of_again : (case : HexCase) (max : ℕ) (bytes : List ℕ) → BytesWithin max bytes → hex_of case max (hex_text bytes) ≡ Ok bytes
unfolding hex_of
hex_of_again HexCase.Either max bytes are = hex_again max bytes are.0 are.1
hex_of_again HexCase.Lower max bytes are = rw (no_capital bytes) (hex_again max bytes are.0 are.1)

-- ---- flights' names

abbrev is_point : ℕ → Bool
is_point b = eqb b 46

digit_no_point : (c : ℕ) → is_ascii_digit c ≡ true → is_point c ≡ false
digit_no_point c h = grind (arith, common_steps)

digits_no_point : (w : List ℕ) → all_ascii_digits w ≡ true → list_any is_point w ≡ false
digits_no_point [] h = refl
digits_no_point (c ∷ w) h = let s = split (is_ascii_digit c) (all_ascii_digits w) h in rw (digit_no_point c s.0, digits_no_point w s.1) refl

first_point : (w v : List ℕ) → list_any is_point w ≡ false → position_or_len is_point (w ++ 46 ∷ v) ≡ length w
first_point [] v h = refl
first_point (c ∷ w) v h = let s = neither (is_point c) (list_any is_point w) h in rw (s.0, first_point w v s.1) (omega arith)

point_after : (w v : List ℕ) → list_any is_point w ≡ false → position is_point (w ++ 46 ∷ v) ≡ Some (length w)
point_after w v h =
    let within : ltb (length w) (length (w ++ 46 ∷ v)) ≡ true = (let len = length-append w (46 ∷ v) in grind arith) in
    rw (first_point w v h, within) refl

pub issuer_again : (i : ℕ) → i ≤ 64 → (issuer_of (issuer_text i) ≡ Ok i) × (list_any is_point (issuer_text i) ≡ false)
unfolding issuer_of
issuer_again i le = elim (cases_eq i 64) [
  | inl is ↦ rw is (refl, refl)
  | inr other ↦
      let no : eqb i 64 ≡ false = grind arith in
      let lt : i < 2 ^ 64 = omega arith in
      rw no (rw (no_k (decimal i) (digits_decimal own i lt)) (number_again 0 63 i (lit< tt) (omega arith) (omega arith)), digits_no_point (decimal i) (digits_decimal own i lt))
]
  where
    no_k : (w : List ℕ) → all_ascii_digits w ≡ true → bytes_eq w (codes "k") ≡ false
    no_k [] h = refl
    no_k (c ∷ w) h = let s = split (is_ascii_digit c) (all_ascii_digits w) h in let other : eqb c 107 ≡ false = grind (arith, common_steps) in rw other refl

pub flight_again : (id : FlightId) → IsFlight id → flight_of (flight_word id) ≡ Ok id
unfolding name_at
flight_again id is =
    let i = issuer_again id.issuer is.issuer in
    let w = issuer_text id.issuer in
    rw (
      flight_text id,
      point_after w (decimal id.number) i.1,
      take-append_seam w (46 ∷ decimal id.number),
      drop-append-add w (46 ∷ decimal id.number) 1,
      i.0,
      number_again 1 4294967295 id.number (lit< tt) is.some is.limit,
    ) refl
