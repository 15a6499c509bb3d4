-- What values are printed as is words without a colon.
use Rattle.std.proofs.Common.{◌≡◌, ℕ, zero, suc, ◌-◌, ◌^◌, ◌<◌, ◌≤◌, Bool, true, false, not, ◌&&◌, ltb, eqb, List, [], ◌∷◌, ◌++◌, length, get_or, refl, arith, lit<, codes}
use Rattle.std.specs.Prelude.{decimal, if◌then◌else◌}
use Rattle.std.specs.List.{list_all, AllPass}
use Rattle.std.specs.Str.{all_ascii_digits}
use Rattle.std.specs.Char.{is_ascii_digit}
use Rattle.std.proofs.lemmas.Fmt.{digits_decimal, decimal_nonempty}
use Rattle.std.proofs.lemmas.Grind.{common_steps}
use Rattle.std.proofs.lemmas.List.Folds.{list_all-append}
use Rattle.hex.specs.Hex.{IsBytes, is_hex_digit, encode_lower, lower_digits}
use Rattle.hex.proofs.HexLemmas.{decode_of-encode_lower, decode_of-ok, length-encode_with}
use Rattle.m3_base.specs.declared.ids.FlightId.{FlightId}
use Rattle.m3_base.specs.FileName.{is_visible}
use Rattle.m3_text.specs.Hex.{hex_text}
use Rattle.m3_text.specs.Lines.{is_word}
use Rattle.m3_text.specs.Printing.{flight_word}
use Rattle.m3_text.specs.ReadBack.{IsFlight, BytesWithin}
use Rattle.m3_text.proofs.Visible.{own, flight_text}
use Rattle.m3_script.specs.InRange.{ActInRange, EpInRange, IdInRange, WordInRange}
use Rattle.m3_journal.specs.Reading.Entries.{is_event_end}
use Rattle.m3_text.proofs.LineForm.{no}
use Rattle.std.proofs.lemmas.Bool.{and_parts as split}
use Rattle.m3_base.specs.Limits.{Within}
use Rattle.m3_base.specs.Display.{issuer_text}

abbrev pub is_clear_byte : ℕ → Bool
is_clear_byte b = is_visible b && not (eqb b 58)

abbrev pub is_clear : List ℕ → Bool
is_clear w = ltb 0 (length w) && list_all is_clear_byte w

-- ---- such words are words, and none ends an event

clear_visible : (w : List ℕ) → list_all is_clear_byte w ≡ true → list_all is_visible w ≡ true
clear_visible [] h = refl
clear_visible (c ∷ w) h =
    let s = split (is_clear_byte c) (list_all is_clear_byte w) h in
    let t = split (is_visible c) (not (eqb c 58)) s.0 in
    rw (t.0, clear_visible w s.1) refl

pub clear_word : (w : List ℕ) → is_clear w ≡ true → is_word w ≡ true
clear_word w h = let s = split (ltb 0 (length w)) (list_all is_clear_byte w) h in rw (s.0, clear_visible w s.1) refl

pub clear_words : (ws : List (List ℕ)) → list_all is_clear ws ≡ true → list_all is_word ws ≡ true
clear_words [] h = refl
clear_words (w ∷ ws) h = let s = split (is_clear w) (list_all is_clear ws) h in rw (clear_word w s.0, clear_words ws s.1) refl

is_no : (b : Bool) → not b ≡ true → b ≡ false
is_no true e = absurd cc
is_no false e = refl

no_colon : (w : List ℕ) (i : ℕ) → list_all is_clear_byte w ≡ true → eqb (get_or w i 0) 58 ≡ false
no_colon [] i h = refl
no_colon (c ∷ w) zero h =
    let s = split (is_clear_byte c) (list_all is_clear_byte w) h in
    let t = split (is_visible c) (not (eqb c 58)) s.0 in is_no (eqb c 58) t.1
no_colon (c ∷ w) (suc i) h = let s = split (is_clear_byte c) (list_all is_clear_byte w) h in no_colon w i s.1

pub clear_is_no_end : (w : List ℕ) → is_clear w ≡ true → is_event_end w ≡ false
clear_is_no_end w h =
    let s = split (ltb 0 (length w)) (list_all is_clear_byte w) h in
    rw (no_colon w (length w - 1) s.1) (no (ltb 1 (length w)))

pub clear_at : (ws : List (List ℕ)) (i : ℕ) → list_all is_clear ws ≡ true → i < length ws → is_clear (get_or ws i []) ≡ true
clear_at [] i h lt = absurd (omega arith)
clear_at (w ∷ ws) zero h lt = (split (is_clear w) (list_all is_clear ws) h).0
clear_at (w ∷ ws) (suc i) h lt = clear_at ws i (split (is_clear w) (list_all is_clear ws) h).1 (omega arith)

-- ---- numbers, bytes and flights' names

digit_clear : (c : ℕ) → is_ascii_digit c ≡ true → is_clear_byte c ≡ true
digit_clear c h =
    let v : is_visible c ≡ true = grind (arith, common_steps) in
    let o : eqb c 58 ≡ false = grind (arith, common_steps) in
    rw (v, o) refl

digits_clear : (w : List ℕ) → all_ascii_digits w ≡ true → list_all is_clear_byte w ≡ true
digits_clear [] h = refl
digits_clear (c ∷ w) h = let s = split (is_ascii_digit c) (all_ascii_digits w) h in rw (digit_clear c s.0, digits_clear w s.1) refl

decimal_bytes : (n : ℕ) → n < 2 ^ 64 → list_all is_clear_byte (decimal n) ≡ true
decimal_bytes n lt = digits_clear (decimal n) (digits_decimal own n lt)

number_clear : (n : ℕ) → n < 2 ^ 64 → is_clear (decimal n) ≡ true
number_clear n lt =
    let some : ltb 0 (length (decimal n)) ≡ true = (let h = decimal_nonempty n lt in grind arith) in
    rw (some, decimal_bytes n lt) refl

pub within_clear : (low high n : ℕ) → high < 2 ^ 64 → Within low high n → is_clear (decimal n) ≡ true
within_clear low high n lt r = number_clear n (omega (arith, r.1))

pub act_clear : (n : ℕ) → ActInRange n → is_clear (decimal n) ≡ true
act_clear n r = within_clear 0 63 n (lit< tt) r

-- an endpoint, or a tile
pub ep_clear : (n : ℕ) → EpInRange n → is_clear (decimal n) ≡ true
ep_clear n r = within_clear 0 15 n (lit< tt) r

pub id_clear : (n : ℕ) → IdInRange n → is_clear (decimal n) ≡ true
id_clear n r = within_clear 1 4096 n (lit< tt) r

pub u32_clear : (n : ℕ) → WordInRange n → is_clear (decimal n) ≡ true
u32_clear n r = within_clear 0 4294967295 n (lit< tt) r

pub length_clear : (n : ℕ) → Within 1 4294967295 n → is_clear (decimal n) ≡ true
length_clear n r = within_clear 1 4294967295 n (lit< tt) r

pub label_clear : (n : ℕ) → Within 0 18446744073709551615 n → is_clear (decimal n) ≡ true
label_clear n r = within_clear 0 18446744073709551615 n (lit< tt) r

hex_digit_clear : (c : ℕ) → is_hex_digit c ≡ true → is_clear_byte c ≡ true
hex_digit_clear c h =
    let v : is_visible c ≡ true = grind (arith, common_steps) in
    let o : eqb c 58 ≡ false = grind (arith, common_steps) in
    rw (v, o) refl

pass_clear : (w : List ℕ) → AllPass is_hex_digit w → list_all is_clear_byte w ≡ true
pass_clear [] h = refl
pass_clear (c ∷ w) h = rw (hex_digit_clear c (h 0 0 (omega arith)), pass_clear w (λ i d lt. h (suc i) d (omega arith))) refl

hex_clear : (bytes : List ℕ) → IsBytes bytes → is_clear (hex_text bytes) ≡ true
hex_clear [] are = refl
hex_clear (b ∷ bytes) are =
    let ok = decode_of-ok (encode_lower (b ∷ bytes)) (b ∷ bytes) (decode_of-encode_lower (b ∷ bytes) are) in
    let some : ltb 0 (length (encode_lower (b ∷ bytes))) ≡ true = (let len = length-encode_with lower_digits (b ∷ bytes) in grind arith) in
    rw (some, pass_clear (encode_lower (b ∷ bytes)) ok.1) refl

pub bytes_clear : (max : ℕ) (bytes : List ℕ) → BytesWithin max bytes → is_clear (hex_text bytes) ≡ true
bytes_clear max bytes r = hex_clear bytes r.0

issuer_clear : (i : ℕ) → i ≤ 64 → is_clear (issuer_text i) ≡ true
issuer_clear i le = go (eqb i 64) (number_clear i (omega arith))
  where
    go : (b : Bool) → is_clear (decimal i) ≡ true → is_clear (if b then codes "k" else decimal i) ≡ true
    go true h = refl
    go false h = h

joined_clear : (v w : List ℕ) → is_clear v ≡ true → list_all is_clear_byte w ≡ true → is_clear (v ++ w) ≡ true
joined_clear [] w is h = absurd cc
joined_clear (c ∷ v) w is h =
    let s = split (ltb 0 (length (c ∷ v))) (list_all is_clear_byte (c ∷ v)) is in
    let t = split (is_clear_byte c) (list_all is_clear_byte v) s.1 in
    let some : ltb 0 (length ((c ∷ v) ++ w)) ≡ true = grind arith in
    rw (some, list_all-append is_clear_byte v w, t.0, t.1, h) refl

pub flight_clear : (id : FlightId) → IsFlight id → is_clear (flight_word id) ≡ true
flight_clear id is =
    rw (flight_text id) (joined_clear (issuer_text id.issuer) (46 ∷ decimal id.number) (issuer_clear id.issuer is.issuer) (decimal_bytes id.number (omega (arith, is.limit))))
