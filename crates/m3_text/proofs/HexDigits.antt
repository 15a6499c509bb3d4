-- Bytes as pairs of digits, block by block and byte by byte.
use Rattle.std.proofs.Common.{◌≡◌, ℕ, ◌+◌, ◌/◌, ◌%◌, ◌<◌, ◌≤◌, true, ltb, List, [], ◌∷◌, ◌++◌, length, get_or, take, drop, refl, sym, ◌∙◌, arith, drop-cons, add-one, append_assoc}
use Rattle.std.proofs.lemmas.List.{drop_all, append-nil, take-append-drop}
use Rattle.std.proofs.lemmas.Bool.{and_parts}
use Rattle.std.proofs.lemmas.Bool.Decides.{nat_tests}
use Rattle.std.proofs.lemmas.Str.Ascii.{IsAscii-nil, IsAscii-cons}
use Rattle.std.specs.List.{list_all}
use Rattle.std.specs.Str.{IsAscii}
use Rattle.hex.specs.Hex.{encode_with, encode_lower, lower_digits}

small_ascii : (bs : List ℕ) → list_all (λ b. ltb b 128) bs ≡ true → IsAscii bs
small_ascii [] h = IsAscii-nil
small_ascii (b ∷ bs) h =
    let parts = and_parts (ltb b 128) (list_all (λ b. ltb b 128) bs) h in
    let small : b < 128 = grind (arith, nat_tests, parts.0) in
    IsAscii-cons b bs small (small_ascii bs parts.1)

pub digits_ascii : IsAscii lower_digits
digits_ascii = small_ascii lower_digits refl

-- the two digits of a byte, put one after the other
pub two_digits : (old mid new : List ℕ) (b : ℕ) → mid ≡ old ++ get_or lower_digits (b / 16) 0 ∷ [] → new ≡ mid ++ get_or lower_digits (b % 16) 0 ∷ []
    → new ≡ old ++ encode_lower (b ∷ [])
unfolding encode_with
two_digits old mid new b first then =
    then ∙ rw first (append_assoc old (get_or lower_digits (b / 16) 0 ∷ []) (get_or lower_digits (b % 16) 0 ∷ []))

-- the digits of bytes that are joined
pub encode_append : (t a b : List ℕ) → encode_with t (a ++ b) ≡ encode_with t a ++ encode_with t b
unfolding encode_with
encode_append t [] b = refl
encode_append t (x ∷ a) b = rw (encode_append t a b) refl

-- a byte more is put
pub more_bytes : (old out bytes : List ℕ) (i : ℕ) → i < length bytes → out ++ encode_lower (drop i bytes) ≡ old ++ encode_lower bytes
    → (out ++ encode_lower (get_or bytes i 0 ∷ [])) ++ encode_lower (drop (i + 1) bytes) ≡ old ++ encode_lower bytes
unfolding encode_with
more_bytes old out bytes i lt so_far =
    let e : drop i bytes ≡ get_or bytes i 0 ∷ drop (i + 1) bytes = rw (add-one, drop-cons bytes i 0) refl in
    simp append_assoc (rw e at so_far)

-- all bytes are put
pub all_bytes : (old out bytes : List ℕ) (i : ℕ) → length bytes ≤ i → out ++ encode_lower (drop i bytes) ≡ old ++ encode_lower bytes → out ≡ old ++ encode_lower bytes
unfolding encode_with
all_bytes old out bytes i le so_far =
    let e = rw (drop_all i bytes le) at so_far in sym (append-nil out) ∙ e

-- a block more is put
pub more_blocks : (old out mid bytes rest block after : List ℕ) (n : ℕ) → out ++ encode_lower rest ≡ old ++ encode_lower bytes → mid ≡ out ++ encode_lower block
    → block ≡ take n rest → after ≡ drop n rest → mid ++ encode_lower after ≡ old ++ encode_lower bytes
more_blocks old out mid bytes rest block after n so_far put front back =
    let joined : encode_lower block ++ encode_lower after ≡ encode_lower rest =
    sym (encode_append lower_digits block after) ∙ rw (front, back, take-append-drop n rest) refl in
    rw (put, append_assoc, joined) so_far
