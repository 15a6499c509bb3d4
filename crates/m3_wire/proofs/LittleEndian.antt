-- The bytes of numbers, the lowest first.
use Rattle.std.proofs.Common.{◌≡◌, ℕ, zero, suc, ◌+◌, ◌*◌, ◌/◌, ◌%◌, ◌^◌, ◌<◌, ◌≤◌, List, [], ◌∷◌, ◌++◌, length, get_or, drop, refl, sym, ap, ◌∙◌, arith, pow-suc}
use Rattle.std.proofs.Math.Nat.{div-div-eq-div-mul, mul_comm}
use Rattle.std.specs.Int.{byte_at, bytes_low_first}
use Rattle.byteorder.specs.Endian.{little_from, little_number, little_bytes}
use Rattle.m3_wire.proofs.ExactDecoder.{IsBytes}

-- y as j bytes
abbrev pub le : ℕ → ℕ → List ℕ
le zero y = []
le (suc j) y = (y % 256) ∷ le j (y / 256)

byte_next : (i x : ℕ) → byte_at (suc i) x ≡ byte_at i (x / 256)
byte_next zero x = refl
byte_next (suc i) x = ap (λ p. x / p % 256) (pow-suc 256 (suc i) ∙ mul_comm (256 ^ suc i) 256) ∙ ap (λ d. d % 256) (sym (div-div-eq-div-mul x 256 (256 ^ suc i)))

shifted : (i j x : ℕ) → bytes_low_first (suc i) j x ≡ bytes_low_first i j (x / 256)
shifted i zero x = refl
shifted i (suc j) x = rw (byte_next i x, shifted (suc i) j x) refl

pub le_is : (j x : ℕ) → le j x ≡ little_bytes j x
le_is zero x = refl
le_is (suc j) x = ap (λ (t : List ℕ). (x % 256) ∷ t) (le_is j (x / 256) ∙ sym (shifted 0 j x))

little_from-later : (i n b : ℕ) (xs : List ℕ) → little_from (suc i) n (b ∷ xs) ≡ little_from i n xs
little_from-later i zero b xs = refl
little_from-later i (suc n) b xs = ap (λ k. get_or xs i 0 + 256 * k) (little_from-later (suc i) n b xs)

-- the bytes follow from their number and their count
pub bytes_are : (w : ℕ) (bytes : List ℕ) → w ≤ length bytes → IsBytes bytes → bytes ≡ le w (little_number w bytes) ++ drop w bytes
bytes_are zero bytes h are = refl
bytes_are (suc w) [] h are = absurd (omega arith)
bytes_are (suc w) (b ∷ bytes) h are =
    let byte : b < 256 = are 0 in
    let later = little_from-later 0 w b bytes in
    let head : (b + 256 * little_from 0 w bytes) % 256 ≡ b = omega arith in
    let rest : (b + 256 * little_from 0 w bytes) / 256 ≡ little_from 0 w bytes = omega arith in
    rw (later, head, rest) (ap (λ (t : List ℕ). b ∷ t) (bytes_are w bytes (omega arith) (λ i. are (suc i))))
