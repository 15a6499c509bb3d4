-- The bits of a word, and the words of a set of places.
use Rattle.std.proofs.Common.{◌≡◌, ◌≢◌, ℕ, zero, suc, ◌-◌, ◌*◌, ◌%◌, ◌^◌, ◌<◌, ◌≤◌, Bool, true, false, not, ◌&&◌, ◌||◌, List, refl, sym, ◌∙◌, ap, arith, get_or, set, length-set, get_or-set_same, get_or-set_other, bit_and, bit_or, w64}
use Rattle.std.specs.Prelude.{if◌then◌else◌, ◌==◌, nat_lt}
use Rattle.std.specs.Int.{bit_at}
use Rattle.std.proofs.lemmas.Bool.Decides.{nat_tests}
use Rattle.std.proofs.lemmas.Nat.Bits.{bit_at_set_same, bit_at_set_other, bit_at_clear_same, bit_at_clear_other, bit_at-zero}
use Rattle.m3_bit_set.specs.BitSet.{has_bit, IsFilled}

pub is_set : (word k : ℕ) → bit_at word k ≡ 1 → has_bit word k ≡ true
is_set word k e = rw e refl

pub is_clear : (word k : ℕ) → bit_at word k ≡ 0 → has_bit word k ≡ false
is_clear word k e = rw e refl

pub has_set : (word k i : ℕ) → k < 64 → has_bit (bit_or word (1 * 2 ^ k % 2 ^ 64)) i ≡ (i == k || has_bit word i)
has_set word k i h = by_place (i == k) refl
  where
    by_place : (b : Bool) → (i == k) ≡ b → has_bit (bit_or word (1 * 2 ^ k % 2 ^ 64)) i ≡ (b || has_bit word i)
    by_place true w = let s : i ≡ k = grind (arith, nat_tests, w) in rw (s, bit_at_set_same w64 word k h) refl
    by_place false w = let s : i ≢ k = grind (arith, nat_tests, w) in ap (λ n. n == 1) (bit_at_set_other w64 word k h i s)

pub has_cleared : (word k i : ℕ) → k < 64 → i < 64 → has_bit (bit_and word (2 ^ 64 - 1 - 1 * 2 ^ k % 2 ^ 64)) i ≡ (not (i == k) && has_bit word i)
has_cleared word k i h l = by_place (i == k) refl
  where
    by_place : (b : Bool) → (i == k) ≡ b → has_bit (bit_and word (2 ^ 64 - 1 - 1 * 2 ^ k % 2 ^ 64)) i ≡ (not b && has_bit word i)
    by_place true w = let s : i ≡ k = grind (arith, nat_tests, w) in rw (s, bit_at_clear_same w64 word k h) refl
    by_place false w = let s : i ≢ k = grind (arith, nat_tests, w) in ap (λ n. n == 1) (bit_at_clear_other w64 word k h i l s)

-- ---- the words

some_bit : (word k : ℕ) → has_bit word k ≡ true → nat_lt 0 word ≡ true
some_bit zero k e = absurd (let n : has_bit 0 k ≡ false = is_clear 0 k (bit_at-zero k) in grind (arith, n, e))
some_bit (suc word) k e = grind (arith, nat_tests)

-- a word changed so that bit k is c, and the summary with it
pub filled_set : (words : List ℕ) (filled w word new : ℕ) → IsFilled words filled → w < 64 → ((i : ℕ) → i < 64 → has_bit new i ≡ (if i == w then nat_lt 0 word else has_bit filled i)) → IsFilled (set words w word) new
filled_set words filled w word new f h e =
    record {
      room = length-set words w word ∙ f.room;
      bits = λ i l. e i l ∙ by_place i l (i == w) refl;
    }
  where
    by_place : (i : ℕ) → i < 64 → (b : Bool) → (i == w) ≡ b → (if b then nat_lt 0 word else has_bit filled i) ≡ nat_lt 0 (get_or (set words w word) i 0)
    by_place i l true v = let s : i ≡ w = grind (arith, nat_tests, v) in rw (s, get_or-set_same words w word 0 (omega (arith, f.room, h))) refl
    by_place i l false v = let s : i ≢ w = grind (arith, nat_tests, v) in rw (get_or-set_other words w i word 0 s) (f.bits i l)

pub filled_insert : (words : List ℕ) (filled w k word new : ℕ) → IsFilled words filled → w < 64 → has_bit word k ≡ true → ((i : ℕ) → has_bit new i ≡ (i == w || has_bit filled i)) → IsFilled (set words w word) new
filled_insert words filled w k word new f h b e = filled_set words filled w word new f h (λ i l. e i ∙ by_place i (i == w))
  where
    by_place : (i : ℕ) (c : Bool) → (c || has_bit filled i) ≡ (if c then nat_lt 0 word else has_bit filled i)
    by_place i true = sym (some_bit word k b)
    by_place i false = refl

-- the word isn't 0, and wasn't
pub filled_left : (words : List ℕ) (filled w word : ℕ) → IsFilled words filled → w < 64 → 0 < word → word ≤ get_or words w 0 → IsFilled (set words w word) filled
filled_left words filled w word f h some less = filled_set words filled w word filled f h (λ i l. by_place i l (i == w) refl)
  where
    by_place : (i : ℕ) → i < 64 → (c : Bool) → (i == w) ≡ c → has_bit filled i ≡ (if c then nat_lt 0 word else has_bit filled i)
    by_place i l true v =
        let s : i ≡ w = grind (arith, nat_tests, v) in
        let was : nat_lt 0 (get_or words w 0) ≡ true = grind (arith, nat_tests, some, less) in
        let is : nat_lt 0 word ≡ true = grind (arith, nat_tests, some) in
        rw (s, f.bits w h, was, is) refl
    by_place i l false v = refl
