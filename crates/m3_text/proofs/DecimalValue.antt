-- Digits and the number that they stand for.
use Rattle.std.proofs.Common.{◌≡◌, ℕ, ◌+◌, ◌-◌, ◌*◌, ◌^◌, ◌<◌, ◌≤◌, true, false, List, [], ◌∷◌, length, get_or, drop, refl, sym, arith, drop-cons, add-one, ◌&&◌}
use Rattle.std.proofs.lemmas.List.{drop_all}
use Rattle.std.specs.Str.{all_ascii_digits}
use Rattle.std.specs.Char.{is_ascii_digit}
use Rattle.m3_text.specs.Number.{read_on}

pub grows : (n : ℕ) (cs : List ℕ) → n ≤ read_on n cs
grows n [] = omega arith
grows n (c ∷ cs) = omega (arith, grows (10 * n + (c - 48)) cs)

-- what is left to read from place i on
pub record Reads (w : List ℕ) (n i : ℕ) : Type 0 where
  pub same : read_on n (drop i w) ≡ read_on 0 w
  pub digits : all_ascii_digits (drop i w) ≡ all_ascii_digits w

step : (w : List ℕ) (i d : ℕ) → i < length w → get_or w i 0 ≡ d → drop i w ≡ d ∷ drop (i + 1) w
step w i d lt is = rw (add-one, drop-cons w i 0, is) refl

pub next : (w : List ℕ) (n i d : ℕ) → i < length w → Reads w n i → get_or w i 0 ≡ d → is_ascii_digit d ≡ true → Reads w (10 * n + (d - 48)) (i + 1)
next w n i d lt so_far is digit =
    let e = step w i d lt is in
    let s = rw e at so_far.same in let t : (is_ascii_digit d && all_ascii_digits (drop (i + 1) w)) ≡ all_ascii_digits w = rw e at so_far.digits in
    record { same = s; digits = rw digit at t }

-- a number only grows as more digits are read
pub room : (w : List ℕ) (n i : ℕ) → i < length w → Reads w n i → read_on 0 w < 2 ^ 64 → 10 * n + (get_or w i 0 - 48) < 2 ^ 64
room w n i lt so_far small =
    let e = step w i (get_or w i 0) lt refl in
    let s = rw e at so_far.same in
    omega (arith, s, grows (10 * n + (get_or w i 0 - 48)) (drop (i + 1) w))

pub other_byte : (w : List ℕ) (n i : ℕ) → i < length w → Reads w n i → is_ascii_digit (get_or w i 0) ≡ false → all_ascii_digits w ≡ true → ⊥
other_byte w n i lt so_far digit all =
    let t : (is_ascii_digit (get_or w i 0) && all_ascii_digits (drop (i + 1) w)) ≡ all_ascii_digits w = rw (step w i (get_or w i 0) lt refl) at so_far.digits in
    let f = rw digit at t in cc

pub ended : (w : List ℕ) (n i : ℕ) → length w ≤ i → Reads w n i → (all_ascii_digits w ≡ true) × (read_on 0 w ≡ n)
ended w n i le so_far =
    let s = rw (drop_all i w le) at so_far.same in let t = rw (drop_all i w le) at so_far.digits in
    (sym t, sym s)
