-- Reading a number byte by byte, as a loop does.
use Rattle.std.proofs.Common.{◌≡◌, ℕ, zero, suc, ◌+◌, ◌-◌, ◌*◌, ◌^◌, ◌<◌, ◌≤◌, true, false, cond, List, ◌∷◌, ◌++◌, length, Ok, Err, refl, sym, ap, ◌∙◌, arith, inl, inr, ◌⊎◌, pow-suc, get_or, drop, add-one}
use Rattle.std.proofs.Common.{drop-cons, length-drop, ◌||◌, leb}
use Rattle.std.proofs.lemmas.List.{drop_all}
use Rattle.std.proofs.lemmas.Bool.{leb-true, and_parts as both}
use Rattle.std.proofs.Math.Nat.{pow-le-pow_right, mul-le-mul_left}
use Rattle.m3_wire.specs.ByteReader.{Short, Bad, is_digit_within, number_from, number}
use Rattle.byteorder.specs.Endian.{little_number, little_bytes}
use Rattle.m3_wire.proofs.ExactDecoder.{IsBytes}
use Rattle.m3_wire.proofs.LittleEndian.{bytes_are, le_is}
use Rattle.m3_wire.proofs.NumberDecoderExact.{number_exact, either}

pub record Walks (width low high : ℕ) (bytes : List ℕ) (value scale i : ℕ) : Type 0 where
  pub walk : number_from low high (width - i) value scale (drop i bytes) ≡ number width low high bytes
  pub scale_is : scale ≡ 256 ^ i
  pub below : value < scale
  pub fits : value ≤ high
  pub inside : i ≤ length bytes
  pub reach : (low ≤ value) ⊎ (value + scale ≤ high)

-- nothing is read yet
least : (low high : ℕ) → low ≤ 1 → low ≤ high → (low ≤ 0) ⊎ (0 + 1 ≤ high)
least zero high small le = inl (omega arith)
least (suc l) high small le = inr (omega arith)

pub begins : (width low high : ℕ) (bytes : List ℕ) → low ≤ 1 → low ≤ high → Walks width low high bytes 0 1 0
unfolding number
begins width low high bytes small le = record { walk = let e : width - 0 ≡ width = omega arith in rw e refl; scale_is = refl; below = omega arith; fits = omega arith; inside = omega arith; reach = least low high small le }

pub scale_small : (i width : ℕ) → i < width → width ≤ 8 → 256 ^ i ≤ 256 ^ 7
scale_small i width lt w = pow-le-pow_right {n = 256} (omega arith) {i = i} {j = 7} (omega arith)

pub product_small : (scale byte : ℕ) → byte < 256 → scale * byte ≤ scale * 255
product_small scale byte lt = mul-le-mul_left scale (omega arith)

cell : (bytes : List ℕ) (i : ℕ) → i < length bytes → drop i bytes ≡ get_or bytes i 0 ∷ drop (i + 1) bytes
cell bytes i lt = rw (add-one, drop-cons bytes i 0) refl

module _ (width low high : ℕ) (bytes : List ℕ) (value scale : ℕ) (i : ℕ) where
  abbrev next : ℕ
  next = value + scale * get_or bytes i 0

  unfold_step : i < width → i < length bytes → Walks width low high bytes value scale i
      → cond (is_digit_within low high next (256 * scale)) (number_from low high (width - (i + 1)) next (256 * scale) (drop (i + 1) bytes)) (Err (Bad (suc (length (drop (i + 1) bytes))))) ≡ number width low high bytes
  unfold_step lt some w = let k : width - i ≡ suc (width - (i + 1)) = omega arith in rw (k, cell bytes i some) at w.walk

  pub ends_short : i < width → length bytes ≤ i → Walks width low high bytes value scale i → number width low high bytes ≡ Err Short
  ends_short lt none w = let k : width - i ≡ suc (width - (i + 1)) = omega arith in sym (rw (k, drop_all i bytes none) at w.walk)

  pub ends_bad : i < width → i < length bytes → Walks width low high bytes value scale i → is_digit_within low high next (256 * scale) ≡ false
      → number width low high bytes ≡ Err (Bad (length bytes - i))
  ends_bad lt some w test =
      let n : suc (length (drop (i + 1) bytes)) ≡ length bytes - i = omega (arith, length-drop (i + 1) bytes) in
      sym (rw (test, n) at (unfold_step lt some w))

  pub more : i < width → i < length bytes → Walks width low high bytes value scale i → next < 256 * scale → is_digit_within low high next (256 * scale) ≡ true
      → Walks width low high bytes next (256 * scale) (i + 1)
  more lt some w small test = record {
    walk = rw test at (unfold_step lt some w);
    scale_is = omega (arith, w.scale_is, pow-suc 256 i, ap (λ k. 256 ^ k) (add-one i));
    below = small;
    inside = omega arith;
    fits = leb-true _ _ (both (leb next high) (leb low next || leb (next + 256 * scale) high) test).0;
    reach = elim (either (leb low next) (leb (next + 256 * scale) high) (both (leb next high) (leb low next || leb (next + 256 * scale) high) test).1) [
      | inl h ↦ inl (leb-true _ _ h)
      | inr h ↦ inr (leb-true _ _ h)
    ];
  }

  pub ends : width ≤ i → i ≤ width → Walks width low high bytes value scale i → number width low high bytes ≡ Ok (value, drop width bytes)
  ends le ge w =
      let k : width - i ≡ 0 = omega arith in
      let e : i ≡ width = omega arith in
      let here : number_from low high 0 value scale (drop i bytes) ≡ number width low high bytes = rw k at w.walk in
      sym here ∙ ap (λ k. number_from low high 0 value scale (drop k bytes)) e

-- where as many bytes are there, byteorder's number is the one
pub reads_fast : (width low high : ℕ) (bytes : List ℕ) (n : ℕ) → low ≤ 1 → high < 256 ^ width → width ≤ length bytes → IsBytes bytes → n ≡ little_number width bytes → low ≤ n → n ≤ high
    → number width low high bytes ≡ Ok (n, drop width bytes)
reads_fast width low high bytes n small fits long are is least most =
    let e : bytes ≡ little_bytes width n ++ drop width bytes = bytes_are width bytes long are ∙ ap (λ (l : List ℕ). l ++ drop width bytes) (le_is width (little_number width bytes) ∙ ap (little_bytes width) (sym is)) in
    ap (number width low high) e ∙ (number_exact width low high small (omega arith) fits).again n (drop width bytes) (least, most)

-- a walk that came to its end is in the range
pub in_range : (width low high : ℕ) (bytes : List ℕ) (value scale i : ℕ) → width ≤ i → i ≤ width → high < 256 ^ width → Walks width low high bytes value scale i → low ≤ value
in_range width low high bytes value scale i ge le fits w = elim w.reach [
  | inl h ↦ h
  | inr h ↦ absurd (let e : i ≡ width = omega arith in omega (arith, w.scale_is, ap (λ k. 256 ^ k) e))
]
