-- Numbers are read exactly.
use Rattle.std.proofs.Common.{◌≡◌, ℕ, zero, suc, ◌+◌, ◌*◌, ◌/◌, ◌%◌, ◌^◌, ◌<◌, ◌≤◌, Bool, true, false, ◌&&◌, ◌||◌, leb, List, [], ◌∷◌, ◌++◌, length, Result, Ok, Err, refl, sym, ap, ◌∙◌, arith, inl, inr, ◌⊎◌, pow-suc}
use Rattle.std.proofs.lemmas.Bool.{cases_lt, leb-true, le-leb, and_parts}
use Rattle.m3_wire.specs.ByteReader.{Fault, Short, Bad, is_digit_within, number_from, number}
use Rattle.byteorder.specs.Endian.{little_bytes}
use Rattle.m3_wire.proofs.Results.{ok, ok_same, left_same}
use Rattle.m3_wire.proofs.ExactDecoder.{IsBytes, Exact}
use Rattle.m3_wire.proofs.LittleEndian.{le, le_is}
use Rattle.m3_base.specs.Limits.{Within}

pub either : (a b : Bool) → (a || b) ≡ true → (a ≡ true) ⊎ (b ≡ true)
either true b e = inl refl
either false true e = inr refl
either false false e = absurd cc

pub right : (a b : Bool) → b ≡ true → (a || b) ≡ true
right true b e = refl
right false b e = e

module _ (low high : ℕ) where
  -- x is n with j more bytes, of which the next counts m
  pub record Tail (j n m x : ℕ) (text : List ℕ) : Type 0 where
    pub more : ℕ
    pub text_is : text ≡ le j more
    pub x_is : x ≡ n + m * more
    pub small : more < 256 ^ j
    pub least : low ≤ x
    pub most : x ≤ high

  -- bytes that stand for n go on
  pub record Open (j n m : ℕ) : Type 0 where
    pub low_small : low ≤ 1
    pub counts : 1 ≤ m
    pub fits : n ≤ high
    pub reach : (low ≤ n) ⊎ (n + m ≤ high)
    pub last : high < m * 256 ^ j

  one_le_pow : (j : ℕ) → 1 ≤ 256 ^ j
  one_le_pow zero = omega arith
  one_le_pow (suc j) = omega (arith, one_le_pow j, pow-suc 256 j)

  -- some number has these bytes first
  some : (j n m : ℕ) → Open j n m → (x : ℕ) × (text : List ℕ) × Tail j n m x text
  some j n m o = elim o.reach [
    | inl here ↦ (n, le j 0, record { more = 0; text_is = refl; x_is = omega arith; small = omega (arith, one_le_pow j); least = here; most = o.fits })
    | inr later ↦ (n + m, le j 1, record { more = 1; text_is = refl; x_is = omega arith; small = long j o later; least = omega (arith, o.counts, o.low_small); most = later })
  ]
    where
      long : (j : ℕ) → Open j n m → n + m ≤ high → 1 < 256 ^ j
      long zero o later = absurd (omega (arith, o.last))
      long (suc j) o later = omega (arith, one_le_pow j, pow-suc 256 j)

  ends : (j n m : ℕ) → j ≡ 0 → Open j n m → {x : ℕ} → n ≡ x → low ≤ x
  ends j n m none o e = elim o.reach [
    | inl here ↦ omega (arith, e)
    | inr more ↦ absurd (omega (arith, o.last, ap (λ k. m * 256 ^ k) none))
  ]

  -- what a test that passed says
  opens : (j n m c : ℕ) → Open (suc j) n m → is_digit_within low high (n + m * c) (256 * m) ≡ true → Open j (n + m * c) (256 * m)
  opens j n m c o test = record {
    low_small = o.low_small;
    counts = omega (arith, o.counts);
    fits = (passed test).0;
    reach = (passed test).1;
    last = omega (arith, o.last, ap (λ p. m * p) (pow-suc 256 j));
  }
    where
      passed : is_digit_within low high (n + m * c) (256 * m) ≡ true → (n + m * c ≤ high) × ((low ≤ n + m * c) ⊎ (n + m * c + 256 * m ≤ high))
      passed test =
          let e = and_parts (leb (n + m * c) high) (leb low (n + m * c) || leb (n + m * c + 256 * m) high) test in (
            leb-true _ _ e.0,
            elim (either (leb low (n + m * c)) (leb (n + m * c + 256 * m) high) e.1) [
              | inl h ↦ inl (leb-true _ _ h)
              | inr h ↦ inr (leb-true _ _ h)
            ],
          )

  -- a number whose next byte is c
  next_byte : (j n m c x : ℕ) (text : List ℕ) → c < 256 → Tail j (n + m * c) (256 * m) x text → Tail (suc j) n m x (c ∷ text)
  next_byte j n m c x text byte t =
      let head : (c + 256 * t.more) % 256 ≡ c = omega arith in
      let rest : (c + 256 * t.more) / 256 ≡ t.more = omega arith in
      record {
        more = c + 256 * t.more;
        text_is = rw (head, rest, t.text_is) refl;
        x_is = omega (arith, t.x_is);
        small = omega (arith, t.small, pow-suc 256 j);
        least = t.least;
        most = t.most;
      }

  byte_next : (j n m c x : ℕ) (text : List ℕ) → Tail (suc j) n m x (c ∷ text) → Tail j (n + m * c) (256 * m) x text
  byte_next j n m c x text t =
      let head : c ≡ t.more % 256 = ap first t.text_is in
      let split : t.more ≡ c + 256 * (t.more / 256) = omega arith in
      record {
        more = t.more / 256;
        text_is = ap rest t.text_is;
        x_is = t.x_is ∙ ap (λ y. n + m * y) split ∙ omega arith;
        small = omega (arith, t.small, pow-suc 256 j);
        least = t.least;
        most = t.most;
      }
    where
      first : List ℕ → ℕ
      first [] = 0
      first (x ∷ xs) = x

      rest : List ℕ → List ℕ
      rest [] = []
      rest (x ∷ xs) = xs

  -- where the test fails, no number goes on
  closed : (j n m c x : ℕ) (text : List ℕ) → is_digit_within low high (n + m * c) (256 * m) ≡ false → Tail (suc j) n m x (c ∷ text) → ⊥
  closed j n m c x text test t =
      let u = byte_next j n m c x text t in
      let below : leb (n + m * c) high ≡ true = le-leb _ _ (omega (arith, u.x_is, u.most)) in
      let yes : is_digit_within low high (n + m * c) (256 * m) ≡ true = rw below (elim (cases_lt (n + m * c) low) [
        | inr here ↦ rw (le-leb _ _ here) refl
        | inl less ↦ right (leb low (n + m * c)) (leb (n + m * c + 256 * m) high) (le-leb _ _ (reaches j n m c x text less u))
      ]) in
      let no : true ≡ false = sym yes ∙ test in absurd cc
    where
      reaches : (j n m c x : ℕ) (text : List ℕ) → n + m * c < low → Tail j (n + m * c) (256 * m) x text → n + m * c + 256 * m ≤ high
      reaches j n m c x text less u = go u.more u.x_is
        where
          go : (y : ℕ) → x ≡ n + m * c + 256 * m * y → n + m * c + 256 * m ≤ high
          go zero e = absurd (omega (arith, u.least))
          go (suc y) e = omega (arith, u.most)

  abbrev walk : ℕ → ℕ → ℕ → List ℕ → Result (ℕ × List ℕ) Fault
  walk j n m bytes = number_from low high j n m bytes

  abbrev Ends : ℕ → ℕ → ℕ → List ℕ → ℕ → Type 0
  Ends j n m bytes left = (front : List ℕ) × (byte : ℕ) × (back : List ℕ) × (bytes ≡ front ++ byte ∷ back) × (left ≡ suc (length back))
      × ((x : ℕ) × (more : List ℕ) × Tail j n m x (front ++ more)) × ((more : List ℕ) → walk j n m (front ++ byte ∷ more) ≡ Err (Bad (suc (length more))))

  fits-rest : (c : ℕ) (bytes : List ℕ) → IsBytes (c ∷ bytes) → IsBytes bytes
  fits-rest c bytes h i = h (suc i)

  -- a walk over the bytes of numbers is as it should be
  pub record Walked (j n m : ℕ) : Type 0 where
    pub takes : (bytes : List ℕ) (x : ℕ) (rest : List ℕ) → IsBytes bytes → walk j n m bytes ≡ Ok (x, rest) → (text : List ℕ) × (bytes ≡ text ++ rest) × Tail j n m x text
    pub again : (x : ℕ) (text rest : List ℕ) → Tail j n m x text → walk j n m (text ++ rest) ≡ Ok (x, rest)
    pub short : (bytes : List ℕ) → IsBytes bytes → walk j n m bytes ≡ Err Short → (x : ℕ) × (more : List ℕ) × (0 < length more) × Tail j n m x (bytes ++ more)
    pub bad : (bytes : List ℕ) (left : ℕ) → IsBytes bytes → walk j n m bytes ≡ Err (Bad left) → Ends j n m bytes left

  module _ (j n m : ℕ) (o : Open (suc j) n m) (ih : (c : ℕ) → is_digit_within low high (n + m * c) (256 * m) ≡ true → Walked j (n + m * c) (256 * m)) where
    takes : (bytes : List ℕ) (x : ℕ) (rest : List ℕ) → IsBytes bytes → walk (suc j) n m bytes ≡ Ok (x, rest) → (text : List ℕ) × (bytes ≡ text ++ rest) × Tail (suc j) n m x text
    takes [] x rest are e = absurd cc
    takes (c ∷ bytes) x rest are e = go (is_digit_within low high (n + m * c) (256 * m)) refl
      where
        go : (b : Bool) → is_digit_within low high (n + m * c) (256 * m) ≡ b → (text : List ℕ) × (c ∷ bytes ≡ text ++ rest) × Tail (suc j) n m x text
        go true test =
            let t = (ih c test).takes bytes x rest (fits-rest c bytes are) (rw test at e) in
            (c ∷ t.0, ap (λ (l : List ℕ). c ∷ l) t.1, next_byte j n m c x t.0 (are 0) t.2)
        go false test = let f = rw test at e in absurd cc

    again : (x : ℕ) (text rest : List ℕ) → Tail (suc j) n m x text → walk (suc j) n m (text ++ rest) ≡ Ok (x, rest)
    again x [] rest t = let f = t.text_is in absurd cc
    again x (c ∷ text) rest t = go (is_digit_within low high (n + m * c) (256 * m)) refl
      where
        go : (b : Bool) → is_digit_within low high (n + m * c) (256 * m) ≡ b → walk (suc j) n m (c ∷ text ++ rest) ≡ Ok (x, rest)
        go true test = rw test ((ih c test).again x text rest (byte_next j n m c x text t))
        go false test = absurd (closed j n m c x text test t)

    short : (bytes : List ℕ) → IsBytes bytes → walk (suc j) n m bytes ≡ Err Short → (x : ℕ) × (more : List ℕ) × (0 < length more) × Tail (suc j) n m x (bytes ++ more)
    short [] are e = let s = some (suc j) n m o in (s.0, s.1, rw s.2.text_is (omega arith), s.2)
    short (c ∷ bytes) are e = go (is_digit_within low high (n + m * c) (256 * m)) refl
      where
        go : (b : Bool) → is_digit_within low high (n + m * c) (256 * m) ≡ b → (x : ℕ) × (more : List ℕ) × (0 < length more) × Tail (suc j) n m x (c ∷ bytes ++ more)
        go true test =
            let t = (ih c test).short bytes (fits-rest c bytes are) (rw test at e) in
            (t.0, t.1, t.2, next_byte j n m c t.0 (bytes ++ t.1) (are 0) t.3)
        go false test = let f = rw test at e in absurd cc

    bad : (bytes : List ℕ) (left : ℕ) → IsBytes bytes → walk (suc j) n m bytes ≡ Err (Bad left) → Ends (suc j) n m bytes left
    bad [] left are e = absurd cc
    bad (c ∷ bytes) left are e = go (is_digit_within low high (n + m * c) (256 * m)) refl
      where
        go : (b : Bool) → is_digit_within low high (n + m * c) (256 * m) ≡ b → Ends (suc j) n m (c ∷ bytes) left
        go true test =
            let s = (ih c test).bad bytes left (fits-rest c bytes are) (rw test at e) in
            (c ∷ s.0, s.1, s.2, ap (λ (t : List ℕ). c ∷ t) s.3, s.4, (s.5.0, s.5.1, next_byte j n m c s.5.0 (s.0 ++ s.5.1) (are 0) s.5.2), λ more. rw test (s.6 more))
        go false test =
            let s = some (suc j) n m o in
            let e' = rw test at e in
            ([], c, bytes, refl, sym (left_same (ℕ × List ℕ) (suc (length bytes)) left e'), (s.0, s.1, s.2), λ more. rw test refl)

  same_here : (n m x : ℕ) (more : ℕ) → x ≡ n + m * more → more < 1 → x ≡ n
  same_here n m x zero e lt = omega (arith, e)
  same_here n m x (suc k) e lt = absurd (omega arith)

  pair_is : (p q : ℕ × List ℕ) → ok p ≡ ok q → (p.0 ≡ q.0) × (p.1 ≡ q.1)
  pair_is p q e = let f = ok_same p q e in (ap (λ (r : ℕ × List ℕ). r.0) f, ap (λ (r : ℕ × List ℕ). r.1) f)

  walked : (j n m : ℕ) → Open j n m → Walked j n m
  walked zero n m o = record {
    takes = λ bytes x rest are e. let p = pair_is (n, bytes) (x, rest) e in
        ([], p.1, record { more = 0; text_is = refl; x_is = omega (arith, p.0); small = omega arith; least = ends zero n m refl o p.0; most = omega (arith, p.0, o.fits) });
    again = λ x text rest t. rw (t.text_is, same_here n m x t.more t.x_is t.small) refl;
    short = λ bytes are e. absurd cc;
    bad = λ bytes left are e. absurd cc;
  }
  walked (suc j) n m o = let ih = λ (c : ℕ) (test : is_digit_within low high (n + m * c) (256 * m) ≡ true). walked j (n + m * c) (256 * m) (opens j n m c o test) in
      record { takes = takes j n m o ih; again = again j n m o ih; short = short j n m o ih; bad = bad j n m o ih }

pub number_exact : (width low high : ℕ) → low ≤ 1 → low ≤ high → high < 256 ^ width → Exact (number width low high) (Within low high) (little_bytes width)
unfolding number
number_exact width low high small le' fits =
    let w = walked low high width 0 1 (record { low_small = small; counts = omega arith; fits = omega arith; reach = reach low high small le'; last = omega (arith, fits) }) in record {
      sound = record {
        takes = λ bytes x rest are is. let t = w.takes bytes x rest are is in let u = to x t.0 t.2 in (u.0, t.1 ∙ ap (λ (l : List ℕ). l ++ rest) u.1);
        short = λ bytes are is. let t = w.short bytes are is in let u = to t.0 (bytes ++ t.1) t.3 in
            record { opens = record { x = t.0; more = t.1; good = u.0; is = sym u.1 }; longer = t.2 };
        bad = λ bytes left are is. let s = w.bad bytes left are is in let u = to s.5.0 (s.0 ++ s.5.1) s.5.2 in record {
          front = s.0;
          byte = s.1;
          back = s.2;
          parts = s.3;
          place = s.4;
          opens = record { x = s.5.0; more = s.5.1; good = u.0; is = sym u.1 };
          stays = s.6;
        };
        some = (low, (omega arith, le'));
      };
      again = λ x rest g. w.again x (little_bytes width x) rest (record { more = x; text_is = sym (le_is width x); x_is = omega arith; small = omega (arith, g.1, fits); least = g.0; most = g.1 });
    }
  where
    reach : (low high : ℕ) → low ≤ 1 → low ≤ high → (low ≤ 0) ⊎ (0 + 1 ≤ high)
    reach zero high small le' = inl (omega arith)
    reach (suc l) high small le' = inr (omega arith)

    to : (x : ℕ) (text : List ℕ) → Tail low high width 0 1 x text → Within low high x × (text ≡ little_bytes width x)
    to x text t = let e : x ≡ t.more = omega (arith, t.x_is) in ((t.least, t.most), t.text_is ∙ le_is width t.more ∙ ap (little_bytes width) (sym e))
