-- What a write leaves of the bytes of memory, and where the slots of a ring are.
use Rattle.std.proofs.Common.{◌≡◌, ◌≢◌, ℕ, zero, suc, ◌+◌, ◌-◌, ◌*◌, ◌/◌, ◌%◌, ◌<◌, ◌≤◌, List, [], ◌∷◌, ◌++◌, length, take, drop, refl, sym, ◌∙◌, ap, arith, inl, inr, length-append, length-take, length-drop}
use Rattle.std.specs.Prelude.{◌⊎◌}
use Rattle.std.proofs.lemmas.Nat.{mod_below}
use Rattle.std.proofs.Math.Nat.{div-add-mod, mul-le-mul_left, mul-le-mul_right, suc-mul, mul-suc}
use Rattle.std.proofs.Math.Seq.{take-append_seam}
use Rattle.m3_base.specs.Ideal.Landing.{bytes_at, written_at}
use Rattle.m3_pipe_laws.specs.Protocol.{slot}
use Rattle.m3_pipe_laws.specs.Pipe.{Disjoint}

-- bytes before the write
before : (p len q : ℕ) (m rest : List ℕ) → p + len ≤ q → p + len ≤ length m → take len (drop p (take q m ++ rest)) ≡ take len (drop p m)
before zero zero q m rest h k = refl
before zero (suc len) zero m rest h k = absurd (omega arith)
before zero (suc len) (suc q) [] rest h k = absurd (omega arith)
before zero (suc len) (suc q) (x ∷ m) rest h k = ap (λ z. x ∷ z) (before zero len q m rest (omega arith) (omega arith))
before (suc p) len zero m rest h k = absurd (omega arith)
before (suc p) len (suc q) [] rest h k = absurd (omega arith)
before (suc p) len (suc q) (x ∷ m) rest h k = before p len q m rest (omega arith) (omega arith)

-- bytes after it
dropped : (n : ℕ) (xs ys : List ℕ) → length xs ≤ n → drop n (xs ++ ys) ≡ drop (n - length xs) ys
dropped n [] ys h = let e : n - 0 ≡ n = omega arith in rw e refl
dropped zero (x ∷ xs) ys h = absurd (omega arith)
dropped (suc n) (x ∷ xs) ys h = let e : suc n - suc (length xs) ≡ n - length xs = omega arith in rw e (dropped n xs ys (omega arith))

drop_nil : (n : ℕ) → drop {A = ℕ} n [] ≡ []
drop_nil zero = refl
drop_nil (suc n) = refl

drop_twice : (a b : ℕ) (xs : List ℕ) → drop a (drop b xs) ≡ drop (b + a) xs
drop_twice a zero xs = let e : 0 + a ≡ a = omega arith in rw e refl
drop_twice a (suc b) [] = drop_nil a ∙ sym (drop_nil (suc b + a))
drop_twice a (suc b) (x ∷ xs) = let e : suc b + a ≡ suc (b + a) = omega arith in rw e (drop_twice a b xs)

pub bytes_before : (p len q : ℕ) (b m : List ℕ) → p + len ≤ q → p + len ≤ length m → bytes_at p len (written_at q b m) ≡ bytes_at p len m
bytes_before p len q b m h k = before p len q m (b ++ drop (q + length b) m) h k

pub bytes_after : (p len q : ℕ) (b m : List ℕ) → q + length b ≤ p → q ≤ length m → bytes_at p len (written_at q b m) ≡ bytes_at p len m
bytes_after p len q b m h k =
    let t : length (take q m) ≡ q = length-take q m ∙ omega arith in
    let one = dropped p (take q m) (b ++ drop (q + length b) m) (omega arith) in
    let two = dropped (p - length (take q m)) b (drop (q + length b) m) (omega arith) in
    let three = drop_twice ((p - length (take q m)) - length b) (q + length b) m in
    let four : (q + length b) + ((p - length (take q m)) - length b) ≡ p = omega arith in
    ap (take len) (one ∙ two ∙ three ∙ ap (λ z. drop z m) four)

-- bytes of the write itself
pub bytes_same : (q : ℕ) (b m : List ℕ) → q ≤ length m → bytes_at q (length b) (written_at q b m) ≡ b
bytes_same zero b m h = take-append_seam b (drop (0 + length b) m)
bytes_same (suc q) b [] h = absurd (omega arith)
bytes_same (suc q) b (x ∷ m) h = let e : suc q + length b ≡ suc (q + length b) = omega arith in rw e (bytes_same q b m (omega arith))

-- a write never makes memory shorter
pub no_shorter : (q : ℕ) (b m : List ℕ) → length m ≤ length (written_at q b m)
no_shorter q b m =
    let one = length-append (take q m) (b ++ drop (q + length b) m) in
    let two = length-append b (drop (q + length b) m) in
    let three = length-drop (q + length b) m in
    let four = length-take q m in
    omega (arith, one, two, three, four)

-- ---- slots

-- chunks that are less than a ring apart have different slots
pub other_slot : (ring i j : ℕ) → 1 ≤ ring → i < j → j < i + ring → (i % ring) ≢ (j % ring)
other_slot ring i j one l m e =
    by_order (nat_cases (i / ring) (j / ring))
  where
    nat_cases : (a b : ℕ) → (a < b) ⊎ (b ≤ a)
    nat_cases a zero = inr (omega arith)
    nat_cases zero (suc b) = inl (omega arith)
    nat_cases (suc a) (suc b) = elim (nat_cases a b) [ inl h ↦ inl (omega arith) | inr h ↦ inr (omega arith) ]

    by_order : (i / ring < j / ring) ⊎ (j / ring ≤ i / ring) → ⊥
    by_order (inl h) =
        let a = div-add-mod i ring in
        let b = div-add-mod j ring in
        let c : ring * suc (i / ring) ≤ ring * (j / ring) = mul-le-mul_left ring (omega arith) in
        let d = mul-suc ring (i / ring) in
        omega (arith, a, b, c, d, e)
    by_order (inr h) =
        let a = div-add-mod i ring in
        let b = div-add-mod j ring in
        let c : ring * (j / ring) ≤ ring * (i / ring) = mul-le-mul_left ring h in
        omega (arith, a, b, c, e)

-- different slots have no byte in common
pub apart_slots : (chunk a b : ℕ) → a ≢ b → Disjoint (a * chunk) chunk (b * chunk) chunk
apart_slots chunk a b ne = by_order (nat_cases a b)
  where
    nat_cases : (x y : ℕ) → (x ≡ y) ⊎ ((x < y) ⊎ (y < x))
    nat_cases zero zero = inl refl
    nat_cases zero (suc y) = inr (inl (omega arith))
    nat_cases (suc x) zero = inr (inr (omega arith))
    nat_cases (suc x) (suc y) = elim (nat_cases x y) [ inl h ↦ inl (ap suc h) | inr h ↦ inr (elim h [ inl k ↦ inl (omega arith) | inr k ↦ inr (omega arith) ]) ]

    by_order : (a ≡ b) ⊎ ((a < b) ⊎ (b < a)) → Disjoint (a * chunk) chunk (b * chunk) chunk
    by_order (inl h) = absurd (ne h)
    by_order (inr (inl h)) = let k : suc a * chunk ≤ b * chunk = mul-le-mul_right chunk (omega arith) in let e = suc-mul a chunk in inl (omega (arith, k, e))
    by_order (inr (inr h)) = let k : suc b * chunk ≤ a * chunk = mul-le-mul_right chunk (omega arith) in let e = suc-mul b chunk in inr (omega (arith, k, e))

-- a slot is within the ring
pub slot_inside : (ring chunk i : ℕ) → 1 ≤ ring → slot ring chunk i + chunk ≤ ring * chunk
slot_inside ring chunk i one =
    let b = mod_below i ring (omega arith) in
    let k : suc (i % ring) * chunk ≤ ring * chunk = mul-le-mul_right chunk (omega (arith, b)) in
    let e = suc-mul (i % ring) chunk in
    omega (arith, k, e)
