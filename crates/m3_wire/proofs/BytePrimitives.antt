-- Bytes as they stand, and bytes that stand for something, are read exactly.
use Rattle.std.proofs.Common.{◌≡◌, ℕ, suc, ◌-◌, ◌<◌, Bool, true, false, cond, ltb, List, [], ◌∷◌, ◌++◌, length, take, drop, Result, Ok, Err, Option, Some, None, refl, sym, ap, subst, arith, replicate}
use Rattle.std.proofs.lemmas.Bool.{ltb-true, ltb-false, le-ltb}
use Rattle.std.proofs.lemmas.List.{take-append-drop, length-take, length-append, take_at, drop_at, length-replicate}
use Rattle.m3_wire.specs.ByteReader.{Fault, Short, Bad, some_bytes, coded, picked_value, byte, byte_passing}
use Rattle.m3_wire.proofs.Results.{ok_same, err_same, left_same}
use Rattle.m3_wire.proofs.ExactDecoder.{Opens, Cut, Stop, Exact}

-- a list of this length
abbrev pub IsLong : ℕ → List ℕ → Type 0
IsLong n x = length x ≡ n

abbrev pub as_is : List ℕ → List ℕ
as_is x = x

module _ (n : ℕ) where
  abbrev cut : Bool → List ℕ → Result (List ℕ × List ℕ) Fault
  cut short bytes = cond short (Err Short) (Ok (take n bytes, drop n bytes))

  no_bad : (b : Bool) (bytes : List ℕ) (left : ℕ) → cut b bytes ≡ Err (Bad left) → ⊥
  no_bad true bytes left e = let f = err_same (List ℕ × List ℕ) Short (Bad left) e in cc
  no_bad false bytes left e = cc

  taken : (b : Bool) (bytes x rest : List ℕ) → ltb (length bytes) n ≡ b → cut b bytes ≡ Ok (x, rest) → IsLong n x × (bytes ≡ x ++ rest)
  taken true bytes x rest is e = absurd cc
  taken false bytes x rest is e =
      let p : List ℕ × List ℕ = (take n bytes, drop n bytes) in let q : List ℕ × List ℕ = (x, rest) in
      let P : List ℕ × List ℕ → Type 0 = λ r. IsLong n r.0 × (bytes ≡ r.0 ++ r.1) in
      subst P (ok_same p q e) (omega (arith, length-take n bytes, ltb-false _ _ is), sym (take-append-drop n bytes))

  is_short : (b : Bool) (bytes : List ℕ) → ltb (length bytes) n ≡ b → cut b bytes ≡ Err Short → Cut (some_bytes n) (IsLong n) as_is bytes
  is_short true bytes is e =
      let lt : length bytes < n = ltb-true _ _ is in
      let more = replicate (n - length bytes) 0 in
      let len : length more ≡ n - length bytes = length-replicate (n - length bytes) 0 in
      record { opens = record { x = bytes ++ more; more = more; good = omega (arith, length-append bytes more); is = refl }; longer = omega arith }
  is_short false bytes is e = absurd cc

  pub bytes_exact : Exact (some_bytes n) (IsLong n) as_is
  unfolding some_bytes
  bytes_exact = record {
    sound = record {
      takes = λ bytes x rest are e. taken (ltb (length bytes) n) bytes x rest refl e;
      short = λ bytes are e. is_short (ltb (length bytes) n) bytes refl e;
      bad = λ bytes left are e. absurd (no_bad (ltb (length bytes) n) bytes left e);
      some = (replicate n 0, length-replicate n 0);
    };
    again = λ x rest t.
        let long : ltb (length (x ++ rest)) n ≡ false = le-ltb _ _ (omega (arith, t, length-append x rest)) in
        rw (long, take_at x rest n t, drop_at x rest n t) refl;
  }

module _ {X : Type 0} (pick : ℕ → Option X) (Good : X → Type 0) (code : X → ℕ) (known : (x : X) → Good x → pick (code x) ≡ Some x) (of : (c : ℕ) (x : X) → pick c ≡ Some x → Good x × (c ≡ code x)) (x : X) (good : Good x) where
  abbrev one_byte : X → List ℕ
  one_byte y = code y ∷ []

  abbrev some : Option X → List ℕ → Result (X × List ℕ) Fault
  some found bytes = picked_value found bytes

  opens : Opens (coded pick) Good one_byte []
  opens = record { x = x; more = code x ∷ []; good = good; is = refl }

  takes : (bytes : List ℕ) (y : X) (rest : List ℕ) → coded pick bytes ≡ Ok (y, rest) → Good y × (bytes ≡ one_byte y ++ rest)
  unfolding coded
  takes [] y rest e = absurd cc
  takes (c ∷ bytes) y rest e = go (pick c) refl e
    where
      go : (found : Option X) → pick c ≡ found → some found bytes ≡ Ok (y, rest) → Good y × (c ∷ bytes ≡ code y ∷ rest)
      go (Some z) is f =
          let p : X × List ℕ = (z, bytes) in let q : X × List ℕ = (y, rest) in
          let P : X × List ℕ → Type 0 = λ r. Good r.0 × (c ∷ bytes ≡ code r.0 ∷ r.1) in
          let o = of c z is in
          subst P (ok_same p q f) (o.0, ap (λ (k : ℕ). k ∷ bytes) o.1)
      go None is f = absurd cc

  again : (y : X) (rest : List ℕ) → Good y → coded pick (one_byte y ++ rest) ≡ Ok (y, rest)
  unfolding coded
  again y rest g = rw (known y g) refl

  short : (bytes : List ℕ) → coded pick bytes ≡ Err Short → Cut (coded pick) Good one_byte bytes
  unfolding coded opens
  short [] e = record { opens = opens; longer = omega arith }
  short (c ∷ bytes) e = go (pick c) e
    where
      go : (found : Option X) → some found bytes ≡ Err Short → Cut (coded pick) Good one_byte (c ∷ bytes)
      go (Some z) f = absurd cc
      go None f = let g = err_same (X × List ℕ) (Bad (suc (length bytes))) Short f in absurd cc

  bad : (bytes : List ℕ) (left : ℕ) → coded pick bytes ≡ Err (Bad left) → Stop (coded pick) Good one_byte bytes left
  unfolding coded
  bad [] left e = let g = err_same (X × List ℕ) Short (Bad left) e in absurd cc
  bad (c ∷ bytes) left e = go (pick c) refl e
    where
      go : (found : Option X) → pick c ≡ found → some found bytes ≡ Err (Bad left) → Stop (coded pick) Good one_byte (c ∷ bytes) left
      go (Some z) is f = absurd cc
      go None is f = record {
        front = [];
        byte = c;
        back = bytes;
        parts = refl;
        place = sym (left_same (X × List ℕ) (suc (length bytes)) left f);
        opens = opens;
        stays = λ more. rw is refl;
      }

  pub coded_exact : Exact (coded pick) Good one_byte
  coded_exact = record {
    sound = record { takes = λ bytes y rest are e. takes bytes y rest e; short = λ bytes are e. short bytes e; bad = λ bytes left are e. bad bytes left e; some = (x, good) };
    again = again;
  }

abbrev pub itself : ℕ → ℕ
itself c = c

abbrev the_some : ℕ → Option ℕ
the_some c = Some c

module _ (test : ℕ → Bool) (Good : ℕ → Type 0) (passes : (c : ℕ) → Good c → test c ≡ true) (fits : (c : ℕ) → test c ≡ true → Good c) where
  known : (c : ℕ) → Good c → byte_passing test c ≡ Some c
  known c g = rw (passes c g) refl

  some_is : (a b : ℕ) → the_some a ≡ the_some b → a ≡ b
  some_is a b e = cc

  of : (c x : ℕ) → byte_passing test c ≡ Some x → Good x × (c ≡ x)
  of c x e = go (test c) refl e
    where
      go : (b : Bool) → test c ≡ b → cond b (Some c) None ≡ Some x → Good x × (c ≡ x)
      go true is f = let same : c ≡ x = some_is c x f in (subst Good same (fits c is), same)
      go false is f = absurd cc

  pub byte_exact : (x : ℕ) → Good x → Exact (byte test) Good (λ y. itself y ∷ [])
  byte_exact x good = coded_exact (byte_passing test) Good itself known of x good
