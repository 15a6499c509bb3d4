-- What an exact reader says of decoding.
use Rattle.std.proofs.Common.{◌≡◌, ℕ, suc, ◌+◌, ◌-◌, ◌<◌, List, [], ◌∷◌, ◌++◌, length, take, Result, Ok, Err, refl, sym, ap, ◌∙◌, arith, append_assoc, length-append}
use Rattle.std.proofs.lemmas.List.{take_at}
use Rattle.m3_wire.specs.declared.refusal.Part.{Part}
use Rattle.m3_wire.specs.declared.refusal.ReadError.{ReadError}
use Rattle.m3_wire.specs.declared.refusal.WireRefusal.{WireRefusal}
use Rattle.m3_wire.specs.ByteReader.{Fault, Bad, Fails}
use Rattle.m3_wire.specs.Grammar.{IsFirst, Begins, IsCut, StopsAt, Refuses, IsRead, TakesNone}
use Rattle.m3_wire.specs.Refusals.{bad_at, refusal_of, IsRefusal}
use Rattle.m3_wire.specs.Packets.{packet_part}
use Rattle.m3_wire.proofs.Results.{ok_same, ok_or_err}
use Rattle.m3_wire.proofs.ExactDecoder.{IsBytes, Cut, Stop, Exact}

pair_same : {X : Type 0} (x y : X) (n k : ℕ) → x ≡ y → n ≡ k → ◌≡◌ {A = X × ℕ} (x, n) (y, k)
pair_same x y n k e f = rw (e, f) refl

taken_none : (p : Part) (at : ℕ) → TakesNone (bad_at p at)
taken_none Part.Kind at = λ e. cc
taken_none Part.Flags at = λ e. cc
taken_none Part.Reserved at = λ e. cc
taken_none Part.Field at = λ e. cc

pub takes_none : (part_at : List ℕ → ℕ → Part) (bytes : List ℕ) (f : Fault) → TakesNone (refusal_of part_at bytes f)
takes_none part_at bytes Fault.Short = λ e. cc
takes_none part_at bytes (Fault.Bad left) = taken_none (part_at bytes (length bytes - left)) (length bytes - left)

module _ {X : Type 0} (reader : List ℕ → Result (X × List ℕ) Fault) (Good : X → Type 0) (spell : X → List ℕ) (exact : Exact reader Good spell) where
  abbrev Spells : X → List ℕ → Type 0
  Spells x text = Good x × (text ≡ spell x)

  pub first : (bytes : List ℕ) (x : X) (rest : List ℕ) (n : ℕ) → IsBytes bytes → reader bytes ≡ Ok (x, rest) → n ≡ length (spell x) → IsFirst Spells bytes x n
  first bytes x rest n are e long =
      let t = exact.sound.takes bytes x rest are e in
      (omega (arith, ap length t.1, length-append (spell x) rest), (t.0, ap (take n) t.1 ∙ take_at (spell x) rest n (sym long)))

  pub lengths : (bytes : List ℕ) (x : X) (rest : List ℕ) → IsBytes bytes → reader bytes ≡ Ok (x, rest) → length bytes ≡ length (spell x) + length rest
  lengths bytes x rest are e = ap length (exact.sound.takes bytes x rest are e).1 ∙ length-append (spell x) rest

  cut : (bytes : List ℕ) → Cut reader Good spell bytes → IsCut Spells bytes (length bytes)
  cut bytes c = (refl, c.opens.x, c.opens.more, c.longer, (c.opens.good, sym c.opens.is))

  never : (front : List ℕ) (byte : ℕ) → ((more : List ℕ) → reader (front ++ byte ∷ more) ≡ Err (Bad (suc (length more)))) → Begins Spells (front ++ byte ∷ []) → ⊥
  never front byte stays b =
      let rest : List ℕ = [] in
      let joined : spell b.0 ++ rest ≡ front ++ byte ∷ (b.1 ++ rest) =
      ap (λ (l : List ℕ). l ++ rest) (sym b.2.1 ∙ append_assoc front (byte ∷ []) b.1) ∙ append_assoc front (byte ∷ b.1) rest in
      ok_or_err (reader (spell b.0 ++ rest)) (b.0, rest) (Bad (suc (length (b.1 ++ rest)))) (exact.again b.0 rest b.2.0) (ap reader joined ∙ stays (b.1 ++ rest))

  stops : (bytes : List ℕ) (left : ℕ) → Stop reader Good spell bytes left → StopsAt Spells bytes (length bytes - left)
  stops bytes left s =
      let len : length bytes ≡ length s.front + left = ap length s.parts ∙ length-append s.front (s.byte ∷ s.back) ∙ ap (λ k. length s.front + k) (sym s.place) in
      let at : length bytes - left ≡ length s.front = omega arith in
      let some : 0 < left = omega (arith, s.place) in
      let before : take (length bytes - left) bytes ≡ s.front = ap (λ k. take k bytes) at ∙ ap (take (length s.front)) s.parts ∙ take_at s.front (s.byte ∷ s.back) (length s.front) refl in
      let joined : bytes ≡ (s.front ++ s.byte ∷ []) ++ s.back = s.parts ∙ sym (append_assoc s.front (s.byte ∷ []) s.back) in
      let long : length (s.front ++ s.byte ∷ []) ≡ length bytes - left + 1 = omega (arith, length-append s.front (s.byte ∷ [])) in
      let through : take (length bytes - left + 1) bytes ≡ s.front ++ s.byte ∷ [] =
      ap (take (length bytes - left + 1)) joined ∙ take_at (s.front ++ s.byte ∷ []) s.back (length bytes - left + 1) long in (
        omega arith,
        rw before (s.opens.x, s.opens.more, (s.opens.good, sym s.opens.is)),
        rw through (never s.front s.byte s.stays),
      )

  bad : (part_at : List ℕ → ℕ → Part) (bytes : List ℕ) (at : ℕ) (p : Part) → StopsAt Spells bytes at → part_at bytes at ≡ p → Refuses Spells part_at bytes (bad_at p at)
  bad part_at bytes at Part.Kind s e = (s, e)
  bad part_at bytes at Part.Flags s e = (s, e)
  bad part_at bytes at Part.Reserved s e = (s, e)
  bad part_at bytes at Part.Field s e = (s, e)

  pub refused : (part_at : List ℕ → ℕ → Part) (bytes : List ℕ) (f : Fault) → IsBytes bytes → reader bytes ≡ Err f → Refuses Spells part_at bytes (refusal_of part_at bytes f)
  refused part_at bytes Fault.Short are e = cut bytes (exact.sound.short bytes are e)
  refused part_at bytes (Fault.Bad left) are e =
      bad part_at bytes (length bytes - left) (part_at bytes (length bytes - left)) (stops bytes left (exact.sound.bad bytes left are e)) refl

  pub same : (bytes : List ℕ) (x y : X) (r text rest : List ℕ) → reader bytes ≡ Ok (x, r) → Spells y text → bytes ≡ text ++ rest → (x ≡ y) × (r ≡ rest)
  same bytes x y r text rest e s parts =
      let left : X × List ℕ = (x, r) in
      let right : X × List ℕ = (y, rest) in
      let both : left ≡ right = ok_same left right (sym e ∙ ap reader (parts ∙ ap (λ (l : List ℕ). l ++ rest) s.1) ∙ exact.again y rest s.0) in
      (ap (λ (p : X × List ℕ). p.0) both, ap (λ (p : X × List ℕ). p.1) both)

  pub never_refused : (bytes : List ℕ) (y : X) (f : Fault) (text rest : List ℕ) → reader bytes ≡ Err f → Spells y text → bytes ≡ text ++ rest → ⊥
  never_refused bytes y f text rest e s parts = ok_or_err (reader bytes) (y, rest) f (ap reader (parts ∙ ap (λ (l : List ℕ). l ++ rest) s.1) ∙ exact.again y rest s.0) e

  -- the same of a reading that may find no memory
  pub refused_or_none : (bytes : List ℕ) (error : ReadError) (e : WireRefusal) → IsBytes bytes → Fails error (reader bytes) → IsRefusal bytes error e → Refuses Spells packet_part bytes e
  refused_or_none bytes ReadError.NoMemory e are f is = rw is tt
  refused_or_none bytes (ReadError.Bad fault) e are f is = rw is (refused packet_part bytes fault are f)

  pub read_or_none : {Y : Type 0} (bytes : List ℕ) (error : ReadError) (e : WireRefusal) (x : X) (y : Y) (text rest : List ℕ) → Fails error (reader bytes) → IsRefusal bytes error e → Spells x text → bytes ≡ text ++ rest → IsRead (Err e) y
  read_or_none bytes ReadError.NoMemory e x y text rest f is s parts = rw is tt
  read_or_none bytes (ReadError.Bad fault) e x y text rest f is s parts = absurd (never_refused bytes x fault text rest f s parts)

  -- and how many bytes it took
  pub taken_of : (bytes : List ℕ) (x y : X) (r text rest : List ℕ) → reader bytes ≡ Ok (x, r) → Spells y text → bytes ≡ text ++ rest → ◌≡◌ {A = X × ℕ} (x, length bytes - length r) (y, length text)
  taken_of bytes x y r text rest e s parts =
      let t = same bytes x y r text rest e s parts in
      let n : length bytes - length r ≡ length text = omega (arith, ap length parts, length-append text rest, ap length t.1) in
      pair_same x y (length bytes - length r) (length text) t.0 n
