-- What it means that a reader is exact, and how readers are put together.
use Rattle.std.proofs.Common.{◌≡◌, ℕ, suc, ◌<◌, ◌≤◌, List, [], ◌∷◌, ◌++◌, length, slice_index, Result, Ok, Err, refl, sym, ap, subst, ◌∙◌, arith, inl, inr, append_assoc, length-append}
use Rattle.m3_wire.specs.ByteReader.{Fault, Short, Bad, ◌>>=◌, pair, mapped}
use Rattle.m3_wire.proofs.Results.{ok_same, ok_or_err, bind_ok, bind_err}

abbrev pub IsBytes : List ℕ → Type 0
IsBytes bytes = (i : ℕ) → slice_index bytes i < 256

module _ {X : Type 0} (reader : List ℕ → Result (X × List ℕ) Fault) (Good : X → Type 0) (spell : X → List ℕ) where
  -- some spelling begins with these bytes
  pub record Opens (front : List ℕ) : Type 0 where
    pub x : X
    pub more : List ℕ
    pub good : Good x
    pub is : spell x ≡ front ++ more

  pub record Cut (bytes : List ℕ) : Type 0 where
    pub opens : Opens bytes
    pub longer : 0 < length opens.more

  -- the bytes begin a spelling up to some byte, at which the reader stops whatever follows
  pub record Stop (bytes : List ℕ) (left : ℕ) : Type 0 where
    pub front : List ℕ
    pub byte : ℕ
    pub back : List ℕ
    pub parts : bytes ≡ front ++ byte ∷ back
    pub place : left ≡ suc (length back)
    pub opens : Opens front
    pub stays : (more : List ℕ) → reader (front ++ byte ∷ more) ≡ Err (Bad (suc (length more)))

  -- what is read is spelled so, and faults are as they should be
  pub record Sound : Type 0 where
    pub takes : (bytes : List ℕ) (x : X) (rest : List ℕ) → IsBytes bytes → reader bytes ≡ Ok (x, rest) → Good x × (bytes ≡ spell x ++ rest)
    pub short : (bytes : List ℕ) → IsBytes bytes → reader bytes ≡ Err Short → Cut bytes
    pub bad : (bytes : List ℕ) (left : ℕ) → IsBytes bytes → reader bytes ≡ Err (Bad left) → Stop bytes left
    pub some : (x : X) × Good x

  -- and what is spelled is read
  pub record Exact : Type 0 where
    pub sound : Sound
    pub again : (x : X) (rest : List ℕ) → Good x → reader (spell x ++ rest) ≡ Ok (x, rest)

pub after : (one two : List ℕ) → IsBytes (one ++ two) → IsBytes two
after [] two are = are
after (b ∷ one) two are = after one two (λ i. are (suc i))

pub after_of : (bytes one two : List ℕ) → bytes ≡ one ++ two → IsBytes bytes → IsBytes two
after_of bytes one two e are = let P : List ℕ → Type 0 = IsBytes in after one two (subst P e are)

module _ {X Y : Type 0} (reader : List ℕ → Result (X × List ℕ) Fault) (Good : X → Type 0) (spell : X → List ℕ)
    (next : X → List ℕ → Result (Y × List ℕ) Fault) (Good' : X → Y → Type 0) (spell' : X → Y → List ℕ)
    (one : Exact reader Good spell) (two : (x : X) → Good x → Sound (next x) (Good' x) (spell' x)) where
  abbrev joined : X → Y × List ℕ → Result ((X × Y) × List ℕ) Fault
  joined x q = Ok ((x, q.0), q.1)

  abbrev both : List ℕ → Result ((X × Y) × List ℕ) Fault
  both bytes = reader bytes >>= λ p. next p.0 p.1 >>= joined p.0

  abbrev GoodBoth : X × Y → Type 0
  GoodBoth z = Good z.0 × Good' z.0 z.1

  abbrev spell_both : X × Y → List ℕ
  spell_both z = spell z.0 ++ spell' z.0 z.1

  takes : (bytes : List ℕ) (z : X × Y) (rest : List ℕ) → IsBytes bytes → both bytes ≡ Ok (z, rest) → GoodBoth z × (bytes ≡ spell_both z ++ rest)
  takes bytes z rest are e =
      let a = bind_ok (reader bytes) (λ p. next p.0 p.1 >>= joined p.0) (z, rest) e in
      let b = bind_ok (next a.0.0 a.0.1) (joined a.0.0) (z, rest) a.2 in
      let t = one.sound.takes bytes a.0.0 a.0.1 are a.1 in
      let u = (two a.0.0 t.0).takes a.0.1 b.0.0 b.0.1 (after_of bytes (spell a.0.0) a.0.1 t.1 are) b.1 in
      let made : (X × Y) × List ℕ = ((a.0.0, b.0.0), b.0.1) in
      let P : (X × Y) × List ℕ → Type 0 = λ m. GoodBoth m.0 × (bytes ≡ spell_both m.0 ++ m.1) in
      subst P (ok_same made (z, rest) b.2)
      ((t.0, u.0), t.1 ∙ ap (λ (l : List ℕ). spell a.0.0 ++ l) u.1 ∙ sym (append_assoc (spell a.0.0) (spell' a.0.0 b.0.0) b.0.1))

  not_joined : (x : X) (r : Result (Y × List ℕ) Fault) (d : Fault) → (r >>= joined x) ≡ Err d → r ≡ Err d
  not_joined x r d e = elim (bind_err r (joined x) d e) [ inl h ↦ h | inr h ↦ absurd (ok_or_err (joined x h.0) ((x, h.0.0), h.0.1) d refl h.2) ]

  opens_first : (front : List ℕ) (o : Opens reader Good spell front) → (p : Opens both GoodBoth spell_both front) × (length o.more ≤ length p.more)
  opens_first front o =
      let s = (two o.x o.good).some in (
        record {
          x = (o.x, s.0);
          more = o.more ++ spell' o.x s.0;
          good = (o.good, s.1);
          is = ap (λ (l : List ℕ). l ++ spell' o.x s.0) o.is ∙ append_assoc front o.more (spell' o.x s.0);
        },
        omega (arith, length-append o.more (spell' o.x s.0)),
      )

  opens_second : (x : X) (front : List ℕ) → Good x → (o : Opens (next x) (Good' x) (spell' x) front) → (p : Opens both GoodBoth spell_both (spell x ++ front)) × (length p.more ≡ length o.more)
  opens_second x front g o = (
    record {
      x = (x, o.x);
      more = o.more;
      good = (g, o.good);
      is = ap (λ (l : List ℕ). spell x ++ l) o.is ∙ sym (append_assoc (spell x) front o.more);
    },
    refl,
  )

  short : (bytes : List ℕ) → IsBytes bytes → both bytes ≡ Err Short → Cut both GoodBoth spell_both bytes
  short bytes are e = elim (bind_err (reader bytes) (λ p. next p.0 p.1 >>= joined p.0) Short e) [
    | inl h ↦ let c = one.sound.short bytes are h in let o = opens_first bytes c.opens in
        record { opens = o.0; longer = omega (arith, c.longer, o.1) }
    | inr h ↦ let t = one.sound.takes bytes h.0.0 h.0.1 are h.1 in
        let c = (two h.0.0 t.0).short h.0.1 (after_of bytes (spell h.0.0) h.0.1 t.1 are) (not_joined h.0.0 (next h.0.0 h.0.1) Short h.2) in
        let o = opens_second h.0.0 h.0.1 t.0 c.opens in
        let P : List ℕ → Type 0 = λ b. Cut both GoodBoth spell_both b in
        subst P (sym t.1) (record { opens = o.0; longer = omega (arith, c.longer, o.1) })
  ]

  bad : (bytes : List ℕ) (left : ℕ) → IsBytes bytes → both bytes ≡ Err (Bad left) → Stop both GoodBoth spell_both bytes left
  bad bytes left are e = elim (bind_err (reader bytes) (λ p. next p.0 p.1 >>= joined p.0) (Bad left) e) [
    | inl h ↦ let s = one.sound.bad bytes left are h in record {
      front = s.front;
      byte = s.byte;
      back = s.back;
      parts = s.parts;
      place = s.place;
      opens = (opens_first s.front s.opens).0;
      stays = λ more. rw (s.stays more) refl;
    }
    | inr h ↦ second h.0.0 h.0.1 h.1 (not_joined h.0.0 (next h.0.0 h.0.1) (Bad left) h.2)
  ]
    where
      second : (x : X) (rest : List ℕ) → reader bytes ≡ Ok (x, rest) → next x rest ≡ Err (Bad left) → Stop both GoodBoth spell_both bytes left
      second x rest is f =
          let t = one.sound.takes bytes x rest are is in
          let s = (two x t.0).bad rest left (after_of bytes (spell x) rest t.1 are) f in record {
            front = spell x ++ s.front;
            byte = s.byte;
            back = s.back;
            parts = t.1 ∙ ap (λ (l : List ℕ). spell x ++ l) s.parts ∙ sym (append_assoc (spell x) s.front (s.byte ∷ s.back));
            place = s.place;
            opens = (opens_second x s.front t.0 s.opens).0;
            stays = λ more. rw (append_assoc (spell x) s.front (s.byte ∷ more), one.again x (s.front ++ s.byte ∷ more) t.0, s.stays more) refl;
          }

  pub pair_sound : Sound (pair reader next) GoodBoth spell_both
  unfolding pair
  pair_sound = record { takes = takes; short = short; bad = bad; some = let s = one.sound.some in let u = (two s.0 s.1).some in ((s.0, u.0), (s.1, u.1)) }

module _ {X Y : Type 0} (f : X → Y) (reader : List ℕ → Result (X × List ℕ) Fault) (Good : X → Type 0) (spell : X → List ℕ)
    (Good' : Y → Type 0) (spell' : Y → List ℕ) (fits : (x : X) → Good x → Good' (f x)) (same : (x : X) → Good x → spell' (f x) ≡ spell x)
    (sound : Sound reader Good spell) where
  abbrev made : X × List ℕ → Result (Y × List ℕ) Fault
  made p = Ok (f p.0, p.1)

  not_made : (r : Result (X × List ℕ) Fault) (d : Fault) → (r >>= made) ≡ Err d → r ≡ Err d
  not_made r d e = elim (bind_err r made d e) [ inl h ↦ h | inr h ↦ absurd (ok_or_err (made h.0) (f h.0.0, h.0.1) d refl h.2) ]

  opens_mapped : (front : List ℕ) (o : Opens reader Good spell front) → (p : Opens (mapped f reader) Good' spell' front) × (length p.more ≡ length o.more)
  opens_mapped front o = (record { x = f o.x; more = o.more; good = fits o.x o.good; is = same o.x o.good ∙ o.is }, refl)

  pub mapped_sound : Sound (mapped f reader) Good' spell'
  unfolding mapped
  mapped_sound = record {
    takes = λ bytes y rest are e.
        let a = bind_ok (reader bytes) made (y, rest) e in
        let t = sound.takes bytes a.0.0 a.0.1 are a.1 in
        let p : Y × List ℕ = (f a.0.0, a.0.1) in
        let P : Y × List ℕ → Type 0 = λ r. Good' r.0 × (bytes ≡ spell' r.0 ++ r.1) in
        subst P (ok_same p (y, rest) a.2) (fits a.0.0 t.0, t.1 ∙ ap (λ (l : List ℕ). l ++ a.0.1) (sym (same a.0.0 t.0)));
    short = λ bytes are e. let c = sound.short bytes are (not_made (reader bytes) Short e) in let o = opens_mapped bytes c.opens in record { opens = o.0; longer = omega (arith, c.longer, o.1) };
    bad = λ bytes left are e. let s = sound.bad bytes left are (not_made (reader bytes) (Bad left) e) in record {
      front = s.front;
      byte = s.byte;
      back = s.back;
      parts = s.parts;
      place = s.place;
      opens = (opens_mapped s.front s.opens).0;
      stays = λ more. rw (s.stays more) refl;
    };
    some = (f sound.some.0, fits sound.some.0 sound.some.1);
  }
