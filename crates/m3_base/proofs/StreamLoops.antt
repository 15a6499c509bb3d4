-- Bytes that go out piece by piece.
use Rattle.std.proofs.Common.{◌≡◌, ℕ, ◌-◌, ◌≤◌, List, [], ◌∷◌, ◌++◌, take, drop, length, Option, Some, None, refl, sym, ap, ◌∙◌, subst, append_assoc, length-append, length-drop, arith}
use Rattle.std.proofs.lemmas.List.{take-append-drop, append-nil, take_all}
use Rattle.m3_base.specs.Io.Streams.{Appends, AppendsSome}

-- of all bytes these are left, and those before them were appended
pub record SoFar (old new : Option (List ℕ)) (bytes rest : List ℕ) : Type 0 where
  pub written : List ℕ
  pub appended : Appends old new written
  pub whole : written ++ rest ≡ bytes

pub none_appended : (old : Option (List ℕ)) → Appends old old []
none_appended None = tt
none_appended (Some xs) = sym (append-nil xs)

more_appended : (old mid new : Option (List ℕ)) (xs ys : List ℕ) → Appends old mid xs → Appends mid new ys → Appends old new (xs ++ ys)
more_appended None None None xs ys a b = tt
more_appended None None (Some n) xs ys a b = absurd b
more_appended None (Some m) new xs ys a b = absurd a
more_appended (Some o) None None xs ys a b = tt
more_appended (Some o) None (Some n) xs ys a b = absurd b
more_appended (Some o) (Some m) None xs ys a b = tt
more_appended (Some o) (Some m) (Some n) xs ys a b = b ∙ (ap (λ l. l ++ ys) a ∙ append_assoc o xs ys)

pub so_far_none : (old : Option (List ℕ)) (bytes : List ℕ) → SoFar old old bytes bytes
so_far_none old bytes = record { written = []; appended = none_appended old; whole = refl }

pub so_far_more : (old mid new : Option (List ℕ)) (bytes rest : List ℕ) (n : ℕ) → SoFar old mid bytes rest → Appends mid new (take n rest) → SoFar old new bytes (drop n rest)
so_far_more old mid new bytes rest n s a = record {
  written = s.written ++ take n rest;
  appended = more_appended old mid new s.written (take n rest) s.appended a;
  whole = append_assoc s.written (take n rest) (drop n rest) ∙ (ap (λ l. s.written ++ l) (take-append-drop n rest) ∙ s.whole);
}

pub so_far_all : (old new : Option (List ℕ)) (bytes rest : List ℕ) → rest ≡ [] → SoFar old new bytes rest → Appends old new bytes
so_far_all old new bytes rest e s = let w : s.written ≡ bytes = sym (append-nil s.written) ∙ (ap (λ l. s.written ++ l) (sym e) ∙ s.whole) in subst (Appends old new) w s.appended

take_front : (xs ys : List ℕ) → take (length xs) (xs ++ ys) ≡ xs
take_front [] ys = refl
take_front (x ∷ xs) ys = grind (arith, take_front xs ys)

pub so_far_some : (old mid new : Option (List ℕ)) (bytes rest : List ℕ) → SoFar old mid bytes rest → new ≡ mid → AppendsSome old new bytes
so_far_some old mid new bytes rest s e =
    let w : s.written ≡ take (length s.written) bytes = sym (take_front s.written rest) ∙ ap (take (length s.written)) s.whole in
    record {
      count = length s.written;
      within = omega (arith, length-append s.written rest, ap length s.whole);
      prefix = subst (Appends old new) w (subst (λ n. Appends old n s.written) (sym e) s.appended);
    }

-- the rest of a piece as a slice from n on
pub so_far_rest : (old mid new : Option (List ℕ)) (bytes rest : List ℕ) (n : ℕ) → n ≤ length rest → SoFar old mid bytes rest → Appends mid new (take n rest) → SoFar old new bytes (take (length rest - n) (drop n rest))
so_far_rest old mid new bytes rest n h s a =
    let e : take (length rest - n) (drop n rest) ≡ drop n rest = take_all (length rest - n) (drop n rest) (omega (arith, length-drop n rest)) in
    subst (SoFar old new bytes) (sym e) (so_far_more old mid new bytes rest n s a)
