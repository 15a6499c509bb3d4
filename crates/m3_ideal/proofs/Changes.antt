-- A grant that changes, by its place.
use Rattle.std.proofs.Common.{◌≡◌, ℕ, zero, suc, ◌+◌, ◌-◌, ◌*◌, ◌<◌, ◌≤◌, Bool, true, false, List, [], ◌∷◌, ◌++◌, take, drop, length, Some, None, refl, sym, subst, ap, ◌∙◌, arith}
use Rattle.std.specs.Prelude.{◌==◌, slice_get, slice_set, slice_index_or, replicate, if◌then◌else◌}
use Rattle.std.proofs.lemmas.Bool.Decides.{nat_tests}
use Rattle.m3_base.specs.declared.order.GrantLine.{GrantLine}
use Rattle.m3_base.specs.Ideal.State.{Standing, Closed, Done, Grant, grant_in, is_done, holder, holder_ep, parent_of}
use Rattle.m3_base.specs.Ideal.GrantRules.{change_grant, set_some}
use Rattle.m3_ideal.specs.Tally.{IsTallied, IsParent, held_raised, held_lowered, under_raised, under_lowered}
use Rattle.m3_ideal.proofs.Tally.{tallied_undone, tallied_done, tallied_alike, alike_set}
use Rattle.std.proofs.lemmas.Option.{slice_get_past}
use Rattle.std.proofs.lemmas.List.{length-replicate}

pub get_of : {X : Type 0} (xs : List X) (i : ℕ) (x : X) → i < length xs → x ≡ slice_index_or xs i x → slice_get xs i ≡ Some x
get_of [] i x h e = absurd (omega arith)
get_of (y ∷ xs) zero x h e = ap Some (sym e)
get_of (y ∷ xs) (suc i) x h e = get_of xs i x (omega arith) e

pub found_in : (gs : List Grant) (g : ℕ) → 0 < g → grant_in gs g ≡ slice_get gs (g - 1)
found_in gs g h = by_test (g == 0) (grind (arith, nat_tests))
  where
    by_test : (b : Bool) → b ≡ false → (if b then None else slice_get gs (g - 1)) ≡ slice_get gs (g - 1)
    by_test true e = absurd cc
    by_test false e = refl

pub changed_at : (gs : List Grant) (g : ℕ) (f : Grant → Grant) (x : Grant) → 0 < g → slice_get gs (g - 1) ≡ Some x → slice_set gs (g - 1) (f x) ≡ change_grant gs g f
changed_at gs g f x h e = ap (set_some gs g f) (sym (found_in gs g h ∙ e))

pub changed_past : (gs : List Grant) (g : ℕ) (f : Grant → Grant) → 0 < g → length gs ≤ g - 1 → gs ≡ change_grant gs g f
changed_past gs g f h e = ap (set_some gs g f) (sym (found_in gs g h ∙ slice_get_past gs (g - 1) e))

-- ---- none

abbrev zeros : ℕ → List ℕ
zeros n = replicate n 0

zero_at : (n i : ℕ) → slice_index_or (zeros n) i 0 ≡ 0
zero_at zero i = refl
zero_at (suc n) zero = refl
zero_at (suc n) (suc i) = zero_at n i

pub tallied_empty : (held children : List ℕ) → held ≡ zeros 1024 → children ≡ zeros 4097 → IsTallied [] held children
tallied_empty held children e f =
    record {
      few = omega arith;
      size = record { places = ap length e ∙ length-replicate {A = ℕ} 1024 0; numbers = ap length f ∙ length-replicate {A = ℕ} 4097 0 };
      holds = λ a ep x y. ap (λ t. slice_index_or t (16 * a + ep) 0) e ∙ zero_at 1024 (16 * a + ep);
      under = λ g x. ap (λ t. slice_index_or t g 0) f ∙ zero_at 4097 g;
    }

-- ---- a grant that was read and is written

-- the elements that were read at one place are one
pub read_same : {X : Type 0} (xs : List X) (i : ℕ) (x y : X) → i < length xs → x ≡ slice_index_or xs i x → y ≡ slice_index_or xs i y → x ≡ y
read_same [] i x y h e f = absurd (omega arith)
read_same (z ∷ xs) zero x y h e f = e ∙ sym f
read_same (z ∷ xs) (suc i) x y h e f = read_same xs i x y (omega arith) e f

tallied_by : (gs more : List Grant) (h k l m : List ℕ) → h ≡ k → l ≡ m → IsTallied gs k m → IsTallied gs h l
tallied_by gs more h k l m e f t = subst (λ z. IsTallied gs z l) (sym e) (subst (λ z. IsTallied gs k z) (sym f) t)

-- x, z and m were read at i, y is written there, and the line is z's
pub record Rewrites (made : List Grant) (i : ℕ) (s : Standing) (x z m y : Grant) (line : GrantLine) : Type 0 where
  pub range : i < length made
  pub first : x ≡ slice_index_or made i x
  pub second : z ≡ slice_index_or made i z
  pub third : m ≡ slice_index_or made i m
  pub written : y ≡ record m { standing = s }
  pub line_is : line ≡ z.line
  pub act : holder line < 64
  pub ep : holder_ep line < 16
  pub parent : IsParent (parent_of line)

line_of : (made : List Grant) (i : ℕ) (s : Standing) (x z m y : Grant) (line : GrantLine) → Rewrites made i s x z m y line → line ≡ y.line
line_of made i s x z m y line r =
    r.line_is ∙ ap (λ g. g.line) (read_same made i z m r.range r.second r.third) ∙ sym (ap (λ g. g.line) r.written)

first_line : (made : List Grant) (i : ℕ) (s : Standing) (x z m y : Grant) (line : GrantLine) → Rewrites made i s x z m y line → line ≡ x.line
first_line made i s x z m y line r = r.line_is ∙ ap (λ g. g.line) (read_same made i z x r.range r.second r.first)

pub undone_goal : (made : List Grant) (held children h k : List ℕ) (i : ℕ) (x z m y : Grant) (line : GrantLine) → IsTallied made held children → Rewrites made i Closed x z m y line
    → is_done x.standing ≡ true → h ≡ held_raised line held → k ≡ under_raised (parent_of line) children → IsTallied (slice_set made i y) h k
undone_goal made held children h k i x z m y line t r d e f =
    let l : line ≡ y.line = line_of made i Closed x z m y line r in
    let open_ : is_done y.standing ≡ false = ap (λ g. is_done g.standing) r.written in
    tallied_by (slice_set made i y) made h (held_raised y.line held) k (under_raised (parent_of y.line) children)
    (e ∙ ap (λ w. held_raised w held) l) (f ∙ ap (λ w. under_raised (parent_of w) children) l)
    (tallied_undone made held children i x y t (get_of made i x r.range r.first) d open_
    (subst (λ w. holder w < 64) l r.act) (subst (λ w. holder_ep w < 16) l r.ep) (subst (λ w. IsParent (parent_of w)) l r.parent))

pub done_goal : (made : List Grant) (held children h k : List ℕ) (i : ℕ) (x z m y : Grant) (line : GrantLine) → IsTallied made held children → Rewrites made i Done x z m y line
    → is_done x.standing ≡ false → h ≡ held_lowered line held → k ≡ under_lowered (parent_of line) children → IsTallied (slice_set made i y) h k
done_goal made held children h k i x z m y line t r d e f =
    let l : line ≡ x.line = first_line made i Done x z m y line r in
    let over : is_done y.standing ≡ true = ap (λ g. is_done g.standing) r.written in
    tallied_by (slice_set made i y) made h (held_lowered x.line held) k (under_lowered (parent_of x.line) children)
    (e ∙ ap (λ w. held_lowered w held) l) (f ∙ ap (λ w. under_lowered (parent_of w) children) l)
    (tallied_done made held children i x y t (get_of made i x r.range r.first) d over
    (subst (λ w. holder w < 64) l r.act) (subst (λ w. holder_ep w < 16) l r.ep) (subst (λ w. IsParent (parent_of w)) l r.parent))

-- the grant stays done, or not
pub stays_goal : (made : List Grant) (held children : List ℕ) (i : ℕ) (s : Standing) (x m y : Grant) → IsTallied made held children → i < length made → x ≡ slice_index_or made i x → m ≡ slice_index_or made i m
    → y ≡ record m { standing = s } → is_done x.standing ≡ is_done s → IsTallied (slice_set made i y) held children
stays_goal made held children i s x m y t r e f w d =
    tallied_alike made (slice_set made i y) held children t
    (alike_set made i m y (get_of made i m r f)
    (record { line = ap (λ g. g.line) w; done = ap (λ g. is_done g.standing) w ∙ sym d ∙ ap (λ g. is_done g.standing) (read_same made i x m r e f) }))

pub changed_read : (made v : List Grant) (n g : ℕ) (f : Grant → Grant) (m y : Grant) → 0 < n → n ≡ g → n - 1 < length made → m ≡ slice_index_or made (n - 1) m → y ≡ f m → made ≡ v → slice_set made (n - 1) y ≡ change_grant v g f
changed_read made v n g f m y p e r h w k =
    ap (slice_set made (n - 1)) w ∙ changed_at made n f m p (get_of made (n - 1) m r h) ∙ ap (λ z. change_grant made z f) e ∙ ap (λ z. change_grant z g f) k

-- as many elements written over all
pub over_same : {X : Type 0} (xs ys : List X) (n : ℕ) → n ≡ length xs → length ys ≡ length xs → take n (ys ++ drop (length ys) xs) ≡ ys
over_same {X = X} xs ys n e f = ap (λ k. take k (ys ++ drop (length ys) xs)) e ∙ by_list xs ys f
  where
    by_list : (ps qs : List X) → length qs ≡ length ps → take (length ps) (qs ++ drop (length qs) ps) ≡ qs
    by_list [] [] h = refl
    by_list [] (q ∷ qs) h = absurd (omega arith)
    by_list (p ∷ ps) [] h = absurd (omega arith)
    by_list (p ∷ ps) (q ∷ qs) h = ap (λ z. q ∷ z) (by_list ps qs (omega arith))
