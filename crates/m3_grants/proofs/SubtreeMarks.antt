-- The marks of a subtree: a grant is marked where it is the root or its parent is marked.
use Rattle.std.proofs.Common.{◌≡◌, ℕ, zero, suc, ◌+◌, ◌-◌, ◌<◌, ◌≤◌, Bool, true, false, ◌||◌, List, [], ◌∷◌, ◌++◌, length, Some, None, refl, sym, ◌∙◌, ap, subst, arith}
use Rattle.std.specs.Prelude.{Option, ◌==◌, slice_get}
use Rattle.std.proofs.lemmas.Bool.Decides.{nat_tests}
use Rattle.m3_base.specs.Ideal.State.{Grant, parent_of}
use Rattle.m3_base.specs.Ideal.GrantRules.{marks_under, is_marked, or_false}
use Rattle.m3_base.specs.Setup.GrantTable.{is_before}
use Rattle.m3_base.proofs.ListLookups.{get_pushed, length_pushed}

pushed_before : {X : Type 0} (xs : List X) (y : X) (k : ℕ) → k < length xs → slice_get (xs ++ y ∷ []) k ≡ slice_get xs k
pushed_before xs y k h = let other : (k == length xs) ≡ false = grind (arith, nat_tests, h) in get_pushed xs y k ∙ rw other refl

pushed_last : {X : Type 0} (xs : List X) (y : X) → slice_get (xs ++ y ∷ []) (length xs) ≡ Some y
pushed_last xs y = let same : (length xs == length xs) ≡ true = grind (arith, nat_tests) in get_pushed xs y (length xs) ∙ rw same refl

marks_kept : (g n : ℕ) (marks : List Bool) (gs : List Grant) (k : ℕ) → k < length marks → slice_get (marks_under g n marks gs) k ≡ slice_get marks k
marks_kept g n marks [] k h = refl
marks_kept g n marks (x ∷ gs) k h =
    let b = (n == g) || is_marked (parent_of x.line) marks in
    let l = length_pushed marks b in
    marks_kept g (n + 1) (marks ++ b ∷ []) gs k (omega (arith, h, l)) ∙ pushed_before marks b k h

marked_kept : (g n : ℕ) (marks : List Bool) (gs : List Grant) (p : Option ℕ) → is_before p (length marks) ≡ true → is_marked p (marks_under g n marks gs) ≡ is_marked p marks
marked_kept g n marks gs None h = refl
marked_kept g n marks gs (Some p) h =
    let k : (0 < p) × (p ≤ length marks) = grind (arith, nat_tests, h) in
    let some : 0 < p = k.0 in
    let last : p ≤ length marks = k.1 in
    ap or_false (marks_kept g n marks gs (p - 1) (omega (arith, some, last)))

marks_at : (g n : ℕ) (marks : List Bool) (gs : List Grant) (i : ℕ) (x : Grant) → slice_get gs i ≡ Some x → is_before (parent_of x.line) (length marks + i) ≡ true → slice_get (marks_under g n marks gs) (length marks + i) ≡ Some ((n + i == g) || is_marked (parent_of x.line) (marks_under g n marks gs))
marks_at g n marks [] i x e h = absurd (cc)
marks_at g n marks (y ∷ ys) zero x e h =
    let b = (n == g) || is_marked (parent_of y.line) marks in
    let whole = marks_under g (n + 1) (marks ++ b ∷ []) ys in
    let same : y ≡ x = grind (arith, e) in
    let z : length marks + 0 ≡ length marks = omega arith in
    let m : n + 0 ≡ n = omega arith in
    let l = length_pushed marks b in
    let before : is_before (parent_of y.line) (length marks) ≡ true = subst (λ k. is_before (parent_of y.line) k ≡ true) z (subst (λ w. is_before (parent_of w.line) (length marks + 0) ≡ true) (sym same) h) in
    let here : slice_get whole (length marks) ≡ Some b = marks_kept g (n + 1) (marks ++ b ∷ []) ys (length marks) (omega (arith, l)) ∙ pushed_last marks b in
    let kept : is_marked (parent_of y.line) whole ≡ is_marked (parent_of y.line) marks = marked_kept g n marks (y ∷ ys) (parent_of y.line) before in
    rw (z, m) (here ∙ (ap (λ c. Some ((n == g) || c)) (sym kept) ∙ ap (λ w. Some ((n == g) || is_marked (parent_of w.line) whole)) same))
marks_at g n marks (y ∷ ys) (suc i) x e h =
    let b = (n == g) || is_marked (parent_of y.line) marks in
    let l : length (marks ++ b ∷ []) + i ≡ length marks + suc i = let w = length_pushed marks b in omega (arith, w) in
    let m : n + 1 + i ≡ n + suc i = omega arith in
    let before : is_before (parent_of x.line) (length (marks ++ b ∷ []) + i) ≡ true = subst (λ k. is_before (parent_of x.line) k ≡ true) (sym l) h in
    let later : slice_get (marks_under g (n + 1) (marks ++ b ∷ []) ys) (length (marks ++ b ∷ []) + i) ≡ Some ((n + 1 + i == g) || is_marked (parent_of x.line) (marks_under g (n + 1) (marks ++ b ∷ []) ys)) = marks_at g (n + 1) (marks ++ b ∷ []) ys i x e before in
    rw (sym l, sym m) later

abbrev pub marks_of : ℕ → List Grant → List Bool
marks_of g gs = marks_under g 1 [] gs

abbrev pub mark : ℕ → List Grant → ℕ → Bool
mark g gs i = or_false (slice_get (marks_of g gs) i)

pub mark_is : (g : ℕ) (gs : List Grant) (i : ℕ) (x : Grant) → slice_get gs i ≡ Some x → is_before (parent_of x.line) i ≡ true → mark g gs i ≡ ((i + 1 == g) || is_marked (parent_of x.line) (marks_of g gs))
mark_is g gs i x e h =
    let z : 0 + i ≡ i = omega arith in
    let m : 1 + i ≡ i + 1 = omega arith in
    let before : is_before (parent_of x.line) (0 + i) ≡ true = subst (λ k. is_before (parent_of x.line) k ≡ true) (sym z) h in
    let at : slice_get (marks_of g gs) (0 + i) ≡ Some ((1 + i == g) || is_marked (parent_of x.line) (marks_of g gs)) = marks_at g 1 [] gs i x e before in
    ap (λ k. or_false (slice_get (marks_of g gs) k)) (sym z) ∙ (ap or_false at ∙ ap (λ k. (k == g) || is_marked (parent_of x.line) (marks_of g gs)) m)
