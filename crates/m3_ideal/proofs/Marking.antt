-- Marked grants that are closing, one after the other.
use Rattle.std.proofs.Common.{◌≡◌, ℕ, zero, suc, ◌+◌, ◌<◌, ◌≤◌, Bool, true, false, List, [], ◌∷◌, ◌++◌, length, take, drop, Some, refl, ap, ◌∙◌, arith}
use Rattle.std.specs.Prelude.{◌==◌, ◌&&◌, ◌||◌, slice_get, slice_set, slice_index_or, if◌then◌else◌}
use Rattle.m3_base.specs.Ideal.State.{Grant, Standing, Live, Closing, Closed, Done, is_live, is_done}
use Rattle.m3_base.specs.Ideal.GrantRules.{marks_under, is_marked, closing_where, to_closing}
use Rattle.m3_base.specs.Ideal.State.{parent_of}
use Rattle.m3_ideal.proofs.Tally.{AreAlike, IsAlike}
use Rattle.std.proofs.lemmas.Bool.{and_parts}

-- one mark more
pub marks_step : (g n i : ℕ) (marks : List Bool) (x : Grant) (gs : List Grant) → slice_get gs i ≡ Some x
    → marks_under g n marks (drop i gs) ≡ marks_under g (n + 1) (marks ++ ((n == g) || is_marked (parent_of x.line) marks) ∷ []) (drop (i + 1) gs)
marks_step g n i marks x [] h = absurd cc
marks_step g n zero marks x (y ∷ gs) h = let e : y ≡ x = cc in ap (λ z. marks_under g (n + 1) (marks ++ ((n == g) || is_marked (parent_of z.line) marks) ∷ []) gs) e
marks_step g n (suc i) marks x (y ∷ gs) h =
    marks_step g n i marks x gs h ∙ ap (λ k. marks_under g (n + 1) (marks ++ ((n == g) || is_marked (parent_of x.line) marks) ∷ []) (drop k (y ∷ gs))) (plus i)
  where
    plus : (k : ℕ) → suc (k + 1) ≡ suc k + 1
    plus k = omega arith

pub marks_end : (g n i : ℕ) (marks : List Bool) (gs : List Grant) → length gs ≤ i → marks_under g n marks (drop i gs) ≡ marks
marks_end g n i marks [] h = drop_nil i
  where
    drop_nil : (j : ℕ) → marks_under g n marks (drop j []) ≡ marks
    drop_nil zero = refl
    drop_nil (suc j) = refl
marks_end g n zero marks (y ∷ gs) h = absurd (omega arith)
marks_end g n (suc i) marks (y ∷ gs) h = marks_end g n i marks gs (omega arith)

-- ---- closing

set_same : (gs : List Grant) (i : ℕ) (x : Grant) → x ≡ slice_index_or gs i x → slice_set gs i x ≡ gs
set_same [] i x e = refl
set_same (y ∷ gs) zero x e = ap (λ z. z ∷ gs) e
set_same (y ∷ gs) (suc i) x e = ap (λ z. y ∷ z) (set_same gs i x e)

not_closing : (x : Grant) → to_closing false x ≡ x
not_closing x = refl

pub closing_step : (marks : List Bool) (gs : List Grant) (i : ℕ) (x : Grant) → i < length gs → x ≡ slice_index_or (closing_where (take i marks) gs) i x
    → slice_set (closing_where (take i marks) gs) i (to_closing (slice_index_or marks i false) x) ≡ closing_where (take (i + 1) marks) gs
closing_step [] gs zero x h e = set_same gs zero x e
closing_step [] gs (suc i) x h e = set_same gs (suc i) x e ∙ ap (λ k. closing_where (take {A = Bool} k []) gs) (later i)
  where
    later : (k : ℕ) → suc (k + 1) ≡ suc k + 1
    later k = omega arith
closing_step (b ∷ bs) [] i x h e = absurd (omega arith)
closing_step (b ∷ bs) (y ∷ gs) zero x h e = ap (λ z. to_closing b z ∷ gs) e
closing_step (b ∷ bs) (y ∷ gs) (suc i) x h e =
    ap (λ z. to_closing b y ∷ z) (closing_step bs gs i x (omega arith) e)
    ∙ ap (λ k. closing_where (take k (b ∷ bs)) (y ∷ gs)) (later i)
  where
    later : (k : ℕ) → suc (k + 1) ≡ suc k + 1
    later k = omega arith

pub closing_all : (marks : List Bool) (gs : List Grant) (i : ℕ) → length gs ≤ i → closing_where (take i marks) gs ≡ closing_where marks gs
closing_all [] gs zero h = refl
closing_all [] gs (suc i) h = refl
closing_all (b ∷ bs) [] zero h = refl
closing_all (b ∷ bs) [] (suc i) h = refl
closing_all (b ∷ bs) (y ∷ gs) zero h = absurd (omega arith)
closing_all (b ∷ bs) (y ∷ gs) (suc i) h = ap (λ z. to_closing b y ∷ z) (closing_all bs gs i (omega arith))

-- ---- the tables don't see it

not_done : (s : Standing) → is_live s ≡ true → false ≡ is_done s
not_done Live u = refl
not_done Closing u = absurd cc
not_done Closed u = absurd cc
not_done Done u = absurd cc

alike_closing : (b : Bool) (x : Grant) → IsAlike x (to_closing b x)
alike_closing b x = by_test (b && is_live x.standing) refl
  where
    by_test : (c : Bool) → (b && is_live x.standing) ≡ c → IsAlike x (if c then record x { standing = Closing } else x)
    by_test false e = record { line = refl; done = refl }
    by_test true e = record { line = refl; done = not_done x.standing (and_parts b (is_live x.standing) e).1 }

pub alike_where : (bs : List Bool) (gs : List Grant) → AreAlike gs (closing_where bs gs)
alike_where [] [] = tt
alike_where [] (x ∷ gs) = (record { line = refl; done = refl }, alike_where [] gs)
alike_where (b ∷ bs) [] = tt
alike_where (b ∷ bs) (x ∷ gs) = (alike_closing b x, alike_where bs gs)
