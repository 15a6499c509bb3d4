-- How the sums change where one link, one activity or one grant changes.
use Rattle.std.proofs.Common.{◌≡◌, ℕ, zero, suc, ◌+◌, ◌*◌, ◌/◌, ◌%◌, ◌<◌, List, [], ◌∷◌, ◌++◌, length, get_or, set, Some, refl, subst, ◌∙◌, ap, arith}
use Rattle.std.specs.Prelude.{Option, ◌==◌}
use Rattle.m3_base.specs.declared.packet.Packet.{Packet}
use Rattle.m3_base.specs.Lists.Counting.{total}
use Rattle.m3_base.specs.Ideal.State.{State}
use Rattle.m3_base.specs.Placement.State.{Placement, PlacedActivity, LinkToken, actor, actor_act, link, with_link, with_token, with_actor}
use Rattle.m3_base.specs.Ideal.State.{same_act}
use Rattle.m3_base.proofs.KeyedList.{total-replaced}
use Rattle.m3_quiet.specs.Potential.{token_worth, link_sum, links_sum, sum_from, actor_in, actors_sum}

pub total-append : {X : Type 0} → (f : X → ℕ) (xs ys : List X) → total f (xs ++ ys) ≡ total f xs + total f ys
total-append f [] ys = omega arith
total-append f (x ∷ xs) ys = omega (arith, total-append f xs ys)

pub sum-set : {X : Type 0} → (f : ℕ → X → ℕ) (n i : ℕ) (xs : List X) (d y : X) → i < length xs → sum_from f n (set xs i y) + f (n + i) (get_or xs i d) ≡ sum_from f n xs + f (n + i) y
sum-set f n zero [] d y h = absurd (omega arith)
sum-set f n (suc i) [] d y h = absurd (omega arith)
sum-set f n zero (x ∷ xs) d y h = let e : n + 0 ≡ n = omega arith in rw e (omega arith)
sum-set f n (suc i) (x ∷ xs) d y h = let e : n + suc i ≡ (n + 1) + i = omega arith in rw e (omega (arith, sum-set f (n + 1) i xs d y (omega arith)))

pub total-set : {X : Type 0} → (f : X → ℕ) (i : ℕ) (xs : List X) (d y : X) → i < length xs → total f (set xs i y) + f (get_or xs i d) ≡ total f xs + f y
total-set f zero [] d y h = absurd (omega arith)
total-set f (suc i) [] d y h = absurd (omega arith)
total-set f zero (x ∷ xs) d y h = omega arith
total-set f (suc i) (x ∷ xs) d y h = omega (arith, total-set f i xs d y (omega arith))

-- the worth of a link's tokens
abbrev pub worth_of : List Packet → ℕ → ℕ → List LinkToken → ℕ
worth_of fs from to ts = total (token_worth fs from to) ts

from_back : (from to : ℕ) → to < 16 → (16 * from + to) / 16 ≡ from
from_back from to h = omega arith

to_back : (from to : ℕ) → to < 16 → (16 * from + to) % 16 ≡ to
to_back from to h = omega arith

link_sum-at : (fs : List Packet) (from to : ℕ) (ts : List LinkToken) → to < 16 → link_sum fs (16 * from + to) ts ≡ worth_of fs from to ts
link_sum-at fs from to ts h = ap (λ z. total (token_worth fs z ((16 * from + to) % 16)) ts) (from_back from to h) ∙ ap (λ z. total (token_worth fs from z) ts) (to_back from to h)

-- one link has other tokens
pub links-with : (fs : List Packet) (from to : ℕ) (ts : List LinkToken) (p : Placement) → length p.links ≡ 256 → from < 16 → to < 16 → links_sum fs (with_link from to ts p).links + worth_of fs from to (link from to p) ≡ links_sum fs p.links + worth_of fs from to ts
links-with fs from to ts p n a b =
    let one = sum-set (link_sum fs) 0 (16 * from + to) p.links [] ts (omega arith) in
    let z : 0 + (16 * from + to) ≡ 16 * from + to = omega arith in
    let two = subst (λ k. sum_from (link_sum fs) 0 (set p.links (16 * from + to) ts) + link_sum fs k (link from to p) ≡ links_sum fs p.links + link_sum fs k ts) z one in
    let three = link_sum-at fs from to (link from to p) b in
    let four = link_sum-at fs from to ts b in
    omega (arith, two, three, four)

-- one token more
pub links-pushed : (fs : List Packet) (from to : ℕ) (t : LinkToken) (p : Placement) → length p.links ≡ 256 → from < 16 → to < 16 → links_sum fs (with_token from to t p).links ≡ links_sum fs p.links + token_worth fs from to t
links-pushed fs from to t p n a b =
    let one = links-with fs from to (link from to p ++ t ∷ []) p n a b in
    let two = total-append (token_worth fs from to) (link from to p) (t ∷ []) in
    omega (arith, one, two)

-- the front leaves
pub links-front : (fs : List Packet) (from to : ℕ) (t : LinkToken) (ts : List LinkToken) (p : Placement) → length p.links ≡ 256 → from < 16 → to < 16 → link from to p ≡ t ∷ ts → links_sum fs (with_link from to ts p).links + token_worth fs from to t ≡ links_sum fs p.links
links-front fs from to t ts p n a b e =
    let one = links-with fs from to ts p n a b in
    let two : worth_of fs from to (link from to p) ≡ token_worth fs from to t + worth_of fs from to ts = ap (worth_of fs from to) e in
    omega (arith, one, two)

-- a link is one of 256 still
length-set_links : (i : ℕ) (xs : List (List LinkToken)) (ts : List LinkToken) → length (set xs i ts) ≡ length xs
length-set_links zero [] ts = refl
length-set_links (suc i) [] ts = refl
length-set_links zero (x ∷ xs) ts = refl
length-set_links (suc i) (x ∷ xs) ts = ap suc (length-set_links i xs ts)

pub links-length : (from to : ℕ) (ts : List LinkToken) (p : Placement) → length (with_link from to ts p).links ≡ length p.links
links-length from to ts p = length-set_links (16 * from + to) p.links ts

-- one activity changes
pub actors-with : (s : State) (current : List (Option ℕ)) (x old : PlacedActivity) (p : Placement) → actor x.act p ≡ Some old → actors_sum s current (with_actor x p).actors + actor_in s current old ≡ actors_sum s current p.actors + actor_in s current x
actors-with s current x old p e = total-replaced actor_act same_act (λ a b. a == b) (actor_in s current) x old p.actors e
