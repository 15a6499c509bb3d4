-- The tree stays right as a grant is made.
use Rattle.std.proofs.Common.{cond, ◌≡◌, ◌≢◌, ℕ, zero, suc, ◌+◌, ◌-◌, ◌*◌, ◌<◌, ◌≤◌, Bool, true, false, ◌||◌, List, [], ◌∷◌, ◌++◌, length, Some, None, refl, sym, ◌∙◌, ap, subst, arith, get_or, set, length-set, get_or-set_same, get_or-set_other}
use Rattle.std.specs.Prelude.{Option, if◌then◌else◌, ◌==◌, nat_le, slice_get, count_by, is_none}
use Rattle.std.specs.List.{list_any}
use Rattle.std.proofs.lemmas.List.Sums.{sum_by_push, count_by-le-length}
use Rattle.std.proofs.lemmas.Option.{slice_get_past, slice_get_within}
use Rattle.std.proofs.lemmas.Bool.Decides.{nat_tests}
use Rattle.m3_base.specs.declared.event.No.{No}
use Rattle.m3_base.specs.declared.order.GrantLine.{GrantLine}
use Rattle.m3_base.specs.declared.packet.Fresh.{Fresh}
use Rattle.m3_base.specs.Ideal.State.{Grant, grant_in, parent_in, parent_of, undone, holder, holder_ep, is_number, is_done, is_live}
use Rattle.m3_base.specs.Ideal.GrantRules.{form, new_grant, holds_at, is_open_child, is_outside, is_above_closing, is_more, is_crowded, first_no, make_refusal, fresh_of as fresh_in}
use Rattle.m3_base.specs.declared.grants.node.Node.{Node}
use Rattle.m3_base.specs.Setup.GrantTable.{holds_in, above, is_live_in, on_node, new_node, as_grant, grants_of, IsTree, IsRange, Counts, FitsIn, FitsUnder, size_of, with_found, under_parent, is_before, is_live_above, is_rightful, is_some_number, has_room_under, has_child_room, with_child_more}
use Rattle.m3_base.proofs.GrantTableLookup.{length_grants, get_with_node, length_with_node}
use Rattle.m3_base.proofs.ListLookups.{get_pushed, get_none, length_pushed}

-- ---- what is known of a line that isn't refused

none_stands : (a b c d e f : Bool) → first_no ((a, No.NoGrant) ∷ (b, No.Closing) ∷ (c, No.SlotTaken) ∷ (d, No.OutsideParent) ∷ (e, No.MorePermission) ∷ (f, No.TooMany) ∷ []) ≡ None → (b ≡ false) × ((c ≡ false) × ((d ≡ false) × (f ≡ false)))
none_stands true b c d e f h = absurd (cc)
none_stands false true c d e f h = absurd (cc)
none_stands false false true d e f h = absurd (cc)
none_stands false false false true e f h = absurd (cc)
none_stands false false false false true f h = absurd (cc)
none_stands false false false false false true h = absurd (cc)
none_stands false false false false false false h = (refl, (refl, (refl, refl)))

pub record Allowed (memory : ℕ) (gs : List Grant) (line : GrantLine) (o : Option Grant) : Type 0 where
  pub is_open : is_above_closing o ≡ false
  pub is_free : list_any (holds_at (holder line) (holder_ep line)) gs ≡ false
  pub inside : is_outside memory line (fresh_in o) ≡ false
  pub few : length gs < 4096

pub allowed : (memory : ℕ) (gs : List Grant) (line : GrantLine) → make_refusal memory gs line ≡ None → Allowed memory gs line (above gs line)
allowed memory gs line e =
    let o = above gs line in
    let n = none_stands (is_none (form (length gs + 1) line o)) (is_above_closing o) (list_any (holds_at (holder line) (holder_ep line)) gs) (is_outside memory line (fresh_in o)) (is_more line (fresh_in o)) (nat_le 4096 (length gs) || is_crowded line gs) e in
    record { is_open = n.0; is_free = n.1.0; inside = n.1.1.0; few = grind (arith, nat_tests, n.1.1.1) }

-- ---- look-ups

pub length_under : (nodes : List Node) (p : Option ℕ) (f : Node → Node) → length (under_parent nodes p f) ≡ length nodes
length_under nodes None f = refl
length_under nodes (Some g) f = length_with_node nodes f (g - 1)

grants_found : (nodes : List Node) (i : ℕ) (f : Node → Node) (o : Option Node) → ((x : Node) → as_grant (f x) ≡ as_grant x) → slice_get nodes i ≡ o → grants_of (with_found nodes i f o) ≡ grants_of nodes
grants_found nodes i f None s e = refl
grants_found [] i f (Some x) s e = absurd (cc)
grants_found (y ∷ ys) zero f (Some x) s e = grind (arith, e, s x)
grants_found (y ∷ ys) (suc i) f (Some x) s e = grind (arith, grants_found ys i f (Some x) s, e)

pub grants_under : (nodes : List Node) (p : Option ℕ) (f : Node → Node) → ((x : Node) → as_grant (f x) ≡ as_grant x) → grants_of (under_parent nodes p f) ≡ grants_of nodes
grants_under nodes None f s = refl
grants_under nodes (Some g) f s = grants_found nodes (g - 1) f (slice_get nodes (g - 1)) s refl

pub grants_pushed : (nodes : List Node) (x : Node) → grants_of (nodes ++ x ∷ []) ≡ grants_of nodes ++ as_grant x ∷ []
grants_pushed [] x = refl
grants_pushed (y ∷ ys) x = ap (λ z. as_grant y ∷ z) (grants_pushed ys x)

pub grants_made : (nodes : List Node) (line : GrantLine) (f : Fresh) → grants_of (under_parent nodes (parent_of line) with_child_more ++ new_node line f ∷ []) ≡ grants_of nodes ++ new_grant line f ∷ []
grants_made nodes line f = grants_pushed (under_parent nodes (parent_of line) with_child_more) (new_node line f) ∙ ap (λ z. z ++ new_grant line f ∷ []) (grants_under nodes (parent_of line) with_child_more (λ x. refl))

-- ---- the parent

undone_range : (o : Option Grant) → IsRange o → IsRange (undone o)
undone_range None r = tt
undone_range (Some x) r = by_done (is_done x.standing)
  where
    by_done : (b : Bool) → IsRange (if b then None else Some x)
    by_done true = tt
    by_done false = r

at_number : (gs : List Grant) (g : ℕ) → ((i : ℕ) → IsRange (slice_get gs i)) → IsRange (grant_in gs g)
at_number gs g r = by_zero (g == 0)
  where
    by_zero : (b : Bool) → IsRange (if b then None else slice_get gs (g - 1))
    by_zero true = tt
    by_zero false = r (g - 1)

pub above_range : (gs : List Grant) (line : GrantLine) → ((i : ℕ) → IsRange (slice_get gs i)) → IsRange (above gs line)
above_range gs line r = undone_range (parent_in gs (parent_of line)) (by_parent (parent_of line))
  where
    by_parent : (p : Option ℕ) → IsRange (parent_in gs p)
    by_parent None = tt
    by_parent (Some g) = at_number gs g r

pub fits_under : (memory : ℕ) (line : GrantLine) (o : Option Grant) → IsRange o → is_outside memory line (fresh_in o) ≡ false → FitsUnder line o
fits_under memory (GrantLine.Recv act ep slots size) o r e = tt
fits_under memory (GrantLine.Send act ep of label credits) o r e = tt
fits_under memory (GrantLine.Range act ep at len perm) o r e = tt
fits_under memory (GrantLine.Part act ep of at len perm) None r e = tt
fits_under memory (GrantLine.Part act ep of at len perm) (Some x) r e = by_fresh x.fresh refl r e
  where
    by_fresh : (f : Fresh) → x.fresh ≡ f → FitsIn 0 (size_of f) f → is_outside memory (GrantLine.Part act ep of at len perm) (Some f) ≡ false → FitsIn at len f
    by_fresh (Fresh.Send a b c d e f g) w s o = tt
    by_fresh (Fresh.Receive a b c) w s o = tt
    by_fresh (Fresh.Memory g start length its) w s o = grind (arith, nat_tests, s, o)

form_inside : (memory n : ℕ) (line : GrantLine) (o : Option Grant) (f : Fresh) → memory ≤ 1048576 → FitsUnder line o → is_outside memory line (fresh_in o) ≡ false → form n line o ≡ Some f → FitsIn 0 (size_of f) f
form_inside memory n line o (Fresh.Send a b c d e g h) m u i w = tt
form_inside memory n line o (Fresh.Receive a b c) m u i w = tt
form_inside memory n (GrantLine.Recv act ep slots size) o (Fresh.Memory g start len its) m u i w = absurd (cc)
form_inside memory n (GrantLine.Send act ep of label credits) None (Fresh.Memory g start len its) m u i w = absurd (cc)
form_inside memory n (GrantLine.Send act ep of label credits) (Some x) (Fresh.Memory g start len its) m u i w = by_fresh x.fresh refl
  where
    by_fresh : (y : Fresh) → x.fresh ≡ y → FitsIn 0 len (Fresh.Memory g start len its)
    by_fresh (Fresh.Send a b c d e' g' h') v = absurd (grind (arith, w, v))
    by_fresh (Fresh.Receive a b c) v = absurd (grind (arith, w, v))
    by_fresh (Fresh.Memory a b c d) v = absurd (grind (arith, w, v))
form_inside memory n (GrantLine.Range act ep at len perm) o (Fresh.Memory g start l its) m u i w = grind (arith, nat_tests, w, i)
form_inside memory n (GrantLine.Part act ep of at len perm) None (Fresh.Memory g start l its) m u i w = absurd (cc)
form_inside memory n (GrantLine.Part act ep of at len perm) (Some x) (Fresh.Memory g start l its) m u i w = by_fresh x.fresh refl u
  where
    by_fresh : (y : Fresh) → x.fresh ≡ y → FitsIn at len y → FitsIn 0 l (Fresh.Memory g start l its)
    by_fresh (Fresh.Send a b c d e' g' h') v q = absurd (grind (arith, w, v))
    by_fresh (Fresh.Receive a b c) v q = absurd (grind (arith, w, v))
    by_fresh (Fresh.Memory a b c d) v q = grind (arith, nat_tests, w, v, q)

-- the parent is there and live
abbrev pub IsUnder : List Grant → Option ℕ → Type 0
IsUnder gs None = Unit {0}
IsUnder gs (Some p) = ((0 < p) × (p ≤ length gs)) × (is_live_in (grant_in gs p) ≡ true)

parent_there : (gs : List Grant) (of : ℕ) (o : Option Grant) → grant_in gs of ≡ o → is_none (undone o) ≡ false → is_above_closing (undone o) ≡ false → IsUnder gs (Some of)
parent_there gs of None e n k = absurd (cc)
parent_there gs of (Some x) e n k =
    let some : 0 < of = grind (arith, nat_tests, e) in
    let there : slice_get gs (of - 1) ≡ Some x = grind (arith, nat_tests, e) in
    let h : of - 1 < length gs = slice_get_within gs (of - 1) x there in
    let live : is_live x.standing ≡ true = by_done (is_done x.standing) n k in
    ((some, omega (arith, some, h)), rw e live)
  where
    by_done : (b : Bool) → is_none (if b then None else Some x) ≡ false → is_above_closing (if b then None else Some x) ≡ false → is_live x.standing ≡ true
    by_done true n k = absurd (cc)
    by_done false n k = grind (arith, k)

form_none : (n : ℕ) (line : GrantLine) (f : Fresh) (p : ℕ) → parent_of line ≡ Some p → form n line None ≡ Some f → ⊥
form_none n (GrantLine.Recv act ep slots size) f p e w = cc
form_none n (GrantLine.Send act ep of label credits) f p e w = cc
form_none n (GrantLine.Range act ep at len perm) f p e w = cc
form_none n (GrantLine.Part act ep of at len perm) f p e w = cc

pub is_under : (n : ℕ) (gs : List Grant) (line : GrantLine) (f : Fresh) → form n line (above gs line) ≡ Some f → is_above_closing (above gs line) ≡ false → IsUnder gs (parent_of line)
is_under n gs line f w k = by_parent (parent_of line) refl
  where
    by_parent : (p : Option ℕ) → parent_of line ≡ p → IsUnder gs p
    by_parent None e = tt
    by_parent (Some of) e =
        let a : above gs line ≡ undone (grant_in gs of) = ap (λ p. undone (parent_in gs p)) e in
        let some : is_none (undone (grant_in gs of)) ≡ false = by_there (undone (grant_in gs of)) refl in
        parent_there gs of (grant_in gs of) refl some (sym (ap is_above_closing a) ∙ k)
      where
        by_there : (o : Option Grant) → undone (grant_in gs of) ≡ o → is_none o ≡ false
        by_there (Some x) v = refl
        by_there None v = absurd (form_none n line f of e (ap (form n line) (sym (ap (λ p. undone (parent_in gs p)) e ∙ v)) ∙ w))

-- the child is counted before it is there, or after
set_pushed : (nodes : List Node) (y : Node) (i : ℕ) (f : Node → Node) → i < length nodes → with_found (nodes ++ y ∷ []) i f (slice_get (nodes ++ y ∷ []) i) ≡ with_found nodes i f (slice_get nodes i) ++ y ∷ []
set_pushed [] y i f h = absurd (omega arith)
set_pushed (x ∷ xs) y zero f h = refl
set_pushed (x ∷ xs) y (suc i) f h = next (xs ++ y ∷ []) (slice_get (xs ++ y ∷ []) i) ∙ (ap (λ z. x ∷ z) (set_pushed xs y i f (omega (arith, h))) ∙ ap (λ z. z ++ y ∷ []) (sym (next xs (slice_get xs i))))
  where
    next : (zs : List Node) (o : Option Node) → with_found (x ∷ zs) (suc i) f o ≡ x ∷ with_found zs i f o
    next zs None = refl
    next zs (Some z) = refl

under_pushed : (nodes : List Node) (y : Node) (p : Option ℕ) (f : Node → Node) → IsUnder (grants_of nodes) p → under_parent (nodes ++ y ∷ []) p f ≡ under_parent nodes p f ++ y ∷ []
under_pushed nodes y None f u = refl
under_pushed nodes y (Some g) f u =
    let some : 0 < g = u.0.0 in
    let last : g ≤ length (grants_of nodes) = u.0.1 in
    set_pushed nodes y (g - 1) f (omega (arith, some, last, length_grants nodes))

pub made_is : (memory : ℕ) (nodes : List Node) (line : GrantLine) (f : Fresh) → make_refusal memory (grants_of nodes) line ≡ None → form (length (grants_of nodes) + 1) line (above (grants_of nodes) line) ≡ Some f → under_parent (nodes ++ new_node line f ∷ []) (parent_of line) with_child_more ≡ under_parent nodes (parent_of line) with_child_more ++ new_node line f ∷ []
made_is memory nodes line f e w =
    let gs = grants_of nodes in
    let known : Allowed memory gs line (above gs line) = allowed memory gs line e in
    under_pushed nodes (new_node line f) (parent_of line) with_child_more (is_under (length gs + 1) gs line f w known.is_open)

pub before_made : (memory : ℕ) (nodes : List Node) (line : GrantLine) (f : Fresh) → make_refusal memory (grants_of nodes) line ≡ None → form (length (grants_of nodes) + 1) line (above (grants_of nodes) line) ≡ Some f → is_before (parent_of line) (length nodes) ≡ true
before_made memory nodes line f e w =
    let gs = grants_of nodes in
    let known : Allowed memory gs line (above gs line) = allowed memory gs line e in
    by_parent (parent_of line) (is_under (length gs + 1) gs line f w known.is_open)
  where
    by_parent : (p : Option ℕ) → IsUnder (grants_of nodes) p → is_before p (length nodes) ≡ true
    by_parent None u = refl
    by_parent (Some g) u = grind (arith, nat_tests, u.0.0, u.0.1, length_grants nodes)

pub room_pushed : (nodes : List Node) (line : GrantLine) (f : Fresh) (p : Option ℕ) → has_room_under nodes p ≡ true → has_room_under (nodes ++ new_node line f ∷ []) p ≡ true
room_pushed nodes line f None h = refl
room_pushed nodes line f (Some g) h = rw (get_pushed nodes (new_node line f) (g - 1)) (by_place (g - 1 == length nodes))
  where
    by_place : (b : Bool) → has_child_room (if b then Some (new_node line f) else slice_get nodes (g - 1)) ≡ true
    by_place true = grind (arith, nat_tests)
    by_place false = h

-- ---- endpoints

slots_apart : (a e b f : ℕ) → e < 16 → f < 16 → 16 * a + e ≡ 16 * b + f → (a ≡ b) × (e ≡ f)
slots_apart a e b f h k w = (omega arith, omega arith)

pub not_any : (a ep : ℕ) (gs : List Grant) (i : ℕ) → list_any (holds_at a ep) gs ≡ false → holds_in a ep (slice_get gs i) ≡ false
not_any a ep [] i e = refl
not_any a ep (x ∷ xs) zero e = grind (arith, e)
not_any a ep (x ∷ xs) (suc i) e = let later : list_any (holds_at a ep) xs ≡ false = grind (arith, e) in not_any a ep xs i later

held_made : (table : List (Option ℕ)) (gs : List Grant) (line : GrantLine) (f : Fresh) → length table ≡ 1024 → holder line < 64 → holder_ep line < 16 → list_any (holds_at (holder line) (holder_ep line)) gs ≡ false → ((a ep i : ℕ) → a < 64 → ep < 16 → holds_in a ep (slice_get gs i) ≡ is_number (i + 1) (get_or table (16 * a + ep) None)) → (a ep i : ℕ) → a < 64 → ep < 16 → holds_in a ep (slice_get (gs ++ new_grant line f ∷ []) i) ≡ is_number (i + 1) (get_or (set table (16 * holder line + holder_ep line) (Some (length gs + 1))) (16 * a + ep) None)
held_made table gs line f room h e free t a ep i ha he = rw (get_pushed gs (new_grant line f) i) (by_slot (16 * a + ep == 16 * holder line + holder_ep line) refl)
  where
    by_slot : (b : Bool) → (16 * a + ep == 16 * holder line + holder_ep line) ≡ b → holds_in a ep (if i == length gs then Some (new_grant line f) else slice_get gs i) ≡ is_number (i + 1) (get_or (set table (16 * holder line + holder_ep line) (Some (length gs + 1))) (16 * a + ep) None)
    by_slot true w =
        let s : 16 * a + ep ≡ 16 * holder line + holder_ep line = grind (arith, nat_tests, w) in
        let same : (a ≡ holder line) × (ep ≡ holder_ep line) = slots_apart a ep (holder line) (holder_ep line) he e s in
        let put : get_or (set table (16 * holder line + holder_ep line) (Some (length gs + 1))) (16 * holder line + holder_ep line) None ≡ Some (length gs + 1) = get_or-set_same table (16 * holder line + holder_ep line) (Some (length gs + 1)) None (omega arith) in
        let others : holds_in a ep (slice_get gs i) ≡ false = not_any a ep gs i (rw (same.0, same.1) free) in
        rw (s, put) (grind (arith, nat_tests, same.0, same.1, others))
    by_slot false w =
        let s : 16 * a + ep ≢ 16 * holder line + holder_ep line = grind (arith, nat_tests, w) in
        let other : holds_at a ep (new_grant line f) ≡ false = grind (arith, nat_tests, s) in
        let none : holds_in a ep (slice_get gs (length gs)) ≡ false = rw (slice_get_past gs (length gs) (omega arith)) refl in
        rw (get_or-set_other table (16 * holder line + holder_ep line) (16 * a + ep) (Some (length gs + 1)) None s) (by_place none other (i == length gs) refl)
      where
        by_place : holds_in a ep (slice_get gs (length gs)) ≡ false → holds_at a ep (new_grant line f) ≡ false → (b : Bool) → (i == length gs) ≡ b → holds_in a ep (if b then Some (new_grant line f) else slice_get gs i) ≡ is_number (i + 1) (get_or table (16 * a + ep) None)
        by_place none other true v = let k : i ≡ length gs = grind (arith, nat_tests, v) in other ∙ (sym none ∙ (ap (λ j. holds_in a ep (slice_get gs j)) (sym k) ∙ t a ep i ha he))
        by_place none other false v = t a ep i ha he

numbers_made : (table : List (Option ℕ)) (at n : ℕ) → at < length table → ((k : ℕ) → is_some_number (get_or table k None) ≡ true) → (k : ℕ) → is_some_number (get_or (set table at (Some (n + 1))) k None) ≡ true
numbers_made table at n h t k = by_place (k == at) refl
  where
    by_place : (b : Bool) → (k == at) ≡ b → is_some_number (get_or (set table at (Some (n + 1))) k None) ≡ true
    by_place true w = let s : k ≡ at = grind (arith, nat_tests, w) in rw (s, get_or-set_same table at (Some (n + 1)) None h) (grind (arith, nat_tests))
    by_place false w = let s : k ≢ at = grind (arith, nat_tests, w) in rw (get_or-set_other table at k (Some (n + 1)) None s) (t k)

-- ---- ranges and rights

ranges_made : (gs : List Grant) (x : Grant) → ((i : ℕ) → IsRange (slice_get gs i)) → IsRange (Some x) → (i : ℕ) → IsRange (slice_get (gs ++ x ∷ []) i)
ranges_made gs x r h i = subst IsRange (sym (get_pushed gs x i)) (by_place (i == length gs))
  where
    by_place : (b : Bool) → IsRange (if b then Some x else slice_get gs i)
    by_place true = h
    by_place false = r i

-- those before stay where they are
grant_before : (gs : List Grant) (x : Grant) (p : ℕ) → 0 < p → p ≤ length gs → grant_in (gs ++ x ∷ []) p ≡ grant_in gs p
grant_before gs x p h k =
    let other : (p - 1 == length gs) ≡ false = grind (arith, nat_tests, h, k) in
    let e : slice_get (gs ++ x ∷ []) (p - 1) ≡ slice_get gs (p - 1) = get_pushed gs x (p - 1) ∙ rw other refl in
    grind (arith, nat_tests, e, h)

above_before : (gs : List Grant) (x : Grant) (q : Option ℕ) (n : ℕ) → n ≤ length gs → is_before q n ≡ true → is_live_above (gs ++ x ∷ []) q ≡ is_live_above gs q
above_before gs x None n h e = refl
above_before gs x (Some p) n h e = let a : (0 < p) × (p ≤ n) = grind (arith, nat_tests, e) in let k : p ≤ n = a.1 in rw (grant_before gs x p a.0 (omega (arith, h, k))) refl

rightful_before : (gs : List Grant) (x : Grant) (i : ℕ) (o : Option Grant) → i ≤ length gs → is_rightful gs i o ≡ true → is_rightful (gs ++ x ∷ []) i o ≡ true
rightful_before gs x i None h r = refl
rightful_before gs x i (Some y) h r = let b : is_before (parent_of y.line) i ≡ true = grind (arith, r) in rw (above_before gs x (parent_of y.line) i h b) r

rightful_new : (gs : List Grant) (line : GrantLine) (f : Fresh) → IsUnder gs (parent_of line) → is_rightful (gs ++ new_grant line f ∷ []) (length gs) (Some (new_grant line f)) ≡ true
rightful_new gs line f u = by_parent (parent_of line) u refl
  where
    by_parent : (p : Option ℕ) → IsUnder gs p → parent_of line ≡ p → is_rightful (gs ++ new_grant line f ∷ []) (length gs) (Some (new_grant line f)) ≡ true
    by_parent None u e = rw e refl
    by_parent (Some p) u e = rw (e, grant_before gs (new_grant line f) p u.0.0 u.0.1) (grind (arith, nat_tests, u.0.0, u.0.1, u.1))

rightful_made : (gs : List Grant) (line : GrantLine) (f : Fresh) → IsUnder gs (parent_of line) → ((i : ℕ) → is_rightful gs i (slice_get gs i) ≡ true) → (i : ℕ) → is_rightful (gs ++ new_grant line f ∷ []) i (slice_get (gs ++ new_grant line f ∷ []) i) ≡ true
rightful_made gs line f u r i = rw (get_pushed gs (new_grant line f) i) (by_place (i == length gs) refl)
  where
    by_place : (b : Bool) → (i == length gs) ≡ b → is_rightful (gs ++ new_grant line f ∷ []) i (if b then Some (new_grant line f) else slice_get gs i) ≡ true
    by_place true w = let s : i ≡ length gs = grind (arith, nat_tests, w) in rw s (rightful_new gs line f u)
    by_place false w = by_found (slice_get gs i) refl (r i)
      where
        by_found : (o : Option Grant) → slice_get gs i ≡ o → is_rightful gs i o ≡ true → is_rightful (gs ++ new_grant line f ∷ []) i o ≡ true
        by_found None e k = refl
        by_found (Some x) e k = let h : i < length gs = slice_get_within gs i x e in rightful_before gs (new_grant line f) i (Some x) (omega arith) k

-- ---- children

count_pushed : (g : ℕ) (gs : List Grant) (line : GrantLine) (f : Fresh) → count_by (is_open_child g) (gs ++ new_grant line f ∷ []) ≡ count_by (is_open_child g) gs + cond (is_number g (parent_of line)) 1 0
count_pushed g gs line f = sum_by_push (λ x. cond (is_open_child g x) 1 0) gs (new_grant line f) ∙ grind (arith)

abbrev pub IsBefore : Option ℕ → ℕ → Type 0
IsBefore None n = Unit {0}
IsBefore (Some p) n = (0 < p) × (p ≤ n)

before_under : (gs : List Grant) (p : Option ℕ) → IsUnder gs p → IsBefore p (length gs)
before_under gs None u = tt
before_under gs (Some p) u = u.0

one_more_counts : (n : ℕ) (nodes : List Node) (i : ℕ) (o : Option Node) → slice_get nodes i ≡ o → i < length nodes → Counts n o → Counts (n + 1) (on_node with_child_more o)
one_more_counts n nodes i None e h k = absurd (let z : length nodes ≤ i = get_none nodes i e in omega arith)
one_more_counts n nodes i (Some x) e h k = ap (λ m. m + 1) k

counts_under : (count : ℕ → ℕ) (nodes : List Node) (p : Option ℕ) → IsBefore p (length nodes) → ((i : ℕ) → Counts (count i) (slice_get nodes i)) → (i : ℕ) → Counts (count i + cond (is_number (i + 1) p) 1 0) (slice_get (under_parent nodes p with_child_more) i)
counts_under count nodes None b k i = let P : ℕ → Type 0 = λ n. Counts n (slice_get nodes i) in let e : count i ≡ count i + 0 = omega arith in subst P e (k i)
counts_under count nodes (Some g) b k i = subst (Counts (count i + cond (g == (i + 1)) 1 0)) (sym (get_with_node nodes with_child_more (g - 1) i)) (by_place (i == (g - 1)) refl)
  where
    by_place : (b : Bool) → (i == (g - 1)) ≡ b → Counts (count i + cond (g == (i + 1)) 1 0) (if b then on_node with_child_more (slice_get nodes (g - 1)) else slice_get nodes i)
    by_place true w =
        let same : i ≡ g - 1 = grind (arith, nat_tests, w) in
        let hit : count i + cond (g == (i + 1)) 1 0 ≡ count (g - 1) + 1 = grind (arith, nat_tests, same, b.0) in
        let Q : ℕ → Type 0 = λ n. Counts n (on_node with_child_more (slice_get nodes (g - 1))) in
        subst Q (sym hit) (one_more_counts (count (g - 1)) nodes (g - 1) (slice_get nodes (g - 1)) refl (let h : g ≤ length nodes = b.1 in let z : 0 < g = b.0 in omega arith) (k (g - 1)))
    by_place false w =
        let missed : count i + cond (g == (i + 1)) 1 0 ≡ count i = grind (arith, nat_tests, w, b.0) in
        let Q : ℕ → Type 0 = λ n. Counts n (slice_get nodes i) in
        subst Q (sym missed) (k i)

counts_pushed : (count : ℕ → ℕ) (nodes : List Node) (x : Node) → x.children ≡ count (length nodes) → ((i : ℕ) → Counts (count i) (slice_get nodes i)) → (i : ℕ) → Counts (count i) (slice_get (nodes ++ x ∷ []) i)
counts_pushed count nodes x e k i = subst (Counts (count i)) (sym (get_pushed nodes x i)) (by_place (i == length nodes) refl)
  where
    by_place : (b : Bool) → (i == length nodes) ≡ b → Counts (count i) (if b then Some x else slice_get nodes i)
    by_place true w = let same : length nodes ≡ i = grind (arith, nat_tests, w) in e ∙ ap count same
    by_place false w = k i

none_beyond : (n : ℕ) (p : Option ℕ) → IsBefore p n → cond {A = ℕ} (is_number (n + 1) p) 1 0 ≡ 0
none_beyond n None b = refl
none_beyond n (Some g) b = grind (arith, nat_tests, b.1)

children_made : (nodes : List Node) (line : GrantLine) (f : Fresh) → IsBefore (parent_of line) (length nodes) → ((i : ℕ) → Counts (count_by (is_open_child (i + 1)) (grants_of nodes)) (slice_get nodes i)) → (i : ℕ) → Counts (count_by (is_open_child (i + 1)) (grants_of nodes ++ new_grant line f ∷ [])) (slice_get (under_parent nodes (parent_of line) with_child_more ++ new_node line f ∷ []) i)
children_made nodes line f b k i =
    let p = parent_of line in
    let count : ℕ → ℕ = λ j. count_by (is_open_child (j + 1)) (grants_of nodes) + cond (is_number (j + 1) p) 1 0 in
    let past : Counts (count_by (is_open_child (length nodes + 1)) (grants_of nodes)) None = subst (Counts (count_by (is_open_child (length nodes + 1)) (grants_of nodes))) (slice_get_past nodes (length nodes) (omega arith)) (k (length nodes)) in
    let none : count (length nodes) ≡ 0 = grind (arith, past, none_beyond (length nodes) p b) in
    let Q : ℕ → Type 0 = λ n. Counts n (slice_get (under_parent nodes p with_child_more ++ new_node line f ∷ []) i) in
    subst Q (sym (count_pushed (i + 1) (grants_of nodes) line f)) (
    counts_pushed count (under_parent nodes p with_child_more) (new_node line f) (sym (ap count (length_under nodes p with_child_more) ∙ none)) (counts_under (λ j. count_by (is_open_child (j + 1)) (grants_of nodes)) nodes p b k) i
    )

-- ---- the tree

pub tree_made : (memory : ℕ) (nodes : List Node) (table : List (Option ℕ)) (line : GrantLine) (f : Fresh) → memory ≤ 1048576 → IsTree nodes table → make_refusal memory (grants_of nodes) line ≡ None → holder line < 64 → holder_ep line < 16 → form (length (grants_of nodes) + 1) line (above (grants_of nodes) line) ≡ Some f → IsTree (under_parent nodes (parent_of line) with_child_more ++ new_node line f ∷ []) (set table (16 * holder line + holder_ep line) (Some (length (grants_of nodes) + 1)))
tree_made memory nodes table line f m t n a e w =
    let gs = grants_of nodes in
    let known : Allowed memory gs line (above gs line) = allowed memory gs line n in
    let is : gs ++ new_grant line f ∷ [] ≡ grants_of (under_parent nodes (parent_of line) with_child_more ++ new_node line f ∷ []) = sym (grants_made nodes line f) in
    let under : IsUnder gs (parent_of line) = is_under (length gs + 1) gs line f w known.is_open in
    let fits : FitsUnder line (above gs line) = fits_under memory line (above gs line) (above_range gs line t.ranges) known.inside in
    let before : IsBefore (parent_of line) (length nodes) = subst (IsBefore (parent_of line)) (length_grants nodes) (before_under gs (parent_of line) under) in
    let at : 16 * holder line + holder_ep line < length table = omega (arith, a, e, t.room) in
    let size = length_pushed (under_parent nodes (parent_of line) with_child_more) (new_node line f) in
    record {
      few = omega (arith, size, length_under nodes (parent_of line) with_child_more, length_grants nodes, known.few);
      room = length-set table (16 * holder line + holder_ep line) (Some (length gs + 1)) ∙ t.room;
      numbers = numbers_made table (16 * holder line + holder_ep line) (length gs) at t.numbers;
      held = subst (λ hs. (b ep i : ℕ) → b < 64 → ep < 16 → holds_in b ep (slice_get hs i) ≡ is_number (i + 1) (get_or (set table (16 * holder line + holder_ep line) (Some (length gs + 1))) (16 * b + ep) None)) is (held_made table gs line f t.room a e known.is_free t.held);
      ranges = subst (λ hs. (i : ℕ) → IsRange (slice_get hs i)) is (ranges_made gs (new_grant line f) t.ranges (form_inside memory (length gs + 1) line (above gs line) f m fits known.inside w));
      children = subst (λ hs. (i : ℕ) → Counts (count_by (is_open_child (i + 1)) hs) (slice_get (under_parent nodes (parent_of line) with_child_more ++ new_node line f ∷ []) i)) is (children_made nodes line f before t.children);
      rightful = subst (λ hs. (i : ℕ) → is_rightful hs i (slice_get hs i) ≡ true) is (rightful_made gs line f under t.rightful);
    }

-- ---- a count stays within 4,096

room_found : (n : ℕ) (o : Option Node) → n < 4096 → Counts n o → has_child_room o ≡ true
room_found n None h k = refl
room_found n (Some x) h k = grind (arith, nat_tests, h, k)

pub room_under : (nodes : List Node) (p : Option ℕ) → length (grants_of nodes) < 4096 → ((i : ℕ) → Counts (count_by (is_open_child (i + 1)) (grants_of nodes)) (slice_get nodes i)) → has_room_under nodes p ≡ true
room_under nodes None h k = refl
room_under nodes (Some g) h k =
    let few = count_by-le-length (is_open_child (g - 1 + 1)) (grants_of nodes) in
    room_found (count_by (is_open_child (g - 1 + 1)) (grants_of nodes)) (slice_get nodes (g - 1)) (omega (arith, few, h)) (k (g - 1))
