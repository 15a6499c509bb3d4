-- The nodes and the list of grants that they stand for.
use Rattle.std.proofs.Common.{cond, ◌≡◌, ℕ, zero, suc, ◌+◌, ◌-◌, ◌<◌, ◌≤◌, Bool, true, false, List, [], ◌∷◌, map, Some, None, refl, sym, ◌∙◌, ap, subst, arith}
use Rattle.std.specs.Prelude.{Option, ◌==◌, slice_get, slice_set, slice_index_or, count_by}
use Rattle.std.specs.List.{list_any}
use Rattle.std.proofs.lemmas.List.Sums.{sum_by-cons}
use Rattle.std.proofs.lemmas.Bool.Decides.{nat_tests}
use Rattle.m3_base.specs.Ideal.State.{Grant, grant_in, is_number}
use Rattle.m3_base.specs.Ideal.GrantRules.{is_open_child, may_close, change_grant}
use Rattle.m3_base.specs.Placement.Order.{least_closing}
use Rattle.m3_base.specs.declared.grants.node.Node.{Node}
use Rattle.m3_base.specs.declared.grants.node.Stage.{Stage}
use Rattle.m3_base.specs.Setup.GrantTable.{holds_in, as_grant, grants_of, with_found, with_node, Counts}
use Rattle.m3_base.proofs.GrantTableLookup.{found}
use Rattle.m3_grants.specs.GrantTree.{GrantTree, IsHeld, IsChildless}
use Rattle.m3_grants.specs.NodeView.{is_due, first_due}

-- what is listed of each, at a place
abbrev pub read : {X : Type 0} → (X → Option ℕ) → Option X → Option ℕ
read f None = None
read f (Some x) = f x

pub mapped_at : {X : Type 0} (f : X → Option ℕ) (xs : List X) (i : ℕ) → slice_index_or (map f xs) i None ≡ read f (slice_get xs i)
mapped_at f [] i = refl
mapped_at f (x ∷ xs) zero = refl
mapped_at f (x ∷ xs) (suc i) = mapped_at f xs i

pub mapped_same : {X : Type 0} (f : X → Option ℕ) (xs : List X) (i : ℕ) (x y : X) → slice_get xs i ≡ Some x → f y ≡ f x → map f (slice_set xs i y) ≡ map f xs
mapped_same f [] i x y e h = absurd (cc)
mapped_same f (z ∷ zs) zero x y e h = let s : z ≡ x = grind (arith, e) in ap (λ p. p ∷ map f zs) (h ∙ ap f (sym s))
mapped_same f (z ∷ zs) (suc i) x y e h = ap (λ p. f z ∷ p) (mapped_same f zs i x y e h)

-- ---- one grant changed

map_set : (nodes : List Node) (i : ℕ) (y : Node) → grants_of (slice_set nodes i y) ≡ slice_set (grants_of nodes) i (as_grant y)
map_set [] i y = refl
map_set (x ∷ xs) zero y = refl
map_set (x ∷ xs) (suc i) y = grind (arith, map_set xs i y)

pub grants_changed : (nodes : List Node) (f : Node → Node) (change : Grant → Grant) (g : ℕ) → 0 < g → ((x : Node) → as_grant (f x) ≡ change (as_grant x)) → grants_of (with_node nodes (g - 1) f) ≡ change_grant (grants_of nodes) g change
grants_changed nodes f change g h same = by_found (slice_get nodes (g - 1)) refl
  where
    by_found : (o : Option Node) → slice_get nodes (g - 1) ≡ o → grants_of (with_found nodes (g - 1) f o) ≡ change_grant (grants_of nodes) g change
    by_found None e = grind (arith, nat_tests, found nodes (g - 1), e)
    by_found (Some x) e =
        let there : grant_in (grants_of nodes) g ≡ Some (as_grant x) = grind (arith, nat_tests, found nodes (g - 1), e) in
        rw there (map_set nodes (g - 1) (f x) ∙ ap (slice_set (grants_of nodes) (g - 1)) (same x))

-- ---- endpoints

holds_by_number : (act ep : ℕ) (gs : List Grant) (o : Option ℕ) → ((i : ℕ) → holds_in act ep (slice_get gs i) ≡ is_number (i + 1) o) → (g : ℕ) → 0 < g → holds_in act ep (grant_in gs g) ≡ is_number g o
holds_by_number act ep gs o e g h =
    let s : g - 1 + 1 ≡ g = omega arith in
    let there : grant_in gs g ≡ slice_get gs (g - 1) = grind (arith, nat_tests) in
    rw there (e (g - 1) ∙ ap (λ k. is_number k o) s)

pub is_held : (act ep : ℕ) (gs : List Grant) (o : Option ℕ) → ((h : ℕ) → o ≡ Some h → 0 < h) → ((i : ℕ) → holds_in act ep (slice_get gs i) ≡ is_number (i + 1) o) → IsHeld gs act ep o
is_held act ep gs None p e = by_number
  where
    by_number : (g : ℕ) → holds_in act ep (grant_in gs g) ≡ false
    by_number zero = refl
    by_number (suc g) = holds_by_number act ep gs None e (suc g) (omega arith)
is_held act ep gs (Some h) p e = (this, by_number)
  where
    this : holds_in act ep (grant_in gs h) ≡ true
    this = holds_by_number act ep gs (Some h) e h (p h refl) ∙ grind (arith, nat_tests)

    by_number : (g : ℕ) → holds_in act ep (grant_in gs g) ≡ true → g ≡ h
    by_number zero w = absurd (cc)
    by_number (suc g) w = let k : (h == suc g) ≡ true = sym (holds_by_number act ep gs (Some h) e (suc g) (omega arith)) ∙ w in grind (arith, nat_tests, k)

-- ---- the least grant whose Close is due

pub count_cons : (p : Grant → Bool) (x : Grant) (xs : List Grant) → count_by p (x ∷ xs) ≡ cond (p x) 1 0 + count_by p xs
count_cons p x xs = sum_by-cons (λ y. cond (p y) 1 0) x xs

no_child : (g : ℕ) (gs : List Grant) → count_by (is_open_child g) gs ≡ 0 → list_any (is_open_child g) gs ≡ false
no_child g [] e = refl
no_child g (x ∷ xs) e = by_head (no_child g xs) (is_open_child g x) refl
  where
    by_head : (count_by (is_open_child g) xs ≡ 0 → list_any (is_open_child g) xs ≡ false) → (b : Bool) → is_open_child g x ≡ b → list_any (is_open_child g) (x ∷ xs) ≡ false
    by_head later true w = absurd (let z : count_by (is_open_child g) (x ∷ xs) ≡ 1 + count_by (is_open_child g) xs = count_cons (is_open_child g) x xs ∙ rw w refl in omega (arith, z, e))
    by_head later false w = let z : count_by (is_open_child g) (x ∷ xs) ≡ 0 + count_by (is_open_child g) xs = count_cons (is_open_child g) x xs ∙ rw w refl in rw w (later (omega (arith, z, e)))

some_child : (g : ℕ) (gs : List Grant) → 0 < count_by (is_open_child g) gs → list_any (is_open_child g) gs ≡ true
some_child g [] e = absurd (omega arith)
some_child g (x ∷ xs) e = by_head (some_child g xs) (is_open_child g x) refl
  where
    by_head : (0 < count_by (is_open_child g) xs → list_any (is_open_child g) xs ≡ true) → (b : Bool) → is_open_child g x ≡ b → list_any (is_open_child g) (x ∷ xs) ≡ true
    by_head later true w = rw w refl
    by_head later false w = let z : count_by (is_open_child g) (x ∷ xs) ≡ 0 + count_by (is_open_child g) xs = count_cons (is_open_child g) x xs ∙ rw w refl in rw w (later (omega (arith, z, e)))

-- a child is one of those that are counted
abbrev pub is_child_in : ℕ → Option Grant → Bool
is_child_in g None = false
is_child_in g (Some x) = is_open_child g x

pub child_counts : (g : ℕ) (gs : List Grant) (i : ℕ) → is_child_in g (slice_get gs i) ≡ true → 0 < count_by (is_open_child g) gs
child_counts g [] i e = absurd (cc)
child_counts g (x ∷ xs) zero e = let w : is_open_child g x ≡ true = e in let z : count_by (is_open_child g) (x ∷ xs) ≡ 1 + count_by (is_open_child g) xs = count_cons (is_open_child g) x xs ∙ rw w refl in omega (arith, z)
child_counts g (x ∷ xs) (suc i) e = let z = count_cons (is_open_child g) x xs in let h : 0 < count_by (is_open_child g) xs = child_counts g xs i e in omega (arith, z, h)

due_is : (x : Node) (g : ℕ) (gs : List Grant) → Counts (count_by (is_open_child g) gs) (Some x) → is_due x ≡ may_close gs g (Some (as_grant x))
due_is x g gs k = by_count (x.children == 0) refl
  where
    by_count : (b : Bool) → (x.children == 0) ≡ b → is_due x ≡ may_close gs g (Some (as_grant x))
    by_count true w =
        let z : count_by (is_open_child g) gs ≡ 0 = grind (arith, nat_tests, w, k) in
        let n : list_any (is_open_child g) gs ≡ false = no_child g gs z in
        by_stage x.stage refl n
      where
        by_stage : (s : Stage) → x.stage ≡ s → list_any (is_open_child g) gs ≡ false → is_due x ≡ may_close gs g (Some (as_grant x))
        by_stage Stage.Live e n = grind (arith, e)
        by_stage Stage.Done e n = grind (arith, e)
        by_stage Stage.Closing e n = grind (arith, e, n, w)
    by_count false w =
        let z : 0 < count_by (is_open_child g) gs = grind (arith, nat_tests, w, k) in
        let n : list_any (is_open_child g) gs ≡ true = some_child g gs z in
        by_stage x.stage refl n
      where
        by_stage : (s : Stage) → x.stage ≡ s → list_any (is_open_child g) gs ≡ true → is_due x ≡ may_close gs g (Some (as_grant x))
        by_stage Stage.Live e n = grind (arith, e)
        by_stage Stage.Done e n = grind (arith, e)
        by_stage Stage.Closing e n = grind (arith, e, n, w)

first_of : (all : List Grant) (n : ℕ) (nodes : List Node) → ((i : ℕ) → Counts (count_by (is_open_child (n + i)) all) (slice_get nodes i)) → first_due n nodes ≡ least_closing all n (grants_of nodes)
first_of all n [] k = refl
first_of all n (x ∷ xs) k =
    let here : Counts (count_by (is_open_child n) all) (Some x) = let s : n + 0 ≡ n = omega arith in subst (λ m. Counts (count_by (is_open_child m) all) (Some x)) s (k 0) in
    let later : (i : ℕ) → Counts (count_by (is_open_child (n + 1 + i)) all) (slice_get xs i) = λ i. let s : n + suc i ≡ n + 1 + i = omega arith in subst (λ m. Counts (count_by (is_open_child m) all) (slice_get xs i)) s (k (suc i)) in
    grind (arith, due_is x n all here, first_of all (n + 1) xs later)

pub first_is : (nodes : List Node) → ((i : ℕ) → Counts (count_by (is_open_child (i + 1)) (grants_of nodes)) (slice_get nodes i)) → first_due 1 nodes ≡ least_closing (grants_of nodes) 1 (grants_of nodes)
first_is nodes k = first_of (grants_of nodes) 1 nodes (λ i. let s : i + 1 ≡ 1 + i = omega arith in subst (λ m. Counts (count_by (is_open_child m) (grants_of nodes)) (slice_get nodes i)) s (k i))

pub least_due : (all : List Grant) (n : ℕ) (gs : List Grant) (g : ℕ) → least_closing all n gs ≡ Some g → (n ≤ g) × (may_close all g (slice_get gs (g - n)) ≡ true)
least_due all n [] g e = absurd (cc)
least_due all n (x ∷ xs) g e = by_head (least_due all (n + 1) xs g) (may_close all n (Some x)) refl
  where
    by_head : (least_closing all (n + 1) xs ≡ Some g → (n + 1 ≤ g) × (may_close all g (slice_get xs (g - (n + 1))) ≡ true)) → (b : Bool) → may_close all n (Some x) ≡ b → (n ≤ g) × (may_close all g (slice_get (x ∷ xs) (g - n)) ≡ true)
    by_head later true w =
        let s : n ≡ g = grind (arith, w, e) in
        let z : g - n ≡ 0 = omega arith in
        let v : may_close all g (Some x) ≡ true = subst (λ m. may_close all m (Some x) ≡ true) s w in
        (omega arith, rw z v)
    by_head later false w =
        let more : least_closing all (n + 1) xs ≡ Some g = grind (arith, w, e) in
        let h : (n + 1 ≤ g) × (may_close all g (slice_get xs (g - (n + 1))) ≡ true) = later more in
        let a : n + 1 ≤ g = h.0 in
        let s : g - n ≡ suc (g - (n + 1)) = omega arith in
        (omega arith, rw s h.1)

childless_due : (all : List Grant) (g : ℕ) (o : Option Grant) → may_close all g o ≡ true → list_any (is_open_child g) all ≡ false
childless_due all g None e = absurd (cc)
childless_due all g (Some x) e = by_any (list_any (is_open_child g) all) refl
  where
    by_any : (b : Bool) → list_any (is_open_child g) all ≡ b → b ≡ false
    by_any false w = refl
    by_any true w = absurd (grind (arith, w, e))

pub childless : (gs : List Grant) (o : Option ℕ) → o ≡ least_closing gs 1 gs → IsChildless gs o
childless gs None e = tt
childless gs (Some g) e = childless_due gs g (slice_get gs (g - 1)) (least_due gs 1 gs g (sym e)).1

-- ---- the table and the whole tree

abbrev pub tree_of : ℕ → List Grant → GrantTree
tree_of memory gs = record { memory = memory; grants = gs }
