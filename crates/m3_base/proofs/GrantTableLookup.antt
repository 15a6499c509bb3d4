-- The table of grants and the list of grants that it stands for.
use Rattle.std.proofs.Common.{◌≡◌, ℕ, zero, suc, ◌+◌, ◌-◌, ◌*◌, ◌<◌, true, false, List, [], ◌∷◌, length, Some, None, refl, sym, ◌∙◌, ap, subst, arith, length-set}
use Rattle.std.specs.Prelude.{Option, if◌then◌else◌, ◌==◌, slice_get, slice_index_or, is_some, count_by}
use Rattle.std.specs.List.{list_any}
use Rattle.std.proofs.lemmas.Bool.Decides.{nat_tests}
use Rattle.m3_base.proofs.ListLookups.{get_set}
use Rattle.m3_base.specs.declared.grants.node.Node.{Node}
use Rattle.m3_base.specs.Ideal.State.{Grant, grant_in, is_number}
use Rattle.m3_base.specs.Ideal.GrantRules.{is_open_child, holds_at}
use Rattle.m3_base.specs.Setup.GrantTable.{on_node, grants_of, grant_of, with_found, with_node, Counts, AllCounted, Stands, IsTree, holds_in, is_some_number}

pub found : (nodes : List Node) (i : ℕ) → slice_get (grants_of nodes) i ≡ grant_of (slice_get nodes i)
found [] i = refl
found (x ∷ xs) zero = refl
found (x ∷ xs) (suc i) = grind (arith, found xs i)

pub stands_at : (nodes : List Node) (g : ℕ) → 0 < g → AllCounted nodes → Stands (grants_of nodes) g (grant_in (grants_of nodes) g) (slice_get nodes (g - 1))
stands_at nodes g some counts = by_node (slice_get nodes (g - 1)) refl
  where
    there : grant_in (grants_of nodes) g ≡ grant_of (slice_get nodes (g - 1))
    there = grind (arith, nat_tests, found nodes (g - 1), some)

    by_node : (o : Option Node) → slice_get nodes (g - 1) ≡ o → Stands (grants_of nodes) g (grant_in (grants_of nodes) g) o
    by_node None e = there ∙ ap grant_of e
    by_node (Some x) e =
        let s : g - 1 + 1 ≡ g = omega (arith, some) in
        let count : Counts (count_by (is_open_child (g - 1 + 1)) (grants_of nodes)) (Some x) = subst (Counts (count_by (is_open_child (g - 1 + 1)) (grants_of nodes))) e (counts (g - 1)) in
        (there ∙ ap grant_of e, subst (λ m. x.children ≡ count_by (is_open_child m) (grants_of nodes)) s count)

pub length_grants : (nodes : List Node) → length (grants_of nodes) ≡ length nodes
length_grants [] = refl
length_grants (x ∷ xs) = grind (arith, length_grants xs)

get_found : (nodes : List Node) (f : Node → Node) (i k : ℕ) (o : Option Node) → slice_get nodes i ≡ o → slice_get (with_found nodes i f o) k ≡ (if k == i then on_node f o else slice_get nodes k)
get_found nodes f i k None e = grind (arith, nat_tests, e)
get_found nodes f i k (Some x) e = get_set nodes i k x (f x) e

pub get_with_node : (nodes : List Node) (f : Node → Node) (i k : ℕ) → slice_get (with_node nodes i f) k ≡ (if k == i then on_node f (slice_get nodes i) else slice_get nodes k)
get_with_node nodes f i k = get_found nodes f i k (slice_get nodes i) refl

pub length_with_node : (nodes : List Node) (f : Node → Node) (i : ℕ) → length (with_node nodes i f) ≡ length nodes
length_with_node nodes f i = by_found (slice_get nodes i)
  where
    by_found : (o : Option Node) → length (with_found nodes i f o) ≡ length nodes
    by_found None = refl
    by_found (Some x) = length-set nodes i (f x)

pub any_none : (act ep : ℕ) (gs : List Grant) → ((i : ℕ) → holds_in act ep (slice_get gs i) ≡ false) → list_any (holds_at act ep) gs ≡ false
any_none act ep [] e = refl
any_none act ep (x ∷ xs) e = let head : holds_at act ep x ≡ false = e 0 in rw head (any_none act ep xs (λ i. e (suc i)))

pub any_some : (act ep : ℕ) (gs : List Grant) (i : ℕ) → holds_in act ep (slice_get gs i) ≡ true → list_any (holds_at act ep) gs ≡ true
any_some act ep [] i e = absurd (cc)
any_some act ep (x ∷ xs) zero e = let head : holds_at act ep x ≡ true = e in rw head refl
any_some act ep (x ∷ xs) (suc i) e = grind (arith, any_some act ep xs i e)

pub any_held : (act ep : ℕ) (gs : List Grant) (o : Option ℕ) → ((h : ℕ) → o ≡ Some h → 0 < h) → ((i : ℕ) → holds_in act ep (slice_get gs i) ≡ is_number (i + 1) o) → is_some o ≡ list_any (holds_at act ep) gs
any_held act ep gs None p e = sym (any_none act ep gs e)
any_held act ep gs (Some h) p e =
    let s : h - 1 + 1 ≡ h = let z : 0 < h = p h refl in omega arith in
    let k : holds_in act ep (slice_get gs (h - 1)) ≡ true = e (h - 1) ∙ grind (arith, nat_tests, s) in
    sym (any_some act ep gs (h - 1) k)

pub slot_is : (table : List (Option ℕ)) (at : ℕ) (r : Option ℕ) → at < length table → r ≡ slice_index_or table at r → r ≡ slice_index_or table at None
slot_is [] at r h e = absurd (omega (arith, h))
slot_is (x ∷ xs) zero r h e = e
slot_is (x ∷ xs) (suc at) r h e = slot_is xs at r (omega (arith, h)) e

pub some_is : (o : Option ℕ) → is_some_number o ≡ true → (h : ℕ) → o ≡ Some h → 0 < h
some_is None e h w = absurd (cc)
some_is (Some k) e h w = grind (arith, nat_tests, e, w)

-- the table of endpoints says which are taken
pub taken_is : (nodes : List Node) (table : List (Option ℕ)) (act ep : ℕ) → IsTree nodes table → act < 64 → ep < 16 → is_some (slice_index_or table (16 * act + ep) None) ≡ list_any (holds_at act ep) (grants_of nodes)
taken_is nodes table act ep t a e =
    any_held act ep (grants_of nodes) (slice_index_or table (16 * act + ep) None) (some_is (slice_index_or table (16 * act + ep) None) (t.numbers (16 * act + ep))) (λ i. t.held act ep i a e)
