-- The tree stays right as a grant is done.
use Rattle.std.proofs.Common.{cond, ◌≡◌, ◌≢◌, ℕ, ◌+◌, ◌-◌, ◌*◌, ◌<◌, Bool, true, false, List, length, Some, None, refl, sym, ◌∙◌, ap, subst, arith, get_or, set, length-set, get_or-set_same, get_or-set_other}
use Rattle.std.specs.Prelude.{Option, if◌then◌else◌, ◌==◌, slice_get, slice_set, count_by}
use Rattle.std.proofs.lemmas.List.Sums.{sum_by-set}
use Rattle.std.proofs.lemmas.Option.{slice_get_within, get_or_from_slice_get}
use Rattle.std.proofs.lemmas.Bool.Decides.{nat_tests}
use Rattle.m3_base.specs.Ideal.State.{Grant, grant_in, parent_of, holder, holder_ep, is_number, is_done, is_live}
use Rattle.m3_base.specs.Ideal.GrantRules.{is_open_child, change_grant, to_done}
use Rattle.m3_base.specs.declared.grants.node.Node.{Node}
use Rattle.m3_base.specs.Setup.GrantTable.{holds_in, on_node, as_grant, grants_of, grant_of, IsTree, IsRange, Counts, with_node, under_parent, is_before, is_rightful, is_some_number}
use Rattle.m3_grants.specs.GrantTree.{with_done, is_sent_in, is_undone_in}
use Rattle.m3_grants.specs.NodeView.{done_node, has_child, has_child_under, with_child_less}
use Rattle.m3_base.proofs.GrantTableLookup.{found, get_with_node, length_with_node}
use Rattle.m3_grants.proofs.NodeLookup.{grants_changed, is_child_in, child_counts}
use Rattle.m3_grants.proofs.StandingChanges.{Keeps, keeps_same, rightful_kept}
use Rattle.m3_grants.proofs.MarkCloseSent.{get_changed, counts_changed}
use Rattle.m3_base.proofs.GrantTableGrow.{grants_under, length_under}

abbrev pub finished : List Node → ℕ → Option ℕ → List Node
finished nodes g p = with_node (under_parent nodes p with_child_less) (g - 1) done_node

pub grants_done : (nodes : List Node) (g : ℕ) (p : Option ℕ) → 0 < g → grants_of (finished nodes g p) ≡ with_done (grants_of nodes) g
grants_done nodes g p h = grants_changed (under_parent nodes p with_child_less) done_node to_done g h (λ x. refl) ∙ ap (λ gs. change_grant gs g to_done) (grants_under nodes p with_child_less (λ x. refl))

-- each grant before and after
pub get_done : (P : Option Grant → Option Grant → Type 0) (nodes : List Node) (g : ℕ) (p : Option ℕ) (x : Grant) → slice_get (grants_of nodes) (g - 1) ≡ Some x → ((o : Option Grant) → P o o) → P (Some x) (Some (to_done x)) → (k : ℕ) → P (slice_get (grants_of nodes) k) (slice_get (grants_of (finished nodes g p)) k)
get_done P nodes g p x e same here k =
    let mid = under_parent nodes p with_child_less in
    let is : grants_of mid ≡ grants_of nodes = grants_under nodes p with_child_less (λ y. refl) in
    let this : grant_of (slice_get mid (g - 1)) ≡ Some x = sym (found mid (g - 1)) ∙ (ap (λ gs. slice_get gs (g - 1)) is ∙ e) in
    subst (λ gs. P (slice_get gs k) (slice_get (grants_of (finished nodes g p)) k)) is (get_changed P mid done_node (g - 1) same (by_node (slice_get mid (g - 1)) this) k)
  where
    by_node : (o : Option Node) → grant_of o ≡ Some x → P (grant_of o) (grant_of (on_node done_node o))
    by_node None v = absurd (cc)
    by_node (Some y) v = let s : as_grant y ≡ x = grind (arith, v) in let d : as_grant (done_node y) ≡ to_done x = ap to_done s in rw (s, d) here

-- ---- endpoints

Freed : ℕ → ℕ → Grant → Type 0
Freed a ep x = holds_in a ep (Some (to_done x)) ≡ false

held_done : (table : List (Option ℕ)) (gs hs : List Grant) (g : ℕ) (x : Grant) → length table ≡ 1024 → holder x.line < 64 → holder_ep x.line < 16 → 0 < g → slice_get gs (g - 1) ≡ Some x → is_done x.standing ≡ false → ((k : ℕ) → slice_get hs k ≡ (if k == (g - 1) then Some (to_done x) else slice_get gs k)) → ((a ep i : ℕ) → a < 64 → ep < 16 → holds_in a ep (slice_get gs i) ≡ is_number (i + 1) (get_or table (16 * a + ep) None)) → (a ep i : ℕ) → a < 64 → ep < 16 → holds_in a ep (slice_get hs i) ≡ is_number (i + 1) (get_or (set table (16 * holder x.line + holder_ep x.line) None) (16 * a + ep) None)
held_done table gs hs g x room ha he some e undone is t a ep i la le = rw (is i) (by_slot (16 * a + ep == 16 * holder x.line + holder_ep x.line) refl)
  where
    here : holds_in a ep (slice_get gs (g - 1)) ≡ is_number (g - 1 + 1) (get_or table (16 * a + ep) None)
    here = t a ep (g - 1) la le

    by_slot : (b : Bool) → (16 * a + ep == 16 * holder x.line + holder_ep x.line) ≡ b → holds_in a ep (if i == (g - 1) then Some (to_done x) else slice_get gs i) ≡ is_number (i + 1) (get_or (set table (16 * holder x.line + holder_ep x.line) None) (16 * a + ep) None)
    by_slot true w =
        let s : 16 * a + ep ≡ 16 * holder x.line + holder_ep x.line = grind (arith, nat_tests, w) in
        let a_is : a ≡ holder x.line = omega (arith, s, le, he) in
        let ep_is : ep ≡ holder_ep x.line = omega (arith, s, le, he) in
        let put : get_or (set table (16 * holder x.line + holder_ep x.line) None) (16 * holder x.line + holder_ep x.line) None ≡ None = get_or-set_same table (16 * holder x.line + holder_ep x.line) None None (omega arith) in
        let held : holds_in a ep (slice_get gs (g - 1)) ≡ true = rw e (grind (arith, nat_tests, a_is, ep_is, undone)) in
        let number : is_number (g - 1 + 1) (get_or table (16 * a + ep) None) ≡ true = sym here ∙ held in
        rw (ap (λ n. get_or (set table (16 * holder x.line + holder_ep x.line) None) n None) s, put) (by_place number (i == (g - 1)) refl)
      where
        by_place : is_number (g - 1 + 1) (get_or table (16 * a + ep) None) ≡ true → (b : Bool) → (i == (g - 1)) ≡ b → holds_in a ep (if b then Some (to_done x) else slice_get gs i) ≡ false
        by_place number true v = refl
        by_place number false v = t a ep i la le ∙ by_number (get_or table (16 * a + ep) None) number
          where
            by_number : (o : Option ℕ) → is_number (g - 1 + 1) o ≡ true → is_number (i + 1) o ≡ false
            by_number None n = refl
            by_number (Some h) n = grind (arith, nat_tests, n, v)
    by_slot false w =
        let s : 16 * a + ep ≢ 16 * holder x.line + holder_ep x.line = grind (arith, nat_tests, w) in
        let other : holds_in a ep (slice_get gs (g - 1)) ≡ false = rw e (grind (arith, nat_tests, s)) in
        rw (get_or-set_other table (16 * holder x.line + holder_ep x.line) (16 * a + ep) None None s) (by_place (sym here ∙ other) (i == (g - 1)) refl)
      where
        by_place : is_number (g - 1 + 1) (get_or table (16 * a + ep) None) ≡ false → (b : Bool) → (i == (g - 1)) ≡ b → holds_in a ep (if b then Some (to_done x) else slice_get gs i) ≡ is_number (i + 1) (get_or table (16 * a + ep) None)
        by_place number true v = let k : i ≡ g - 1 = grind (arith, nat_tests, v) in rw k (sym number)
        by_place number false v = t a ep i la le

numbers_done : (table : List (Option ℕ)) (at : ℕ) → at < length table → ((k : ℕ) → is_some_number (get_or table k None) ≡ true) → (k : ℕ) → is_some_number (get_or (set table at None) k None) ≡ true
numbers_done table at h t k = by_place (k == at) refl
  where
    by_place : (b : Bool) → (k == at) ≡ b → is_some_number (get_or (set table at None) k None) ≡ true
    by_place true w = let s : k ≡ at = grind (arith, nat_tests, w) in rw (s, get_or-set_same table at None None h) refl
    by_place false w = let s : k ≢ at = grind (arith, nat_tests, w) in rw (get_or-set_other table at k None None s) (t k)

-- ---- children

count_done : (q : ℕ) (gs : List Grant) (g : ℕ) (x : Grant) → 0 < g → slice_get gs (g - 1) ≡ Some x → is_done x.standing ≡ false → count_by (is_open_child q) (with_done gs g) ≡ count_by (is_open_child q) gs - cond (is_number q (parent_of x.line)) 1 0
count_done q gs g x some e undone =
    let h : g - 1 < length gs = slice_get_within gs (g - 1) x e in
    let there : grant_in gs g ≡ Some x = grind (arith, nat_tests, e, some) in
    let is : get_or gs (g - 1) x ≡ x = get_or_from_slice_get gs (g - 1) x x e in
    let f : Grant → ℕ = λ y. cond (is_open_child q y) 1 0 in
    let sums : count_by (is_open_child q) (slice_set gs (g - 1) (to_done x)) + f (get_or gs (g - 1) x) ≡ count_by (is_open_child q) gs + f (to_done x) = sum_by-set f gs (g - 1) (to_done x) x h in
    let was : f (get_or gs (g - 1) x) ≡ cond (is_number q (parent_of x.line)) 1 0 = ap f is ∙ grind (arith, undone) in
    let gone : f (to_done x) ≡ 0 = grind (arith) in
    rw there (omega (arith, sums, was, gone))

less_counts : (n : ℕ) (o : Option Node) → Counts n o → Counts (n - 1) (on_node with_child_less o)
less_counts n None k = omega (arith, k)
less_counts n (Some x) k = ap (λ m. m - 1) k

counts_less : (count : ℕ → ℕ) (nodes : List Node) (p : Option ℕ) (n : ℕ) → is_before p n ≡ true → ((i : ℕ) → Counts (count i) (slice_get nodes i)) → (i : ℕ) → Counts (count i - cond (is_number (i + 1) p) 1 0) (slice_get (under_parent nodes p with_child_less) i)
counts_less count nodes None n b k i = let P : ℕ → Type 0 = λ m. Counts m (slice_get nodes i) in let e : count i ≡ count i - 0 = omega arith in subst P e (k i)
counts_less count nodes (Some g) n b k i = subst (Counts (count i - cond (g == (i + 1)) 1 0)) (sym (get_with_node nodes with_child_less (g - 1) i)) (by_place (i == (g - 1)) refl)
  where
    by_place : (c : Bool) → (i == (g - 1)) ≡ c → Counts (count i - cond (g == (i + 1)) 1 0) (if c then on_node with_child_less (slice_get nodes (g - 1)) else slice_get nodes i)
    by_place true w =
        let same : i ≡ g - 1 = grind (arith, nat_tests, w) in
        let hit : count i - cond (g == (i + 1)) 1 0 ≡ count (g - 1) - 1 = grind (arith, nat_tests, same, b) in
        let Q : ℕ → Type 0 = λ m. Counts m (on_node with_child_less (slice_get nodes (g - 1))) in
        subst Q (sym hit) (less_counts (count (g - 1)) (slice_get nodes (g - 1)) (k (g - 1)))
    by_place false w =
        let missed : count i - cond (g == (i + 1)) 1 0 ≡ count i = grind (arith, nat_tests, w, b) in
        let Q : ℕ → Type 0 = λ m. Counts m (slice_get nodes i) in
        subst Q (sym missed) (k i)

counts_kept : (n : ℕ) (o : Option Node) → Counts n o → Counts n (on_node done_node o)
counts_kept n None h = h
counts_kept n (Some x) h = h

child_found : (n : ℕ) (o : Option Node) → 0 < n → Counts n o → has_child o ≡ true
child_found n None h k = refl
child_found n (Some x) h k = grind (arith, nat_tests, h, k)

pub child_under : (nodes : List Node) (g : ℕ) (x : Grant) (p : Option ℕ) → parent_of x.line ≡ p → slice_get (grants_of nodes) (g - 1) ≡ Some x → is_done x.standing ≡ false → ((i : ℕ) → Counts (count_by (is_open_child (i + 1)) (grants_of nodes)) (slice_get nodes i)) → is_before p (g - 1) ≡ true → has_child_under nodes p ≡ true
child_under nodes g x None e s u k b = refl
child_under nodes g x (Some q) e s u k b =
    let z : q - 1 + 1 ≡ q = let v : 0 < q = grind (arith, nat_tests, b) in omega (arith, v) in
    let child : is_child_in q (slice_get (grants_of nodes) (g - 1)) ≡ true = rw s (grind (arith, nat_tests, e, u)) in
    let some : 0 < count_by (is_open_child q) (grants_of nodes) = child_counts q (grants_of nodes) (g - 1) child in
    child_found (count_by (is_open_child q) (grants_of nodes)) (slice_get nodes (q - 1)) some (subst (λ m. Counts (count_by (is_open_child m) (grants_of nodes)) (slice_get nodes (q - 1))) z (k (q - 1)))

-- ---- the tree

pub before_of : (gs : List Grant) (i : ℕ) (x : Grant) → is_rightful gs i (Some x) ≡ true → is_before (parent_of x.line) i ≡ true
before_of gs i x r = grind (arith, r)

not_live : (gs : List Grant) (i : ℕ) (x : Grant) → is_rightful gs i (Some x) ≡ true → x.close_sent ≡ true → is_live x.standing ≡ false
not_live gs i x r s = by_live (is_live x.standing) refl
  where
    by_live : (b : Bool) → is_live x.standing ≡ b → b ≡ false
    by_live false w = refl
    by_live true w = absurd (grind (arith, r, s, w))

keeps_done : (x : Grant) → is_live x.standing ≡ false → Keeps (Some x) (Some (to_done x))
keeps_done x e = (refl, (e, grind (arith, e)))

done_at : (nodes : List Node) (g : ℕ) (p : Option ℕ) (x : Grant) → slice_get (grants_of nodes) (g - 1) ≡ Some x → (k : ℕ) → slice_get (grants_of (finished nodes g p)) k ≡ (if k == (g - 1) then Some (to_done x) else slice_get (grants_of nodes) k)
done_at nodes g p x e k =
    let mid = under_parent nodes p with_child_less in
    let is : grants_of mid ≡ grants_of nodes = grants_under nodes p with_child_less (λ y. refl) in
    let this : grant_of (slice_get mid (g - 1)) ≡ Some x = sym (found mid (g - 1)) ∙ (ap (λ gs. slice_get gs (g - 1)) is ∙ e) in
    let other : grant_of (slice_get mid k) ≡ slice_get (grants_of nodes) k = sym (found mid k) ∙ ap (λ gs. slice_get gs k) is in
    found (finished nodes g p) k ∙ (ap grant_of (get_with_node mid done_node (g - 1) k) ∙ by_place this other (k == (g - 1)))
  where
    by_node : (o : Option Node) → grant_of o ≡ Some x → grant_of (on_node done_node o) ≡ Some (to_done x)
    by_node None v = absurd (cc)
    by_node (Some y) v = let s : as_grant y ≡ x = grind (arith, v) in ap (λ z. Some (to_done z)) s

    by_place : grant_of (slice_get (under_parent nodes p with_child_less) (g - 1)) ≡ Some x → grant_of (slice_get (under_parent nodes p with_child_less) k) ≡ slice_get (grants_of nodes) k → (b : Bool) → grant_of (if b then on_node done_node (slice_get (under_parent nodes p with_child_less) (g - 1)) else slice_get (under_parent nodes p with_child_less) k) ≡ (if b then Some (to_done x) else slice_get (grants_of nodes) k)
    by_place this other true = by_node (slice_get (under_parent nodes p with_child_less) (g - 1)) this
    by_place this other false = other

pub tree_done : (nodes : List Node) (table : List (Option ℕ)) (g : ℕ) (x : Grant) → IsTree nodes table → 0 < g → slice_get (grants_of nodes) (g - 1) ≡ Some x → is_done x.standing ≡ false → x.close_sent ≡ true → holder x.line < 64 → holder_ep x.line < 16 → IsTree (finished nodes g (parent_of x.line)) (set table (16 * holder x.line + holder_ep x.line) None)
tree_done nodes table g x t some e undone sent ha he =
    let gs = grants_of nodes in
    let p = parent_of x.line in
    let news = finished nodes g p in
    let right : is_rightful gs (g - 1) (Some x) ≡ true = subst (λ o. is_rightful gs (g - 1) o ≡ true) e (t.rightful (g - 1)) in
    let before : is_before p (g - 1) ≡ true = before_of gs (g - 1) x right in
    let keeps : (i : ℕ) → Keeps (slice_get gs i) (slice_get (grants_of news) i) = get_done Keeps nodes g p x e keeps_same (keeps_done x (not_live gs (g - 1) x right sent)) in
    let counts : (i : ℕ) → count_by (is_open_child (i + 1)) (grants_of news) ≡ count_by (is_open_child (i + 1)) gs - cond (is_number (i + 1) p) 1 0 = λ i. ap (λ hs. count_by (is_open_child (i + 1)) hs) (grants_done nodes g p some) ∙ count_done (i + 1) gs g x some e undone in
    record {
      few = rw (length_with_node (under_parent nodes p with_child_less) done_node (g - 1), length_under nodes p with_child_less) t.few;
      room = length-set table (16 * holder x.line + holder_ep x.line) None ∙ t.room;
      numbers = numbers_done table (16 * holder x.line + holder_ep x.line) (omega (arith, ha, he, t.room)) t.numbers;
      held = held_done table gs (grants_of news) g x t.room ha he some e undone (done_at nodes g p x e) t.held;
      ranges = λ i. get_done (λ o q. IsRange o → IsRange q) nodes g p x e (λ o r. r) (λ r. r) i (t.ranges i);
      children = λ i. subst (λ n. Counts n (slice_get news i)) (sym (counts i)) (counts_changed (under_parent nodes p with_child_less) done_node (g - 1) counts_kept i (count_by (is_open_child (i + 1)) gs - cond (is_number (i + 1) p) 1 0) (counts_less (λ j. count_by (is_open_child (j + 1)) gs) nodes p (g - 1) before t.children i));
      rightful = rightful_kept gs (grants_of news) keeps t.rightful;
    }

-- ---- what the conditions say

pub record IsThere (gs : List Grant) (g : ℕ) (x : Grant) : Type 0 where
  pub some : 0 < g
  pub at : slice_get gs (g - 1) ≡ Some x
  pub undone : is_done x.standing ≡ false
  pub sent : x.close_sent ≡ true

pub there_is : (gs : List Grant) (g : ℕ) (x : Grant) → grant_in gs g ≡ Some x → is_sent_in (grant_in gs g) ≡ true → is_undone_in (grant_in gs g) ≡ true → IsThere gs g x
there_is gs g x e s u =
    let sent : is_sent_in (Some x) ≡ true = subst (λ o. is_sent_in o ≡ true) e s in
    let undone : is_undone_in (Some x) ≡ true = subst (λ o. is_undone_in o ≡ true) e u in
    record {
      some = grind (arith, nat_tests, e);
      at = grind (arith, nat_tests, e);
      undone = by_done (is_done x.standing) undone;
      sent = sent;
    }
  where
    by_done : (b : Bool) → (if b then false else true) ≡ true → b ≡ false
    by_done true e = absurd (cc)
    by_done false e = refl
