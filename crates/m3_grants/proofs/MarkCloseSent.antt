-- A grant's Close is sent.
use Rattle.std.proofs.Common.{◌≡◌, ℕ, ◌-◌, ◌<◌, ◌≤◌, Bool, true, false, List, Some, None, refl, sym, ◌∙◌, ap, subst, arith}
use Rattle.std.specs.Prelude.{Option, if◌then◌else◌, ◌==◌, slice_get, slice_set}
use Rattle.std.proofs.lemmas.Bool.Decides.{nat_tests}
use Rattle.m3_base.specs.Ideal.State.{Standing, Grant, grant_in, is_done}
use Rattle.m3_base.specs.Ideal.GrantRules.{may_close}
use Rattle.m3_base.specs.Placement.Order.{least_closing}
use Rattle.m3_base.specs.declared.grants.node.Node.{Node}
use Rattle.m3_base.specs.declared.grants.node.Stage.{Stage}
use Rattle.m3_grants.specs.GrantTree.{is_sent_in, is_undone_in, with_sent}
use Rattle.m3_base.specs.Setup.GrantTable.{on_node, as_grant, grants_of, grant_of, IsTree, Counts, with_node}
use Rattle.m3_grants.specs.NodeView.{sent_node}
use Rattle.m3_base.proofs.GrantTableLookup.{found, get_with_node, length_with_node}
use Rattle.m3_grants.proofs.NodeLookup.{least_due}
use Rattle.m3_grants.proofs.StandingChanges.{Alike, alike_same, Keeps, keeps_same, rightful_kept, tree_alike}
use Rattle.m3_base.proofs.ListLookups.{get_set}

-- one grant changed, and the others not
pub get_changed : (P : Option Grant → Option Grant → Type 0) (nodes : List Node) (f : Node → Node) (i : ℕ) → ((o : Option Grant) → P o o) → P (grant_of (slice_get nodes i)) (grant_of (on_node f (slice_get nodes i))) → (k : ℕ) → P (slice_get (grants_of nodes) k) (slice_get (grants_of (with_node nodes i f)) k)
get_changed P nodes f i same here k = rw (found nodes k, found (with_node nodes i f) k, get_with_node nodes f i k) (by_place (k == i) refl)
  where
    by_place : (b : Bool) → (k == i) ≡ b → P (grant_of (slice_get nodes k)) (grant_of (if b then on_node f (slice_get nodes i) else slice_get nodes k))
    by_place true w = let s : k ≡ i = grind (arith, nat_tests, w) in subst (λ j. P (grant_of (slice_get nodes j)) (grant_of (on_node f (slice_get nodes i)))) (sym s) here
    by_place false w = same (grant_of (slice_get nodes k))

pub counts_changed : (nodes : List Node) (f : Node → Node) (i : ℕ) → ((n : ℕ) (o : Option Node) → Counts n o → Counts n (on_node f o)) → (k n : ℕ) → Counts n (slice_get nodes k) → Counts n (slice_get (with_node nodes i f) k)
counts_changed nodes f i same k n h = rw (get_with_node nodes f i k) (by_place (k == i) refl)
  where
    by_place : (b : Bool) → (k == i) ≡ b → Counts n (if b then on_node f (slice_get nodes i) else slice_get nodes k)
    by_place true w = let s : k ≡ i = grind (arith, nat_tests, w) in same n (slice_get nodes i) (subst (λ j. Counts n (slice_get nodes j)) s h)
    by_place false w = h

counts_sent : (n : ℕ) (o : Option Node) → Counts n o → Counts n (on_node sent_node o)
counts_sent n None h = h
counts_sent n (Some x) h = h

alike_sent : (o : Option Node) → Alike (grant_of o) (grant_of (on_node sent_node o))
alike_sent None = tt
alike_sent (Some x) = (refl, (refl, refl))

keeps_sent : (all : List Grant) (g : ℕ) (o : Option Node) → may_close all g (grant_of o) ≡ true → Keeps (grant_of o) (grant_of (on_node sent_node o))
keeps_sent all g None e = tt
keeps_sent all g (Some x) e = by_stage x.stage refl
  where
    by_stage : (s : Stage) → x.stage ≡ s → Keeps (Some (as_grant x)) (Some (as_grant (sent_node x)))
    by_stage Stage.Live w = absurd (grind (arith, w, e))
    by_stage Stage.Closing w = (refl, (refl, grind (arith, w)))
    by_stage Stage.Done w = (refl, (refl, grind (arith, w)))

pub tree_sent : (nodes : List Node) (table : List (Option ℕ)) (g : ℕ) → IsTree nodes table → least_closing (grants_of nodes) 1 (grants_of nodes) ≡ Some g → IsTree (with_node nodes (g - 1) sent_node) table
tree_sent nodes table g t e =
    let due : may_close (grants_of nodes) g (slice_get (grants_of nodes) (g - 1)) ≡ true = (least_due (grants_of nodes) 1 (grants_of nodes) g e).1 in
    let here : may_close (grants_of nodes) g (grant_of (slice_get nodes (g - 1))) ≡ true = subst (λ o. may_close (grants_of nodes) g o ≡ true) (found nodes (g - 1)) due in
    let news = with_node nodes (g - 1) sent_node in
    let keeps : (i : ℕ) → Keeps (slice_get (grants_of nodes) i) (slice_get (grants_of news) i) = get_changed Keeps nodes sent_node (g - 1) keeps_same (keeps_sent (grants_of nodes) g (slice_get nodes (g - 1)) here) in
    tree_alike nodes news table t (length_with_node nodes sent_node (g - 1))
    (get_changed Alike nodes sent_node (g - 1) alike_same (alike_sent (slice_get nodes (g - 1))))
    (counts_changed nodes sent_node (g - 1) counts_sent)
    (rightful_kept (grants_of nodes) (grants_of news) keeps t.rightful)

-- ---- what is known of it then

sent_changed : (gs : List Grant) (g : ℕ) (o : Option Grant) → slice_get gs (g - 1) ≡ o → 0 < g → may_close gs g o ≡ true → (is_sent_in (grant_in (with_sent gs g) g) ≡ true) × (is_undone_in (grant_in (with_sent gs g) g) ≡ true)
sent_changed gs g None e some m = absurd (cc)
sent_changed gs g (Some x) e some m =
    let there : grant_in gs g ≡ Some x = grind (arith, nat_tests, e, some) in
    let news : with_sent gs g ≡ slice_set gs (g - 1) (record x { close_sent = true }) = rw there refl in
    let same : (g - 1 == (g - 1)) ≡ true = grind (arith, nat_tests) in
    let at : slice_get (slice_set gs (g - 1) (record x { close_sent = true })) (g - 1) ≡ Some (record x { close_sent = true }) = get_set gs (g - 1) (g - 1) x (record x { close_sent = true }) e ∙ rw same refl in
    let now : grant_in (with_sent gs g) g ≡ Some (record x { close_sent = true }) = ap (λ hs. grant_in hs g) news ∙ grind (arith, nat_tests, at, some) in
    rw now (refl, by_standing x.standing refl m)
  where
    by_standing : (s : Standing) → x.standing ≡ s → may_close gs g (Some x) ≡ true → (if is_done x.standing then false else true) ≡ true
    by_standing Standing.Live w m = absurd (grind (arith, w, m))
    by_standing Standing.Closing w m = rw w refl
    by_standing Standing.Closed w m = absurd (grind (arith, w, m))
    by_standing Standing.Done w m = absurd (grind (arith, w, m))

-- so it may be done next
pub sent_there : (gs : List Grant) (g : ℕ) → least_closing gs 1 gs ≡ Some g → (is_sent_in (grant_in (with_sent gs g) g) ≡ true) × (is_undone_in (grant_in (with_sent gs g) g) ≡ true)
sent_there gs g e =
    let due = least_due gs 1 gs g e in
    let some : 1 ≤ g = due.0 in
    sent_changed gs g (slice_get gs (g - 1)) refl (omega (arith, some)) due.1
