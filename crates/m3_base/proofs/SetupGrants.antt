-- The grants of a setup are all live, and stay so as one is added.
use Rattle.std.proofs.Common.{◌≡◌, ℕ, ◌+◌, ◌-◌, ◌*◌, ◌<◌, ◌≤◌, Bool, true, false, List, [], ◌∷◌, ◌++◌, length, Some, None, refl, sym, ◌∙◌, ap, set}
use Rattle.std.specs.Prelude.{Option, if◌then◌else◌, ◌==◌, not, slice_get}
use Rattle.m3_base.specs.declared.grants.node.Node.{Node}
use Rattle.m3_base.specs.declared.order.GrantLine.{GrantLine}
use Rattle.m3_base.specs.declared.packet.Fresh.{Fresh}
use Rattle.m3_base.specs.Ideal.State.{Grant, grant_in, parent_in, parent_of, undone, holder, holder_ep, is_done}
use Rattle.m3_base.specs.Ideal.GrantRules.{form, new_grant, make_refusal}
use Rattle.m3_base.specs.Setup.GrantTable.{above, with_made, is_fresh, grants_of, new_node, under_parent, IsSetupTable, with_child_more}
use Rattle.m3_base.specs.Setup.Rules.{with_grant, grant_added}
use Rattle.m3_base.proofs.GrantTableGrow.{grants_made, tree_made}
use Rattle.m3_base.proofs.ListLookups.{get_pushed}

undone_fresh : (o : Option Grant) → is_fresh o ≡ true → undone o ≡ o
undone_fresh None e = refl
undone_fresh (Some x) e = by_done (is_done x.standing) e
  where
    by_done : (b : Bool) → not b ≡ true → (if b then None else Some x) ≡ Some x
    by_done true e = absurd (cc)
    by_done false e = refl

fresh_at : (gs : List Grant) (g : ℕ) → ((i : ℕ) → is_fresh (slice_get gs i) ≡ true) → is_fresh (grant_in gs g) ≡ true
fresh_at gs g h = by_zero (g == 0)
  where
    by_zero : (b : Bool) → is_fresh (if b then None else slice_get gs (g - 1)) ≡ true
    by_zero true = refl
    by_zero false = h (g - 1)

pub above_fresh : (gs : List Grant) (line : GrantLine) → ((i : ℕ) → is_fresh (slice_get gs i) ≡ true) → above gs line ≡ parent_in gs (parent_of line)
above_fresh gs line h = undone_fresh (parent_in gs (parent_of line)) (by_parent (parent_of line))
  where
    by_parent : (p : Option ℕ) → is_fresh (parent_in gs p) ≡ true
    by_parent None = refl
    by_parent (Some g) = fresh_at gs g h

pub made_added : (gs : List Grant) (line : GrantLine) → ((i : ℕ) → is_fresh (slice_get gs i) ≡ true) → with_made line gs ≡ grant_added line gs
made_added gs line h = ap (λ o. with_grant line gs (form (length gs + 1) line o)) (above_fresh gs line h)

pub fresh_added : (gs : List Grant) (line : GrantLine) (f : Option Fresh) → ((i : ℕ) → is_fresh (slice_get gs i) ≡ true) → (i : ℕ) → is_fresh (slice_get (with_grant line gs f) i) ≡ true
fresh_added gs line None h i = h i
fresh_added gs line (Some f) h i = rw (get_pushed gs (new_grant line f) i) (by_place (i == length gs))
  where
    by_place : (b : Bool) → is_fresh (if b then Some (new_grant line f) else slice_get gs i) ≡ true
    by_place true = refl
    by_place false = h i

pub setup_table_made : (memory : ℕ) (nodes : List Node) (table : List (Option ℕ)) (line : GrantLine) (f : Fresh) → memory ≤ 1048576 → IsSetupTable nodes table → make_refusal memory (grants_of nodes) line ≡ None → holder line < 64 → holder_ep line < 16 → form (length (grants_of nodes) + 1) line (above (grants_of nodes) line) ≡ Some f → IsSetupTable (under_parent nodes (parent_of line) with_child_more ++ new_node line f ∷ []) (set table (16 * holder line + holder_ep line) (Some (length (grants_of nodes) + 1)))
setup_table_made memory nodes table line f m t n a e w = record {
  tree = tree_made memory nodes table line f m t.tree n a e w;
  live = λ i. rw (grants_made nodes line f) (fresh_added (grants_of nodes) line (Some f) t.live i);
}

pub setup_grants_made : (nodes : List Node) (line : GrantLine) (f : Fresh) → ((i : ℕ) → is_fresh (slice_get (grants_of nodes) i) ≡ true) → form (length (grants_of nodes) + 1) line (above (grants_of nodes) line) ≡ Some f → grants_of (under_parent nodes (parent_of line) with_child_more ++ new_node line f ∷ []) ≡ grant_added line (grants_of nodes)
setup_grants_made nodes line f h w = grants_made nodes line f ∙ (ap (with_grant line (grants_of nodes)) (sym w) ∙ made_added (grants_of nodes) line h)
