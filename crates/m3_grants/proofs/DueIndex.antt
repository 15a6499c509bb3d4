-- What is kept beside the list of grants stays right as they are made and changed.
use Rattle.std.proofs.Common.{◌≡◌, ℕ, zero, suc, ◌+◌, ◌<◌, Bool, true, false, not, ◌&&◌, ◌||◌, List, [], ◌∷◌, ◌++◌, length, Some, None, refl, sym, ◌∙◌, ap, subst, arith, length-set}
use Rattle.std.specs.Prelude.{Option, if◌then◌else◌, ◌==◌, slice_get, slice_set}
use Rattle.std.proofs.lemmas.List.{map-append}
use Rattle.std.proofs.lemmas.Option.{slice_get_past, slice_get_within}
use Rattle.std.proofs.lemmas.Bool.Decides.{nat_tests}
use Rattle.m3_base.specs.declared.order.GrantLine.{GrantLine}
use Rattle.m3_base.specs.declared.packet.Fresh.{Fresh}
use Rattle.m3_base.specs.Ideal.State.{parent_of}
use Rattle.m3_base.specs.declared.grants.node.Node.{Node}
use Rattle.m3_bit_set.specs.BitSet.{has_place, IsFirst}
use Rattle.m3_base.specs.Setup.GrantTable.{new_node}
use Rattle.m3_grants.specs.NodeView.{is_due, first_due}
use Rattle.m3_grants.specs.DueIndexView.{is_due_in, parents_of, HasParent, IsIndexed}
use Rattle.m3_grants.proofs.NodeLookup.{mapped_same}
use Rattle.m3_base.proofs.ListLookups.{get_set_within, get_pushed, length_pushed}

parents_put : (nodes : List Node) (i : ℕ) (y : Node) → HasParent (parent_of y.line) (slice_get nodes i) → parents_of (slice_set nodes i y) ≡ parents_of nodes
parents_put nodes i y h = by_node (slice_get nodes i) refl h
  where
    by_node : (o : Option Node) → slice_get nodes i ≡ o → HasParent (parent_of y.line) o → parents_of (slice_set nodes i y) ≡ parents_of nodes
    by_node None e k = absurd k
    by_node (Some x) e k = mapped_same (λ z. parent_of z.line) nodes i x y e k

pub indexed_pushed : (nodes : List Node) (due : List ℕ) (links : List (Option ℕ)) (line : GrantLine) (fresh : Fresh) → IsIndexed nodes due links → length nodes < 4096 → IsIndexed (nodes ++ new_node line fresh ∷ []) due (links ++ parent_of line ∷ [])
indexed_pushed nodes due links line fresh x h =
    record {
      few = let l = length_pushed nodes (new_node line fresh) in omega (arith, h, l);
      closes = λ i. x.closes i ∙ rw (get_pushed nodes (new_node line fresh) i) (by_place i (i == length nodes) refl);
      parents = ap (λ ps. ps ++ parent_of line ∷ []) x.parents ∙ sym (map-append (λ x. parent_of x.line) nodes (new_node line fresh ∷ []));
    }
  where
    by_place : (i : ℕ) (b : Bool) → (i == length nodes) ≡ b → is_due_in (slice_get nodes i) ≡ is_due_in (if b then Some (new_node line fresh) else slice_get nodes i)
    by_place i true w = let s : i ≡ length nodes = grind (arith, nat_tests, w) in rw (s, slice_get_past nodes (length nodes) (omega arith)) refl
    by_place i false w = refl

there_within : (nodes : List Node) (i : ℕ) (p : Option ℕ) → HasParent p (slice_get nodes i) → i < length nodes
there_within nodes i p h = by_node (slice_get nodes i) refl h
  where
    by_node : (o : Option Node) → slice_get nodes i ≡ o → HasParent p o → i < length nodes
    by_node None e k = absurd k
    by_node (Some x) e k = slice_get_within nodes i x e

indexed_put : (nodes : List Node) (due news : List ℕ) (links : List (Option ℕ)) (at : ℕ) (x : Node) → IsIndexed nodes due links → HasParent (parent_of x.line) (slice_get nodes at) → ((i : ℕ) → has_place news i ≡ (if i == at then is_due x else has_place due i)) → IsIndexed (slice_set nodes at x) news links
indexed_put nodes due news links at x k h e =
    record {
      few = rw (length-set nodes at x) k.few;
      closes = λ i. e i ∙ rw (get_set_within nodes at i x (there_within nodes at (parent_of x.line) h)) (by_place i (i == at));
      parents = k.parents ∙ sym (parents_put nodes at x h);
    }
  where
    by_place : (i : ℕ) (b : Bool) → (if b then is_due x else has_place due i) ≡ is_due_in (if b then Some x else slice_get nodes i)
    by_place i true = refl
    by_place i false = k.closes i

pub indexed_due : (nodes : List Node) (due news : List ℕ) (links : List (Option ℕ)) (at : ℕ) (x : Node) → IsIndexed nodes due links → HasParent (parent_of x.line) (slice_get nodes at) → is_due x ≡ true → ((i : ℕ) → has_place news i ≡ (i == at || has_place due i)) → IsIndexed (slice_set nodes at x) news links
indexed_due nodes due news links at x k h d e = indexed_put nodes due news links at x k h (λ i. e i ∙ by_place i (i == at))
  where
    by_place : (i : ℕ) (b : Bool) → (b || has_place due i) ≡ (if b then is_due x else has_place due i)
    by_place i true = sym d
    by_place i false = refl

pub indexed_later : (nodes : List Node) (due news : List ℕ) (links : List (Option ℕ)) (at : ℕ) (x : Node) → IsIndexed nodes due links → HasParent (parent_of x.line) (slice_get nodes at) → is_due x ≡ false → ((i : ℕ) → has_place news i ≡ (not (i == at) && has_place due i)) → IsIndexed (slice_set nodes at x) news links
indexed_later nodes due news links at x k h d e = indexed_put nodes due news links at x k h (λ i. e i ∙ by_place i (i == at))
  where
    by_place : (i : ℕ) (b : Bool) → (not b && has_place due i) ≡ (if b then is_due x else has_place due i)
    by_place i true = sym d
    by_place i false = refl

-- ---- the first

first_none : (n : ℕ) (nodes : List Node) → ((i : ℕ) → is_due_in (slice_get nodes i) ≡ false) → None ≡ first_due n nodes
first_none n [] e = refl
first_none n (x ∷ xs) e = let head : is_due x ≡ false = e 0 in rw head (first_none (n + 1) xs (λ i. e (suc i)))

first_some : (n : ℕ) (nodes : List Node) (f : ℕ) → is_due_in (slice_get nodes f) ≡ true → ((i : ℕ) → i < f → is_due_in (slice_get nodes i) ≡ false) → Some (f + n) ≡ first_due n nodes
first_some n [] f e l = absurd (cc)
first_some n (x ∷ xs) zero e l = let head : is_due x ≡ true = e in let s : 0 + n ≡ n = omega arith in rw (head, s) refl
first_some n (x ∷ xs) (suc f) e l =
    let head : is_due x ≡ false = l 0 (omega arith) in
    let s : suc f + n ≡ f + (n + 1) = omega arith in
    rw (head, s) (first_some (n + 1) xs f e (λ i h. l (suc i) (omega (arith, h))))

pub first_is_none : (nodes : List Node) (due : List ℕ) (links : List (Option ℕ)) → IsIndexed nodes due links → IsFirst (has_place due) None → None ≡ first_due 1 nodes
first_is_none nodes due links k e = first_none 1 nodes (λ i. sym (k.closes i) ∙ e i)

pub first_is_some : (nodes : List Node) (due : List ℕ) (links : List (Option ℕ)) (f : ℕ) → IsIndexed nodes due links → IsFirst (has_place due) (Some f) → Some (f + 1) ≡ first_due 1 nodes
first_is_some nodes due links f k e = first_some 1 nodes f (sym (k.closes f) ∙ e.0) (λ i h. sym (k.closes i) ∙ e.1 i h)

-- it is a grant's place
pub first_within : (nodes : List Node) (due : List ℕ) (links : List (Option ℕ)) (f : ℕ) → IsIndexed nodes due links → IsFirst (has_place due) (Some f) → f < 4096
first_within nodes due links f k e = by_node (slice_get nodes f) refl
  where
    by_node : (o : Option Node) → slice_get nodes f ≡ o → f < 4096
    by_node None w = absurd (let z : is_due_in None ≡ true = subst (λ o. is_due_in o ≡ true) w (sym (k.closes f) ∙ e.0) in cc)
    by_node (Some x) w = let h : f < length nodes = slice_get_within nodes f x w in omega (arith, h, k.few)
