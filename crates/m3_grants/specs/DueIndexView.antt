-- What is kept beside the list of grants, so that no call goes over the whole list.
use Rattle.std.specs.Prelude.{◌≡◌, ℕ, ◌≤◌, Bool, false, List, length, map, slice_get, Option, Some, None}
use Rattle.m3_base.specs.Ideal.State.{parent_of}
use Rattle.m3_base.specs.declared.grants.node.Node.{Node}
use Rattle.m3_grants.specs.NodeView.{is_due}
use Rattle.m3_bit_set.specs.BitSet.{has_place}

abbrev pub is_due_in : Option Node → Bool
is_due_in None = false
is_due_in (Some x) = is_due x

abbrev pub parents_of : List Node → List (Option ℕ)
parents_of = map (λ x. parent_of x.line)

-- the grant is there and was made under this one
abbrev pub HasParent : Option ℕ → Option Node → Type 0
HasParent p None = ⊥
HasParent p (Some x) = p ≡ parent_of x.line

pub record IsIndexed (nodes : List Node) (due : List ℕ) (links : List (Option ℕ)) : Type 0 where
  pub few : length nodes ≤ 4096
  pub closes : (i : ℕ) → has_place due i ≡ is_due_in (slice_get nodes i)
  pub parents : links ≡ parents_of nodes
