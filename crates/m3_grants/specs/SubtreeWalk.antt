-- A walk over a subtree: what is closed so far, and who is still to be visited.
use Rattle.std.specs.Prelude.{◌≡◌, ℕ, ◌+◌, ◌-◌, ◌*◌, ◌<◌, ◌≤◌, Bool, true, false, ◌&&◌, if◌then◌else◌, nat_lt, List, [], length, slice_get, slice_index_or, count_by, Option, None}
use Rattle.std.specs.List.{All, list_any, sum}
use Rattle.m3_base.specs.Ideal.GrantRules.{marks_under, is_marked, or_false}
use Rattle.m3_base.specs.declared.grants.node.Node.{Node}
use Rattle.m3_base.specs.Setup.GrantTable.{grants_of, on_node}
use Rattle.m3_grants.specs.NodeView.{AllRightful, is_live_stage, is_live_node, close_if}
use Rattle.m3_grants.specs.DueIndexView.{parents_of}
use Rattle.m3_grants.specs.Siblings.{is_under}

abbrev pub live_count : List Node → ℕ
live_count = count_by (λ x. is_live_stage x.stage)

-- what is left to do: a grant that is closed outweighs the two numbers that it may add
abbrev pub left : List Node → List ℕ → ℕ
left nodes pending = live_count nodes * 8193 + sum pending

-- the subtree of root
abbrev pub marks : ℕ → List Node → List Bool
marks root before = marks_under root 1 [] (grants_of before)

-- made under one of the subtree
abbrev pub IsPending : ℕ → List Node → ℕ → Type 0
IsPending root before h = (0 < h) × (is_marked (slice_index_or (parents_of before) (h - 1) None) (marks root before) ≡ true)

-- under p, and visited later: one that is pending, or one made before it under the same
abbrev pub is_later : List (Option ℕ) → List ℕ → ℕ → ℕ → Bool
is_later parents pending p i = list_any (λ h. is_under parents p (h - 1) && nat_lt i h) pending

-- the node, closed if it is of the subtree
abbrev pub closed_under : ℕ → List Node → ℕ → Option Node
closed_under root before i = on_node (close_if (or_false (slice_get (marks root before) i))) (slice_get before i)

pub record Walks (root : ℕ) (before now : List Node) (pending : List ℕ) : Type 0 where
  pub rightful : AllRightful (grants_of before)
  pub parents : parents_of now ≡ parents_of before
  pub closed : is_live_node (slice_get now (root - 1)) ≡ false
  -- what is still live is as it was, and of the others only those of the subtree were closed
  pub only : (i : ℕ)
      → slice_get now i ≡ (if is_live_node (slice_get now i) then slice_get before i else closed_under root before i)
  pub inside : All (IsPending root before) pending
  -- who is live under one that isn't is visited later
  pub later : (p i : ℕ) → is_live_node (slice_get now i) ≡ true → is_under (parents_of before) p i ≡ true
      → is_live_node (slice_get now (p - 1)) ≡ false → is_later (parents_of before) pending p i ≡ true
  pub room : length pending + live_count now ≤ 4096
