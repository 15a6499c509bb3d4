-- The grants as the kernel's tree keeps them: which are due, and how one changes.
use Rattle.std.specs.Prelude.{◌≡◌, ℕ, ◌+◌, ◌-◌, ◌≤◌, Bool, true, false, not, ◌&&◌, ◌==◌, nat_lt, if◌then◌else◌, List, [], ◌∷◌, slice_get, Option, Some, None}
use Rattle.m3_base.specs.declared.grants.node.Node.{Node}
use Rattle.m3_base.specs.declared.grants.node.Stage.{Stage}
use Rattle.m3_base.specs.Setup.GrantTable.{IsTree, is_rightful}
use Rattle.m3_base.specs.Ideal.State.{Grant}

abbrev pub is_closing_stage : Stage → Bool
is_closing_stage Stage.Closing = true
is_closing_stage s = false

-- its Close is due
abbrev pub is_due : Node → Bool
is_due x = is_closing_stage x.stage && not x.close_sent && x.children == 0

-- the first whose Close is due, counted from n
abbrev pub first_due : ℕ → List Node → Option ℕ
first_due n [] = None
first_due n (x ∷ xs) = if is_due x then Some n else first_due (n + 1) xs

-- a table of grants whose memory is one of a machine; no visit is pending, and there is room for all
pub record IsWhole (nodes : List Node) (table : List (Option ℕ)) (memory : ℕ) (pending : List ℕ) (room : ℕ) : Type 0 where
  pub size : memory ≤ 1048576
  pub tree : IsTree nodes table
  pub none : pending ≡ []
  pub spare : 4096 ≤ room

-- ---- one grant more, or changed

abbrev pub with_child_less : Node → Node
with_child_less x = record x { children = x.children - 1 }

abbrev pub sent_node : Node → Node
sent_node x = record x { close_sent = true }

abbrev pub closing_node : Node → Node
closing_node x = record x { stage = Stage.Closing }

abbrev pub done_node : Node → Node
done_node x = record x { stage = Stage.Done }

abbrev pub root_node : Node → Node
root_node x = record x { is_root = true }

abbrev pub has_child : Option Node → Bool
has_child None = true
has_child (Some x) = nat_lt 0 x.children

abbrev pub has_child_under : List Node → Option ℕ → Bool
has_child_under nodes None = true
has_child_under nodes (Some g) = has_child (slice_get nodes (g - 1))

-- ---- revoking

abbrev pub is_live_stage : Stage → Bool
is_live_stage Stage.Live = true
is_live_stage s = false

abbrev pub is_live_node : Option Node → Bool
is_live_node None = false
is_live_node (Some x) = is_live_stage x.stage

abbrev pub close_if : Bool → Node → Node
close_if b x = if b && is_live_stage x.stage then record x { stage = Stage.Closing } else x

-- the marked ones that are live are closing
abbrev pub close_where : List Bool → List Node → List Node
close_where [] nodes = nodes
close_where (b ∷ bs) [] = []
close_where (b ∷ bs) (x ∷ nodes) = close_if b x ∷ close_where bs nodes

abbrev pub AllRightful : List Grant → Type 0
AllRightful gs = (i : ℕ) → is_rightful gs i (slice_get gs i) ≡ true
