-- The table of grants as the code keeps it: what is counted and looked up says what the list of grants says.
use Rattle.std.specs.Prelude.{◌≡◌, ℕ, ◌+◌, ◌-◌, ◌*◌, ◌<◌, ◌≤◌, Bool, true, false, not, ◌&&◌, ◌||◌, nat_le, nat_lt, List, length, map, count_by, slice_index_or, slice_get, slice_set, Option, Some, None}
use Rattle.m3_base.specs.declared.grants.node.Node.{Node}
use Rattle.m3_base.specs.declared.grants.node.Stage.{Stage}
use Rattle.m3_base.specs.declared.order.GrantLine.{GrantLine}
use Rattle.m3_base.specs.declared.packet.Fresh.{Fresh}
use Rattle.m3_base.specs.Ideal.State.{Standing, Live, Closing, Done, Grant, grant_in, parent_in, parent_of, undone, is_done, is_live, is_number}
use Rattle.m3_base.specs.Ideal.GrantRules.{form, holds_at, is_open_child}
use Rattle.m3_base.specs.Setup.Rules.{with_grant}

abbrev pub standing_of : Stage → Standing
standing_of Stage.Live = Live
standing_of Stage.Closing = Closing
standing_of Stage.Done = Done

abbrev pub as_grant : Node → Grant
as_grant x =
    record { line = x.line; fresh = x.fresh; standing = standing_of x.stage; close_sent = x.close_sent; is_root = x.is_root }

abbrev pub grants_of : List Node → List Grant
grants_of = map as_grant

abbrev pub grant_of : Option Node → Option Grant
grant_of None = None
grant_of (Some x) = Some (as_grant x)

-- ---- what is asked of the list

-- the grant that a line is made under, where it isn't done
abbrev pub above : List Grant → GrantLine → Option Grant
above gs line = undone (parent_in gs (parent_of line))

-- the new grant has the next number and is live
abbrev pub with_made : GrantLine → List Grant → List Grant
with_made line gs = with_grant line gs (form (length gs + 1) line (above gs line))

abbrev pub is_live_in : Option Grant → Bool
is_live_in None = false
is_live_in (Some x) = is_live x.standing

-- whether it is held at the endpoint and isn't done
abbrev pub holds_in : ℕ → ℕ → Option Grant → Bool
holds_in act ep None = false
holds_in act ep (Some x) = holds_at act ep x

-- there is none, or it isn't done
abbrev pub is_fresh : Option Grant → Bool
is_fresh None = true
is_fresh (Some x) = not (is_done x.standing)

-- ---- what holds of each grant

-- so many children, and none of a grant that isn't there
abbrev pub Counts : ℕ → Option Node → Type 0
Counts n None = n ≡ 0
Counts n (Some x) = x.children ≡ n

-- each grant's children that aren't done are counted
abbrev pub AllCounted : List Node → Type 0
AllCounted nodes = (i : ℕ) → Counts (count_by (is_open_child (i + 1)) (grants_of nodes)) (slice_get nodes i)

abbrev pub size_of : Fresh → ℕ
size_of (Fresh.Memory g start length its) = length
size_of f = 0

-- a part of this range lies in memory
abbrev pub FitsIn : ℕ → ℕ → Fresh → Type 0
FitsIn at len (Fresh.Memory g start length its) = start + (at + len) ≤ 1048576
FitsIn at len f = Unit {0}

abbrev pub IsRange : Option Grant → Type 0
IsRange None = Unit {0}
IsRange (Some x) = FitsIn 0 (size_of x.fresh) x.fresh

-- a parent has a number below
abbrev pub is_before : Option ℕ → ℕ → Bool
is_before None n = true
is_before (Some p) n = nat_lt 0 p && nat_le p n

abbrev pub is_live_above : List Grant → Option ℕ → Bool
is_live_above gs None = true
is_live_above gs (Some p) = is_live_in (grant_in gs p)

-- a live grant's parent is live, and its Close wasn't sent
abbrev pub is_rightful : List Grant → ℕ → Option Grant → Bool
is_rightful gs i None = true
is_rightful gs i (Some x) =
    is_before (parent_of x.line) i && (not (is_live x.standing) || (is_live_above gs (parent_of x.line) && not x.close_sent))

-- a grant's number isn't 0
abbrev pub is_some_number : Option ℕ → Bool
is_some_number None = true
is_some_number (Some h) = nat_lt 0 h

pub record IsTree (nodes : List Node) (table : List (Option ℕ)) : Type 0 where
  pub few : length nodes ≤ 4096
  pub room : length table ≡ 1024
  pub numbers : (at : ℕ) → is_some_number (slice_index_or table at None) ≡ true
  -- the table says who holds a grant at an endpoint
  pub held :
      (a ep i : ℕ)
      → a < 64
      → ep < 16
      → holds_in a ep (slice_get (grants_of nodes) i) ≡ is_number (i + 1) (slice_index_or table (16 * a + ep) None)
  pub ranges : (i : ℕ) → IsRange (slice_get (grants_of nodes) i)
  pub children : AllCounted nodes
  pub rightful : (i : ℕ) → is_rightful (grants_of nodes) i (slice_get (grants_of nodes) i) ≡ true

-- all of a setup's grants are live
pub record IsSetupTable (nodes : List Node) (table : List (Option ℕ)) : Type 0 where
  pub tree : IsTree nodes table
  pub live : (i : ℕ) → is_fresh (slice_get (grants_of nodes) i) ≡ true

-- ---- what a look-up says

-- the grant of this number, with its count of children
abbrev pub Stands : List Grant → ℕ → Option Grant → Option Node → Type 0
Stands gs g found None = found ≡ None
Stands gs g found (Some x) = (found ≡ Some (as_grant x)) × (x.children ≡ count_by (is_open_child g) gs)

-- so it is of the parent of a line
abbrev pub StandsAbove : List Grant → Option ℕ → Option Grant → Option Node → Type 0
StandsAbove gs p found None = found ≡ None
StandsAbove gs None found (Some x) = found ≡ Some (as_grant x)
StandsAbove gs (Some g) found (Some x) = (found ≡ Some (as_grant x)) × (x.children ≡ count_by (is_open_child g) gs)

-- ---- one grant more, or changed

abbrev pub new_node : GrantLine → Fresh → Node
new_node line f = record { line = line; fresh = f; stage = Stage.Live; close_sent = false; is_root = false; children = 0 }

abbrev pub on_node : (Node → Node) → Option Node → Option Node
on_node f None = None
on_node f (Some x) = Some (f x)

abbrev pub with_found : List Node → ℕ → (Node → Node) → Option Node → List Node
with_found nodes i change None = nodes
with_found nodes i change (Some x) = slice_set nodes i (change x)

abbrev pub with_node : List Node → ℕ → (Node → Node) → List Node
with_node nodes i change = with_found nodes i change (slice_get nodes i)

abbrev pub with_child_more : Node → Node
with_child_more x = record x { children = x.children + 1 }

abbrev pub under_parent : List Node → Option ℕ → (Node → Node) → List Node
under_parent nodes None change = nodes
under_parent nodes (Some g) change = with_node nodes (g - 1) change

abbrev pub has_child_room : Option Node → Bool
has_child_room None = true
has_child_room (Some x) = nat_lt x.children 4096

abbrev pub has_room_under : List Node → Option ℕ → Bool
has_room_under nodes None = true
has_room_under nodes (Some g) = has_child_room (slice_get nodes (g - 1))

-- ---- a new grant's record

abbrev pub FitsUnder : GrantLine → Option Grant → Type 0
FitsUnder (GrantLine.Part act ep of at len perm) (Some x) = FitsIn at len x.fresh
FitsUnder line found = Unit {0}

abbrev pub crowds : GrantLine → Option Node → Bool
crowds (GrantLine.Send act ep of label credits) (Some x) = nat_le 64 x.children
crowds line found = false
