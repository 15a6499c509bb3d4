-- The ideal state: a context for each activity, the flights, the memory and the grants, and no place.
use Rattle.std.specs.Prelude.{◌≡◌, ℕ, ◌-◌, Bool, true, false, ◌==◌, nat_lt, List, [], ◌∷◌, slice_get, Option, Some, None, if◌then◌else◌}
use Rattle.m3_base.specs.declared.packet.Fresh.{Fresh}
use Rattle.m3_base.specs.declared.order.GrantLine.{GrantLine}
use Rattle.m3_base.specs.declared.packet.Packet.{Packet}
use Rattle.m3_base.specs.Lists.Keyed as keyed
use Rattle.m3_base.specs.Ideal.Context.{Context}

pub data Standing : Type 0 where
  Live Closing Closed Done : Standing

-- a grant by its line and the record that it stands for
pub record Grant : Type 0 where
  pub line : GrantLine
  pub fresh : Fresh
  pub standing : Standing
  pub close_sent : Bool
  pub is_root : Bool

pub record State : Type 0 where
  pub memory : List ℕ
  pub contexts : List Context
  pub flights : List Packet
  pub kernel_next : ℕ
  pub grants : List Grant

-- ---- contexts by activity

abbrev pub act_of : Context → ℕ
act_of c = c.act

abbrev pub act_before : ℕ → ℕ → Bool
act_before a b = nat_lt a b

abbrev pub same_act : ℕ → ℕ → Bool
same_act a b = a == b

abbrev pub context_of : ℕ → List Context → Option Context
context_of = keyed.find act_of same_act

abbrev pub new_context_in : Context → List Context → List Context
new_context_in = keyed.with_inserted act_of act_before

abbrev pub put_context : Context → List Context → List Context
put_context = keyed.with_replaced act_of same_act

-- no two are of one activity
abbrev pub DistinctActs : List Context → Type 0
DistinctActs [] = Unit {0}
DistinctActs (c ∷ cs) = (context_of c.act cs ≡ None) × DistinctActs cs

-- ---- what a line says

abbrev pub parent_of : GrantLine → Option ℕ
parent_of (GrantLine.Recv act ep slots size) = None
parent_of (GrantLine.Send act ep of label credits) = Some of
parent_of (GrantLine.Range act ep at len perm) = None
parent_of (GrantLine.Part act ep of at len perm) = Some of

abbrev pub holder : GrantLine → ℕ
holder (GrantLine.Recv act ep slots size) = act
holder (GrantLine.Send act ep of label credits) = act
holder (GrantLine.Range act ep at len perm) = act
holder (GrantLine.Part act ep of at len perm) = act

abbrev pub holder_ep : GrantLine → ℕ
holder_ep (GrantLine.Recv act ep slots size) = ep
holder_ep (GrantLine.Send act ep of label credits) = ep
holder_ep (GrantLine.Range act ep at len perm) = ep
holder_ep (GrantLine.Part act ep of at len perm) = ep

-- ---- grants by number, from 1

abbrev pub grant_in : List Grant → ℕ → Option Grant
grant_in gs g = if g == 0 then None else slice_get gs (g - 1)

abbrev pub is_done : Standing → Bool
is_done Done = true
is_done _ = false

abbrev pub is_live : Standing → Bool
is_live Live = true
is_live _ = false

-- live or closing
abbrev pub is_open : Standing → Bool
is_open Live = true
is_open Closing = true
is_open _ = false

-- a grant that isn't done
abbrev pub undone : Option Grant → Option Grant
undone None = None
undone (Some x) = if is_done x.standing then None else Some x

abbrev pub is_number : ℕ → Option ℕ → Bool
is_number g None = false
is_number g (Some h) = h == g

abbrev pub is_child : ℕ → Grant → Bool
is_child g x = is_number g (parent_of x.line)

abbrev pub parent_in : List Grant → Option ℕ → Option Grant
parent_in gs None = None
parent_in gs (Some g) = grant_in gs g
