-- What the calls on the kernel's grants answer, and what they leave.
use Rattle.std.specs.Prelude.{◌≡◌, ℕ, Bool, true, false, List, Option, Some, None, Result, Ok, Err, if◌then◌else◌}
use Rattle.std.specs.List.{list_any}
use Rattle.m3_base.specs.declared.event.No.{No}
use Rattle.m3_base.specs.declared.order.GrantLine.{GrantLine}
use Rattle.m3_base.specs.declared.setup_line.SetupLine.{SetupLine}
use Rattle.m3_base.specs.Setup.GrantTable.{with_made, holds_in}
use Rattle.m3_base.specs.Ideal.GrantRules.{change_grant, is_open_child}
use Rattle.m3_base.specs.Ideal.State.{Done, Grant, grant_in, holder, holder_ep, is_done}
use Rattle.m3_grants.specs.declared.refusal.GrantRefusal.{GrantRefusal}

-- the size of the memory, and the grants in the order of their numbers, from 1
pub record GrantTree : Type 0 where
  pub memory : ℕ
  pub grants : List Grant

-- ---- refusals

-- the kernel's cause; that no memory is left isn't one
abbrev pub cause : GrantRefusal → Option No
cause GrantRefusal.NoGrant = Some No.NoGrant
cause GrantRefusal.Closing = Some No.Closing
cause GrantRefusal.SlotTaken = Some No.SlotTaken
cause GrantRefusal.OutsideParent = Some No.OutsideParent
cause GrantRefusal.MorePermission = Some No.MorePermission
cause GrantRefusal.TooMany = Some No.TooMany
cause GrantRefusal.NoMemory = None

abbrev pub cause_in : Option GrantRefusal → Option No
cause_in None = None
cause_in (Some r) = cause r

abbrev pub cause_of : {X : Type 0} → Result X GrantRefusal → Option No
cause_of (Ok x) = None
cause_of (Err r) = cause r

-- ---- what is made

abbrev pub after_line : SetupLine → GrantTree → GrantTree
after_line (SetupLine.Grant line) t = record t { grants = with_made line t.grants }
after_line l t = t

-- ---- what stands

abbrev pub line_in : Option Grant → Option GrantLine
line_in None = None
line_in (Some x) = Some x.line

abbrev pub holder_in : Option Grant → Option (ℕ × ℕ)
holder_in None = None
holder_in (Some x) = Some (holder x.line, holder_ep x.line)

-- the grants that aren't done and are held at the endpoint: none, or this one alone
abbrev pub IsHeld : List Grant → ℕ → ℕ → Option ℕ → Type 0
IsHeld gs act ep None = (g : ℕ) → holds_in act ep (grant_in gs g) ≡ false
IsHeld gs act ep (Some h) = (holds_in act ep (grant_in gs h) ≡ true) × ((g : ℕ) → holds_in act ep (grant_in gs g) ≡ true → g ≡ h)

-- ---- closing

-- no grant that isn't done was made under it
abbrev pub IsChildless : List Grant → Option ℕ → Type 0
IsChildless gs None = Unit {0}
IsChildless gs (Some g) = list_any (is_open_child g) gs ≡ false

abbrev pub is_sent_in : Option Grant → Bool
is_sent_in None = false
is_sent_in (Some x) = x.close_sent

abbrev pub is_undone_in : Option Grant → Bool
is_undone_in None = false
is_undone_in (Some x) = if is_done x.standing then false else true

abbrev pub with_sent : List Grant → ℕ → List Grant
with_sent gs g = change_grant gs g (λ x. record x { close_sent = true })

abbrev pub with_done : List Grant → ℕ → List Grant
with_done gs g = change_grant gs g (λ x. record x { standing = Done })

abbrev pub root_of : ℕ → Option Grant → Option ℕ
root_of g None = None
root_of g (Some x) = if x.is_root then Some g else None
