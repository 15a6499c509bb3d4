-- The record of the next grant.
use Rattle.std.specs.Prelude.{◌≡◌, ℕ, ◌+◌, List, length, Option, Some, None}
use Rattle.m3_base.specs.declared.order.GrantLine.{GrantLine}
use Rattle.m3_base.specs.declared.packet.Fresh.{Fresh}
use Rattle.m3_base.specs.Ideal.State.{Grant, undone, parent_in, parent_of}
use Rattle.m3_base.specs.Ideal.GrantRules.{form}

abbrev pub form_in : GrantLine → List Grant → Option Fresh
form_in line gs = form (length gs + 1) line (undone (parent_in gs (parent_of line)))

abbrev pub Forms : Option (ℕ × Fresh) → GrantLine → List Grant → Type 0
Forms None line gs = form_in line gs ≡ None
Forms (Some f) line gs = (f.0 ≡ length gs + 1) × (form_in line gs ≡ Some f.1)

-- of a grant of the setup
abbrev pub first_form : GrantLine → List Grant → Option Fresh
first_form line gs = form (length gs + 1) line (parent_in gs (parent_of line))

abbrev pub line_in : Option Grant → Option GrantLine
line_in None = None
line_in (Some x) = Some x.line
