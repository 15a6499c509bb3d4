-- Why a line is refused.
use Rattle.std.proofs.Common.{◌≡◌, ℕ, ◌+◌, Bool, true, false, ◌||◌, List, length, Some, None, refl, arith}
use Rattle.std.specs.Prelude.{Option, if◌then◌else◌, nat_le, is_none}
use Rattle.std.specs.List.{list_any}
use Rattle.m3_base.specs.declared.event.No.{No}
use Rattle.m3_base.specs.declared.order.GrantLine.{GrantLine}
use Rattle.m3_base.specs.Ideal.State.{Grant, holder, holder_ep, parent_of, parent_in, undone}
use Rattle.m3_base.specs.Ideal.GrantRules.{form, holds_at, is_above_closing, is_outside, is_more, is_crowded, make_refusal, fresh_of as fresh_in}
use Rattle.m3_base.specs.declared.grants.node.Node.{Node}
use Rattle.m3_base.specs.Setup.GrantTable.{grant_of, StandsAbove, crowds}

pub above_is : (gs : List Grant) (p : Option ℕ) (g : Option Grant) (o : Option Node) → StandsAbove gs p g o → g ≡ grant_of o
above_is gs p g None h = h
above_is gs None g (Some x) h = h
above_is gs (Some q) g (Some x) h = h.0

pub crowds_is : (n : ℕ) (gs : List Grant) (line : GrantLine) (g : Option Grant) (o : Option Node) → StandsAbove gs (parent_of line) g o → is_none (form n line (grant_of o)) ≡ false → crowds line o ≡ is_crowded line gs
crowds_is n gs (GrantLine.Recv act ep slots size) g o h k = refl
crowds_is n gs (GrantLine.Send act ep of label credits) g None h k = absurd (cc)
crowds_is n gs (GrantLine.Send act ep of label credits) g (Some x) h k = rw h.1 refl
crowds_is n gs (GrantLine.Range act ep at len perm) g o h k = refl
crowds_is n gs (GrantLine.Part act ep of at len perm) g o h k = refl

pub no_other : (memory : ℕ) (gs : List Grant) (line : GrantLine) (o : Option Grant) (b : Bool) → undone (parent_in gs (parent_of line)) ≡ o → is_none (form (length gs + 1) line o) ≡ false → is_above_closing o ≡ false → list_any (holds_at (holder line) (holder_ep line)) gs ≡ false → is_outside memory line (fresh_in o) ≡ false → is_more line (fresh_in o) ≡ false → (nat_le 4096 (length gs) || is_crowded line gs) ≡ b → make_refusal memory gs line ≡ (if b then Some No.TooMany else None)
no_other memory gs line o b a n c s i m w = rw (a, n, c, s) (grind (arith, i, m, w))

pub taken_first : (memory : ℕ) (gs : List Grant) (line : GrantLine) (o : Option Grant) → undone (parent_in gs (parent_of line)) ≡ o → is_none (form (length gs + 1) line o) ≡ false → is_above_closing o ≡ false → list_any (holds_at (holder line) (holder_ep line)) gs ≡ true → make_refusal memory gs line ≡ Some No.SlotTaken
taken_first memory gs line o a n c s = rw (a, n, c, s) refl

pub outside_first : (memory : ℕ) (gs : List Grant) (line : GrantLine) (o : Option Grant) → undone (parent_in gs (parent_of line)) ≡ o → is_none (form (length gs + 1) line o) ≡ false → is_above_closing o ≡ false → list_any (holds_at (holder line) (holder_ep line)) gs ≡ false → is_outside memory line (fresh_in o) ≡ true → make_refusal memory gs line ≡ Some No.OutsideParent
outside_first memory gs line o a n c s i = rw (a, n, c, s, i) refl

pub more_first : (memory : ℕ) (gs : List Grant) (line : GrantLine) (o : Option Grant) → undone (parent_in gs (parent_of line)) ≡ o → is_none (form (length gs + 1) line o) ≡ false → is_above_closing o ≡ false → list_any (holds_at (holder line) (holder_ep line)) gs ≡ false → is_outside memory line (fresh_in o) ≡ false → is_more line (fresh_in o) ≡ true → make_refusal memory gs line ≡ Some No.MorePermission
more_first memory gs line o a n c s i m = rw (a, n, c, s, i, m) refl
