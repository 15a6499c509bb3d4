-- The causes for which a grant isn't made are those of grants.
use Rattle.std.proofs.Common.{◌≡◌, ℕ, ◌+◌, Bool, true, false, ◌||◌, List, [], ◌∷◌, length, Some, arith}
use Rattle.std.specs.Prelude.{nat_le, is_none}
use Rattle.std.specs.List.{list_any}
use Rattle.m3_base.specs.declared.event.No.{No}
use Rattle.m3_base.specs.declared.order.GrantLine.{GrantLine}
use Rattle.m3_base.specs.Journal.OutcomeForms.{allows_for_grant}
use Rattle.m3_base.specs.Ideal.State.{Grant, holder, holder_ep}
use Rattle.m3_base.specs.Ideal.GrantRules.{form, fresh_of, holds_at, is_outside, is_above_closing, is_more, is_crowded, first_no, make_refusal}
use Rattle.m3_base.specs.Setup.GrantTable.{above}

first_of_grants : (a b c d e f : Bool) (why : No) → first_no ((a, No.NoGrant) ∷ (b, No.Closing) ∷ (c, No.SlotTaken) ∷ (d, No.OutsideParent) ∷ (e, No.MorePermission) ∷ (f, No.TooMany) ∷ []) ≡ Some why → allows_for_grant why ≡ true
first_of_grants true b c d e f why h = grind (arith, h)
first_of_grants false true c d e f why h = grind (arith, h)
first_of_grants false false true d e f why h = grind (arith, h)
first_of_grants false false false true e f why h = grind (arith, h)
first_of_grants false false false false true f why h = grind (arith, h)
first_of_grants false false false false false true why h = grind (arith, h)
first_of_grants false false false false false false why h = absurd (cc)

pub refusal_of_grants : (memory : ℕ) (gs : List Grant) (line : GrantLine) (why : No) → make_refusal memory gs line ≡ Some why → allows_for_grant why ≡ true
refusal_of_grants memory gs line why e =
    let o = above gs line in
    first_of_grants (is_none (form (length gs + 1) line o)) (is_above_closing o) (list_any (holds_at (holder line) (holder_ep line)) gs) (is_outside memory line (fresh_of o)) (is_more line (fresh_of o)) (nat_le 4096 (length gs) || is_crowded line gs) why e
