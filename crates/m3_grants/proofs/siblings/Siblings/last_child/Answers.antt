use Rattle.std.proofs.Common.{◌≡◌, ◌<◌, ℕ, false, length, subst, arith, List}
use Rattle.std.specs.Prelude.{Option}
use Rattle.m3_grants.specs.Siblings.{is_under}
use Rattle.m3_grants.proofs.SiblingList.{none_under, length_parents}
use Rattle.m3_grants.proofs.siblings.Siblings.last_child.Goals as goal

pub returns-else-at-len : goal.returns-else-at-len
returns-else-at-len c =
    let links = c.self.inside.siblings.items in
    let P : List (Option ℕ) → Type 0 = λ ps. (i : ℕ) → i < length ps → is_under ps c.args.g i ≡ false in
    subst P c.self.view_is (λ i h. none_under links c.args.g c.self.invariant i (omega (arith, h, length_parents links, c.if-at-len.false, c.len.ensures, c.number.ensures.same, c.number.ensures.some)))
