use Rattle.std.proofs.Common.{sym, subst, ap, ◌∙◌, ◌≡◌, List, length, rules}
use Rattle.m3_base.specs.Ideal.State.{Grant}
use Rattle.m3_base.specs.Ideal.GrantRules.{closing_where}
use Rattle.m3_ideal.specs.Tally.{IsTallied}
use Rattle.m3_ideal.proofs.Tally.{tallied_alike}
use Rattle.m3_ideal.proofs.Marking.{alike_where}
use Rattle.m3_ideal.proofs.Changes.{over_same}
use Rattle.m3_ideal.proofs.grants.Grants.close_under.Goals as goal
use Rattle.m3_base.proofs.GrantsByNumber.{length-closing_where}

pub invariant_of-self : goal.invariant_of-self
invariant_of-self c =
    let made = c.self.inside.made.items in
    let new = c.close_marked.new.grants in
    let was : new ≡ closing_where c.args.marks.now made = c.close_marked.ensures ∙ ap (closing_where c.args.marks.now) c.deref_mut.ensures.value in
    let many : length new ≡ length made = ap length was ∙ length-closing_where c.args.marks.now made in
    let size : c.self.inside.made.len ≡ length made = search rules in
    let P : List Grant → Type 0 = λ z. IsTallied z c.self.inside.held.items c.self.inside.children.items in
    subst P (sym (over_same made new c.self.inside.made.len size many)) (
    subst P (sym was) (tallied_alike made (closing_where c.args.marks.now made) c.self.inside.held.items c.self.inside.children.items c.self.invariant (alike_where c.args.marks.now made)))
