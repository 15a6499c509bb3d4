use Rattle.std.proofs.Common.{◌≡◌, ◌+◌, drop, []}
use Rattle.m3_base.specs.Ideal.GrantRules.{marks_under}
use Rattle.m3_ideal.proofs.grants.change.marks_under.Given as goal

abbrev pub invariant-loop-grant : goal.invariant-loop-grant
invariant-loop-grant l =
    (l.number ≡ l.grant-index + 1)
    × (marks_under l.g l.number l.marks.items (drop l.grant-index l.grants) ≡ marks_under l.g 1 [] l.grants)
