use Rattle.std.proofs.Common.{◌≡◌, take}
use Rattle.m3_base.specs.Ideal.GrantRules.{closing_where}
use Rattle.m3_ideal.proofs.grants.change.close_marked.Given as goal

abbrev pub invariant-loop-at : goal.invariant-loop-at
invariant-loop-at l = l.grants ≡ closing_where (take l.at l.marks) l.initial.grants
