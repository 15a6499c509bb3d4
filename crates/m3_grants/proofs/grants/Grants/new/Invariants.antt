use Rattle.std.proofs.Common.{drop}
use Rattle.m3_grants.proofs.FromSetup.{SoFar}
use Rattle.m3_grants.proofs.grants.Grants.new.Given as goal

abbrev pub invariant-loop-line : goal.invariant-loop-line
invariant-loop-line l = SoFar l.fn.setup l.grants (drop l.line-index l.lines)
