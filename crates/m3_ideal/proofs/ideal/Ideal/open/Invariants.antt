use Rattle.std.proofs.Common.{drop}
use Rattle.m3_ideal.proofs.OpeningLines.{IsOpening}
use Rattle.m3_ideal.proofs.ideal.Ideal.open.Given as goal

abbrev pub invariant-loop-line : goal.invariant-loop-line
invariant-loop-line l = IsOpening l.ideal (drop l.line-index l.line-items) l.fn.setup
