use Rattle.std.proofs.Common.{drop}
use Rattle.m3_ideal.proofs.Judging.{AreJudged}
use Rattle.m3_ideal.proofs.judge.judge_all.Given as goal

abbrev pub invariant-loop-i : goal.invariant-loop-i
invariant-loop-i l = AreJudged l.fn.ideal l.entries l.ideal l.i (drop l.i l.entries)
