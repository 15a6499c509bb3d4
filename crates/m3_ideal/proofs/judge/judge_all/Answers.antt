use Rattle.std.proofs.Common.{subst}
use Rattle.m3_ideal.specs.Check.Entries.{JudgesEntry}
use Rattle.m3_ideal.proofs.Judging.{judged_more}
use Rattle.m3_ideal.proofs.judge.judge_all.Goals as goal

pub loop-i-preserved : goal.loop-i-preserved
loop-i-preserved c =
    judged_more c.args.ideal.now c.loop-i.ideal c.args.entries.now c.loop-i.i c.index-entries-i.result c.loop-i-test.true c.index-entries-i.is c.loop-i.invariant c.judge.new.ideal (
    subst (λ why. JudgesEntry why c.index-entries-i.result c.loop-i.ideal c.judge.new.ideal) c.in_default.is c.in_ok-why.ensures
    )
