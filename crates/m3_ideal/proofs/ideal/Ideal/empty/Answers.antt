use Rattle.m3_ideal.proofs.OpeningLines.{nexts_first}
use Rattle.m3_ideal.proofs.ideal.Ideal.empty.Goals as goal

pub invariant_of-result : goal.invariant_of-result
invariant_of-result c = nexts_first c.in_ok-new-2.field-0.nexts c.in_ok-new.field-0 c.in_ok-new-2.ensures.nexts c.in_ok-new.ensures
