use Rattle.std.proofs.Common.{[], ap, ◌∙◌}
use Rattle.m3_base.specs.Ideal.Opening.{opening}
use Rattle.m3_ideal.proofs.OpeningLines.{opens_first, opens_here}
use Rattle.m3_ideal.proofs.ideal.Ideal.open.Goals as goal

pub loop-line-init : goal.loop-line-init
loop-line-init c =
    opens_first c.args.setup.now c.in_ok-ideal.ideal c.lines-line-items.result.now c.lines-line-items.ensures.valid (c.in_ok-ideal.ensures ∙ ap (λ m. opening m []) c.memory.ensures) c.lines-line-items.ensures.lines

pub add-requires : goal.add-requires
add-requires c = opens_here c.args.setup.now c.loop-line.ideal c.lines-line-items.result.now c.loop-line.line-index _ c.loop-line-test.true c.line-item.is c.loop-line.invariant
