use Rattle.std.proofs.Common.{◌≡◌, take}
use Rattle.m3_base.specs.Setup.Rules.{no_lines}
use Rattle.m3_cmd.specs.BudgetCounts.{counts_of}
use Rattle.m3_cmd.proofs.budget.counts_of.Given as goal

abbrev pub invariant-loop-line : goal.invariant-loop-line
invariant-loop-line l =
    l.counts ≡ counts_of (take l.line-index l.fn.setup.lines) (no_lines l.fn.setup.tiles l.fn.setup.memory)
