use Rattle.std.proofs.Common.{drop}
use Rattle.m3_engine.specs.OpeningInvariant.{Progress}
use Rattle.m3_engine.proofs.opening.initial_contexts.Given as goal

abbrev pub invariant-loop-line : goal.invariant-loop-line
invariant-loop-line l = Progress l.fn.setup l.table.items l.count (drop l.line-index l.line-items)
