use Rattle.std.proofs.Common.{◌≡◌, ◌++◌, length}
use Rattle.std.specs.Vec.Iter.{into_iter_items, into_iter_len}
use Rattle.m3_base.specs.Setup.Rules.{AllKept, facts_of}
use Rattle.m3_load.proofs.setup.add_lines.Given as goal

abbrev pub invariant-loop-line : goal.invariant-loop-line
invariant-loop-line l = record {
  added : l.setup ≡ record l.initial.setup { lines = l.initial.setup.lines ++ l.yielded };
  left : l.yielded ++ into_iter_items l.line-iterator ≡ into_iter_items l.initial.line-iterator;
  len : into_iter_len l.line-iterator ≡ length (into_iter_items l.line-iterator);
  kept : AllKept (into_iter_items l.line-iterator) (facts_of l.setup);
}
