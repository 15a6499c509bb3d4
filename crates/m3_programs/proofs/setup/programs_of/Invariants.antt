use Rattle.std.proofs.Common.{◌≡◌, ◌+◌, ◌++◌, map, length}
use Rattle.std.specs.Vec.Iter.{into_iter_items, into_iter_len}
use Rattle.m3_programs.specs.SetupPrograms.{HaveItems, programs_from, setup_programs}
use Rattle.m3_programs.proofs.setup.programs_of.Given as goal

abbrev pub invariant-loop-program : goal.invariant-loop-program
invariant-loop-program l = record {
  got : map (λ p. (p.0, p.1)) l.programs.items ++ programs_from l.act (length (into_iter_items l.program-iterator)) l.fn.setup.lines ≡ setup_programs l.fn.setup.lines;
  items : HaveItems l.act (into_iter_items l.program-iterator) l.fn.setup.lines;
  left : l.act + length (into_iter_items l.program-iterator) ≡ 64;
  len : into_iter_len l.program-iterator ≡ length (into_iter_items l.program-iterator);
}
