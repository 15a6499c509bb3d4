use Rattle.std.proofs.Common.{◌≡◌, length}
use Rattle.std.specs.Vec.Iter.{into_iter_items, into_iter_len}
use Rattle.m3_machine.specs.ProgramTable.{program_table, with_programs}
use Rattle.m3_machine.proofs.programs.program_table.Given as goal

abbrev pub invariant-loop-act : goal.invariant-loop-act
invariant-loop-act g l = (with_programs (into_iter_items l.act-iterator) l.table.items ≡ program_table l.fn.programs.items)
    × (into_iter_len l.act-iterator ≡ length (into_iter_items l.act-iterator))
    × (length l.table.items ≡ 64)
