use Rattle.m3_programs.proofs.Tables.{empty_table}
use Rattle.m3_programs.proofs.setup.table_of.Goals as goal

pub loop-line-init : goal.loop-line-init
loop-line-init c = empty_table c.in_ok-table.table.items c.in_ok-table.ensures
