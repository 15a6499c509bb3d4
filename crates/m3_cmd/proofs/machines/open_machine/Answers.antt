use Rattle.std.proofs.Common.{◌∙◌, ap, sym}
use Rattle.m3_machine.specs.ProgramTable.{program_table}
use Rattle.m3_cmd.proofs.ProgramTables.{pairs_same}
use Rattle.m3_cmd.proofs.MachineRuns.{programs_fit}
use Rattle.m3_cmd.proofs.OpenedMachines.{is_opened}
use Rattle.m3_cmd.proofs.machines.open_machine.Goals as goal

pub open-requires-clause-programs : goal.open-requires-clause-programs
open-requires-clause-programs c =
    programs_fit c.args.setup c.in_ok-programs.programs.items c.programs_of.ensures.valid c.requires.listed c.in_ok-programs.ensures.programs

pub returns-clause-opened : goal.returns-clause-opened
returns-clause-opened c =
    is_opened c.open.result c.args.setup c.args.orders.items (program_table c.in_ok-programs.programs.items) c.requires.listed
    (ap program_table (sym (pairs_same c.in_ok-programs.programs.items) ∙ c.in_ok-programs.ensures.programs))
    c.open.ensures.setup c.open.ensures.entries c.open.ensures.left c.open.ensures.programs c.open.ensures.ideal c.open.ensures.placement
