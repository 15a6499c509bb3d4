use Rattle.std.proofs.Common.{◌∙◌, ap, sym, rules}
use Rattle.m3_base.specs.Setup.Rules.{is_programmed}
use Rattle.m3_kernel.proofs.ProgrammedActs.{setup_program, some_program}
use Rattle.m3_kernel.proofs.site.tables.is_programmed.Goals as goal

pub returns-in-Absent : goal.returns-in-Absent
returns-in-Absent c = ap is_programmed (sym c.in-Absent.is ∙ c.program.ensures) ∙ setup_program c.args.act c.args.setup.now (search rules)

pub returns-in_default : goal.returns-in_default
returns-in_default c = some_program c.program.result c.in_default.not-Absent ∙ ap is_programmed c.program.ensures ∙ setup_program c.args.act c.args.setup.now (search rules)
