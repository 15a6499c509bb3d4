use Rattle.std.proofs.Common.{subst, sym}
use Rattle.m3_base.specs.Setup.Rules.{SetupValue}
use Rattle.m3_script.specs.Rules.{AllListed}
use Rattle.m3_cmd.proofs.LoadPrograms.{load_listed}
use Rattle.m3_cmd.proofs.DriverMakes.{load_text}
use Rattle.m3_cmd.proofs.load.load_to_text.Goals as goal

pub returns : goal.returns
returns c =
    load_text c.args.rounds c.new.result.items c.in_ok-setup.setup c.in_ok-machine.quiet c.in_ok-machine.machine c.in_ok-summary_text.field-0.items
    c.in_ok-setup.ensures c.new.ensures.items c.in_ok-machine.ensures c.summary_text.ensures.runs c.in_ok-summary_text.ensures.text

pub drive-requires-clause-listed : goal.drive-requires-clause-listed
drive-requires-clause-listed c = subst (λ (s : SetupValue). AllListed s.lines) (sym c.in_ok-setup.ensures) (load_listed c.args.rounds)
