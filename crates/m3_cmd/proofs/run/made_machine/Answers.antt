use Rattle.std.proofs.Common.{subst, sym}
use Rattle.m3_base.specs.Setup.Rules.{SetupValue}
use Rattle.m3_script.specs.Rules.{AllNamed}
use Rattle.m3_cmd.specs.ListMachines.{IsOpened}
use Rattle.m3_cmd.proofs.JournalFollowsScript.{has_made, makeable_all}
use Rattle.m3_cmd.proofs.run.made_machine.Goals as goal

pub step_all-requires : goal.step_all-requires
step_all-requires c =
    let events = c.args.script.events.items in
    let setup = c.in_ok-machine.machine.setup in
    makeable_all setup events c.in_ok-machine.ensures.valid
    (subst (λ (s : SetupValue). AllNamed s events) (sym c.in_ok-machine.ensures.opened.of.setup_is) c.requires.named) c.requires.ranges c.requires.built

pub returns : goal.returns
returns c =
    has_made c.args.script.setup c.args.script.events.items c.in_ok-machine.machine c.step_all.new.machine
    (subst (λ os. IsOpened c.args.script.setup os c.in_ok-machine.machine) c.new.ensures.items c.in_ok-machine.ensures.opened) c.in_ok-step_all.ensures
