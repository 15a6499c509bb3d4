use Rattle.std.proofs.Common.{◌≡◌, length, ap, ◌∙◌, rules}
use Rattle.m3_base.specs.DriverRun.Budget.{budget}
use Rattle.m3_cmd.proofs.DriverMakes.{driven_by}
use Rattle.m3_cmd.proofs.auto.drive.Goals as goal

pub returns : goal.returns
returns c =
    let count : c.len.result ≡ length c.args.orders.items = search rules in
    driven_by c.args.setup c.args.orders.items c.budget-most.result c.in_ok-quiet.quiet c.in_ok-machine.machine c.auto.new.self
    (c.budget-most.ensures ∙ ap (budget c.args.setup) count) c.in_ok-machine.ensures.opened c.auto.ensures.driven c.in_ok-quiet.ensures.ends
