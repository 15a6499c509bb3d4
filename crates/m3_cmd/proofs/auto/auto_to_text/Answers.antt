use Rattle.m3_cmd.proofs.DriverMakes.{driven_script, orders_few, orders_named}
use Rattle.m3_cmd.proofs.auto.auto_to_text.Goals as goal

pub drive-requires-clause-few : goal.drive-requires-clause-few
drive-requires-clause-few c = orders_few c.in_ok-orders.orders.items c.args.script.events.items c.in_ok-orders.ensures c.requires.orders.1

pub drive-requires-clause-orders : goal.drive-requires-clause-orders
drive-requires-clause-orders c = orders_named c.args.script.setup c.in_ok-orders.orders.items c.args.script.events.items c.in_ok-orders.ensures c.requires.named c.requires.ranges

pub returns : goal.returns
returns c =
    driven_script c.args.format c.args.script.setup c.args.script.events.items c.in_ok-orders.orders.items c.in_ok-machine.quiet c.in_ok-machine.machine c.in_ok-journal_text.field-0.items
    c.in_ok-orders.ensures c.in_ok-machine.ensures c.journal_text.ensures.runs c.in_ok-journal_text.ensures.text
