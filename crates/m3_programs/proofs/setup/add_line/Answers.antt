use Rattle.std.proofs.Common.{ap, sym, ◌∙◌}
use Rattle.m3_base.specs.declared.setup_line.SetupLine.{SetupLine}
use Rattle.m3_programs.proofs.Tables.{then_await, then_command, then_same}
use Rattle.m3_programs.proofs.setup.add_line.Goals as goal

pub returns-in_ok-command-in-Item : goal.returns-in_ok-command-in-Item
returns-in_ok-command-in-Item c = then_command _ _ _ c.in-Item.act _ c.args.line.now (c.in-Item.is ∙ ap (SetupLine.Item c.in-Item.act) (sym c.in_ok-command-in-Item.ensures)) c.push_item.ensures.range c.push_item.ensures.added

pub returns-in-AwaitItem : goal.returns-in-AwaitItem
returns-in-AwaitItem c = then_await _ _ _ c.in-AwaitItem.act c.in-AwaitItem.ep c.args.line.now c.in-AwaitItem.is c.push_item-in-AwaitItem.ensures.range c.push_item-in-AwaitItem.ensures.added

pub returns-in_default : goal.returns-in_default
returns-in_default c = then_same c.args.table.now.items c.args.line.now c.in_default.not-Item c.in_default.not-AwaitItem
