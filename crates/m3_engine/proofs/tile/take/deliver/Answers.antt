use Rattle.m3_engine.proofs.TileTake.{lands_as}
use Rattle.m3_engine.proofs.tile.take.deliver.Goals as goal

pub returns : goal.returns
returns c =
    lands_as c.args.site.now c.delivery_result.result c.args.context.now c.meet.new.context c.args.packet c.meet.result
    c.requires.named c.requires.fits c.meet.ensures.arrives c.delivery_result.ensures.outcome c.delivery_result.ensures.out
