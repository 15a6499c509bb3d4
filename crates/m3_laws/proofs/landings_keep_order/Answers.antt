use Rattle.m3_laws.proofs.order.LandingOrder.{landing_order}
use Rattle.m3_laws.proofs.landings_keep_order.Goals as goal

pub returns : goal.returns
returns c = landing_order
