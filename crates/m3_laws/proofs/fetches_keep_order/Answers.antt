use Rattle.m3_laws.proofs.order.FetchOrder.{fetching_order}
use Rattle.m3_laws.proofs.fetches_keep_order.Goals as goal

pub returns : goal.returns
returns c = fetching_order
