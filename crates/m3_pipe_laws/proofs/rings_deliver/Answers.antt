use Rattle.m3_pipe_laws.proofs.Ring.Delivery.{rings_bring}
use Rattle.m3_pipe_laws.proofs.rings_deliver.Goals as goal

pub returns : goal.returns
returns c = rings_bring
