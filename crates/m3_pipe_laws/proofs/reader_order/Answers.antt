use Rattle.m3_pipe_laws.proofs.Protocol.Order.{reader_order}
use Rattle.m3_pipe_laws.proofs.reader_order.Goals as goal

pub returns : goal.returns
returns c = reader_order
