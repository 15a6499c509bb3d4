use Rattle.m3_pipe_laws.proofs.Protocol.Order.{reader_fits}
use Rattle.m3_pipe_laws.proofs.reader_fits.Goals as goal

pub returns : goal.returns
returns c = reader_fits
