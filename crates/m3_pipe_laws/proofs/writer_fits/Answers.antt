use Rattle.m3_pipe_laws.proofs.Protocol.Window.{writer_fits}
use Rattle.m3_pipe_laws.proofs.writer_fits.Goals as goal

pub returns : goal.returns
returns c = writer_fits
