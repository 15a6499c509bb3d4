use Rattle.m3_pipe_laws.proofs.Protocol.Window.{writer_window}
use Rattle.m3_pipe_laws.proofs.writer_window.Goals as goal

pub returns : goal.returns
returns c = writer_window
