use Rattle.m3_pipe_laws.proofs.Grants.Flights.{none_flies}
use Rattle.m3_pipe_laws.proofs.no_write_flies.Goals as goal

pub returns : goal.returns
returns c = none_flies
