use Rattle.m3_laws.proofs.invariant.commands.CommandsMatchFlights.{commands_match}
use Rattle.m3_laws.proofs.commands_match_flights.Goals as goal

pub returns : goal.returns
returns c = commands_match
