use Rattle.std.proofs.Common.{◌≡◌, ◌++◌}
use Rattle.m3_base.specs.Load.Setup.{rounds, server_round}
use Rattle.m3_load.proofs.programs.push_server.Given as goal

abbrev pub invariant-loop-round : goal.invariant-loop-round
invariant-loop-round l = l.lines.items ≡ l.fn.lines.items ++ rounds server_round l.round l.fn.act
