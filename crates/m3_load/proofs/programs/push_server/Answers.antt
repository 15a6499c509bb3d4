use Rattle.m3_base.specs.Load.Setup.{server_round}
use Rattle.m3_load.proofs.Rounds.{one_more}
use Rattle.m3_load.proofs.programs.push_server.Goals as goal

pub loop-round-preserved : goal.loop-round-preserved
loop-round-preserved c = one_more server_round c.loop-round.round c.args.act c.args.lines.now.items c.loop-round.lines.items _ c.loop-round.invariant c.in_ok-push_server_round.ensures
