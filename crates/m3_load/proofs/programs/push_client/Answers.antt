use Rattle.m3_base.specs.Load.Setup.{client_round}
use Rattle.m3_load.proofs.Rounds.{one_more}
use Rattle.m3_load.proofs.programs.push_client.Goals as goal

pub loop-round-preserved : goal.loop-round-preserved
loop-round-preserved c = one_more client_round c.loop-round.round c.args.act c.args.lines.now.items c.loop-round.lines.items _ c.loop-round.invariant c.in_ok-push_client_round.ensures
