use Rattle.std.proofs.Common.{◌≡◌, ◌++◌, take}
use Rattle.std.specs.List.{flat_map}
use Rattle.m3_base.specs.Load.Setup.{rounds, server_round}
use Rattle.m3_load.proofs.programs.push_servers.Given as goal

abbrev pub invariant-loop-act : goal.invariant-loop-act
invariant-loop-act l = l.lines.items ≡ l.fn.lines.items ++ flat_map (rounds server_round l.fn.count) (take l.act-index l.acts)
