use Rattle.std.proofs.Common.{◌≡◌, ◌++◌, take}
use Rattle.std.specs.List.{flat_map}
use Rattle.m3_base.specs.Load.Setup.{rounds, client_round}
use Rattle.m3_load.proofs.programs.push_clients.Given as goal

abbrev pub invariant-loop-act : goal.invariant-loop-act
invariant-loop-act l = l.lines.items ≡ l.fn.lines.items ++ flat_map (rounds client_round l.fn.count) (take l.act-index l.acts)
