use Rattle.std.proofs.Common.{◌≡◌, ◌++◌, take, map}
use Rattle.m3_base.specs.Load.Setup.{home_line}
use Rattle.m3_load.proofs.lines.push_homes.Given as goal

abbrev pub invariant-loop-act : goal.invariant-loop-act
invariant-loop-act l = l.lines.items ≡ l.fn.lines.items ++ map home_line (take l.act-index l.acts)
