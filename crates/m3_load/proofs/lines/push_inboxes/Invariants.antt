use Rattle.std.proofs.Common.{◌≡◌, ◌++◌, take, map}
use Rattle.m3_base.specs.Load.Setup.{inbox_line}
use Rattle.m3_load.proofs.lines.push_inboxes.Given as goal

abbrev pub invariant-loop-act : goal.invariant-loop-act
invariant-loop-act l = l.lines.items ≡ l.fn.lines.items ++ map (inbox_line l.fn.ep) (take l.act-index l.acts)
