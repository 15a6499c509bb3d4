use Rattle.std.proofs.Common.{◌<◌, ◌-◌, refl, length, rules, string_bytes}
use Rattle.m3_cmd.proofs.PacketsShown.{next, why}
use Rattle.m3_cmd.proofs.show.lines_of.Goals as goal

pub loop-rest-preserved : goal.loop-rest-preserved
loop-rest-preserved c = next c.args.bytes.now (string_bytes c.loop-rest.out) c.loop-rest.rest.now (string_bytes c.put_next.new.out) c.in-Ok.len c.loop-rest.invariant (let h : 0 < length c.loop-rest.rest.now = search rules in h) c.in-Ok.ensures.next

pub returns-in-Err-clause-bad : goal.returns-in-Err-clause-bad
returns-in-Err-clause-bad c = rw c.refused_after.ensures
    (why c.args.bytes.now (string_bytes c.loop-rest.out) c.loop-rest.rest.now (length c.args.bytes.now - length c.loop-rest.rest.now) c.in-Err.refusal c.loop-rest.invariant (let h : 0 < length c.loop-rest.rest.now = search rules in h) refl
    c.in-Err.ensures.refused.refuses c.in-Err.ensures.refused.never)
