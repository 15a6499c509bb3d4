use Rattle.std.proofs.Common.{◌+◌, drop}
use Rattle.m3_ideal.specs.Check.AuditLines.{counted_lines}
use Rattle.m3_ideal.proofs.AuditLines.{same_end, lines_past}
use Rattle.m3_ideal.proofs.audits.lines.are_credit_lines.Goals as goal

pub returns : goal.returns
returns c =
    let t = c.args.credits.now in
    let gs = c.args.grants.now in
    let i = c.loop-i.i in
    same_end c.args.lines.now (counted_lines t 1 gs) c.loop-i.rest.now (counted_lines t (i + 1) (drop i gs)) c.first_credit.result c.is_none.result
    (lines_past t gs i c.loop-i-test.false) c.loop-i.invariant c.first_credit.ensures c.is_none.ensures
