use Rattle.std.proofs.Common.{◌+◌, drop}
use Rattle.m3_ideal.specs.Check.AuditLines.{counted_lines}
use Rattle.m3_ideal.proofs.AuditLines.{Same}
use Rattle.m3_ideal.proofs.audits.lines.are_credit_lines.Given as goal

abbrev pub invariant-loop-i : goal.invariant-loop-i
invariant-loop-i l =
    Same l.fn.lines (counted_lines l.credits 1 l.grants) l.rest (counted_lines l.credits (l.i + 1) (drop l.i l.grants))
