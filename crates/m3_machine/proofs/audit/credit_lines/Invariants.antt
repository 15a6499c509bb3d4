use Rattle.std.proofs.Common.{◌≡◌, ◌++◌, ◌-◌, drop}
use Rattle.m3_machine.specs.AuditView.{counts_lines}
use Rattle.m3_machine.proofs.audit.credit_lines.Given as goal

abbrev pub invariant-loop-number : goal.invariant-loop-number
invariant-loop-number l =
    l.fn.lines.items ++ counts_lines l.counts 1 l.fn.grants.grants ≡ l.lines.items ++ counts_lines l.counts l.number (drop (l.number - 1) l.fn.grants.grants)
