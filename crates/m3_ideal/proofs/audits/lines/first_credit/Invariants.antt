use Rattle.std.proofs.Common.{◌≡◌, drop}
use Rattle.m3_base.specs.Journal.Legal.{only_credits}
use Rattle.m3_ideal.proofs.audits.lines.first_credit.Given as goal

abbrev pub invariant-loop-i : goal.invariant-loop-i
invariant-loop-i l = only_credits l.lines ≡ only_credits (drop l.i l.lines)
