use Rattle.m3_ideal.proofs.AuditLines.{credit_found}
use Rattle.m3_ideal.proofs.audits.lines.first_credit.Goals as goal

pub returns-in-Credit : goal.returns-in-Credit
returns-in-Credit c = (
  c.loop-i-test.true,
  λ l e. credit_found c.args.lines.now c.loop-i.i c.index-lines-i.result _ _ _ _ _ c.loop-i-test.true c.index-lines-i.is c.in-Credit.is c.loop-i.invariant l e,
)
