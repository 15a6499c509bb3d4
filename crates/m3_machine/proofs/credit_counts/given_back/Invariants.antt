use Rattle.std.proofs.Common.{◌≡◌, drop}
use Rattle.m3_base.specs.Ideal.Landing.{flying_at}
use Rattle.m3_machine.proofs.credit_counts.given_back.Given as goal

abbrev pub invariant-loop-flying : goal.invariant-loop-flying
invariant-loop-flying l = flying_at l.number l.context.flying ≡ flying_at l.number (drop l.flying-index l.context.flying)
