use Rattle.std.proofs.Common.{arith, sym}
use Rattle.m3_text.proofs.DecimalValue.{room, ended}
use Rattle.m3_cmd.proofs.words.digits_value.Goals as goal

pub returns-in_err-checked_mul : goal.returns-in_err-checked_mul
returns-in_err-checked_mul c =
    rw c.from_residual.ensures (λ h. let fits = room c.args.word.now c.loop-digit.value c.loop-digit.digit-index c.loop-digit-test.true c.loop-digit.invariant.reads h.1 in c.in_err-checked_mul.ensures (omega arith))

pub returns-in_err-value : goal.returns-in_err-value
returns-in_err-value c =
    rw c.from_residual-in_err-value.ensures (λ h. let fits = room c.args.word.now c.loop-digit.value c.loop-digit.digit-index c.loop-digit-test.true c.loop-digit.invariant.reads h.1 in c.in_err-value.ensures (omega (arith, c.in_ok-checked_mul.ensures)))

pub returns : goal.returns
returns c = let e = ended c.args.word.now c.loop-digit.value c.loop-digit.digit-index c.loop-digit-test.false c.loop-digit.invariant.reads in
    ((e.0, omega (arith, e.1)), sym e.1)
