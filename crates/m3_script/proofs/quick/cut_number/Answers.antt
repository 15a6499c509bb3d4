use Rattle.std.proofs.Common.{arith}
use Rattle.m3_script.proofs.QuickForms.{one_figure, figure_more}
use Rattle.m3_script.proofs.quick.cut_number.Goals as goal

pub loop-figure-init : goal.loop-figure-init
loop-figure-init c = record {
  text = one_figure c.args.text.now c.in_ok-first.after.now c.in_ok-first.first c.in_ok-first.ensures.figure c.in_ok-first.ensures.text;
  small = omega (arith, c.in_ok-first.ensures.figure);
}

pub loop-figure-preserved : goal.loop-figure-preserved
loop-figure-preserved c = record {
  text = figure_more c.args.text.now c.loop-figure.rest.now c.in-Some.after.now c.loop-figure.number c.in-Some.figure
      (omega (arith, c.if-number-eq0.false)) (omega (arith, c.if-number-gt99999999.false)) c.in-Some.ensures.figure c.loop-figure.invariant.text c.in-Some.ensures.text;
  small = omega (arith, c.if-number-gt99999999.false, c.in-Some.ensures.figure);
}
