use Rattle.std.proofs.Common.{◌≡◌, drop}
use Rattle.m3_text.specs.Lines.{texts}
use Rattle.m3_text.specs.LineForm.{starts_with}
use Rattle.m3_text.proofs.shapes.begins.Given as goal

abbrev pub invariant-loop-i : goal.invariant-loop-i
invariant-loop-i l = starts_with (drop l.i (texts l.form)) (drop l.i (texts l.words)) ≡ starts_with (texts l.form) (texts l.words)
