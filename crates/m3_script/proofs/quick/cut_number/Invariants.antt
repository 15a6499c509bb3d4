use Rattle.std.proofs.Common.{◌≡◌, ◌<◌, ◌++◌, length}
use Rattle.std.specs.Prelude.{decimal}
use Rattle.m3_script.proofs.quick.cut_number.Given as goal

abbrev pub invariant-loop-figure : goal.invariant-loop-figure
invariant-loop-figure l = record {
  text : l.text ≡ decimal l.number ++ l.rest;
  small : l.number < 1000000000;
}

abbrev pub decreases-loop-figure : goal.decreases-loop-figure
decreases-loop-figure l = length l.rest
