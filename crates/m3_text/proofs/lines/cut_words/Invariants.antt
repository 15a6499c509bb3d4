use Rattle.std.proofs.Common.{◌≡◌, ◌++◌, ◌-◌, ◌≤◌, length, take}
use Rattle.m3_text.specs.Lines.{words, texts}
use Rattle.m3_text.proofs.lines.cut_words.Given as goal

abbrev pub invariant-loop-found : goal.invariant-loop-found
invariant-loop-found l = record {
  cut : texts l.found.items ++ take (l.most - length l.found.items) (words l.rest) ≡ take l.most (words l.line);
  few : length l.found.items ≤ l.most;
}

abbrev pub decreases-loop-found : goal.decreases-loop-found
decreases-loop-found l = length l.rest
