use Rattle.std.proofs.Common.{◌≡◌, ◌≤◌, take}
use Rattle.m3_base.specs.Load.Summary.{summary_lines}
use Rattle.m3_load.specs.SummaryLines.{lines_of}
use Rattle.m3_load.proofs.summary.summary_of.Given as goal

abbrev pub invariant-loop-entry : goal.invariant-loop-entry
invariant-loop-entry l = record {
  lines : lines_of l.summary ≡ summary_lines l.fn.load (take l.entry-index l.entries);
  fetched : l.summary.fetched ≤ l.entry-index;
  bounced : l.summary.bounced ≤ l.entry-index;
  switches : l.summary.switches ≤ l.entry-index;
}
