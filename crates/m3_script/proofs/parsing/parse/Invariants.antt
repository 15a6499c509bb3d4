use Rattle.std.proofs.Common.{◌≡◌, ◌+◌, ◌≤◌, length}
use Rattle.std.specs.Str.Lines.{lines}
use Rattle.m3_script.specs.ScriptText.{after_lines, script_of}
use Rattle.m3_script.specs.ParserView.{state}
use Rattle.m3_script.proofs.parsing.parse.Given as goal

abbrev pub invariant-loop-rest : goal.invariant-loop-rest
invariant-loop-rest l = record {
  reads : after_lines l.options.mode l.options.boxes (lines l.rest) (state l.parser) l.line ≡ script_of l.fn.mode l.fn.boxes l.bytes;
  room : l.line + length l.rest ≤ length l.bytes + 1;
}

abbrev pub decreases-loop-rest : goal.decreases-loop-rest
decreases-loop-rest l = length l.rest
