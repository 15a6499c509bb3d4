use Rattle.m3_base.specs.Ideal.Opening.{opening}
use Rattle.m3_base.proofs.PrintedReplies.{seen_given}
use Rattle.m3_trace.proofs.ProgramCalls.{ends_last}
use Rattle.m3_trace.proofs.TraceGrows.{trace_laws, trace_places, trace_reaches, trace_run}
use Rattle.m3_trace.proofs.traces_are_runs.Goals as goal

pub returns : goal.returns
returns c = λ s entries m trace. record {
  run = trace_run s entries m trace;
  reaches = trace_reaches s entries m trace;
  places = trace_places s entries m trace;
  replies = λ a. seen_given a (opening s.memory s.lines) entries (trace_run s entries m trace);
  laws = trace_laws s entries m trace;
  ends = ends_last s entries m trace;
}
