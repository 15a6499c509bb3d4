use Rattle.m3_trace.proofs.ProgramCalls.{hears}
use Rattle.m3_trace.proofs.programs_hear.Goals as goal

pub returns : goal.returns
returns c = λ s entries m trace a known. hears s entries m trace a known
