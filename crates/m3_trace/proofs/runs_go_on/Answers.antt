use Rattle.m3_trace.proofs.RunsGoOn.{driver_goes_on, events_go_on}
use Rattle.m3_trace.proofs.runs_go_on.Goals as goal

pub returns-clause-events : goal.returns-clause-events
returns-clause-events g c = λ s programs entries m events can trace fit room. events_go_on g.P.Program.moves g.P.Program.meaning s programs can events entries m trace fit room

pub returns-clause-driver : goal.returns-clause-driver
returns-clause-driver g c = λ s programs orders entries m left budget can driven few most. driver_goes_on g.P.Program.moves g.P.Program.meaning s programs can orders budget most entries m left driven few
