use Rattle.m3_trace.proofs.AnyStepRefinement.{any_means}
use Rattle.m3_trace.proofs.steps_refine.Goals as goal

pub returns : goal.returns
returns c = λ h m e made o next kept low own within step. any_means h m made o next kept low e own within step
