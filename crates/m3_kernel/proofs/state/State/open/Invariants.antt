use Rattle.std.proofs.Common.{drop}
use Rattle.m3_kernel.specs.KernelStateView.{at_site, IsKept}
use Rattle.m3_model.specs.SetupOpening.{opened_site}
use Rattle.m3_kernel.proofs.OpenAll.{Progress}
use Rattle.m3_kernel.proofs.state.State.open.Given as goal

abbrev pub invariant-loop-at : goal.invariant-loop-at
invariant-loop-at l = IsKept l.state × Progress l.fn.setup l.fn.contexts.items (at_site l.state) l.contexts.items (drop l.at (opened_site l.fn.setup).homes)
