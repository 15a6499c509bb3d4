use Rattle.m3_laws.proofs.invariant.step.Invariant.{invariant_opening, invariant_step}
use Rattle.m3_laws.proofs.invariant_holds.Goals as goal

pub returns : goal.returns
returns c = record { opening = invariant_opening; step = invariant_step }
