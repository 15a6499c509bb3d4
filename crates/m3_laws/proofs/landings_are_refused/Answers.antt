use Rattle.m3_laws.proofs.refusals.SendRefusals.{land_causes_law}
use Rattle.m3_laws.proofs.landings_are_refused.Goals as goal

pub returns : goal.returns
returns c = land_causes_law
