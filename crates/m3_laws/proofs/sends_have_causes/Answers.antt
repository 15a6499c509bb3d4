use Rattle.m3_laws.proofs.refusals.SendRefusals.{sends_told}
use Rattle.m3_laws.proofs.sends_have_causes.Goals as goal

pub returns : goal.returns
returns c = sends_told
