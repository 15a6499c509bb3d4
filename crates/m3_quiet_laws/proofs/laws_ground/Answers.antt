use Rattle.m3_quiet_laws.proofs.Premises.{laws_ground}
use Rattle.m3_quiet_laws.proofs.laws_ground.Goals as goal

pub returns : goal.returns
returns c = laws_ground
