use Rattle.m3_laws.proofs.grants.OpenWhileUsed.{access_law}
use Rattle.m3_laws.proofs.bytes_are_granted.Goals as goal

pub returns : goal.returns
returns c = access_law
