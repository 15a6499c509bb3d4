use Rattle.m3_laws.proofs.refusals.SendRefusals.{send_causes}
use Rattle.m3_laws.proofs.sends_are_refused.Goals as goal

pub returns : goal.returns
returns c = send_causes
