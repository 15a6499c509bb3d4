use Rattle.m3_quiet.proofs.Driver.Choices.{next_allowed}
use Rattle.m3_quiet.proofs.choices_are_allowed.Goals as goal

pub returns : goal.returns
returns c = next_allowed
