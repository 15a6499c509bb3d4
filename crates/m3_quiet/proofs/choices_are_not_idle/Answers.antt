use Rattle.m3_quiet.proofs.Driver.Work.{next_works}
use Rattle.m3_quiet.proofs.choices_are_not_idle.Goals as goal

pub returns : goal.returns
returns c = next_works
