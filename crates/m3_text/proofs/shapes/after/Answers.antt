use Rattle.m3_text.proofs.JoinedCauses.{texts_after}
use Rattle.m3_text.proofs.shapes.after.Goals as goal

pub returns : goal.returns
returns c = texts_after c.args.words.now c.args.count
