use Rattle.m3_bit_set.proofs.WordBits.{has_set}
use Rattle.m3_bit_set.proofs.bit_set.with_bit.Goals as goal

pub returns : goal.returns
returns c i = has_set c.args.word c.args.k i c.requires
