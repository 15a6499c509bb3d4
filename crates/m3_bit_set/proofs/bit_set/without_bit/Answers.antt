use Rattle.std.proofs.lemmas.Nat.{and_le_l}
use Rattle.m3_bit_set.proofs.WordBits.{has_cleared}
use Rattle.m3_bit_set.proofs.bit_set.without_bit.Goals as goal

pub returns : goal.returns
returns c = record { bits = λ i h. has_cleared c.args.word c.args.k i c.requires h; less = and_le_l c.args.word _ }
