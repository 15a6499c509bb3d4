use Rattle.std.proofs.Common.{w64}
use Rattle.std.proofs.lemmas.Nat.Bits.{bit_at-trailing_zeros}
use Rattle.m3_bit_set.proofs.WordBits.{is_set, is_clear}
use Rattle.m3_bit_set.proofs.bit_set.lowest.Goals as goal

pub returns-clause-set : goal.returns-clause-set
returns-clause-set c = is_set c.args.word _ (bit_at-trailing_zeros w64 c.args.word c.requires c.ranges.word.fits).1

pub returns-clause-least : goal.returns-clause-least
returns-clause-least c i h = is_clear c.args.word i ((bit_at-trailing_zeros w64 c.args.word c.requires c.ranges.word.fits).2 i h)
