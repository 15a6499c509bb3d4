use Rattle.std.proofs.Common.{◌≡◌, ◌/◌, ◌%◌, ◌<◌, true, arith}
use Rattle.std.proofs.lemmas.Bool.Decides.{nat_tests}
use Rattle.m3_bit_set.specs.BitSet.{has_bit}
use Rattle.m3_bit_set.proofs.WordBits.{filled_insert}
use Rattle.m3_bit_set.proofs.bit_set.BitSet.insert.Goals as goal

pub invariant_of-self : goal.invariant_of-self
invariant_of-self c =
    let within : c.args.at / 64 < 64 = omega (arith, c.requires) in
    let bit : has_bit c.with_bit.result (c.args.at % 64) ≡ true = grind (arith, nat_tests, c.with_bit.ensures (c.args.at % 64)) in
    filled_insert c.self.inside.words.items c.self.inside.filled (c.args.at / 64) (c.args.at % 64) c.with_bit.result c.with_bit-self-inside.result c.self.invariant within bit c.with_bit-self-inside.ensures
