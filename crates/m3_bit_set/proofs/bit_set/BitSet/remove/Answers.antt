use Rattle.std.proofs.Common.{◌≡◌, ◌∙◌, ◌/◌, ◌<◌, ◌≤◌, get_or, arith}
use Rattle.std.proofs.lemmas.Grind.{get_or_default_zero}
use Rattle.m3_bit_set.proofs.WordBits.{filled_left}
use Rattle.m3_bit_set.proofs.bit_set.BitSet.remove.Goals as goal

pub invariant_of-self-else-left-eq0 : goal.invariant_of-self-else-left-eq0
invariant_of-self-else-left-eq0 c =
    let words = c.self.inside.words.items in
    let within : c.args.at / 64 < 64 = omega (arith, c.requires) in
    let some : 0 < c.without_bit-left.result = omega (arith, c.if-left-eq0.false) in
    let was : c.index.result.now ≡ get_or words (c.args.at / 64) 0 = c.index.ensures ∙ get_or_default_zero words (c.args.at / 64) c.index.result.now (omega (arith, c.self.invariant.room, within)) in
    let less : c.without_bit-left.result ≤ get_or words (c.args.at / 64) 0 = omega (arith, c.without_bit-left.ensures.less, was) in
    filled_left words c.self.inside.filled (c.args.at / 64) c.without_bit-left.result c.self.invariant within some less
