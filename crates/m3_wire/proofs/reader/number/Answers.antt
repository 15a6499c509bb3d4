use Rattle.std.proofs.Common.{arith}
use Rattle.m3_wire.proofs.NumberByteLoop.{reads_fast}
use Rattle.m3_wire.proofs.reader.number.Goals as goal

pub returns-then-whole-high-clause-value : goal.returns-then-whole-high-clause-value
returns-then-whole-high-clause-value c =
    reads_fast c.args.width c.args.low c.args.high c.args.bytes.now c.read_uint-whole.result c.requires.low c.requires.high c.if-width-bytes.true (λ i. omega (arith, c.type_inv.bytes i)) c.read_uint-whole.ensures c.if-low-whole.true c.if-whole-high.true
