use Rattle.std.proofs.Common.{arith}
use Rattle.m3_wire.proofs.NumberByteLoop.{begins, scale_small, ends_short, ends_bad, more, in_range}
use Rattle.m3_wire.proofs.reader.number_bytewise.Goals as goal

pub loop-i-init : goal.loop-i-init
loop-i-init c = begins c.args.width c.args.low c.args.high c.args.bytes.now c.requires.low c.requires.order

pub returns-then-i-bytes-clause-value : goal.returns-then-i-bytes-clause-value
returns-then-i-bytes-clause-value c = ends_short c.args.width c.args.low c.args.high c.args.bytes.now c.loop-i.value c.loop-i.scale c.loop-i.i c.loop-i-test.true c.if-i-bytes.true c.loop-i.invariant

pub overflow_mul-scale : goal.overflow_mul-scale
overflow_mul-scale c = omega (arith, scale_small c.loop-i.i c.args.width c.loop-i-test.true c.requires.width, c.loop-i.invariant.scale_is)

pub next_byte_ok-requires : goal.next_byte_ok-requires
next_byte_ok-requires c = omega (arith, scale_small c.loop-i.i c.args.width c.loop-i-test.true c.requires.width, c.loop-i.invariant.scale_is, c.with_byte-value.ensures.below)

pub returns-then-not-next_byte_ok-clause-value : goal.returns-then-not-next_byte_ok-clause-value
returns-then-not-next_byte_ok-clause-value c =
    ends_bad c.args.width c.args.low c.args.high c.args.bytes.now c.loop-i.value c.loop-i.scale c.loop-i.i c.loop-i-test.true c.if-i-bytes.false c.loop-i.invariant (rw (← c.with_byte-value.ensures.value, ← c.next_byte_ok.ensures) c.if-not-next_byte_ok.true)

pub loop-i-preserved : goal.loop-i-preserved
loop-i-preserved c = rw c.with_byte-value.ensures.value (more c.args.width c.args.low c.args.high c.args.bytes.now c.loop-i.value c.loop-i.scale c.loop-i.i c.loop-i-test.true c.if-i-bytes.false c.loop-i.invariant (omega (arith, c.with_byte-value.ensures.below, c.with_byte-value.ensures.value)) (rw (← c.with_byte-value.ensures.value, ← c.next_byte_ok.ensures) c.if-not-next_byte_ok.false))

pub returns-clause-range : goal.returns-clause-range
returns-clause-range c = (
  in_range c.args.width c.args.low c.args.high c.args.bytes.now c.loop-i.value c.loop-i.scale c.loop-i.i c.loop-i-test.false c.loop-i.auto.i-end c.requires.high c.loop-i.invariant,
  c.loop-i.invariant.fits,
  omega (arith, c.loop-i.invariant.inside, c.loop-i-test.false),
)
