use Rattle.std.proofs.Common.{string_bytes}
use Rattle.m3_text.proofs.HexDigits.{more_bytes, all_bytes}
use Rattle.m3_text.proofs.printing.put_bytes.Goals as goal

pub loop-byte-preserved : goal.loop-byte-preserved
loop-byte-preserved c =
    rw c.in_ok-put_byte.ensures (more_bytes (string_bytes c.args.out.now) (string_bytes c.loop-byte.out) c.args.bytes.now c.loop-byte.byte-index c.loop-byte-test.true c.loop-byte.invariant)

pub returns : goal.returns
returns c = all_bytes (string_bytes c.args.out.now) (string_bytes c.loop-byte.out) c.args.bytes.now c.loop-byte.byte-index c.loop-byte-test.false c.loop-byte.invariant
