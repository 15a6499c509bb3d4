use Rattle.m3_text.proofs.HexDigits.{more_blocks}
use Rattle.m3_text.proofs.printing.put_digits.Goals as goal

pub chunks-preserved : goal.chunks-preserved
chunks-preserved c =
    let cut = rw c.in-Some.is at c.split_first_chunk.ensures.cases in
    more_blocks _ _ _ _ _ _ _ 16 c.chunks.invariant c.in_ok-put_block.ensures cut.0 cut.1
