use Rattle.std.proofs.Common.{sym}
use Rattle.m3_wire.proofs.Concat.{behind4}
use Rattle.m3_wire.proofs.encode.put_read.Goals as goal

pub returns : goal.returns
returns c = rw (sym c.len.ensures) (behind4 _ _ _ _ _ _ _ _ _ _ c.in_ok-put_u8.ensures c.in_ok-put_id.ensures c.in_ok-put_place.ensures c.put_u16.ensures)
