use Rattle.m3_wire.proofs.Concat.{behind3}
use Rattle.m3_wire.proofs.encode.put_memory.Goals as goal

pub returns : goal.returns
returns c = behind3 _ _ _ _ _ _ _ _ c.in_ok-put_u8.ensures c.in_ok-put_grant.ensures c.put_range.ensures
