use Rattle.m3_wire.proofs.Concat.{behind4}
use Rattle.m3_wire.proofs.encode.put_send.Goals as goal

pub returns : goal.returns
returns c = behind4 _ _ _ _ _ _ _ _ _ _ c.in_ok-put_u8.ensures c.in_ok-put_grant.ensures c.in_ok-put_receiver.ensures c.put_terms.ensures
