use Rattle.m3_wire.proofs.Concat.{behind2_same}
use Rattle.m3_wire.proofs.encode.put_message.Goals as goal

pub returns : goal.returns
returns c = behind2_same _ _ _ _ _ _ _ _ c.in_ok-put_bytes.ensures c.encode_header-header.ensures c.put_bytes-2.ensures c.bytes.ensures
