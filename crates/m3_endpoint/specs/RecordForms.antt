-- The form that a record was made of.
use Rattle.std.specs.Prelude.{IsTrue}
use Rattle.m3_base.specs.declared.packet.Fresh.{Fresh}
use Rattle.m3_base.specs.Ideal.Context.{SendRecord, ReceiveRecord, MemoryRecord}
use Rattle.m3_base.specs.Ideal.Acceptance.{is_form}

abbrev pub IsSendForm : Fresh → Type 0
IsSendForm (Fresh.Send grant to to_ep to_grant label size limit) =
    IsTrue (is_form (Fresh.Send grant to to_ep to_grant label size limit))
IsSendForm (Fresh.Receive grant slots size) = ⊥
IsSendForm (Fresh.Memory grant start length perm) = ⊥

abbrev pub IsMemoryForm : Fresh → Type 0
IsMemoryForm (Fresh.Send grant to to_ep to_grant label size limit) = ⊥
IsMemoryForm (Fresh.Receive grant slots size) = ⊥
IsMemoryForm (Fresh.Memory grant start length perm) = IsTrue (is_form (Fresh.Memory grant start length perm))

abbrev pub send_form : SendRecord → Fresh
send_form r = Fresh.Send r.grant r.to r.to_ep r.to_grant r.label r.size r.limit

abbrev pub receive_form : ReceiveRecord → Fresh
receive_form r = Fresh.Receive r.grant r.slots r.size

abbrev pub memory_form : MemoryRecord → Fresh
memory_form r = Fresh.Memory r.grant r.start r.length r.perm
