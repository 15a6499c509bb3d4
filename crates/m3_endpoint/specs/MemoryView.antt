-- What a memory record is to a reader, and what it keeps.
use Rattle.std.specs.Prelude.{IsTrue}
use Rattle.m3_base.specs.Ideal.Context.{MemoryRecord}
use Rattle.m3_base.specs.Ideal.Acceptance.{is_form}
use Rattle.m3_endpoint.specs.declared.memory.MemEp.TheInside.{Inside}
use Rattle.m3_endpoint.specs.RecordForms.{memory_form}

abbrev pub memory_record : Inside → MemoryRecord
memory_record s = record { grant = s.grant; start = s.start; length = s.length; perm = s.perm; closing = s.closing }

abbrev pub IsKept : Inside → Type 0
IsKept s = IsTrue (is_form (memory_form (memory_record s)))
