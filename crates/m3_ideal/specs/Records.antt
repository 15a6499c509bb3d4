-- The records that endpoints have, and what calls on them leave.
use Rattle.m3_base.specs.Ideal.Context.{SendRecord, MemoryRecord}
use Rattle.m3_ideal.specs.declared.records.SendEnd.{SendEnd}
use Rattle.m3_ideal.specs.declared.records.MemoryEnd.{MemoryEnd}

abbrev pub send_record : SendEnd → SendRecord
send_record r =
    record {
      grant = r.grant;
      to = r.to;
      to_ep = r.to_ep;
      to_grant = r.to_grant;
      label = r.label;
      size = r.size;
      limit = r.limit;
      held = r.held;
      closing = r.closing;
    }

abbrev pub memory_record : MemoryEnd → MemoryRecord
memory_record r = record { grant = r.grant; start = r.start; length = r.length; perm = r.perm; closing = r.closing }
