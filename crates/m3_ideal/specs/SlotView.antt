-- What an endpoint is to a reader.
use Rattle.m3_base.specs.Ideal.Context.{Endpoint, Free, Sends, Receives, Reaches}
use Rattle.m3_ideal.specs.declared.slot.Record.{Record}
use Rattle.m3_ideal.specs.Records.{send_record, memory_record}

abbrev pub endpoint_of : Record → Endpoint
endpoint_of Record.Free = Free
endpoint_of (Record.Send r) = Sends (send_record r)
endpoint_of (Record.Receive r) = Receives r
endpoint_of (Record.Memory r) = Reaches (memory_record r)
