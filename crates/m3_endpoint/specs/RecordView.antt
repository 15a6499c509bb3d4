-- What the record of an endpoint is to a reader.
use Rattle.std.specs.Prelude.{Option, Some, None}
use Rattle.m3_base.specs.Ideal.Context.{ReceiveRecord, Endpoint, Free, Sends, Receives, Reaches}
use Rattle.m3_endpoint.specs.declared.endpoint.Record.{Record}

abbrev pub receive_endpoint : Option ReceiveRecord → Endpoint
receive_endpoint None = Free
receive_endpoint (Some r) = Receives r

abbrev pub endpoint_of : Record → Endpoint
endpoint_of Record.Free = Free
endpoint_of (Record.Send r) = Sends r
endpoint_of (Record.Receive r) = receive_endpoint r
endpoint_of (Record.Memory r) = Reaches r
