-- What a slot is to a reader, and what it keeps: sound messages, and an unused receive record wherever it hasn't a used
-- one.
use Rattle.std.specs.Prelude.{◌≡◌, Option, Some, None}
use Rattle.m3_base.specs.Ideal.Context.{ReceiveRecord, Endpoint}
use Rattle.m3_endpoint.specs.declared.endpoint.Record.{Record}
use Rattle.m3_endpoint.specs.RecordView.{endpoint_of}
use Rattle.m3_core.specs.MessageInvariant.{IsSoundIn}
use Rattle.m3_core.specs.declared.slot.Slot.TheInside.{Inside}

abbrev pub slot_endpoint : Inside → Endpoint
slot_endpoint s = endpoint_of s.installed

abbrev pub IsSpare : Option (Option ReceiveRecord) → Type 0
IsSpare spare = spare ≡ Some None

abbrev pub IsKeptBy : Record → Option (Option ReceiveRecord) → Type 0
IsKeptBy Record.Free spare = IsSpare spare
IsKeptBy (Record.Send r) spare = IsSpare spare
IsKeptBy (Record.Receive r) spare = IsSoundIn r
IsKeptBy (Record.Memory r) spare = IsSpare spare

abbrev pub IsKept : Inside → Type 0
IsKept s = IsKeptBy s.installed s.preallocated
