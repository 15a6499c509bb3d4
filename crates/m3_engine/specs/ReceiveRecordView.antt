-- The messages of a receive record.
use Rattle.std.specs.Prelude.{List, [], Option, Some, None}
use Rattle.m3_base.specs.declared.message.Message.{Message}
use Rattle.m3_base.specs.Ideal.Context.{Fetched, ReceiveRecord}

abbrev pub unread_of : Option ReceiveRecord → List Message
unread_of None = []
unread_of (Some r) = r.unread

abbrev pub fetched_of : Option ReceiveRecord → List Fetched
fetched_of None = []
fetched_of (Some r) = r.fetched
