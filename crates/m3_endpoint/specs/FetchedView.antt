-- What a fetched message is to a reader.
use Rattle.m3_base.specs.Ideal.Context.{Fetched}
use Rattle.m3_endpoint.specs.declared.fetched.FetchedMessage.TheInside.{Inside}

abbrev pub fetched_message : Inside → Fetched
fetched_message f = record { token = f.token; marked = f.marked; message = f.message }
