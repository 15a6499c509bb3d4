-- What a fetched message is to a reader.
use Rattle.m3_base.specs.Ideal.Context.{Fetched}
use Rattle.m3_ideal.specs.declared.fetched.Fetched.TheInside.{Inside}

abbrev pub fetched_message : Inside → Fetched
fetched_message f = record { token = f.token; marked = f.marked; message = f.letter }
