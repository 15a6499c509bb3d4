-- What a flying command is to a reader.
use Rattle.m3_base.specs.Ideal.Context.{Flying, Kind as Meaning, Sending, Replying, Reading, Writing}
use Rattle.m3_ideal.specs.declared.flying.Kind.{Kind}
use Rattle.m3_ideal.specs.declared.flying.Flying.TheInside.{Inside}

abbrev pub kind_of : Kind → Meaning
kind_of Kind.Send = Sending
kind_of Kind.Reply = Replying
kind_of Kind.Read = Reading
kind_of Kind.Write = Writing

abbrev pub flying_command : Inside → Flying
flying_command f = record { number = f.number; kind = kind_of f.kind; ep = f.ep; token = f.token }
