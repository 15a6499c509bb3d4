-- What a flight carries.
use Rattle.std.specs.Prelude.{ℕ, List, [], length, Option, Some, None}
use Rattle.m3_base.specs.declared.command.Answer.{Answer}
use Rattle.m3_base.specs.declared.message.Message.{Message}
use Rattle.m3_base.specs.declared.packet.Packet.{Packet}
use Rattle.m3_ideal.specs.declared.flight.Landing.{Landing}

-- where it lands, and with what
abbrev pub landing_of : Packet → Landing
landing_of (Packet.Message to ep g m) = Landing.Letter to ep g
landing_of (Packet.Credit id to g) = Landing.Credit to g
landing_of (Packet.Read id g place buffer) = Landing.Read place (length buffer)
landing_of (Packet.Write id g place payload) = Landing.Write place
landing_of (Packet.Answer id answer) = Landing.Answer
landing_of (Packet.Install id to ep f) = Landing.Install to ep f
landing_of (Packet.Close id to ep g) = Landing.Close to ep g

abbrev pub letter_in : Packet → Option Message
letter_in (Packet.Message to ep g m) = Some m
letter_in p = None

abbrev pub bytes_in : Packet → List ℕ
bytes_in (Packet.Write id g place payload) = payload
bytes_in p = []

abbrev pub answer_in : Packet → Option Answer
answer_in (Packet.Answer id answer) = Some answer
answer_in p = None

-- ---- of a flight that may not be there

abbrev pub landing_at : Option Packet → Option Landing
landing_at None = None
landing_at (Some p) = Some (landing_of p)

abbrev pub letter_at : Option Packet → Option Message
letter_at None = None
letter_at (Some p) = letter_in p

abbrev pub answer_at : Option Packet → Option Answer
answer_at None = None
answer_at (Some p) = answer_in p
