-- The words of events. Those of a turn have its move in them.
use Rattle.std.specs.Prelude.{ℕ, List, [], ◌∷◌, codes, decimal, Option, Some, None}
use Rattle.m3_base.specs.declared.event.Event.{Event}
use Rattle.m3_base.specs.declared.event.Made.{Made}
use Rattle.m3_journal.specs.Commands.{command_words}
use Rattle.m3_journal.specs.Orders.{order_words, file_words}

abbrev pub move_words : Option Made → List (List ℕ)
move_words None = []
move_words (Some (Made.Command c)) = command_words c
move_words (Some (Made.Await ep)) = codes "await" ∷ decimal ep ∷ []
move_words (Some Made.Quantum) = codes "quantum" ∷ []
move_words (Some Made.End) = codes "end" ∷ []

abbrev pub event_words : Event → Option Made → List (List ℕ)
event_words (Event.Do act command) made = codes "do" ∷ decimal act ∷ command_words command
event_words (Event.Turn act) made = codes "turn" ∷ decimal act ∷ move_words made
event_words (Event.Take to from) made = codes "take" ∷ decimal to ∷ decimal from ∷ []
event_words (Event.Tend act) made = codes "tend" ∷ decimal act ∷ []
event_words Event.Close made = codes "close" ∷ []
event_words (Event.Order order) made = order_words order
event_words (Event.File line) made = file_words line
