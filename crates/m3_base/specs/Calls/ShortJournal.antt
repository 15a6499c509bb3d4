-- A short journal, for worked runs: an activity sends one byte to another on its tile; both have
-- list programs, and the driver chooses.
use Rattle.std.specs.Prelude.{ℕ, List, [], ◌∷◌, ◌++◌, Some, None}
use Rattle.m3_base.specs.declared.command.Command.{Command}
use Rattle.m3_base.specs.declared.command.Answer.{Answer}
use Rattle.m3_base.specs.declared.order.GrantLine.{GrantLine}
use Rattle.m3_base.specs.declared.order.Order.{Order}
use Rattle.m3_base.specs.declared.setup_line.SetupLine.{SetupLine}
use Rattle.m3_base.specs.declared.event.Event.{Event}
use Rattle.m3_base.specs.declared.event.Made.{Made}
use Rattle.m3_base.specs.declared.event.Said.{Said}
use Rattle.m3_base.specs.declared.event.Entry.{Entry}
use Rattle.m3_base.specs.Setup.Rules.{SetupValue}
use Rattle.m3_base.specs.Examples.Scripts.{entry_with}
use Rattle.m3_base.specs.Ideal.Flights.{flight_name}

abbrev pub one_byte : Command
one_byte = Command.Send 0 (42 ∷ []) None

-- two activities on one tile, and a send grant of the first to the second
abbrev pub short_lines : List SetupLine
short_lines =
    SetupLine.Act 0 2
    ∷ SetupLine.Act 1 2
    ∷ SetupLine.Grant (GrantLine.Recv 1 0 1 4)
    ∷ SetupLine.Grant (GrantLine.Send 0 0 1 5 1)
    ∷ []

abbrev pub short_setup : SetupValue
short_setup =
    record {
      tiles = 3;
      memory = 64;
      lines =
          short_lines
          ++ SetupLine.Item 0 one_byte
          ∷ SetupLine.AwaitItem 1 0
          ∷ SetupLine.Item 1 (Command.Fetch 0)
          ∷ [];
    }

-- the message bounces, since its receiver is away; once the sender has ended, the receiver comes to
-- its turn
abbrev pub short_journal : List Entry
short_journal =
    entry_with (Event.Turn 0) (Some (Made.Command one_byte)) (Said.Flying (flight_name 0 1)) None
    ∷ entry_with (Event.Take 2 2) None (Said.Bounced (flight_name 0 1)) None
    ∷ entry_with (Event.Take 0 2) None (Said.Held (flight_name 0 1) 1) None
    ∷ entry_with (Event.Tend 1) None (Said.Landed (flight_name 0 1)) None
    ∷ entry_with (Event.Take 2 0) None (Said.Answered (flight_name 0 1) Answer.Sent None) None
    ∷ entry_with (Event.Turn 0) (Some Made.End) Said.Ended None
    ∷ entry_with (Event.Take 0 2) None (Said.Yielded 0) None
    ∷ entry_with (Event.Order (Order.Switch 2 1)) None (Said.Save 0) None
    ∷ entry_with (Event.Take 2 0) None (Said.Saving 0) None
    ∷ entry_with (Event.Take 0 2) None (Said.Saved 0) (Some 1)
    ∷ entry_with (Event.Take 2 0) None (Said.Current 1) None
    ∷ entry_with (Event.Turn 1) (Some (Made.Await 0)) Said.Awake None
    ∷ entry_with (Event.Turn 1) (Some (Made.Command (Command.Fetch 0)))
    (Said.Message 0 0 5 (42 ∷ [])) None
    ∷ entry_with (Event.Turn 1) (Some Made.End) Said.Ended None
    ∷ entry_with (Event.Take 0 2) None (Said.Yielded 1) None
    ∷ []
