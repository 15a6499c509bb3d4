-- Which outcomes belong to which event, by their forms alone.
use Rattle.std.specs.Prelude.{ℕ, Bool, true, false, ◌&&◌, Option, Some, None}
use Rattle.m3_base.specs.declared.command.Command.{Command}
use Rattle.m3_base.specs.declared.event.Event.{Event}
use Rattle.m3_base.specs.declared.order.Order.{Order}
use Rattle.m3_base.specs.declared.event.Made.{Made}
use Rattle.m3_base.specs.declared.event.Said.{Said}
use Rattle.m3_base.specs.declared.event.No.{No}
use Rattle.m3_base.specs.declared.event.IdleWhy.{IdleWhy}
use Rattle.m3_base.specs.declared.event.Outcome.{Outcome}

abbrev pub allows_for_command : Command → Said → Bool
allows_for_command c (Said.Flying id) = true
allows_for_command c (Said.Refused why) = true
allows_for_command (Command.Fetch ep) (Said.Message token from label payload) = true
allows_for_command (Command.Fetch ep) (Said.ReplyMessage token from label payload) = true
allows_for_command (Command.Fetch ep) Said.Nothing = true
allows_for_command (Command.Acknowledge ep token) (Said.Acknowledged credit) = true
allows_for_command c said = false

abbrev pub allows_for_do : Command → Said → Bool
allows_for_do c (Said.Idle IdleWhy.NotCurrent) = true
allows_for_do c (Said.Idle IdleWhy.Busy) = true
allows_for_do c said = allows_for_command c said

-- a turn's move stands in its entry exactly where the turn isn't idle
abbrev pub allows_for_turn : Option Made → Said → Bool
allows_for_turn None (Said.Idle IdleWhy.NotCurrent) = true
allows_for_turn None (Said.Idle IdleWhy.Ended) = true
allows_for_turn None (Said.Idle IdleWhy.Busy) = true
allows_for_turn None (Said.Idle IdleWhy.Waiting) = true
allows_for_turn None said = false
allows_for_turn (Some (Made.Command c)) said = allows_for_command c said
allows_for_turn (Some (Made.Await ep)) Said.Awake = true
allows_for_turn (Some (Made.Await ep)) Said.Yield = true
allows_for_turn (Some (Made.Await ep)) Said.Asleep = true
allows_for_turn (Some Made.Quantum) Said.Yield = true
allows_for_turn (Some Made.End) Said.Ended = true
allows_for_turn made said = false

abbrev pub is_landing_outcome : Said → Bool
is_landing_outcome (Said.Landed id) = true
is_landing_outcome (Said.LandRefused id why) = true
is_landing_outcome (Said.Answered id answer closed) = true
is_landing_outcome (Said.Credited id g) = true
is_landing_outcome (Said.Discarded id g) = true
is_landing_outcome (Said.Installed id g) = true
is_landing_outcome (Said.Closing id g) = true
is_landing_outcome (Said.Closed id g) = true
is_landing_outcome said = false

abbrev pub allows_for_take : Said → Bool
allows_for_take (Said.Idle IdleWhy.EmptyLink) = true
allows_for_take (Said.Bounced id) = true
allows_for_take (Said.Routed id) = true
allows_for_take (Said.Held id a) = true
allows_for_take (Said.Saving a) = true
allows_for_take (Said.Saved a) = true
allows_for_take (Said.Current a) = true
allows_for_take (Said.Yielded a) = true
allows_for_take (Said.Done g revoked) = true
allows_for_take said = is_landing_outcome said

abbrev pub allows_for_tend : Said → Bool
allows_for_tend (Said.Idle IdleWhy.NotResting) = true
allows_for_tend (Said.Idle IdleWhy.EmptyHold) = true
allows_for_tend said = is_landing_outcome said

abbrev pub allows_for_close : Said → Bool
allows_for_close (Said.Idle IdleWhy.NothingToClose) = true
allows_for_close (Said.CloseSent g id held) = true
allows_for_close said = false

-- the refusals of a grant or a revoke
abbrev pub allows_for_grant : No → Bool
allows_for_grant No.NoGrant = true
allows_for_grant No.Closing = true
allows_for_grant No.SlotTaken = true
allows_for_grant No.OutsideParent = true
allows_for_grant No.MorePermission = true
allows_for_grant No.TooMany = true
allows_for_grant why = false

abbrev pub allows_for_switch : No → Bool
allows_for_switch No.NotHome = true
allows_for_switch No.Already = true
allows_for_switch No.Leaving = true
allows_for_switch why = false

abbrev pub allows_for_order : Order → Said → Bool
allows_for_order (Order.Switch t a) (Said.Save b) = true
allows_for_order (Order.Switch t a) (Said.No why) = allows_for_switch why
allows_for_order (Order.Grant line) (Said.Granted g id held) = true
allows_for_order (Order.Grant line) (Said.No why) = allows_for_grant why
allows_for_order (Order.Revoke g) (Said.Revoking h) = true
allows_for_order (Order.Revoke g) (Said.No why) = allows_for_grant why
allows_for_order order said = false

-- what the files answer
abbrev pub is_file_outcome : No → Bool
is_file_outcome No.BadName = true
is_file_outcome No.NoFile = true
is_file_outcome No.Exists = true
is_file_outcome No.InUse = true
is_file_outcome No.NoSpace = true
is_file_outcome why = false

-- any outcome of a line on files
abbrev pub allows_for_file : Said → Bool
allows_for_file Said.Created = true
allows_for_file Said.Extended = true
allows_for_file Said.Removed = true
allows_for_file Said.Nothing = true
allows_for_file (Said.Part of at len) = true
allows_for_file Said.Revoke = true
allows_for_file (Said.No why) = is_file_outcome why
allows_for_file said = false

-- only a turn makes a move
abbrev pub allows_for_event : Event → Said → Bool
allows_for_event (Event.Do a c) said = allows_for_do c said
allows_for_event (Event.Turn a) said = false
allows_for_event (Event.Take to from) said = allows_for_take said
allows_for_event (Event.Tend a) said = allows_for_tend said
allows_for_event Event.Close said = allows_for_close said
allows_for_event (Event.Order order) said = allows_for_order order said
allows_for_event (Event.File line) said = allows_for_file said

abbrev pub allows_outcome : Event → Option Made → Said → Bool
allows_outcome (Event.Turn a) made said = allows_for_turn made said
allows_outcome e None said = allows_for_event e said
allows_outcome e (Some made) said = false

-- a restore stands with a tend that landed something, and with the take of Saved
abbrev pub may_restore : Event → Said → Option ℕ → Bool
may_restore e said None = true
may_restore (Event.Tend a) said (Some b) = is_landing_outcome said
may_restore (Event.Take to from) (Said.Saved a) (Some b) = true
may_restore e said (Some b) = false

abbrev pub is_allowed_outcome : Event → Outcome → Bool
is_allowed_outcome e o = allows_outcome e o.made o.said && may_restore e o.said o.restore
