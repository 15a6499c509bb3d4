-- A recorder whose journal is in memory, as contracts see it.
use Rattle.std.specs.Prelude.{◌≡◌, ◌<◌, true, List, vec_len, vec_capacity, is_some, Option}
use Rattle.m3_base.specs.declared.event.Event.{Event}
use Rattle.m3_base.specs.declared.event.Entry.{Entry}
use Rattle.m3_base.specs.Setup.Rules.{SetupValue}
use Rattle.m3_machine.specs.declared.recorder.JournalRecorder.TheInside.{Inside}

pub record RecorderValue : Type 0 where
  pub setup : SetupValue
  pub entries : List Entry
  -- the event whose outcome isn't known yet
  pub pending : Option Event

abbrev pub recorder_value : Inside → RecorderValue
recorder_value k = record { setup = k.journal.setup; entries = k.journal.entries.items; pending = k.pending }

-- there is room for the entry of the pending event
abbrev pub HasRoomForPending : Inside → Type 0
HasRoomForPending k = is_some k.pending ≡ true → vec_len k.journal.entries < vec_capacity k.journal.entries
