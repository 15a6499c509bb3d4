-- What a recorder is told, and what it adds.
use Rattle.std.specs.Prelude.{Bool, true, false, List, [], ◌∷◌, ◌++◌, Option, Some, None}
use Rattle.m3_base.specs.declared.event.Event.{Event}
use Rattle.m3_base.specs.declared.event.Entry.{Entry}
use Rattle.m3_base.specs.declared.event.Outcome.{Outcome}
use Rattle.m3_trace.specs.JournalEntry.{entry}

abbrev pub is_file : Event → Bool
is_file (Event.File line) = true
is_file event = false

-- the entries with that of the pending event
abbrev pub entries_with : List Entry → Option Event → Outcome → List Entry
entries_with entries None o = entries
entries_with entries (Some e) o = entries ++ entry e o ∷ []
