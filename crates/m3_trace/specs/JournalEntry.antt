-- An entry of a journal: what was done, and what it came to.
use Rattle.m3_base.specs.declared.event.Event.{Event}
use Rattle.m3_base.specs.declared.event.Outcome.{Outcome}
use Rattle.m3_base.specs.declared.event.Entry.{Entry}

abbrev pub entry : Event → Outcome → Entry
entry e o = record { event = e; outcome = o }
