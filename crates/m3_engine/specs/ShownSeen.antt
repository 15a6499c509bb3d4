-- What a program is shown of what it is to hear.
use Rattle.std.specs.Prelude.{Option, Some, None}
use Rattle.m3_base.specs.declared.program.Seen.{Seen as ProgramSeen}
use Rattle.m3_model.specs.Tile.State.{First, Awake, Got, Waits, Seen}

-- none while its last command flies
abbrev pub shown_seen : Seen → Option ProgramSeen
shown_seen First = Some ProgramSeen.First
shown_seen Awake = Some ProgramSeen.Awake
shown_seen (Got r) = Some (ProgramSeen.Answer r)
shown_seen (Waits n) = None
