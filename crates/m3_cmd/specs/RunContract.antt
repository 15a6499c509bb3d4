-- What the words `run` answer to bytes.
use Rattle.std.specs.Prelude.{◌≡◌, ◌⊎◌, ℕ, List, [], map, Ok, Err}
use Rattle.m3_base.specs.declared.event.Event.{Event}
use Rattle.m3_base.specs.declared.event.Entry.{Entry}
use Rattle.m3_base.specs.Journal.Audit.{audit_lines}
use Rattle.m3_base.specs.Journal.Entry.{state_after_entries}
use Rattle.m3_base.specs.Placement.State.{Placement}
use Rattle.m3_base.specs.Setup.Rules.{SetupValue}
use Rattle.m3_script.specs.declared.script.Mode.{Mode}
use Rattle.m3_script.specs.ScriptText.{Refused, ScriptValue, script_of}
use Rattle.m3_cmd.specs.BadLines.{bad_line}
use Rattle.m3_cmd.specs.ListMachines.{event_of}
use Rattle.m3_cmd.specs.MachineRuns.{IsRunOf, start}
use Rattle.m3_cmd.specs.OutputText.{output_text}
use Rattle.m3_cmd.specs.declared.words.Format.{Format}

-- ---- scripts

-- the reader refuses the bytes
pub record IsNoScript (mode : Mode) (bytes : List ℕ) : Type 0 where
  pub refused : Refused
  pub refuses : script_of mode 0 bytes ≡ Err refused

-- the bytes are a script
pub record IsScript (mode : Mode) (bytes : List ℕ) : Type 0 where
  pub script : ScriptValue
  pub spelled : script_of mode 0 bytes ≡ Ok script

-- the text names the first bad line of bytes that are no script
pub record IsBadScript (mode : Mode) (bytes text : List ℕ) : Type 0 where
  pub refused : Refused
  pub refuses : script_of mode 0 bytes ≡ Err refused
  pub is_text : text ≡ bad_line refused

-- ---- journals

-- the text is that of a journal of this setup: its entries have these events in their order and are what a machine of
-- the setup does, and the lines that close it are those of the state and the placement that they reach
pub record IsTextOf (format : Format) (setup : SetupValue) (events : List Event) (text : List ℕ) : Type 0 where
  pub entries : List Entry
  pub last : Placement
  pub follows : map event_of entries ≡ events
  pub runs : IsRunOf setup entries last
  pub is_text : text
      ≡ output_text format setup entries (audit_lines setup.tiles (state_after_entries (start setup) entries) last [])

-- the text is that of a journal of the script's setup and events
pub record IsJournalOf (format : Format) (bytes text : List ℕ) : Type 0 where
  pub setup : SetupValue
  pub events : List Event
  pub spelled : script_of Mode.Run 0 bytes ≡ Ok (record { setup = setup; events = events })
  pub is_text : IsTextOf format setup events text

-- with 0 the journal of the script that the bytes are, with 2 the first bad line of bytes that are none
abbrev pub IsRunAnswer : Format → List ℕ → ℕ → List ℕ → Type 0
IsRunAnswer format bytes status text =
    ((status ≡ 0) × IsJournalOf format bytes text) ⊎ ((status ≡ 2) × IsBadScript Mode.Run bytes text)
