-- What the words `auto` answer to bytes, and what the words `load N` answer.
use Rattle.std.specs.Prelude.{◌≡◌, ◌⊎◌, ℕ, Bool, true, false, List, [], ◌++◌, map, Ok}
use Rattle.m3_base.specs.declared.event.Event.{Event}
use Rattle.m3_base.specs.declared.event.Entry.{Entry}
use Rattle.m3_base.specs.declared.order.Order.{Order}
use Rattle.m3_base.specs.DriverRun.Choices.{IsDriven, IsQuiet}
use Rattle.m3_base.specs.DriverRun.Configuration.{Configuration, closing_lines, initial_configuration, last_configuration}
use Rattle.m3_base.specs.Load.Setup.{load_setup}
use Rattle.m3_base.specs.Load.Summary.{summary_lines}
use Rattle.m3_base.specs.Placement.State.{Placement}
use Rattle.m3_base.specs.Setup.Rules.{SetupValue}
use Rattle.m3_load.specs.SummaryLines.{summary_line}
use Rattle.m3_script.specs.declared.script.Mode.{Mode}
use Rattle.m3_script.specs.ScriptText.{script_of}
use Rattle.m3_journal.specs.JournalText.{audit_line}
use Rattle.m3_text.specs.Printing.{text_of_lines}
use Rattle.m3_cmd.specs.MachineRuns.{IsRunOf}
use Rattle.m3_cmd.specs.OutputText.{output_text}
use Rattle.m3_cmd.specs.RunContract.{IsBadScript}
use Rattle.m3_cmd.specs.declared.words.Format.{Format}

-- ---- the driver's runs

-- the driver has nothing more to do, or it has
abbrev pub EndsQuiet : Bool → Configuration → Type 0
EndsQuiet true c = IsQuiet c
EndsQuiet false c = IsQuiet c → ⊥

-- the event of each entry is the driver's choice from the setup and the orders, up to where it has nothing more to do or
-- there are as many entries as the budget; it ends quiet or not; and the entries are what a machine of the setup does
pub record IsDrivenRun (setup : SetupValue) (orders : List Order) (quiet : Bool) (entries : List Entry) : Type 0 where
  pub driven : IsDriven setup orders entries
  pub ends : EndsQuiet quiet (last_configuration (initial_configuration setup orders) entries)
  pub last : Placement
  pub runs : IsRunOf setup entries last

-- ---- auto

-- the text is that of a journal of this setup, whose entries the driver made; the lines that close it are those of what
-- they reach
pub record IsDrivenTextOf (format : Format) (setup : SetupValue) (orders : List Order) (quiet : Bool) (text : List ℕ) : Type 0 where
  pub entries : List Entry
  pub run : IsDrivenRun setup orders quiet entries
  pub is_text : text ≡ output_text format setup entries (closing_lines setup orders entries)

-- the text is that of a journal of the script's setup and orders
pub record IsDrivenJournalOf (format : Format) (quiet : Bool) (bytes text : List ℕ) : Type 0 where
  pub setup : SetupValue
  pub orders : List Order
  pub spelled : script_of Mode.Auto 0 bytes ≡ Ok (record { setup = setup; events = map Event.Order orders })
  pub is_text : IsDrivenTextOf format setup orders quiet text

-- with 0 and 6 the journal of the script that the bytes are, which ends quiet with 0, and with 6 at as many entries as
-- its budget; with 2 the first bad line of bytes that are none
abbrev pub IsAutoAnswer : Format → List ℕ → ℕ → List ℕ → Type 0
IsAutoAnswer format bytes status text =
    ((status ≡ 0) × IsDrivenJournalOf format true bytes text)
    ⊎ (((status ≡ 6) × IsDrivenJournalOf format false bytes text)
    ⊎ ((status ≡ 2) × IsBadScript Mode.Auto bytes text))

-- ---- load

-- the text is the summary of the journal that the driver makes of the load, and its audit
pub record IsLoadTextOf (rounds : ℕ) (quiet : Bool) (text : List ℕ) : Type 0 where
  pub entries : List Entry
  pub run : IsDrivenRun (load_setup rounds) [] quiet entries
  pub is_text : text
      ≡ text_of_lines (map summary_line (summary_lines rounds entries))
      ++ text_of_lines (map audit_line (closing_lines (load_setup rounds) [] entries))

-- the summary; its journal ends quiet with 0, and with 6 at as many entries as its budget
abbrev pub IsLoadAnswer : ℕ → ℕ → List ℕ → Type 0
IsLoadAnswer rounds status text =
    ((status ≡ 0) × IsLoadTextOf rounds true text) ⊎ ((status ≡ 6) × IsLoadTextOf rounds false text)

abbrev pub status_of : Bool → ℕ
status_of true = 0
status_of false = 6
