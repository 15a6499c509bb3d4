-- What the words and the source's bytes come to: a status, and the text that is written with it.
use Rattle.std.specs.Prelude.{◌≡◌, ◌⊎◌, ◌≤◌, ℕ, List, [], ◌∷◌, ◌++◌, length, Option, Some, None}
use Rattle.std.specs.declared.alloc.Global.{Global}
use Rattle.std.specs.declared.string.String.{String}
use Rattle.m3_base.specs.Io.Streams.{GivesMore, ReadsAll}
use Rattle.m3_ideal.specs.declared.verdict.Verdict.{Verdict}
use Rattle.m3_script.specs.declared.script.Mode.{Mode}
use Rattle.m3_cmd.specs.declared.words.Form.{Form}
use Rattle.m3_cmd.specs.declared.words.InputForm.{InputForm}
use Rattle.m3_cmd.specs.CheckContract.{IsCheckAnswer, IsJudged, IsNoJournal, verdict_status}
use Rattle.m3_cmd.specs.CommandLine.{Asks, IsNoForm, limit_of}
use Rattle.m3_cmd.specs.DriverContract.{IsAutoAnswer, IsLoadAnswer}
use Rattle.m3_cmd.specs.RunContract.{IsNoScript, IsRunAnswer, IsScript}
use Rattle.m3_cmd.specs.ShowContract.{AreNoPackets, ArePackets, IsShowAnswer}
use Rattle.m3_cmd.specs.Statuses.{usage_line, read_fault_line, too_long_line, IsOneOf}

-- ---- by the bytes

-- the status and the text that a form answers to bytes
abbrev pub IsAnswer : InputForm → List ℕ → ℕ → List ℕ → Type 0
IsAnswer (InputForm.Run format) bytes status text = IsRunAnswer format bytes status text
IsAnswer (InputForm.Auto format) bytes status text = IsAutoAnswer format bytes status text
IsAnswer InputForm.Check bytes status text = IsCheckAnswer bytes status text
IsAnswer InputForm.Show bytes status text = IsShowAnswer bytes status text

-- the statuses that are due to bytes, by what they are
abbrev pub AreDue : InputForm → List ℕ → List ℕ → Type 0
AreDue (InputForm.Run format) bytes statuses =
    ((statuses ≡ 0 ∷ []) × IsScript Mode.Run bytes) ⊎ ((statuses ≡ 2 ∷ []) × IsNoScript Mode.Run bytes)
AreDue (InputForm.Auto format) bytes statuses =
    ((statuses ≡ 0 ∷ 6 ∷ []) × IsScript Mode.Auto bytes) ⊎ ((statuses ≡ 2 ∷ []) × IsNoScript Mode.Auto bytes)
AreDue InputForm.Check bytes statuses =
    ((verdict : Verdict) × (statuses ≡ verdict_status verdict ∷ []) × IsJudged bytes verdict)
    ⊎ ((statuses ≡ 2 ∷ []) × IsNoJournal bytes)
AreDue InputForm.Show bytes statuses =
    ((statuses ≡ 0 ∷ []) × ArePackets bytes) ⊎ ((statuses ≡ 2 ∷ []) × AreNoPackets bytes)

-- bytes within the limit come to a status that is due to them, but for faults and out of memory
abbrev pub IsComplete : InputForm → List ℕ → ℕ → Type 0
IsComplete form bytes result =
    (statuses : List ℕ) → AreDue form bytes statuses → length bytes ≤ limit_of form → IsOneOf (statuses ++ 3 ∷ 4 ∷ 5 ∷ []) result

-- ---- by the words and what was read: `left` are the bytes of the source before, and `rest` those that it has left

-- a source that tells its bytes has none left
abbrev pub HasNoneLeft : Option (List ℕ) → Option (List ℕ) → Type 0
HasNoneLeft None rest = Unit {0}
HasNoneLeft (Some left) rest = rest ≡ Some []

-- the source was read to its end, and the form answers so to the bytes that came
pub record IsReadAnswer (form : InputForm) (left rest : Option (List ℕ)) (status : ℕ) (text : List ℕ) : Type 0 where
  pub bytes : List ℕ
  pub whole : ReadsAll left rest bytes
  pub few : length bytes ≤ limit_of form
  pub answer : IsAnswer form bytes status text

-- with 3 the source's faults rose; with 8 it gave more than the limit; else its bytes are answered
abbrev pub IsRead : InputForm → Type 0 → Option (List ℕ) → Option (List ℕ) → ℕ → List ℕ → Type 0
IsRead form rose left rest status text =
    (rose × (status ≡ 3) × (text ≡ read_fault_line))
    ⊎ ((GivesMore left rest (limit_of form) × (status ≡ 8) × (text ≡ too_long_line))
    ⊎ IsReadAnswer form left rest status text)

-- the words are a load, which answers so
abbrev pub IsLoadOutput : List (String Global) → ℕ → List ℕ → Type 0
IsLoadOutput words status text = (rounds : ℕ) × Asks words (Form.Load rounds) × IsLoadAnswer rounds status text

-- the words are a form, which answers so to what was read
abbrev pub IsInputAnswer : List (String Global) → Option (List ℕ) → Option (List ℕ) → ℕ → List ℕ → Type 0
IsInputAnswer words left rest status text =
    (form : InputForm) × Asks words (Form.Input form) × IsReadAnswer form left rest status text

-- what the words ask for is answered so
abbrev pub IsFormAnswer : List (String Global) → Option (List ℕ) → Option (List ℕ) → ℕ → List ℕ → Type 0
IsFormAnswer words left rest status text = IsLoadOutput words status text ⊎ IsInputAnswer words left rest status text

-- with 1 the words are no form; else they are a load, or a form that reads
abbrev pub IsOutput : List (String Global) → Type 0 → Option (List ℕ) → Option (List ℕ) → ℕ → List ℕ → Type 0
IsOutput words rose left rest status text =
    (IsNoForm words × (status ≡ 1) × (text ≡ usage_line))
    ⊎ (IsLoadOutput words status text
    ⊎ ((form : InputForm) × Asks words (Form.Input form) × IsRead form rose left rest status text))

-- the words are a form that reads, and the source gave more than the form's limit
abbrev pub IsTooLong : List (String Global) → Option (List ℕ) → Option (List ℕ) → Type 0
IsTooLong words left rest = (form : InputForm) × Asks words (Form.Input form) × GivesMore left rest (limit_of form)
