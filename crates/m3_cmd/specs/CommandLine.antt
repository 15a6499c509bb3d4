-- The forms of the command line.
use Rattle.std.specs.Prelude.{◌≡◌, ℕ, List, [], ◌∷◌, map, Option, Some, None, Result, Ok, Err, codes, string_bytes, if◌then◌else◌, ⊤}
use Rattle.std.specs.Str.{bytes_eq}
use Rattle.std.specs.declared.string.String.{String}
use Rattle.std.specs.declared.alloc.Global.{Global}
use Rattle.m3_base.specs.Limits.{Within}
use Rattle.m3_text.specs.declared.refusal.Why.{Why}
use Rattle.m3_text.specs.Number.{number}
use Rattle.m3_cmd.specs.declared.words.Form.{Form}
use Rattle.m3_cmd.specs.declared.words.Format.{Format}
use Rattle.m3_cmd.specs.declared.words.InputForm.{InputForm}

-- the bytes of each word
abbrev pub words_of : List (String Global) → List (List ℕ)
words_of words = map string_bytes words

abbrev pub load_with : Result ℕ Why → Option Form
load_with (Ok n) = Some (Form.Load n)
load_with (Err why) = None

-- the load of so many rounds
abbrev pub load_of : List ℕ → Option Form
load_of word = load_with (number 1 500 word)

-- with `--json` behind it
abbrev pub json_form : List ℕ → Option Form
json_form word =
    if bytes_eq word (codes "run") then Some (Form.Input (InputForm.Run Format.Json))
    else if bytes_eq word (codes "auto") then Some (Form.Input (InputForm.Auto Format.Json))
    else None

-- the form that the words are; none where they are no form
abbrev pub form_of : List (List ℕ) → Option Form
form_of (word ∷ []) =
    if bytes_eq word (codes "run") then Some (Form.Input (InputForm.Run Format.Text))
    else if bytes_eq word (codes "auto") then Some (Form.Input (InputForm.Auto Format.Text))
    else if bytes_eq word (codes "check") then Some (Form.Input InputForm.Check)
    else if bytes_eq word (codes "show") then Some (Form.Input InputForm.Show)
    else None
form_of (word ∷ next ∷ []) =
    if bytes_eq next (codes "--json") then json_form word
    else if bytes_eq word (codes "load") then load_of next
    else None
form_of words = None

-- a load has 1 to 500 rounds
abbrev pub HasRounds : Form → Type 0
HasRounds (Form.Load n) = Within 1 500 n
HasRounds form = ⊤

-- the words are this form
abbrev pub Asks : List (String Global) → Form → Type 0
Asks words form = form_of (words_of words) ≡ Some form

-- the most bytes of an input: of a journal that is checked, of a script or packets
abbrev pub limit_of : InputForm → ℕ
limit_of (InputForm.Run format) = 1048576
limit_of (InputForm.Auto format) = 1048576
limit_of InputForm.Check = 67108864
limit_of InputForm.Show = 1048576

abbrev pub IsNoForm : List (String Global) → Type 0
IsNoForm words = form_of (words_of words) ≡ None
