-- Scripts: line by line, with the first line that is refused and its first cause.
use Rattle.std.specs.Prelude.{ℕ, ◌+◌, ◌==◌, nat_lt, not, ◌||◌, Bool, true, if◌then◌else◌, List, [], ◌∷◌, ◌++◌, length, slice_index, Result, Ok, Err}
use Rattle.std.specs.Str.Lines.{lines}
use Rattle.std.specs.List.{list_all}
use Rattle.m3_base.specs.declared.event.Event.{Event}
use Rattle.m3_base.specs.declared.setup_line.SetupLine.{SetupLine}
use Rattle.m3_base.specs.Setup.Rules.{SetupValue, facts_of, is_machine, breaks_rule}
use Rattle.m3_text.specs.declared.refusal.Why.{Why}
use Rattle.m3_text.specs.declared.refusal.Why.TheVariants as why
use Rattle.m3_text.specs.Lines.{words, is_plain}
use Rattle.m3_text.specs.Refusable.{◌>>=◌}
use Rattle.m3_script.specs.declared.line.Line.{Line}
use Rattle.m3_script.specs.declared.script.Mode.{Mode}
use Rattle.m3_script.specs.LineForms.{line_of}
use Rattle.m3_script.specs.Rules.{lacks_logic, is_allowed, names_undeclared}

-- a script: its setup and its events in order
pub record ScriptValue : Type 0 where
  pub setup : SetupValue
  pub events : List Event

-- what the lines so far say: nothing yet, a setup that goes on, or a setup that `begin` ended and the events since
pub data State : Type 0 where
  Empty : State
  InSetup : SetupValue → State
  Running : SetupValue → List Event → State

-- ---- one line

abbrev pub state_with_machine : ℕ → ℕ → Result SetupValue Why
state_with_machine tiles memory =
    if is_machine tiles memory then Ok (record { tiles = tiles; memory = memory; lines = [] }) else Err why.Rule

abbrev pub is_refused : ℕ → SetupValue → SetupLine → Bool
is_refused boxes x line = lacks_logic boxes line || breaks_rule line (facts_of x)

abbrev pub state_with_line : ℕ → SetupValue → SetupLine → Result SetupValue Why
state_with_line boxes x line = if is_refused boxes x line then Err why.Rule else Ok (record x { lines = x.lines ++ line ∷ [] })

abbrev pub events_with : Mode → SetupValue → List Event → Event → Result (List Event) Why
events_with mode x events event =
    if not (is_allowed mode events event) then Err why.Place
    else if names_undeclared event x then Err why.Rule
    else Ok (events ++ event ∷ [])

-- the first line is that of the machine
abbrev pub after_first_line : Line → Result State Why
after_first_line (Line.Machine tiles memory) = state_with_machine tiles memory >>= λ x. Ok (InSetup x)
after_first_line line = Err why.Place

-- then come the lines of the setup, up to `begin`
abbrev pub after_setup_line : ℕ → SetupValue → Line → Result State Why
after_setup_line boxes x (Line.Setup line) = state_with_line boxes x line >>= λ y. Ok (InSetup y)
after_setup_line boxes x Line.Begin = Ok (Running x [])
after_setup_line boxes x line = Err why.Place

-- then come events
abbrev pub after_event_line : Mode → SetupValue → List Event → Line → Result State Why
after_event_line mode x events (Line.Event event) = events_with mode x events event >>= λ es. Ok (Running x es)
after_event_line mode x events line = Err why.Place

unfoldable pub after_words : Mode → ℕ → State → Line → Result State Why
after_words mode boxes Empty line = after_first_line line
after_words mode boxes (InSetup x) line = after_setup_line boxes x line
after_words mode boxes (Running x events) line = after_event_line mode x events line

-- no form has more than 13 words
unfoldable pub words_of_line : Mode → ℕ → State → List (List ℕ) → Result State Why
words_of_line mode boxes s ws = if nat_lt 13 (length ws) then Err why.Form else (line_of ws >>= after_words mode boxes s)

-- an empty line, or one whose first word begins with #
abbrev pub is_skipped : List (List ℕ) → Bool
is_skipped [] = true
is_skipped (w ∷ ws) = slice_index w 0 == 35

unfoldable pub after_line : Mode → ℕ → State → List ℕ → Result State Why
after_line mode boxes s line =
    if not (list_all is_plain line) then Err why.Form
    else if is_skipped (words line) then Ok s
    else words_of_line mode boxes s (words line)

-- ---- all lines

-- a line's number, counted from 1, and why it is refused
pub record Refused : Type 0 where
  pub line : ℕ
  pub why : Why

abbrev pub then_from : ℕ → (State → ℕ → Result ScriptValue Refused) → Result State Why → Result ScriptValue Refused
then_from n next (Ok s) = next s (n + 1)
then_from n next (Err why) = Err (record { line = n; why = why })

-- a script that ends before `begin` is refused at the line after its last
abbrev pub script_at_end : ℕ → State → Result ScriptValue Refused
script_at_end n (Running x events) = Ok (record { setup = x; events = events })
script_at_end n s = Err (record { line = n; why = why.Place })

-- the lines from this number on
unfoldable pub after_lines : Mode → ℕ → List (List ℕ) → State → ℕ → Result ScriptValue Refused
after_lines mode boxes [] s n = script_at_end n s
after_lines mode boxes (l ∷ ls) s n = then_from n (after_lines mode boxes ls) (after_line mode boxes s l)

-- the script that the bytes spell where this many logics are handed in, or the first bad line with its first cause
abbrev pub script_of : Mode → ℕ → List ℕ → Result ScriptValue Refused
script_of mode boxes bytes = after_lines mode boxes (lines bytes) Empty 1
