-- What is read straight from a text, before its lines are cut into words.
use Rattle.std.specs.Prelude.{◌≡◌, ℕ, ◌≤◌, Bool, true, false, List, ◌∷◌, ◌++◌, length, Result, Ok, Err}
use Rattle.std.specs.Borrow.{Bor}
use Rattle.std.specs.List.{list_all}
use Rattle.std.specs.Str.Lines.{lines}
use Rattle.m3_base.specs.declared.command.Command.{Command}
use Rattle.m3_base.specs.declared.event.Event.{Event}
use Rattle.m3_text.specs.declared.hexes.HexCase.{HexCase}
use Rattle.m3_text.specs.declared.refusal.LineRefusal.{LineRefusal}
use Rattle.m3_text.specs.Hex.{hex_of}
use Rattle.m3_text.specs.Lines.{is_word}
use Rattle.m3_text.specs.Printing.{words_text, line_text}
use Rattle.m3_text.specs.Refusable.{Fails}
use Rattle.m3_script.specs.declared.line.Line.{Line}
use Rattle.m3_script.specs.declared.script.Mode.{Mode}
use Rattle.m3_script.specs.CommandForms.{command_of}
use Rattle.m3_script.specs.LineForms.{line_of}
use Rattle.m3_script.specs.ScriptText.{State, after_line, is_skipped}

-- a word is at the front of a text, and is read as these bytes
abbrev pub IsPayloadAtFront : List ℕ → List ℕ → List ℕ → Type 0
IsPayloadAtFront text bytes rest =
    (w : List ℕ) × (text ≡ w ++ rest) × (is_word w ≡ true) × (hex_of HexCase.Either 8192 w ≡ Ok bytes)

-- words are at the front of a text, each behind a space, and end a line
abbrev pub AreLastWords : List (List ℕ) → List ℕ → List ℕ → Type 0
AreLastWords ws text rest = (list_all is_word ws ≡ true) × (text ≡ words_text ws ++ 10 ∷ rest)

-- the words that end a line are this command
abbrev pub IsCommandAtFront : List ℕ → Command → List ℕ → Type 0
IsCommandAtFront text command rest =
    (ws : List (List ℕ)) × AreLastWords ws text rest × (length ws ≤ 5) × (command_of HexCase.Either ws ≡ Ok command)

-- the first line of a text is this event
abbrev pub IsEventAtFront : List ℕ → Event → List ℕ → Type 0
IsEventAtFront text event rest =
    (ws : List (List ℕ)) × (list_all is_word ws ≡ true) × (text ≡ line_text ws ++ 10 ∷ rest)
    × (is_skipped ws ≡ false) × (length ws ≤ 13) × (line_of ws ≡ Ok (Line.Event event))

-- the first line of a text leads from a state to another, or is refused
abbrev pub ReadsFirst : Mode → ℕ → List ℕ → State → Result (Bor (List ℕ)) LineRefusal → State → Type 0
ReadsFirst mode boxes text s (Ok rest) t =
    (line : List ℕ) × (lines text ≡ line ∷ lines rest.now) × (after_line mode boxes s line ≡ Ok t)
ReadsFirst mode boxes text s (Err e) t =
    (line rest : List ℕ) × (lines text ≡ line ∷ lines rest) × Fails e (after_line mode boxes s line)
