-- The lines of scripts: the forms that are built, by their first word.
use Rattle.std.specs.Prelude.{ℕ, Bool, ◌||◌, if◌then◌else◌, List, codes, drop, Result, Ok, Err}
use Rattle.std.specs.Str.{bytes_eq}
use Rattle.m3_text.specs.declared.hexes.HexCase.{HexCase}
use Rattle.m3_text.specs.declared.refusal.Why.{Why}
use Rattle.m3_text.specs.declared.refusal.Why.TheVariants as why
use Rattle.m3_text.specs.Refusable.{◌>>=◌}
use Rattle.m3_text.specs.LineForm.{word, count_test}
use Rattle.m3_script.specs.declared.line.Line.{Line}
use Rattle.m3_script.specs.Setups.{machine_of, setup_line_of}
use Rattle.m3_script.specs.Events.{event_of}

-- the first line of a setup, and the one that ends it
unfoldable pub opening_of : List (List ℕ) → Result Line Why
opening_of ws =
    if bytes_eq (word 0 ws) (codes "machine") then (machine_of (drop 1 ws) >>= λ m. Ok (Line.Machine m.0 m.1))
    else if bytes_eq (word 0 ws) (codes "begin") then (count_test 0 (drop 1 ws) >>= λ count. Ok Line.Begin)
    else Err why.Form

-- whether the word begins an event that is built: all are, but lines on files
abbrev pub begins_event : List ℕ → Bool
begins_event w =
    bytes_eq w (codes "take")
    || bytes_eq w (codes "do")
    || bytes_eq w (codes "turn")
    || bytes_eq w (codes "tend")
    || bytes_eq w (codes "close")
    || bytes_eq w (codes "revoke")
    || bytes_eq w (codes "grant")
    || bytes_eq w (codes "switch")

-- whether the word begins another line of the setup that is built: all are, but those of files and of programs of one line
abbrev pub begins_setup_line : List ℕ → Bool
begins_setup_line w =
    bytes_eq w (codes "act")
    || bytes_eq w (codes "prog")
    || bytes_eq w (codes "recv")
    || bytes_eq w (codes "send")
    || bytes_eq w (codes "range")
    || bytes_eq w (codes "part")
    || bytes_eq w (codes "quantum")

-- an event, or a line of the setup
unfoldable pub line_of : List (List ℕ) → Result Line Why
line_of ws =
    if begins_event (word 0 ws) then (event_of HexCase.Either ws >>= λ event. Ok (Line.Event event))
    else if begins_setup_line (word 0 ws) then (setup_line_of HexCase.Either ws >>= λ line. Ok (Line.Setup line))
    else opening_of ws
