-- The forms that a script has are among those of all lines: a line of a script is read as any reader of the format
-- reads it.
use Rattle.std.specs.Prelude.{◌≡◌, ℕ, List, Ok}
use Rattle.m3_base.specs.declared.event.Event.{Event}
use Rattle.m3_base.specs.declared.setup_line.SetupLine.{SetupLine}
use Rattle.m3_text.specs.declared.hexes.HexCase.{HexCase}
use Rattle.m3_script.specs.declared.line.Line.{Line}
use Rattle.m3_script.specs.Events.{event_of}
use Rattle.m3_script.specs.LineForms.{line_of}
use Rattle.m3_script.specs.Setups.{setup_line_of}

abbrev pub EventsOfScripts : Type 0
EventsOfScripts = (ws : List (List ℕ)) (event : Event) → line_of ws ≡ Ok (Line.Event event) → event_of HexCase.Either ws ≡ Ok event

abbrev pub SetupsOfScripts : Type 0
SetupsOfScripts = (ws : List (List ℕ)) (line : SetupLine) → line_of ws ≡ Ok (Line.Setup line) → setup_line_of HexCase.Either ws ≡ Ok line
