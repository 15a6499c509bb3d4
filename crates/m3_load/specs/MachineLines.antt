-- The lines of a load before those of its programs.
use Rattle.std.specs.Prelude.{ℕ, List, [], ◌∷◌, ◌++◌, map}
use Rattle.m3_base.specs.declared.setup_line.SetupLine.{SetupLine}
use Rattle.m3_base.specs.Load.Setup.{home_line, inbox_line, send_line}

-- activities, receive grants of servers and of clients, and send grants
abbrev pub machine_lines : List ℕ → List ℕ → List SetupLine
machine_lines clients servers =
    map home_line clients
    ++ map home_line servers
    ++ (SetupLine.Quantum 4 ∷ [])
    ++ map (inbox_line 0) servers
    ++ map (inbox_line 1) clients
    ++ map send_line clients
