-- The words of setup lines.
use Rattle.std.specs.Prelude.{ℕ, List, [], ◌∷◌, ◌++◌, codes, decimal}
use Rattle.m3_base.specs.declared.setup_line.SetupLine.{SetupLine}
use Rattle.m3_text.specs.Hex.{hex_text}
use Rattle.m3_journal.specs.Commands.{command_words}
use Rattle.m3_journal.specs.Orders.{grant_words}

abbrev pub machine_words : ℕ → ℕ → List (List ℕ)
machine_words tiles memory = codes "machine" ∷ codes "tiles" ∷ decimal tiles ∷ codes "memory" ∷ decimal memory ∷ []

-- the endpoints of a program at an end of a pipe
abbrev pub writer_ends : ℕ → ℕ → ℕ → ℕ → List (List ℕ)
writer_ends act mem send reply =
    codes "writer" ∷ decimal act ∷ codes "mem" ∷ decimal mem ∷ codes "send" ∷ decimal send ∷ codes "reply" ∷ decimal reply ∷ []

abbrev pub reader_ends : ℕ → ℕ → ℕ → List (List ℕ)
reader_ends act mem recv = codes "reader" ∷ decimal act ∷ codes "mem" ∷ decimal mem ∷ codes "recv" ∷ decimal recv ∷ []

abbrev pub pipe_words : ℕ → ℕ → List (List ℕ)
pipe_words chunk ring = codes "chunk" ∷ decimal chunk ∷ codes "ring" ∷ decimal ring ∷ []

abbrev pub fuel_words : ℕ → List (List ℕ)
fuel_words fuel = codes "fuel" ∷ decimal fuel ∷ []

abbrev pub writer_words : ℕ → ℕ → ℕ → ℕ → ℕ → ℕ → List ℕ → List (List ℕ)
writer_words act mem send reply chunk ring bytes =
    writer_ends act mem send reply ++ (pipe_words chunk ring ++ hex_text bytes ∷ [])

abbrev pub reader_words : ℕ → ℕ → ℕ → ℕ → ℕ → ℕ → List (List ℕ)
reader_words act mem recv chunk ring fuel = reader_ends act mem recv ++ (pipe_words chunk ring ++ fuel_words fuel)

abbrev pub setup_words : SetupLine → List (List ℕ)
setup_words (SetupLine.Act act tile) = codes "act" ∷ decimal act ∷ codes "tile" ∷ decimal tile ∷ []
setup_words (SetupLine.Quantum quantum) = codes "quantum" ∷ decimal quantum ∷ []
setup_words (SetupLine.Grant line) = grant_words line
setup_words (SetupLine.Files g) = codes "files" ∷ decimal g ∷ []
setup_words (SetupLine.Item act command) = codes "prog" ∷ decimal act ∷ command_words command
setup_words (SetupLine.AwaitItem act ep) = codes "prog" ∷ decimal act ∷ codes "await" ∷ decimal ep ∷ []
setup_words (SetupLine.Writer act mem send reply chunk ring bytes) = writer_words act mem send reply chunk ring bytes
setup_words (SetupLine.Reader act mem recv chunk ring fuel) = reader_words act mem recv chunk ring fuel
setup_words (SetupLine.Boxed act logic fuel) = codes "box" ∷ decimal act ∷ decimal logic ∷ fuel_words fuel
