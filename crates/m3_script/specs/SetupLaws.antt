-- Setup lines that are printed are read back, form by form.
use Rattle.std.specs.Prelude.{◌≡◌, ℕ, List, [], ◌∷◌, codes, decimal, Ok}
use Rattle.m3_base.specs.declared.command.Command.{Command}
use Rattle.m3_base.specs.declared.order.GrantLine.{GrantLine}
use Rattle.m3_base.specs.declared.setup_line.SetupLine.{SetupLine}
use Rattle.m3_text.specs.declared.hexes.HexCase.{HexCase}
use Rattle.m3_text.specs.Hex.{hex_text}
use Rattle.m3_script.specs.CommandForms.{command_of}
use Rattle.m3_script.specs.Grants.{grant_of}
use Rattle.m3_script.specs.Setups.{machine_of, setup_line_of}
use Rattle.m3_script.specs.InRange.{MachineInRange, SetupInRange, ActInRange}

-- by the words after `machine`
abbrev pub MachineAgain : Type 0
MachineAgain = (tiles memory : ℕ) → MachineInRange tiles memory
    → machine_of (codes "tiles" ∷ decimal tiles ∷ codes "memory" ∷ decimal memory ∷ []) ≡ Ok (tiles, memory)

abbrev pub ActLineAgain : Type 0
ActLineAgain = (case : HexCase) (act tile : ℕ) → SetupInRange (SetupLine.Act act tile)
    → setup_line_of case (codes "act" ∷ decimal act ∷ codes "tile" ∷ decimal tile ∷ [])
    ≡ Ok (SetupLine.Act act tile)

abbrev pub QuantumAgain : Type 0
QuantumAgain = (case : HexCase) (quantum : ℕ) → SetupInRange (SetupLine.Quantum quantum)
    → setup_line_of case (codes "quantum" ∷ decimal quantum ∷ []) ≡ Ok (SetupLine.Quantum quantum)

abbrev pub FilesAgain : Type 0
FilesAgain = (case : HexCase) (g : ℕ) → SetupInRange (SetupLine.Files g)
    → setup_line_of case (codes "files" ∷ decimal g ∷ []) ≡ Ok (SetupLine.Files g)

abbrev pub AwaitItemAgain : Type 0
AwaitItemAgain = (case : HexCase) (act ep : ℕ) → SetupInRange (SetupLine.AwaitItem act ep)
    → setup_line_of case (codes "prog" ∷ decimal act ∷ codes "await" ∷ decimal ep ∷ [])
    ≡ Ok (SetupLine.AwaitItem act ep)

-- the words of a command make an item
abbrev pub ItemAgain : Type 0
ItemAgain = (case : HexCase) (act : ℕ) (command : Command) (ws : List (List ℕ)) → ActInRange act → command_of case ws ≡ Ok command
    → setup_line_of case (codes "prog" ∷ decimal act ∷ ws) ≡ Ok (SetupLine.Item act command)

abbrev pub WriterAgain : Type 0
WriterAgain = (case : HexCase) (act mem send reply chunk ring : ℕ) (bytes : List ℕ) → SetupInRange (SetupLine.Writer act mem send reply chunk ring bytes)
    → setup_line_of case (codes "writer" ∷ decimal act ∷ codes "mem" ∷ decimal mem ∷ codes "send" ∷ decimal send ∷ codes "reply" ∷ decimal reply ∷ codes "chunk" ∷ decimal chunk ∷ codes "ring" ∷ decimal ring ∷ hex_text bytes ∷ [])
    ≡ Ok (SetupLine.Writer act mem send reply chunk ring bytes)

abbrev pub ReaderAgain : Type 0
ReaderAgain = (case : HexCase) (act mem recv chunk ring fuel : ℕ) → SetupInRange (SetupLine.Reader act mem recv chunk ring fuel)
    → setup_line_of case (codes "reader" ∷ decimal act ∷ codes "mem" ∷ decimal mem ∷ codes "recv" ∷ decimal recv ∷ codes "chunk" ∷ decimal chunk ∷ codes "ring" ∷ decimal ring ∷ codes "fuel" ∷ decimal fuel ∷ [])
    ≡ Ok (SetupLine.Reader act mem recv chunk ring fuel)

abbrev pub BoxAgain : Type 0
BoxAgain = (case : HexCase) (act logic fuel : ℕ) → SetupInRange (SetupLine.Boxed act logic fuel)
    → setup_line_of case (codes "box" ∷ decimal act ∷ decimal logic ∷ codes "fuel" ∷ decimal fuel ∷ [])
    ≡ Ok (SetupLine.Boxed act logic fuel)

-- the words of a grant make a line of the setup
abbrev pub GrantLineAgain : Type 0
GrantLineAgain = (case : HexCase) (line : GrantLine) (ws : List (List ℕ)) → grant_of ws ≡ Ok line
    → setup_line_of case ws ≡ Ok (SetupLine.Grant line)
