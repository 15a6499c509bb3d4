-- The forms of setup lines. A line is judged by its first word, and each form by the words after it.
use Rattle.std.specs.Prelude.{ℕ, if◌then◌else◌, List, [], ◌∷◌, codes, drop, Result, Ok}
use Rattle.std.specs.Str.{bytes_eq}
use Rattle.m3_base.specs.declared.command.Command.{Command}
use Rattle.m3_base.specs.declared.setup_line.SetupLine.{SetupLine}
use Rattle.m3_text.specs.declared.hexes.HexCase.{HexCase}
use Rattle.m3_text.specs.declared.refusal.Why.{Why}
use Rattle.m3_text.specs.Refusable.{◌>>=◌}
use Rattle.m3_text.specs.Number.{number}
use Rattle.m3_text.specs.Hex.{hex_of}
use Rattle.m3_text.specs.LineForm.{word, count_test, form_test}
use Rattle.m3_text.specs.CauseOrder.{both}
use Rattle.m3_script.specs.CommandForms.{command_of}
use Rattle.m3_script.specs.Grants.{grant_of}

-- ---- the words of each form after its first, where an empty one stands for any word

unfoldable pub machine_form : List (List ℕ)
machine_form = codes "tiles" ∷ [] ∷ codes "memory" ∷ [] ∷ []

unfoldable pub act_form : List (List ℕ)
act_form = [] ∷ codes "tile" ∷ [] ∷ []

unfoldable pub await_item_form : List (List ℕ)
await_item_form = [] ∷ codes "await" ∷ [] ∷ []

unfoldable pub writer_form : List (List ℕ)
writer_form = [] ∷ codes "mem" ∷ [] ∷ codes "send" ∷ [] ∷ codes "reply" ∷ [] ∷ codes "chunk" ∷ [] ∷ codes "ring" ∷ [] ∷ [] ∷ []

unfoldable pub reader_form : List (List ℕ)
reader_form = [] ∷ codes "mem" ∷ [] ∷ codes "recv" ∷ [] ∷ codes "chunk" ∷ [] ∷ codes "ring" ∷ [] ∷ codes "fuel" ∷ [] ∷ []

unfoldable pub box_form : List (List ℕ)
box_form = [] ∷ [] ∷ codes "fuel" ∷ [] ∷ []

-- ---- lines of the machine, its activities and files

-- the tiles and the bytes of memory, by the words after `machine`
unfoldable pub machine_of : List (List ℕ) → Result (ℕ × ℕ) Why
machine_of ws = do
  form ← form_test machine_form ws
  tiles ← number 3 16 (word 1 ws)
  memory ← number 1 1048576 (word 3 ws)
  Ok (tiles, memory)

unfoldable pub act_of : List (List ℕ) → Result SetupLine Why
act_of ws = do
  form ← form_test act_form ws
  act ← number 0 63 (word 0 ws)
  tile ← number 0 15 (word 2 ws)
  Ok (SetupLine.Act act tile)

unfoldable pub quantum_of : List (List ℕ) → Result SetupLine Why
quantum_of ws = do
  count ← count_test 1 ws
  quantum ← number 1 64 (word 0 ws)
  Ok (SetupLine.Quantum quantum)

unfoldable pub files_of : List (List ℕ) → Result SetupLine Why
files_of ws = do
  count ← count_test 1 ws
  g ← number 1 4096 (word 0 ws)
  Ok (SetupLine.Files g)

-- ---- items of list programs

unfoldable pub await_item_of : List (List ℕ) → Result SetupLine Why
await_item_of ws = do
  form ← form_test await_item_form ws
  act ← number 0 63 (word 0 ws)
  ep ← number 0 15 (word 2 ws)
  Ok (SetupLine.AwaitItem act ep)

-- an activity and its command stand side by side: the form of either comes before a number of the other
unfoldable pub act_command_of : HexCase → List (List ℕ) → Result (ℕ × Command) Why
act_command_of case ws = both (number 0 63 (word 0 ws)) (command_of case (drop 1 ws))

unfoldable pub item_of : HexCase → List (List ℕ) → Result SetupLine Why
item_of case ws =
    if bytes_eq (word 1 ws) (codes "await") then await_item_of ws
    else (act_command_of case ws >>= λ x. Ok (SetupLine.Item x.0 x.1))

-- ---- programs of one line

unfoldable pub writer_of : HexCase → List (List ℕ) → Result SetupLine Why
writer_of case ws = do
  form ← form_test writer_form ws
  act ← number 0 63 (word 0 ws)
  mem ← number 0 15 (word 2 ws)
  send ← number 0 15 (word 4 ws)
  reply ← number 0 15 (word 6 ws)
  chunk ← number 1 4096 (word 8 ws)
  ring ← number 1 32 (word 10 ws)
  bytes ← hex_of case 65536 (word 11 ws)
  Ok (SetupLine.Writer act mem send reply chunk ring bytes)

unfoldable pub reader_of : List (List ℕ) → Result SetupLine Why
reader_of ws = do
  form ← form_test reader_form ws
  act ← number 0 63 (word 0 ws)
  mem ← number 0 15 (word 2 ws)
  recv ← number 0 15 (word 4 ws)
  chunk ← number 1 4096 (word 6 ws)
  ring ← number 1 32 (word 8 ws)
  fuel ← number 1 16384 (word 10 ws)
  Ok (SetupLine.Reader act mem recv chunk ring fuel)

unfoldable pub box_of : List (List ℕ) → Result SetupLine Why
box_of ws = do
  form ← form_test box_form ws
  act ← number 0 63 (word 0 ws)
  logic ← number 0 4294967295 (word 1 ws)
  fuel ← number 1 16384 (word 3 ws)
  Ok (SetupLine.Boxed act logic fuel)

-- ---- any line after that of the machine

unfoldable pub setup_line_of : HexCase → List (List ℕ) → Result SetupLine Why
setup_line_of case ws =
    if bytes_eq (word 0 ws) (codes "act") then act_of (drop 1 ws)
    else if bytes_eq (word 0 ws) (codes "prog") then item_of case (drop 1 ws)
    else if bytes_eq (word 0 ws) (codes "writer") then writer_of case (drop 1 ws)
    else if bytes_eq (word 0 ws) (codes "reader") then reader_of (drop 1 ws)
    else if bytes_eq (word 0 ws) (codes "box") then box_of (drop 1 ws)
    else if bytes_eq (word 0 ws) (codes "quantum") then quantum_of (drop 1 ws)
    else if bytes_eq (word 0 ws) (codes "files") then files_of (drop 1 ws)
    else (grant_of ws >>= λ line. Ok (SetupLine.Grant line))
