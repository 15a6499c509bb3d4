-- List programs: their items, and the relation that their calls obey.
use Rattle.std.specs.Prelude.{◌≡◌, ℕ, ◌==◌, List, [], ◌∷◌, ◌++◌, map, if◌then◌else◌}
use Rattle.m3_base.specs.declared.program.Seen.{Seen}
use Rattle.m3_base.specs.declared.program.Move.{Move}
use Rattle.m3_base.specs.declared.setup_line.SetupLine.{SetupLine}
use Rattle.m3_base.specs.Lists.Prefixes.{IsPrefix}
use Rattle.m3_base.specs.Calls.JournalCalls.{Call}

-- the item that a line adds to the activity's program
abbrev pub item_of_line : ℕ → SetupLine → List Move
item_of_line a (SetupLine.Item b c) = if b == a then Move.Do c ∷ [] else []
item_of_line a (SetupLine.AwaitItem b ep) = if b == a then Move.Await ep ∷ [] else []
item_of_line a line = []

-- the items of the activity's list program
abbrev pub program_items : ℕ → List SetupLine → List Move
program_items a [] = []
program_items a (l ∷ ls) = item_of_line a l ++ program_items a ls

-- the moves of these calls
abbrev pub moves_of : List Call → List Move
moves_of cs = map (λ c. c.move) cs

-- the moves are these items and then Ended, as far as the calls go
abbrev pub AreItems : List Move → List Call → Type 0
AreItems items cs = IsPrefix (moves_of cs) (items ++ Move.Ended ∷ [])

-- the relation of a list program, whose meaning is the items that are left
abbrev pub ListMoves : List Move → Seen → Move → List Move → Type 0
ListMoves [] seen move left = (move ≡ Move.Ended) × (left ≡ [])
ListMoves (item ∷ items) seen move left = (move ≡ item) × (left ≡ items)
