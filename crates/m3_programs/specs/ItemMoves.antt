-- What a list program does, as a relation of its moves: its meaning is how many of its items were made.
use Rattle.std.specs.Prelude.{ℕ, List, [], ◌∷◌, drop}
use Rattle.m3_base.specs.declared.program.Seen.{Seen}
use Rattle.m3_base.specs.declared.program.Move.{Move}
use Rattle.m3_base.specs.Calls.ListProgram.{ListMoves}
use Rattle.m3_programs.specs.ListProgramView.{ListState}

abbrev pub meaning_of : ListState → List ℕ
meaning_of p = p.made ∷ []

-- the items that are left
abbrev pub items_left : List Move → List ℕ → List Move
items_left items [] = []
items_left items (made ∷ more) = drop made items

-- the relation of a list program of these items
abbrev pub ItemMoves : List Move → List ℕ → Seen → Move → List ℕ → Type 0
ItemMoves items old seen move new = ListMoves (items_left items old) seen move (items_left items new)
