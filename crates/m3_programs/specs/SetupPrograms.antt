-- The list programs of a setup: one for each activity that has items, by the activities' numbers.
use Rattle.std.specs.Prelude.{◌≡◌, ℕ, zero, suc, ◌+◌, List, [], ◌∷◌, ◌++◌, length, ◌==◌, if◌then◌else◌, true, slice_set, slice_index_or}
use Rattle.m3_base.specs.declared.program.Move.{Move}
use Rattle.m3_base.specs.declared.setup_line.SetupLine.{SetupLine}
use Rattle.m3_base.specs.Limits.{is_short}
use Rattle.m3_base.specs.Calls.ListProgram.{program_items}
use Rattle.m3_programs.specs.ListProgramView.{ListState}

-- a program of these items, of which none was made
abbrev pub list_of : List Move → ListState
list_of items = record { items = items; made = 0 }

-- an activity's program, where it has items
abbrev pub program_at : ℕ → List Move → List (ℕ × ListState)
program_at a [] = []
program_at a (item ∷ items) = (a, list_of (item ∷ items)) ∷ []

-- the same of a program
abbrev pub kept_program : ℕ → ListState → List (ℕ × ListState)
kept_program a p = if length p.items == 0 then [] else (a, p) ∷ []

-- those of so many activities, from this number on
abbrev pub programs_from : ℕ → ℕ → List SetupLine → List (ℕ × ListState)
programs_from a zero lines = []
programs_from a (suc n) lines = program_at a (program_items a lines) ++ programs_from (a + 1) n lines

unfoldable pub setup_programs : List SetupLine → List (ℕ × ListState)
setup_programs lines = programs_from 0 64 lines

-- ---- a table of programs, one for each activity from this number on, has the items of the lines

abbrev pub HaveItems : ℕ → List ListState → List SetupLine → Type 0
HaveItems a [] lines = Unit {0}
HaveItems a (p ∷ ps) lines = (p ≡ list_of (program_items a lines)) × HaveItems (a + 1) ps lines

pub record IsTableOf (ps : List ListState) (lines : List SetupLine) : Type 0 where
  pub count : length ps ≡ 64
  pub items : HaveItems 0 ps lines

-- with an item more
abbrev pub with_last : Move → ListState → ListState
with_last item p = record p { items = p.items ++ item ∷ [] }

-- an item more in the program at this place
abbrev pub with_item : ℕ → Move → List ListState → List ListState
with_item a item ps = slice_set ps a (with_last item (slice_index_or ps a (list_of [])))

-- the payload of an item has at most 8,192 bytes
abbrev pub IsShortLine : SetupLine → Type 0
IsShortLine (SetupLine.Item a c) = is_short c ≡ true
IsShortLine line = Unit {0}
