-- The files as a journal leaves them: their table after each entry.
use Rattle.std.specs.Prelude.{ℕ, ◌/◌, min, not, ◌==◌, List, [], ◌∷◌, ◌++◌, Option, Some, None}
use Rattle.std.specs.List.{filter}
use Rattle.m3_base.specs.declared.setup_line.SetupLine.{SetupLine}
use Rattle.m3_base.specs.declared.packet.Fresh.{Fresh}
use Rattle.m3_base.specs.declared.order.FileLine.{FileLine}
use Rattle.m3_base.specs.declared.event.Event.{Event}
use Rattle.m3_base.specs.declared.event.Said.{Said}
use Rattle.m3_base.specs.declared.event.Entry.{Entry}
use Rattle.m3_base.specs.Ideal.State.{Grant, grant_in}
use Rattle.m3_base.specs.Setup.Rules.{SetupValue, facts_of}
use Rattle.m3_base.specs.Ideal.GrantRules.{fresh_of}
use Rattle.m3_base.specs.ExtentFiles.Table.{File, Table, block_size, most_blocks, file_named, with_files, with_file}
use Rattle.m3_base.specs.ExtentFiles.Steps.{file_step}

-- the table, and the file of which the last entry named a part that is to be granted
pub record FileState : Type 0 where
  pub table : Table
  pub pending_open : Option (List ℕ)

-- ---- at opening

-- the grant that a setup gives the files
abbrev pub files_grant : List SetupLine → Option ℕ
files_grant [] = None
files_grant (SetupLine.Files g ∷ ls) = Some g
files_grant (l ∷ ls) = files_grant ls

-- the bytes of a range grant
abbrev pub range_length : Option Fresh → ℕ
range_length (Some (Fresh.Memory g start len perm)) = len
range_length f = 0

-- no file over a range of so many bytes
abbrev pub empty_table : ℕ → ℕ → Table
empty_table g len =
    record { grant = g; block_count = min (len / block_size) most_blocks; files = [] }

-- the files of a range grant; without one there is no block
abbrev pub table_over : List Grant → Option ℕ → Table
table_over gs None = empty_table 0 0
table_over gs (Some g) = empty_table g (range_length (fresh_of (grant_in gs g)))

-- before the first entry
abbrev pub initial_files : SetupValue → FileState
initial_files setup =
    record {
      table = table_over (facts_of setup).grants (files_grant setup.lines);
      pending_open = None;
    }

-- ---- open grants

-- the file is open with g too
abbrev pub with_open_grant_in : ℕ → Option File → Table → Table
with_open_grant_in g None t = t
with_open_grant_in g (Some f) t = with_file (record f { open_grants = f.open_grants ++ g ∷ [] }) t

-- the file of this name is open with g too
abbrev pub with_open_grant : List ℕ → ℕ → Table → Table
with_open_grant name g t = with_open_grant_in g (file_named name t) t

-- the file is not open with g
abbrev pub file_without_grant : ℕ → File → File
file_without_grant g f = record f { open_grants = filter (λ h. not (h == g)) f.open_grants }

-- none of these files is
abbrev pub files_without_grant : ℕ → List File → List File
files_without_grant g [] = []
files_without_grant g (f ∷ fs) = file_without_grant g f ∷ files_without_grant g fs

-- no file of the table is
abbrev pub without_open_grant : ℕ → Table → Table
without_open_grant g t = with_files (files_without_grant g t.files) t

-- ---- after an entry

-- the file whose part an entry names, by its line and its outcome
abbrev pub part_name : FileLine → Said → Option (List ℕ)
part_name (FileLine.Open name off act ep perm) (Said.Part of at len) = Some name
part_name line said = None

-- after a line on files
abbrev pub files_after_line : FileLine → Said → Table → FileState
files_after_line line said t =
    record { table = (file_step t line).table; pending_open = part_name line said }

-- a table, and no part that is to be granted
abbrev pub files_of_table : Table → FileState
files_of_table t = record { table = t; pending_open = None }

-- a part that is granted is open, and a grant that is done is not
abbrev pub table_after_outcome : Option (List ℕ) → Said → Table → Table
table_after_outcome (Some name) (Said.Granted g id held) t = with_open_grant name g t
table_after_outcome pending (Said.Done g revoked) t = without_open_grant g t
table_after_outcome pending said t = t

-- after any event
abbrev pub files_after_event : FileState → Event → Said → FileState
files_after_event fs (Event.File line) said = files_after_line line said fs.table
files_after_event fs event said = files_of_table (table_after_outcome fs.pending_open said fs.table)

-- after an entry
abbrev pub files_after : FileState → Entry → FileState
files_after fs e = files_after_event fs e.event e.outcome.said

-- ---- whole journals

-- after these entries
abbrev pub files_along : FileState → List Entry → FileState
files_along fs [] = fs
files_along fs (e ∷ es) = files_along (files_after fs e) es

-- the table that a journal leaves
abbrev pub table_of : SetupValue → List Entry → Table
table_of setup es = (files_along (initial_files setup) es).table
