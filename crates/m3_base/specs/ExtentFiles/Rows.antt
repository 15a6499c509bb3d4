-- Worked rows: steps of lines on files, with their refusals, and a journal that opens and closes a
-- file.
use Rattle.std.specs.Prelude.{◌≡◌, ℕ, false, List, [], ◌∷◌, ◌++◌, take, replicate, Some, None}
use Rattle.std.proofs.Common.{refl}
use Rattle.m3_base.specs.declared.packet.Perm.{Perm}
use Rattle.m3_base.specs.declared.order.GrantLine.{GrantLine}
use Rattle.m3_base.specs.declared.order.FileLine.{FileLine}
use Rattle.m3_base.specs.declared.order.Order.{Order}
use Rattle.m3_base.specs.declared.setup_line.SetupLine.{SetupLine}
use Rattle.m3_base.specs.declared.event.No.{No}
use Rattle.m3_base.specs.declared.event.Event.{Event}
use Rattle.m3_base.specs.declared.event.Said.{Said}
use Rattle.m3_base.specs.declared.event.Entry.{Entry}
use Rattle.m3_base.specs.Setup.Rules.{SetupValue}
use Rattle.m3_base.specs.ExtentFiles.Table.{File, Table}
use Rattle.m3_base.specs.ExtentFiles.Extents.{free_blocks, content_of}
use Rattle.m3_base.specs.ExtentFiles.Steps.{file_step}
use Rattle.m3_base.specs.ExtentFiles.JournalTables.{table_of}
use Rattle.m3_base.specs.ExtentFiles.ScriptEntries.{Follows}
use Rattle.m3_base.specs.Examples.Scripts.{entry}
use Rattle.m3_base.specs.Ideal.Flights.{flight_name}

-- ---- one step

-- the names "a" and "b"
abbrev pub name_a : List ℕ
name_a = 97 ∷ []

abbrev pub name_b : List ℕ
name_b = 98 ∷ []

abbrev pub empty_a : File
empty_a = record { name = name_a; size = 0; blocks = []; open_grants = [] }

-- 600 bytes in blocks 0, 2 and 3, open with grant 4
abbrev pub full_a : File
full_a = record { name = name_a; size = 600; blocks = 0 ∷ 2 ∷ 3 ∷ []; open_grants = 4 ∷ [] }

abbrev pub file_b : File
file_b = record { name = name_b; size = 10; blocks = 1 ∷ []; open_grants = [] }

-- the files of grant 1, which has five blocks
abbrev pub table_with : List File → Table
table_with files = record { grant = 1; block_count = 5; files = files }

pub create_makes :
    file_step (table_with []) (FileLine.Create name_a)
    ≡ record { said = Said.Created; table = table_with (empty_a ∷ []) }
create_makes = refl

pub create_exists :
    (file_step (table_with (empty_a ∷ [])) (FileLine.Create name_a)).said ≡ Said.No No.Exists
create_exists = refl

pub create_bad_name :
    (file_step (table_with []) (FileLine.Create (65 ∷ []))).said ≡ Said.No No.BadName
create_bad_name = refl

-- 300 bytes take the two least free blocks
pub extend_adds :
    file_step (table_with (empty_a ∷ file_b ∷ [])) (FileLine.Extend name_a 300)
    ≡ record {
      said = Said.Extended;
      table = table_with (record empty_a { size = 300; blocks = 0 ∷ 2 ∷ [] } ∷ file_b ∷ []);
    }
extend_adds = refl

pub extend_no_space :
    (file_step (table_with (full_a ∷ file_b ∷ [])) (FileLine.Extend name_b 600)).said
    ≡ Said.No No.NoSpace
extend_no_space = refl

pub extend_no_file : (file_step (table_with []) (FileLine.Extend name_a 1)).said ≡ Said.No No.NoFile
extend_no_file = refl

pub remove_takes :
    file_step (table_with (empty_a ∷ file_b ∷ [])) (FileLine.Remove name_a)
    ≡ record { said = Said.Removed; table = table_with (file_b ∷ []) }
remove_takes = refl

pub remove_in_use :
    (file_step (table_with (full_a ∷ [])) (FileLine.Remove name_a)).said ≡ Said.No No.InUse
remove_in_use = refl

-- the extent that holds the byte: of 600 bytes, 256 in block 0, and 344 in the blocks 2 and 3
pub open_first :
    (file_step (table_with (full_a ∷ [])) (FileLine.Open name_a 0 2 3 Perm.R)).said
    ≡ Said.Part 1 0 256
open_first = refl

pub open_second :
    (file_step (table_with (full_a ∷ [])) (FileLine.Open name_a 599 2 3 Perm.R)).said
    ≡ Said.Part 1 512 344
open_second = refl

pub open_behind :
    (file_step (table_with (full_a ∷ [])) (FileLine.Open name_a 600 2 3 Perm.R)).said ≡ Said.Nothing
open_behind = refl

pub close_open : (file_step (table_with (full_a ∷ [])) (FileLine.Close 4)).said ≡ Said.Revoke
close_open = refl

pub close_other : (file_step (table_with (full_a ∷ [])) (FileLine.Close 5)).said ≡ Said.Nothing
close_other = refl

pub free_beside : free_blocks (table_with (full_a ∷ file_b ∷ [])) ≡ 4 ∷ []
free_beside = refl

-- ---- a journal

abbrev pub files_setup : SetupValue
files_setup =
    record {
      tiles = 3;
      memory = 1024;
      lines =
          SetupLine.Act 0 2
          ∷ SetupLine.Grant (GrantLine.Range 0 0 256 512 Perm.Rw)
          ∷ SetupLine.Files 1
          ∷ [];
    }

abbrev pub open_line : Event
open_line = Event.File (FileLine.Open name_a 0 0 1 Perm.R)

abbrev pub part_order : Event
part_order = Event.Order (Order.Grant (GrantLine.Part 0 1 1 0 10 Perm.R))

-- a file of ten bytes is made and opened
abbrev pub open_entries : List Entry
open_entries =
    entry (Event.File (FileLine.Create name_a)) Said.Created None
    ∷ entry (Event.File (FileLine.Extend name_a 10)) Said.Extended None
    ∷ entry open_line (Said.Part 1 0 10) None
    ∷ entry part_order (Said.Granted 2 (flight_name 64 1) false) None
    ∷ []

abbrev pub open_events : List Event
open_events =
    Event.File (FileLine.Create name_a)
    ∷ Event.File (FileLine.Extend name_a 10)
    ∷ open_line
    ∷ []

-- two blocks; the file has the first, and is open with the new grant
pub opened_table :
    table_of files_setup open_entries
    ≡ record {
      grant = 1;
      block_count = 2;
      files = record { name = name_a; size = 10; blocks = 0 ∷ []; open_grants = 2 ∷ [] } ∷ [];
    }
opened_table = refl

-- behind the line that opens stands the order that grants the part
pub open_follows : Follows files_setup open_entries open_events
open_follows = (refl, refl, (refl, refl, (refl, refl, (refl, tt, tt))))

-- without that order the entries don't follow the script
pub open_without_order : Follows files_setup (take 3 open_entries) open_events → ⊥
open_without_order follows = follows.2.2.2

-- the file is closed: its grant is revoked, and open no more once that is done
abbrev pub close_entries : List Entry
close_entries =
    open_entries
    ++ entry (Event.File (FileLine.Close 2)) Said.Revoke None
    ∷ entry (Event.Order (Order.Revoke 2)) (Said.Revoking 2) None
    ∷ entry Event.Close (Said.CloseSent 2 (flight_name 64 2) false) None
    ∷ entry (Event.Take 0 2) (Said.Done 2 (Some 2)) None
    ∷ []

pub closing_table :
    (table_of files_setup (take 7 close_entries)).files
    ≡ record empty_a { size = 10; blocks = 0 ∷ []; open_grants = 2 ∷ [] } ∷ []
closing_table = refl

pub closed_table :
    (table_of files_setup close_entries).files ≡ record empty_a { size = 10; blocks = 0 ∷ [] } ∷ []
closed_table = refl

-- of block 1, which begins at byte 2 + 256 of memory
pub content_row :
    content_of 2 (replicate 258 0 ++ 7 ∷ 8 ∷ 9 ∷ [])
    (record { name = name_a; size = 2; blocks = 1 ∷ []; open_grants = [] })
    ≡ 7 ∷ 8 ∷ []
content_row = refl
