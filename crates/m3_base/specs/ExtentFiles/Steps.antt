-- What a line on files does: its outcome, by the first refusal that applies, and the next table.
use Rattle.std.specs.Prelude.{ℕ, ◌+◌, ◌-◌, Bool, not, ◌||◌, ◌==◌, nat_le, nat_lt, is_some, List, [], ◌∷◌, ◌++◌, length, take, Option, Some, None, if◌then◌else◌}
use Rattle.std.specs.List.{list_any}
use Rattle.m3_base.specs.declared.order.FileLine.{FileLine}
use Rattle.m3_base.specs.declared.event.No.{No}
use Rattle.m3_base.specs.declared.event.Said.{Said}
use Rattle.m3_base.specs.Ideal.GrantRules.{first_no}
use Rattle.m3_base.specs.ExtentFiles.Table.{File, Table, most_files, most_size, is_file_name, new_file, file_named, with_files, with_file, without_file}
use Rattle.m3_base.specs.ExtentFiles.Extents.{Extent, free_blocks, blocks_for, extent_of}

-- an outcome and the next table
pub record FileStep : Type 0 where
  pub said : Said
  pub table : Table

-- an answer that leaves the table
abbrev pub answer_step : Said → Table → FileStep
answer_step said t = record { said = said; table = t }

-- the step, unless it is refused
abbrev pub step_unless : Option No → Table → FileStep → FileStep
step_unless (Some why) t step = answer_step (Said.No why) t
step_unless None t step = step

-- ---- create

-- a bad name, a name that is there, and no room for one more file
abbrev pub create_refusal : List ℕ → Table → Option No
create_refusal name t =
    first_no (
    (not (is_file_name name), No.BadName)
    ∷ (is_some (file_named name t), No.Exists)
    ∷ (nat_le most_files (length t.files), No.NoSpace)
    ∷ []
    )

-- an empty file is made
abbrev pub create_step : List ℕ → Table → FileStep
create_step name t =
    step_unless (create_refusal name t) t (
    record { said = Said.Created; table = with_files (t.files ++ new_file name ∷ []) t }
    )

-- ---- extend

-- how many blocks the file needs for this size besides its own
abbrev pub new_block_count : File → ℕ → ℕ
new_block_count f size = blocks_for size - length f.blocks

-- more bytes than a file has, or fewer free blocks than it needs
abbrev pub extend_refusal : File → ℕ → Table → Option No
extend_refusal f size t =
    first_no
    ((
      nat_lt most_size size
          || nat_lt (length (free_blocks t)) (new_block_count f size),
      No.NoSpace,
    )
    ∷ [])

-- the file with this size; each new block is the least free one
abbrev pub extended_file : File → ℕ → Table → File
extended_file f size t =
    record f { size = size; blocks = f.blocks ++ take (new_block_count f size) (free_blocks t) }

-- so many bytes are added
abbrev pub extend_step : Option File → ℕ → Table → FileStep
extend_step None bytes t = answer_step (Said.No No.NoFile) t
extend_step (Some f) bytes t =
    step_unless (extend_refusal f (f.size + bytes) t) t (
    record { said = Said.Extended; table = with_file (extended_file f (f.size + bytes) t) t }
    )

-- ---- remove

-- a grant of it is open
abbrev pub remove_refusal : File → Option No
remove_refusal f = first_no ((not (length f.open_grants == 0), No.InUse) ∷ [])

-- the file goes
abbrev pub remove_step : Option File → Table → FileStep
remove_step None t = answer_step (Said.No No.NoFile) t
remove_step (Some f) t =
    step_unless (remove_refusal f) t (record { said = Said.Removed; table = without_file f.name t })

-- ---- open and close, which leave the table

-- the part that is to be granted, or none behind the file's end
abbrev pub extent_said : ℕ → Option Extent → Said
extent_said g None = Said.Nothing
extent_said g (Some x) = Said.Part g x.at x.len

-- a file is to be opened at an offset
abbrev pub open_said : Option File → ℕ → Table → Said
open_said None off t = Said.No No.NoFile
open_said (Some f) off t = extent_said t.grant (extent_of off f)

-- whether the file is open with this grant
abbrev pub has_open : ℕ → File → Bool
has_open g f = list_any (λ h. h == g) f.open_grants

-- a grant is to be revoked, where a file is open with it
abbrev pub close_said : ℕ → Table → Said
close_said g t = if list_any (has_open g) t.files then Said.Revoke else Said.Nothing

-- ---- any line

-- the step of a line
abbrev pub file_step : Table → FileLine → FileStep
file_step t (FileLine.Create name) = create_step name t
file_step t (FileLine.Extend name bytes) = extend_step (file_named name t) bytes t
file_step t (FileLine.Remove name) = remove_step (file_named name t) t
file_step t (FileLine.Open name off act ep perm) =
    answer_step (open_said (file_named name t) off t) t
file_step t (FileLine.Close g) = answer_step (close_said g t) t
