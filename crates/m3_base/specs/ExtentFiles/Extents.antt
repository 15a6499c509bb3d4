-- The blocks of files: which are free, how they lie in extents, and the content that memory has in
-- them.
use Rattle.std.specs.Prelude.{ℕ, ◌+◌, ◌-◌, ◌*◌, ◌/◌, Bool, not, ◌==◌, nat_lt, min, List, [], ◌∷◌, take, Option, Some, None, if◌then◌else◌}
use Rattle.std.specs.List.{list_any, filter, flat_map, range_with_len}
use Rattle.m3_base.specs.Ideal.Landing.{bytes_at}
use Rattle.m3_base.specs.ExtentFiles.Table.{File, Table, block_size}

-- ---- blocks

-- whether the file has this block
abbrev pub has_block : ℕ → File → Bool
has_block b f = list_any (λ c. c == b) f.blocks

-- whether no file has it
abbrev pub is_free_block : Table → ℕ → Bool
is_free_block t b = not (list_any (has_block b) t.files)

-- the free blocks, the least first
abbrev pub free_blocks : Table → List ℕ
free_blocks t = filter (is_free_block t) (range_with_len 0 t.block_count)

-- how many blocks so many bytes need
abbrev pub blocks_for : ℕ → ℕ
blocks_for size = (size + (block_size - 1)) / block_size

-- ---- extents

-- as many blocks as can be that follow one another in the file and in memory
pub record BlockRun : Type 0 where
  pub first : ℕ
  pub count : ℕ

-- a block by itself
abbrev pub one_block : ℕ → BlockRun
one_block b = record { first = b; count = 1 }

-- a block before the first of these runs
abbrev pub with_block : ℕ → List BlockRun → List BlockRun
with_block b [] = one_block b ∷ []
with_block b (r ∷ rs) =
    if r.first == b + 1
    then record { first = b; count = r.count + 1 } ∷ rs
    else one_block b ∷ r ∷ rs

-- the runs of a file's blocks
abbrev pub block_runs : List ℕ → List BlockRun
block_runs [] = []
block_runs (b ∷ bs) = with_block b (block_runs bs)

-- a start, counted from the start of the files' grant, and a length in bytes
pub record Extent : Type 0 where
  pub at : ℕ
  pub len : ℕ

-- the extent that holds the byte at this offset, of these runs with so many bytes
abbrev pub extent_at : ℕ → ℕ → List BlockRun → Option Extent
extent_at off size [] = None
extent_at off size (r ∷ rs) =
    if nat_lt off (r.count * block_size)
    then Some (record { at = r.first * block_size; len = min (r.count * block_size) size })
    else extent_at (off - r.count * block_size) (size - r.count * block_size) rs

-- the extent that holds the byte at this offset of a file, where it has one
abbrev pub extent_of : ℕ → File → Option Extent
extent_of off f = if nat_lt off f.size then extent_at off f.size (block_runs f.blocks) else None

-- ---- content

-- the bytes of a block; the files' grant begins at start
abbrev pub block_bytes : ℕ → List ℕ → ℕ → List ℕ
block_bytes start memory b = bytes_at (start + b * block_size) block_size memory

-- the bytes of a file
abbrev pub content_of : ℕ → List ℕ → File → List ℕ
content_of start memory f = take f.size (flat_map (block_bytes start memory) f.blocks)
