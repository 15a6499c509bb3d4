-- The files over one range grant: their names, sizes, blocks and open grants.
use Rattle.std.specs.Prelude.{ℕ, Bool, true, false, ◌&&◌, ◌||◌, ◌==◌, List, [], ◌∷◌, length, Option}
use Rattle.std.specs.List.{list_all}
use Rattle.m3_base.specs.Lists.Keyed as keyed
use Rattle.m3_base.specs.Limits.{is_within}

-- a file
pub record File : Type 0 where
  -- its bytes
  pub name : List ℕ
  pub size : ℕ
  -- in the order of its content, each counted from the start of the files' grant
  pub blocks : List ℕ
  pub open_grants : List ℕ

-- the files of a grant, which has so many blocks
pub record Table : Type 0 where
  pub grant : ℕ
  pub block_count : ℕ
  pub files : List File

-- ---- limits

-- bytes of a block
abbrev pub block_size : ℕ
block_size = 256

-- blocks that are used of a grant, at most
abbrev pub most_blocks : ℕ
most_blocks = 4096

-- files of a table, at most
abbrev pub most_files : ℕ
most_files = 256

-- bytes of a file, at most
abbrev pub most_size : ℕ
most_size = 1048576

-- ---- names

-- a to z, 0 to 9, a full stop, an underscore, a hyphen
abbrev pub is_name_byte : ℕ → Bool
is_name_byte b = is_within 97 122 b || is_within 48 57 b || b == 46 || b == 95 || b == 45

-- 1 to 32 of these
abbrev pub is_file_name : List ℕ → Bool
is_file_name name = is_within 1 32 (length name) && list_all is_name_byte name

-- whether two names are the same
abbrev pub same_bytes : List ℕ → List ℕ → Bool
same_bytes [] [] = true
same_bytes (x ∷ xs) (y ∷ ys) = (x == y) && same_bytes xs ys
same_bytes xs ys = false

-- ---- files by name

-- its key in a table
abbrev pub key_of : File → List ℕ
key_of f = f.name

-- an empty file
abbrev pub new_file : List ℕ → File
new_file name = record { name = name; size = 0; blocks = []; open_grants = [] }

-- the file of this name
abbrev pub file_named : List ℕ → Table → Option File
file_named name t = keyed.find key_of same_bytes name t.files

-- these files instead
abbrev pub with_files : List File → Table → Table
with_files fs t = record t { files = fs }

-- f in place of the file of its name
abbrev pub with_file : File → Table → Table
with_file f t = with_files (keyed.with_replaced key_of same_bytes f t.files) t

-- without the file of this name
abbrev pub without_file : List ℕ → Table → Table
without_file name t = with_files (keyed.without key_of same_bytes name t.files) t
