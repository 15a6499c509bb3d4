-- The ring alone: which chunks were written, announced, read, and given back.
use Rattle.std.specs.Prelude.{◌≡◌, ℕ, zero, suc, ◌+◌, ◌*◌, ◌<◌, ◌≤◌, true, List, [], ◌++◌, length}
use Rattle.m3_base.specs.Ideal.Landing.{bytes_at, written_at}
use Rattle.m3_pipe_laws.specs.Protocol.{Writer, slot, piece, has_piece}
use Rattle.m3_pipe_laws.specs.Pipe.{Disjoint}

pub record Line : Type 0 where
  pub memory : List ℕ
  -- chunks whose write landed, whose notice landed, whose read landed, whose reply landed, and
  -- whose reply the writer has
  pub written : ℕ
  pub noticed : ℕ
  pub read : ℕ
  pub replied : ℕ
  pub back : ℕ
  -- the bytes of the reads that landed
  pub got : List ℕ

-- where a chunk stands in memory
abbrev pub place_of : Writer → ℕ → ℕ → ℕ
place_of w start i = start + slot w.ring w.chunk i

-- one landing, fetch or acknowledgement
pub data Moves (w : Writer) (start : ℕ) : Line → Line → Type 0 where
  Write_lands :
      (l : Line)
      → l.written ≡ l.noticed
      → has_piece w.chunk w.bytes l.written ≡ true
      → l.written < l.back + w.ring
      → Moves w start l
      (record l {
        memory = written_at (place_of w start l.written) (piece w.chunk w.bytes l.written)
            l.memory;
        written = l.written + 1;
      })
  Notice_lands :
      (l : Line)
      → l.noticed < l.written
      → Moves w start l (record l { noticed = l.noticed + 1 })
  Read_lands :
      (l : Line)
      → l.read < l.noticed
      → Moves w start l
      (record l {
        read = l.read + 1;
        got = l.got
            ++ bytes_at (place_of w start l.read) (length (piece w.chunk w.bytes l.read)) l.memory;
      })
  Reply_lands :
      (l : Line)
      → l.replied < l.read
      → Moves w start l (record l { replied = l.replied + 1 })
  Comes_back : (l : Line) → l.back < l.replied → Moves w start l (record l { back = l.back + 1 })
  Other_write :
      (l : Line) (place : ℕ) (bytes : List ℕ)
      → Disjoint start (w.ring * w.chunk) place (length bytes)
      → Moves w start l (record l { memory = written_at place bytes l.memory })

pub data Reaches (w : Writer) (start : ℕ) : Line → Line → Type 0 where
  Here : (l : Line) → Reaches w start l l
  Then : (l m n : Line) → Reaches w start l m → Moves w start m n → Reaches w start l n

abbrev pub empty_line : List ℕ → Line
empty_line memory =
    record { memory = memory; written = 0; noticed = 0; read = 0; replied = 0; back = 0; got = [] }

-- the first n chunks, joined
abbrev pub pieces : ℕ → List ℕ → ℕ → List ℕ
pieces chunk bytes zero = []
pieces chunk bytes (suc n) = pieces chunk bytes n ++ piece chunk bytes n

-- the invariant
pub record LineOk (w : Writer) (start : ℕ) (l : Line) : Type 0 where
  pub inside : start + w.ring * w.chunk ≤ length l.memory
  pub back_most : l.back ≤ l.replied
  pub replied_most : l.replied ≤ l.read
  pub read_most : l.read ≤ l.noticed
  pub noticed_most : l.noticed ≤ l.written
  pub window : l.written ≤ l.back + w.ring
  -- what was written and not read stands in its slot
  pub content :
      (i : ℕ)
      → l.read ≤ i
      → i < l.written
      → bytes_at (place_of w start i) (length (piece w.chunk w.bytes i)) l.memory
      ≡ piece w.chunk w.bytes i
  pub got : l.got ≡ pieces w.chunk w.bytes l.read
