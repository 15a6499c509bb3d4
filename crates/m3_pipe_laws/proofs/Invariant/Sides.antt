-- A writer and a reader with the records that the setup gave them.
use Rattle.std.specs.Prelude.{◌≡◌, ◌≢◌, ℕ, Bool, List}
use Rattle.m3_base.specs.Ideal.Context.{SendRecord, ReceiveRecord, MemoryRecord}
use Rattle.m3_pipe_laws.specs.Protocol.{Writer, Reader, piece, has_piece}
use Rattle.m3_pipe_laws.specs.Pipe.{SameRing}
use Rattle.m3_pipe_laws.specs.Ring.{place_of}

-- what stays the same in the whole run
pub record Sides : Type 0 where
  pub w : ℕ
  pub r : ℕ
  pub writer : Writer
  pub reader : Reader
  pub out : MemoryRecord
  pub into : MemoryRecord
  pub notices : SendRecord
  pub inbox : ReceiveRecord
  pub replies : ReceiveRecord

abbrev pub piece_of : Sides → ℕ → List ℕ
piece_of e i = piece e.writer.chunk e.writer.bytes i

abbrev pub has_one : Sides → ℕ → Bool
has_one e i = has_piece e.writer.chunk e.writer.bytes i

abbrev pub place_at : Sides → ℕ → ℕ
place_at e i = place_of e.writer e.out.start i

pub record SidesOk (e : Sides) : Type 0 where
  pub apart : e.w ≢ e.r
  pub numbers : SameRing e.writer e.reader
  pub same_start : e.into.start ≡ e.out.start
