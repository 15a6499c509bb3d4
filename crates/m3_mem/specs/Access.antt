-- One access to the memory: its answer, and the bytes after it.
use Rattle.std.specs.Prelude.{ℕ, ◌+◌, ◌≤◌, List, length}
use Rattle.m3_base.specs.declared.command.Answer.{Answer}
use Rattle.m3_base.specs.declared.packet.Packet.{Packet}
use Rattle.m3_base.specs.Ideal.Landing.{bytes_at, written_at}

-- a read or a write whose bytes lie inside
abbrev pub CanServe : List ℕ → Packet → Type 0
CanServe memory (Packet.Read id g place buffer) = place + length buffer ≤ length memory
CanServe memory (Packet.Write id g place payload) = place + length payload ≤ length memory
CanServe memory p = ⊥

abbrev pub answer_of : List ℕ → Packet → Packet
answer_of memory (Packet.Read id g place buffer) = Packet.Answer id (Answer.Bytes (bytes_at place (length buffer) memory))
answer_of memory (Packet.Write id g place payload) = Packet.Answer id Answer.Written
answer_of memory p = p

abbrev pub after_access : List ℕ → Packet → List ℕ
after_access memory (Packet.Write id g place payload) = written_at place payload memory
after_access memory p = memory
