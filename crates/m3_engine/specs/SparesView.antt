-- What the memory is enough for that a turn may use.
use Rattle.std.specs.Prelude.{◌≤◌}
use Rattle.m3_engine.specs.declared.spares.Spares.{Spares}

-- a payload of a move, a read, and a message for the entry and for the program
pub record AreFull (s : Spares) : Type 0 where
  pub payload : 8192 ≤ s.payload
  pub buffer : 4096 ≤ s.buffer
  pub shown : 512 ≤ s.shown
  pub reply : 512 ≤ s.reply
