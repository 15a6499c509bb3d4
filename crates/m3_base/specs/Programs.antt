-- The moves of programs.
use Rattle.std.specs.Prelude.{Bool, true}
use Rattle.m3_base.specs.declared.program.Move.{Move}
use Rattle.m3_base.specs.Limits.{is_short}

-- its payload, where it has one, has at most 8,192 bytes
abbrev pub is_short_move : Move → Bool
is_short_move (Move.Do command) = is_short command
is_short_move (Move.Await ep) = true
is_short_move Move.Ended = true
