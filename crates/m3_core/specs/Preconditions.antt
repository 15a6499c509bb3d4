-- When a command may be issued.
use Rattle.std.specs.Prelude.{◌≡◌, ℕ, ◌≤◌, List, replicate}
use Rattle.m3_base.specs.declared.command.Command.{Command}
use Rattle.m3_base.specs.Ideal.Context.{Context, endpoint}
use Rattle.m3_core.specs.EndpointStep.{HasToken}

-- a fetch finds a next token
abbrev pub HasTokenFor : Context → Command → Type 0
HasTokenFor c (Command.Fetch ep) = HasToken (endpoint c ep)
HasTokenFor c command = Unit {0}

-- a read of at most 4,096 bytes is handed so many zeros
abbrev pub IsBufferFor : Command → List ℕ → Type 0
IsBufferFor (Command.Read ep off len) buffer = len ≤ 4096 → buffer ≡ replicate len 0
IsBufferFor command buffer = Unit {0}
