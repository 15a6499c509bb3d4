-- The ranges of numbers that no type says.
use Rattle.std.specs.Prelude.{◌≡◌, ℕ, ◌<◌, ◌≤◌, Bool, true, ◌&&◌, nat_le, nat_lt, length}
use Rattle.m3_base.specs.declared.command.Command.{Command}
use Rattle.m3_base.specs.declared.order.GrantLine.{GrantLine}
use Rattle.m3_base.specs.Ideal.State.{holder_ep}

abbrev pub is_within : ℕ → ℕ → ℕ → Bool
is_within least most n = nat_le least n && nat_le n most

abbrev pub Within : ℕ → ℕ → ℕ → Type 0
Within least most n = (least ≤ n) × (n ≤ most)

-- a receive endpoint has 1 to 32 slots of 1 to 512 bytes, a send endpoint 1 to 32 credits, a range at least one byte
abbrev pub is_in_limits : GrantLine → Bool
is_in_limits (GrantLine.Recv act ep slots size) = is_within 1 32 slots && is_within 1 512 size
is_in_limits (GrantLine.Send act ep of label credits) = is_within 1 32 credits
is_in_limits (GrantLine.Range act ep at len perm) = nat_lt 0 len
is_in_limits (GrantLine.Part act ep of at len perm) = nat_lt 0 len

-- the endpoint of the holder is one of 16, and slots, sizes, credits or bytes keep their limits
abbrev pub HasRanges : GrantLine → Type 0
HasRanges line = (holder_ep line < 16) × (is_in_limits line ≡ true)

-- a payload that is written in a script has at most 8,192 bytes
abbrev pub is_short : Command → Bool
is_short (Command.Send ep payload reply) = nat_le (length payload) 8192
is_short (Command.Reply ep token payload) = nat_le (length payload) 8192
is_short (Command.Fetch ep) = true
is_short (Command.Acknowledge ep token) = true
is_short (Command.Read ep off len) = true
is_short (Command.Write ep off payload) = nat_le (length payload) 8192
