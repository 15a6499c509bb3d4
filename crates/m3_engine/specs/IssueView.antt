-- What a program is told of a fetch.
use Rattle.std.specs.Prelude.{ℕ, Option, Some, None}
use Rattle.m3_base.specs.declared.command.Reply.{Reply}
use Rattle.m3_base.specs.declared.message.Message.{Message}

-- of a fetch of this message, with this token
abbrev pub fetched_reply : Option Message → Option ℕ → Reply
fetched_reply (Some m) (Some token) = Reply.Fetched token m
fetched_reply None (Some token) = Reply.Nothing
fetched_reply m None = Reply.Nothing
