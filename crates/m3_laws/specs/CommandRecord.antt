-- The record that each flying command needs.
use Rattle.std.specs.Prelude.{◌≡◌, ℕ, true, Option, Some, None}
use Rattle.m3_base.specs.Ideal.Context.{Kind, Sending, Replying, Reading, Writing, Flying, Fetched, Endpoint, Sends, Receives, Reaches, Context, endpoint}
use Rattle.m3_base.specs.Ideal.ReceiveRecord.{fetched_at}
use Rattle.m3_base.specs.Ideal.Landing.{flying_at}

-- a message that was looked up is being replied to, and is no reply itself
abbrev pub IsBeingRepliedTo : Option Fetched → Type 0
IsBeingRepliedTo None = ⊥
IsBeingRepliedTo (Some f) = (f.marked ≡ true) × (f.message.header.flags ≡ 0)

-- the record that a flying command of this kind and token needs
abbrev pub IsRecordFor : Kind → ℕ → Endpoint → Type 0
IsRecordFor Sending t (Sends r) = Unit {0}
IsRecordFor Replying t (Receives r) = IsBeingRepliedTo (fetched_at t r.fetched)
IsRecordFor Reading t (Reaches r) = Unit {0}
IsRecordFor Writing t (Reaches r) = Unit {0}
IsRecordFor k t e = ⊥

abbrev pub CommandHasRecord : Context → Option Flying → Type 0
CommandHasRecord c None = Unit {0}
CommandHasRecord c (Some f) = IsRecordFor f.kind f.token (endpoint c f.ep)

-- each flying command has its record
abbrev pub CommandsHaveRecords : Context → Type 0
CommandsHaveRecords c = (k : ℕ) → CommandHasRecord c (flying_at k c.flying)
