-- The messages of a receive record have headers in their ranges.
use Rattle.std.specs.Prelude.{◌≡◌, ◌<◌, ◌≤◌, Bool, true, Option, Some, None}
use Rattle.std.specs.List.{list_all}
use Rattle.m3_base.specs.declared.message.Header.{Header}
use Rattle.m3_base.specs.Ideal.Context.{Fetched, ReceiveRecord}
use Rattle.m3_base.specs.Ideal.Acceptance.{is_message}
use Rattle.m3_endpoint.specs.declared.endpoint.Record.{Record}

abbrev pub is_sound_fetched : Fetched → Bool
is_sound_fetched f = is_message f.message

-- a used record with sound messages
abbrev pub IsSoundIn : Option ReceiveRecord → Type 0
IsSoundIn None = ⊥
IsSoundIn (Some r) = (list_all is_message r.unread ≡ true) × (list_all is_sound_fetched r.fetched ≡ true)

-- a receive record there is used, with sound messages
abbrev pub IsSoundRecord : Record → Type 0
IsSoundRecord (Record.Receive r) = IsSoundIn r
IsSoundRecord e = Unit {0}

-- the send grant is a grant's number
abbrev pub HasSender : Header → Type 0
HasSender h = (0 < h.send) × (h.send ≤ 4096)

-- the reply endpoint is an endpoint's number, and its grant a grant's
abbrev pub HasReplyPlace : Header → Type 0
HasReplyPlace h = (h.reply_ep < 16) × (0 < h.reply) × (h.reply ≤ 4096)
