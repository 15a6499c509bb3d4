-- What the calls of a receive record answer and leave.
use Rattle.std.specs.Prelude.{ℕ, ◌+◌, ◌<◌, Bool, true, false, [], ◌∷◌, length, slice_get, Option, Some, None, Result, Ok, Err, option_map, if◌then◌else◌}
use Rattle.m3_base.specs.declared.message.Header.{Header}
use Rattle.m3_base.specs.declared.message.Message.{Message}
use Rattle.m3_base.specs.declared.command.Refusal.{Refusal}
use Rattle.m3_base.specs.Ideal.Context.{Fetched, ReceiveRecord}
use Rattle.m3_base.specs.Ideal.ReceiveRecord.{is_full, fetched_at, unmarked_message, without_fetched, with_mark_at, fetched_token, fetched_one, has_mark}
use Rattle.m3_base.specs.Ideal.Issue.{wants_no_reply}
use Rattle.m3_base.specs.Lists.Counting.{how_many}
use Rattle.m3_base.specs.Ideal.Credits.{is_sent_by, is_owed}

abbrev pub closing_one : ReceiveRecord → ReceiveRecord
closing_one r = record r { closing = true }

abbrev pub is_full_one : Option ReceiveRecord → Bool
is_full_one None = false
is_full_one (Some r) = is_full r

-- the next token is below the largest number
abbrev pub HasToken : Option ReceiveRecord → Type 0
HasToken None = Unit {0}
HasToken (Some r) = r.next_token < 4294967295

-- the token of the message that a fetch takes
abbrev pub token_of_fetch : Option ReceiveRecord → Option ℕ
token_of_fetch None = None
token_of_fetch (Some r) = fetched_token r r.unread

abbrev pub after_fetch : Option ReceiveRecord → Option ReceiveRecord
after_fetch None = None
after_fetch (Some r) = Some (fetched_one r r.unread)

-- the unread message with i older ones
abbrev pub unread_at : Option ReceiveRecord → ℕ → Option Message
unread_at None i = None
unread_at (Some r) i = slice_get r.unread i

abbrev pub token_in : Fetched → ℕ
token_in f = f.token

abbrev pub message_in : Fetched → Message
message_in f = f.message

-- the fetched message of this token, marked or not
abbrev pub message_at : ℕ → Option ReceiveRecord → Option Message
message_at t None = None
message_at t (Some r) = option_map message_in (fetched_at t r.fetched)

-- the fetched message of this token, unless it is being replied to
abbrev pub unmarked_at : ℕ → Option ReceiveRecord → Option Message
unmarked_at t None = None
unmarked_at t (Some r) = unmarked_message (fetched_at t r.fetched)

abbrev pub marked_at : ℕ → Option ReceiveRecord → Bool
marked_at t None = false
marked_at t (Some r) = has_mark (fetched_at t r.fetched)

abbrev pub header_or_refusal : Option Message → Result Header Refusal
header_or_refusal None = Err Refusal.NoSuchToken
header_or_refusal (Some m) = Ok m.header

abbrev pub reply_header : Option Message → Result Header Refusal
reply_header None = Err Refusal.NoSuchToken
reply_header (Some m) = if wants_no_reply (Some m) then Err Refusal.NoReplyWanted else Ok m.header

-- a reply has landed, or was refused
abbrev pub with_reply_mark : Bool → ℕ → ReceiveRecord → ReceiveRecord
with_reply_mark true t r = without_fetched r t
with_reply_mark false t r = with_mark_at false r t

-- ---- readers

abbrev pub grant_in : ReceiveRecord → ℕ
grant_in r = r.grant

abbrev pub size_in : ReceiveRecord → ℕ
size_in r = r.size

abbrev pub closing_in : ReceiveRecord → Bool
closing_in r = r.closing

abbrev pub next_token_in : ReceiveRecord → ℕ
next_token_in r = r.next_token

abbrev pub unread_count : ReceiveRecord → ℕ
unread_count r = length r.unread

abbrev pub fetched_count : ReceiveRecord → ℕ
fetched_count r = length r.fetched

-- the token of the fetched message with i before it
abbrev pub token_at : Option ReceiveRecord → ℕ → Option ℕ
token_at None i = None
token_at (Some r) i = option_map token_in (slice_get r.fetched i)

-- the fetched message with i before it
abbrev pub message_in_order : Option ReceiveRecord → ℕ → Option Message
message_in_order None i = None
message_in_order (Some r) i = option_map message_in (slice_get r.fetched i)

-- the messages sent through g that aren't replies, unread, or fetched and not being replied to
abbrev pub queued_in : ℕ → ReceiveRecord → ℕ
queued_in g r = how_many (is_sent_by g) r.unread + how_many (is_owed g) r.fetched
