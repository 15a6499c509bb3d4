-- What happens to the messages of a receive record.
use Rattle.std.specs.Prelude.{ℕ, ◌+◌, Bool, false, ◌==◌, nat_le, List, [], ◌∷◌, ◌++◌, length, Option, Some, None, if◌then◌else◌}
use Rattle.m3_base.specs.declared.message.Message.{Message}
use Rattle.m3_base.specs.Ideal.Context.{Fetched, ReceiveRecord}

-- unread, fetched and marked messages each have a slot
abbrev pub is_full : ReceiveRecord → Bool
is_full r = nat_le r.slots (length r.unread + length r.fetched)

abbrev pub with_unread : ReceiveRecord → Message → ReceiveRecord
with_unread r m = record r { unread = r.unread ++ m ∷ [] }

-- the oldest unread message becomes a fetched one
abbrev pub with_fetched : ReceiveRecord → Message → List Message → ReceiveRecord
with_fetched r m rest =
    record r {
      unread = rest;
      next_token = r.next_token + 1;
      fetched = r.fetched ++ record { token = r.next_token; marked = false; message = m } ∷ [];
    }

-- the token of the message that a fetch takes
abbrev pub fetched_token : ReceiveRecord → List Message → Option ℕ
fetched_token r [] = None
fetched_token r (m ∷ rest) = Some r.next_token

abbrev pub fetched_one : ReceiveRecord → List Message → ReceiveRecord
fetched_one r [] = r
fetched_one r (m ∷ rest) = with_fetched r m rest

-- the fetched message of this token
abbrev pub fetched_at : ℕ → List Fetched → Option Fetched
fetched_at t [] = None
fetched_at t (f ∷ fs) = if f.token == t then Some f else fetched_at t fs

-- the message of this token, unless it is being replied to
abbrev pub unmarked_message : Option Fetched → Option Message
unmarked_message None = None
unmarked_message (Some f) = if f.marked then None else Some f.message

abbrev pub has_mark : Option Fetched → Bool
has_mark None = false
has_mark (Some f) = f.marked

abbrev pub without_token : ℕ → List Fetched → List Fetched
without_token t [] = []
without_token t (f ∷ fs) = if f.token == t then fs else f ∷ without_token t fs

abbrev pub with_mark : Bool → ℕ → List Fetched → List Fetched
with_mark b t [] = []
with_mark b t (f ∷ fs) = if f.token == t then record f { marked = b } ∷ fs else f ∷ with_mark b t fs

-- the slot of this message is free
abbrev pub without_fetched : ReceiveRecord → ℕ → ReceiveRecord
without_fetched r t = record r { fetched = without_token t r.fetched }

-- it is being replied to, or no more
abbrev pub with_mark_at : Bool → ReceiveRecord → ℕ → ReceiveRecord
with_mark_at b r t = record r { fetched = with_mark b t r.fetched }
