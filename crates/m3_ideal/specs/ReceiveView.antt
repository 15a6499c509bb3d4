-- What a receive record is to a reader, and the room that it keeps for its slots.
use Rattle.std.specs.Prelude.{◌+◌, ◌≤◌, length, vec_capacity}
use Rattle.std.specs.VecDeque.{deque_capacity}
use Rattle.m3_base.specs.Ideal.Context.{ReceiveRecord}
use Rattle.m3_ideal.specs.declared.records.ReceiveEnd.TheInside.{Inside}

abbrev pub receive_record : Inside → ReceiveRecord
receive_record r =
    record {
      grant = r.grant;
      slots = r.slots;
      size = r.size;
      unread = r.unread.items;
      fetched = r.fetched.items;
      next_token = r.next_token;
      closing = r.closing;
    }

pub record HasRoom (r : Inside) : Type 0 where
  pub unread : r.slots ≤ deque_capacity r.unread
  pub fetched : r.slots ≤ vec_capacity r.fetched
  pub within : length r.unread.items + length r.fetched.items ≤ r.slots
