-- What a receive record is to a reader, and what it keeps: room for all its slots, from the start.
use Rattle.std.specs.Prelude.{◌≡◌, ◌+◌, ◌≤◌, false, [], length, Option, Some, None, if◌then◌else◌, vec_capacity, IsTrue}
use Rattle.m3_base.specs.Ideal.Context.{ReceiveRecord}
use Rattle.m3_base.specs.Ideal.Acceptance.{is_form}
use Rattle.m3_endpoint.specs.declared.receive.ReceiveEp.TheInside.{Inside}
use Rattle.m3_endpoint.specs.TokenOrder.{AreOrdered}
use Rattle.m3_endpoint.specs.RecordForms.{receive_form}

abbrev pub messages : Inside → ReceiveRecord
messages s =
    record {
      grant = s.grant;
      slots = s.slots;
      size = s.size;
      unread = s.unread.items;
      fetched = s.fetched.items;
      next_token = s.next_token;
      closing = s.closing;
    }

abbrev pub receive_record : Inside → Option ReceiveRecord
receive_record s = if s.used then Some (messages s) else None

pub record IsKept (s : Inside) : Type 0 where
  pub ring : s.unread.capacity ≡ 32
  pub room : 32 ≤ vec_capacity s.fetched
  pub within : length s.unread.items + length s.fetched.items ≤ s.slots
  pub ordered : AreOrdered 0 s.fetched.items s.next_token
  pub form : IsTrue (is_form (receive_form (messages s)))
  pub unused : s.used ≡ false → (s.unread.items ≡ []) × (s.fetched.items ≡ [])
