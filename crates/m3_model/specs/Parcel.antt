-- What goes between parts.
use Rattle.std.specs.Prelude.{ℕ, Bool, List, []}
use Rattle.m3_base.specs.declared.command.Answer.{Answer}
use Rattle.m3_base.specs.declared.packet.Packet.{Packet}
use Rattle.m3_base.specs.Ideal.Context.{Context}

-- ---- parcels

-- an answer that the kernel applied to an activity that was away: its command's number, and the answer
pub record Heard : Type 0 where
  pub number : ℕ
  pub answer : Answer

pub data Parcel : Type 0 where
  Data : Packet → Parcel
  Save : ℕ → Parcel
  -- the activity, its context, whether a pending Await has no unread message, whether the program has ended
  Saved : ℕ → Context → Bool → Bool → Parcel
  -- the activity, its context, and what its program is to see
  Restore : ℕ → Context → List Heard → Parcel
  Yield : ℕ → Parcel
  Closed : ℕ → Parcel
