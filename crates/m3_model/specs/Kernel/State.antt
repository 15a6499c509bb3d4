-- The kernel as plain data: an entry for each activity, its grants and ready lists.
use Rattle.std.specs.Prelude.{ℕ, Bool, List, []}
use Rattle.m3_base.specs.declared.packet.Packet.{Packet}
use Rattle.m3_base.specs.Ideal.Context.{Context}
use Rattle.m3_base.specs.Ideal.State.{Grant}
use Rattle.m3_model.specs.Parcel.{Heard}

-- ---- the kernel

-- what the kernel has of an activity that is away from its tile
pub record SavedActivity : Type 0 where
  pub context : Context
  pub heard : List Heard
  -- as its last Saved told
  pub ended : Bool

pub data EntryResidency : Type 0 where
  Is_placed Is_leaving : EntryResidency
  Is_resting Is_coming : SavedActivity → EntryResidency

pub record ActivityEntry : Type 0 where
  pub act : ℕ
  pub seating : EntryResidency
  pub hold : List Packet

pub record Kernel : Type 0 where
  pub seats : List ActivityEntry
  pub next : ℕ
  -- a grant that is closed stands as closing here, until its Closed is taken
  pub grants : List Grant
  -- for each tile, the activities that are ready, and whether a Yield of this stay was taken
  pub ready : List (List ℕ)
  pub yielded : List Bool
