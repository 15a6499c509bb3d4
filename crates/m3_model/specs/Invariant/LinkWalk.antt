-- The walk along the kernel's link to a tile, over the parcels themselves.
use Rattle.std.specs.Prelude.{◌≡◌, ℕ, ◌==◌, List, [], ◌∷◌, Option, Some, None, if◌then◌else◌}
use Rattle.m3_base.specs.Placement.Routing.{target}
use Rattle.m3_base.specs.Placement.Take.{is_here}
use Rattle.m3_model.specs.Config.Site.{Site}
use Rattle.m3_model.specs.Parcel.{Parcel, Data, Save, Saved, Restore, Yield, Closed}
use Rattle.m3_model.specs.Kernel.State.{ActivityEntry, Kernel}
use Rattle.m3_model.specs.Kernel.Step.{placed_at}

-- ---- the walk along the kernel's link to a tile, over the parcels themselves

-- where the walk is: off, or at a tile with this current activity
pub data Walk : Type 0 where
  Off : Walk
  At : Option ℕ → Walk

abbrev pub leaves : ℕ → Option ℕ → Walk
leaves a None = Off
leaves a (Some b) = if b == a then At None else Off

abbrev pub comes : ℕ → Option ℕ → Walk
comes a None = At (Some a)
comes a (Some b) = Off

abbrev pub passes : Walk → Parcel → Walk
passes Off q = Off
passes (At c) (Data p) = if is_here (target p) c then At c else Off
passes (At c) (Save a) = leaves a c
passes (At c) (Restore a x xs) = comes x.act c
passes (At c) (Saved a x w e) = Off
passes (At c) (Yield a) = Off
passes (At c) (Closed g) = Off

abbrev pub walk : Walk → List Parcel → Walk
walk w [] = w
walk w (q ∷ qs) = walk (passes w q) qs

-- the walk from this current activity ends at that one
abbrev pub CurrentAlongLink : Option ℕ → List Parcel → Option ℕ → Type 0
CurrentAlongLink current qs placed = walk (At current) qs ≡ At placed

abbrev pub act_of_entry : Option ActivityEntry → Option ℕ
act_of_entry None = None
act_of_entry (Some x) = Some x.act

-- the tile's activity that is Placed
abbrev pub placed_on : Site → ℕ → Kernel → Option ℕ
placed_on h t k = act_of_entry (placed_at h t k.seats)
