-- Where a packet goes: the kernel's one rule.
use Rattle.std.specs.Prelude.{ℕ, ◌+◌, Bool, true, false, [], ◌∷◌, ◌++◌, Option, Some, None, if◌then◌else◌}
use Rattle.m3_base.specs.declared.ids.FlightId.{FlightId}
use Rattle.m3_base.specs.declared.packet.Packet.{Packet}
use Rattle.m3_base.specs.Placement.State.{Data, PlacedActivity, Placement, actor, home, is_placed, with_actor, with_token}

-- ---- routing

-- the activity that a packet is for; a read or a write is for tile 1, and here for nobody
abbrev pub target : Packet → Option ℕ
target (Packet.Message to ep grant message) = Some to
target (Packet.Credit id to grant) = Some to
target (Packet.Read id grant place buffer) = None
target (Packet.Write id grant place payload) = None
target (Packet.Answer id answer) = Some id.issuer
target (Packet.Install id to ep fresh) = Some to
target (Packet.Close id to ep grant) = Some to

abbrev pub target_of : Option Packet → Option ℕ
target_of None = None
target_of (Some x) = target x

-- the tile that a new packet goes to
abbrev pub tile_for : Option ℕ → Placement → ℕ
tile_for None p = 1
tile_for (Some a) p = home a p

abbrev pub with_held : FlightId → PlacedActivity → Placement → Placement
with_held id x p = with_actor (record x { hold = x.hold ++ id ∷ [] }) p

pub record Routed : Type 0 where
  pub held : Bool
  pub places : Placement

-- the kernel's one rule: on the home link of a Placed activity, else at the back of its hold list
abbrev pub route : FlightId → Option PlacedActivity → Placement → Routed
route id None p = record { held = false; places = p }
route id (Some x) p =
    if is_placed x.place
    then record { held = false; places = with_token 0 x.home (Data id) p }
    else record { held = true; places = with_held id x p }

abbrev pub actor_for : Option ℕ → Placement → Option PlacedActivity
actor_for None p = None
actor_for (Some a) p = actor a p
