-- The way from the kernel to an activity: the link to its home, and then its hold list. No Install of a grant stands on
-- it behind the grant's Close.
use Rattle.std.specs.Prelude.{◌≡◌, ℕ, ◌<◌, ◌≤◌, false, ◌==◌, List, [], ◌∷◌, ◌++◌, length, Some, if◌then◌else◌}
use Rattle.m3_base.specs.declared.packet.Packet.{Packet}
use Rattle.m3_base.specs.Ideal.Step.{is_install_of}
use Rattle.m3_base.specs.Placement.Routing.{target}
use Rattle.m3_base.specs.Placement.Take.{is_here}
use Rattle.m3_base.specs.Lists.EachElement.{Each}
use Rattle.m3_model.specs.Config.Site.{Site, tile_of}
use Rattle.m3_model.specs.Parcel.{Parcel, Data, Save, Saved, Restore, Yield, Closed}
use Rattle.m3_model.specs.Kernel.State.{ActivityEntry}
use Rattle.m3_model.specs.Machine.{Machine, link_at}
use Rattle.m3_model.specs.Abstraction.{flat_map}

-- ---- packets

-- neither an Install nor a Close
abbrev pub IsPlain : Packet → Type 0
IsPlain (Packet.Message to ep g m) = Unit {0}
IsPlain (Packet.Credit id to g) = Unit {0}
IsPlain (Packet.Read id g place buffer) = Unit {0}
IsPlain (Packet.Write id g place payload) = Unit {0}
IsPlain (Packet.Answer id answer) = Unit {0}
IsPlain (Packet.Install id to ep f) = ⊥
IsPlain (Packet.Close id to ep g) = ⊥

-- the second may stand behind the first: it isn't the Install of the grant that the first closes
abbrev pub MayFollow : Packet → Packet → Type 0
MayFollow (Packet.Message to ep g m) q = Unit {0}
MayFollow (Packet.Credit id to g) q = Unit {0}
MayFollow (Packet.Read id g place buffer) q = Unit {0}
MayFollow (Packet.Write id g place payload) q = Unit {0}
MayFollow (Packet.Answer id answer) q = Unit {0}
MayFollow (Packet.Install id to ep f) q = Unit {0}
MayFollow (Packet.Close id to ep g) q = is_install_of g q ≡ false

abbrev pub InstallsFirst : List Packet → Type 0
InstallsFirst [] = Unit {0}
InstallsFirst (p ∷ ps) = Each (MayFollow p) ps × InstallsFirst ps

-- a Close is of a grant that there is, where there are n
abbrev pub ClosesOneOf : ℕ → Packet → Type 0
ClosesOneOf n (Packet.Message to ep g m) = Unit {0}
ClosesOneOf n (Packet.Credit id to g) = Unit {0}
ClosesOneOf n (Packet.Read id g place buffer) = Unit {0}
ClosesOneOf n (Packet.Write id g place payload) = Unit {0}
ClosesOneOf n (Packet.Answer id answer) = Unit {0}
ClosesOneOf n (Packet.Install id to ep f) = Unit {0}
ClosesOneOf n (Packet.Close id to ep g) = g ≤ n

-- an Install or a Close is on the kernel's link to the home of its activity
abbrev pub IsOwn : Site → ℕ → ℕ → ℕ → Packet → Type 0
IsOwn h n from to (Packet.Message a ep g m) = Unit {0}
IsOwn h n from to (Packet.Credit id a g) = Unit {0}
IsOwn h n from to (Packet.Read id g place buffer) = Unit {0}
IsOwn h n from to (Packet.Write id g place payload) = Unit {0}
IsOwn h n from to (Packet.Answer id answer) = Unit {0}
IsOwn h n from to (Packet.Install id a ep f) = (from ≡ 0) × (to ≡ tile_of h a)
IsOwn h n from to (Packet.Close id a ep g) = (from ≡ 0) × (to ≡ tile_of h a) × (g ≤ n)

abbrev pub OwnFrom : Site → ℕ → ℕ → ℕ → Parcel → Type 0
OwnFrom h n from to (Data p) = IsOwn h n from to p
OwnFrom h n from to (Save a) = Unit {0}
OwnFrom h n from to (Saved a c waiting ended) = Unit {0}
OwnFrom h n from to (Restore a c xs) = Unit {0}
OwnFrom h n from to (Yield a) = Unit {0}
OwnFrom h n from to (Closed g) = Unit {0}

-- ---- ways

abbrev pub packets_for : ℕ → Parcel → List Packet
packets_for a (Data p) = if is_here (target p) (Some a) then p ∷ [] else []
packets_for a (Save b) = []
packets_for a (Saved b c waiting ended) = []
packets_for a (Restore b c xs) = []
packets_for a (Yield b) = []
packets_for a (Closed g) = []

-- over the kernel's links by tile
abbrev pub way_by : Site → (ℕ → List Parcel) → ActivityEntry → List Packet
way_by h links x = flat_map (packets_for x.act) (links (tile_of h x.act)) ++ x.hold

abbrev pub way : Site → Machine → ActivityEntry → List Packet
way h m x = way_by h (λ t. link_at 0 t m) x

abbrev pub HasWay : Site → ℕ → (ℕ → List Parcel) → ActivityEntry → Type 0
HasWay h n links x = InstallsFirst (way_by h links x) × Each (ClosesOneOf n) x.hold

pub record IsOnWay (h : Site) (m : Machine) : Type 0 where
  pub own : (from to : ℕ) → from < 16 → to < 16 → Each (OwnFrom h (length m.kernel.grants) from to) (link_at from to m)
  pub seats : Each (HasWay h (length m.kernel.grants) (λ t. link_at 0 t m)) m.kernel.seats
