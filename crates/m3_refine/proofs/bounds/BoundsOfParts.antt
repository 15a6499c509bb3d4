-- What parts and parcels keep low, as the journal grows by one entry.
use Rattle.std.proofs.Common.{◌≡◌, ℕ, ◌+◌, ◌*◌, List, [], ◌∷◌, ◌++◌, Option, Some, None, subst}
use Rattle.m3_base.specs.Lists.EachElement.{Each}
use Rattle.m3_merge.proofs.MergedIsRun.{each_append, each_map}
use Rattle.m3_base.specs.declared.packet.Packet.{Packet}
use Rattle.m3_base.specs.declared.event.Event.{Event}
use Rattle.m3_base.specs.Ideal.Context.{Context}
use Rattle.m3_model.specs.Config.Site.{Site}
use Rattle.m3_model.specs.Parcel.{Parcel, Data, Save, Saved, Restore, Yield, Closed}
use Rattle.m3_model.specs.Kernel.State.{EntryResidency, Is_placed, Is_leaving, Is_resting, Is_coming, ActivityEntry}
use Rattle.m3_model.specs.LocalStep.{LocalResult, data_out, closed_out}
use Rattle.m3_model.specs.Tile.Step.{new_out}
use Rattle.m3_model.specs.Machine.{Machine, Part, Kernel_part, Memory_part, Tile_part, MachineResult, link_at, with_part, with_link, with_parcel, with_parcels, rest, without_front, done_by}
use Rattle.m3_model.specs.NumberBounds.{CountersBoundedIn, TileBounded, ParcelBounded, LinkBounded, ResidencyBounded, EntryBounded, CountersBounded}
use Rattle.m3_refine.proofs.bounds.RiseByOne.{low_more}
use Rattle.m3_refine.proofs.lists.EachElement.{each_read, each_write}

-- ---- parts and what they send

abbrev pub LowPart : ℕ → Part → Type 0
LowPart n (Kernel_part k) = Each (EntryBounded n) k.seats
LowPart n (Memory_part x) = Unit {0}
LowPart n (Tile_part t) = TileBounded n t

abbrev pub LowOut : ℕ → List (ℕ × Parcel) → Type 0
LowOut n out = Each (λ x. ParcelBounded n x.1) out

abbrev pub LowDeed : ℕ → LocalResult Part → Type 0
LowDeed n d = LowPart n d.part × LowOut n d.out

abbrev pub LowMade : ℕ → Option (LocalResult Part) → Type 0
LowMade n None = Unit {0}
LowMade n (Some d) = LowDeed n d

pub low_data : (n t : ℕ) (o : Option Packet) → LowOut n (data_out t o)
low_data n t None = tt
low_data n t (Some p) = (tt, tt)

pub low_new : (h : Site) (n : ℕ) (o : Option Packet) → LowOut n (new_out h o)
low_new h n None = tt
low_new h n (Some p) = (tt, tt)

pub low_closed : (n : ℕ) (o : Option ℕ) → LowOut n (closed_out o)
low_closed n None = tt
low_closed n (Some g) = (tt, tt)

-- ---- one entry more

pub low_in_more : (n : ℕ) (o : Option Context) → CountersBoundedIn n o → CountersBoundedIn (n + 1) o
low_in_more n None l = tt
low_in_more n (Some c) l = low_more n c l

low_parcel_more : (n : ℕ) (q : Parcel) → ParcelBounded n q → ParcelBounded (n + 1) q
low_parcel_more n (Data p) l = tt
low_parcel_more n (Save a) l = tt
low_parcel_more n (Saved a c w e) l = low_more n c l
low_parcel_more n (Restore a c xs) l = low_more n c l
low_parcel_more n (Yield a) l = tt
low_parcel_more n (Closed g) l = tt

pub low_seating_more : (n : ℕ) (w : EntryResidency) → ResidencyBounded n w → ResidencyBounded (n + 1) w
low_seating_more n Is_placed l = tt
low_seating_more n Is_leaving l = tt
low_seating_more n (Is_resting y) l = low_more n y.context l
low_seating_more n (Is_coming y) l = low_more n y.context l

pub low_seats_more : (n : ℕ) (xs : List ActivityEntry) → Each (EntryBounded n) xs → Each (EntryBounded (n + 1)) xs
low_seats_more n xs l = each_map (EntryBounded n) (EntryBounded (n + 1)) (λ x k. low_seating_more n x.seating k) xs l

pub is_low_more : (n : ℕ) (m : Machine) → CountersBounded n m → CountersBounded (n + 1) m
is_low_more n m l = record {
  tiles = each_map (TileBounded n) (TileBounded (n + 1)) (λ x k. low_in_more n x.current k) m.tiles l.tiles;
  seats = low_seats_more n m.kernel.seats l.seats;
  links = each_map (LinkBounded n) (LinkBounded (n + 1)) (λ x k. each_map (ParcelBounded n) (ParcelBounded (n + 1)) (low_parcel_more n) x k) m.links l.links;
}

pub low_deed_more : (n : ℕ) (d : LocalResult Part) → LowDeed n d → LowDeed (n + 1) d
low_deed_more n d l = (part_more d.part l.0, each_map (λ x. ParcelBounded n x.1) (λ x. ParcelBounded (n + 1) x.1) (λ x k. low_parcel_more n x.1 k) d.out l.1)
  where
    part_more : (x : Part) → LowPart n x → LowPart (n + 1) x
    part_more (Kernel_part k) p = low_seats_more n k.seats p
    part_more (Memory_part x) p = tt
    part_more (Tile_part t) p = low_in_more n t.current p

-- ---- what a step does with them

low_part : (n t : ℕ) (m : Machine) (x : Part) → CountersBounded n m → LowPart n x → CountersBounded n (with_part t x m)
low_part n t m (Kernel_part k) l p = record { tiles = l.tiles; seats = p; links = l.links }
low_part n t m (Memory_part x) l p = record { tiles = l.tiles; seats = l.seats; links = l.links }
low_part n t m (Tile_part x) l p = record { tiles = each_write (TileBounded n) m.tiles t x l.tiles p; seats = l.seats; links = l.links }

low_link : (n from to : ℕ) (m : Machine) (qs : List Parcel) → CountersBounded n m → LinkBounded n qs → CountersBounded n (with_link from to qs m)
low_link n from to m qs l p = record { tiles = l.tiles; seats = l.seats; links = each_write (LinkBounded n) m.links (16 * from + to) qs l.links p }

pub low_at_link : (n from to : ℕ) (m : Machine) → CountersBounded n m → LinkBounded n (link_at from to m)
low_at_link n from to m l = each_read (LinkBounded n) m.links (16 * from + to) [] l.links tt

low_pushed : (n from : ℕ) (out : List (ℕ × Parcel)) (m : Machine) → CountersBounded n m → LowOut n out → CountersBounded n (with_parcels from out m)
low_pushed n from [] m l o = l
low_pushed n from (x ∷ xs) m l o =
    low_pushed n from xs (with_parcel from x m) (
    low_link n from x.0 m (link_at from x.0 m ++ x.1 ∷ []) l (each_append (ParcelBounded n) (link_at from x.0 m) (x.1 ∷ []) (low_at_link n from x.0 m l) (o.0, tt))
    ) o.1

low_rest : (n : ℕ) (qs : List Parcel) → LinkBounded n qs → LinkBounded n (rest qs)
low_rest n [] l = tt
low_rest n (q ∷ qs) l = l.1

low_popped : (n : ℕ) (e : Event) (m : Machine) → CountersBounded n m → CountersBounded n (without_front e m)
low_popped n (Event.Take to from) m l = low_link n from to m (rest (link_at from to m)) l (low_rest n (link_at from to m) (low_at_link n from to m l))
low_popped n (Event.Do a c) m l = l
low_popped n (Event.Turn a) m l = l
low_popped n (Event.Tend a) m l = l
low_popped n Event.Close m l = l
low_popped n (Event.Order o) m l = l
low_popped n (Event.File f) m l = l

-- a step whose part stays low leaves a low machine
pub low_done : (n t : ℕ) (e : Event) (m : Machine) (o : Option (LocalResult Part)) (d : MachineResult) → CountersBounded n m → LowMade (n + 1) o → done_by t (without_front e m) o ≡ Some d → CountersBounded (n + 1) d.machine
low_done n t e m None d l p is = absurd (cc)
low_done n t e m (Some x) d l p is =
    subst (CountersBounded (n + 1)) (same (record { outcome = x.outcome; machine = with_parcels t x.out (with_part t x.part (without_front e m)) }) is) (
    low_pushed (n + 1) t x.out (with_part t x.part (without_front e m)) (
    low_part (n + 1) t (without_front e m) x.part (is_low_more n (without_front e m) (low_popped n e m l)) p.0
    ) p.1
    )
  where
    same : (y : MachineResult) → Some y ≡ Some d → y.machine ≡ d.machine
    same y w = cc
