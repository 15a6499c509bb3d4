-- Next numbers and next tokens stay below the number of entries, wherever a context is.
use Rattle.std.specs.Prelude.{◌≡◌, ℕ, ◌+◌, ◌≤◌, true, List, ◌∷◌, Option, Some, None}
use Rattle.m3_base.specs.Lists.EachElement.{Each}
use Rattle.m3_base.specs.Ideal.Context.{Context, endpoint}
use Rattle.m3_model.specs.Parcel.{Heard, Parcel, Data, Save, Saved, Restore, Yield, Closed}
use Rattle.m3_model.specs.Tile.State.{Tile}
use Rattle.m3_model.specs.Kernel.State.{ActivityEntry, EntryResidency, Is_placed, Is_leaving, Is_resting, Is_coming}
use Rattle.m3_model.specs.Config.KnownActivities.{next_token_at, has_bounded_counters}
use Rattle.m3_model.specs.Machine.{Machine, link_at}

-- next numbers and next tokens, where the journal has n entries
pub record HasBoundedCounters (n : ℕ) (c : Context) : Type 0 where
  pub number : c.next ≤ n + 1
  pub tokens : (ep : ℕ) → next_token_at (endpoint c ep) ≤ n

abbrev pub CountersBoundedIn : ℕ → Option Context → Type 0
CountersBoundedIn n None = Unit {0}
CountersBoundedIn n (Some c) = HasBoundedCounters n c

abbrev pub TileBounded : ℕ → Tile → Type 0
TileBounded n t = CountersBoundedIn n t.current

abbrev pub ParcelBounded : ℕ → Parcel → Type 0
ParcelBounded n (Data p) = Unit {0}
ParcelBounded n (Save a) = Unit {0}
ParcelBounded n (Saved a c waiting ended) = HasBoundedCounters n c
ParcelBounded n (Restore a c heard) = HasBoundedCounters n c
ParcelBounded n (Yield a) = Unit {0}
ParcelBounded n (Closed g) = Unit {0}

abbrev pub LinkBounded : ℕ → List Parcel → Type 0
LinkBounded n qs = Each (ParcelBounded n) qs

abbrev pub ResidencyBounded : ℕ → EntryResidency → Type 0
ResidencyBounded n Is_placed = Unit {0}
ResidencyBounded n Is_leaving = Unit {0}
ResidencyBounded n (Is_resting y) = HasBoundedCounters n y.context
ResidencyBounded n (Is_coming y) = HasBoundedCounters n y.context

abbrev pub EntryBounded : ℕ → ActivityEntry → Type 0
EntryBounded n x = ResidencyBounded n x.seating

pub record CountersBounded (n : ℕ) (m : Machine) : Type 0 where
  pub tiles : Each (TileBounded n) m.tiles
  pub seats : Each (EntryBounded n) m.kernel.seats
  pub links : Each (LinkBounded n) m.links

-- the contexts that come back have low numbers
abbrev pub RestoresBounded : Machine → Type 0
RestoresBounded m =
    (t from a : ℕ) (c : Context) (xs : List Heard) (qs : List Parcel)
    → link_at from t m ≡ Restore a c xs ∷ qs → has_bounded_counters c ≡ true
