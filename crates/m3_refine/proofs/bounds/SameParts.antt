-- What a step puts on links, or takes from one, leaves kernel, memory and tiles as they are.
use Rattle.std.proofs.Common.{◌≡◌, ℕ, List, [], ◌∷◌, refl}
use Rattle.m3_base.specs.declared.event.Event.{Event}
use Rattle.m3_model.specs.Parcel.{Parcel}
use Rattle.m3_model.specs.Machine.{Machine, with_parcel, with_parcels, without_front}

pub record SameParts (m n : Machine) : Type 0 where
  pub kernel : n.kernel ≡ m.kernel
  pub memory : n.memory ≡ m.memory
  pub tiles : n.tiles ≡ m.tiles

pub parts_with_parcels : (t : ℕ) (out : List (ℕ × Parcel)) (m : Machine) → SameParts m (with_parcels t out m)
parts_with_parcels t [] m = record { kernel = refl; memory = refl; tiles = refl }
parts_with_parcels t (x ∷ xs) m =
    let r = parts_with_parcels t xs (with_parcel t x m) in
    record { kernel = r.kernel; memory = r.memory; tiles = r.tiles }

pub parts_without_front : (e : Event) (m : Machine) → SameParts m (without_front e m)
parts_without_front (Event.Take to from) m = record { kernel = refl; memory = refl; tiles = refl }
parts_without_front (Event.Do a c) m = record { kernel = refl; memory = refl; tiles = refl }
parts_without_front (Event.Turn a) m = record { kernel = refl; memory = refl; tiles = refl }
parts_without_front (Event.Tend a) m = record { kernel = refl; memory = refl; tiles = refl }
parts_without_front Event.Close m = record { kernel = refl; memory = refl; tiles = refl }
parts_without_front (Event.Order o) m = record { kernel = refl; memory = refl; tiles = refl }
parts_without_front (Event.File l) m = record { kernel = refl; memory = refl; tiles = refl }
