-- The code's parcels.
use Rattle.std.specs.Prelude.{ℕ, List, [], ◌∷◌, Option, Some, None, map}
use Rattle.m3_core.specs.declared.parcel.Emit.{Emit}
use Rattle.m3_core.specs.declared.parcel.Heard.{Heard as CodeHeard}
use Rattle.m3_core.specs.declared.parcel.Parcel.{Parcel as CodeParcel}
use Rattle.m3_model.specs.Parcel.{Heard, Parcel, Data, Save, Saved, Restore, Yield, Closed}

abbrev pub heard_in : Option CodeHeard → List Heard
heard_in None = []
heard_in (Some x) = record { number = x.number; answer = x.answer } ∷ []

abbrev pub parcel_of : CodeParcel → Parcel
parcel_of (CodeParcel.Data p) = Data p
parcel_of (CodeParcel.Save a) = Save a
parcel_of (CodeParcel.Saved a c waiting ended) = Saved a c waiting ended
parcel_of (CodeParcel.Restore a c heard) = Restore a c (heard_in heard)
parcel_of (CodeParcel.Yield a) = Yield a
parcel_of (CodeParcel.Closed g) = Closed g

abbrev pub parcels_of : List (List CodeParcel) → List (List Parcel)
parcels_of links = map (λ ps. map parcel_of ps) links

abbrev pub out_of : Option Emit → List (ℕ × Parcel)
out_of None = []
out_of (Some e) = (e.to, parcel_of e.parcel) ∷ []
