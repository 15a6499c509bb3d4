-- What the code counts are the packets.
use Rattle.std.proofs.Common.{◌≡◌, List, [], ◌∷◌, length, map, length-append, refl, arith}
use Rattle.m3_core.specs.declared.parcel.Parcel.{Parcel as CodeParcel}
use Rattle.m3_link.specs.LinkOps.{data_in, data_on}
use Rattle.m3_kernel.specs.ParcelView.{parcel_of, parcels_of}
use Rattle.m3_model.specs.Abstraction.{flat_map, flat_links, packets_in}

data_is : (ps : List CodeParcel) → data_in ps ≡ length (flat_map packets_in (map parcel_of ps))
data_is [] = refl
data_is (CodeParcel.Data x ∷ ps) = let e = data_is ps in omega arith
data_is (CodeParcel.Save a ∷ ps) = data_is ps
data_is (CodeParcel.Saved a c waiting ended ∷ ps) = data_is ps
data_is (CodeParcel.Restore a c heard ∷ ps) = data_is ps
data_is (CodeParcel.Yield a ∷ ps) = data_is ps
data_is (CodeParcel.Closed g ∷ ps) = data_is ps

pub flights_are : (links : List (List CodeParcel)) → data_on links ≡ length (flat_links packets_in (parcels_of links))
flights_are [] = refl
flights_are (ps ∷ links) =
    let e = data_is ps in
    let more = flights_are links in
    let both = length-append (flat_map packets_in (map parcel_of ps)) (flat_links packets_in (parcels_of links)) in
    omega arith
