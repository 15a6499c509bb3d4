-- The sum before and after each entry of a run of two activities on one tile.
use Rattle.std.specs.Prelude.{◌≡◌, ℕ, zero, suc, List, [], ◌∷◌, length}
use Rattle.std.proofs.Common.{refl}
use Rattle.m3_base.specs.Placement.Driver.{next_event}
use Rattle.m3_base.specs.Examples.Driver.{Running, Programs, driven, two_on_one_tile_start}
use Rattle.m3_quiet.specs.Potential.{Units, potential}

-- a list program has a call for each of its items
abbrev pub calls_left : Programs → Units
calls_left [] = []
calls_left (x ∷ xs) = (x.0, length x.1) ∷ calls_left xs

abbrev pub sums : ℕ → Running → List ℕ
sums zero r = []
sums (suc n) r =
    potential r.state r.places (calls_left r.programs) 0
    ∷ sums n (driven r (next_event r.state r.places []))

pub two_on_one_tile_sums :
    sums 16 two_on_one_tile_start
    ≡ 103 ∷ 102 ∷ 101 ∷ 100 ∷ 91 ∷ 84 ∷ 76 ∷ 75 ∷ 74 ∷ 73 ∷ 72 ∷ 71 ∷ 46 ∷ 27 ∷ 19 ∷ 18 ∷ []
two_on_one_tile_sums = refl
