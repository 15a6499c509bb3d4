-- Lists without two elements of one key.
use Rattle.std.specs.Prelude.{◌≡◌, ℕ, false, List, [], ◌∷◌, None}
use Rattle.m3_base.specs.Ideal.State.{same_act}
use Rattle.m3_model.specs.Config.Site.{Home, home_act}
use Rattle.m3_model.specs.Abstraction.{is_in}
use Rattle.m3_base.specs.Lists.Keyed as keyed

-- ---- apart

-- ---- the setup, which no step changes

abbrev pub DistinctHomes : List Home → Type 0
DistinctHomes [] = Unit {0}
DistinctHomes (x ∷ xs) = (keyed.find home_act same_act x.act xs ≡ None) × DistinctHomes xs

-- ---- the whole

abbrev pub DistinctClosed : List ℕ → Type 0
DistinctClosed [] = Unit {0}
DistinctClosed (g ∷ gs) = (is_in gs g ≡ false) × DistinctClosed gs
