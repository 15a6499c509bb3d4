-- The activities that a setup declares are those of its site.
use Rattle.std.proofs.Common.{◌≡◌, ℕ, true, false, Option, Some, None, refl, ap, subst}
use Rattle.std.specs.Prelude.{is_some, is_none}
use Rattle.m3_base.specs.Setup.Rules.{SetupValue, IsValid, facts_of, home_at}
use Rattle.m3_model.specs.Config.Site.{Home, home_of}
use Rattle.m3_model.specs.Config.KnownActivities.{is_home}
use Rattle.m3_model.specs.SetupOpening.{opened_site}
use Rattle.m3_kernel.specs.HomeTableView.{home_tile}
use Rattle.m3_kernel.proofs.OpeningHomes.{valid_tiles}

home_some : (o : Option Home) (r : Option ℕ) → r ≡ home_tile o → is_none r ≡ false → is_some o ≡ true
home_some None r same e = absurd (let f : is_none (home_tile None) ≡ false = subst (λ (x : Option ℕ). is_none x ≡ false) same e in cc)
home_some (Some x) r same e = refl

-- an activity that the setup declares is one of its site
pub declared_home : (s : SetupValue) → IsValid s → (a : ℕ) → is_none (home_at (facts_of s).homes a) ≡ false → is_home (opened_site s) a ≡ true
declared_home s v a e =
    home_some (home_of a (opened_site s)) (home_at (facts_of s).homes a) ((valid_tiles s v).same a) e

tile_some : (o : Option Home) (r : Option ℕ) → r ≡ home_tile o → is_some o ≡ true → is_none r ≡ false
tile_some None r same e = absurd (cc)
tile_some (Some x) r same e = ap is_none same

-- and an activity of its site is one that the setup declares
pub home_declared : (s : SetupValue) → IsValid s → (a : ℕ) → is_home (opened_site s) a ≡ true → is_none (home_at (facts_of s).homes a) ≡ false
home_declared s v a e = tile_some (home_of a (opened_site s)) (home_at (facts_of s).homes a) ((valid_tiles s v).same a) e
