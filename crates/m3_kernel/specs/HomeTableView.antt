-- The homes of activities, in a list as declared and in tables: by the activity's number, and by the tile's.
use Rattle.std.specs.Prelude.{◌≡◌, ℕ, zero, suc, Bool, ◌==◌, List, [], ◌∷◌, ◌++◌, length, filter, Option, Some, None, slice_index_or}
use Rattle.m3_kernel.specs.declared.site.tables.Home.{Home as CodeHome}
use Rattle.m3_model.specs.Config.Site.{Home, Site, home_act, home_has_program}
use Rattle.m3_base.specs.Lists.Keyed as keyed
use Rattle.m3_base.specs.Ideal.State.{same_act}

abbrev pub value_of : CodeHome → Home
value_of x = record { act = x.act; tile = x.tile; has_program = x.has_program }

abbrev pub home_with : ℕ → ℕ → Bool → Home
home_with a t program = record { act = a; tile = t; has_program = program }

abbrev pub home_tile : Option Home → Option ℕ
home_tile None = None
home_tile (Some x) = Some x.tile

-- a site without activities
abbrev pub site_before : ℕ → Site
site_before memory = record { homes = []; quantum = 8; memory = memory }

abbrev pub with_declared : Home → Site → Site
with_declared x h = record h { homes = h.homes ++ x ∷ [] }

-- the table has just what is told of each activity's home
pub record AreOfHomes {X : Type 0} (told : Option Home → X) (homes : List Home) (table : List X) : Type 0 where
  pub count : length table ≡ 64
  pub same : (a : ℕ) → slice_index_or table a (told None) ≡ told (keyed.find home_act same_act a homes)

-- the table has just the home tiles of the list
abbrev pub AreTiles : List Home → List (Option ℕ) → Type 0
AreTiles = AreOfHomes home_tile

-- the table has just who has a program
abbrev pub ArePrograms : List Home → List Bool → Type 0
ArePrograms = AreOfHomes home_has_program

-- a count, where more than two are as two
abbrev pub capped : ℕ → ℕ
capped zero = 0
capped (suc zero) = 1
capped (suc (suc n)) = 2

-- the table has how many activities are at home on each tile: none, one, or more
pub record AreCrowds (homes : List Home) (crowds : List ℕ) : Type 0 where
  pub count : length crowds ≡ 16
  pub same : (t : ℕ) → slice_index_or crowds t 0 ≡ capped (length (filter (λ x. x.tile == t) homes))

-- the tables are those of the homes
pub record AreHomeTables (homes : List Home) (tiles : List (Option ℕ)) (programs : List Bool) (crowds : List ℕ) : Type 0 where
  pub tiles_are : AreTiles homes tiles
  pub programs_are : ArePrograms homes programs
  pub crowds_are : AreCrowds homes crowds

-- a table of some homes becomes one of these and one more
abbrev pub Grows : {X : Type 0} → (List Home → List X → Type 0) → Home → List X → List X → Type 0
Grows Are x old new = (homes : List Home) → Are homes old → Are (homes ++ x ∷ []) new
