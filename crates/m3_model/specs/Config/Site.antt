-- What the setup says of activities and memory, and no step changes.
use Rattle.std.specs.Prelude.{ℕ, Bool, false, ◌==◌, nat_le, List, [], length, filter, Option, Some, None}
use Rattle.m3_base.specs.Ideal.State.{same_act}
use Rattle.m3_base.specs.Lists.Keyed as keyed

-- ---- what the setup says, and no step changes

pub record Home : Type 0 where
  pub act : ℕ
  pub tile : ℕ
  pub has_program : Bool

pub record Site : Type 0 where
  -- the activities, as declared
  pub homes : List Home
  pub quantum : ℕ
  -- the size of the memory
  pub memory : ℕ

abbrev pub home_act : Home → ℕ
home_act x = x.act

abbrev pub home_of : ℕ → Site → Option Home
home_of a h = keyed.find home_act same_act a h.homes

abbrev pub tile_in : Option Home → ℕ
tile_in None = 0
tile_in (Some x) = x.tile

-- the home tile of an activity
abbrev pub tile_of : Site → ℕ → ℕ
tile_of h a = tile_in (home_of a h)

abbrev pub home_has_program : Option Home → Bool
home_has_program None = false
home_has_program (Some x) = x.has_program

abbrev pub has_program : Site → ℕ → Bool
has_program h a = home_has_program (home_of a h)

-- more than one activity has its home there
abbrev pub is_shared : ℕ → List Home → Bool
is_shared t xs = nat_le 2 (length (filter (λ x. x.tile == t) xs))

-- where a packet that arises at a tile goes: a read or a write to tile 1, any other to its activity's home
abbrev pub tile_for : Site → Option ℕ → ℕ
tile_for h None = 1
tile_for h (Some a) = tile_of h a
