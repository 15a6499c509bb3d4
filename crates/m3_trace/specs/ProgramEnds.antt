-- A program's end: its last call, and no turn of it is made from then on.
use Rattle.std.specs.Prelude.{◌≡◌, ℕ, Bool, true, false, List, [], ◌∷◌}
use Rattle.std.specs.List.{list_any}
use Rattle.m3_base.specs.declared.event.Entry.{Entry}
use Rattle.m3_base.specs.declared.program.Move.{Move}
use Rattle.m3_base.specs.Calls.Fuel.{is_end}
use Rattle.m3_base.specs.Calls.JournalCalls.{Call, all_calls}
use Rattle.m3_base.specs.Ideal.State.{State}
use Rattle.m3_model.specs.Config.KnownActivities.{is_home}
use Rattle.m3_model.specs.Config.Site.{Site}
use Rattle.m3_model.specs.Invariant.Housing.{resident_at}
use Rattle.m3_model.specs.Machine.{Machine}
use Rattle.m3_model.specs.Tile.Step.{has_ended}

-- one of the calls was its end
abbrev pub has_end : List Call → Bool
has_end cs = list_any (λ c. is_end c.move) cs

-- no call comes after an end
abbrev pub EndsLast : List Call → Type 0
EndsLast [] = Unit {0}
EndsLast (c ∷ cs) = (c.move ≡ Move.Ended → cs ≡ []) × EndsLast cs

-- the program of the activity has ended where the calls of its journal say so, and an end is the last of them
pub record EndsAs (h : Site) (s : State) (entries : List Entry) (m : Machine) (a : ℕ) : Type 0 where
  pub ended : has_ended (resident_at h m.tiles a) ≡ has_end (all_calls a s entries)
  pub last : EndsLast (all_calls a s entries)

abbrev pub ProgramsEnd : Site → State → List Entry → Machine → Type 0
ProgramsEnd h s entries m = (a : ℕ) → is_home h a ≡ true → EndsAs h s entries m a

-- no call is of an activity that the setup doesn't declare
abbrev pub StrangersAreSilent : Site → State → List Entry → Type 0
StrangersAreSilent h s entries = (a : ℕ) → is_home h a ≡ false → all_calls a s entries ≡ []
