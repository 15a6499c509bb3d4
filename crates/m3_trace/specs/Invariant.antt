-- What holds of the machine between any two steps, and what a step of it means.
use Rattle.std.specs.Prelude.{◌≡◌, List, [], ◌∷◌}
use Rattle.m3_base.specs.declared.event.Entry.{Entry}
use Rattle.m3_base.specs.Journal.Entry.{EntryMatches, next_state, state_after_entries, IsRun}
use Rattle.m3_base.specs.Ideal.State.{State}
use Rattle.m3_base.specs.Placement.State.{Placement}
use Rattle.m3_base.specs.Placement.EntryStep.{IsPlacementStep}
use Rattle.m3_laws.specs.Invariant.{Invariant}
use Rattle.m3_model.specs.Config.Site.{Site}
use Rattle.m3_model.specs.Machine.{Machine}
use Rattle.m3_model.specs.Abstraction.{ideal_of, placement_of}
use Rattle.m3_model.specs.LocalMoves.{MovesByEntry}
use Rattle.m3_model.specs.Invariant.Structure.{MachineStructure}
use Rattle.m3_model.specs.MemorySize.{HasMemorySize}
use Rattle.m3_model.specs.ShutGrants.{SentAreShut}
use Rattle.m3_model.specs.Ways.{IsOnWay}

pub record MachineInvariant (h : Site) (m : Machine) : Type 0 where
  -- its places are in order
  pub sound : MachineStructure h m
  -- its ideal state keeps the ideal machine's invariant
  pub law : Invariant (ideal_of m)
  -- no Install of a grant stands behind its Close on the way to their activity
  pub way : IsOnWay h m
  -- the Close of a live grant wasn't sent
  pub shut : SentAreShut m.kernel.grants
  -- memory is as large as the setup says
  pub memory : HasMemorySize h m

-- the entry says what its ideal steps say, they lead to the state that the machine then stands for, it is a step of the
-- places, and just the part of its tile moved, with the links by what that part took and sent
pub record StepRefines (h : Site) (old : Machine) (e : Entry) (new : Machine) : Type 0 where
  pub says : EntryMatches (ideal_of old) e
  pub reaches : next_state (ideal_of old) e ≡ ideal_of new
  pub placed : IsPlacementStep (ideal_of old) (placement_of h old) e (placement_of h new)
  pub moves : MovesByEntry h old e new
  pub kept : MachineInvariant h new

-- ---- many steps

-- the places make the steps of these entries, one after the other
abbrev pub PlacementRun : State → Placement → List Entry → Placement → Type 0
PlacementRun s p [] q = q ≡ p
PlacementRun s p (e ∷ es) q = (mid : Placement) × IsPlacementStep s p e mid × PlacementRun (next_state s e) mid es q

-- the entries are a run of the ideal machine from one machine's state to the other's, and so are their places
pub record RunRefines (h : Site) (old : Machine) (entries : List Entry) (new : Machine) : Type 0 where
  pub run : IsRun (ideal_of old) entries
  pub reaches : state_after_entries (ideal_of old) entries ≡ ideal_of new
  pub places : PlacementRun (ideal_of old) (placement_of h old) entries (placement_of h new)
  pub kept : MachineInvariant h new
