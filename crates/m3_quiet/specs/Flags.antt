-- What Saved says of its activity, wherever it is: kept by every step.
use Rattle.std.specs.Prelude.{◌≡◌, ℕ, ◌||◌, ◌==◌, Bool, false, List, [], ◌∷◌, Some}
use Rattle.m3_base.specs.Lists.Keyed as keyed
use Rattle.m3_base.specs.Ideal.State.{State}
use Rattle.m3_base.specs.Placement.State.{Placement, PlacedActivity, LinkToken, Data, Save, Saved, Restore, Yield, Closed, actor_act}
use Rattle.m3_base.specs.Placement.Take.{is_waiting}
use Rattle.m3_base.specs.Ideal.State.{same_act}
use Rattle.m3_quiet.specs.Schedule.{link_at}

-- the two flags are those of now
abbrev pub FlagsAt : State → List PlacedActivity → ℕ → Bool → Bool → Type 0
FlagsAt s xs a waiting ended =
    (x : PlacedActivity)
    → keyed.find actor_act same_act a xs ≡ Some x
    → (waiting ≡ is_waiting s (Some x)) × (ended ≡ x.ended)

abbrev pub FlagsIn : State → List PlacedActivity → List LinkToken → Type 0
FlagsIn s xs [] = Unit {0}
FlagsIn s xs (Saved a w e ∷ ts) = FlagsAt s xs a w e × FlagsIn s xs ts
FlagsIn s xs (Data id ∷ ts) = FlagsIn s xs ts
FlagsIn s xs (Save a ∷ ts) = FlagsIn s xs ts
FlagsIn s xs (Restore a ∷ ts) = FlagsIn s xs ts
FlagsIn s xs (Yield a ∷ ts) = FlagsIn s xs ts
FlagsIn s xs (Closed g ∷ ts) = FlagsIn s xs ts

abbrev pub Flagged : State → Placement → Type 0
Flagged s p = (k : ℕ) → FlagsIn s p.actors (link_at k p)

-- a Saved of this activity is among them
abbrev pub has_saved : ℕ → List LinkToken → Bool
has_saved a [] = false
has_saved a (Saved b w e ∷ ts) = (b == a) || has_saved a ts
has_saved a (Data id ∷ ts) = has_saved a ts
has_saved a (Save b ∷ ts) = has_saved a ts
has_saved a (Restore b ∷ ts) = has_saved a ts
has_saved a (Yield b ∷ ts) = has_saved a ts
has_saved a (Closed g ∷ ts) = has_saved a ts
