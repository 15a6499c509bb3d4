-- What an activity that is away has heard, and what it waits for.
use Rattle.std.specs.Prelude.{◌≡◌, List, [], ◌∷◌}
use Rattle.m3_base.specs.Ideal.Context.{Context}
use Rattle.m3_model.specs.Parcel.{Heard}

-- where it has heard an answer, no command of it flies
abbrev pub IsSettled : List Heard → Context → Type 0
IsSettled [] c = Unit {0}
IsSettled (x ∷ xs) c = c.flying ≡ []

-- one of them is empty
abbrev pub AreNotBoth : List Heard → List Heard → Type 0
AreNotBoth (x ∷ xs) (y ∷ ys) = ⊥
AreNotBoth xs ys = Unit {0}
