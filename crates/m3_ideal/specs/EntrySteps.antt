-- The steps of an entry as a list.
use Rattle.std.specs.Prelude.{List, [], ◌∷◌}
use Rattle.m3_base.specs.declared.step.Step.{Step}
use Rattle.m3_ideal.specs.declared.steps.EntrySteps.{EntrySteps}

abbrev pub steps_in : EntrySteps → List Step
steps_in EntrySteps.None = []
steps_in (EntrySteps.One t) = t ∷ []
steps_in (EntrySteps.Two t g) = t ∷ Step.Closed g ∷ []
