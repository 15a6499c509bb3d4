-- What a step of the ideal machine does, from what the call answers.
use Rattle.std.specs.Prelude.{◌≡◌, Option, Some, None, Result, Ok, Err}
use Rattle.m3_base.specs.Ideal.State.{State}
use Rattle.m3_base.specs.Ideal.Step.{IdealResult}
use Rattle.m3_ideal.specs.declared.word.Word.{Word}
use Rattle.m3_ideal.specs.Words.{meaning}

-- what it says, and the state after it; where there is no step, and after out of memory, nothing has changed
abbrev pub Steps : {E : Type 0} → Result (Option Word) E → Option IdealResult → State → State → Type 0
Steps (Ok None) r old new = (r ≡ None) × (new ≡ old)
Steps (Ok (Some w)) r old new = r ≡ Some (record { word = meaning w; state = new })
Steps (Err e) r old new = new ≡ old
