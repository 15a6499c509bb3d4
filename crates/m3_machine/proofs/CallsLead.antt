-- Calls that lead on from where others led.
use Rattle.std.proofs.Common.{ℕ, List, ◌++◌, Option, Some, None, ◌∙◌}
use Rattle.m3_base.specs.declared.program.Move.{Move}
use Rattle.m3_base.specs.declared.program.Seen.{Seen}
use Rattle.m3_base.specs.Calls.JournalCalls.{Call}
use Rattle.m3_trace.proofs.hearing.JournalGrows.{leads_both}
use Rattle.m3_machine.specs.ProgramCalls.{IsCalled}

module _ {P : Type 0} (moves : P → List ℕ → Seen → Move → List ℕ → Type 0) where
  pub called_on : (p : Option P) (m k n : Option (List ℕ)) (cs ds : List Call) → IsCalled moves p m cs k → IsCalled moves p k ds n → IsCalled moves p m (cs ++ ds) n
  called_on None m k n cs ds l on = on ∙ l
  called_on (Some p) None k n cs ds l on = absurd l
  called_on (Some p) (Some m) None n cs ds l on = absurd l
  called_on (Some p) (Some m) (Some k) None cs ds l on = absurd on
  called_on (Some p) (Some m) (Some k) (Some n) cs ds l on = leads_both (moves p) m k n cs ds l on
