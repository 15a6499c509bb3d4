-- What the judge says of the steps of an entry, of an entry, and of entries.
use Rattle.std.specs.Prelude.{◌≡◌, ℕ, List, Option, Some, None}
use Rattle.m3_base.specs.declared.event.Entry.{Entry}
use Rattle.m3_base.specs.declared.event.Said.{Said}
use Rattle.m3_base.specs.declared.step.Step.{Step}
use Rattle.m3_base.specs.Ideal.State.{State}
use Rattle.m3_base.specs.Ideal.Step.{ideal_run}
use Rattle.m3_base.specs.Journal.Entry.{MatchesBy, ran_to, next_state, state_after_entries}
use Rattle.m3_base.specs.Journal.Legal.{IsLegalEntry, AreLegal, LacksStep, SaysElse, Fails, FailsAt}
use Rattle.m3_ideal.specs.declared.verdict.Why.{Why}
use Rattle.m3_ideal.specs.Check.Verdicts.{fault_of}

-- they say what is printed and lead from s to t, or they don't, by this cause
abbrev pub JudgesSteps : Option Why → List Step → State → State → Said → Type 0
JudgesSteps None ts s t said = MatchesBy ts s said × (t ≡ ran_to (ideal_run ts s) s)
JudgesSteps (Some Why.Step) ts s t said = LacksStep ts s
JudgesSteps (Some Why.Reply) ts s t said = SaysElse ts s said
JudgesSteps (Some Why.Audit) ts s t said = ⊥

-- the entry is legal and leads from s to t, or fails by this cause
abbrev pub JudgesEntry : Option Why → Entry → State → State → Type 0
JudgesEntry None e s t = IsLegalEntry s e × (t ≡ next_state s e)
JudgesEntry (Some why) e s t = Fails s e (fault_of why)

-- the entries are legal and lead from s to t, or one of this number is the first that fails, by this cause
abbrev pub JudgesEntries : Option (ℕ × Why) → List Entry → State → State → Type 0
JudgesEntries None es s t = AreLegal s es × (t ≡ state_after_entries s es)
JudgesEntries (Some f) es s t = FailsAt s es f.0 (fault_of f.1)
