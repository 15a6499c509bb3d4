-- What a trace says of its journal, in the words of the ideal machine.
use Rattle.std.specs.Prelude.{◌≡◌, ℕ, List}
use Rattle.m3_base.specs.declared.event.Entry.{Entry}
use Rattle.m3_base.specs.Calls.JournalCalls.{all_calls}
use Rattle.m3_base.specs.Ideal.Opening.{opening}
use Rattle.m3_base.specs.Ideal.State.{State}
use Rattle.m3_base.specs.Journal.Entry.{IsRun, state_after_entries}
use Rattle.m3_base.specs.Journal.Replies.{ideal_replies, printed_replies, steps_in}
use Rattle.m3_base.specs.Placement.Opening.{placement_at_opening}
use Rattle.m3_base.specs.Setup.Rules.{SetupValue}
use Rattle.m3_laws.specs.JournalLaws.{AfterEach, KeepsLaws}
use Rattle.m3_model.specs.Abstraction.{ideal_of, placement_of}
use Rattle.m3_model.specs.Machine.{Machine}
use Rattle.m3_model.specs.SetupOpening.{opened_site}
use Rattle.m3_trace.specs.Invariant.{PlacementRun}
use Rattle.m3_trace.specs.ProgramEnds.{EndsLast}
use Rattle.m3_trace.specs.Trace.{IsTrace}

-- start is the ideal state that the setup opens
pub record TraceFacts (s : SetupValue) (start : State) (entries : List Entry) (m : Machine) : Type 0 where
  -- the entries are a run of the ideal machine, to the state that the machine stands for
  pub run : IsRun start entries
  pub reaches : state_after_entries start entries ≡ ideal_of m
  -- and they move the opening's placement to the machine's
  pub places : PlacementRun start (placement_at_opening s.lines) entries (placement_of (opened_site s) m)
  -- the replies that they print are those of the ideal steps
  pub replies : (a : ℕ) → printed_replies a start entries ≡ ideal_replies a start (steps_in entries)
  -- after each of them the laws hold
  pub laws : AfterEach (KeepsLaws start) entries
  -- and no program is called after its end
  pub ends : (a : ℕ) → EndsLast (all_calls a start entries)

abbrev pub TracesAreRuns : Type 0
TracesAreRuns = (s : SetupValue) (entries : List Entry) (m : Machine) → IsTrace s entries m
    → TraceFacts s (opening s.memory s.lines) entries m
