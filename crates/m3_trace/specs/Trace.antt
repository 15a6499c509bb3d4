-- A machine with its setup and its journal: the journal is a run from the setup's opening to what the machine stands for.
use Rattle.std.specs.Prelude.{◌≤◌, List, length}
use Rattle.m3_base.specs.declared.event.Entry.{Entry}
use Rattle.m3_base.specs.Journal.Replies.{steps_in}
use Rattle.m3_base.specs.Ideal.Opening.{opening}
use Rattle.m3_base.specs.Setup.Rules.{SetupValue, IsValid}
use Rattle.m3_laws.specs.Laws.{AllFit}
use Rattle.m3_model.specs.Machine.{Machine}
use Rattle.m3_model.specs.NumberBounds.{CountersBounded}
use Rattle.m3_model.specs.KernelNumber.{HasLowKernel}
use Rattle.m3_model.specs.ReadyLists.{ReadyOk}
use Rattle.m3_model.specs.StayMoves.{StaysAreShort}
use Rattle.m3_trace.specs.Hearing.{HearsAs, WaitsFly}
use Rattle.m3_trace.specs.Invariant.{RunRefines}
use Rattle.m3_trace.specs.ProgramEnds.{ProgramsEnd, StrangersAreSilent}
use Rattle.m3_model.specs.SetupOpening.{opened_by_setup, opened_site}

pub record IsTrace (s : SetupValue) (entries : List Entry) (m : Machine) : Type 0 where
  pub valid : IsValid s
  -- there are no more than a journal may have
  pub few : length entries ≤ 2097152
  -- and no number is larger than there are entries
  pub low : CountersBounded (length entries) m
  pub number : HasLowKernel (length entries) m
  pub stays : StaysAreShort (length entries) m
  -- who is ready is at its tile and has a program
  pub ready : ReadyOk (opened_site s) m.kernel
  pub ran : RunRefines (opened_site s) (opened_by_setup s) entries m
  -- what its orders name is in its ranges
  pub fit : AllFit (steps_in entries)
  -- each program is to see what the journal tells it
  pub hears : HearsAs (opened_site s) (opening s.memory s.lines) entries m
  -- and the command flies whose answer a program waits for
  pub waits : WaitsFly (opened_site s) m
  -- a program's end is its last call
  pub ends : ProgramsEnd (opened_site s) (opening s.memory s.lines) entries m
  -- and declared activities alone have calls
  pub strangers : StrangersAreSilent (opened_site s) (opening s.memory s.lines) entries
