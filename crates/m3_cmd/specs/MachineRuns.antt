-- What a machine's journal is, whichever way its events came.
use Rattle.std.specs.Prelude.{◌≡◌, ℕ, true, List}
use Rattle.m3_base.specs.declared.event.Entry.{Entry}
use Rattle.m3_base.specs.Calls.Fuel.{program_calls}
use Rattle.m3_base.specs.Calls.ListProgram.{AreItems, program_items}
use Rattle.m3_base.specs.Ideal.Opening.{opening}
use Rattle.m3_base.specs.Ideal.State.{State}
use Rattle.m3_base.specs.Journal.Entry.{IsRun}
use Rattle.m3_base.specs.Journal.Replies.{printed_replies, ideal_replies, steps_in}
use Rattle.m3_base.specs.Placement.Opening.{placement_at_opening}
use Rattle.m3_base.specs.Placement.State.{Placement}
use Rattle.m3_base.specs.Setup.Rules.{SetupValue}
use Rattle.m3_laws.specs.JournalLaws.{AfterEach, KeepsLaws}
use Rattle.m3_trace.specs.Invariant.{PlacementRun}
use Rattle.m3_script.specs.Rules.{has_program}

-- the ideal machine at the setup's opening
abbrev pub start : SetupValue → State
start setup = opening setup.memory setup.lines

-- the entries are a run of the ideal machine from the setup's opening, each with just what its steps say, and move the
-- placement from that of the opening to this one; the replies that they print for each activity are just those that the
-- steps give it; after every entry the laws hold: credits make up each grant's limit, messages land in the order of their
-- issue and are fetched once, in that order, bytes that are read or written are granted, refused sends have their causes,
-- and nothing is left of a grant that is done; and the moves of each program are its items and then Ended, as far as it
-- was called
pub record IsRunOf (setup : SetupValue) (entries : List Entry) (last : Placement) : Type 0 where
  pub run : IsRun (start setup) entries
  pub places : PlacementRun (start setup) (placement_at_opening setup.lines) entries last
  pub replies : (a : ℕ) → printed_replies a (start setup) entries ≡ ideal_replies a (start setup) (steps_in entries)
  pub laws : AfterEach (KeepsLaws (start setup)) entries
  pub items : (a : ℕ) → has_program a setup ≡ true → AreItems (program_items a setup.lines) (program_calls setup a entries)
