-- What a budget is made of.
use Rattle.std.specs.Prelude.{◌<◌, ◌+◌, List, length}
use Rattle.m3_base.specs.declared.setup_line.SetupLine.{SetupLine}
use Rattle.m3_base.specs.DriverRun.Budget.{act_count}
use Rattle.m3_base.specs.Setup.Rules.{Facts, facts_with_lines}
use Rattle.m3_cmd.specs.declared.budget.Counts.{Counts}

-- with a line more, where programs are lists of items
abbrev pub with_line : SetupLine → Counts → Counts
with_line (SetupLine.Act a t) c = record c { acts = c.acts + 1 }
with_line (SetupLine.Grant line) c = record c { grants = c.grants + 1 }
with_line (SetupLine.Item a command) c = record c { weight = c.weight + 1 }
with_line (SetupLine.AwaitItem a ep) c = record c { weight = c.weight + 1 }
with_line line c = c

-- the weight of all programs, the activities and the grants of these lines
abbrev pub counts_of : List SetupLine → Facts → Counts
counts_of lines first =
    record {
      weight = (facts_with_lines lines first).weight;
      acts = act_count lines;
      grants = length (facts_with_lines lines first).grants;
    }

-- each is at most a setup's most
pub record AreFew (c : Counts) : Type 0 where
  pub weight : c.weight < 16385
  pub acts : c.acts < 65
  pub grants : c.grants < 4097
