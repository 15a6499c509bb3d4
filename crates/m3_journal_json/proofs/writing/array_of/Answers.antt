use Rattle.m3_journal_json.proofs.Strings.{array_from_values}
use Rattle.m3_journal_json.proofs.writing.array_of.Goals as goal

pub returns : goal.returns
returns c = array_from_values c.values_of.result c.args.lines.items c.values_of.ensures
