use Rattle.std.proofs.Common.{arith, sym, ◌∙◌}
use Rattle.m3_text.specs.Lines.{texts}
use Rattle.m3_journal.specs.Reading.Entries.{entry_of}
use Rattle.m3_journal.proofs.Cuts.{place_passed, place_stands, none_left}
use Rattle.m3_journal.proofs.reading.entries.read_entry.Goals as goal

pub returns-then-not-is_form : goal.returns-then-not-is_form
returns-then-not-is_form c =
    place_stands c.read_entry_at-entry.result c.loop-count.count (texts c.args.words.now) (entry_of (texts c.args.words.now)) c.loop-count-test.true c.read_entry_at-entry.ensures (grind arith) c.loop-count.invariant.reads

pub loop-count-preserved : goal.loop-count-preserved
loop-count-preserved c = record {
  reads = place_passed c.read_entry_at-entry.result c.loop-count.count (texts c.args.words.now) (entry_of (texts c.args.words.now)) c.loop-count-test.true c.read_entry_at-entry.ensures (grind arith) c.loop-count.invariant.reads;
  inside = omega arith;
}

pub returns : goal.returns
returns c = none_left c.loop-count.count (texts c.args.words.now) (entry_of (texts c.args.words.now)) (omega arith) c.loop-count.invariant.reads
