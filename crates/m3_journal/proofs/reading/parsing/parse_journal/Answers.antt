use Rattle.std.proofs.Common.{◌≡◌, arith, ◌∷◌}
use Rattle.std.specs.Str.Lines.{lines}
use Rattle.m3_journal.specs.Reading.Journals.{journal_of, draft_after_line, draft_after_all, journal_of_reading}
use Rattle.m3_journal.specs.Reading.Refusals.{Parses, draft_value}
use Rattle.m3_journal.proofs.Loop.{goes_on, is_refused, at_end}
use Rattle.m3_journal.proofs.reading.parsing.parse_journal.Goals as goal

pub returns-in-Err : goal.returns-in-Err
returns-in-Err c =
    let cut : journal_of_reading (draft_after_all draft_after_line (c.cut_line.result.0.now ∷ lines c.cut_line.result.1.now) (draft_value c.loop-rest.draft) c.loop-rest.line) ≡ journal_of c.args.bytes.now = rw c.cut_line.ensures.line at c.loop-rest.invariant.reads in
    record { exact = rw c.refusal.ensures (is_refused draft_after_line c.cut_line.result.0.now (lines c.cut_line.result.1.now) (draft_value c.loop-rest.draft) c.loop-rest.line c.in-Err.error (journal_of c.args.bytes.now) c.in-Err.ensures cut); few = tt }

pub loop-rest-preserved : goal.loop-rest-preserved
loop-rest-preserved c =
    let cut : journal_of_reading (draft_after_all draft_after_line (c.cut_line.result.0.now ∷ lines c.cut_line.result.1.now) (draft_value c.loop-rest.draft) c.loop-rest.line) ≡ journal_of c.args.bytes.now = rw c.cut_line.ensures.line at c.loop-rest.invariant.reads in
    record {
      reads = goes_on draft_after_line c.cut_line.result.0.now (lines c.cut_line.result.1.now) (draft_value c.loop-rest.draft) (draft_value c.take_line.new.draft) c.loop-rest.line (journal_of c.args.bytes.now) c.in-Ok.ensures cut;
      room = omega (arith, c.cut_line.ensures.shorter);
    }

pub returns : goal.returns
returns c = record { exact = rw (at_end draft_after_line c.loop-rest.rest.now (draft_value c.loop-rest.draft) c.loop-rest.line (journal_of c.args.bytes.now) c.loop-rest-test.ensures c.loop-rest.invariant.reads) c.finish.ensures.exact; few = c.finish.ensures.few }
