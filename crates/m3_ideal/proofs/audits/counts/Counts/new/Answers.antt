use Rattle.std.proofs.Common.{◌∙◌}
use Rattle.m3_ideal.proofs.AuditCounts.{fresh_counts}
use Rattle.m3_ideal.proofs.audits.counts.Counts.new.Goals as goal

pub returns : goal.returns
returns c = c.in_ok-resize.ensures.items ∙ fresh_counts 4097 c.new-counts.result.items _ c.new-counts.ensures.items c.new-counts.ensures.len
