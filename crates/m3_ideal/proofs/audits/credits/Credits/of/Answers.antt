use Rattle.std.proofs.Common.{◌∙◌}
use Rattle.m3_ideal.proofs.AuditCounts.{all_counted}
use Rattle.m3_ideal.proofs.audits.credits.Credits.of.Goals as goal

pub returns : goal.returns
returns c =
    all_counted c.args.ideal.now c.in_ok-credits.credits c.contexts-2.new.self c.flights-2.new.self _ _ _
    (c.table.ensures ∙ c.contexts.ensures) c.contexts-3.ensures (c.lanes.ensures ∙ c.flights.ensures)
    c.in_ok-credits.ensures.held c.in_ok-credits.ensures.flying c.in_ok-credits.ensures.queued c.in_ok-credits.ensures.flights c.in_ok-contexts.ensures c.in_ok-flights.ensures
