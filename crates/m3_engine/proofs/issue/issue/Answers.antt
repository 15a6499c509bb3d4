use Rattle.std.proofs.Common.{Some, ap, ◌∙◌}
use Rattle.std.specs.Prelude.{option_map}
use Rattle.m3_base.specs.declared.event.Made.{Made}
use Rattle.m3_base.specs.declared.event.Outcome.{Outcome}
use Rattle.m3_core.specs.IssueView.{issued_by}
use Rattle.m3_engine.specs.StayView.{seen_value}
use Rattle.m3_engine.specs.TileStepView.{said_issued, shown_of}
use Rattle.m3_engine.proofs.IssueHears.{issue_does}
use Rattle.m3_engine.proofs.issue.issue.Goals as goal

pub returns-clause-does : goal.returns-clause-does
returns-clause-does c =
    issue_does c.args.site.now c.args.context.now c.issue-issued.new.self c.args.command c.issue-issued.result
    (record { outcome = record { made = Some (Made.Command c.copied-made.result); said = c.issue_result-did.result.outcome.said; restore = c.issue_result-did.result.outcome.restore }; emit = c.issue_result-did.result.emit })
    (seen_value c.hearing_of-hearing.result) c.requires.idle c.issue-issued.ensures
    (λ i. record {
      made = Some (Made.Command (c.copied-made.ensures i));
      said = ((ap (λ (o : Outcome). o.said) c.issue_result-did.ensures.outcome) ∙ ap (λ s. said_issued s c.issue-issued.result) (c.shown_in.ensures ∙ ap (option_map shown_of) c.front-shown.ensures)) i;
      restore = (ap (λ (o : Outcome). o.restore) c.issue_result-did.ensures.outcome) i;
    })
    c.issue_result-did.ensures.out
    (λ e i is. c.hearing_of-hearing.ensures e i (ap (λ m. issued_by m c.issue-issued.result e) c.front-heard.ensures ∙ is))
