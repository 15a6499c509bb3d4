use Rattle.std.proofs.Common.{◌≡◌, ℕ, true, Ok, None, [], refl, sym, ◌∙◌, ap}
use Rattle.m3_base.specs.Journal.Entry.{steps_of}
use Rattle.m3_base.specs.Journal.OutcomeForms.{is_allowed_outcome}
use Rattle.m3_ideal.specs.EntrySteps.{steps_in}
use Rattle.m3_ideal.proofs.Judging.{entry_judged}
use Rattle.m3_ideal.proofs.judge.judge.Goals as goal

pub returns-in-None : goal.returns-in-None
returns-in-None c =
    let allowed : is_allowed_outcome c.args.entry.now.event c.args.entry.now.outcome ≡ true = sym c.belongs.ensures ∙ c.if-not-belongs.false in
    let is : [] ≡ steps_of c.args.entry.now.event c.args.entry.now.outcome = sym (ap steps_in c.in-None.is) ∙ c.in_ok-steps_of.ensures in
    entry_judged c.args.entry.now c.args.ideal.now c.args.ideal.now allowed {E = ℕ} (Ok None) [] is (_, refl)

pub returns-in-One : goal.returns-in-One
returns-in-One c =
    let allowed : is_allowed_outcome c.args.entry.now.event c.args.entry.now.outcome ≡ true = sym c.belongs.ensures ∙ c.if-not-belongs.false in
    entry_judged c.args.entry.now c.args.ideal.now c.judge_step.new.ideal allowed c.judge_step.result _ (sym (ap steps_in c.in-One.is) ∙ c.in_ok-steps_of.ensures) c.judge_step.ensures

pub returns-in-Two : goal.returns-in-Two
returns-in-Two c =
    let allowed : is_allowed_outcome c.args.entry.now.event c.args.entry.now.outcome ≡ true = sym c.belongs.ensures ∙ c.if-not-belongs.false in
    entry_judged c.args.entry.now c.args.ideal.now c.judge_closed.new.ideal allowed c.judge_closed.result _ (sym (ap steps_in c.in-Two.is) ∙ c.in_ok-steps_of.ensures) c.judge_closed.ensures
