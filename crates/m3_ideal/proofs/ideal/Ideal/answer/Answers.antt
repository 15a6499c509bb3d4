use Rattle.std.proofs.Common.{◌≡◌, Ok, Some, None, ap, sym, ◌∙◌, rules}
use Rattle.m3_base.specs.Ideal.Flights.{flight}
use Rattle.m3_ideal.specs.IdealView.{ideal_state}
use Rattle.m3_ideal.specs.Ideal.FlightParts.{answer_at}
use Rattle.m3_ideal.proofs.LandingStep.{not_answered}
use Rattle.m3_ideal.proofs.ideal.Ideal.answer.Goals as goal

pub returns-in_default-2 : goal.returns-in_default-2
returns-in_default-2 c =
    let none : c.answer-2.result ≡ Ok None = c.in_ok-closed.was ∙ ap Ok c.in_default-2.is in
    let own : c.in-Some-declared.act ≡ c.args.id.issuer = search rules in
    let is : answer_at (flight c.args.id c.args.self.now.flights) ≡ Some c.in-Some-answer.answer.now = sym (ap answer_at (c.in-Some.ensures ∙ ap (λ v. flight c.args.id v.flights) c.self.view_is)) ∙ sym c.in-Some-answer.ensures in
    not_answered (ideal_state c.self.inside) c.args.self.now c.args.id c.self.view_is c.answer-2.result c.in-Some-answer.answer.now c.in-Some-declared.act c.answer-2.new.self none own is c.answer-2.ensures.at
