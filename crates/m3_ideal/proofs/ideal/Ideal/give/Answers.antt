use Rattle.std.proofs.Common.{◌≡◌, Ok}
use Rattle.m3_ideal.specs.IdealView.{ideal_state}
use Rattle.m3_ideal.specs.Words.{meaning}
use Rattle.m3_ideal.proofs.LandingStep.{credit_given}
use Rattle.m3_ideal.proofs.ideal.Ideal.give.Goals as goal

pub returns : goal.returns
returns c =
    let ok : c.give.result ≡ Ok c.in_ok-there.there = cc in
    credit_given (ideal_state c.self.inside) c.args.self.now c.args.id c.self.view_is c.give.result c.args.to c.args.grant c.give.new.self c.end.new.flights.list c.in_ok-there.there (meaning c.credit_word.result) ok c.credit_word.ensures c.requires c.give.ensures.at c.end.ensures.list
