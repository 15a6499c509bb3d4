use Rattle.std.proofs.Common.{◌≡◌, None}
use Rattle.m3_ideal.specs.IdealView.{ideal_state}
use Rattle.m3_ideal.proofs.LandingStep.{not_closed}
use Rattle.m3_ideal.proofs.ideal.Ideal.close.Goals as goal

pub returns-in_default : goal.returns-in_default
returns-in_default c =
    let none : c.close.result ≡ None = cc in
    not_closed (ideal_state c.self.inside) c.args.self.now c.args.id c.self.view_is c.close.result c.args.to c.args.ep c.args.grant c.close.new.self none c.requires c.close.ensures.at
