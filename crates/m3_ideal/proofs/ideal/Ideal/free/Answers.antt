use Rattle.std.proofs.Common.{◌≡◌, false, Some, rules}
use Rattle.m3_base.specs.Ideal.State.{grant_in}
use Rattle.m3_ideal.specs.IdealView.{ideal_state}
use Rattle.m3_ideal.specs.Making.{line_in}
use Rattle.m3_ideal.proofs.GrantStep.{not_freed}
use Rattle.m3_ideal.proofs.ideal.Ideal.free.Goals as goal

pub returns-then-not-free : goal.returns-then-not-free
returns-then-not-free c =
    let no : c.free.result ≡ false = search rules in
    let line : line_in (grant_in c.args.self.now.grants c.args.grant) ≡ Some c.in_ok-line.line = search rules in
    not_freed (ideal_state c.self.inside) c.args.self.now c.free.result c.args.grant c.act-2.result c.ep.result c.in_ok-line.line c.free.new.self c.self.view_is no line c.act-2.ensures c.ep.ensures c.free.ensures.at
