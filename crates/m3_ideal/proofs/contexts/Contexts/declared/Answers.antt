use Rattle.std.proofs.Common.{◌∙◌, rules}
use Rattle.m3_ideal.proofs.Seats.{declared_at}
use Rattle.m3_ideal.proofs.contexts.Contexts.declared.Goals as goal

pub returns-in-Some-Some : goal.returns-in-Some-Some
returns-in-Some-Some c =
    let d = declared_at c.self.inside.table.items c.args.self.now c.args.number c.in-Some-Some.context c.self.invariant c.self.view_is (search rules) in
    (c.act.ensures ∙ d.0, d.1)
