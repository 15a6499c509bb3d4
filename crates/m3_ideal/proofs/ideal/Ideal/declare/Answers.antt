use Rattle.std.proofs.Common.{◌≡◌, None, ap, ◌∙◌}
use Rattle.m3_base.specs.Ideal.State.{context_of}
use Rattle.m3_ideal.proofs.OpeningLines.{nexts_added}
use Rattle.m3_ideal.proofs.ideal.Ideal.declare.Goals as goal

pub invariant_of-self : goal.invariant_of-self
invariant_of-self c =
    let none : context_of c.args.act c.self.inside.contexts ≡ None = ap (λ v. context_of c.args.act v.contexts) c.self.view_is ∙ c.requires in
    nexts_added c.add.result c.args.act c.self.inside.flights.nexts c.self.inside.contexts c.add.new.self c.self.inside.kernel_next c.self.invariant none c.add.ensures.ok c.add.ensures.kept
