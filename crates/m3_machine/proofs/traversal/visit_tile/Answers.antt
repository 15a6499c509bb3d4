use Rattle.std.proofs.Common.{◌∙◌, ap, sym, subst, [], Option}
use Rattle.std.specs.Option.{option_copied}
use Rattle.m3_base.specs.Ideal.Context.{Context}
use Rattle.m3_model.specs.Abstraction.{option_list}
use Rattle.m3_machine.proofs.traversal.visit_tile.Goals as goal

pub returns-in-Some : goal.returns-in-Some
returns-in-Some g c =
    subst (λ (o : Option Context). g.V.Visitor.visits (option_list o) [] c.args.visitor.now c.context.new.self) (ap option_copied (sym c.in-Some.is) ∙ c.current.ensures) c.context.ensures
