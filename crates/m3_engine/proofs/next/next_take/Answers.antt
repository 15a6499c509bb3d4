use Rattle.std.proofs.Common.{ℕ, Option, sym, subst}
use Rattle.m3_link.specs.LinkOps.{IsLeastLink}
use Rattle.m3_engine.proofs.FirstFrom.{no_take, least_take}
use Rattle.m3_engine.proofs.next.next_take.Goals as goal

pub returns-in-Some : goal.returns-in-Some
returns-in-Some c = sym (least_take c.args.wires.now.lists _ _ c.in-Some.ensures)

pub returns-in-None : goal.returns-in-None
returns-in-None c =
    let links = c.args.wires.now.lists in
    sym (no_take links (subst (λ (o : Option (ℕ × ℕ)). IsLeastLink links o) c.in-None.is c.first.ensures))
