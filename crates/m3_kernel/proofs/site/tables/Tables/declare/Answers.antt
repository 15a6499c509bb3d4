use Rattle.std.proofs.Common.{List, map, ap, sym, ◌∙◌, refl, subst}
use Rattle.std.proofs.lemmas.List.{map-append}
use Rattle.m3_model.specs.Config.Site.{Home}
use Rattle.m3_kernel.specs.HomeTableView.{value_of, home_with, AreHomeTables}
use Rattle.m3_kernel.proofs.site.tables.Tables.declare.Goals as goal

pub invariant_of-self-2 : goal.invariant_of-self-2
invariant_of-self-2 c =
    let x = home_with c.args.act c.args.tile c.args.has_program in
    let xs = map value_of c.self.inside.homes.items in
    let old = c.self.invariant in
    subst (λ (ys : List Home). AreHomeTables ys c.record.new.tiles.items c.record.new.programs.items c.count.new.crowds.items)
    (sym (ap (map value_of) c.in_ok-push.ensures.items ∙ map-append value_of c.self.inside.homes.items _)) (
    record {
      tiles_are = c.record.ensures.tiles xs old.tiles_are;
      programs_are = c.record.ensures.programs xs old.tiles_are old.programs_are;
      crowds_are = c.count.ensures x refl xs old.crowds_are;
    }
    )
