use Rattle.std.proofs.Common.{ap, not, ◌∙◌, rules}
use Rattle.m3_model.specs.Config.Site.{home_has_program}
use Rattle.m3_kernel.specs.HomeTableView.{home_tile, home_with}
use Rattle.m3_kernel.proofs.HomeTable.{first_recorded, other_recorded}
use Rattle.m3_kernel.proofs.site.tables.record.Goals as goal

pub returns-then-is_none-clause-tiles : goal.returns-then-is_none-clause-tiles
returns-then-is_none-clause-tiles c =
    λ xs are. first_recorded c.args.tiles.now.items c.requires.tiles (home_with c.args.act c.args.tile c.args.has_program) c.from-at.result
    (c.from-at.ensures ∙ c.number.ensures.same) (search rules) c.index.result.now c.index.ensures home_tile c.args.tiles.now.items
    (c.is_none.ensures ∙ ap not c.if-is_none.true) xs are are

pub returns-then-is_none-clause-programs : goal.returns-then-is_none-clause-programs
returns-then-is_none-clause-programs c =
    λ xs tiles are. first_recorded c.args.tiles.now.items c.requires.tiles (home_with c.args.act c.args.tile c.args.has_program) c.from-at.result
    (c.from-at.ensures ∙ c.number.ensures.same) (search rules) c.index.result.now c.index.ensures home_has_program c.args.programs.now.items
    (c.is_none.ensures ∙ ap not c.if-is_none.true) xs tiles are

pub returns-else-is_none-clause-tiles : goal.returns-else-is_none-clause-tiles
returns-else-is_none-clause-tiles c =
    λ xs are. other_recorded c.args.tiles.now.items c.requires.tiles (home_with c.args.act c.args.tile c.args.has_program) c.from-at.result
    (c.from-at.ensures ∙ c.number.ensures.same) (search rules) c.index.result.now c.index.ensures home_tile c.args.tiles.now.items
    (c.is_none.ensures ∙ ap not c.if-is_none.false) xs are are

pub returns-else-is_none-clause-programs : goal.returns-else-is_none-clause-programs
returns-else-is_none-clause-programs c =
    λ xs tiles are. other_recorded c.args.tiles.now.items c.requires.tiles (home_with c.args.act c.args.tile c.args.has_program) c.from-at.result
    (c.from-at.ensures ∙ c.number.ensures.same) (search rules) c.index.result.now c.index.ensures home_has_program c.args.programs.now.items
    (c.is_none.ensures ∙ ap not c.if-is_none.false) xs tiles are
