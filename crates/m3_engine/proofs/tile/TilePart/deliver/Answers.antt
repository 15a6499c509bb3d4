use Rattle.std.proofs.Common.{sym, ap, ◌∙◌}
use Rattle.m3_engine.specs.StayView.{stays_after_answers}
use Rattle.m3_engine.specs.TileView.{TileAt, accepts}
use Rattle.m3_kernel.specs.ParcelView.{heard_in}
use Rattle.m3_engine.proofs.TileTake.{is_accepted, takes_data}
use Rattle.m3_engine.proofs.tile.TilePart.deliver.Goals as goal

pub deliver-did-requires-clause-named : goal.deliver-did-requires-clause-named
deliver-did-requires-clause-named c =
    (is_accepted c.self.inside.site c.args.packet c.args.self.now.tile.current c.in-Some.context
    (ap (λ (t : TileAt). accepts t.site c.args.packet c.args.self.now.tile.current) c.self.view_is ∙ c.requires.accepted)
    (sym (ap (λ (t : TileAt). t.tile.current) c.self.view_is) ∙ c.in-Some.is)).0

pub deliver-did-requires-clause-fits : goal.deliver-did-requires-clause-fits
deliver-did-requires-clause-fits c =
    (is_accepted c.self.inside.site c.args.packet c.args.self.now.tile.current c.in-Some.context
    (ap (λ (t : TileAt). accepts t.site c.args.packet c.args.self.now.tile.current) c.self.view_is ∙ c.requires.accepted)
    (sym (ap (λ (t : TileAt). t.tile.current) c.self.view_is) ∙ c.in-Some.is)).1

pub returns-clause-does : goal.returns-clause-does
returns-clause-does c =
    takes_data c.self.inside.site c.args.self.now c.self.inside.tile c.self.inside.stays c.self.inside.current c.in-Some.context c.deliver-did.new.context c.args.packet c.deliver-did.result c.args.heard c.hear.new.self
    c.self.view_is c.in-Some.is c.requires.here c.requires.accepted c.requires.heard c.deliver-did.ensures
    (c.hear.ensures ∙ ap (λ a. stays_after_answers (heard_in c.args.heard) a c.self.inside.stays) c.act.ensures)
