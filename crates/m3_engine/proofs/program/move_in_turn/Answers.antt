use Rattle.std.proofs.Common.{[], refl, sym, ◌∙◌}
use Rattle.m3_model.specs.Config.Site.{tile_of}
use Rattle.m3_model.specs.Machine.{tile_at}
use Rattle.m3_engine.specs.PartsView.{ask_in, linked, parts_of}
use Rattle.m3_engine.specs.declared.ask.Ask.{Ask}
use Rattle.m3_engine.proofs.AnsweredAsk.{program_asked}
use Rattle.m3_engine.proofs.TileTurn.{asked_seen}
use Rattle.m3_engine.proofs.program.move_in_turn.Goals as goal

pub returns-in_ok-made-in-Some-clause-asked : goal.returns-in_ok-made-in-Some-clause-asked
returns-in_ok-made-in-Some-clause-asked g c =
    let p = parts_of c.args.parts.now in
    program_asked (g.P.Program.moves c.args.program.now) (g.P.Program.meaning c.args.program.now) (g.P.Program.meaning c.move_of.new.program)
    (ask_in p c.args.act) Ask.Program c.in-Some.seen.now c.in_ok-made-in-Some.made c.in-Program.ensures refl
    (λ value e. sym (asked_seen p.site (tile_at (tile_of p.site c.args.act) (linked [] p)) c.args.act value e) ∙ sym c.in-Some.ensures)
    c.in_ok-made-in-Some.ensures.moved
