use Rattle.std.proofs.Common.{◌≡◌, ◌<◌, length, arith}
use Rattle.std.proofs.lemmas.Result.{on_err_weaker}
use Rattle.m3_machine.proofs.ProgramSteps.{kept_one}
use Rattle.m3_machine.proofs.machine.make.Goals as goal

pub returns-in-Some-clause-kept : goal.returns-in-Some-clause-kept
returns-in-Some-clause-kept g c =
    let old = c.args.programs.now.items in
    let low : c.from.result < length old = (let range = c.number.ensures.range in let from = c.from.ensures in let places = c.requires.places in omega arith) in
    on_err_weaker c.turn.result (
    λ kept. kept_one g.P.Program.moves g.P.Program.meaning old c.from.result c.index_mut.result.now _ c.turn.new.program low c.index_mut.ensures.value c.in-Some.is c.turn.ensures.same kept
    ) c.turn.ensures.kept
