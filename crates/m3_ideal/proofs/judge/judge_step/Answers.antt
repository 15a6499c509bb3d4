use Rattle.std.proofs.Common.{◌≡◌, Ok, Some, false}
use Rattle.m3_ideal.proofs.Judging.{step_says, one_differs}
use Rattle.m3_ideal.proofs.judge.judge_step.Goals as goal

pub returns : goal.returns
returns c =
    let r : c.step.result ≡ Ok (Some c.in-Some.word) = cc in
    let no : c.shows.result ≡ false = cc in
    one_differs c.args.ideal.now c.step.new.self c.args.step c.in-Some.word c.args.said.now (step_says c.step.result c.in-Some.word _ _ _ r c.step.ensures) c.shows.result no c.shows.ensures
