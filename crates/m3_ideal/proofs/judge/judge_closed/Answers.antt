use Rattle.std.proofs.Common.{◌≡◌, true, false, Ok, Some}
use Rattle.m3_ideal.proofs.Judging.{step_says, both_shown, both_differ}
use Rattle.m3_ideal.proofs.judge.judge_closed.Goals as goal

pub returns-then-shows_freed : goal.returns-then-shows_freed
returns-then-shows_freed c =
    let r : c.step.result ≡ Ok (Some c.in-Some.word) = cc in
    let q : c.step-2.result ≡ Ok (Some c.in-Some-2._freed) = cc in
    let is : c.shows_freed.result ≡ true = cc in
    both_shown c.args.ideal.now c.step.new.self c.args.step c.args.grant c.in-Some.word c.args.said.now (step_says c.step.result c.in-Some.word _ _ _ r c.step.ensures) c.step-2.new.self c.in-Some-2._freed (step_says c.step-2.result c.in-Some-2._freed _ _ _ q c.step-2.ensures) c.shows_freed.result is c.shows_freed.ensures

pub returns : goal.returns
returns c =
    let r : c.step.result ≡ Ok (Some c.in-Some.word) = cc in
    let q : c.step-2.result ≡ Ok (Some c.in-Some-2._freed) = cc in
    let is : c.shows_freed.result ≡ false = cc in
    both_differ c.args.ideal.now c.step.new.self c.args.step c.args.grant c.in-Some.word c.args.said.now (step_says c.step.result c.in-Some.word _ _ _ r c.step.ensures) c.step-2.new.self c.in-Some-2._freed (step_says c.step-2.result c.in-Some-2._freed _ _ _ q c.step-2.ensures) c.shows_freed.result is c.shows_freed.ensures
