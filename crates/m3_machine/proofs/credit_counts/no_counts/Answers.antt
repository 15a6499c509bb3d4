use Rattle.std.proofs.Common.{◌≡◌, ◌∙◌, ap, replicate, arith}
use Rattle.m3_machine.proofs.credit_counts.no_counts.Goals as goal

pub returns : goal.returns
returns c =
    let all : c.loop.counter ≡ 4097 = let e = c.loop-test.false in let l = c.loop.auto.counter-end in omega arith in
    c.loop.invariant ∙ ap (λ n. replicate n 0) all
