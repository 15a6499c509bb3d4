use Rattle.std.proofs.Common.{◌≡◌, Ok, Some, None, rules, arith}
use Rattle.m3_ideal.specs.IdealView.{ideal_state}
use Rattle.m3_ideal.proofs.IssueStep.{may_launch, issue_nexts, waits_nexts, waits_step}
use Rattle.m3_ideal.proofs.ideal.Ideal.issue.Goals as goal

pub invariant_of-self-in_default : goal.invariant_of-self-in_default
invariant_of-self-in_default c =
    let none : c.issue.result ≡ Ok None = cc in
    waits_nexts c.issue.result c.args.act _ _ c.args.command c.self.inside.flights.nexts _ _ none c.self.invariant c.reserve.ensures.nexts c.issue.ensures.at

pub returns-in_default : goal.returns-in_default
returns-in_default c =
    let none : c.issue.result ≡ Ok None = cc in
    waits_step c.issue.result (ideal_state c.self.inside) c.args.self.now c.args.act c.args.command _ _ none c.self.view_is c.issue.ensures.at c.reserve.ensures.list

pub launch-requires : goal.launch-requires
launch-requires c =
    let some : c.issue.result ≡ Ok (Some c.in-Some.issued) = cc in
    may_launch c.issue.result c.args.act c.self.inside.contexts c.issue.new.self c.in-Some.issued c.args.command c.self.inside.flights.nexts c.reserve.new.self c.self.inside.kernel_next some (omega arith) c.self.invariant c.reserve.ensures.nexts (search rules) c.issue.ensures.at

pub invariant_of-self-2 : goal.invariant_of-self-2
invariant_of-self-2 c =
    let some : c.issue.result ≡ Ok (Some c.in-Some.issued) = cc in
    issue_nexts c.issue.result c.args.act c.self.inside.contexts c.issue.new.self c.in-Some.issued c.args.command c.self.inside.flights.nexts c.reserve.new.self.nexts c.launch.new.flights.nexts c.self.inside.kernel_next some (omega arith) c.self.invariant c.reserve.ensures.nexts c.launch.ensures.nexts c.issue.ensures.at
