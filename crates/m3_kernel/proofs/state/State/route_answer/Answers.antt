use Rattle.std.proofs.Common.{subst}
use Rattle.m3_kernel.specs.KernelStateView.{kernel_in}
use Rattle.m3_kernel.specs.StepContracts.{AnswersBy, IsAnswer}
use Rattle.m3_kernel.specs.declared.state.tend.AnswerTarget.{AnswerTarget}
use Rattle.m3_kernel.proofs.AnswerOut.{sends_answer}
use Rattle.m3_kernel.proofs.state.State.route_answer.Goals as goal

pub returns-in-To-Some-clause-sends : goal.returns-in-To-Some-clause-sends
returns-in-To-Some-clause-sends c =
    let s = c.args.self.now in
    let by : IsAnswer (kernel_in s) c.args.answer c.in-To-Some.at = subst (λ (b : AnswerTarget). AnswersBy (kernel_in s) b c.args.answer) c.in-To-Some.is-0 c.requires.by in
    sends_answer s.site (kernel_in s) c.args.answer c.in-To-Some.at by c.in-To-Some.packet c.in-To-Some.is-1 c.args.freed c.requires.one c.route.result (kernel_in c.route.new.self) c.route.ensures.routes
