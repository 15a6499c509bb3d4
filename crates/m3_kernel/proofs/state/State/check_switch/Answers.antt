use Rattle.std.proofs.Common.{◌≡◌, ℕ, sym, ◌∙◌, subst, arith}
use Rattle.std.proofs.lemmas.Bool.Decides.{nat_tests}
use Rattle.m3_model.specs.Config.Site.{tile_of}
use Rattle.m3_kernel.specs.KernelStateView.{kernel_in}
use Rattle.m3_kernel.specs.StepContracts.{IsSeatOf}
use Rattle.m3_kernel.proofs.PerformSwitch.{is_switch}
use Rattle.m3_kernel.proofs.state.State.check_switch.Goals as goal

pub returns-in-Some-leaver-clause-judges : goal.returns-in-Some-leaver-clause-judges
returns-in-Some-leaver-clause-judges c =
    let s = c.args.self.now in
    let comes : IsSeatOf (kernel_in s) c.args.act c.in-Some.comes = subst (λ (n : ℕ). IsSeatOf (kernel_in s) n c.in-Some.comes) c.number.ensures.same c.in-Some.ensures in
    let home : tile_of s.site c.args.act ≡ c.args.tile = (let e = c.ne.ensures in let f = c.if-ne.false in let g = c.tile_of.ensures in let n = c.number-2.ensures.same in grind (arith, nat_tests)) in
    is_switch s c.args.tile c.args.act (record { leaves = c.in-Some-leaver.leaves; comes = c.in-Some.comes }) comes c.in-Some-leaver.ensures c.index.result.now c.index.ensures (sym c.place-2.ensures ∙ c.in-Resting.is) home
