use Rattle.std.proofs.Common.{◌≡◌, ℕ, ◌∙◌, None, ap, subst}
use Rattle.m3_base.specs.declared.event.Said.{Said}
use Rattle.m3_model.specs.Config.Site.{tile_of}
use Rattle.m3_model.specs.Kernel.Step.{entry_of, take_yield}
use Rattle.m3_kernel.specs.KernelStateView.{kernel_in}
use Rattle.m3_kernel.specs.StepContracts.{IsSeatOf}
use Rattle.m3_kernel.proofs.TakeYieldAndSaved.{yield_is, yielded_kernel}
use Rattle.m3_kernel.proofs.StepOutcome.{says_does}
use Rattle.m3_kernel.proofs.state.State.take_yield.Goals as goal

pub returns-in_default-place-clause-does : goal.returns-in_default-place-clause-does
returns-in_default-place-clause-does c =
    let s = c.args.self.now in
    let a = c.args.act in
    let place = subst (λ (n : ℕ). IsSeatOf (kernel_in s) n c.in-Some.at) c.number.ensures.same c.in-Some.ensures in
    let tile : c.tile_of-tile.result ≡ tile_of s.site a = c.tile_of-tile.ensures ∙ ap (tile_of s.site) c.number-in_default-place.ensures.same in
    says_does c.says.result (Said.Yielded a) None (yielded_kernel s c.requires a c.in-Some.at place c.index.result.now c.index.ensures c.tile_of-tile.result tile c.yielded.new.self c.yielded.ensures) (take_yield s.site (kernel_in s) a (entry_of a (kernel_in s))) c.says.ensures
    (yield_is s c.requires a c.in-Some.at place c.index.result.now c.index.ensures c.tile_of-tile.result tile c.yielded.new.self c.yielded.ensures (λ q. c.in_default-place.not-Resting (c.place-2.ensures ∙ q)) (λ q. c.in_default-place.not-Coming (c.place-2.ensures ∙ q)))
