use Rattle.std.proofs.Common.{◌≡◌, ℕ, Option, sym, ap, ◌∙◌}
use Rattle.std.specs.Prelude.{option_map}
use Rattle.m3_base.specs.declared.event.Event.{Event}
use Rattle.m3_model.specs.Kernel.Driver.{wanted_at}
use Rattle.m3_kernel.specs.KernelStateView.{kernel_in}
use Rattle.m3_kernel.proofs.next_event.WantedSwitch.{found_at, none_at, none_left}
use Rattle.m3_kernel.proofs.state.State.wanted.Goals as goal

pub returns-then-is_some : goal.returns-then-is_some
returns-then-is_some c =
    let s = c.args.self.now in
    let f : ℕ → Option Event = wanted_at s.site (kernel_in s) in
    let t = c.loop-tile.tile in
    let o = c.wanted_at-order.result in
    let is : option_map Event.Order o ≡ f t = c.wanted_at-order.ensures ∙ ap f c.new.ensures in
    sym (c.loop-tile.invariant ∙ found_at f t o c.loop-tile-test.true is (sym c.is_some.ensures ∙ c.if-is_some.true))

pub loop-tile-preserved : goal.loop-tile-preserved
loop-tile-preserved c =
    let s = c.args.self.now in
    let f : ℕ → Option Event = wanted_at s.site (kernel_in s) in
    let t = c.loop-tile.tile in
    let o = c.wanted_at-order.result in
    let is : option_map Event.Order o ≡ f t = c.wanted_at-order.ensures ∙ ap f c.new.ensures in
    c.loop-tile.invariant ∙ none_at f t o c.loop-tile-test.true is (sym c.is_some.ensures ∙ c.if-is_some.false)

pub returns : goal.returns
returns c =
    let s = c.args.self.now in
    sym (c.loop-tile.invariant ∙ none_left (wanted_at s.site (kernel_in s)) c.loop-tile.tile c.loop-tile-test.false)
