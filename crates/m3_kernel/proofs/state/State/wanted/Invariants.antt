use Rattle.std.proofs.Common.{◌≡◌, ◌-◌}
use Rattle.m3_base.specs.Placement.Driver.{first_for}
use Rattle.m3_model.specs.Kernel.Driver.{wanted_at, next_switch}
use Rattle.m3_kernel.specs.KernelStateView.{kernel_in}
use Rattle.m3_kernel.proofs.next_event.WantedSwitch.{tiles_from}
use Rattle.m3_kernel.proofs.state.State.wanted.Given as goal

abbrev pub invariant-loop-tile : goal.invariant-loop-tile
invariant-loop-tile l =
    next_switch l.fn.self.site (kernel_in l.fn.self) ≡ first_for (tiles_from l.tile (16 - l.tile)) (wanted_at l.fn.self.site (kernel_in l.fn.self))
