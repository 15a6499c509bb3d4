use Rattle.std.proofs.Common.{◌≡◌, subst}
use Rattle.std.specs.Prelude.{option_map}
use Rattle.m3_base.specs.declared.event.Event.{Event}
use Rattle.m3_model.specs.Kernel.Driver.{next_switch}
use Rattle.m3_kernel.specs.KernelStateView.{KernelAt}
use Rattle.m3_kernel.proofs.kernel.Kernel.wanted.Goals as goal

pub returns : goal.returns
returns c = subst (λ (m : KernelAt). option_map Event.Order c.wanted.result ≡ next_switch m.site m.kernel) c.self.view_is c.wanted.ensures
