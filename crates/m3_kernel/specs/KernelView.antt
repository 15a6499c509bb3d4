-- What the kernel is to a reader.
use Rattle.m3_kernel.specs.KernelStateView.{KernelAt, at_site, IsKept}
use Rattle.m3_kernel.specs.declared.kernel.Kernel.TheInside.{Inside}

abbrev pub kernel_at : Inside → KernelAt
kernel_at k = at_site k.state

abbrev pub IsWhole : Inside → Type 0
IsWhole k = IsKept k.state
