-- The tiles of a machine at opening, which take what the kernel left of a table of contexts.
use Rattle.std.specs.Prelude.{List, Option}
use Rattle.m3_base.specs.Ideal.Context.{Context}
use Rattle.m3_base.specs.Setup.Rules.{SetupValue}
use Rattle.m3_kernel.specs.KernelOpening.{CanOpen, IsOpened}
use Rattle.m3_kernel.specs.KernelStateView.{KernelAt}

-- the kernel is the one that the setup opens, and the table has the contexts that it left
pub record HasTileContexts (s : SetupValue) (k : KernelAt) (table : List (Option Context)) : Type 0 where
  pub contexts : List (Option Context)
  pub opening : CanOpen s contexts
  pub kernel : IsOpened s contexts table k
