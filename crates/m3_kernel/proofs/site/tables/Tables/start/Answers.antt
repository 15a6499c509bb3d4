use Rattle.std.proofs.Common.{ap, map}
use Rattle.m3_kernel.specs.HomeTableView.{value_of}
use Rattle.m3_kernel.proofs.HomeTable.{none_declared}
use Rattle.m3_kernel.proofs.site.tables.Tables.start.Goals as goal

pub invariant_of-result : goal.invariant_of-result
invariant_of-result c =
    none_declared _ _ _ _ (ap (map value_of) c.new.ensures.items) c.in_ok-tiles.ensures c.in_ok-programs.ensures c.in_ok-crowds.ensures
