use Rattle.std.proofs.Common.{◌≡◌, replicate, None}
use Rattle.m3_kernel.proofs.site.tables.no_tiles.Given as goal

abbrev pub invariant-loop : goal.invariant-loop
invariant-loop l = l.tiles.items ≡ replicate l.counter None
