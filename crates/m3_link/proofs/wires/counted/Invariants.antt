use Rattle.std.proofs.Common.{◌≡◌, ◌+◌, ◌++◌, ◌≤◌, min}
use Rattle.m3_link.specs.LinkOps.{data_in}
use Rattle.m3_link.proofs.wires.counted.Given as goal

abbrev pub invariant-loop-parcel : goal.invariant-loop-parcel
invariant-loop-parcel l =
    (min 4294967295 (l.fn.before + data_in l.fn.link.items) ≡ min 4294967295 (l.count + data_in (l.parcel-iterator.head.now ++ l.parcel-iterator.wrapped.now))) × (l.count ≤ 4294967295)
