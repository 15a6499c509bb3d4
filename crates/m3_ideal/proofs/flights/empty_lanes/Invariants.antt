use Rattle.std.proofs.Common.{◌≡◌, replicate, None, [], ◌∷◌}
use Rattle.m3_ideal.specs.Lanes.{lanes_of}
use Rattle.m3_ideal.proofs.flights.empty_lanes.Given as goal

abbrev pub invariant-loop : goal.invariant-loop
invariant-loop l = lanes_of l.lanes.items ≡ replicate l.counter (None ∷ [])
