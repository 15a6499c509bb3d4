use Rattle.std.proofs.Common.{drop}
use Rattle.m3_base.specs.Lists.Counting.{how_many}
use Rattle.m3_base.specs.Ideal.Credits.{is_owed}
use Rattle.m3_endpoint.proofs.CounterSums.{Left}
use Rattle.m3_endpoint.proofs.receive.readers.count_fetched.Given as goal

abbrev pub invariant-loop-message : goal.invariant-loop-message
invariant-loop-message l = Left (λ g. how_many (is_owed g) l.fetched) (λ g. how_many (is_owed g) (drop l.message-index l.fetched)) l.fn.counts l.counts
