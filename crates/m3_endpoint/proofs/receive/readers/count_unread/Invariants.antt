use Rattle.m3_base.specs.Lists.Counting.{how_many}
use Rattle.m3_base.specs.Ideal.Credits.{is_sent_by}
use Rattle.m3_endpoint.proofs.CounterSums.{Left}
use Rattle.m3_endpoint.proofs.receive.readers.count_unread.Given as goal

abbrev pub invariant-loop-message : goal.invariant-loop-message
invariant-loop-message l = Left (λ g. how_many (is_sent_by g) l.unread.items) (λ g. how_many (is_sent_by g) l.message-iterator) l.fn.counts l.counts
