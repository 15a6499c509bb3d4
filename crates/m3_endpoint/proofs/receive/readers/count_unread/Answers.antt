use Rattle.std.proofs.Common.{ap, sym, subst, ◌∙◌, List}
use Rattle.m3_base.specs.declared.message.Message.{Message}
use Rattle.m3_base.specs.Lists.Counting.{one, how_many}
use Rattle.m3_base.specs.Ideal.Credits.{is_sent_by}
use Rattle.m3_endpoint.proofs.CounterSums.{Left, left_first, left_more, left_none}
use Rattle.m3_endpoint.proofs.receive.readers.count_unread.Goals as goal

pub loop-message-init : goal.loop-message-init
loop-message-init c =
    subst (λ (xs : List Message). Left (λ g. how_many (is_sent_by g) c.args.unread.now.items) (λ g. how_many (is_sent_by g) xs) c.args.counts.now c.args.counts.now)
    (sym (c.into_iter-message-iterator.ensures.into_iter_gives ∙ c.iter-message-items.ensures.rest))
    (left_first (λ g. how_many (is_sent_by g) c.args.unread.now.items) c.args.counts.now)

pub loop-message-preserved : goal.loop-message-preserved
loop-message-preserved c =
    left_more (λ g. how_many (is_sent_by g) c.args.unread.now.items) (λ g. how_many (is_sent_by g) c.loop-message.message-iterator) (λ g. one (is_sent_by g c.in-Some.message.now)) (λ g. how_many (is_sent_by g) c.next.new.self) c.args.counts.now c.loop-message.counts c.count_message.new.counts
    (λ g. ap (how_many (is_sent_by g)) c.in-Some.ensures.steps)
    c.loop-message.invariant c.count_message.ensures

pub returns : goal.returns
returns c =
    left_none (λ g. how_many (is_sent_by g) c.args.unread.now.items) (λ g. how_many (is_sent_by g) c.loop-message.message-iterator) c.args.counts.now c.loop-message.counts
    (λ g. ap (how_many (is_sent_by g)) c.in-None.ensures.steps.0) c.loop-message.invariant
