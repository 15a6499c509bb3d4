use Rattle.std.proofs.Common.{◌∷◌, ◌+◌, ap, sym, ◌∙◌, drop}
use Rattle.std.proofs.lemmas.List.{drop_more}
use Rattle.std.proofs.Math.ListN.{drop_of_length-le}
use Rattle.m3_base.specs.Lists.Counting.{one, how_many}
use Rattle.m3_base.specs.Ideal.Credits.{is_owed}
use Rattle.m3_endpoint.proofs.CounterSums.{left_more, left_none}
use Rattle.m3_endpoint.proofs.receive.readers.count_fetched.Goals as goal

pub loop-message-init : goal.loop-message-init
loop-message-init c last k = k

pub loop-message-preserved : goal.loop-message-preserved
loop-message-preserved c =
    let xs = c.args.fetched.now in
    let i = c.loop-message.message-index in
    let x = c.message-item.result in
    left_more (λ g. how_many (is_owed g) xs) (λ g. how_many (is_owed g) (drop i xs)) (λ g. one (is_owed g x)) (λ g. how_many (is_owed g) (drop (i + 1) xs)) c.args.counts.now c.loop-message.counts c.count_owed.new.counts
    (λ g. ap (how_many (is_owed g)) (drop_more xs i x c.loop-message-test.true ∙ ap (λ y. y ∷ drop (i + 1) xs) (sym c.message-item.is)))
    c.loop-message.invariant c.count_owed.ensures

pub returns : goal.returns
returns c =
    let xs = c.args.fetched.now in
    let i = c.loop-message.message-index in
    left_none (λ g. how_many (is_owed g) xs) (λ g. how_many (is_owed g) (drop i xs)) c.args.counts.now c.loop-message.counts
    (λ g. ap (how_many (is_owed g)) (drop_of_length-le xs c.loop-message-test.false)) c.loop-message.invariant
