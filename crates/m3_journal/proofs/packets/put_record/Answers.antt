use Rattle.std.proofs.Common.{◌≡◌, ◌++◌, codes, string_bytes}
use Rattle.std.proofs.lemmas.Result.{on_ok_weaker}
use Rattle.m3_text.specs.Printing.{words_text}
use Rattle.m3_journal.specs.Orders.{extent_words}
use Rattle.m3_journal.specs.Packets.{receiver_words, terms_words, record_grant_words}
use Rattle.m3_journal.proofs.Spacing.{behind}
use Rattle.m3_journal.proofs.packets.put_record.Goals as goal

pub returns-in_ok-put_receiver-in-Send : goal.returns-in_ok-put_receiver-in-Send
returns-in_ok-put_receiver-in-Send c = rw c.in-Send.is (
    on_ok_weaker c.put_terms.result
    (λ (h : string_bytes c.put_terms.new.out ≡ string_bytes c.put_receiver.new.out ++ words_text (terms_words c.in-Send.label c.in-Send.size c.in-Send.limit)).
    behind (string_bytes c.args.out.now) (string_bytes c.put_record_grant.new.out) (string_bytes c.put_terms.new.out)
    (record_grant_words (codes "send") c.in-Send.grant) (receiver_words c.in-Send.to c.in-Send.to_ep c.in-Send.to_grant ++ terms_words c.in-Send.label c.in-Send.size c.in-Send.limit) c.in_ok-put_record_grant-in-Send.ensures
    (behind (string_bytes c.put_record_grant.new.out) (string_bytes c.put_receiver.new.out) (string_bytes c.put_terms.new.out)
    (receiver_words c.in-Send.to c.in-Send.to_ep c.in-Send.to_grant) (terms_words c.in-Send.label c.in-Send.size c.in-Send.limit) c.in_ok-put_receiver-in-Send.ensures h))
    c.put_terms.ensures)

pub returns-in_ok-put_record_grant-in-Memory : goal.returns-in_ok-put_record_grant-in-Memory
returns-in_ok-put_record_grant-in-Memory c = rw c.in-Memory.is (
    on_ok_weaker c.put_extent.result
    (λ (h : string_bytes c.put_extent.new.out ≡ string_bytes c.put_record_grant-in-Memory.new.out ++ words_text (extent_words c.in-Memory.start c.in-Memory.length c.in-Memory.perm)).
    behind (string_bytes c.args.out.now) (string_bytes c.put_record_grant-in-Memory.new.out) (string_bytes c.put_extent.new.out)
    (record_grant_words (codes "range") c.in-Memory.grant) (extent_words c.in-Memory.start c.in-Memory.length c.in-Memory.perm) c.in_ok-put_record_grant-in-Memory.ensures h)
    c.put_extent.ensures)
