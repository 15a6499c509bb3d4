use Rattle.std.proofs.Common.{◌≡◌, ◌++◌, ◌∷◌, [], codes, string_bytes}
use Rattle.std.proofs.lemmas.Result.{on_ok_weaker}
use Rattle.m3_text.specs.Printing.{words_text, flight_word}
use Rattle.m3_journal.specs.Commands.{optional}
use Rattle.m3_journal.specs.Outcomes.{answer_words}
use Rattle.m3_journal.proofs.Spacing.{behind}
use Rattle.m3_journal.proofs.outcomes.put_answered.Goals as goal

pub returns : goal.returns
returns c =
    on_ok_weaker c.put_optional.result
    (λ (h : string_bytes c.put_optional.new.out ≡ string_bytes c.put_answer.new.out ++ words_text (optional (codes "closed") c.args.closed)).
    behind (string_bytes c.args.out.now) (string_bytes c.put_named.new.out) (string_bytes c.put_optional.new.out)
    (codes "answered" ∷ flight_word c.args.id ∷ []) (answer_words c.args.answer.now ++ optional (codes "closed") c.args.closed) c.in_ok-put_named.ensures
    (behind (string_bytes c.put_named.new.out) (string_bytes c.put_answer.new.out) (string_bytes c.put_optional.new.out)
    (answer_words c.args.answer.now) (optional (codes "closed") c.args.closed) c.in_ok-put_answer.ensures h))
    (rw c.grant_number.ensures at c.put_optional.ensures)
