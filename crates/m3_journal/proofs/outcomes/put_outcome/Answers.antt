use Rattle.std.proofs.Common.{◌≡◌, ◌++◌, codes, string_bytes}
use Rattle.std.proofs.lemmas.Result.{on_ok_weaker}
use Rattle.m3_text.specs.Printing.{words_text}
use Rattle.m3_journal.specs.Commands.{optional}
use Rattle.m3_journal.specs.Outcomes.{said_words}
use Rattle.m3_journal.proofs.Spacing.{behind}
use Rattle.m3_journal.proofs.outcomes.put_outcome.Goals as goal

pub returns : goal.returns
returns c =
    on_ok_weaker c.put_optional.result
    (λ (h : string_bytes c.put_optional.new.out ≡ string_bytes c.put_said.new.out ++ words_text (optional (codes "restore") c.args.outcome.now.restore)).
    behind (string_bytes c.args.out.now) (string_bytes c.put_said.new.out) (string_bytes c.put_optional.new.out)
    (said_words c.args.outcome.now.said) (optional (codes "restore") c.args.outcome.now.restore) c.in_ok-put_said.ensures h)
    (rw c.act_number.ensures at c.put_optional.ensures)
