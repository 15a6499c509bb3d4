use Rattle.std.proofs.Common.{◌≡◌, ◌∷◌, ◌++◌, [], codes, string_bytes}
use Rattle.std.specs.Prelude.{decimal}
use Rattle.std.proofs.lemmas.Result.{on_ok_weaker}
use Rattle.m3_text.specs.Hex.{hex_text}
use Rattle.m3_text.specs.Printing.{words_text}
use Rattle.m3_journal.specs.SetupLines.{pipe_words}
use Rattle.m3_journal.proofs.Spacing.{line_of_three}
use Rattle.m3_journal.proofs.setups.put_writer.Goals as goal

pub returns : goal.returns
returns c =
    on_ok_weaker c.put_bytes.result
    (λ (h : string_bytes c.put_bytes.new.out ≡ string_bytes c.put_pipe.new.out ++ words_text (hex_text c.args.bytes.now ∷ [])).
    line_of_three (string_bytes c.args.out.now) (string_bytes c.put_writer_ends.new.out) (string_bytes c.put_pipe.new.out) (string_bytes c.put_bytes.new.out)
    (codes "writer") (decimal c.args.act ∷ codes "mem" ∷ decimal c.args.mem ∷ codes "send" ∷ decimal c.args.send ∷ codes "reply" ∷ decimal c.args.reply ∷ [])
    (pipe_words c.args.chunk c.args.ring) (hex_text c.args.bytes.now ∷ []) c.in_ok-put_writer_ends.ensures c.in_ok-put_pipe.ensures h)
    c.put_bytes.ensures
