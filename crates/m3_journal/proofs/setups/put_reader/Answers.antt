use Rattle.std.proofs.Common.{◌≡◌, ◌∷◌, ◌++◌, [], codes, string_bytes}
use Rattle.std.specs.Prelude.{decimal}
use Rattle.std.proofs.lemmas.Result.{on_ok_weaker}
use Rattle.m3_text.specs.Printing.{words_text}
use Rattle.m3_journal.specs.SetupLines.{pipe_words, fuel_words}
use Rattle.m3_journal.proofs.Spacing.{line_of_three}
use Rattle.m3_journal.proofs.setups.put_reader.Goals as goal

pub returns : goal.returns
returns c =
    on_ok_weaker c.put_fuel.result
    (λ (h : string_bytes c.put_fuel.new.out ≡ string_bytes c.put_pipe.new.out ++ words_text (fuel_words c.args.fuel)).
    line_of_three (string_bytes c.args.out.now) (string_bytes c.put_reader_ends.new.out) (string_bytes c.put_pipe.new.out) (string_bytes c.put_fuel.new.out)
    (codes "reader") (decimal c.args.act ∷ codes "mem" ∷ decimal c.args.mem ∷ codes "recv" ∷ decimal c.args.recv ∷ [])
    (pipe_words c.args.chunk c.args.ring) (fuel_words c.args.fuel) c.in_ok-put_reader_ends.ensures c.in_ok-put_pipe.ensures h)
    c.put_fuel.ensures
