use Rattle.std.proofs.Common.{◌≡◌, ◌++◌, codes, string_bytes}
use Rattle.std.specs.Prelude.{decimal}
use Rattle.std.proofs.lemmas.Result.{on_ok_weaker}
use Rattle.m3_journal.proofs.Spacing.{two_fields}
use Rattle.m3_journal.proofs.setups.put_machine.Goals as goal

pub returns : goal.returns
returns c =
    on_ok_weaker c.put_field-2.result
    (λ (h : string_bytes c.put_field-2.new.out ≡ string_bytes c.put_field.new.out ++ (codes " memory " ++ decimal c.args.memory)).
    two_fields (string_bytes c.args.out.now) (string_bytes c.put_field.new.out) (string_bytes c.put_field-2.new.out)
    (codes "machine tiles ") (decimal c.args.tiles) (codes " memory ") (decimal c.args.memory) c.in_ok-put_field.ensures h)
    c.put_field-2.ensures
