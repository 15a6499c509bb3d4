use Rattle.std.proofs.Common.{◌≡◌, ◌++◌, ◌∷◌, [], string_bytes}
use Rattle.std.proofs.lemmas.Result.{on_ok_weaker}
use Rattle.m3_text.specs.Hex.{hex_text}
use Rattle.m3_text.specs.Printing.{words_text}
use Rattle.m3_journal.specs.Packets.{wish_words, origin_words}
use Rattle.m3_journal.proofs.Spacing.{behind}
use Rattle.m3_journal.proofs.packets.put_content.Goals as goal

pub returns : goal.returns
returns c =
    on_ok_weaker c.put_payload.result
    (λ (h : string_bytes c.put_payload.new.out ≡ string_bytes c.put_wish.new.out ++ words_text (hex_text c.args.message.now.payload ∷ [])).
    behind (string_bytes c.args.out.now) (string_bytes c.put_origin.new.out) (string_bytes c.put_payload.new.out)
    (origin_words c.args.message.now.header.send c.args.message.now.header.label) (wish_words c.args.message.now.header ++ hex_text c.args.message.now.payload ∷ []) c.in_ok-put_origin.ensures
    (behind (string_bytes c.put_origin.new.out) (string_bytes c.put_wish.new.out) (string_bytes c.put_payload.new.out)
    (wish_words c.args.message.now.header) (hex_text c.args.message.now.payload ∷ []) c.in_ok-put_wish.ensures h))
    (rw c.bytes.ensures at c.put_payload.ensures)
