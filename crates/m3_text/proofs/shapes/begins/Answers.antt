use Rattle.std.proofs.Common.{sym}
use Rattle.m3_text.proofs.LineForm.{begins_short}
use Rattle.m3_text.proofs.shapes.begins.Goals as goal

pub returns-then-words-form-clause-begins : goal.returns-then-words-form-clause-begins
returns-then-words-form-clause-begins c = sym (begins_short c.args.form.now c.args.words.now c.if-words-form.true)
