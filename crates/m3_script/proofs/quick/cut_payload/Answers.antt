use Rattle.m3_script.proofs.QuickForms.{payload_of}
use Rattle.m3_script.proofs.quick.cut_payload.Goals as goal

pub returns-in-Ok : goal.returns-in-Ok
returns-in-Ok c =
    payload_of c.args.text.now c.split_at.result.0.now c.split_at.result.1.now c.in-Ok.payload c.word_length.result
    c.split_at.ensures.front c.split_at.ensures.back c.if-is_empty.ensures c.in-Ok.ensures
