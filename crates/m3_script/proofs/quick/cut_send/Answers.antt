use Rattle.m3_script.proofs.QuickForms.{send_front, call_front}
use Rattle.m3_script.proofs.quick.cut_send.Goals as goal

pub returns-in-Some : goal.returns-in-Some
returns-in-Some c =
    rw c.new-ep.ensures (send_front c.args.text.now c.in_ok-ep.rest.now c.in_ok-behind.field-0.now c.in_ok-payload.rest.now c.in-Some.rest.now c.in_ok-payload.payload c.in_ok-ep.ep c.in_ok-ep.ensures.most
    c.in_ok-ep.ensures.text c.in_ok-behind.ensures c.in_ok-payload.ensures c.in-Some.ensures)

pub returns-in_ok-cut_end-in-None : goal.returns-in_ok-cut_end-in-None
returns-in_ok-cut_end-in-None c =
    rw (c.new-ep.ensures, c.new.ensures) (call_front c.args.text.now c.in_ok-ep.rest.now c.in_ok-behind.field-0.now c.in_ok-payload.rest.now c.in_ok-behind-in-None.field-0.now c.in_ok-reply-in-None.rest.now
    c.in_ok-cut_end-in-None.field-0.now c.in_ok-payload.payload c.in_ok-ep.ep c.in_ok-reply-in-None.reply c.in_ok-ep.ensures.most c.in_ok-reply-in-None.ensures.most c.in_ok-ep.ensures.text
    c.in_ok-behind.ensures c.in_ok-payload.ensures c.in_ok-behind-in-None.ensures c.in_ok-reply-in-None.ensures.text c.in_ok-cut_end-in-None.ensures)
