use Rattle.m3_script.proofs.QuickForms.{write_front}
use Rattle.m3_script.proofs.quick.cut_write.Goals as goal

pub returns : goal.returns
returns c =
    rw c.new.ensures (write_front c.args.text.now c.in_ok-ep.rest.now c.in_ok-off.rest.now c.in_ok-behind.field-0.now c.in_ok-payload.rest.now c.in_ok-rest.rest.now c.in_ok-payload.payload c.in_ok-ep.ep c.in_ok-off.off c.in_ok-ep.ensures.most c.in_ok-off.ensures.most
    c.in_ok-ep.ensures.text c.in_ok-off.ensures.text c.in_ok-behind.ensures c.in_ok-payload.ensures c.in_ok-rest.ensures)
