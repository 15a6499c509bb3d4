use Rattle.m3_script.proofs.QuickForms.{read_front}
use Rattle.m3_script.proofs.quick.cut_read.Goals as goal

pub returns : goal.returns
returns c =
    rw c.new.ensures (read_front c.args.text.now c.in_ok-ep.rest.now c.in_ok-off.rest.now c.in_ok-len.rest.now c.in_ok-rest.rest.now c.in_ok-ep.ep c.in_ok-off.off c.in_ok-len.len c.in_ok-ep.ensures.most c.in_ok-off.ensures.most
    c.in_ok-len.ensures.most c.in_ok-ep.ensures.text c.in_ok-off.ensures.text c.in_ok-len.ensures.text c.in_ok-rest.ensures)
