use Rattle.m3_script.proofs.QuickForms.{acknowledge_front}
use Rattle.m3_script.proofs.quick.cut_acknowledge.Goals as goal

pub returns : goal.returns
returns c =
    rw c.new.ensures (acknowledge_front c.args.text.now c.in_ok-ep.rest.now c.in_ok-token.rest.now c.in_ok-rest.rest.now c.in_ok-ep.ep c.in_ok-token.token c.in_ok-ep.ensures.most c.in_ok-token.ensures.most
    c.in_ok-ep.ensures.text c.in_ok-token.ensures.text c.in_ok-rest.ensures)
