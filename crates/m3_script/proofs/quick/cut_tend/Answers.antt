use Rattle.m3_script.proofs.QuickForms.{tend_front}
use Rattle.m3_script.proofs.quick.cut_tend.Goals as goal

pub returns : goal.returns
returns c =
    rw c.new.ensures (tend_front c.args.text.now c.in_ok-act.rest.now c.in_ok-rest.rest.now c.in_ok-act.act c.in_ok-act.ensures.most c.in_ok-act.ensures.text c.in_ok-rest.ensures)
