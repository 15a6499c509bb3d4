use Rattle.m3_script.proofs.QuickForms.{take_front}
use Rattle.m3_script.proofs.quick.cut_take.Goals as goal

pub returns : goal.returns
returns c =
    rw (c.new.ensures, c.new-2.ensures) (take_front c.args.text.now c.in_ok-to.rest.now c.in_ok-from.rest.now c.in_ok-rest.rest.now c.in_ok-to.to c.in_ok-from.from c.in_ok-to.ensures.most c.in_ok-from.ensures.most
    c.in_ok-to.ensures.text c.in_ok-from.ensures.text c.in_ok-rest.ensures)
