use Rattle.m3_script.proofs.QuickForms.{do_front}
use Rattle.m3_script.proofs.quick.cut_do.Goals as goal

pub returns : goal.returns
returns c =
    rw c.new.ensures (do_front c.args.text.now c.in_ok-act.rest.now c.in_ok-command.rest.now c.in_ok-act.act c.in_ok-command.command c.in_ok-act.ensures.most c.in_ok-act.ensures.text c.in_ok-command.ensures)
