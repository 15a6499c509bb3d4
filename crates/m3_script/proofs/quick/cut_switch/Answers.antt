use Rattle.m3_script.proofs.QuickForms.{switch_front}
use Rattle.m3_script.proofs.quick.cut_switch.Goals as goal

pub returns : goal.returns
returns c =
    rw (c.new.ensures, c.new-2.ensures) (switch_front c.args.text.now c.in_ok-tile.rest.now c.in_ok-act.rest.now c.in_ok-rest.rest.now c.in_ok-tile.tile c.in_ok-act.act c.in_ok-tile.ensures.most c.in_ok-act.ensures.most
    c.in_ok-tile.ensures.text c.in_ok-act.ensures.text c.in_ok-rest.ensures)
