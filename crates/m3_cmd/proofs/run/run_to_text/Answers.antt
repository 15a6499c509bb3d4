use Rattle.m3_cmd.proofs.JournalFollowsScript.{text_is}
use Rattle.m3_cmd.proofs.run.run_to_text.Goals as goal

pub returns : goal.returns
returns c =
    text_is c.args.format c.args.script.setup c.args.script.events.items c.in_ok-journal_text.field-0.items c.in_ok-machine.machine
    c.in_ok-machine.ensures c.in_ok-journal_text.ensures.text c.journal_text.ensures.reaches c.journal_text.ensures.runs
