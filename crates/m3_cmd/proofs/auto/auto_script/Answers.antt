use Rattle.m3_cmd.proofs.DriverMakes.{auto_answer}
use Rattle.m3_cmd.proofs.auto.auto_script.Goals as goal

pub returns-in-Ok-auto_to_text : goal.returns-in-Ok-auto_to_text
returns-in-Ok-auto_to_text c =
    auto_answer c.args.format c.args.bytes.now c.in-Ok.script.setup c.in-Ok.script.events.items c.in-Ok-auto_to_text.quiet c.status_of.result c.in-Ok-auto_to_text.text.items
    c.in-Ok.ensures.exact c.status_of.ensures c.in-Ok-auto_to_text.ensures
