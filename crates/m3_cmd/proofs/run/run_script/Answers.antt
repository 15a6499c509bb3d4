use Rattle.std.proofs.Common.{refl, inl}
use Rattle.m3_cmd.proofs.run.run_script.Goals as goal

pub returns-in-Ok-run_to_text : goal.returns-in-Ok-run_to_text
returns-in-Ok-run_to_text c = inl (
  refl,
  record {
    setup = c.in-Ok.script.setup;
    events = c.in-Ok.script.events.items;
    spelled = c.in-Ok.ensures.exact;
    is_text = c.in-Ok-run_to_text.ensures;
  },
)
