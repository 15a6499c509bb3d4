use Rattle.m3_script.proofs.QuickForms.{running_same}
use Rattle.m3_script.proofs.reading.read_quickly.Goals as goal

pub returns-in-Running-clause-reads : goal.returns-in-Running-clause-reads
returns-in-Running-clause-reads c =
    rw c.in-Running.is (running_same c.read_quick_event.result c.in-Running.setup c.read_quick_event.new.events.items c.in-Running.events.items _ c.read_quick_event.ensures.reads)
