use Rattle.std.proofs.Common.{◌∙◌, sym, ap}
use Rattle.m3_kernel.specs.ActivityView.{seats_of}
use Rattle.m3_kernel.proofs.HeldSet.{none_held}
use Rattle.m3_kernel.proofs.OpenedKernel.{site_memory, opened_tables}
use Rattle.m3_kernel.proofs.state.State.new.Goals as goal

pub returns-clause-kept : goal.returns-clause-kept
returns-clause-kept c =
    record {
      tables = opened_tables c.in_ok-site.site c.new-5.result.items c.in_ok-index.index.items c.in_ok-berths.berths.items c.new-5.ensures.items c.in_ok-index.ensures c.in_ok-berths.ensures;
      held = none_held (seats_of c.new-5.result.items) c.in_ok-held.held (ap seats_of c.new-5.ensures.items);
      memory = ap (λ t. t.memory) c.in_ok-grants.ensures ∙ sym (ap (λ h. h.memory) c.in_ok-site.ensures ∙ site_memory c.args.setup.now);
    }
