use Rattle.std.proofs.Common.{ℕ, ◌<◌, ◌∙◌, subst}
use Rattle.m3_kernel.proofs.PerformSwitch.{tables_now, held_swapped, switch_orders}
use Rattle.m3_kernel.proofs.state.State.perform_switch.Goals as goal

pub returns-clause-kept : goal.returns-clause-kept
returns-clause-kept c =
    let kept = c.requires.kept in
    let low : c.args.tile < 16 = subst (λ (n : ℕ). n < 16) c.number.ensures.same c.number.ensures.range in
    record {
      tables = tables_now c.args.self.now kept c.args.tile c.args.act low c.args.pair c.requires.allowed c.start_save.new.self c.start_restore.new.self c.index_mut.result.now c.index_mut-2.result.now c.index_mut.ensures.value c.start_save.ensures c.index_mut-2.ensures.value c.start_restore.ensures
          c.from.result (c.from.ensures ∙ c.number.ensures.same);
      held = held_swapped c.args.self.now kept c.args.tile c.args.act low c.args.pair c.requires.allowed c.start_save.new.self c.start_restore.new.self c.index_mut.result.now c.index_mut-2.result.now c.index_mut.ensures.value c.start_save.ensures c.index_mut-2.ensures.value c.start_restore.ensures;
      memory = kept.memory;
    }

pub returns-clause-orders : goal.returns-clause-orders
returns-clause-orders c =
    let kept = c.requires.kept in
    let low : c.args.tile < 16 = subst (λ (n : ℕ). n < 16) c.number.ensures.same c.number.ensures.range in
    switch_orders c.args.self.now kept c.args.tile c.args.act low c.args.pair c.requires.allowed c.start_save.new.self c.start_restore.new.self c.index_mut.result.now c.index_mut-2.result.now c.index_mut.ensures.value c.start_save.ensures c.index_mut-2.ensures.value c.start_restore.ensures
    c.from.result (c.from.ensures ∙ c.number.ensures.same) c.take_out.new.self c.take_out.ensures
    c.act-leaver.result c.index.result.now c.index.ensures c.act-leaver.ensures
