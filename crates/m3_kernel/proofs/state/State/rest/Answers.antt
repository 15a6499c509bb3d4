use Rattle.std.proofs.Common.{◌≡◌, ℕ, ◌<◌, ◌∙◌, [], sym, ap, subst}
use Rattle.m3_base.specs.declared.event.Said.{Said}
use Rattle.std.specs.Prelude.{◌&&◌, not}
use Rattle.m3_model.specs.Config.Site.{tile_of, has_program}
use Rattle.m3_model.specs.Kernel.State.{Kernel}
use Rattle.m3_model.specs.Kernel.Step.{entry_of, then_restore, take_saved}
use Rattle.m3_kernel.specs.KernelStateView.{kernel_in}
use Rattle.m3_sched.specs.SchedView.{with_ready_if}
use Rattle.m3_kernel.proofs.TakeYieldAndSaved.{leaving_there, rest_tables, rest_is, rested_kernel, joins_saved}
use Rattle.m3_kernel.proofs.ChangeEntry.{held_now}
use Rattle.m3_kernel.proofs.TableLookup.{within_seats}
use Rattle.m3_kernel.proofs.StepOutcome.{does_as}
use Rattle.m3_kernel.proofs.state.State.rest.Goals as goal

pub then_restore-requires : goal.then_restore-requires
then_restore-requires c =
    let s = c.args.self.now in
    let kept = c.requires.kept in
    let a = c.args.context.act in
    let tile : c.from.result ≡ tile_of s.site a = c.from.ensures ∙ c.number-2.ensures.same ∙ c.tile_of-tile.ensures ∙ ap (tile_of s.site) (c.number.ensures.same ∙ c.act-act.ensures) in
    let low : c.from.result < 16 = subst (λ (n : ℕ). n < 16) (sym c.from.ensures) c.number-2.ensures.range in
    record {
      tables = rest_tables s kept a c.args.at c.requires.place c.index_mut.result.now c.index_mut.ensures.value
          (leaving_there (kernel_in s) a c.args.at c.requires.place c.requires.leaves) c.rest.new.self c.args.context c.args.ended c.rest.ensures
          c.from.result tile low c.index_mut-2.result.now c.index_mut-2.ensures.value;
      held = held_now s kept c.args.at c.index_mut.result.now c.rest.new.self (within_seats s.seats.items c.args.at c.requires.place.seat c.requires.place.here) c.index_mut.ensures.value (ap (λ z. z.act) c.rest.ensures) (ap (λ z. z.hold) c.rest.ensures);
      memory = kept.memory;
    }

pub returns-clause-does : goal.returns-clause-does
returns-clause-does c =
    let s = c.args.self.now in
    let kept = c.requires.kept in
    let a = c.args.context.act in
    let w = c.args.waiting in
    let tile : c.tile_of-tile.result ≡ tile_of s.site a = c.tile_of-tile.ensures ∙ ap (tile_of s.site) (c.number.ensures.same ∙ c.act-act.ensures) in
    let leaving = leaving_there (kernel_in s) a c.args.at c.requires.place c.requires.leaves in
    let q = c.ready_if.new.self in
    let joins : q ≡ with_ready_if (joins_saved s kept a c.args.at c.requires.place c.index_mut.result.now c.index_mut.ensures.value leaving c.rest.new.self c.args.context c.args.ended c.rest.ensures w) c.tile_of-tile.result a s.sched =
    c.ready_if.ensures ∙ ap (λ b. with_ready_if b c.tile_of-tile.result c.act-act.result s.sched) c.is_ready-joins.ensures
    ∙ ap (λ n. with_ready_if (has_program s.site n && (not w && not c.args.ended)) c.tile_of-tile.result n s.sched) c.act-act.ensures in
    let step = rest_is s kept a c.args.at c.requires.place c.index_mut.result.now c.index_mut.ensures.value leaving c.rest.new.self c.args.context c.args.ended c.rest.ensures w c.tile_of-tile.result tile q joins in
    let k : Kernel = rested_kernel s kept a c.args.at c.requires.place c.index_mut.result.now c.index_mut.ensures.value leaving c.rest.new.self c.args.context c.args.ended c.rest.ensures w c.tile_of-tile.result tile q joins in
    does_as c.then_restore.result (kernel_in c.then_restore.new.self) (take_saved s.site (kernel_in s) c.args.context w c.args.ended (entry_of a (kernel_in s)))
    (then_restore s.site (Said.Saved c.act-act.result) c.tile_of-tile.result k [])
    (step ∙ ap (λ n. then_restore s.site (Said.Saved n) c.tile_of-tile.result k []) (sym c.act-act.ensures))
    c.then_restore.ensures.does
