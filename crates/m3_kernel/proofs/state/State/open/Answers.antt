use Rattle.std.proofs.Common.{◌+◌, ◌∙◌, List, drop, ap}
use Rattle.std.specs.Prelude.{Option}
use Rattle.m3_base.specs.Ideal.Context.{Context}
use Rattle.m3_model.specs.Config.Site.{Site}
use Rattle.m3_kernel.specs.HomeTableView.{value_of}
use Rattle.m3_model.specs.SetupOpening.{opened_site}
use Rattle.m3_kernel.specs.KernelStateView.{KernelAt, at_site}
use Rattle.m3_kernel.proofs.OpenAll.{at_home, is_fresh, its_home, has_context, progress_begin, progress_more, progress_end}
use Rattle.m3_kernel.proofs.state.State.open.Goals as goal

pub loop-at-init : goal.loop-at-init
loop-at-init c = (c.in_ok-state.ensures.kept, progress_begin c.args.setup.now c.args.contexts.now.items c.requires (at_site c.in_ok-state.state) c.in_ok-state.ensures.site c.in_ok-state.ensures.kernel)

pub seat_at-requires-clause-fresh : goal.seat_at-requires-clause-fresh
seat_at-requires-clause-fresh c =
    let s = c.args.setup.now in
    let k : KernelAt = at_site c.loop-at.state in
    let table : List (Option Context) = c.loop-at.contexts.items in
    let y = c.index-homes-at.result in
    let homes = c.homes-at-end.ensures ∙ ap (λ (h : Site). h.homes) c.in_ok-state.ensures.site in
    let so = at_home s c.args.contexts.now.items k table c.homes-at-end.result.now c.homes.result.now c.loop-at.at y c.loop-at.invariant.1 homes c.loop-at-test.true c.homes.ensures c.index-homes-at.is in
    is_fresh s c.args.contexts.now.items k table (value_of y) (drop (c.loop-at.at + 1) (opened_site s).homes) so

pub seat_at-requires-clause-home : goal.seat_at-requires-clause-home
seat_at-requires-clause-home c =
    let s = c.args.setup.now in
    let k : KernelAt = at_site c.loop-at.state in
    let table : List (Option Context) = c.loop-at.contexts.items in
    let y = c.index-homes-at.result in
    let homes = c.homes-at-end.ensures ∙ ap (λ (h : Site). h.homes) c.in_ok-state.ensures.site in
    let so = at_home s c.args.contexts.now.items k table c.homes-at-end.result.now c.homes.result.now c.loop-at.at y c.loop-at.invariant.1 homes c.loop-at-test.true c.homes.ensures c.index-homes-at.is in
    its_home s c.args.contexts.now.items k table (value_of y) (drop (c.loop-at.at + 1) (opened_site s).homes) so

pub seat_at-requires-clause-context : goal.seat_at-requires-clause-context
seat_at-requires-clause-context c =
    let s = c.args.setup.now in
    let k : KernelAt = at_site c.loop-at.state in
    let table : List (Option Context) = c.loop-at.contexts.items in
    let y = c.index-homes-at.result in
    let homes = c.homes-at-end.ensures ∙ ap (λ (h : Site). h.homes) c.in_ok-state.ensures.site in
    let so = at_home s c.args.contexts.now.items k table c.homes-at-end.result.now c.homes.result.now c.loop-at.at y c.loop-at.invariant.1 homes c.loop-at-test.true c.homes.ensures c.index-homes-at.is in
    has_context s c.args.contexts.now.items k table (value_of y) (drop (c.loop-at.at + 1) (opened_site s).homes) so

pub loop-at-preserved : goal.loop-at-preserved
loop-at-preserved c =
    let s = c.args.setup.now in
    let k : KernelAt = at_site c.loop-at.state in
    let table : List (Option Context) = c.loop-at.contexts.items in
    let y = c.index-homes-at.result in
    let homes = c.homes-at-end.ensures ∙ ap (λ (h : Site). h.homes) c.in_ok-state.ensures.site in
    let so = at_home s c.args.contexts.now.items k table c.homes-at-end.result.now c.homes.result.now c.loop-at.at y c.loop-at.invariant.1 homes c.loop-at-test.true c.homes.ensures c.index-homes-at.is in (
      c.in_ok-seat_at.ensures.kept,
      progress_more s c.args.contexts.now.items k table (value_of y) (drop (c.loop-at.at + 1) (opened_site s).homes) so c.in_ok-seat_at.ensures.low (at_site c.seat_at.new.self) c.in_ok-seat_at.ensures.seat c.seat_at.new.contexts.items c.in_ok-seat_at.ensures.left,
    )

pub returns-clause-opened : goal.returns-clause-opened
returns-clause-opened c =
    let homes = c.homes-at-end.ensures ∙ ap (λ (h : Site). h.homes) c.in_ok-state.ensures.site in
    progress_end c.args.setup.now c.args.contexts.now.items (at_site c.loop-at.state) c.loop-at.contexts.items c.homes-at-end.result.now c.loop-at.at c.loop-at.invariant.1 homes c.loop-at-test.false
