use Rattle.std.proofs.Common.{◌≡◌, ◌<◌, ◌∙◌, length, ap, arith}
use Rattle.std.specs.Prelude.{is_some}
use Rattle.std.proofs.lemmas.List.{get_or_default}
use Rattle.m3_kernel.specs.KernelStateView.{at_site}
use Rattle.m3_kernel.specs.LookupTables.{empty_berth, berth_at}
use Rattle.m3_kernel.specs.declared.berth.Berth.{Berth}
use Rattle.m3_kernel.proofs.OpenedKernel.{taken_by}
use Rattle.m3_kernel.proofs.state.State.is_taken.Goals as goal

pub returns-clause-taken : goal.returns-clause-taken
returns-clause-taken c =
    let s = c.args.self.now in
    let at_tile : c.from.result ≡ c.args.tile = c.from.ensures ∙ c.number.ensures.same in
    let within : c.from.result < length s.berths.items = let r = c.number.ensures.range in let e = c.from.ensures in let n = c.requires.tables.tiles in omega arith in
    let berth : c.index.result.now ≡ berth_at s.berths.items c.args.tile =
    c.index.ensures ∙ get_or_default s.berths.items c.from.result c.index.result.now empty_berth within ∙ ap (berth_at s.berths.items) at_tile in
    c.is_some.ensures ∙ ap (λ (b : Berth). is_some b.there) berth ∙ taken_by (at_site s) c.args.tile (berth_at s.berths.items c.args.tile).there (c.requires.tables.there c.args.tile)
