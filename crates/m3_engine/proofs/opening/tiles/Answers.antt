use Rattle.std.proofs.Common.{◌≡◌, ◌<◌, ◌≤◌, ◌+◌, ℕ, ◌∷◌, List, map, length, get_or, set, drop, None, sym, ap, subst, ◌∙◌, arith}
use Rattle.std.specs.Prelude.{Option}
use Rattle.std.proofs.lemmas.List.{length-map, map-set}
use Rattle.std.proofs.Math.ListN.{drop_of_length-le}
use Rattle.m3_base.specs.Ideal.Context.{Context}
use Rattle.m3_model.specs.Config.Site.{Home, Site}
use Rattle.m3_model.specs.Machine.{empty_tile}
use Rattle.m3_model.specs.Tile.State.{Tile}
use Rattle.m3_kernel.specs.HomeTableView.{value_of}
use Rattle.m3_model.specs.SetupOpening.{opened_site}
use Rattle.m3_kernel.proofs.OpeningHomes.{next_home}
use Rattle.m3_engine.specs.TileView.{TileAt, AreAtSite, seated_with, tiles_of}
use Rattle.m3_engine.proofs.OpenedParts.{Progress, context_there, progress_begin, progress_more, progress_end}
use Rattle.m3_engine.proofs.PartsAtSite.{site_kept, tile_at_number}
use Rattle.m3_engine.proofs.opening.tiles.Goals as goal

pub loop-home-init : goal.loop-home-init
loop-home-init c =
    let ts = c.in_ok-tiles.tiles.items in (
      progress_begin c.args.setup.now c.args.kernel.now (tiles_of ts) c.args.table.now.items c.requires c.in_ok-tiles.ensures.tiles (length-map ts (λ (t : TileAt). t.tile) ∙ c.in_ok-tiles.ensures.count),
      subst (λ (h : Site). AreAtSite h ts) c.site-site.ensures c.in_ok-tiles.ensures.site,
    )

pub loop-home-preserved : goal.loop-home-preserved
loop-home-preserved c =
    let s = c.args.setup.now in
    let ts : List TileAt = c.loop-home.tiles.items in
    let table : List (Option Context) = c.loop-home.table.items in
    let i = c.loop-home.home-index in
    let y = c.home-item.result in
    let items = c.homes-home-items.result.now in
    let rest : List Home = drop (i + 1) (opened_site s).homes in
    let inv : Progress s (tiles_of ts) table (drop i (opened_site s).homes) = c.loop-home.invariant.0 in
    let lists : map value_of items ≡ (opened_site s).homes = c.homes-home-items.ensures ∙ ap (λ (h : Site). h.homes) (c.site-site.ensures ∙ c.requires.kernel.site) in
    let within : i < length (opened_site s).homes = subst (λ (n : ℕ). i < n) (sym (length-map items value_of) ∙ ap length lists) c.loop-home-test.true in
    let so : Progress s (tiles_of ts) table (value_of y ∷ rest) = next_home (Progress s (tiles_of ts) table) (opened_site s).homes items i y lists within c.home-item.is inv in
    let here : c.from.result < length table = let r = c.number.ensures.range in let e = c.from.ensures in let n = inv.room in omega arith in
    let low : c.from-in-loop-home.result < length ts = let r = c.number-in-loop-home.ensures.range in let e = c.from-in-loop-home.ensures in let n = sym (length-map ts (λ (t : TileAt). t.tile)) ∙ inv.many in omega arith in
    let at_act : c.from.result ≡ y.act = c.from.ensures ∙ c.number.ensures.same ∙ c.act.ensures in
    let at_tile : c.from-in-loop-home.result ≡ y.tile = c.from-in-loop-home.ensures ∙ c.number-in-loop-home.ensures.same ∙ c.tile.ensures in
    let was = c.index_mut-in-loop-home.result.now in
    let tile : was.tile ≡ get_or (tiles_of ts) y.tile (empty_tile y.tile) = tile_at_number ts c.from-in-loop-home.result was low c.index_mut-in-loop-home.ensures.value y.tile at_tile in
    let context : c.take-context.result ≡ get_or table y.act None = context_there table c.from.result y.act c.take-context.result c.index_mut.result.now c.take-context.ensures.value c.index_mut.ensures.value at_act here in
    let new : c.seat.new.self.tile ≡ seated_with y.act c.take-context.result (get_or (tiles_of ts) y.tile (empty_tile y.tile)) = c.in_ok-seat.ensures.ok ∙ (λ j. seated_with (c.act-in-loop-home.ensures j) c.take-context.result (tile j)) in
    let seated : TileAt = c.seat.new.self in
    let more : Progress s (set (tiles_of ts) y.tile seated.tile) (set table y.act None) rest = progress_more s (tiles_of ts) table (value_of y) rest so c.take-context.result context seated.tile new in
    let there : Progress s (set (tiles_of ts) c.from-in-loop-home.result seated.tile) (set table c.from.result c.take-context.new.self) rest =
    subst (λ (n : ℕ). Progress s (set (tiles_of ts) n seated.tile) (set table c.from.result c.take-context.new.self) rest) (sym at_tile) (
    subst (λ (n : ℕ). Progress s (set (tiles_of ts) y.tile seated.tile) (set table n c.take-context.new.self) rest) (sym at_act) (
    subst (λ (o : Option Context). Progress s (set (tiles_of ts) y.tile seated.tile) (set table y.act o) rest) (sym c.take-context.ensures.after) more
    )
    ) in (
      subst (λ (us : List Tile). Progress s us (set table c.from.result c.take-context.new.self) rest) (sym (map-set (λ (t : TileAt). t.tile) ts c.from-in-loop-home.result seated)) there,
      site_kept ts c.from-in-loop-home.result was low c.index_mut-in-loop-home.ensures.value c.args.kernel.now.site c.loop-home.invariant.1 seated c.seat.ensures.site,
    )

pub returns-clause-tiles : goal.returns-clause-tiles
returns-clause-tiles c =
    let s = c.args.setup.now in
    let items = c.homes-home-items.result.now in
    let lists : map value_of items ≡ (opened_site s).homes = c.homes-home-items.ensures ∙ ap (λ (h : Site). h.homes) (c.site-site.ensures ∙ c.requires.kernel.site) in
    let past : length (opened_site s).homes ≤ c.loop-home.home-index = subst (λ (n : ℕ). n ≤ c.loop-home.home-index) (sym (length-map items value_of) ∙ ap length lists) c.loop-home-test.false in
    let ts = tiles_of c.loop-home.tiles.items in
    progress_end s ts c.loop-home.table.items (subst (Progress s ts c.loop-home.table.items) (drop_of_length-le (opened_site s).homes past) c.loop-home.invariant.0)

pub returns-clause-count : goal.returns-clause-count
returns-clause-count c = sym (length-map c.loop-home.tiles.items (λ (t : TileAt). t.tile)) ∙ c.loop-home.invariant.0.many

pub returns-clause-site : goal.returns-clause-site
returns-clause-site c = c.loop-home.invariant.1
