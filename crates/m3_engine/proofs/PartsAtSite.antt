-- Each part of a machine works at the kernel's site: as one is read, and after one changed.
use Rattle.std.proofs.Common.{◌≡◌, ℕ, ◌<◌, ◌≤◌, List, [], ◌∷◌, ◌++◌, length, get_or, set, refl, sym, ap, ◌∙◌, subst}
use Rattle.std.proofs.Math.ListN.{get_or-map}
use Rattle.std.proofs.lemmas.List.{get_or_default, length-map, length-set}
use Rattle.m3_kernel.specs.KernelStateView.{KernelAt}
use Rattle.m3_model.specs.Config.Site.{Site}
use Rattle.m3_model.specs.Machine.{empty_tile}
use Rattle.m3_model.specs.Tile.State.{Tile}
use Rattle.m3_refine.proofs.lists.EachElement.{each_read, each_write}
use Rattle.m3_engine.specs.NextEvent.{turn_among, turn_of}
use Rattle.m3_engine.specs.MemoryView.{MemoryAt}
use Rattle.m3_engine.specs.PartsView.{HasParts}
use Rattle.m3_engine.specs.TileView.{TileAt, AreAtSite, tiles_of}
use Rattle.m3_engine.specs.declared.parts.Parts.{Parts}
use Rattle.m3_engine.proofs.OpenedParts.{tile_there}

-- ---- a tile as it is read

module _ (ts : List TileAt) (at : ℕ) (read : TileAt) (within : at < length ts) (is : read ≡ get_or ts at read) where
  pub site_read : (h : Site) → AreAtSite h ts → read.site ≡ h
  site_read h are =
      let d : TileAt = record { site = h; tile = read.tile } in
      ap (λ (t : TileAt). t.site) (is ∙ get_or_default ts at read d within) ∙ each_read (λ (t : TileAt). t.site ≡ h) ts at d are refl

  pub tile_read : read.tile ≡ get_or (tiles_of ts) at read.tile
  tile_read = ap (λ (t : TileAt). t.tile) is ∙ sym (get_or-map (λ (t : TileAt). t.tile) ts at read)

  pub within_tiles : at < length (tiles_of ts)
  within_tiles = subst (λ n. at < n) (sym (length-map ts (λ (t : TileAt). t.tile))) within

  -- after it changed
  pub site_kept : (h : Site) → AreAtSite h ts → (now : TileAt) → now.site ≡ read.site → AreAtSite h (set ts at now)
  site_kept h are now site = each_write (λ (t : TileAt). t.site ≡ h) ts at now are (site ∙ site_read h are)

  pub tile_at_number : (t : ℕ) → at ≡ t → read.tile ≡ get_or (tiles_of ts) t (empty_tile t)
  tile_at_number t here = tile_there (tiles_of ts) at t read.tile tile_read here within_tiles

  -- the turn of the tile of this number
  pub turn_read : (h : Site) → AreAtSite h ts → (t : ℕ) → at ≡ t → turn_of read.site read.tile ≡ turn_among h (tiles_of ts) t
  turn_read h are t here = λ i. turn_of (site_read h are i) (tile_at_number t here i)

-- one more tile at the site
pub at_site_more : (h : Site) (ts : List TileAt) (t : TileAt) → AreAtSite h ts → t.site ≡ h → AreAtSite h (ts ++ t ∷ [])
at_site_more h [] t are site = (site, tt)
at_site_more h (u ∷ ts) t are site = (are.0, at_site_more h ts t are.1 site)

-- ---- after a change

pub kernel_changed : (p : Parts) (k : KernelAt) → HasParts p → k.site ≡ p.kernel.site → HasParts (record p { kernel = k })
kernel_changed p k has site = record {
  count = has.count;
  memory = has.memory ∙ sym site;
  tiles = subst (λ (h : Site). AreAtSite h p.tiles.items) (sym site) has.tiles;
}

pub memory_changed : (p : Parts) (m : MemoryAt) → HasParts p → m.site ≡ p.memory.site → HasParts (record p { memory = m })
memory_changed p m has site = record { count = has.count; memory = site ∙ has.memory; tiles = has.tiles }

pub tile_changed : (p q : Parts) (at : ℕ) (read now : TileAt) → HasParts p → at < length p.tiles.items → read ≡ get_or p.tiles.items at read → now.site ≡ read.site
    → q.kernel ≡ p.kernel → q.memory ≡ p.memory → q.tiles.items ≡ set p.tiles.items at now → HasParts q
tile_changed p q at read now has within is site kernel memory tiles =
    let after : AreAtSite p.kernel.site (set p.tiles.items at now) = site_kept p.tiles.items at read within is p.kernel.site has.tiles now site in
    record {
      count = ap length tiles ∙ length-set p.tiles.items at now ∙ has.count;
      memory = ap (λ (m : MemoryAt). m.site) memory ∙ has.memory ∙ ap (λ (k : KernelAt). k.site) (sym kernel);
      tiles = subst (λ (h : Site). AreAtSite h q.tiles.items) (ap (λ (k : KernelAt). k.site) (sym kernel)) (subst (AreAtSite p.kernel.site) (sym tiles) after);
    }
