use Rattle.std.proofs.Common.{◌≡◌, ◌∙◌, ap, sym, subst, replicate}
use Rattle.m3_kernel.specs.ParcelView.{parcels_of}
use Rattle.m3_model.specs.Config.Site.{Site}
use Rattle.m3_model.specs.Invariant.Housing.{IsSetup}
use Rattle.m3_model.specs.SetupOpening.{opened_by_setup}
use Rattle.m3_engine.specs.TileView.{tiles_of}
use Rattle.m3_trace.proofs.ValidSetup.{valid_sound}
use Rattle.m3_engine.proofs.OpenedParts.{machine_opened}
use Rattle.m3_engine.proofs.OpensInBounds.{opened_low}
use Rattle.m3_engine.proofs.engine.Engine.open.Goals as goal

pub new-requires : goal.new-requires
new-requires c = record { valid = c.in_ok-table.ensures.valid; contexts = c.in_ok-table.ensures.contexts }

pub tiles-requires : goal.tiles-requires
tiles-requires c = record {
  contexts = c.in_ok-table.table.items;
  opening = record { valid = c.in_ok-table.ensures.valid; contexts = c.in_ok-table.ensures.contexts };
  kernel = record { site = c.in_ok-kernel.ensures.site; kernel = c.in_ok-kernel.ensures.kernel; left = c.in_ok-kernel.ensures.left };
}

pub invariant_of-result : goal.invariant_of-result
invariant_of-result c = record {
  setup = subst (λ (h : Site). IsSetup h) (sym c.in_ok-kernel.ensures.site) (valid_sound c.args.setup.now c.in_ok-table.ensures.valid).setup;
  parts = record {
    count = c.in_ok-tiles.ensures.count;
    memory = c.in_ok-memory.ensures.site ∙ c.in_ok-site.ensures ∙ c.site.ensures;
    tiles = c.in_ok-tiles.ensures.site;
  };
}

pub returns-clause-opened : goal.returns-clause-opened
returns-clause-opened c =
    let opens : record { kernel = c.in_ok-kernel.kernel.kernel; memory = c.in_ok-memory.memory.memory; tiles = tiles_of c.in_ok-tiles.tiles.items; links = parcels_of c.in_ok-wires.wires.lists } ≡ opened_by_setup c.args.setup.now =
    machine_opened c.args.setup.now c.in_ok-table.ensures.valid c.in_ok-kernel.kernel.kernel c.in_ok-kernel.ensures.kernel (tiles_of c.in_ok-tiles.tiles.items) c.in_ok-tiles.ensures.tiles c.in_ok-memory.memory.memory (c.in_ok-memory.ensures.memory ∙ ap (λ n. replicate n 0) c.memory.ensures) c.in_ok-wires.wires.lists c.in_ok-wires.ensures in
    λ k. record { site = c.in_ok-kernel.ensures.site k; machine = opens k }

pub returns-clause-low : goal.returns-clause-low
returns-clause-low c = opened_low c.args.setup.now c.in_ok-table.table.items c.in_ok-table.ensures.contexts c.in_ok-table.ensures.low
