use Rattle.std.proofs.Common.{◌++◌, [], List, subst}
use Rattle.m3_core.specs.declared.parcel.Parcel.{Parcel as CodeParcel}
use Rattle.m3_kernel.specs.ParcelView.{parcels_of}
use Rattle.m3_kernel.specs.ActivityView.{seats_of}
use Rattle.m3_engine.specs.TileView.{tiles_of}
use Rattle.m3_model.specs.Abstraction.{flat_map, flat_links, tile_contexts, entry_contexts, held_by, contexts_in, packets_in}
use Rattle.m3_machine.proofs.traversal.visit_all.Goals as goal

pub returns : goal.returns
returns g c =
    let on_tiles = flat_map tile_contexts (tiles_of c.args.tiles.now) in
    let seats = seats_of c.args.seats.now in
    let links = parcels_of c.args.links.now.lists in
    let on_links : g.V.Visitor.visits (flat_links contexts_in links) (flat_links packets_in links) c.visit_seats.new.visitor c.visit_links.new.visitor =
    subst (λ (l : List (List CodeParcel)). g.V.Visitor.visits (flat_links contexts_in (parcels_of l)) (flat_links packets_in (parcels_of l)) c.visit_seats.new.visitor c.visit_links.new.visitor) c.all.ensures c.visit_links.ensures in
    c.requires.both on_tiles (flat_map entry_contexts seats ++ flat_links contexts_in links) [] (flat_map held_by seats ++ flat_links packets_in links) c.args.visitor.now c.visit_tiles.new.visitor c.visit_links.new.visitor c.visit_tiles.ensures
    (c.requires.both (flat_map entry_contexts seats) (flat_links contexts_in links) (flat_map held_by seats) (flat_links packets_in links) c.visit_tiles.new.visitor c.visit_seats.new.visitor c.visit_links.new.visitor c.visit_seats.ensures on_links)
