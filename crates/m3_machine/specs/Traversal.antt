-- What a walk over a machine visits.
use Rattle.std.specs.Prelude.{List, [], ◌++◌}
use Rattle.m3_base.specs.declared.packet.Packet.{Packet}
use Rattle.m3_base.specs.Ideal.Context.{Context}
use Rattle.m3_model.specs.Tile.State.{Tile}
use Rattle.m3_model.specs.Kernel.State.{ActivityEntry}
use Rattle.m3_model.specs.Parcel.{Parcel}
use Rattle.m3_model.specs.Abstraction.{flat_map, flat_links, tile_contexts, entry_contexts, held_by, contexts_in, packets_in}

-- the contexts on tiles, in the kernel and on links
abbrev pub contexts_of : List Tile → List ActivityEntry → List (List Parcel) → List Context
contexts_of tiles seats links = flat_map tile_contexts tiles ++ (flat_map entry_contexts seats ++ flat_links contexts_in links)

-- the packets in hold lists and on links
abbrev pub packets_of : List ActivityEntry → List (List Parcel) → List Packet
packets_of seats links = flat_map held_by seats ++ flat_links packets_in links

-- visiting nothing changes nothing, and visiting some and then others is visiting all of them
pub record Composes {S : Type 0} (Visits : List Context → List Packet → S → S → Type 0) : Type 0 where
  pub none : (v : S) → Visits [] [] v v
  pub both : (cs ds : List Context) (ps qs : List Packet) (a b c : S) → Visits cs ps a b → Visits ds qs b c → Visits (cs ++ ds) (ps ++ qs) a c
