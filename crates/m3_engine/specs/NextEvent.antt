-- What the driver makes next, by the parts.
use Rattle.std.specs.Prelude.{ℕ, List, [], ◌∷◌, slice_index_or, Option}
use Rattle.m3_base.specs.declared.event.Event.{Event}
use Rattle.m3_base.specs.declared.order.Order.{Order}
use Rattle.m3_base.specs.Placement.Driver.{tiles, first_for, first_some, tend_of, close_of, order_of}
use Rattle.m3_base.specs.Placement.Order.{least_closing}
use Rattle.m3_model.specs.Config.Site.{Site}
use Rattle.m3_model.specs.Kernel.State.{Kernel}
use Rattle.m3_model.specs.Kernel.Driver.{least_tend, next_switch}
use Rattle.m3_model.specs.Tile.State.{Tile}
use Rattle.m3_model.specs.Machine.{empty_tile}
use Rattle.m3_trace.specs.DriverOfMachine.{turn_at}
use Rattle.m3_engine.specs.TileView.{tiles_of}
use Rattle.m3_engine.specs.declared.parts.Parts.{Parts}

-- the turn of the tile's current activity, where it isn't idle
abbrev pub turn_of : Site → Tile → Option Event
turn_of h t = turn_at h t t.current

abbrev pub turn_among : Site → List Tile → ℕ → Option Event
turn_among h ts t = turn_of h (slice_index_or ts t (empty_tile t))

-- that of the least tile
unfoldable pub first_turn : Site → List Tile → Option Event
first_turn h ts = first_for tiles (turn_among h ts)

-- a tend, then a close, then an order, then a switch
unfoldable pub next_of_kernel : Site → Kernel → List Order → Option Event
next_of_kernel h k left =
    first_some (
    tend_of (least_tend k.seats) ∷ close_of (least_closing k.grants 1 k.grants) ∷ order_of left ∷ next_switch h k ∷ []
    )

-- a take, then what the kernel makes, then a turn
abbrev pub next_of_parts : Option Event → Parts → List Order → Option Event
next_of_parts take p left =
    first_some (take ∷ next_of_kernel p.kernel.site p.kernel.kernel left ∷ first_turn p.kernel.site (tiles_of p.tiles.items) ∷ [])
