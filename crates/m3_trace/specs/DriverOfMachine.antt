-- What the driver does next, and the closing lines on tiles, of a machine.
use Rattle.std.specs.Prelude.{ℕ, zero, suc, ◌+◌, ◌-◌, ◌*◌, Bool, not, ◌&&◌, ◌==◌, List, [], ◌∷◌, length, map, slice_index_or, Option, Some, None, if◌then◌else◌}
use Rattle.m3_base.specs.declared.event.Event.{Event}
use Rattle.m3_base.specs.declared.journal.AuditLine.{AuditLine}
use Rattle.m3_base.specs.Placement.Driver.{tiles, first_for, first_some, tend_of, close_of, order_of}
use Rattle.m3_base.specs.Placement.Order.{least_closing}
use Rattle.m3_base.specs.declared.order.Order.{Order}
use Rattle.m3_base.specs.Ideal.Context.{Context}
use Rattle.m3_model.specs.Config.Site.{Site, has_program}
use Rattle.m3_model.specs.Tile.State.{Resident, Tile}
use Rattle.m3_model.specs.Tile.Step.{is_waiting, resident_of}
use Rattle.m3_model.specs.Kernel.Driver.{least_tend, next_switch}
use Rattle.m3_model.specs.Machine.{Machine, tile_at}
use Rattle.m3_model.specs.Abstraction.{current_act}

module _ {X : Type 0} where
  abbrev pub take_if : ℕ → ℕ → List X → Option Event
  take_if to from [] = None
  take_if to from (x ∷ xs) = Some (Event.Take to from)

  abbrev pub take_on : List (List X) → ℕ → ℕ → Option Event
  take_on links to from = take_if to from (slice_index_or links (16 * from + to) [])

  -- at one receiving tile, from the least sending tile
  unfoldable pub next_take_at : List (List X) → ℕ → Option Event
  next_take_at links to = first_for tiles (take_on links to)

  -- the least receiving tile, then the least sending tile, among links that aren't empty
  unfoldable pub next_take_on : List (List X) → Option Event
  next_take_on links = first_for tiles (next_take_at links)

abbrev pub next_take : Machine → Option Event
next_take m = next_take_on m.links

-- the program of the tile's current activity can make a turn that isn't idle
abbrev pub can_turn : Site → Context → Resident → Bool
can_turn h x y =
    has_program h x.act && (not y.ended && (not (not (length x.flying == 0)) && not (y.yield_sent && is_waiting x y)))

abbrev pub turn_by : Site → Context → Option Resident → Option Event
turn_by h x None = None
turn_by h x (Some y) = if can_turn h x y then Some (Event.Turn x.act) else None

abbrev pub turn_at : Site → Tile → Option Context → Option Event
turn_at h t None = None
turn_at h t (Some x) = turn_by h x (resident_of x.act t)

-- what the driver does next, with these orders left
abbrev pub next_event_left : Site → Machine → List Order → Option Event
next_event_left h m left =
    first_some (
    next_take m
    ∷ tend_of (least_tend m.kernel.seats)
    ∷ close_of (least_closing m.kernel.grants 1 m.kernel.grants)
    ∷ order_of left
    ∷ next_switch h m.kernel
    ∷ first_for tiles (λ t. turn_at h (tile_at t m) (tile_at t m).current)
    ∷ []
    )

-- so many tiles from t on, by the current activity of each tile
abbrev pub tile_lines_from : ℕ → ℕ → List (Option ℕ) → List AuditLine
tile_lines_from t zero current = []
tile_lines_from t (suc n) current = AuditLine.Tile t (slice_index_or current t None) ∷ tile_lines_from (t + 1) n current

abbrev pub tile_lines : ℕ → List Tile → List AuditLine
tile_lines count parts = tile_lines_from 2 (count - 2) (map current_act parts)
