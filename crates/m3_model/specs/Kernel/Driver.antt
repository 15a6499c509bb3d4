-- What the kernel has for the driver: who can be tended, and which tile wants a switch.
use Rattle.std.specs.Prelude.{ℕ, Bool, false, not, ◌&&◌, ◌||◌, ◌==◌, List, [], ◌∷◌, length, slice_index_or, Option, Some, None, if◌then◌else◌}
use Rattle.std.specs.List.{list_any}
use Rattle.m3_base.specs.declared.event.Event.{Event}
use Rattle.m3_base.specs.Placement.Driver.{tiles, first_for, least_of, switch_to}
use Rattle.m3_model.specs.Config.Site.{Site}
use Rattle.m3_model.specs.Kernel.State.{ActivityEntry, Kernel}
use Rattle.m3_model.specs.Kernel.Step.{is_placed_entry, is_leaving_entry, is_moving_at, ready_at}

-- the activity is away, and something is held for it
abbrev pub can_tend : ActivityEntry → Bool
can_tend x = not (is_placed_entry x.seating || is_leaving_entry x.seating) && not (length x.hold == 0)

abbrev pub least_tend : List ActivityEntry → Option ℕ
least_tend [] = None
least_tend (x ∷ xs) = if can_tend x then Some (least_of (least_tend xs) x.act) else least_tend xs

-- a Yield was taken and nobody of the tile moves: the switch to the front of its ready list
abbrev pub wanted_at : Site → Kernel → ℕ → Option Event
wanted_at h k t =
    if not (list_any (is_moving_at h t) k.seats) && slice_index_or k.yielded t false then switch_to t (ready_at t k) else None

-- the switch of the least tile that wants one
abbrev pub next_switch : Site → Kernel → Option Event
next_switch h k = first_for tiles (wanted_at h k)
