-- The machine: its parts and links, its step, and its opening.
use Rattle.std.specs.Prelude.{ℕ, ◌+◌, ◌*◌, Bool, true, false, ◌&&◌, ◌==◌, List, [], ◌∷◌, ◌++◌, map, replicate, slice_index_or, slice_set, Option, Some, None, if◌then◌else◌, is_some}
use Rattle.m3_base.specs.declared.event.Event.{Event}
use Rattle.m3_base.specs.declared.event.Made.{Made}
use Rattle.m3_base.specs.declared.event.IdleWhy.{IdleWhy}
use Rattle.m3_base.specs.declared.event.Outcome.{Outcome}
use Rattle.m3_base.specs.declared.setup_line.SetupLine.{SetupLine}
use Rattle.m3_base.specs.Ideal.Context.{Context}
use Rattle.m3_base.specs.Ideal.State.{State, context_of}
use Rattle.m3_base.specs.Ideal.Opening.{opening}
use Rattle.m3_model.specs.Config.FromSetup.{site_of}
use Rattle.m3_model.specs.Config.Site.{Home, Site, tile_of}
use Rattle.m3_model.specs.Parcel.{Parcel}
use Rattle.m3_model.specs.Tile.State.{First, Resident, Tile}
use Rattle.m3_model.specs.Kernel.State.{EntryResidency, Is_placed, Is_resting, Kernel}
use Rattle.m3_model.specs.LocalStep.{LocalResult, idle_result}
use Rattle.m3_model.specs.Tile.Step.{tile_do, tile_turn, tile_take}
use Rattle.m3_model.specs.Kernel.Step.{kernel_take, kernel_tend, kernel_close, kernel_order}
use Rattle.m3_model.specs.Memory.Step.{memory_take}

pub record Machine : Type 0 where
  pub kernel : Kernel
  pub memory : List ℕ
  -- by number; those of the kernel and of the memory have nobody
  pub tiles : List Tile
  -- for each pair of tiles, at 16 * from + to
  pub links : List (List Parcel)

-- ---- parts by tile

pub data Part : Type 0 where
  Kernel_part : Kernel → Part
  Memory_part : List ℕ → Part
  Tile_part : Tile → Part

abbrev pub empty_tile : ℕ → Tile
empty_tile t = record { tile = t; current = None; stays = [] }

abbrev pub tile_at : ℕ → Machine → Tile
tile_at t m = slice_index_or m.tiles t (empty_tile t)

abbrev pub part_at : ℕ → Machine → Part
part_at t m = if t == 0 then Kernel_part m.kernel else (if t == 1 then Memory_part m.memory else Tile_part (tile_at t m))

abbrev pub with_part : ℕ → Part → Machine → Machine
with_part t (Kernel_part k) m = record m { kernel = k }
with_part t (Memory_part memory) m = record m { memory = memory }
with_part t (Tile_part x) m = record m { tiles = slice_set m.tiles t x }

-- ---- links

abbrev pub link_at : ℕ → ℕ → Machine → List Parcel
link_at from to m = slice_index_or m.links (16 * from + to) []

abbrev pub with_link : ℕ → ℕ → List Parcel → Machine → Machine
with_link from to xs m = record m { links = slice_set m.links (16 * from + to) xs }

abbrev pub with_parcel : ℕ → ℕ × Parcel → Machine → Machine
with_parcel from x m = with_link from x.0 (link_at from x.0 m ++ x.1 ∷ []) m

abbrev pub with_parcels : ℕ → List (ℕ × Parcel) → Machine → Machine
with_parcels from [] m = m
with_parcels from (x ∷ xs) m = with_parcels from xs (with_parcel from x m)

-- ---- one step of a part, of whichever kind

abbrev pub of_kernel : LocalResult Kernel → LocalResult Part
of_kernel d = record { outcome = d.outcome; part = Kernel_part d.part; out = d.out }

abbrev pub of_memory : LocalResult (List ℕ) → LocalResult Part
of_memory d = record { outcome = d.outcome; part = Memory_part d.part; out = d.out }

abbrev pub of_tile : LocalResult Tile → LocalResult Part
of_tile d = record { outcome = d.outcome; part = Tile_part d.part; out = d.out }

abbrev pub of_turn : Option (LocalResult Tile) → Option (LocalResult Part)
of_turn None = None
of_turn (Some d) = Some (of_tile d)

-- with the program's move, and the parcel at the front of the link that a take names; none where the part has no such event
abbrev pub part_step : Site → Part → Event → Option Made → Option Parcel → Option (LocalResult Part)
part_step h (Kernel_part k) (Event.Take to from) made (Some q) = Some (of_kernel (kernel_take h k q))
part_step h (Memory_part x) (Event.Take to from) made (Some q) = Some (of_memory (memory_take h x q))
part_step h (Tile_part x) (Event.Take to from) made (Some q) = Some (of_tile (tile_take h x q))
part_step h part (Event.Take to from) made None = Some (idle_result IdleWhy.EmptyLink part)
part_step h (Tile_part x) (Event.Do a c) made parcel_taken = Some (of_tile (tile_do h x a c))
part_step h (Tile_part x) (Event.Turn a) made parcel_taken = of_turn (tile_turn h x a made)
part_step h (Kernel_part k) (Event.Tend a) made parcel_taken = Some (of_kernel (kernel_tend h k a))
part_step h (Kernel_part k) Event.Close made parcel_taken = Some (of_kernel (kernel_close h k))
part_step h (Kernel_part k) (Event.Order o) made parcel_taken = Some (of_kernel (kernel_order h k o))
part_step h part event made parcel_taken = None

-- the tile whose part makes the event
abbrev pub tile_for_event : Site → Event → ℕ
tile_for_event h (Event.Do a c) = tile_of h a
tile_for_event h (Event.Turn a) = tile_of h a
tile_for_event h (Event.Take to from) = to
tile_for_event h event = 0

-- ---- the machine's step

abbrev pub front : List Parcel → Option Parcel
front [] = None
front (q ∷ qs) = Some q

abbrev pub rest : List Parcel → List Parcel
rest [] = []
rest (q ∷ qs) = qs

abbrev pub parcel_taken : Event → Machine → Option Parcel
parcel_taken (Event.Take to from) m = front (link_at from to m)
parcel_taken event m = None

abbrev pub without_front : Event → Machine → Machine
without_front (Event.Take to from) m = with_link from to (rest (link_at from to m)) m
without_front event m = m

pub record MachineResult : Type 0 where
  pub outcome : Outcome
  pub machine : Machine

abbrev pub done_by : ℕ → Machine → Option (LocalResult Part) → Option MachineResult
done_by t m None = None
done_by t m (Some d) = Some (record { outcome = d.outcome; machine = with_parcels t d.out (with_part t d.part m) })

abbrev pub machine_step : Site → Machine → Event → Option Made → Option MachineResult
machine_step h m e made =
    let t = tile_for_event h e in
    done_by t (without_front e m) (part_step h (part_at t m) e made (parcel_taken e m))

-- ---- opening

abbrev pub new_stay : ℕ → Resident
new_stay a = record { act = a; pending = None; ended = false; moves = 0; yield_sent = false; seen = First }

abbrev pub context_or_new : ℕ → Option Context → Context
context_or_new a None = record { act = a; endpoints = []; flying = []; next = 1 }
context_or_new a (Some c) = c

-- the first activity of a tile is there, any other rests
abbrev pub first_there : Option Context → Context → Option Context
first_there None c = Some c
first_there (Some x) c = Some x

abbrev pub residency_at_opening : Option Context → Context → EntryResidency
residency_at_opening None c = Is_placed
residency_at_opening (Some x) c = Is_resting (record { context = c; heard = []; ended = false })

abbrev pub joined_ready : Bool → ℕ → ℕ → List (List ℕ) → List (List ℕ)
joined_ready b t a ready = if b then slice_set ready t (slice_index_or ready t [] ++ a ∷ []) else ready

abbrev pub entry_at_opening : Home → Context → Tile → Machine → Machine
entry_at_opening x c t m =
    record m {
      tiles = slice_set m.tiles x.tile (record t { current = first_there t.current c; stays = t.stays ++ new_stay x.act ∷ [] });
      kernel = record m.kernel {
        seats = m.kernel.seats ++ record { act = x.act; seating = residency_at_opening t.current c; hold = [] } ∷ [];
        ready = joined_ready (is_some t.current && x.has_program) x.tile x.act m.kernel.ready;
      };
    }

abbrev pub with_entries : State → Machine → List Home → Machine
with_entries s m [] = m
with_entries s m (x ∷ xs) =
    with_entries s (entry_at_opening x (context_or_new x.act (context_of x.act s.contexts)) (tile_at x.tile m) m) xs

abbrev pub empty_tiles : List Tile
empty_tiles =
    map empty_tile (0 ∷ 1 ∷ 2 ∷ 3 ∷ 4 ∷ 5 ∷ 6 ∷ 7 ∷ 8 ∷ 9 ∷ 10 ∷ 11 ∷ 12 ∷ 13 ∷ 14 ∷ 15 ∷ [])

abbrev pub with_all_entries : Site → State → Machine
with_all_entries h s =
    with_entries s (
    record {
      kernel = record {
        seats = [];
        next = s.kernel_next;
        grants = s.grants;
        ready = replicate 16 [];
        yielded = replicate 16 false;
      };
      memory = s.memory;
      tiles = empty_tiles;
      links = replicate 256 [];
    }
    ) h.homes

-- the machine whose contexts and grants are those of the ideal opening
abbrev pub opened_machine : ℕ → List ℕ → List SetupLine → Machine
opened_machine memory programs lines = with_all_entries (site_of memory programs lines) (opening memory lines)
