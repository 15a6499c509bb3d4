-- Two activities on one tile, by the driver: the sender ends, and the receiver comes to its turn.
use Rattle.std.specs.Prelude.{◌≡◌, ℕ, zero, suc, ◌==◌, Bool, true, false, List, [], ◌∷◌, ◌++◌, Option, Some, None, if◌then◌else◌}
use Rattle.std.proofs.Common.{refl}
use Rattle.m3_base.specs.declared.command.Command.{Command}
use Rattle.m3_base.specs.declared.event.Event.{Event}
use Rattle.m3_base.specs.declared.event.Made.{Made}
use Rattle.m3_base.specs.declared.event.Entry.{Entry}
use Rattle.m3_base.specs.Ideal.State.{State}
use Rattle.m3_base.specs.Ideal.Opening.{opening}
use Rattle.m3_base.specs.Placement.State.{Placement, PlacedActivity, actor}
use Rattle.m3_base.specs.Placement.Landing.{PlacementResult}
use Rattle.m3_base.specs.Placement.Step.{placement_step}
use Rattle.m3_base.specs.Placement.Opening.{opening_placement}
use Rattle.m3_base.specs.Placement.Turn.{is_due_quantum}
use Rattle.m3_base.specs.Placement.Driver.{next_event}
use Rattle.m3_base.specs.Examples.Scripts.{entry_with}
use Rattle.m3_base.specs.Calls.ShortJournal.{one_byte, short_lines, short_journal}

-- list programs: what is left of each
abbrev pub Programs : Type 0
Programs = List (ℕ × List Made)

abbrev pub first_move : List Made → Made
first_move [] = Made.End
first_move (m ∷ ms) = m

abbrev pub without_first : List Made → List Made
without_first [] = []
without_first (m ∷ ms) = ms

abbrev pub items_of : ℕ → Programs → List Made
items_of a [] = []
items_of a (x ∷ xs) = if x.0 == a then x.1 else items_of a xs

abbrev pub drop_item : ℕ → Programs → Programs
drop_item a [] = []
drop_item a (x ∷ xs) = if x.0 == a then (x.0, without_first x.1) ∷ xs else x ∷ drop_item a xs

abbrev pub pending_or : Option ℕ → Made → Made
pending_or None m = m
pending_or (Some ep) m = Made.Await ep

abbrev pub move_of : Placement → Programs → ℕ → Option PlacedActivity → Option Made
move_of p ps a None = None
move_of p ps a (Some x) =
    if is_due_quantum p x then Some Made.Quantum else Some (pending_or x.pending (first_move (items_of a ps)))

abbrev pub made_by : Placement → Programs → Event → Option Made
made_by p ps (Event.Turn a) = move_of p ps a (actor a p)
made_by p ps e = None

abbrev pub no_pending : Option ℕ → Bool
no_pending None = true
no_pending (Some e) = false

-- a repeated Await takes no item
abbrev pub takes_item : Option PlacedActivity → Bool
takes_item None = false
takes_item (Some x) = no_pending x.pending

abbrev pub programs_after : Placement → Programs → Event → Option Made → Programs
programs_after p ps (Event.Turn a) (Some Made.Quantum) = ps
programs_after p ps (Event.Turn a) m = if takes_item (actor a p) then drop_item a ps else ps
programs_after p ps e m = ps

abbrev pub entry_of : Event → Option Made → PlacementResult → Entry
entry_of e m d = entry_with e m d.said d.restore

pub record Running : Type 0 where
  pub state : State
  pub places : Placement
  pub programs : Programs
  pub entries : List Entry

abbrev pub advanced : Running → Event → Option Made → Option PlacementResult → Running
advanced r e m None = r
advanced r e m (Some d) =
    record {
      state = d.state;
      places = d.places;
      programs = programs_after r.places r.programs e m;
      entries = r.entries ++ entry_of e m d ∷ [];
    }

abbrev pub driven : Running → Option Event → Running
driven r None = r
driven r (Some e) = let m = made_by r.places r.programs e in advanced r e m (placement_step r.state r.places e m)

abbrev pub auto : ℕ → Running → Running
auto zero r = r
auto (suc n) r = auto n (driven r (next_event r.state r.places []))

abbrev pub two_on_one_tile_programs : Programs
two_on_one_tile_programs = (0, Made.Command one_byte ∷ []) ∷ (1, Made.Await 0 ∷ Made.Command (Command.Fetch 0) ∷ []) ∷ []

abbrev pub two_on_one_tile_start : Running
two_on_one_tile_start =
    record {
      state = opening 64 short_lines;
      places = opening_placement (0 ∷ 1 ∷ []) short_lines;
      programs = two_on_one_tile_programs;
      entries = [];
    }

pub two_on_one_tile : (auto 20 two_on_one_tile_start).entries ≡ short_journal
two_on_one_tile = refl
