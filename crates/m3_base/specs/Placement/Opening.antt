-- The placement at opening.
use Rattle.std.specs.Prelude.{ℕ, ◌+◌, Bool, false, ◌&&◌, ◌==◌, List, [], ◌∷◌, ◌++◌, replicate, slice_set, Some, None, if◌then◌else◌}
use Rattle.std.specs.List.{list_any}
use Rattle.m3_base.specs.declared.setup_line.SetupLine.{SetupLine}
use Rattle.m3_base.specs.Setup.Rules.{programmed_acts}
use Rattle.m3_base.specs.Placement.State.{Placed, PlacedActivity, Placement, Residency, Resting, home, join_ready}

-- ---- opening

abbrev pub place_at_opening : ℕ → List PlacedActivity → Residency
place_at_opening t xs = if list_any (λ x. x.home == t) xs then Resting else Placed

abbrev pub opened_actor : ℕ → ℕ → Residency → Bool → PlacedActivity
opened_actor a t w program =
    record {
      act = a;
      home = t;
      place = w;
      hold = [];
      has_program = program;
      pending = None;
      ended = false;
      moves = 0;
      yield_sent = false;
    }

-- programs: the activities that have one
abbrev pub opened_line : List ℕ → Placement → SetupLine → Placement
opened_line programs p (SetupLine.Act a t) =
    let program = list_any (λ b. b == a) programs in
    let taken = list_any (λ x. x.home == t) p.actors in
    join_ready (taken && program) t a (
    record p {
      current = if taken then p.current else slice_set p.current t (Some a);
      actors = p.actors ++ opened_actor a t (place_at_opening t p.actors) program ∷ [];
    }
    )
opened_line programs p (SetupLine.Quantum q) = record p { quantum = q }
opened_line programs p line = p

abbrev pub opened_lines : List ℕ → Placement → List SetupLine → Placement
opened_lines programs p [] = p
opened_lines programs p (l ∷ ls) = opened_lines programs (opened_line programs p l) ls

abbrev pub opening_placement : List ℕ → List SetupLine → Placement
opening_placement programs lines =
    opened_lines programs (
    record {
      current = replicate 16 None;
      actors = [];
      links = replicate 256 [];
      ready = replicate 16 [];
      yielded = replicate 16 false;
      quantum = 8;
    }
    ) lines

-- the places of a setup before its first entry
abbrev pub placement_at_opening : List SetupLine → Placement
placement_at_opening lines = opening_placement (programmed_acts lines) lines
