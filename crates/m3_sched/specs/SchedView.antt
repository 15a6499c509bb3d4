-- What contracts see of a scheduler, and what its calls do.
use Rattle.std.specs.Prelude.{◌≡◌, ℕ, Bool, false, not, ◌&&◌, ◌==◌, List, [], length, filter, replicate, slice_index_or, slice_set, if◌then◌else◌}
use Rattle.m3_base.specs.Placement.State.{with_member}

pub record Scheduler : Type 0 where
  -- by tile: who is ready, and whether a Yield of this stay was taken
  pub ready : List (List ℕ)
  pub yielded : List Bool
  pub quantum : ℕ

abbrev pub new_scheduler : ℕ → Scheduler
new_scheduler quantum = record { ready = replicate 16 []; yielded = replicate 16 false; quantum = quantum }

-- there is a list and a flag for each tile
pub record IsByTile (s : Scheduler) : Type 0 where
  pub ready : length s.ready ≡ 16
  pub yielded : length s.yielded ≡ 16

abbrev pub ready_at : ℕ → Scheduler → List ℕ
ready_at t s = slice_index_or s.ready t []

abbrev pub yielded_at : ℕ → Scheduler → Bool
yielded_at t s = slice_index_or s.yielded t false

-- at the back, unless it is in the list
abbrev pub with_ready : ℕ → ℕ → Scheduler → Scheduler
with_ready t a s = record s { ready = slice_set s.ready t (with_member a (ready_at t s)) }

abbrev pub joined_lists : Bool → ℕ → ℕ → List (List ℕ) → List (List ℕ)
joined_lists joins t a lists = if joins then slice_set lists t (with_member a (slice_index_or lists t [])) else lists

-- where it is to join
abbrev pub with_ready_if : Bool → ℕ → ℕ → Scheduler → Scheduler
with_ready_if joins t a s = record s { ready = joined_lists joins t a s.ready }

abbrev pub without_ready : ℕ → ℕ → Scheduler → Scheduler
without_ready t a s = record s { ready = slice_set s.ready t (filter (λ b. not (b == a)) (ready_at t s)) }

abbrev pub with_yield : ℕ → Bool → Scheduler → Scheduler
with_yield t b s = record s { yielded = slice_set s.yielded t b }

-- a Yield of this stay was taken, and somebody is ready
abbrev pub wants : ℕ → Scheduler → Bool
wants t s = yielded_at t s && not (length (ready_at t s) == 0)
