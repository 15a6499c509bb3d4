-- What sources and sinks in memory hold.
use Rattle.std.specs.Prelude.{ℕ, ◌+◌, ◌-◌, ◌^◌, min, Bool, ◌==◌, ◌&&◌, nat_lt, List, [], ◌++◌, length, Option, Some, None, if◌then◌else◌}
use Rattle.std.specs.List.{list_any}

-- one more, up to the end of a count
abbrev pub counter_after : ℕ → ℕ
counter_after n = min (n + 1) (2 ^ 64 - 1)

-- the next call's number is in the list
abbrev pub fails_next : ℕ → List ℕ → Bool
fails_next calls fails = list_any (λ n. n == counter_after calls) fails

pub record Giving : Type 0 where
  pub left : List ℕ
  pub most : ℕ
  pub fails : List ℕ
  pub calls : ℕ
  pub faults : ℕ

abbrev pub new_source : List ℕ → ℕ → List ℕ → Giving
new_source bytes most fails = record { left = bytes; most = most; fails = fails; calls = 0; faults = 0 }

pub record Taking : Type 0 where
  pub written : List ℕ
  pub room : ℕ
  pub most : ℕ
  pub fails : List ℕ
  pub calls : ℕ
  pub faults : ℕ

abbrev pub new_sink : ℕ → ℕ → List ℕ → Taking
new_sink room most fails = record { written = []; room = room; most = most; fails = fails; calls = 0; faults = 0 }

-- none of these bytes has room
abbrev pub no_room : Taking → List ℕ → Bool
no_room s bytes = (length s.written == s.room) && nat_lt 0 (length bytes)

pub record SureGiving : Type 0 where
  pub left : List ℕ
  pub most : ℕ

-- it tells what was written until its room is passed
pub record SureTaking : Type 0 where
  pub written : Option (List ℕ)
  pub room : ℕ
  pub most : ℕ

abbrev pub more_written : ℕ → List ℕ → Option (List ℕ) → Option (List ℕ)
more_written room bytes None = None
more_written room bytes (Some old) = if nat_lt room (length old + length bytes) then None else Some (old ++ bytes)

abbrev pub sink_with : List ℕ → SureTaking → SureTaking
sink_with bytes s = record s { written = more_written s.room bytes s.written }
