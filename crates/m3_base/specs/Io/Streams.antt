-- When the outside may be said to have failed, and what it gave or took.
use Rattle.std.specs.Prelude.{◌≡◌, ℕ, ◌+◌, ◌-◌, ◌^◌, ◌<◌, ◌≤◌, min, List, [], ◌++◌, take, length, Option, Some, None, Result, Ok, Err, MatchResult, OnErr}
use Rattle.m3_base.specs.declared.stream.ReadRefusal.{ReadRefusal}

-- a count has risen, or stands at its end
abbrev pub Rose : ℕ → ℕ → Type 0
Rose before now = min (before + 1) (2 ^ 64 - 1) ≤ now

pub record HasCause {T E : Type 0} (before now : ℕ) (result : Result T E) : Type 0 where
  pub later : before ≤ now
  pub failed : OnErr result (Rose before now)

-- ---- what a sink took

-- the bytes stand at the end of what was written, where the sink tells it; one that has stopped telling never begins again
abbrev pub Appends : Option (List ℕ) → Option (List ℕ) → List ℕ → Type 0
Appends (Some old) (Some new) bytes = new ≡ old ++ bytes
Appends (Some old) None bytes = Unit {0}
Appends None (Some new) bytes = ⊥
Appends None None bytes = Unit {0}

-- Ok(n) appends the first n bytes, and a failure none
abbrev pub Writes : {E : Type 0} → Option (List ℕ) → Option (List ℕ) → Result ℕ E → List ℕ → Type 0
Writes old new result bytes = MatchResult result (λ n. Appends old new (take n bytes)) (λ _. new ≡ old)

-- a prefix of the bytes was appended
pub record AppendsSome (old new : Option (List ℕ)) (bytes : List ℕ) : Type 0 where
  pub count : ℕ
  pub within : count ≤ length bytes
  pub prefix : Appends old new (take count bytes)

-- ---- what a source gave

-- these are all the bytes that were to come, and none is left
abbrev pub ReadsAll : Option (List ℕ) → Option (List ℕ) → List ℕ → Type 0
ReadsAll None new bytes = Unit {0}
ReadsAll (Some left) new bytes = (new ≡ Some []) × (bytes ≡ left)

-- more than `limit` bytes were given
abbrev pub GivesMore : Option (List ℕ) → Option (List ℕ) → ℕ → Type 0
GivesMore None new limit = Unit {0}
GivesMore (Some left) None limit = ⊥
GivesMore (Some left) (Some rest) limit = length rest + limit < length left

-- at most `limit` bytes were given
abbrev pub GivesUpTo : Option (List ℕ) → Option (List ℕ) → ℕ → Type 0
GivesUpTo None new limit = Unit {0}
GivesUpTo (Some left) None limit = ⊥
GivesUpTo (Some left) (Some rest) limit = length left ≤ length rest + limit

-- too long exactly where more than `limit` bytes were given
abbrev pub JudgesLength : Option (List ℕ) → Option (List ℕ) → ℕ → Result (List ℕ) ReadRefusal → Type 0
JudgesLength old new limit (Ok bytes) = GivesUpTo old new limit
JudgesLength old new limit (Err ReadRefusal.TooLong) = GivesMore old new limit
JudgesLength old new limit (Err ReadRefusal.ReadFault) = GivesUpTo old new limit
JudgesLength old new limit (Err ReadRefusal.NoMemory) = GivesUpTo old new limit
