-- What it means that bytes are refused by a grammar: a relation of values and the byte lists that spell them.
use Rattle.std.specs.Prelude.{◌≡◌, ◌≢◌, ℕ, ◌+◌, ◌<◌, ◌≤◌, List, ◌++◌, length, take, Result, Ok, Err, ⊤}
use Rattle.m3_wire.specs.declared.refusal.WireRefusal.{WireRefusal}
use Rattle.m3_wire.specs.declared.refusal.Part.{Part}

-- the first n of these bytes spell x
abbrev pub IsFirst : {X : Type 0} → (X → List ℕ → Type 0) → List ℕ → X → ℕ → Type 0
IsFirst Spells bytes x n = (n ≤ length bytes) × Spells x (take n bytes)

-- some spelling begins with these bytes
abbrev pub Begins : {X : Type 0} → (X → List ℕ → Type 0) → List ℕ → Type 0
Begins {X} Spells front = (x : X) × (more : List ℕ) × Spells x (front ++ more)

-- the bytes are a proper prefix of a spelling, and so many
abbrev pub IsCut : {X : Type 0} → (X → List ℕ → Type 0) → List ℕ → ℕ → Type 0
IsCut {X} Spells bytes at = (at ≡ length bytes) × (x : X) × (more : List ℕ) × (0 < length more) × Spells x (bytes ++ more)

-- `at` is the first byte at which no spelling goes on
abbrev pub StopsAt : {X : Type 0} → (X → List ℕ → Type 0) → List ℕ → ℕ → Type 0
StopsAt Spells bytes at = (at < length bytes) × Begins Spells (take at bytes) × (Begins Spells (take (at + 1) bytes) → ⊥)

-- no spelling goes on at this byte, and it lies in this part
abbrev pub IsBadAt : {X : Type 0} → (X → List ℕ → Type 0) → (List ℕ → ℕ → Part) → List ℕ → ℕ → Part → Type 0
IsBadAt Spells part_at bytes at part = StopsAt Spells bytes at × (part_at bytes at ≡ part)

-- what a refusal says of the bytes
abbrev pub Refuses : {X : Type 0} → (X → List ℕ → Type 0) → (List ℕ → ℕ → Part) → List ℕ → WireRefusal → Type 0
Refuses Spells part_at bytes (WireRefusal.Short at) = IsCut Spells bytes at
Refuses Spells part_at bytes (WireRefusal.BadKind at) = IsBadAt Spells part_at bytes at Part.Kind
Refuses Spells part_at bytes (WireRefusal.BadFlags at) = IsBadAt Spells part_at bytes at Part.Flags
Refuses Spells part_at bytes (WireRefusal.BadReserved at) = IsBadAt Spells part_at bytes at Part.Reserved
Refuses Spells part_at bytes (WireRefusal.BadField at) = IsBadAt Spells part_at bytes at Part.Field
Refuses Spells part_at bytes WireRefusal.NoMemory = ⊤

-- what was read is x, unless memory ran out
abbrev pub IsRead : {X : Type 0} → Result X WireRefusal → X → Type 0
IsRead (Ok y) x = y ≡ x
IsRead (Err WireRefusal.NoMemory) x = ⊤
IsRead (Err (WireRefusal.Short at)) x = ⊥
IsRead (Err (WireRefusal.BadKind at)) x = ⊥
IsRead (Err (WireRefusal.BadFlags at)) x = ⊥
IsRead (Err (WireRefusal.BadReserved at)) x = ⊥
IsRead (Err (WireRefusal.BadField at)) x = ⊥

-- a refusal that isn't for want of memory
abbrev pub TakesNone : WireRefusal → Type 0
TakesNone e = e ≢ WireRefusal.NoMemory
