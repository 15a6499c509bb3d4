-- The refusal that a fault is.
use Rattle.std.specs.Prelude.{◌≡◌, ℕ, ◌-◌, List, length}
use Rattle.m3_wire.specs.declared.refusal.Fault.{Fault}
use Rattle.m3_wire.specs.declared.refusal.Part.{Part}
use Rattle.m3_wire.specs.declared.refusal.ReadError.{ReadError}
use Rattle.m3_wire.specs.declared.refusal.WireRefusal.{WireRefusal}
use Rattle.m3_wire.specs.Packets.{packet_part}

abbrev pub bad_at : Part → ℕ → WireRefusal
bad_at Part.Kind at = WireRefusal.BadKind at
bad_at Part.Flags at = WireRefusal.BadFlags at
bad_at Part.Reserved at = WireRefusal.BadReserved at
bad_at Part.Field at = WireRefusal.BadField at

-- the place counts from the first byte
abbrev pub refusal_of : (List ℕ → ℕ → Part) → List ℕ → Fault → WireRefusal
refusal_of part_at bytes Fault.Short = WireRefusal.Short (length bytes)
refusal_of part_at bytes (Fault.Bad left) = bad_at (part_at bytes (length bytes - left)) (length bytes - left)

-- the refusal of a packet is this error's
abbrev pub IsRefusal : List ℕ → ReadError → WireRefusal → Type 0
IsRefusal bytes ReadError.NoMemory e = e ≡ WireRefusal.NoMemory
IsRefusal bytes (ReadError.Bad fault) e = e ≡ refusal_of packet_part bytes fault
