-- The memory's size is what the setup says.
use Rattle.std.specs.Prelude.{◌≡◌, length}
use Rattle.m3_model.specs.Config.Site.{Site}
use Rattle.m3_model.specs.Machine.{Machine}

abbrev pub HasMemorySize : Site → Machine → Type 0
HasMemorySize h m = length m.memory ≡ h.memory
