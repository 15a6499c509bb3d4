-- Who is ready: a ready list has activities of its tile alone, and each has a program.
use Rattle.std.specs.Prelude.{◌≡◌, ℕ, true}
use Rattle.m3_base.specs.Lists.EachElement.{Each}
use Rattle.m3_model.specs.Config.Site.{Site, has_program, tile_of}
use Rattle.m3_model.specs.Kernel.State.{Kernel}
use Rattle.m3_model.specs.Kernel.Step.{ready_at}

abbrev pub IsReadyAt : Site → ℕ → ℕ → Type 0
IsReadyAt h t a = (tile_of h a ≡ t) × (has_program h a ≡ true)

abbrev pub ReadyOk : Site → Kernel → Type 0
ReadyOk h k = (t : ℕ) → Each (IsReadyAt h t) (ready_at t k)
