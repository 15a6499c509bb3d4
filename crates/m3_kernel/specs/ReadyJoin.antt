-- Who joins a ready list.
use Rattle.std.specs.Prelude.{ℕ, Bool, false, not, ◌&&◌}
use Rattle.m3_model.specs.Config.Site.{Site, has_program}
use Rattle.m3_model.specs.Kernel.State.{EntryResidency, Is_resting}

-- whether an activity is ready after a packet was applied to it
abbrev pub joins_at_tend : Site → ℕ → EntryResidency → Bool
joins_at_tend h a (Is_resting y) = has_program h a && not y.ended
joins_at_tend h a w = false
