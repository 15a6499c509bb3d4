-- Which outcomes say that nothing was done.
use Rattle.m3_base.specs.declared.event.Said.{Said}

abbrev pub IsIdle : Said → Type 0
IsIdle (Said.Idle why) = Unit {0}
IsIdle said = ⊥
