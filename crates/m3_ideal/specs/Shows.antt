-- Whether what steps say is the outcome that is printed.
use Rattle.std.specs.Prelude.{◌≡◌, Bool, true, false, List}
use Rattle.m3_base.specs.declared.event.Said.{Said}
use Rattle.m3_base.specs.Ideal.Step.{Label}
use Rattle.m3_base.specs.Journal.Entry.{Shows}

abbrev pub Tells : Bool → Said → Said → Type 0
Tells true x said = said ≡ x
Tells false x said = said ≡ x → ⊥

abbrev pub ShowsIf : Bool → List Label → Said → Type 0
ShowsIf true words said = Shows words said
ShowsIf false words said = Shows words said → ⊥
