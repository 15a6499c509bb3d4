-- Lines that no rule refuses are added one after the other.
use Rattle.std.proofs.Common.{◌≡◌, List, [], ◌∷◌, ◌++◌, append_assoc, ap, sym, ◌∙◌, subst, refl}
use Rattle.m3_base.specs.declared.setup_line.SetupLine.{SetupLine}
use Rattle.m3_base.specs.Setup.Rules.{SetupValue, AllKept, no_lines, facts_of}
use Rattle.m3_base.proofs.SetupValidity.{noted_last}

pub rest_kept : (s new : SetupValue) (l : SetupLine) (ls : List SetupLine) → new ≡ record s { lines = s.lines ++ l ∷ [] } → AllKept (l ∷ ls) (facts_of s) → AllKept ls (facts_of new)
rest_kept s new l ls is kept =
    subst (AllKept ls) (sym (ap facts_of is ∙ noted_last s.lines l (no_lines s.tiles s.memory))) kept.1.1

pub all_added : (first s new : SetupValue) (made : List SetupLine) (l : SetupLine) → s ≡ record first { lines = first.lines ++ made } → new ≡ record s { lines = s.lines ++ l ∷ [] }
    → new ≡ record first { lines = first.lines ++ (made ++ l ∷ []) }
all_added first s new made l is added =
    added ∙ ap (λ (x : SetupValue). record x { lines = x.lines ++ l ∷ [] }) is ∙ ap (λ ls. record first { lines = ls }) (append_assoc first.lines made (l ∷ []))
