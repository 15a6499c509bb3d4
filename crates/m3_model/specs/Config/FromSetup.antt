-- What a setup says of activities: where each has its home.
use Rattle.std.specs.Prelude.{ℕ, List, [], ◌∷◌, ◌++◌, ◌==◌}
use Rattle.std.specs.List.{list_any}
use Rattle.m3_base.specs.declared.setup_line.SetupLine.{SetupLine}
use Rattle.m3_model.specs.Config.Site.{Site}

-- programs: the activities that have one
abbrev pub with_home : List ℕ → Site → SetupLine → Site
with_home programs h (SetupLine.Act a t) =
    record h { homes = h.homes ++ record { act = a; tile = t; has_program = list_any (λ b. b == a) programs } ∷ [] }
with_home programs h (SetupLine.Quantum q) = record h { quantum = q }
with_home programs h line = h

abbrev pub with_homes : List ℕ → Site → List SetupLine → Site
with_homes programs h [] = h
with_homes programs h (l ∷ ls) = with_homes programs (with_home programs h l) ls

abbrev pub site_of : ℕ → List ℕ → List SetupLine → Site
site_of memory programs lines = with_homes programs (record { homes = []; quantum = 8; memory = memory }) lines
