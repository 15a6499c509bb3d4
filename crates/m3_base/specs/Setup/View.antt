-- The facts of a setup's lines as the code keeps them.
use Rattle.std.specs.Prelude.{◌≡◌, ◌≤◌, true, length}
use Rattle.m3_base.specs.declared.setup.facts.SetupFacts.TheInside.{Inside}
use Rattle.m3_base.specs.declared.setup.Setup.TheInside.{Inside as Whole}
use Rattle.m3_base.specs.Setup.Rules.{SetupValue, IsValid, facts_of, Facts, is_machine}

abbrev pub facts_in : Inside → Facts
facts_in s =
    record {
      tiles = s.tiles;
      memory = s.memory;
      homes = s.homes.items;
      programs = s.programs.items;
      grants = s.grants;
      boxes = s.boxes.items;
      weight = s.weight;
      has_quantum = s.has_quantum;
      has_files = s.has_files;
    }

pub record IsFacts (s : Inside) : Type 0 where
  pub machine : is_machine s.tiles s.memory ≡ true
  pub homes : length s.homes.items ≡ 64
  pub programs : length s.programs.items ≡ 64
  pub weight : s.weight ≤ 16384

-- ---- the setup

abbrev pub setup_in : Whole → SetupValue
setup_in s = record { tiles = s.facts.tiles; memory = s.facts.memory; lines = s.lines.items }

pub record IsSetup (s : Whole) : Type 0 where
  pub facts : s.facts ≡ facts_of (setup_in s)
  pub valid : IsValid (setup_in s)
