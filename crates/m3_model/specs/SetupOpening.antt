-- The machine that a setup opens, and the site that it works at.
use Rattle.m3_base.specs.Setup.Rules.{SetupValue, programmed_acts}
use Rattle.m3_model.specs.Config.Site.{Site}
use Rattle.m3_model.specs.Config.FromSetup.{site_of}
use Rattle.m3_model.specs.Machine.{Machine, opened_machine}

abbrev pub opened_site : SetupValue → Site
opened_site s = site_of s.memory (programmed_acts s.lines) s.lines

abbrev pub opened_by_setup : SetupValue → Machine
opened_by_setup s = opened_machine s.memory (programmed_acts s.lines) s.lines
