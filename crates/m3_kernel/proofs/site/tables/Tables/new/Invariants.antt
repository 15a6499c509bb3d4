use Rattle.std.proofs.Common.{◌≡◌, drop}
use Rattle.m3_base.specs.Setup.Rules.{programmed_acts}
use Rattle.m3_model.specs.Config.FromSetup.{with_homes, site_of}
use Rattle.m3_kernel.proofs.site.tables.Tables.new.Given as goal

abbrev pub invariant-loop-line : goal.invariant-loop-line
invariant-loop-line l =
    let s = l.fn.setup in
    with_homes (programmed_acts s.lines) l.tables (drop l.line-index s.lines) ≡ site_of s.memory (programmed_acts s.lines) s.lines
