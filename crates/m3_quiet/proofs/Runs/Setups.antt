-- From the budget of a run to that of its setup.
use Rattle.std.proofs.Common.{◌≡◌, ◌+◌, ◌≤◌, length, subst, sym}
use Rattle.m3_base.specs.Ideal.Opening.{opening}
use Rattle.m3_base.specs.Setup.Rules.{facts_of}
use Rattle.m3_base.specs.DriverRun.Budget.{budget_of, act_count}
use Rattle.m3_base.proofs.SetupObligations.{valid_ties}
use Rattle.m3_quiet.specs.Runs.{SetupsStayWithinBudget}
use Rattle.m3_quiet.proofs.Runs.Entries.{within_budget}

pub setups_within_budget : SetupsStayWithinBudget
setups_within_budget setup us left es n valid weight fine quantum goes =
    let a = within_budget setup.memory setup.lines us left es n fine quantum goes in
    let grants : (opening setup.memory setup.lines).grants ≡ (facts_of setup).grants = sym (valid_ties setup valid).grants in
    let b = subst (λ w. length es + 1 ≤ budget_of w (length left) (act_count setup.lines) (length (opening setup.memory setup.lines).grants)) weight a in
    subst (λ gs. length es + 1 ≤ budget_of (facts_of setup).weight (length left) (act_count setup.lines) (length gs)) grants b
