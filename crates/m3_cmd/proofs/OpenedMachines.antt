-- A machine that was opened with its setup's list programs.
use Rattle.std.proofs.Common.{◌≡◌, List, [], Option, ◌∙◌}
use Rattle.std.specs.Prelude.{IfOk, Result, Ok, Err}
use Rattle.m3_base.specs.declared.order.Order.{Order}
use Rattle.m3_base.specs.Ideal.Opening.{opening}
use Rattle.m3_base.specs.Placement.Opening.{placement_at_opening}
use Rattle.m3_base.specs.Setup.Rules.{SetupValue}
use Rattle.m3_machine.specs.MachineView.{MachineValue, ideal, placement}
use Rattle.m3_programs.specs.ListProgramView.{ListState}
use Rattle.m3_script.specs.Rules.{AllListed}
use Rattle.m3_cmd.specs.ListMachines.{IsOpened, setup_table}

pub is_opened : {E : Type 0} (r : Result (MachineValue ListState) E) (s : SetupValue) (orders : List Order) (table : List (Option ListState)) → AllListed s.lines → table ≡ setup_table s
    → IfOk r (λ m. m.setup ≡ s) → IfOk r (λ m. m.entries ≡ []) → IfOk r (λ m. m.left ≡ orders) → IfOk r (λ m. m.initial ≡ table)
    → IfOk r (λ m. ideal m ≡ opening s.memory s.lines) → IfOk r (λ m. placement m ≡ placement_at_opening s.lines) → IfOk r (IsOpened s orders)
is_opened (Err e) s orders table listed same setup entries left initial ideal_is placement_is = tt
is_opened (Ok m) s orders table listed same setup entries left initial ideal_is placement_is = record {
  of = record { setup_is = setup; initial = initial ∙ same; listed = listed };
  entries = entries;
  left = left;
  start = λ i. record { state = ideal_is i; places = placement_is i; left = left i };
}
