-- A machine that was just opened keeps what holds of every machine.
use Rattle.std.proofs.Common.{◌≡◌, ℕ, List, [], ◌∷◌, length, get_or, Option, Some, None, refl, sym, ap, subst, ◌∙◌, length-set, replicate, set}
use Rattle.m3_base.specs.declared.event.Entry.{Entry}
use Rattle.m3_base.specs.declared.event.Event.{Event}
use Rattle.m3_base.specs.declared.order.Order.{Order}
use Rattle.m3_base.specs.declared.program.Move.{Move}
use Rattle.m3_base.specs.declared.program.Seen.{Seen}
use Rattle.m3_base.specs.Lists.EachElement.{Each}
use Rattle.m3_base.specs.Setup.Rules.{SetupValue, IsValid}
use Rattle.m3_model.specs.NumberBounds.{CountersBounded}
use Rattle.m3_model.specs.SetupOpening.{opened_by_setup, opened_site}
use Rattle.m3_trace.proofs.TraceGrows.{opened_trace}
use Rattle.m3_engine.specs.EngineView.{EngineAt, opened_engine}
use Rattle.m3_machine.specs.EventNames.{NamesActs}
use Rattle.m3_machine.specs.MachineView.{HasBounds}
use Rattle.m3_machine.specs.ProgramCalls.{HasPrograms}
use Rattle.m3_machine.specs.ProgramTable.{program_table, with_programs}
use Rattle.m3_machine.proofs.ProgramSteps.{alike_self, none_called}

module _ {P : Type 0} where
  with_places : (xs : List (ℕ × P)) (table : List (Option P)) → length (with_programs xs table) ≡ length table
  with_places [] table = refl
  with_places (x ∷ xs) table = with_places xs (set table x.0 (Some x.1)) ∙ length-set table x.0 (Some x.1)

  -- a place for each number
  pub table_places : (xs : List (ℕ × P)) → length (program_table xs) ≡ 64
  table_places xs = with_places xs (replicate 64 None)

  module _ (meaning : P → List ℕ) (moves : P → List ℕ → Seen → Move → List ℕ → Type 0) (s : SetupValue) (valid : IsValid s) (low : CountersBounded 0 (opened_by_setup s)) (xs : List (ℕ × P)) (there : HasPrograms (opened_site s) (program_table xs)) (orders : List Order) (named : Each (λ o. NamesActs s (Event.Order o)) orders) where
    at_opening : HasBounds meaning moves s [] 0 (opened_engine s) orders (program_table xs) (program_table xs)
    at_opening = record {
      count = refl;
      site = refl;
      trace = opened_trace s valid low;
      orders = named;
      places = table_places xs;
      there = there;
      alike = λ a. alike_self moves meaning (get_or (program_table xs) a None);
      calls = none_called moves meaning (program_table xs) (program_table xs) (λ a. alike_self moves meaning (get_or (program_table xs) a None));
    }

    pub opened_bounds : (s' : SetupValue) (es : List Entry) (e : EngineAt) (initial programs : List (Option P)) → s' ≡ s → es ≡ [] → e ≡ opened_engine s → initial ≡ programs → programs ≡ program_table xs
        → (left : List Order) → left ≡ orders → HasBounds meaning moves s' es 0 e left initial programs
    opened_bounds s' es e initial programs ps pes pe pi pp left pl =
        subst (λ (y : SetupValue). HasBounds meaning moves y es 0 e left initial programs) (sym ps) (
        subst (λ (y : List Entry). HasBounds meaning moves s y 0 e left initial programs) (sym pes) (
        subst (λ (y : EngineAt). HasBounds meaning moves s [] 0 y left initial programs) (sym pe) (
        subst (λ (y : List Order). HasBounds meaning moves s [] 0 (opened_engine s) y initial programs) (sym pl) (
        subst (λ (y : List (Option P)). HasBounds meaning moves s [] 0 (opened_engine s) orders y programs) (sym pi) (
        subst (λ (y : List (Option P)). HasBounds meaning moves s [] 0 (opened_engine s) orders y y) (sym pp) at_opening
        )
        )
        )
        )
        )
