-- The calls of a machine's programs in its journal.
use Rattle.std.proofs.Common.{◌≡◌, ℕ, zero, suc, true, List, [], ◌∷◌, get_or, map, Option, Some, None, refl, sym, ap, ◌∙◌, subst, arith}
use Rattle.std.specs.Prelude.{option_map, Result, Ok, Err, IfOk}
use Rattle.std.proofs.lemmas.List.Elements.{All-tail}
use Rattle.m3_base.specs.declared.event.Entry.{Entry}
use Rattle.m3_base.specs.declared.program.Move.{Move}
use Rattle.m3_base.specs.declared.setup_line.SetupLine.{SetupLine}
use Rattle.m3_base.specs.Calls.JournalCalls.{Call, all_calls}
use Rattle.m3_base.specs.Calls.Fuel.{calls_of, fuel_of, program_calls}
use Rattle.m3_base.specs.Calls.ListProgram.{AreItems, program_items}
use Rattle.m3_base.specs.Calls.Relation.{IsReach}
use Rattle.m3_base.specs.declared.order.Order.{Order}
use Rattle.m3_base.specs.Ideal.Opening.{opening}
use Rattle.m3_base.specs.Journal.Entry.{IsRun}
use Rattle.m3_base.specs.Journal.Replies.{printed_replies, ideal_replies, steps_in}
use Rattle.m3_base.specs.Placement.Opening.{placement_at_opening}
use Rattle.m3_base.specs.Setup.Rules.{SetupValue, IsValid}
use Rattle.m3_laws.specs.JournalLaws.{AfterEach, KeepsLaws}
use Rattle.m3_machine.specs.ProgramCalls.{AreCalled, HasPrograms, IsCalled, meanings_of}
use Rattle.m3_machine.specs.MachineView.{MachineValue, ideal, placement}
use Rattle.m3_machine.specs.ProgramTable.{program_table}
use Rattle.m3_model.specs.SetupOpening.{opened_site}
use Rattle.m3_programs.specs.ItemMoves.{ItemMoves, meaning_of}
use Rattle.m3_programs.specs.ListProgramView.{ListState}
use Rattle.m3_programs.specs.SetupPrograms.{list_of, setup_programs}
use Rattle.m3_script.specs.Rules.{AllListed, IsListed}
use Rattle.m3_script.specs.Rules.{has_program as setup_has_program}
use Rattle.m3_trace.specs.ProgramEnds.{EndsLast}
use Rattle.m3_cmd.specs.ListMachines.{IsOf, IsOpened, setup_table}
use Rattle.m3_cmd.specs.MachineRuns.{IsRunOf, start}
use Rattle.m3_cmd.proofs.ListCalls.{calls_are_items}
use Rattle.m3_cmd.proofs.ProgramActs.{program_is, has_programs}
use Rattle.m3_cmd.proofs.ProgramTables.{pairs_same}
use Rattle.m3_trace.specs.Invariant.{PlacementRun}

-- list programs have no fuel
no_fuel : (a : ℕ) (ls : List SetupLine) → AllListed ls → fuel_of a ls ≡ None
no_fuel a [] listed = refl
no_fuel a (SetupLine.Act b t ∷ ls) listed = no_fuel a ls (All-tail IsListed (SetupLine.Act b t) ls listed)
no_fuel a (SetupLine.Quantum q ∷ ls) listed = no_fuel a ls (All-tail IsListed (SetupLine.Quantum q) ls listed)
no_fuel a (SetupLine.Grant line ∷ ls) listed = no_fuel a ls (All-tail IsListed (SetupLine.Grant line) ls listed)
no_fuel a (SetupLine.Files g ∷ ls) listed = no_fuel a ls (All-tail IsListed (SetupLine.Files g) ls listed)
no_fuel a (SetupLine.Item b c ∷ ls) listed = no_fuel a ls (All-tail IsListed (SetupLine.Item b c) ls listed)
no_fuel a (SetupLine.AwaitItem b ep ∷ ls) listed = no_fuel a ls (All-tail IsListed (SetupLine.AwaitItem b ep) ls listed)
no_fuel a (SetupLine.Writer b m s r chunk ring bytes ∷ ls) listed = absurd (listed 0 (SetupLine.Writer b m s r chunk ring bytes) (omega arith))
no_fuel a (SetupLine.Reader b m r chunk ring fuel ∷ ls) listed = absurd (listed 0 (SetupLine.Reader b m r chunk ring fuel) (omega arith))
no_fuel a (SetupLine.Boxed b logic fuel ∷ ls) listed = absurd (listed 0 (SetupLine.Boxed b logic fuel) (omega arith))

called_reach : (items : List Move) (cs : List Call) (new : Option (List ℕ)) → IsCalled (λ (p : ListState). ItemMoves p.items) (Some (list_of items)) (Some (0 ∷ [])) cs new → IsReach (ItemMoves items) (0 ∷ []) cs
called_reach items cs None called = absurd called
called_reach items cs (Some n) called = (n, called)

meaning_at : (table : List (Option ListState)) (a : ℕ) → get_or (meanings_of meaning_of table) a None ≡ option_map meaning_of (get_or table a None)
meaning_at [] a = refl
meaning_at (p ∷ ps) zero = refl
meaning_at (p ∷ ps) (suc a) = meaning_at ps a

pub items_made : (s : SetupValue) (entries : List Entry) (meanings : List (Option (List ℕ))) → IsValid s → AllListed s.lines
    → ((a : ℕ) → EndsLast (all_calls a (start s) entries))
    → AreCalled (λ (p : ListState). ItemMoves p.items) (setup_table s) (meanings_of meaning_of (setup_table s)) (λ a. all_calls a (start s) entries) meanings
    → (a : ℕ) → setup_has_program a s ≡ true → AreItems (program_items a s.lines) (program_calls s a entries)
items_made s entries meanings valid listed ends called a has =
    let items = program_items a s.lines in
    let there : get_or (setup_table s) a None ≡ Some (list_of items) = program_is s a valid listed has in
    let meant : get_or (meanings_of meaning_of (setup_table s)) a None ≡ Some (0 ∷ []) = meaning_at (setup_table s) a ∙ ap (option_map meaning_of) there in
    let one = subst (λ p. IsCalled (λ (q : ListState). ItemMoves q.items) p (Some (0 ∷ [])) (all_calls a (start s) entries) (get_or meanings a None)) there (
    subst (λ m. IsCalled (λ (q : ListState). ItemMoves q.items) (get_or (setup_table s) a None) m (all_calls a (start s) entries) (get_or meanings a None)) meant (called a)) in
    let last = ends a in
    subst (λ f. AreItems items (calls_of f a (start s) entries)) (sym (no_fuel a s.lines listed))
    (calls_are_items items (all_calls a (start s) entries) last (called_reach items (all_calls a (start s) entries) (get_or meanings a None) one))

-- ---- what a machine's recorder says of it

pub runs_of : (m : MachineValue ListState) → IsValid m.setup
    → IsRun (start m.setup) m.entries
    → PlacementRun (start m.setup) (placement_at_opening m.setup.lines) m.entries (placement m)
    → ((a : ℕ) → printed_replies a (start m.setup) m.entries ≡ ideal_replies a (start m.setup) (steps_in m.entries))
    → AfterEach (KeepsLaws (start m.setup)) m.entries
    → ((a : ℕ) → EndsLast (all_calls a (start m.setup) m.entries))
    → AreCalled (λ (p : ListState). ItemMoves p.items) m.initial (meanings_of meaning_of m.initial) (λ a. all_calls a (start m.setup) m.entries) m.meanings
    → (s : SetupValue) → IsOf s m → IsRunOf s m.entries (placement m)
runs_of m valid run places replies laws ends called s of =
    subst (λ (x : SetupValue). IsRunOf x m.entries (placement m)) of.setup_is (
    let listed : AllListed m.setup.lines = subst (λ (x : SetupValue). AllListed x.lines) (sym of.setup_is) of.listed in
    let initial : m.initial ≡ setup_table m.setup = of.initial ∙ ap setup_table (sym of.setup_is) in
    record {
      run = run;
      places = places;
      replies = replies;
      laws = laws;
      items = items_made m.setup m.entries m.meanings valid listed ends
          (subst (λ t. AreCalled (λ (p : ListState). ItemMoves p.items) t (meanings_of meaning_of t) (λ a. all_calls a (start m.setup) m.entries) m.meanings) initial called);
    }
    )

-- ---- a machine that was opened

pub opened_of : {E : Type 0} (r : Result (MachineValue ListState) E) (s : SetupValue) (orders : List Order) (given : List (ℕ × ListState)) → AllListed s.lines
    → map (λ x. (x.0, x.1)) given ≡ setup_programs s.lines → IfOk r (λ m. m.setup ≡ s) → IfOk r (λ m. m.entries ≡ []) → IfOk r (λ m. ideal m ≡ opening s.memory s.lines)
    → IfOk r (λ m. placement m ≡ placement_at_opening s.lines) → IfOk r (λ m. m.left ≡ orders) → IfOk r (λ m. m.initial ≡ program_table given) → IfOk r (IsOpened s orders)
opened_of (Ok m) s orders given listed programs setup entries state places left initial = record {
  of = record { setup_is = setup; initial = initial ∙ ap program_table (sym (pairs_same given) ∙ programs); listed = listed };
  entries = entries;
  left = left;
  start = rw (state, places, left) refl;
}
opened_of (Err e) s orders given listed programs setup entries state places left initial = tt

pub programs_fit : (s : SetupValue) (given : List (ℕ × ListState)) → IsValid s → AllListed s.lines → map (λ x. (x.0, x.1)) given ≡ setup_programs s.lines → HasPrograms (opened_site s) (program_table given)
programs_fit s given valid listed programs =
    subst (λ (xs : List (ℕ × ListState)). HasPrograms (opened_site s) (program_table xs)) (sym (sym (pairs_same given) ∙ programs)) (has_programs s valid listed)
