-- A machine's journal follows the events that it makes.
use Rattle.std.proofs.Common.{◌≡◌, ℕ, Bool, true, false, List, [], get_or, ◌∷◌, ◌++◌, map, append_assoc, append-nil, refl, sym, ap, ◌∙◌, arith}
use Rattle.std.specs.Prelude.{not, nat_lt}
use Rattle.std.proofs.lemmas.Bool.{or_parts}
use Rattle.std.proofs.lemmas.List.{map-append}
use Rattle.std.proofs.lemmas.List.Elements.{All-tail}
use Rattle.m3_base.specs.declared.event.Event.{Event}
use Rattle.m3_base.specs.declared.event.Entry.{Entry}
use Rattle.m3_base.specs.declared.journal.AuditLine.{AuditLine}
use Rattle.m3_base.specs.declared.order.Order.{Order}
use Rattle.m3_base.specs.Ideal.State.{State}
use Rattle.m3_base.specs.Journal.Audit.{audit_lines}
use Rattle.m3_base.specs.Journal.Entry.{state_after_entries}
use Rattle.m3_base.specs.Setup.Rules.{SetupValue, IsValid}
use Rattle.m3_base.specs.DriverRun.Configuration.{orders_after}
use Rattle.m3_machine.specs.MachineStep.{IsStep}
use Rattle.m3_machine.specs.MachineView.{MachineValue, ideal, placement}
use Rattle.m3_programs.specs.ItemMoves.{ItemMoves}
use Rattle.m3_programs.specs.ListProgramView.{ListState}
use Rattle.m3_script.specs.Rules.{AllBuilt, AllInRanges, AllNamed, IsBuilt, IsInRanges, names_undeclared, is_absent, has_program}
use Rattle.m3_trace.specs.JournalEntry.{entry}
use Rattle.m3_cmd.specs.ListMachines.{AreMakeable, Follows, HasMade, IsMakeable, IsOf, IsOpened, event_of}
use Rattle.m3_cmd.specs.MachineRuns.{IsRunOf, start}
use Rattle.m3_cmd.specs.OutputText.{output_text}
use Rattle.m3_cmd.specs.RunContract.{IsTextOf}
use Rattle.m3_cmd.specs.declared.words.Format.{Format}
use Rattle.m3_cmd.proofs.ProgramActs.{declared_program}

-- ---- step by step

abbrev pub IsListStep : MachineValue ListState → Event → MachineValue ListState → Type 0
IsListStep old e new = IsStep (λ (p : ListState). ItemMoves p.items) old e new

pub none_made : (m : MachineValue ListState) → Follows m [] m
none_made m = record { same = refl; initial = refl; none_left = λ none. none; made = []; added = sym (append-nil m.entries); follows = refl }

none_after : (left : List Order) (e : Event) → left ≡ [] → orders_after left e ≡ []
none_after [] e none = refl
none_after (o ∷ os) e none = absurd cc

pub one_made : (old mid new : MachineValue ListState) (es : List Event) (e : Event) → Follows old es mid → IsListStep mid e new → Follows old (es ++ e ∷ []) new
one_made old mid new es e f s =
    record {
      same = s.setup ∙ f.same;
      initial = s.initial ∙ f.initial;
      none_left = λ none. s.left ∙ none_after mid.left e (f.none_left none);
      made = f.made ++ entry e s.outcome ∷ [];
      added = s.added ∙ ap (λ l. l ++ entry e s.outcome ∷ []) f.added ∙ append_assoc old.entries f.made (entry e s.outcome ∷ []);
      follows = map-append event_of f.made (entry e s.outcome ∷ []) ∙ ap (λ l. l ++ e ∷ []) f.follows;
    }

pub others_of : (s : SetupValue) (e : Event) (es : List Event) → AreMakeable s (e ∷ es) → AreMakeable s es
others_of s e es are = All-tail (IsMakeable s) e es are

pub first_of : (s : SetupValue) (e : Event) (es : List Event) → AreMakeable s (e ∷ es) → IsMakeable s e
first_of s e es are = are 0 e (omega arith)

-- ---- what a script names is of its setup

not_false : (b : Bool) → not b ≡ false → b ≡ true
not_false true e = refl
not_false false e = absurd cc

makeable_one : (s : SetupValue) (e : Event) → IsValid s → names_undeclared e s ≡ false → IsInRanges e → IsBuilt e → IsMakeable s e
makeable_one s (Event.Do a c) valid named ranges built =
    let parts = or_parts (is_absent a s) (has_program a s) named in (parts.0, declared_program s a valid parts.0 ∙ parts.1)
makeable_one s (Event.Turn a) valid named ranges built =
    let parts = or_parts (is_absent a s) (not (has_program a s)) named in (tt, declared_program s a valid parts.0 ∙ not_false (has_program a s) parts.1)
makeable_one s (Event.Take to from) valid named ranges built = (tt, tt)
makeable_one s (Event.Tend a) valid named ranges built = (named, tt)
makeable_one s Event.Close valid named ranges built = (tt, tt)
makeable_one s (Event.Order (Order.Switch t a)) valid named ranges built = ((or_parts (not (nat_lt t s.tiles)) (is_absent a s) named).1, tt)
makeable_one s (Event.Order (Order.Grant line)) valid named ranges built = ((named, ranges), tt)
makeable_one s (Event.Order (Order.Revoke g)) valid named ranges built = (tt, tt)
makeable_one s (Event.File l) valid named ranges built = absurd built

pub makeable_all : (s : SetupValue) (es : List Event) → IsValid s → AllNamed s es → AllInRanges es → AllBuilt es → AreMakeable s es
makeable_all s es valid named ranges built k d within =
    makeable_one s (get_or es k d) valid (named k d within) (ranges k d within) (built k d within)

-- ---- from the opening

pub has_made : (s : SetupValue) (es : List Event) (first last : MachineValue ListState) → IsOpened s [] first → Follows first es last → HasMade s es last
has_made s es first last o f = record {
  of = record { setup_is = f.same ∙ o.of.setup_is; initial = f.initial ∙ o.of.initial; listed = o.of.listed };
  follows = ap (map event_of) (f.added ∙ ap (λ (xs : List Entry). xs ++ f.made) o.entries) ∙ f.follows;
  none_left = f.none_left o.left;
}

-- the same text, of the setup and of what the entries reach
text_from_opening : (f : SetupValue → List Entry → List AuditLine → List ℕ) (s : SetupValue) (text : List ℕ) (last : MachineValue ListState) → last.setup ≡ s → last.left ≡ []
    → state_after_entries (start last.setup) last.entries ≡ ideal last → text ≡ f last.setup last.entries (audit_lines last.setup.tiles (ideal last) (placement last) last.left)
    → text ≡ f s last.entries (audit_lines s.tiles (state_after_entries (start s) last.entries) (placement last) [])
text_from_opening f s text last same left reaches is =
    is ∙ ap (λ (os : List Order). f last.setup last.entries (audit_lines last.setup.tiles (ideal last) (placement last) os)) left
    ∙ ap (λ (x : State). f last.setup last.entries (audit_lines last.setup.tiles x (placement last) [])) (sym reaches)
    ∙ ap (λ (x : SetupValue). f x last.entries (audit_lines x.tiles (state_after_entries (start x) last.entries) (placement last) [])) same

pub text_is : (format : Format) (s : SetupValue) (es : List Event) (text : List ℕ) (last : MachineValue ListState) → HasMade s es last
    → text ≡ output_text format last.setup last.entries (audit_lines last.setup.tiles (ideal last) (placement last) last.left)
    → state_after_entries (start last.setup) last.entries ≡ ideal last
    → ((setup : SetupValue) → IsOf setup last → IsRunOf setup last.entries (placement last)) → IsTextOf format s es text
text_is format s es text last h is reaches runs = record {
  entries = last.entries;
  last = placement last;
  follows = h.follows;
  runs = runs s h.of;
  is_text = text_from_opening (λ x entries lines. output_text format x entries lines) s text last h.of.setup_is h.none_left reaches is;
}
