-- What the driver makes of a setup and orders.
use Rattle.std.proofs.Common.{◌≡◌, ℕ, ◌*◌, ◌+◌, ◌≤◌, Bool, true, false, List, [], ◌∷◌, ◌++◌, map, length, refl, sym, ap, ◌∙◌, subst, inl, inr, arith, suc, ⊎_elim, ◌≢◌}
use Rattle.std.specs.Prelude.{◌⊎◌, not, nat_lt, Ok}
use Rattle.std.proofs.lemmas.Bool.{or_parts, cases_eq}
use Rattle.std.proofs.lemmas.List.Elements.{All-tail}
use Rattle.m3_base.specs.declared.event.Event.{Event}
use Rattle.m3_base.specs.declared.event.Entry.{Entry}
use Rattle.m3_base.specs.declared.order.Order.{Order}
use Rattle.m3_base.specs.declared.journal.AuditLine.{AuditLine}
use Rattle.m3_base.specs.DriverRun.Budget.{budget}
use Rattle.m3_base.specs.DriverRun.Choices.{AreChoices, Ends, IsQuiet}
use Rattle.m3_base.specs.DriverRun.Configuration.{Configuration, closing_lines, initial_configuration, last_configuration}
use Rattle.m3_base.specs.Journal.Audit.{audit_lines}
use Rattle.m3_base.specs.Lists.EachElement.{Each}
use Rattle.m3_base.specs.Load.Setup.{load_setup}
use Rattle.m3_base.specs.Load.Summary.{summary_lines}
use Rattle.m3_journal.specs.JournalText.{audit_line}
use Rattle.m3_base.specs.Load.Summary.{SummaryLine}
use Rattle.m3_load.specs.declared.summary.Summary.{Summary}
use Rattle.m3_load.specs.SummaryLines.{lines_of, summary_line}
use Rattle.m3_text.specs.Printing.{text_of_lines}
use Rattle.m3_base.specs.Setup.Rules.{SetupValue}
use Rattle.m3_machine.specs.EventNames.{NamesActs}
use Rattle.m3_machine.specs.MachineStep.{AutoEnds, IsDrivenOn}
use Rattle.m3_machine.specs.MachineView.{MachineValue, configuration, ideal, placement}
use Rattle.m3_programs.specs.ListProgramView.{ListState}
use Rattle.m3_script.specs.Rules.{AllInRanges, AllNamed, IsInRanges, is_absent, names_undeclared}
use Rattle.m3_cmd.specs.DriverContract.{EndsQuiet, IsAutoAnswer, IsDrivenJournalOf, IsDrivenRun, IsLoadAnswer, IsLoadTextOf, status_of}
use Rattle.m3_cmd.specs.DrivenMachines.{IsDrivenBy, IsDrivenScript}
use Rattle.m3_cmd.specs.ListMachines.{IsOf, IsOpened}
use Rattle.m3_cmd.specs.MachineRuns.{IsRunOf}
use Rattle.m3_cmd.specs.OutputText.{output_text}
use Rattle.m3_cmd.specs.declared.words.Format.{Format}
use Rattle.m3_script.specs.declared.script.Mode.{Mode}
use Rattle.m3_script.specs.ScriptText.{script_of}

-- ---- up to the end

no_more : (n k : ℕ) (es : List Entry) → (es ≡ []) ⊎ (k ≤ 64 * n + 64) → k ≡ length es → k ≤ 64 * n + 64
no_more n k es (inl none) is = let e : length es ≡ 0 = ap length none in omega (arith, e, is)
no_more n k es (inr few) is = few

ends_by : (quiet : Bool) (most : ℕ) (m : MachineValue ListState) (c : Configuration) (es : List Entry) → AutoEnds most quiet m → last_configuration c es ≡ configuration m → m.entries ≡ es
    → length m.entries ≤ most → Ends most c es
ends_by true most m c es quiet reaches is few = inl (subst IsQuiet (sym reaches) quiet)
ends_by false most m c es over reaches is few = inr (let n = ap length is in omega (arith, n, over.0, few))

quiet_by : (quiet : Bool) (most : ℕ) (m : MachineValue ListState) → AutoEnds most quiet m → EndsQuiet quiet (configuration m)
quiet_by true most m quiet = quiet
quiet_by false most m over = over.1

pub driven_by : (s : SetupValue) (orders : List Order) (most : ℕ) (quiet : Bool) (old new : MachineValue ListState) → most ≡ budget s (length orders) → IsOpened s orders old
    → IsDrivenOn most old new → AutoEnds most quiet new → IsDrivenBy s orders quiet new
driven_by s orders most quiet old new is o d ends =
    let all : new.entries ≡ d.made = d.added ∙ ap (λ (xs : List Entry). xs ++ d.made) o.entries in
    let choices : AreChoices (initial_configuration s orders) new.entries =
    subst (AreChoices (initial_configuration s orders)) (sym all) (subst (λ (c : Configuration). AreChoices c d.made) o.start d.choices) in
    let reaches : last_configuration (initial_configuration s orders) new.entries ≡ configuration new =
    ap (last_configuration (initial_configuration s orders)) all ∙ ap (λ (c : Configuration). last_configuration c d.made) (sym o.start) ∙ d.reaches in
    let few : length new.entries ≤ budget s (length orders) =
    no_more _ (length new.entries) d.made (subst (λ n. (d.made ≡ []) ⊎ (length new.entries ≤ n)) is d.few) (ap length all) in
    record {
      of = record { setup_is = d.setup ∙ o.of.setup_is; initial = d.initial ∙ o.of.initial; listed = o.of.listed };
      driven = record {
        events = choices;
        few = few;
        end = ends_by quiet (budget s (length orders)) new (initial_configuration s orders) new.entries (subst (λ n. AutoEnds n quiet new) is ends) reaches refl few;
      };
      reaches = reaches;
      ends = quiet_by quiet most new ends;
    }

-- ---- what is written of it

closing_is : (s : SetupValue) (orders : List Order) (quiet : Bool) (m : MachineValue ListState) → IsDrivenBy s orders quiet m
    → audit_lines m.setup.tiles (ideal m) (placement m) m.left ≡ closing_lines s orders m.entries
closing_is s orders quiet m d =
    ap (λ (x : SetupValue). audit_lines x.tiles (ideal m) (placement m) m.left) d.of.setup_is
    ∙ ap (λ (c : Configuration). audit_lines s.tiles c.state c.places c.left) (sym d.reaches)

pub run_is : (s : SetupValue) (orders : List Order) (quiet : Bool) (m : MachineValue ListState) → IsDrivenBy s orders quiet m
    → ((setup : SetupValue) → IsOf setup m → IsRunOf setup m.entries (placement m)) → IsDrivenRun s orders quiet m.entries
run_is s orders quiet m d runs = record {
  driven = d.driven;
  ends = subst (EndsQuiet quiet) (sym d.reaches) d.ends;
  last = placement m;
  runs = runs s d.of;
}

pub closing_text : (f : SetupValue → List AuditLine → List ℕ) (s : SetupValue) (orders : List Order) (quiet : Bool) (m : MachineValue ListState) (text : List ℕ) → IsDrivenBy s orders quiet m
    → text ≡ f m.setup (audit_lines m.setup.tiles (ideal m) (placement m) m.left) → text ≡ f s (closing_lines s orders m.entries)
closing_text f s orders quiet m text d is =
    is ∙ ap (f m.setup) (closing_is s orders quiet m d) ∙ ap (λ (x : SetupValue). f x (closing_lines s orders m.entries)) d.of.setup_is

-- ---- a script's orders

orders_length : (os : List Order) (es : List Event) → map Event.Order os ≡ es → length os ≡ length es
orders_length [] es are = ap length are
orders_length (o ∷ os) [] are = absurd cc
orders_length (o ∷ os) (e ∷ es) are = ap suc (orders_length os es cc)

named_order : (s : SetupValue) (o : Order) → names_undeclared (Event.Order o) s ≡ false → IsInRanges (Event.Order o) → NamesActs s (Event.Order o)
named_order s (Order.Switch t a) named ranges = (or_parts (not (nat_lt t s.tiles)) (is_absent a s) named).1
named_order s (Order.Grant line) named ranges = (named, ranges)
named_order s (Order.Revoke g) named ranges = tt

named_all : (s : SetupValue) (os : List Order) → AllNamed s (map Event.Order os) → AllInRanges (map Event.Order os) → Each (λ o. NamesActs s (Event.Order o)) os
named_all s [] named ranges = tt
named_all s (o ∷ os) named ranges = (
  named_order s o (named 0 (Event.Order o) (omega arith)) (ranges 0 (Event.Order o) (omega arith)),
  named_all s os (All-tail (λ e. names_undeclared e s ≡ false) (Event.Order o) (map Event.Order os) named) (All-tail IsInRanges (Event.Order o) (map Event.Order os) ranges),
)

pub orders_named : (s : SetupValue) (os : List Order) (es : List Event) → map Event.Order os ≡ es → AllNamed s es → AllInRanges es → Each (λ o. NamesActs s (Event.Order o)) os
orders_named s os es are named ranges = named_all s os (subst (AllNamed s) (sym are) named) (subst AllInRanges (sym are) ranges)

pub orders_few : (os : List Order) (es : List Event) → map Event.Order os ≡ es → length es ≤ 4096 → length os ≤ 4096
orders_few os es are few = let n = orders_length os es are in omega (arith, n, few)

-- ---- the answer

pub auto_answer : (format : Format) (bytes : List ℕ) (setup : SetupValue) (events : List Event) (quiet : Bool) (status : ℕ) (text : List ℕ)
    → script_of Mode.Auto 0 bytes ≡ Ok (record { setup = setup; events = events }) → status ≡ status_of quiet → IsDrivenScript format setup events quiet text → IsAutoAnswer format bytes status text
auto_answer format bytes setup events quiet status text spelled is d = by quiet is d
  where
    journal : (q : Bool) → IsDrivenScript format setup events q text → IsDrivenJournalOf format q bytes text
    journal q e = record {
      setup = setup;
      orders = e.orders;
      spelled = spelled ∙ ap (λ (es : List Event). Ok (record { setup = setup; events = es })) (sym e.are);
      is_text = e.is_text;
    }

    by : (q : Bool) → status ≡ status_of q → IsDrivenScript format setup events q text → IsAutoAnswer format bytes status text
    by true s e = inl (s, journal true e)
    by false s e = inr (inl (s, journal false e))

pub load_answer : (rounds : ℕ) (quiet : Bool) (status : ℕ) (text : List ℕ) → status ≡ status_of quiet → IsLoadTextOf rounds quiet text → IsLoadAnswer rounds status text
load_answer rounds true status text is t = inl (is, t)
load_answer rounds false status text is t = inr (is, t)

-- ---- the texts

pub driven_script : (format : Format) (s : SetupValue) (events : List Event) (orders : List Order) (quiet : Bool) (m : MachineValue ListState) (text : List ℕ) → map Event.Order orders ≡ events
    → IsDrivenBy s orders quiet m → ((setup : SetupValue) → IsOf setup m → IsRunOf setup m.entries (placement m))
    → text ≡ output_text format m.setup m.entries (audit_lines m.setup.tiles (ideal m) (placement m) m.left) → IsDrivenScript format s events quiet text
driven_script format s events orders quiet m text are d runs is = record {
  orders = orders;
  are = are;
  is_text = record {
    entries = m.entries;
    run = run_is s orders quiet m d runs;
    is_text = closing_text (λ x lines. output_text format x m.entries lines) s orders quiet m text d is;
  };
}

pub load_text : (rounds : ℕ) (orders : List Order) (s : SetupValue) (quiet : Bool) (m : MachineValue ListState) (text : List ℕ) → s ≡ load_setup rounds → orders ≡ []
    → IsDrivenBy s orders quiet m → ((setup : SetupValue) → IsOf setup m → IsRunOf setup m.entries (placement m))
    → text ≡ text_of_lines (map summary_line (summary_lines rounds m.entries)) ++ text_of_lines (map audit_line (audit_lines m.setup.tiles (ideal m) (placement m) m.left)) → IsLoadTextOf rounds quiet text
load_text rounds orders s quiet m text loaded none d runs is =
    let e : IsDrivenBy (load_setup rounds) [] quiet m =
    subst (λ (x : SetupValue). IsDrivenBy x [] quiet m) loaded (subst (λ (os : List Order). IsDrivenBy s os quiet m) none d) in
    record {
      entries = m.entries;
      run = run_is (load_setup rounds) [] quiet m e runs;
      is_text = closing_text (λ x lines. text_of_lines (map summary_line (summary_lines rounds m.entries)) ++ text_of_lines (map audit_line lines)) (load_setup rounds) [] quiet m text e is;
    }

pub summary_is : (text first mid last : List ℕ) (s : Summary) (lines : List SummaryLine) (audit : List AuditLine) → text ≡ last → last ≡ mid ++ text_of_lines (map audit_line audit)
    → mid ≡ first ++ text_of_lines (map summary_line (lines_of s)) → first ≡ [] → lines_of s ≡ lines
    → text ≡ text_of_lines (map summary_line lines) ++ text_of_lines (map audit_line audit)
summary_is text first mid last s lines audit is put before none same =
    is ∙ put ∙ ap (λ (x : List ℕ). x ++ text_of_lines (map audit_line audit)) (before ∙ ap (λ (x : List ℕ). x ++ text_of_lines (map summary_line (lines_of s))) none ∙ ap (λ (ls : List SummaryLine). text_of_lines (map summary_line ls)) same)
