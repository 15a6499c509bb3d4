-- A step of a machine, over plain data: it keeps what holds of every machine, and is what its contract says.
use Rattle.std.proofs.Common.{◌≡◌, ◌<◌, ◌+◌, ◌++◌, ◌∷◌, [], ℕ, Bool, true, false, List, length, length-append, get_or, Option, Some, None, is_some, refl, sym, ap, subst, ◌∙◌, arith}
use Rattle.std.proofs.lemmas.List.{append_cancel_left}
use Rattle.m3_base.specs.declared.event.Event.{Event}
use Rattle.m3_base.specs.declared.event.Entry.{Entry}
use Rattle.m3_base.specs.declared.event.Outcome.{Outcome}
use Rattle.m3_base.specs.declared.order.Order.{Order}
use Rattle.m3_base.specs.declared.program.Move.{Move}
use Rattle.m3_base.specs.declared.program.Seen.{Seen}
use Rattle.m3_base.specs.Calls.JournalCalls.{Call, Known, all_calls, call_in, last_input}
use Rattle.m3_base.specs.DriverRun.Configuration.{orders_after}
use Rattle.m3_base.specs.Ideal.Opening.{opening}
use Rattle.m3_base.specs.Ideal.State.{State}
use Rattle.m3_base.specs.Setup.Rules.{SetupValue}
use Rattle.m3_model.specs.Config.KnownActivities.{is_home}
use Rattle.m3_model.specs.Config.Site.{Home, Site, has_program, home_has_program, home_of}
use Rattle.m3_model.specs.Events.{IsOfSetup, IsWithin}
use Rattle.m3_model.specs.Machine.{Machine}
use Rattle.m3_model.specs.SetupOpening.{opened_site}
use Rattle.m3_trace.specs.JournalEntry.{entry}
use Rattle.m3_trace.specs.Hearing.{call_asked}
use Rattle.m3_engine.specs.EngineView.{EngineAt, Makes}
use Rattle.m3_machine.specs.EngineTurns.{AreHeard, AreKept, AsksOne}
use Rattle.m3_machine.specs.EventNames.{NamesActs}
use Rattle.m3_machine.specs.MachineStep.{IsStep}
use Rattle.m3_machine.specs.MachineView.{HasBounds, MachineValue}
use Rattle.m3_machine.specs.ProgramCalls.{AreCalled, HasPrograms, IsCalled, meanings_of}
use Rattle.m3_trace.proofs.ConfigurationSteps.{each_after}
use Rattle.m3_trace.proofs.TraceGrows.{asked_are_heard, calls_grow}
use Rattle.m3_trace.proofs.hearing.JournalGrows.{calls_more}
use Rattle.m3_machine.proofs.CallsLead.{called_on}
use Rattle.m3_machine.proofs.JournalGrows.{EngineStepMeans, engine_means, longer_trace, still_site}
use Rattle.m3_machine.proofs.ProgramSteps.{kept_alike, kept_places, one_alike, one_called, one_places, same_places}
use Rattle.m3_machine.proofs.SetupEvents.{of_setup}

program_home : (o : Option Home) → home_has_program o ≡ true → is_some o ≡ true
program_home None e = absurd (cc)
program_home (Some x) e = refl

-- who has a program has a home
pub programmed_home : (h : Site) (a : ℕ) → has_program h a ≡ true → is_home h a ≡ true
programmed_home h a e = program_home (home_of a h) e

module _ {P : Type 0} (meaning : P → List ℕ) (moves : P → List ℕ → Seen → Move → List ℕ → Type 0) (s : SetupValue) (es : List Entry) (n : ℕ) (old : EngineAt) (left : List Order) (initial was : List (Option P)) (bounds : HasBounds meaning moves s es n old left initial was) where
  abbrev h : Site
  h = opened_site s

  abbrev start : State
  start = opening s.memory s.lines

  -- ---- what the engine asks for

  pub all_heard : AreHeard old
  all_heard = subst (λ (g : Site). AreHeard (record { site = g; machine = old.machine })) (sym bounds.site) (λ a has k e. asked_are_heard s es old.machine bounds.trace a k (programmed_home h a has) e)

  pub all_there : HasPrograms old.site was
  all_there = subst (λ (g : Site). HasPrograms g was) (sym bounds.site) (same_places moves meaning initial was bounds.alike h bounds.there)

  -- ---- programs that were asked in vain

  pub kept_bounds : (is : List (Option P)) → AreKept moves meaning was is → HasBounds meaning moves s es n old left initial is
  kept_bounds is k = record {
    count = bounds.count;
    site = bounds.site;
    trace = bounds.trace;
    orders = bounds.orders;
    there = bounds.there;
    places = kept_places moves meaning initial was bounds.alike is k ∙ bounds.places;
    alike = kept_alike moves meaning initial was bounds.alike is k;
    calls = subst (λ ms. AreCalled moves initial (meanings_of meaning initial) (λ a. all_calls a start es) ms) (sym k.meanings) bounds.calls;
  }

  -- ---- a step

  called_as : (p : Option P) (m k : Option (List ℕ)) (cs ds : List Call) → (is_some p ≡ true → cs ≡ ds) → IsCalled moves p m cs k → IsCalled moves p m ds k
  called_as None m k cs ds e c = c
  called_as (Some p) m k cs ds e c = subst (λ (x : List Call). IsCalled moves (Some p) m x k) (e refl) c

  module _ (new : EngineAt) (is : List (Option P)) (e : Event) (o : Outcome) (names : NamesActs s e) (within : IsWithin e) (makes : Makes old e o new) (asks : AsksOne moves meaning old e o was is) where
    abbrev x : Entry
    x = entry e o

    own : IsOfSetup h e
    own = of_setup s bounds.trace.valid e names

    means : EngineStepMeans s old.machine e o new.machine
    means = engine_means s old new es e o bounds.site bounds.trace own within makes

    -- what the entry tells is what the turn asks
    as_asked : (a : ℕ) → is_home h a ≡ true → call_asked h old.machine a e o ≡ call_in a (last_input a start es) e o
    as_asked a known =
        append_cancel_left (all_calls a start es) (call_asked h old.machine a e o) (call_in a (last_input a start es) e o) (
        sym (calls_grow s es old.machine bounds.trace a known e o.made o new.machine means.moved) ∙ calls_more a start (Known Seen.First) es x
        )

    calls_now : AreCalled moves initial (meanings_of meaning was) (λ a. call_in a (last_input a start es) e o) (meanings_of meaning is)
    calls_now a =
        called_as (get_or initial a None) (get_or (meanings_of meaning was) a None) (get_or (meanings_of meaning is) a None) (call_asked old.site old.machine a e o) (call_in a (last_input a start es) e o) (
        λ there.
        ap (λ (g : Site). call_asked g old.machine a e o) bounds.site
        ∙ as_asked a (programmed_home h a (sym (bounds.there a) ∙ there))
        ) (one_called moves meaning initial was bounds.alike is bounds.places old o e asks a)

    calls_all : AreCalled moves initial (meanings_of meaning initial) (λ a. all_calls a start (es ++ x ∷ [])) (meanings_of meaning is)
    calls_all a =
        subst (λ (cs : List Call). IsCalled moves (get_or initial a None) (get_or (meanings_of meaning initial) a None) cs (get_or (meanings_of meaning is) a None)) (sym (calls_more a start (Known Seen.First) es x)) (
        called_on moves (get_or initial a None) (get_or (meanings_of meaning initial) a None) (get_or (meanings_of meaning was) a None) (get_or (meanings_of meaning is) a None) (all_calls a start es) (call_in a (last_input a start es) e o) (bounds.calls a) (calls_now a)
        )

    pub next_bounds : n < 2097152 → HasBounds meaning moves s (es ++ x ∷ []) (n + 1) new (orders_after left e) initial is
    next_bounds room = record {
      count = ap (λ k. k + 1) bounds.count ∙ sym (length-append es (x ∷ []));
      site = still_site s old new es e o bounds.site bounds.trace own within makes;
      trace = longer_trace s old new es e o bounds.site bounds.trace own within makes (let same = bounds.count in omega arith);
      orders = each_after (λ (order : Order). NamesActs s (Event.Order order)) left e bounds.orders;
      places = one_places moves meaning initial was bounds.alike is bounds.places old o e asks;
      there = bounds.there;
      alike = one_alike moves meaning initial was bounds.alike is bounds.places old o e asks;
      calls = calls_all;
    }

    pub step_is : IsStep moves (record { setup = s; machine = old.machine; entries = es; left = left; initial = initial; meanings = meanings_of meaning was }) e
        (record { setup = s; machine = new.machine; entries = es ++ x ∷ []; left = orders_after left e; initial = initial; meanings = meanings_of meaning is })
    step_is = record {
      outcome = o;
      added = refl;
      says = means.step.says;
      reaches = means.step.reaches;
      placed = means.step.placed;
      idle = means.idle;
      moved = means.moved;
      left = refl;
      calls = calls_now;
      setup = refl;
      initial = refl;
    }

-- ---- by equal parts

pub same_bounds : {P : Type 0} (meaning : P → List ℕ) (moves : P → List ℕ → Seen → Move → List ℕ → Type 0) (initial is : List (Option P)) (s s' : SetupValue) (es es' : List Entry) (n : ℕ) (e e' : EngineAt) (left left' : List Order)
    → s' ≡ s → es' ≡ es → e' ≡ e → left' ≡ left → HasBounds meaning moves s es n e left initial is → HasBounds meaning moves s' es' n e' left' initial is
same_bounds meaning moves initial is s s' es es' n e e' left left' ps pes pe pleft b =
    subst (λ (x : SetupValue). HasBounds meaning moves x es' n e' left' initial is) (sym ps) (
    subst (λ (x : List Entry). HasBounds meaning moves s x n e' left' initial is) (sym pes) (
    subst (λ (x : EngineAt). HasBounds meaning moves s es n x left' initial is) (sym pe) (
    subst (λ (x : List Order). HasBounds meaning moves s es n e x initial is) (sym pleft) b
    )
    )
    )

pub step_between : {P : Type 0} (moves : P → List ℕ → Seen → Move → List ℕ → Type 0) (meaning : P → List ℕ) (e : Event) (s s' : SetupValue) (m : Machine) (es es' : List Entry) (left left' : List Order) (initial is : List (Option P)) (v w : MachineValue P)
    → v ≡ w → s' ≡ s → es' ≡ es → left' ≡ left
    → IsStep moves v e (record { setup = s; machine = m; entries = es; left = left; initial = initial; meanings = meanings_of meaning is })
    → IsStep moves w e (record { setup = s'; machine = m; entries = es'; left = left'; initial = initial; meanings = meanings_of meaning is })
step_between moves meaning e s s' m es es' left left' initial is v w pv ps pes pleft k =
    subst (λ x. IsStep moves x e (record { setup = s'; machine = m; entries = es'; left = left'; initial = initial; meanings = meanings_of meaning is })) pv (
    subst (IsStep moves v e) (λ i. record { setup = sym ps i; machine = m; entries = sym pes i; left = sym pleft i; initial = initial; meanings = meanings_of meaning is }) k
    )
