-- A journal grows by an entry with each step of its machine, and what its clauses say of the whole.
use Rattle.std.proofs.Common.{◌≡◌, ◌≢◌, ℕ, true, ◌+◌, ◌<◌, ◌≤◌, List, [], ◌∷◌, ◌++◌, length, length-append, Option, Some, refl, sym, subst, ap, ◌∙◌, arith}
use Rattle.m3_base.specs.Journal.Legal.{opening_of}
use Rattle.m3_base.specs.declared.event.Event.{Event}
use Rattle.m3_base.specs.declared.event.Entry.{Entry}
use Rattle.m3_base.specs.declared.event.Made.{Made}
use Rattle.m3_base.specs.declared.event.Outcome.{Outcome}
use Rattle.m3_base.specs.Calls.JournalCalls.{all_calls, last_input}
use Rattle.m3_base.specs.Journal.Entry.{state_after_entries, IsRun, steps_of}
use Rattle.m3_base.specs.Journal.Replies.{steps_in}
use Rattle.m3_base.specs.Ideal.Opening.{opening}
use Rattle.m3_base.specs.Placement.State.{Placement}
use Rattle.m3_base.specs.Placement.Opening.{placement_at_opening}
use Rattle.m3_base.specs.Setup.Rules.{SetupValue, IsValid, programmed_acts}
use Rattle.m3_base.specs.Ideal.State.{State}
use Rattle.m3_laws.specs.JournalLaws.{KeepsLaws, AfterEach}
use Rattle.m3_laws.specs.Laws.{AllFit}
use Rattle.m3_laws.proofs.journals.EntriesKeepInvariant.{event_fits}
use Rattle.m3_laws.proofs.journals.LawsAfterEntries.{fit_both, fit_front, fit_back, journal_laws}
use Rattle.m3_model.specs.Abstraction.{ideal_of, placement_of}
use Rattle.m3_model.specs.Events.{IsOfSetup, IsServed, IsWithin}
use Rattle.m3_model.specs.NumberBounds.{CountersBounded}
use Rattle.m3_model.specs.Config.KnownActivities.{is_home}
use Rattle.m3_model.specs.Config.Site.{Site, tile_of}
use Rattle.m3_model.specs.Machine.{Machine, MachineResult, machine_step, tile_at}
use Rattle.m3_model.specs.Tile.Ask.{Program_turn, turn_ask}
use Rattle.m3_model.specs.Tile.State.{Seen, Waits}
use Rattle.m3_model.specs.StayMoves.{StaysAreShort}
use Rattle.m3_model.specs.KernelNumber.{HasLowKernel}
use Rattle.m3_refine.proofs.bounds.KernelNumber.{low_kernel}
use Rattle.m3_refine.proofs.ways.WayOpens.{opens_low_kernel}
use Rattle.m3_trace.specs.Hearing.{HearsAs, call_asked, input_of_seen}
use Rattle.m3_trace.specs.Invariant.{StepRefines, PlacementRun, RunRefines}
use Rattle.m3_model.specs.SetupOpening.{opened_by_setup, opened_site}
use Rattle.m3_trace.specs.JournalEntry.{entry}
use Rattle.m3_trace.specs.Trace.{IsTrace}
use Rattle.m3_trace.proofs.FlightCountBound.{journal_few}
use Rattle.m3_trace.proofs.hearing.AskedAreHeard.{asked_input, calls_after, hears_after, no_waiting_asked, waits_fly}
use Rattle.m3_trace.proofs.hearing.EndsAreLast.{ends_after, opening_ends}
use Rattle.m3_trace.proofs.hearing.OpeningHears.{opening_hears}
use Rattle.m3_trace.proofs.hearing.StrangersAreSilent.{silent_after}
use Rattle.m3_refine.proofs.bounds.ReadyLists.{ready_at_opening, ready_kept}
use Rattle.m3_refine.proofs.bounds.StayMoves.{stays_at_opening, stays_kept}
use Rattle.m3_refine.proofs.theorem.AnyStepMoves.{unasked_step}
use Rattle.m3_refine.proofs.theorem.NoProgramMoves.{IsNoTurn}
use Rattle.m3_trace.proofs.AnyStepRefinement.{any_means}
use Rattle.m3_trace.proofs.StepRefinement.{setup_fits}
use Rattle.m3_trace.proofs.RunRefinement.{none_ran, more_ran, opened_kept}
use Rattle.m3_trace.proofs.StepKeepsBounds.{step_low, low_comes, turn_step_low}
use Rattle.m3_trace.proofs.ValidSetup.{opens_as, valid_sound}

more_fit : (es : List Entry) (x : Entry) → AllFit (steps_in es) → AllFit (steps_of x.event x.outcome) → AllFit (steps_in (es ++ x ∷ []))
more_fit [] x fit new = fit_both (steps_of x.event x.outcome) [] new tt
more_fit (e ∷ es) x fit new =
    fit_both (steps_of e.event e.outcome) (steps_in (es ++ x ∷ [])) (fit_front (steps_of e.event e.outcome) (steps_in es) fit)
    (more_fit es x (fit_back (steps_of e.event e.outcome) (steps_in es) fit) new)

-- the journal of a machine that was opened has no entry
pub opened_trace : (s : SetupValue) → IsValid s → CountersBounded 0 (opened_by_setup s) → IsTrace s [] (opened_by_setup s)
opened_trace s valid low =
    record {
      valid = valid;
      few = omega arith;
      low = low;
      number = opens_low_kernel s.memory (programmed_acts s.lines) s.lines;
      stays = stays_at_opening s.memory (programmed_acts s.lines) s.lines;
      ready = ready_at_opening s.memory (programmed_acts s.lines) s.lines (valid_sound s valid).setup.homes;
      ran = none_ran (opened_site s) (opened_by_setup s) (opened_kept s valid);
      fit = tt;
      hears = opening_hears s valid;
      waits = waits_fly (opened_site s) (opened_by_setup s) (opening s.memory s.lines) [] tt (sym (opens_as s valid).0) (opening_hears s valid);
      ends = opening_ends s valid;
      strangers = λ a e. refl;
    }

-- the journal is a run from the opening, and leads to what the machine stands for
runs_from : (s : SetupValue) → IsValid s → (entries : List Entry) (m : Machine) → RunRefines (opened_site s) (opened_by_setup s) entries m → IsRun (opening s.memory s.lines) entries × (state_after_entries (opening s.memory s.lines) entries ≡ ideal_of m)
runs_from s valid entries m ran = (
  subst (λ (x : State). IsRun x entries) (opens_as s valid).0 ran.run,
  ap (λ (x : State). state_after_entries x entries) (sym (opens_as s valid).0) ∙ ran.reaches,
)

module _ (s : SetupValue) (entries : List Entry) (m : Machine) (trace : IsTrace s entries m) where
  abbrev h : Site
  h = opened_site s

  module _ (made : Option Made) (d : MachineResult) where
    other_step_low : (e : Event) → IsNoTurn e → IsServed e → machine_step h m e made ≡ Some d → CountersBounded (length entries + 1) d.machine
    other_step_low e other served step = step_low h (length entries) m trace.low e d served (unasked_step h m e made other ∙ step)

    any_step_low : (e : Event) → machine_step h m e made ≡ Some d → CountersBounded (length entries + 1) d.machine
    any_step_low (Event.Do a c) step = other_step_low (Event.Do a c) tt tt step
    any_step_low (Event.Take to from) step = other_step_low (Event.Take to from) tt tt step
    any_step_low (Event.Turn a) step = turn_step_low h (length entries) m trace.low a made d step
    any_step_low (Event.Tend a) step = other_step_low (Event.Tend a) tt tt step
    any_step_low Event.Close step = other_step_low Event.Close tt tt step
    any_step_low (Event.Order order) step = other_step_low (Event.Order order) tt tt step
    any_step_low (Event.File line) step = absurd (cc)

  -- what a step means
  pub step_means : (e : Event) (made : Option Made) (o : Outcome) (next : Machine) → IsOfSetup h e → IsWithin e → machine_step h m e made ≡ Some (record { outcome = o; machine = next }) → StepRefines h m (entry e o) next
  step_means e made o next own within step = any_means h m made o next trace.ran.kept (low_comes (length entries) m trace.few trace.low) e own within step

  -- and what programs are to see after it
  hears_more : (e : Event) (made : Option Made) (o : Outcome) (next : Machine) → IsWithin e → machine_step h m e made ≡ Some (record { outcome = o; machine = next }) → HearsAs h (opening s.memory s.lines) (entries ++ entry e o ∷ []) next
  hears_more e made o next within step =
      hears_after h m trace.ran.kept.sound (low_comes (length entries) m trace.few trace.low) (opening s.memory s.lines) entries (runs_from s trace.valid entries m trace.ran).1 trace.hears e within made o next step

  -- a step adds its entry
  pub more_trace : (e : Event) (made : Option Made) (o : Outcome) (next : Machine) → length entries < 2097152 → IsOfSetup h e → IsWithin e → machine_step h m e made ≡ Some (record { outcome = o; machine = next })
      → IsTrace s (entries ++ entry e o ∷ []) next
  more_trace e made o next room own within step =
      let d : MachineResult = record { outcome = o; machine = next } in
      let one : length (entries ++ entry e o ∷ []) ≡ length entries + 1 = length-append entries (entry e o ∷ []) in
      let ran = more_ran h (opened_by_setup s) m next entries (entry e o) trace.ran (step_means e made o next own within step) in
      let runs = runs_from s trace.valid (entries ++ entry e o ∷ []) next ran in
      let hears = hears_more e made o next within step in
      record {
        valid = trace.valid;
        few = omega arith;
        low = subst (λ (n : ℕ). CountersBounded n next) (sym one) (any_step_low made d e step);
        number = subst (λ (n : ℕ). HasLowKernel n next) (sym one) (low_kernel h m e made (length entries) d trace.number step);
        stays = subst (λ (n : ℕ). StaysAreShort n next) (sym one) (stays_kept h (length entries) m trace.stays e made d step);
        ready = ready_kept h m e made d trace.ready step;
        ran = ran;
        fit = more_fit entries (entry e o) trace.fit (event_fits e o (setup_fits h e own));
        hears = hears;
        waits = waits_fly h next (opening s.memory s.lines) (entries ++ entry e o ∷ []) runs.0 runs.1 hears;
        ends = λ a known. ends_after h m trace.ran.kept.sound a known (no_waiting_asked h m trace.ran.kept.sound a known trace.waits) (opening s.memory s.lines) entries (trace.ends a known) e within made o next step
            (calls_after h m trace.ran.kept.sound a known (opening s.memory s.lines) entries trace.hears e made o next step);
        strangers = λ a stranger. silent_after h m a stranger (opening s.memory s.lines) entries (trace.strangers a stranger) e made o next step;
      }

  -- ---- what the journal is

  pub trace_run : IsRun (opening_of s) entries
  trace_run = (runs_from s trace.valid entries m trace.ran).0

  pub trace_reaches : state_after_entries (opening_of s) entries ≡ ideal_of m
  trace_reaches = (runs_from s trace.valid entries m trace.ran).1

  pub trace_places : PlacementRun (opening_of s) (placement_at_opening s.lines) entries (placement_of (opened_site s) m)
  trace_places =
      subst (λ (x : State). PlacementRun x (placement_at_opening s.lines) entries (placement_of (opened_site s) m)) (opens_as s trace.valid).0 (
      subst (λ (p : Placement). PlacementRun (ideal_of (opened_by_setup s)) p entries (placement_of (opened_site s) m)) (opens_as s trace.valid).1 trace.ran.places
      )

  -- flights are few
  pub trace_few : length (ideal_of m).flights ≤ 4294967295
  trace_few = subst (λ (x : State). length x.flights ≤ 4294967295) trace_reaches (journal_few s.memory s.lines entries trace.few)

  -- no turn asks a program for a move before it has the answer that it waits for
  pub asked_are_heard : (a n : ℕ) → is_home h a ≡ true → turn_ask h (tile_at (tile_of h a) m) a ≢ Program_turn (Waits n)
  asked_are_heard a n known = no_waiting_asked h m trace.ran.kept.sound a known trace.waits n

  -- what a turn asks a program with is what it is to see
  pub asked_with : (a : ℕ) (seen : Seen) → is_home h a ≡ true → turn_ask h (tile_at (tile_of h a) m) a ≡ Program_turn seen → last_input a (opening_of s) entries ≡ input_of_seen seen
  asked_with a seen known asks = trace.hears a known ∙ asked_input h m trace.ran.kept.sound a known seen asks

  -- a step calls a program just where its turn asks it, with what it sees
  pub calls_grow : (a : ℕ) → is_home h a ≡ true → (e : Event) (made : Option Made) (o : Outcome) (next : Machine) → machine_step h m e made ≡ Some (record { outcome = o; machine = next })
      → all_calls a (opening_of s) (entries ++ entry e o ∷ []) ≡ all_calls a (opening_of s) entries ++ call_asked h m a e o
  calls_grow a known e made o next step = calls_after h m trace.ran.kept.sound a known (opening_of s) entries trace.hears e made o next step

  -- the laws hold after every entry
  pub trace_laws : AfterEach (KeepsLaws (opening_of s)) entries
  trace_laws = journal_laws s entries trace.valid trace.fit trace_run
