-- Traces go on by further events, those that are given and those of the driver.
use Rattle.std.proofs.Common.{◌≡◌, ◌⊎◌, inl, inr, ◌≤◌, ◌<◌, ◌+◌, ◌-◌, ◌++◌, ◌∷◌, [], ℕ, zero, suc, List, length, length-append, Option, Some, None, append-nil, append_assoc, refl, sym, ap, subst, ◌∙◌, arith}
use Rattle.std.specs.List.{All}
use Rattle.std.proofs.lemmas.List.Elements.{All-head, All-tail}
use Rattle.m3_base.specs.declared.event.Entry.{Entry}
use Rattle.m3_base.specs.declared.event.Event.{Event}
use Rattle.m3_base.specs.declared.order.Order.{Order}
use Rattle.m3_base.specs.declared.program.Move.{Move}
use Rattle.m3_base.specs.declared.program.Seen.{Seen}
use Rattle.m3_base.specs.DriverRun.Choices.{IsQuiet, choice}
use Rattle.m3_base.specs.DriverRun.Configuration.{Configuration, configuration_after, initial_configuration, orders_after}
use Rattle.m3_base.specs.Setup.Rules.{SetupValue}
use Rattle.m3_model.specs.Abstraction.{ideal_of, placement_of}
use Rattle.m3_model.specs.Config.Site.{Site}
use Rattle.m3_model.specs.Machine.{Machine}
use Rattle.m3_model.specs.SetupOpening.{opened_site}
use Rattle.m3_refine.proofs.lists.EachElement.{InSome}
use Rattle.m3_trace.specs.Continuation.{CanAllMove, DriverEnds, DriverGoesOn, FitsSetup, GoesOn, IsDrivenTrace, IsProgramTrace, configuration_of}
use Rattle.m3_trace.specs.DriverOfMachine.{next_event_left}
use Rattle.m3_trace.specs.JournalEntry.{entry}
use Rattle.m3_trace.proofs.ConfigurationSteps.{choices_more, each_after, last_more, places_move}
use Rattle.m3_trace.proofs.DriverEventsFit.{next_fits}
use Rattle.m3_trace.proofs.DriverWithPrograms.{next_left_kept}
use Rattle.m3_trace.proofs.OneMoreEntry.{event_more}

module _ {P : Type 0} (moves : P → List ℕ → Seen → Move → List ℕ → Type 0) (meaning : P → List ℕ) (s : SetupValue) (programs : ℕ → Option P) (can : CanAllMove moves meaning s programs) where
  abbrev h : Site
  h = opened_site s

  -- ---- events that are given

  pub events_go_on : (events : List Event) (entries : List Entry) (m : Machine) → IsProgramTrace moves meaning s programs entries m → All (FitsSetup h) events → length entries + length events ≤ 2097152 → GoesOn moves meaning s programs entries events
  events_go_on [] entries m t fit room = record {
    more = [];
    machine = m;
    follows = refl;
    trace = subst (λ es. IsProgramTrace moves meaning s programs es m) (sym (append-nil entries)) t;
  }
  events_go_on (e ∷ events) entries m t fit room =
      let one = event_more moves meaning s programs can entries m t e (All-head (FitsSetup h) e events fit) (omega arith) in
      let x = entry e one.outcome in
      let count : length (entries ++ x ∷ []) ≡ length entries + 1 = length-append entries (x ∷ []) in
      let rest = events_go_on events (entries ++ x ∷ []) one.machine one.trace (All-tail (FitsSetup h) e events fit) (omega arith) in
      record {
        more = x ∷ rest.more;
        machine = rest.machine;
        follows = ap (λ es. e ∷ es) rest.follows;
        trace = subst (λ es. IsProgramTrace moves meaning s programs es rest.machine) (append_assoc entries (x ∷ []) rest.more) rest.trace;
      }

  -- ---- the driver's

  module _ (orders : List Order) where
    abbrev Driven : List Entry → Machine → List Order → Type 0
    Driven entries m left = IsDrivenTrace moves meaning s programs orders entries m left

    -- an entry more of the driver's
    record DriverMore (entries : List Entry) : Type 0 where
      pub added : Entry
      pub machine : Machine
      pub left : List Order
      pub driven : Driven (entries ++ added ∷ []) machine left

    module _ (entries : List Entry) (m : Machine) (left : List Order) (d : Driven entries m left) where
      abbrev here : Configuration
      here = configuration_of s m left

      next_is : choice here ≡ next_event_left h m left
      next_is = sym (next_left_kept h m d.trace.trace.ran.kept left)

      driver_more : (e : Event) → choice here ≡ Some e → FitsSetup h e → length entries < 2097152 → DriverMore entries
      driver_more e next fits room =
          let one = event_more moves meaning s programs can entries m d.trace e fits room in
          let x = entry e one.outcome in
          let places = places_move h (ideal_of m) (placement_of h m) e one.outcome (placement_of h one.machine) fits.2 one.means.placed.moves in
          let moved : configuration_after here x ≡ configuration_of s one.machine (orders_after left e) =
          λ i. record { state = one.means.reaches i; places = places i; left = orders_after left e } in
          record {
            added = x;
            machine = one.machine;
            left = orders_after left e;
            driven = record {
              trace = one.trace;
              choices = choices_more (initial_configuration s orders) entries x d.choices (ap choice d.reaches ∙ next);
              reaches = last_more (initial_configuration s orders) entries x ∙ ap (λ c. configuration_after c x) d.reaches ∙ moved;
              fit = each_after (λ o. FitsSetup h (Event.Order o)) left e d.fit;
            };
          }

      not_quiet : (e : Event) → choice here ≡ Some e → IsQuiet here → ⊥
      not_quiet e next quiet = absurd (let k : None ≡ Some e = sym quiet ∙ next in cc)

      -- it has no more to do, or makes an entry more
      abbrev Chooses : Type 0
      Chooses = IsQuiet here ⊎ ((IsQuiet here → ⊥) × (length entries < 2097152 → DriverMore entries))

      by_next : (o : Option Event) → next_event_left h m left ≡ o → InSome (FitsSetup h) o → Chooses
      by_next None is fits = inl (next_is ∙ is)
      by_next (Some e) is fits = inr (not_quiet e (next_is ∙ is), driver_more e (next_is ∙ is) fits)

      chooses : Chooses
      chooses = by_next (next_event_left h m left) refl (next_fits h m d.trace.trace.ran.kept.sound d.trace.trace.ready left d.fit)

      -- it stops here
      stops : (budget : ℕ) → length entries ≤ budget → DriverEnds budget here (length entries) → DriverGoesOn moves meaning s programs orders entries budget
      stops budget few ends = record {
        more = [];
        machine = m;
        left = left;
        driven = subst (λ es. Driven es m left) (sym (append-nil entries)) d;
        few = subst (λ es. length es ≤ budget) (sym (append-nil entries)) few;
        ends = subst (λ es. DriverEnds budget here (length es)) (sym (append-nil entries)) ends;
      }

    goes_after : (entries : List Entry) (x : Entry) (budget : ℕ) → DriverGoesOn moves meaning s programs orders (entries ++ x ∷ []) budget → DriverGoesOn moves meaning s programs orders entries budget
    goes_after entries x budget r =
        let same = append_assoc entries (x ∷ []) r.more in
        record {
          more = x ∷ r.more;
          machine = r.machine;
          left = r.left;
          driven = subst (λ es. Driven es r.machine r.left) same r.driven;
          few = subst (λ es. length es ≤ budget) same r.few;
          ends = subst (λ es. DriverEnds budget (configuration_of s r.machine r.left) (length es)) same r.ends;
        }

    module _ (budget : ℕ) (most : budget ≤ 2097152) where
      abbrev Goes : List Entry → Type 0
      Goes entries = DriverGoesOn moves meaning s programs orders entries budget

      -- with so many entries to go
      driver_goes : (n : ℕ) (entries : List Entry) (m : Machine) (left : List Order) → Driven entries m left → n + length entries ≡ budget → Goes entries
      driver_goes zero entries m left d count = by_choice (chooses entries m left d)
        where
          by_choice : Chooses entries m left d → Goes entries
          by_choice (inl quiet) = stops entries m left d budget (omega arith) (inl quiet)
          by_choice (inr k) = stops entries m left d budget (omega arith) (inr (let same : length entries ≡ budget = omega arith in same, k.0))
      driver_goes (suc n) entries m left d count =
          by_choice (chooses entries m left d) (λ x next orders_left on same. driver_goes n (entries ++ x ∷ []) next orders_left on same)
        where
          by_choice : Chooses entries m left d → ((x : Entry) (next : Machine) (orders_left : List Order) → Driven (entries ++ x ∷ []) next orders_left → n + length (entries ++ x ∷ []) ≡ budget → Goes (entries ++ x ∷ [])) → Goes entries
          by_choice (inl quiet) goes = stops entries m left d budget (omega arith) (inl quiet)
          by_choice (inr k) goes =
              let one = k.1 (omega arith) in
              let longer : length (entries ++ one.added ∷ []) ≡ length entries + 1 = length-append entries (one.added ∷ []) in
              goes_after entries one.added budget (goes one.added one.machine one.left one.driven (omega arith))

      pub driver_goes_on : (entries : List Entry) (m : Machine) (left : List Order) → Driven entries m left → length entries ≤ budget → Goes entries
      driver_goes_on entries m left d few = driver_goes (budget - length entries) entries m left d (omega arith)
