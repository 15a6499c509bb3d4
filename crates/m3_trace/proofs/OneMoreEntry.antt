-- A trace whose programs have a move goes on by each event that fits its setup.
use Rattle.std.proofs.Common.{◌≡◌, ◌≢◌, ◌<◌, ◌++◌, ◌∷◌, [], ℕ, Bool, true, false, List, length, Option, Some, None, append-nil, refl, sym, ap, subst, ◌∙◌, arith}
use Rattle.std.specs.Prelude.{◌==◌}
use Rattle.std.proofs.lemmas.Bool.Decides.{nat_tests}
use Rattle.m3_base.specs.declared.event.Entry.{Entry}
use Rattle.m3_base.specs.declared.event.Event.{Event}
use Rattle.m3_base.specs.declared.event.Made.{Made}
use Rattle.m3_base.specs.declared.event.Outcome.{Outcome}
use Rattle.m3_base.specs.declared.program.Move.{Move}
use Rattle.m3_base.specs.declared.program.Seen as program
use Rattle.m3_base.specs.Calls.JournalCalls.{all_calls, own_move}
use Rattle.m3_base.specs.Calls.Relation.{Leads}
use Rattle.m3_base.specs.Ideal.Opening.{opening}
use Rattle.m3_base.specs.Ideal.State.{State}
use Rattle.m3_base.specs.Setup.Rules.{SetupValue}
use Rattle.m3_model.specs.Config.KnownActivities.{is_home}
use Rattle.m3_model.specs.Config.Site.{Site, has_program, home_of, tile_of}
use Rattle.m3_model.specs.Machine.{Machine, tile_at}
use Rattle.m3_model.specs.SetupOpening.{opened_site}
use Rattle.m3_model.specs.Tile.Ask.{Ask, Idle_turn, Pending_turn, Program_turn, Quantum_turn, answers_ask, turn_ask}
use Rattle.m3_model.specs.Tile.State.{Seen}
use Rattle.m3_refine.proofs.events.take.RouteStep.{itself}
use Rattle.m3_refine.proofs.theorem.NoProgramMoves.{IsNoTurn}
use Rattle.m3_trace.specs.Continuation.{CanAllMove, CanMove, FitsSetup, IsProgramTrace, IsReachOf}
use Rattle.m3_trace.specs.Hearing.{call_asked}
use Rattle.m3_trace.specs.Invariant.{StepRefines}
use Rattle.m3_trace.specs.JournalEntry.{entry}
use Rattle.m3_trace.proofs.DriverEventsFit.{programmed_home}
use Rattle.m3_trace.proofs.EventsAreMade.{IsMade, event_is_made, turn_is_made}
use Rattle.m3_trace.proofs.ProgramCalls.{call_made, hears, leads_grow, no_call, other_call}
use Rattle.m3_trace.proofs.TraceGrows.{calls_grow, more_trace, step_means}

-- ---- moves

abbrev made_of : Move → Made
made_of (Move.Do c) = Made.Command c
made_of (Move.Await ep) = Made.Await ep
made_of Move.Ended = Made.End

own_made : (m : Move) → own_move (made_of m) ≡ Some m
own_made (Move.Do c) = refl
own_made (Move.Await ep) = refl
own_made Move.Ended = refl

answers_program : (seen : Seen) (m : Move) → answers_ask (Program_turn seen) (Some (made_of m)) ≡ true
answers_program seen (Move.Do c) = refl
answers_program seen (Move.Await ep) = refl
answers_program seen Move.Ended = refl

-- any event but a turn calls no program
no_turn_calls : (h : Site) (m : Machine) (a : ℕ) (e : Event) (o : Outcome) → IsNoTurn e → call_asked h m a e o ≡ []
no_turn_calls h m a (Event.Do b c) o k = refl
no_turn_calls h m a (Event.Turn b) o k = absurd k
no_turn_calls h m a (Event.Take to from) o k = refl
no_turn_calls h m a (Event.Tend b) o k = refl
no_turn_calls h m a Event.Close o k = refl
no_turn_calls h m a (Event.Order order) o k = refl
no_turn_calls h m a (Event.File line) o k = refl

module _ {P : Type 0} (moves : P → List ℕ → program.Seen → Move → List ℕ → Type 0) (meaning : P → List ℕ) (s : SetupValue) (programs : ℕ → Option P) where
  -- there is a step of this event, and the longer trace
  pub record OneMore (entries : List Entry) (m : Machine) (e : Event) : Type 0 where
    pub outcome : Outcome
    pub machine : Machine
    pub means : StepRefines (opened_site s) m (entry e outcome) machine
    pub trace : IsProgramTrace moves meaning s programs (entries ++ entry e outcome ∷ []) machine

  module _ (can : CanAllMove moves meaning s programs) (entries : List Entry) (m : Machine) (t : IsProgramTrace moves meaning s programs entries m) where
    abbrev h : Site
    h = opened_site s

    abbrev start : State
    start = opening s.memory s.lines

    home_known : (a : ℕ) → has_program h a ≡ true → is_home h a ≡ true
    home_known a has = programmed_home h a has

    abbrev CallsAfter : Event → Outcome → Type 0
    CallsAfter e o = (b : ℕ) → has_program h b ≡ true → IsReachOf moves meaning (programs b) (all_calls b start (entries ++ entry e o ∷ []))

    more_of : (e : Event) (made : Option Made) (k : IsMade h m e made) → FitsSetup h e → length entries < 2097152 → CallsAfter e k.outcome → OneMore entries m e
    more_of e made k fits room calls = record {
      outcome = k.outcome;
      machine = k.machine;
      means = step_means s entries m t.trace e made k.outcome k.machine fits.0 fits.1 k.step;
      trace = record { trace = more_trace s entries m t.trace e made k.outcome k.machine room fits.0 fits.1 k.step; calls = calls };
    }

    -- a program that isn't called
    same_calls : (e : Event) (made : Option Made) (k : IsMade h m e made) (b : ℕ) → has_program h b ≡ true → call_asked h m b e k.outcome ≡ [] → IsReachOf moves meaning (programs b) (all_calls b start (entries ++ entry e k.outcome ∷ []))
    same_calls e made k b has none =
        subst (IsReachOf moves meaning (programs b)) (
        sym (calls_grow s entries m t.trace b (home_known b has) e made k.outcome k.machine k.step ∙ ap (λ cs. all_calls b start entries ++ cs) none ∙ append-nil (all_calls b start entries))
        ) (t.calls b has)

    other_more : (e : Event) → IsNoTurn e → FitsSetup h e → length entries < 2097152 → OneMore entries m e
    other_more e other fits room =
        let k = event_is_made h m t.trace.ran.kept.sound e fits other in
        more_of e None k fits room (λ b has. same_calls e None k b has (no_turn_calls h m b e k.outcome other))

    module _ (a : ℕ) (has : has_program h a ≡ true) (fits : FitsSetup h (Event.Turn a)) (room : length entries < 2097152) where
      abbrev ask : Ask
      ask = turn_ask h (tile_at (tile_of h a) m) a

      same_act : (b : ℕ) → (a == b) ≡ true → a ≡ b
      same_act b e = grind (arith, nat_tests, e)

      -- what its calls are at a, and those of others stay
      turn_calls : (made : Option Made) (k : IsMade h m (Event.Turn a) made) → IsReachOf moves meaning (programs a) (all_calls a start (entries ++ entry (Event.Turn a) k.outcome ∷ [])) → CallsAfter (Event.Turn a) k.outcome
      turn_calls made k mine b has_b = by_act (a == b) refl
        where
          by_act : (z : Bool) → (a == b) ≡ z → IsReachOf moves meaning (programs b) (all_calls b start (entries ++ entry (Event.Turn a) k.outcome ∷ []))
          by_act true e = subst (λ n. IsReachOf moves meaning (programs n) (all_calls n start (entries ++ entry (Event.Turn a) k.outcome ∷ []))) (same_act b e) mine
          by_act false e = same_calls (Event.Turn a) made k b has_b (other_call h m b k.outcome a e)

      -- a turn that doesn't ask its program
      unasked_more : (made : Option Made) → answers_ask ask made ≡ true → ((seen : Seen) → ask ≢ Program_turn seen) → OneMore entries m (Event.Turn a)
      unasked_more made answers un =
          let k = (turn_is_made h m t.trace.ran.kept.sound a made (home_known a has) answers).0 in
          more_of (Event.Turn a) made k fits room (turn_calls made k (same_calls (Event.Turn a) made k a has (no_call h m a k.outcome un)))

      -- a turn that asks it
      asked_more : (seen : Seen) → ask ≡ Program_turn seen → (o : Option P) → programs a ≡ o → CanMove moves meaning o → IsReachOf moves meaning o (all_calls a start entries) → OneMore entries m (Event.Turn a)
      asked_more seen asks None is c reach = absurd c
      asked_more seen asks (Some p) is c reach =
          let known = (hears s entries m t.trace a (home_known a has)).asked seen asks in
          let move = c (all_calls a start entries) reach.0 reach.1 known.0 in
          let made = Some (made_of move.0) in
          let is_made = turn_is_made h m t.trace.ran.kept.sound a made (home_known a has) (ap (λ q. answers_ask q made) asks ∙ answers_program seen move.0) in
          let k = is_made.0 in
          let one = call_made h m a k.outcome seen known.0 (made_of move.0) move.0 asks known.1 is_made.1 (own_made move.0) in
          let led = subst (λ cs. Leads (moves p) reach.0 cs move.1) (sym one) (move.1, move.2, refl) in
          more_of (Event.Turn a) made k fits room (turn_calls made k (
          subst (λ (q : Option P). IsReachOf moves meaning q (all_calls a start (entries ++ entry (Event.Turn a) k.outcome ∷ []))) (sym is)
          (move.1, leads_grow s entries m t.trace a (home_known a has) (moves p) (meaning p) reach.0 move.1 (Event.Turn a) made k.outcome k.machine k.step reach.1 led)
          ))

      by_ask : (q : Ask) → ask ≡ q → OneMore entries m (Event.Turn a)
      by_ask (Idle_turn why) is = unasked_more None (ap (λ q. answers_ask q None) is) (λ seen e. absurd (let k : Idle_turn why ≡ Program_turn seen = sym is ∙ e in cc))
      by_ask Quantum_turn is = unasked_more (Some Made.Quantum) (ap (λ q. answers_ask q (Some Made.Quantum)) is) (λ seen e. absurd (let k : Quantum_turn ≡ Program_turn seen = sym is ∙ e in cc))
      by_ask (Pending_turn ep) is =
          unasked_more (Some (Made.Await ep)) (ap (λ q. answers_ask q (Some (Made.Await ep))) is ∙ itself ep)
          (λ seen e. absurd (let k : Pending_turn ep ≡ Program_turn seen = sym is ∙ e in cc))
      by_ask (Program_turn seen) is = asked_more seen is (programs a) refl (can a has) (t.calls a has)

    pub event_more : (e : Event) → FitsSetup h e → length entries < 2097152 → OneMore entries m e
    event_more (Event.Do a c) fits room = other_more (Event.Do a c) tt fits room
    event_more (Event.Turn a) fits room = by_ask a fits.2 fits room (turn_ask h (tile_at (tile_of h a) m) a) refl
    event_more (Event.Take to from) fits room = other_more (Event.Take to from) tt fits room
    event_more (Event.Tend a) fits room = other_more (Event.Tend a) tt fits room
    event_more Event.Close fits room = other_more Event.Close tt fits room
    event_more (Event.Order o) fits room = other_more (Event.Order o) tt fits room
    event_more (Event.File line) fits room = absurd fits.2
