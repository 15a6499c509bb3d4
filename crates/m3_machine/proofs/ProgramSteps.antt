-- What an event does to the programs of a machine: each is called as the event's turn asks.
use Rattle.std.proofs.Common.{◌≡◌, ◌≢◌, ◌<◌, ℕ, Bool, true, false, List, [], ◌∷◌, get_or, length, map, set, Option, Some, None, option_map, refl, sym, ap, subst, ◌∙◌, arith, inl, inr, get_or-set_same, get_or-set_other, length-set}
use Rattle.std.specs.Prelude.{◌==◌, ◌⊎◌, is_some, if◌then◌else◌}
use Rattle.std.proofs.Math.ListN.{get_or-map}
use Rattle.std.proofs.Math.Seq.{map-set_same}
use Rattle.std.proofs.lemmas.List.{get_or_default, length-map}
use Rattle.std.proofs.lemmas.Bool.Decides.{eqb_tells}
use Rattle.m3_base.specs.declared.event.Event.{Event}
use Rattle.m3_base.specs.declared.event.Made.{Made}
use Rattle.m3_base.specs.declared.event.Outcome.{Outcome}
use Rattle.m3_base.specs.declared.command.Reply.{Reply}
use Rattle.m3_base.specs.declared.program.Move.{Move}
use Rattle.m3_base.specs.declared.program.Seen as program
use Rattle.m3_base.specs.Calls.JournalCalls.{Call, Input, Known, call_of_turn, call_with, own_move}
use Rattle.m3_base.specs.Calls.Relation.{Leads}
use Rattle.m3_model.specs.Config.Site.{Site, has_program}
use Rattle.m3_model.specs.Tile.Ask.{Ask, Idle_turn, Pending_turn, Program_turn, Quantum_turn}
use Rattle.m3_model.specs.Tile.State.{Awake, First, Got, Seen, Waits}
use Rattle.m3_trace.specs.Hearing.{call_asked, input_of_ask, input_of_seen}
use Rattle.m3_engine.specs.EngineView.{EngineAt}
use Rattle.m3_engine.specs.ProgramTurn.{IsAsked, IsProgramMove, ask_of, made_of}
use Rattle.m3_engine.specs.ShownSeen.{shown_seen}
use Rattle.m3_machine.specs.EngineTurns.{AreKept, AsksOne, AsksProgram}
use Rattle.m3_machine.specs.ProgramCalls.{AreAlike, AreCalled, HasPrograms, IsAlike, IsAlikeWhere, IsCalled, meanings_of}

known_first : (seen : program.Seen) → Some program.Seen.First ≡ Some seen → Known program.Seen.First ≡ Known seen
known_first seen e = let same : program.Seen.First ≡ seen = cc in ap Known same

known_awake : (seen : program.Seen) → Some program.Seen.Awake ≡ Some seen → Known program.Seen.Awake ≡ Known seen
known_awake seen e = let same : program.Seen.Awake ≡ seen = cc in ap Known same

known_answer : (r : Reply) (seen : program.Seen) → Some (program.Seen.Answer r) ≡ Some seen → Known (program.Seen.Answer r) ≡ Known seen
known_answer r seen e = let same : program.Seen.Answer r ≡ seen = cc in ap Known same

-- what is shown is known
shown_known : (value : Seen) (seen : program.Seen) → shown_seen value ≡ Some seen → input_of_seen value ≡ Known seen
shown_known First seen e = known_first seen e
shown_known Awake seen e = known_awake seen e
shown_known (Got r) seen e = known_answer r seen e
shown_known (Waits n) seen e = absurd (cc)

own_made : (m : Move) → own_move (made_of m) ≡ Some m
own_made (Move.Do c) = refl
own_made (Move.Await ep) = refl
own_made Move.Ended = refl

get_meaning : {P : Type 0} (meaning : P → List ℕ) (xs : List (Option P)) (a : ℕ) → get_or (meanings_of meaning xs) a None ≡ option_map meaning (get_or xs a None)
get_meaning meaning xs a = get_or-map (option_map meaning) xs a None

module _ {P : Type 0} (moves : P → List ℕ → program.Seen → Move → List ℕ → Type 0) (meaning : P → List ℕ) where
  -- ---- one program

  -- no call
  still_called : (p q : Option P) → IsAlikeWhere moves p q → IsCalled moves p (option_map meaning q) [] (option_map meaning q)
  still_called None q al = refl
  still_called (Some p) None al = absurd al
  still_called (Some p) (Some q) al = refl

  move_leads : (p q r : P) (value : Seen) (made : Option Made) → IsAlike moves p q → IsProgramMove (moves q) (meaning q) (meaning r) value made → Leads (moves p) (meaning q) (call_of_turn (input_of_seen value) made) (meaning r)
  move_leads p q r value made al k =
      let call : Call = record { seen = k.seen; move = k.move } in
      let one : call_of_turn (input_of_seen value) made ≡ call ∷ [] =
      ap (call_of_turn (input_of_seen value)) k.told
      ∙ ap (λ i. call_with i (own_move (made_of k.move))) (shown_known value k.seen k.shown)
      ∙ ap (call_with (Known k.seen)) (own_made k.move) in
      subst (λ (cs : List Call). Leads (moves p) (meaning q) cs (meaning r)) (sym one) (meaning r, (al (meaning q) k.seen k.move (meaning r)).0 k.moved, refl)

  asked_leads : (p q r : P) (ask : Ask) (made : Option Made) → IsAlike moves p q → IsAsked (moves q) (meaning q) (meaning r) ask made → Leads (moves p) (meaning q) (call_of_turn (input_of_ask ask) made) (meaning r)
  asked_leads p q r (Idle_turn why) made al k = subst (λ (o : Option Made). Leads (moves p) (meaning q) (call_of_turn (input_of_ask (Idle_turn why)) o) (meaning r)) (sym k.0) (sym k.1)
  asked_leads p q r Quantum_turn made al k = subst (λ (o : Option Made). Leads (moves p) (meaning q) (call_of_turn (input_of_ask Quantum_turn) o) (meaning r)) (sym k.0) (sym k.1)
  asked_leads p q r (Pending_turn ep) made al k = subst (λ (o : Option Made). Leads (moves p) (meaning q) (call_of_turn (input_of_ask (Pending_turn ep)) o) (meaning r)) (sym k.0) (sym k.1)
  asked_leads p q r (Program_turn value) made al k = move_leads p q r value made al k

  asked_called : (p : Option P) (q r : P) (ask : Ask) (made : Option Made) → IsAlikeWhere moves p (Some q) → IsAsked (moves q) (meaning q) (meaning r) ask made → IsCalled moves p (Some (meaning q)) (call_of_turn (input_of_ask ask) made) (Some (meaning r))
  asked_called None q r ask made al k = absurd al
  asked_called (Some p) q r ask made al k = asked_leads p q r ask made al k

  alike_on : (p : Option P) (q r : P) → IsAlikeWhere moves p (Some q) → IsAlike moves q r → IsAlikeWhere moves p (Some r)
  alike_on None q r al on = absurd al
  alike_on (Some p) q r al on = λ a s m b. (λ x. (al a s m b).0 ((on a s m b).0 x), λ x. (on a s m b).1 ((al a s m b).1 x))

  alike_then : (p q r : Option P) → IsAlikeWhere moves p q → IsAlikeWhere moves q r → IsAlikeWhere moves p r
  alike_then p None None al on = al
  alike_then p None (Some r) al on = absurd on
  alike_then p (Some q) None al on = absurd on
  alike_then p (Some q) (Some r) al on = alike_on p q r al on

  alike_there : (p q : Option P) → IsAlikeWhere moves p q → is_some q ≡ is_some p
  alike_there None None al = refl
  alike_there None (Some q) al = absurd al
  alike_there (Some p) None al = absurd al
  alike_there (Some p) (Some q) al = refl

  pub alike_self : (p : Option P) → IsAlikeWhere moves p p
  alike_self None = tt
  alike_self (Some p) = λ a s m b. (λ x. x, λ x. x)

  -- ---- all of them

  module _ (initial old : List (Option P)) (alike : AreAlike moves initial old) where
    abbrev first : ℕ → Option P
    first a = get_or initial a None

    pub same_places : (h : Site) → HasPrograms h initial → HasPrograms h old
    same_places h there a = alike_there (first a) (get_or old a None) (alike a) ∙ there a

    -- where nothing is asked
    pub none_called : AreCalled moves initial (meanings_of meaning old) (λ a. []) (meanings_of meaning old)
    none_called a =
        subst (λ (o : Option (List ℕ)). IsCalled moves (first a) o [] o) (sym (get_meaning meaning old a)) (still_called (first a) (get_or old a None) (alike a))

    module _ (new : List (Option P)) where
      pub kept_alike : AreKept moves meaning old new → AreAlike moves initial new
      kept_alike k a = alike_then (first a) (get_or old a None) (get_or new a None) (alike a) (k.alike a)

      pub kept_places : AreKept moves meaning old new → length new ≡ length old
      kept_places k = sym (length-map new (option_map meaning)) ∙ ap length k.meanings ∙ length-map old (option_map meaning)

      module _ (places : length old ≡ 64) (eng : EngineAt) (o : Outcome) where
        -- the program of this activity is asked
        module _ (b : ℕ) (k : AsksProgram moves meaning eng b o old new) where
          here : get_or new b None ≡ Some k.after
          here = ap (λ (xs : List (Option P)). get_or xs b None) k.set ∙ get_or-set_same old b (Some k.after) None (omega (arith, places, k.low))

          beside : (a : ℕ) → a ≢ b → get_or new a None ≡ get_or old a None
          beside a ne = ap (λ (xs : List (Option P)). get_or xs a None) k.set ∙ get_or-set_other old b a (Some k.after) None ne

          before_alike : IsAlikeWhere moves (first b) (Some k.before)
          before_alike = subst (IsAlikeWhere moves (first b)) k.there (alike b)

          asked_alike : AreAlike moves initial new
          asked_alike a = by_test (eqb_tells a b)
            where
              by_test : ((a == b) ≡ true) × (a ≡ b) ⊎ ((a == b) ≡ false) × (a ≢ b) → IsAlikeWhere moves (first a) (get_or new a None)
              by_test (inl x) = subst (λ (n : ℕ). IsAlikeWhere moves (first n) (get_or new n None)) (sym x.1) (subst (IsAlikeWhere moves (first b)) (sym here) (alike_on (first b) k.before k.after before_alike k.alike))
              by_test (inr x) = subst (IsAlikeWhere moves (first a)) (sym (beside a x.1)) (alike a)

          abbrev asks : ℕ → List Call
          asks a = call_asked eng.site eng.machine a (Event.Turn b) o

          own_calls : (b == b) ≡ true → asks b ≡ call_of_turn (input_of_ask (ask_of eng b)) o.made
          own_calls e = ap (λ (t : Bool). if t then call_of_turn (input_of_ask (ask_of eng b)) o.made else []) e

          other_calls : (a : ℕ) → (b == a) ≡ false → asks a ≡ []
          other_calls a e = ap (λ (t : Bool). if t then call_of_turn (input_of_ask (ask_of eng a)) o.made else []) e

          abbrev CalledAt : ℕ → Type 0
          CalledAt a = IsCalled moves (first a) (get_or (meanings_of meaning old) a None) (asks a) (get_or (meanings_of meaning new) a None)

          called_own : (b == b) ≡ true → CalledAt b
          called_own e =
              let was : get_or (meanings_of meaning old) b None ≡ Some (meaning k.before) = get_meaning meaning old b ∙ ap (option_map meaning) k.there in
              let is : get_or (meanings_of meaning new) b None ≡ Some (meaning k.after) = get_meaning meaning new b ∙ ap (option_map meaning) here in
              subst (λ (m : Option (List ℕ)). IsCalled moves (first b) m (asks b) (get_or (meanings_of meaning new) b None)) (sym was) (
              subst (λ (n : Option (List ℕ)). IsCalled moves (first b) (Some (meaning k.before)) (asks b) n) (sym is) (
              subst (λ (cs : List Call). IsCalled moves (first b) (Some (meaning k.before)) cs (Some (meaning k.after))) (sym (own_calls e)) (
              asked_called (first b) k.before k.after (ask_of eng b) o.made before_alike k.asked
              )
              )
              )

          called_other : (a : ℕ) → (b == a) ≡ false → a ≢ b → CalledAt a
          called_other a e ne =
              let same : get_or (meanings_of meaning new) a None ≡ get_or (meanings_of meaning old) a None =
              get_meaning meaning new a ∙ ap (option_map meaning) (beside a ne) ∙ sym (get_meaning meaning old a) in
              subst (λ (n : Option (List ℕ)). IsCalled moves (first a) (get_or (meanings_of meaning old) a None) (asks a) n) (sym same) (
              subst (λ (cs : List Call). IsCalled moves (first a) (get_or (meanings_of meaning old) a None) cs (get_or (meanings_of meaning old) a None)) (sym (other_calls a e)) (none_called a)
              )

          asked_called_all : AreCalled moves initial (meanings_of meaning old) asks (meanings_of meaning new)
          asked_called_all a = by_test (eqb_tells b a)
            where
              by_test : ((b == a) ≡ true) × (b ≡ a) ⊎ ((b == a) ≡ false) × (b ≢ a) → CalledAt a
              by_test (inl x) = subst CalledAt x.1 (called_own (subst (λ (n : ℕ). (b == n) ≡ true) (sym x.1) x.0))
              by_test (inr x) = called_other a x.0 (λ e. x.1 (sym e))

          asked_places : length new ≡ 64
          asked_places = ap length k.set ∙ length-set old b (Some k.after) ∙ places

        -- nobody is asked
        module _ (same : new ≡ old) where
          same_alike : AreAlike moves initial new
          same_alike = subst (AreAlike moves initial) (sym same) alike

          same_called : AreCalled moves initial (meanings_of meaning old) (λ a. []) (meanings_of meaning new)
          same_called = subst (λ (xs : List (Option P)). AreCalled moves initial (meanings_of meaning old) (λ a. []) (meanings_of meaning xs)) (sym same) none_called

          same_length : length new ≡ 64
          same_length = ap length same ∙ places

        -- ---- at any event

        pub one_places : (e : Event) → AsksOne moves meaning eng e o old new → length new ≡ 64
        one_places (Event.Turn b) k = ap length k.set ∙ length-set old b (Some k.after) ∙ places
        one_places (Event.Do a c) k = same_length k
        one_places (Event.Take to from) k = same_length k
        one_places (Event.Tend a) k = same_length k
        one_places Event.Close k = same_length k
        one_places (Event.Order order) k = same_length k
        one_places (Event.File line) k = same_length k

        pub one_alike : (e : Event) → AsksOne moves meaning eng e o old new → AreAlike moves initial new
        one_alike (Event.Turn b) k = asked_alike b k
        one_alike (Event.Do a c) k = same_alike k
        one_alike (Event.Take to from) k = same_alike k
        one_alike (Event.Tend a) k = same_alike k
        one_alike Event.Close k = same_alike k
        one_alike (Event.Order order) k = same_alike k
        one_alike (Event.File line) k = same_alike k

        pub one_called : (e : Event) → AsksOne moves meaning eng e o old new → AreCalled moves initial (meanings_of meaning old) (λ a. call_asked eng.site eng.machine a e o) (meanings_of meaning new)
        one_called (Event.Turn b) k = asked_called_all b k
        one_called (Event.Do a c) k = same_called k
        one_called (Event.Take to from) k = same_called k
        one_called (Event.Tend a) k = same_called k
        one_called Event.Close k = same_called k
        one_called (Event.Order order) k = same_called k
        one_called (Event.File line) k = same_called k

  -- ---- a program that was asked in vain

  pub kept_one : (old : List (Option P)) (b : ℕ) (x : Option P) (q r : P) → b < length old → x ≡ get_or old b x → x ≡ Some q → IsAlike moves q r → meaning r ≡ meaning q → AreKept moves meaning old (set old b (Some r))
  kept_one old b x q r low value here al same =
      record {
        alike = λ a. by_test a (eqb_tells a b);
        meanings = map-set_same (option_map meaning) old b (Some r) x (ap Some same ∙ sym (ap (option_map meaning) here) ∙ ap (option_map meaning) value);
      }
    where
      was : get_or old b None ≡ Some q
      was = get_or_default old b None x low ∙ sym value ∙ here

      by_test : (a : ℕ) → ((a == b) ≡ true) × (a ≡ b) ⊎ ((a == b) ≡ false) × (a ≢ b) → IsAlikeWhere moves (get_or old a None) (get_or (set old b (Some r)) a None)
      by_test a (inl e) =
          subst (λ (n : ℕ). IsAlikeWhere moves (get_or old n None) (get_or (set old b (Some r)) n None)) (sym e.1) (
          subst (λ (o : Option P). IsAlikeWhere moves o (get_or (set old b (Some r)) b None)) (sym was) (
          subst (IsAlikeWhere moves (Some q)) (sym (get_or-set_same old b (Some r) None low)) al
          )
          )
      by_test a (inr e) = subst (IsAlikeWhere moves (get_or old a None)) (sym (get_or-set_other old b a (Some r) None e.1)) (alike_self (get_or old a None))
