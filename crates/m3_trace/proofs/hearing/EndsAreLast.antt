-- Along a run a program's end is its last call: from then on its resident has ended, and no turn of it is made.
use Rattle.std.proofs.Common.{◌≡◌, ◌≢◌, ℕ, ◌<◌, Bool, true, false, cond, List, [], ◌∷◌, ◌++◌, get_or, set, Option, Some, None, refl, sym, subst, ◌∙◌, ap, arith}
use Rattle.std.proofs.Math.Bool.{or-false}
use Rattle.std.specs.Prelude.{◌==◌, ◌||◌, if◌then◌else◌}
use Rattle.std.proofs.lemmas.Bool.Decides.{nat_tests}
use Rattle.std.proofs.lemmas.Option.{same_Some}
use Rattle.m3_base.specs.declared.event.Entry.{Entry}
use Rattle.m3_base.specs.declared.event.Event.{Event}
use Rattle.m3_base.specs.declared.event.Made.{Made}
use Rattle.m3_base.specs.declared.event.Outcome.{Outcome}
use Rattle.m3_base.specs.declared.program.Move.{Move}
use Rattle.m3_base.specs.Calls.Fuel.{is_end}
use Rattle.m3_base.specs.Calls.JournalCalls.{Call, Input, Known, Missing, PendingAnswer, PendingAwait, all_calls, call_of_turn, call_with, own_move}
use Rattle.m3_base.specs.Ideal.Opening.{opening}
use Rattle.m3_base.specs.Ideal.State.{State}
use Rattle.m3_base.specs.Setup.Rules.{IsValid, SetupValue}
use Rattle.m3_model.specs.Config.KnownActivities.{is_home}
use Rattle.m3_model.specs.Config.Site.{Site, tile_of}
use Rattle.m3_model.specs.Events.{IsWithin}
use Rattle.m3_model.specs.Invariant.Housing.{resident_at}
use Rattle.m3_model.specs.Invariant.Structure.{MachineStructure}
use Rattle.m3_model.specs.LocalStep.{LocalResult}
use Rattle.m3_model.specs.Machine.{Kernel_part, Machine, MachineResult, Memory_part, Part, Tile_part, done_by, empty_tile, machine_step, of_turn, parcel_taken, part_at, part_step, tile_at, tile_for_event, with_parcels, with_part, without_front}
use Rattle.m3_model.specs.Parcel.{Parcel}
use Rattle.m3_model.specs.SetupOpening.{opened_by_setup, opened_site}
use Rattle.m3_model.specs.Tile.Ask.{Ask, Idle_turn, Pending_turn, Program_turn, Quantum_turn, answers_ask, turn_ask}
use Rattle.m3_model.specs.Tile.State.{Awake, First, Got, Tile, Waits}
use Rattle.m3_model.specs.Tile.Step.{has_ended, resident_of, tile_turn}
use Rattle.m3_refine.proofs.events.HomeTile.{home_part}
use Rattle.m3_refine.proofs.events.turn.TurnAnswers.{turn_asked}
use Rattle.m3_refine.proofs.lists.EachElement.{InSome}
use Rattle.m3_refine.proofs.lists.Update.{get_or-set}
use Rattle.m3_refine.proofs.theorem.StepIsLocalMove.{event_below, tile_below}
use Rattle.m3_refine.proofs.bounds.SameParts.{parts_with_parcels, parts_without_front}
use Rattle.m3_trace.specs.Hearing.{call_asked, input_of_ask}
use Rattle.m3_trace.specs.JournalEntry.{entry}
use Rattle.m3_trace.specs.ProgramEnds.{EndsAs, EndsLast, ProgramsEnd, has_end}
use Rattle.m3_trace.proofs.hearing.OpeningHears.{new}
use Rattle.m3_trace.proofs.hearing.PartEnds.{EndsNone, TileEnds, TurnEnds, ends_by, is_end_made, kernel_ends, memory_ends, tile_ends, turn_ends}

-- ---- the machine

module _ (h : Site) (m : Machine) (sound : MachineStructure h m) (a : ℕ) (known : is_home h a ≡ true) where
  abbrev gone : Bool
  gone = has_ended (resident_at h m.tiles a)

  abbrev Ends : Event → MachineResult → Type 0
  Ends e d = has_ended (resident_at h d.machine.tiles a) ≡ (has_ended (resident_at h m.tiles a) || ends_by a e d.outcome)

  module _ (e : Event) (t : ℕ) (ht : t < 16) where
    none_ends : (x : LocalResult Part) → EndsNone a e x → Ends e (record { outcome = x.outcome; machine = with_parcels t x.out (with_part t x.part (without_front e m)) })
    none_ends x k =
        ap (λ ts. has_ended (resident_at h ts a)) ((parts_with_parcels t x.out (with_part t x.part (without_front e m))).tiles ∙ k.1 t (without_front e m) ∙ (parts_without_front e m).tiles)
        ∙ sym (or-false gone) ∙ ap (λ b. gone || b) (sym k.0)

    tile_then : (x : LocalResult Part) → TileEnds h (tile_at t m) a e x → ((t == tile_of h a) ≡ false → ends_by a e x.outcome ≡ false) → Ends e (record { outcome = x.outcome; machine = with_parcels t x.out (with_part t x.part (without_front e m)) })
    tile_then x k other =
        ap (λ ts. has_ended (resident_at h ts a)) ((parts_with_parcels t x.out (with_part t x.part (without_front e m))).tiles)
        ∙ ap (λ p. has_ended (resident_at h (with_part t p (without_front e m)).tiles a)) k.1
        ∙ ap (λ ts. has_ended (resident_of a (get_or (set ts t k.0) (tile_of h a) (empty_tile (tile_of h a))))) (parts_without_front e m).tiles
        ∙ ap (λ (z : Tile). has_ended (resident_of a z)) (get_or-set m.tiles t (tile_of h a) k.0 (empty_tile (tile_of h a)) (subst (λ n. t < n) (sym sound.tiles) ht))
        ∙ by_test (t == tile_of h a) refl
      where
        by_test : (b : Bool) → (t == tile_of h a) ≡ b → has_ended (resident_of a (cond b k.0 (tile_at (tile_of h a) m))) ≡ (gone || ends_by a e x.outcome)
        by_test true i = k.2 ∙ ap (λ v. has_ended (resident_of a (tile_at v m)) || ends_by a e x.outcome) (let z : t ≡ tile_of h a = grind (arith, nat_tests, i) in z)
        by_test false i = sym (or-false gone) ∙ ap (λ b. gone || b) (sym (other i))

    abbrev Done : Option (LocalResult Part) → Type 0
    Done o = (d : MachineResult) → done_by t (without_front e m) o ≡ Some d → Ends e d

    from_none : (o : Option (LocalResult Part)) → InSome (EndsNone a e) o → Done o
    from_none None k d is = absurd (cc)
    from_none (Some x) k d is = subst (Ends e) (same_Some (record { outcome = x.outcome; machine = with_parcels t x.out (with_part t x.part (without_front e m)) }) d is) (none_ends x k)

    from_tile : (o : Option (LocalResult Part)) → InSome (TileEnds h (tile_at t m) a e) o → ((x : LocalResult Part) → (t == tile_of h a) ≡ false → ends_by a e x.outcome ≡ false) → Done o
    from_tile None k other d is = absurd (cc)
    from_tile (Some x) k other d is = subst (Ends e) (same_Some (record { outcome = x.outcome; machine = with_parcels t x.out (with_part t x.part (without_front e m)) }) d is) (tile_then x k (other x))

    part_done : (made : Option Made) (q : Option Parcel) → ((x : LocalResult Part) → (t == tile_of h a) ≡ false → ends_by a e x.outcome ≡ false) → Done (part_step h (part_at t m) e made q)
    part_done made q other = by_tests (t == 0) (t == 1)
      where
        by_tests : (b c : Bool) → Done (part_step h (if b then Kernel_part m.kernel else (if c then Memory_part m.memory else Tile_part (tile_at t m))) e made q)
        by_tests true c = from_none (part_step h (Kernel_part m.kernel) e made q) (kernel_ends h m.kernel a e made q)
        by_tests false true = from_none (part_step h (Memory_part m.memory) e made q) (memory_ends h m.memory a e made q)
        by_tests false false = from_tile (part_step h (Tile_part (tile_at t m)) e made q) (tile_ends h (tile_at t m) a e made q) other

  -- a turn at another tile is of another activity
  ends_elsewhere : (e : Event) (x : LocalResult Part) → (tile_for_event h e == tile_of h a) ≡ false → ends_by a e x.outcome ≡ false
  ends_elsewhere (Event.Do b c) x d = refl
  ends_elsewhere (Event.Turn b) x d = by_act (b == a) refl
    where
      by_act : (c : Bool) → (b == a) ≡ c → (if c then is_end_made x.outcome.made else false) ≡ false
      by_act true i = absurd (let z : tile_of h b ≡ tile_of h a = ap (tile_of h) (let w : b ≡ a = grind (arith, nat_tests, i) in w) in let y : (tile_of h b == tile_of h a) ≡ true = grind (arith, nat_tests, z) in cc)
      by_act false i = refl
  ends_elsewhere (Event.Take to from) x d = refl
  ends_elsewhere (Event.Tend b) x d = refl
  ends_elsewhere Event.Close x d = refl
  ends_elsewhere (Event.Order o) x d = refl
  ends_elsewhere (Event.File l) x d = refl

  step_ends : (e : Event) → IsWithin e → (made : Option Made) (d : MachineResult) → machine_step h m e made ≡ Some d → Ends e d
  step_ends e within made d is =
      part_done e (tile_for_event h e) (event_below h (λ b. tile_below h sound.setup b _ refl) e within) made (parcel_taken e m) (ends_elsewhere e) d is

-- ---- the call of a step

-- an end is the call that a program makes where it ends
ask_ends : (ask : Ask) (made : Option Made) → answers_ask ask made ≡ true → ((n : ℕ) → ask ≢ Program_turn (Waits n)) → has_end (call_of_turn (input_of_ask ask) made) ≡ is_end_made made
ask_ends (Idle_turn why) None e k = refl
ask_ends (Idle_turn why) (Some m) e k = absurd (cc)
ask_ends Quantum_turn None e k = absurd (cc)
ask_ends Quantum_turn (Some Made.Quantum) e k = refl
ask_ends Quantum_turn (Some (Made.Command c)) e k = absurd (cc)
ask_ends Quantum_turn (Some (Made.Await ep)) e k = absurd (cc)
ask_ends Quantum_turn (Some Made.End) e k = absurd (cc)
ask_ends (Pending_turn ep) None e k = absurd (cc)
ask_ends (Pending_turn ep) (Some (Made.Await x)) e k = refl
ask_ends (Pending_turn ep) (Some (Made.Command c)) e k = absurd (cc)
ask_ends (Pending_turn ep) (Some Made.Quantum) e k = absurd (cc)
ask_ends (Pending_turn ep) (Some Made.End) e k = absurd (cc)
ask_ends (Program_turn seen) None e k = absurd (cc)
ask_ends (Program_turn (Waits n)) (Some m) e k = absurd (k n refl)
ask_ends (Program_turn First) (Some (Made.Command c)) e k = refl
ask_ends (Program_turn First) (Some (Made.Await ep)) e k = refl
ask_ends (Program_turn First) (Some Made.End) e k = refl
ask_ends (Program_turn First) (Some Made.Quantum) e k = absurd (cc)
ask_ends (Program_turn Awake) (Some (Made.Command c)) e k = refl
ask_ends (Program_turn Awake) (Some (Made.Await ep)) e k = refl
ask_ends (Program_turn Awake) (Some Made.End) e k = refl
ask_ends (Program_turn Awake) (Some Made.Quantum) e k = absurd (cc)
ask_ends (Program_turn (Got r)) (Some (Made.Command c)) e k = refl
ask_ends (Program_turn (Got r)) (Some (Made.Await ep)) e k = refl
ask_ends (Program_turn (Got r)) (Some Made.End) e k = refl
ask_ends (Program_turn (Got r)) (Some Made.Quantum) e k = absurd (cc)

one_last : (i : Input) (o : Option Move) → EndsLast (call_with i o)
one_last (Known seen) (Some move) = (λ e. refl, tt)
one_last (Known seen) None = tt
one_last (PendingAnswer n) o = tt
one_last (PendingAwait ep) o = tt
one_last Missing o = tt

turn_last : (i : Input) (made : Option Made) → EndsLast (call_of_turn i made)
turn_last i None = tt
turn_last i (Some m) = one_last i (own_move m)

-- ---- calls

end_of : (c : Call) → c.move ≡ Move.Ended → is_end c.move ≡ true
end_of c e = ap is_end e

ends_both : (cs ds : List Call) → has_end (cs ++ ds) ≡ (has_end cs || has_end ds)
ends_both [] ds = refl
ends_both (c ∷ cs) ds = by_end (is_end c.move) (ends_both cs ds)
  where
    by_end : (b : Bool) → has_end (cs ++ ds) ≡ (has_end cs || has_end ds) → (b || has_end (cs ++ ds)) ≡ ((b || has_end cs) || has_end ds)
    by_end true e = refl
    by_end false e = e

last_both : (cs ds : List Call) → EndsLast cs → EndsLast ds → (has_end cs ≡ true → ds ≡ []) → EndsLast (cs ++ ds)
last_both [] ds l k none = k
last_both (c ∷ cs) ds l k none = (
  λ e. let front : cs ≡ [] = l.0 e in let back : ds ≡ [] = none (ap (λ b. b || has_end cs) (end_of c e)) in ap (λ x. x ++ ds) front ∙ back,
  last_both cs ds l.1 k (λ e. none (by_end (is_end c.move) e)),
)
  where
    by_end : (b : Bool) → has_end cs ≡ true → (b || has_end cs) ≡ true
    by_end true e = refl
    by_end false e = e

-- ---- a step

module _ (h : Site) (m : Machine) (sound : MachineStructure h m) (a : ℕ) (known : is_home h a ≡ true) (waits : (n : ℕ) → turn_ask h (tile_at (tile_of h a) m) a ≢ Program_turn (Waits n)) where
  abbrev asks : Ask
  asks = turn_ask h (tile_at (tile_of h a) m) a

  -- of its own turn
  abbrev OwnCall : Option Made → Type 0
  OwnCall made = (has_end (call_of_turn (input_of_ask asks) made) ≡ is_end_made made) × (has_ended (resident_at h m.tiles a) ≡ true → call_of_turn (input_of_ask asks) made ≡ [])

  own_turn : (made : Option Made) (d : MachineResult) → machine_step h m (Event.Turn a) made ≡ Some d → OwnCall d.outcome.made
  own_turn made d is =
      by_turn (tile_turn h (tile_at (tile_of h a) m) a made) ((turn_asked h (tile_at (tile_of h a) m) a made (sound.housed.stays a known)).answers) (turn_ends h (tile_at (tile_of h a) m) a made)
      (sym (ap (λ (x : Part). done_by (tile_of h a) m (part_step h x (Event.Turn a) made None)) (home_part h m a sound known)) ∙ is)
    where
      by_turn : (o : Option (LocalResult Tile)) → InSome (λ d. answers_ask (turn_ask h (tile_at (tile_of h a) m) a) d.outcome.made ≡ true) o → InSome (TurnEnds h (tile_at (tile_of h a) m) a) o → done_by (tile_of h a) m (of_turn o) ≡ Some d → OwnCall d.outcome.made
      by_turn None k l e = absurd (cc)
      by_turn (Some x) k l e =
          let same : x.outcome ≡ d.outcome = ap (λ (r : MachineResult). r.outcome) (same_Some (record { outcome = x.outcome; machine = with_parcels (tile_of h a) x.out (with_part (tile_of h a) (Tile_part x.part) m) }) d e) in
          subst (λ (z : Outcome). OwnCall z.made) same (ask_ends asks x.outcome.made k waits, λ g. ap (call_of_turn (input_of_ask asks)) (l.gone g))

  abbrev StepCall : Event → Outcome → Type 0
  StepCall e o = (has_end (call_asked h m a e o) ≡ ends_by a e o) × (has_ended (resident_at h m.tiles a) ≡ true → call_asked h m a e o ≡ []) × EndsLast (call_asked h m a e o)

  step_call : (e : Event) (made : Option Made) (d : MachineResult) → machine_step h m e made ≡ Some d → StepCall e d.outcome
  step_call (Event.Do b c) made d is = (refl, (λ g. refl), tt)
  step_call (Event.Turn b) made d is = by_act (b == a) refl
    where
      by_act : (c : Bool) → (b == a) ≡ c → (has_end (if c then call_of_turn (input_of_ask asks) d.outcome.made else []) ≡ (if c then is_end_made d.outcome.made else false)) × (has_ended (resident_at h m.tiles a) ≡ true → (if c then call_of_turn (input_of_ask asks) d.outcome.made else []) ≡ []) × EndsLast (if c then call_of_turn (input_of_ask asks) d.outcome.made else [])
      by_act true e = let k = own_turn made d (subst (λ n. machine_step h m (Event.Turn n) made ≡ Some d) (let z : b ≡ a = grind (arith, nat_tests, e) in z) is) in (k.0, k.1, turn_last (input_of_ask asks) d.outcome.made)
      by_act false e = (refl, (λ g. refl), tt)
  step_call (Event.Take to from) made d is = (refl, (λ g. refl), tt)
  step_call (Event.Tend b) made d is = (refl, (λ g. refl), tt)
  step_call Event.Close made d is = (refl, (λ g. refl), tt)
  step_call (Event.Order o) made d is = (refl, (λ g. refl), tt)
  step_call (Event.File l) made d is = absurd (cc)

  -- one entry more
  pub ends_after : (s : State) (entries : List Entry) → EndsAs h s entries m a → (e : Event) → IsWithin e → (made : Option Made) (o : Outcome) (next : Machine) → machine_step h m e made ≡ Some (record { outcome = o; machine = next })
      → all_calls a s (entries ++ entry e o ∷ []) ≡ all_calls a s entries ++ call_asked h m a e o → EndsAs h s (entries ++ entry e o ∷ []) next a
  ends_after s entries old e within made o next step grows =
      let d : MachineResult = record { outcome = o; machine = next } in
      let call = step_call e made d step in
      let cs = all_calls a s entries in
      let ds = call_asked h m a e o in
      record {
        ended = step_ends h m sound a known e within made d step ∙ ap (λ b. b || ends_by a e o) old.ended ∙ ap (λ b. has_end cs || b) (sym call.0) ∙ sym (ends_both cs ds) ∙ ap has_end (sym grows);
        last = subst EndsLast (sym grows) (last_both cs ds old.last call.2 (λ k. call.1 (old.ended ∙ k)));
      }

-- none has ended at the opening
pub opening_ends : (s : SetupValue) → IsValid s → ProgramsEnd (opened_site s) (opening s.memory s.lines) [] (opened_by_setup s)
opening_ends s valid a known = record { ended = ap has_ended (new s valid a known); last = tt }
