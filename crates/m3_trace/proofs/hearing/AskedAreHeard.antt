-- What the journal says of programs, of a machine that it led to: what each is to see, which commands fly, and which calls
-- are made.
use Rattle.std.proofs.Common.{◌≡◌, ◌≢◌, ℕ, Bool, true, false, cond, List, [], ◌∷◌, ◌++◌, length, Option, Some, None, refl, sym, subst, ◌∙◌, ap, arith}
use Rattle.std.specs.Prelude.{◌==◌, ◌&&◌, not, is_some, if◌then◌else◌}
use Rattle.std.proofs.lemmas.Bool.Decides.{nat_tests}
use Rattle.std.proofs.lemmas.Option.{same_Some}
use Rattle.m3_base.specs.declared.event.Entry.{Entry}
use Rattle.m3_base.specs.declared.event.Event.{Event}
use Rattle.m3_base.specs.declared.event.IdleWhy.{IdleWhy}
use Rattle.m3_base.specs.declared.event.Made.{Made}
use Rattle.m3_base.specs.declared.event.Outcome.{Outcome}
use Rattle.m3_base.specs.declared.program.Seen as program
use Rattle.m3_base.specs.Calls.JournalCalls.{Known, all_calls, call_in, call_of_turn, input_after_event, last_input}
use Rattle.m3_base.specs.Ideal.Context.{Context, Flying}
use Rattle.m3_base.specs.Ideal.State.{State, context_of}
use Rattle.m3_base.specs.Journal.Entry.{IsRun, state_after_entries}
use Rattle.m3_model.specs.Abstraction.{ideal_of}
use Rattle.m3_model.specs.Config.KnownActivities.{is_home}
use Rattle.m3_model.specs.Config.Site.{Site, tile_of}
use Rattle.m3_model.specs.Events.{IsWithin}
use Rattle.m3_model.specs.Invariant.Housing.{resident_at}
use Rattle.m3_model.specs.Invariant.Structure.{MachineStructure}
use Rattle.m3_model.specs.LocalStep.{LocalResult}
use Rattle.m3_model.specs.Machine.{Machine, MachineResult, Part, Tile_part, done_by, machine_step, of_turn, part_step, tile_at, with_parcels, with_part}
use Rattle.m3_model.specs.NumberBounds.{RestoresBounded}
use Rattle.m3_model.specs.Tile.Ask.{Ask, Idle_turn, Program_turn, Quantum_turn, ask_at, ask_by, ask_pending, turn_ask}
use Rattle.m3_model.specs.Tile.State.{Resident, Seen, Tile, Waits}
use Rattle.m3_model.specs.Tile.Step.{is_due, is_waiting, resident_of, tile_turn}
use Rattle.m3_refine.proofs.arrival.CurrentContext.{current_found}
use Rattle.m3_refine.proofs.events.HomeTile.{home_in_tiles, home_part, home_range}
use Rattle.m3_refine.proofs.lists.EachElement.{InSome}
use Rattle.m3_trace.specs.Hearing.{HearsAs, IsFlying, WaitsFly, call_asked, command_of, heard_away, input_by, input_of_ask, input_of_seen, program_input, resident_input}
use Rattle.m3_trace.specs.JournalEntry.{entry}
use Rattle.m3_trace.proofs.hearing.EventTellsAnswers.{step_goes}
use Rattle.m3_trace.proofs.hearing.JournalGrows.{calls_more, input_more}
use Rattle.m3_trace.proofs.hearing.LinksBringAnswers.{none_away}
use Rattle.m3_trace.proofs.hearing.PendingFlies.{pending_flies}
use Rattle.m3_trace.proofs.hearing.StepTellsAnswers.{own_turn}
use Rattle.m3_trace.proofs.hearing.TurnTellsReplies.{TurnTells}

-- ---- a turn that asks its program

-- who is asked is current, has no command that flies, no Await that pends, and hasn't ended
pub record AsksNow (t : Tile) (a : ℕ) (seen : Seen) : Type 0 where
  pub context : Context
  pub resident : Resident
  pub current : t.current ≡ Some context
  pub act : a ≡ context.act
  pub there : resident_of a t ≡ Some resident
  pub idle : context.flying ≡ []
  pub pending : resident.pending ≡ None
  pub sees : resident.seen ≡ seen
  pub ended : resident.ended ≡ false

module _ (h : Site) (t : Tile) (a : ℕ) (seen : Seen) where
  abbrev Asks : Ask → Type 0
  Asks q = q ≡ Program_turn seen → AsksNow t a seen

  no_idle : (why : IdleWhy) → Asks (Idle_turn why)
  no_idle why e = absurd (cc)

  no_quantum : Asks Quantum_turn
  no_quantum e = absurd (cc)

  if_asks : (b : Bool) (p q : Ask) → (b ≡ true → Asks p) → (b ≡ false → Asks q) → Asks (cond b p q)
  if_asks true p q f g = f refl
  if_asks false p q f g = g refl

  none_flies : (fs : List Flying) → not (length fs == 0) ≡ false → fs ≡ []
  none_flies [] e = refl
  none_flies (f ∷ fs) e = absurd (let z : (length (f ∷ fs) == 0) ≡ false = grind (arith, nat_tests) in grind (arith, e, z))

  module _ (x : Context) (here : t.current ≡ Some x) (is : a ≡ x.act) (y : Resident) (there : resident_of a t ≡ Some y) where
    abbrev seen_or : Ask → Seen
    seen_or (Program_turn s) = s
    seen_or q = y.seen

    pending_asks : y.ended ≡ false → x.flying ≡ [] → (p : Option ℕ) → y.pending ≡ p → Asks (ask_pending y p)
    pending_asks ended idle None e k = record { context = x; resident = y; current = here; act = is; there = there; idle = idle; pending = e; sees = seen_is y.seen k; ended = ended }
      where
        seen_is : (s : Seen) → Program_turn s ≡ Program_turn seen → s ≡ seen
        seen_is s k = ap seen_or k
    pending_asks ended idle (Some ep) e k = absurd (cc)

    by_asks : Asks (ask_by h t x (Some y))
    by_asks =
        let due = cond (is_due h t y) Quantum_turn (ask_pending y y.pending) in
        let waits = cond (y.yield_sent && is_waiting x y) (Idle_turn IdleWhy.Waiting) due in
        if_asks y.ended (Idle_turn IdleWhy.Ended) (cond (not (length x.flying == 0)) (Idle_turn IdleWhy.Busy) waits) (λ e. no_idle IdleWhy.Ended)
        (λ ended. if_asks (not (length x.flying == 0)) (Idle_turn IdleWhy.Busy) waits (λ e. no_idle IdleWhy.Busy)
        (λ idle. if_asks (y.yield_sent && is_waiting x y) (Idle_turn IdleWhy.Waiting) due (λ e. no_idle IdleWhy.Waiting)
        (λ w. if_asks (is_due h t y) Quantum_turn (ask_pending y y.pending) (λ e. no_quantum) (λ e. pending_asks ended (none_flies x.flying idle) y.pending refl))))

  some_asks : (x : Context) → t.current ≡ Some x → a ≡ x.act → (o : Option Resident) → resident_of a t ≡ o → Asks (ask_by h t x o)
  some_asks x here is None e = no_idle IdleWhy.NotCurrent
  some_asks x here is (Some y) e = by_asks x here is y e

  at_asks : (o : Option Context) → t.current ≡ o → Asks (ask_at h t a o)
  at_asks None e = no_idle IdleWhy.NotCurrent
  at_asks (Some x) e =
      if_asks (x.act == a) (ask_by h t x (resident_of a t)) (Idle_turn IdleWhy.NotCurrent) (λ k. some_asks x e (let z : a ≡ x.act = grind (arith, nat_tests, k) in z) (resident_of a t) refl) (λ k. no_idle IdleWhy.NotCurrent)

  pub asks_now : turn_ask h t a ≡ Program_turn seen → AsksNow t a seen
  asks_now = at_asks t.current refl

-- ---- a machine and the journal that led to it

-- an entry more says what each program is to see then
pub hears_after : (h : Site) (m : Machine) → MachineStructure h m → RestoresBounded m → (s : State) (entries : List Entry) → state_after_entries s entries ≡ ideal_of m → HearsAs h s entries m
    → (e : Event) → IsWithin e → (made : Option Made) (o : Outcome) (next : Machine) → machine_step h m e made ≡ Some (record { outcome = o; machine = next }) → HearsAs h s (entries ++ entry e o ∷ []) next
hears_after h m sound returns s entries reaches hears e within made o next step a known =
    input_more a s (Known program.Seen.First) entries (entry e o)
    ∙ ap (λ z. input_after_event a z (last_input a s entries) e o) reaches
    ∙ ap (λ i. input_after_event a (ideal_of m) i e o) (hears a known)
    ∙ step_goes h m sound a known returns e within made (record { outcome = o; machine = next }) step

-- the commands fly whose answers programs wait for
pub waits_fly : (h : Site) (m : Machine) (s : State) (entries : List Entry) → IsRun s entries → state_after_entries s entries ≡ ideal_of m → HearsAs h s entries m → WaitsFly h m
waits_fly h m s entries run reaches hears a n known e =
    subst (IsFlying a n) reaches (pending_flies a n s (Known program.Seen.First) entries run (λ k. absurd (cc)) (hears a known ∙ e))

module _ (h : Site) (m : Machine) (sound : MachineStructure h m) (a : ℕ) (known : is_home h a ≡ true) where
  module _ (seen : Seen) (asks : turn_ask h (tile_at (tile_of h a) m) a ≡ Program_turn seen) where
    now : AsksNow (tile_at (tile_of h a) m) a seen
    now = asks_now h (tile_at (tile_of h a) m) a seen asks

    -- what the program is asked with is what it is to see
    pub asked_input : program_input h m a ≡ input_of_seen seen
    asked_input =
        let n = now in
        ap (resident_input (resident_at h m.tiles a)) (none_away h m sound a known (tile_of h a) (home_range h m a sound known).1 n.context n.current n.act)
        ∙ ap (λ o. resident_input o []) n.there ∙ ap (λ p. input_by p n.resident.seen) n.pending ∙ ap input_of_seen n.sees

    -- and none of its commands flies
    pub asked_idle : (n : ℕ) → IsFlying a n (ideal_of m) → ⊥
    asked_idle n flies =
        let q = now in
        let found = ap (λ z. context_of z (ideal_of m).contexts) q.act ∙ current_found m (tile_of h a) (home_in_tiles h m a sound known) q.context q.current sound in
        let none : is_some (command_of n (context_of a (ideal_of m).contexts)) ≡ false =
        ap (λ o. is_some (command_of n o)) found ∙ ap (λ fs. is_some (command_of n (Some (record q.context { flying = fs })))) q.idle in
        absurd (cc)

  -- no program is asked before it has the answer that it waits for
  pub no_waiting_asked : WaitsFly h m → (n : ℕ) → turn_ask h (tile_at (tile_of h a) m) a ≢ Program_turn (Waits n)
  no_waiting_asked waits n asks = asked_idle (Waits n) asks n (waits a n known (asked_input (Waits n) asks))

  -- ---- calls

  own_call : (made : Option Made) (d : MachineResult) → machine_step h m (Event.Turn a) made ≡ Some d → call_of_turn (program_input h m a) d.outcome.made ≡ call_of_turn (input_of_ask (turn_ask h (tile_at (tile_of h a) m) a)) d.outcome.made
  own_call made d is =
      by_turn (tile_turn h (tile_at (tile_of h a) m) a made) (own_turn h m sound a known made)
      (sym (ap (λ (x : Part). done_by (tile_of h a) m (part_step h x (Event.Turn a) made None)) (home_part h m a sound known)) ∙ is)
    where
      by_turn : (o : Option (LocalResult Tile)) → InSome (TurnTells (ideal_of m) (tile_at (tile_of h a) m) a (heard_away h m a) (turn_ask h (tile_at (tile_of h a) m) a)) o → done_by (tile_of h a) m (of_turn o) ≡ Some d
          → call_of_turn (program_input h m a) d.outcome.made ≡ call_of_turn (input_of_ask (turn_ask h (tile_at (tile_of h a) m) a)) d.outcome.made
      by_turn None k e = absurd (cc)
      by_turn (Some x) k e =
          let same : x.outcome ≡ d.outcome = ap (λ (r : MachineResult). r.outcome) (same_Some (record { outcome = x.outcome; machine = with_parcels (tile_of h a) x.out (with_part (tile_of h a) (Tile_part x.part) m) }) d e) in
          subst (λ (z : Outcome). call_of_turn (program_input h m a) z.made ≡ call_of_turn (input_of_ask (turn_ask h (tile_at (tile_of h a) m) a)) z.made) same k.call

  -- the call in an entry is the one that its turn asks for
  call_is_asked : (e : Event) (made : Option Made) (d : MachineResult) → machine_step h m e made ≡ Some d → call_in a (program_input h m a) e d.outcome ≡ call_asked h m a e d.outcome
  call_is_asked (Event.Do b c) made d is = refl
  call_is_asked (Event.Turn b) made d is = by_act (b == a) refl
    where
      by_act : (c : Bool) → (b == a) ≡ c → (if c then call_of_turn (program_input h m a) d.outcome.made else []) ≡ (if c then call_of_turn (input_of_ask (turn_ask h (tile_at (tile_of h a) m) a)) d.outcome.made else [])
      by_act true e = own_call made d (subst (λ n. machine_step h m (Event.Turn n) made ≡ Some d) (let z : b ≡ a = grind (arith, nat_tests, e) in z) is)
      by_act false e = refl
  call_is_asked (Event.Take to from) made d is = refl
  call_is_asked (Event.Tend b) made d is = refl
  call_is_asked Event.Close made d is = refl
  call_is_asked (Event.Order o) made d is = refl
  call_is_asked (Event.File l) made d is = refl

  pub calls_after : (s : State) (entries : List Entry) → HearsAs h s entries m → (e : Event) (made : Option Made) (o : Outcome) (next : Machine) → machine_step h m e made ≡ Some (record { outcome = o; machine = next })
      → all_calls a s (entries ++ entry e o ∷ []) ≡ all_calls a s entries ++ call_asked h m a e o
  calls_after s entries hears e made o next step =
      calls_more a s (Known program.Seen.First) entries (entry e o)
      ∙ ap (λ i. all_calls a s entries ++ call_in a i e o) (hears a known)
      ∙ ap (λ l. all_calls a s entries ++ l) (call_is_asked e made (record { outcome = o; machine = next }) step)
