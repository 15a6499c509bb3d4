-- What a machine's trace says of a program, and what a call more makes of its calls.
use Rattle.std.proofs.Common.{◌≡◌, ◌≢◌, ℕ, Bool, true, false, List, [], ◌∷◌, ◌++◌, Option, Some, None, refl, sym, subst, ◌∙◌, ap}
use Rattle.std.specs.Prelude.{◌==◌, if◌then◌else◌}
use Rattle.m3_base.specs.Journal.Legal.{opening_of}
use Rattle.m3_base.specs.declared.event.Entry.{Entry}
use Rattle.m3_base.specs.declared.event.Event.{Event}
use Rattle.m3_base.specs.declared.event.Made.{Made}
use Rattle.m3_base.specs.declared.event.Outcome.{Outcome}
use Rattle.m3_base.specs.declared.program.Move.{Move}
use Rattle.m3_base.specs.declared.program.Seen as program
use Rattle.m3_base.specs.Calls.JournalCalls.{Call, Input, Known, PendingAwait, Missing, all_calls, call_of_turn, call_with, own_move}
use Rattle.m3_base.specs.Calls.Relation.{Leads}
use Rattle.m3_base.specs.Ideal.Opening.{opening}
use Rattle.m3_base.specs.Ideal.State.{State}
use Rattle.m3_base.specs.Setup.Rules.{SetupValue}
use Rattle.m3_model.specs.Config.KnownActivities.{is_home}
use Rattle.m3_model.specs.Config.Site.{Site, tile_of}
use Rattle.m3_model.specs.Machine.{Machine, machine_step, tile_at}
use Rattle.m3_model.specs.SetupOpening.{opened_site}
use Rattle.m3_model.specs.Tile.Ask.{Ask, Idle_turn, Pending_turn, Program_turn, Quantum_turn, turn_ask}
use Rattle.m3_model.specs.Tile.State.{Awake, First, Got, Seen, Waits}
use Rattle.m3_refine.proofs.events.take.RouteStep.{itself}
use Rattle.m3_trace.specs.Hearing.{call_asked, input_of_ask, input_of_seen}
use Rattle.m3_trace.specs.JournalEntry.{entry}
use Rattle.m3_trace.specs.ProgramEnds.{EndsLast}
use Rattle.m3_trace.specs.ProgramsHear.{ProgramHears}
use Rattle.m3_trace.specs.Trace.{IsTrace}
use Rattle.m3_trace.proofs.TraceGrows.{asked_are_heard, asked_with, calls_grow}
use Rattle.m3_trace.proofs.hearing.JournalGrows.{leads_both}

-- ---- the call of a turn

call_when : (b : Bool) (cs ds : List Call) → b ≡ true → cs ≡ ds → (if b then cs else []) ≡ ds
call_when true cs ds e k = k
call_when false cs ds e k = absurd (cc)

module _ (h : Site) (m : Machine) (a : ℕ) (o : Outcome) where
  -- a turn that asks its program has the call with what the program sees, and its move
  pub call_made : (seen : Seen) (see : program.Seen) (made : Made) (move : Move) → turn_ask h (tile_at (tile_of h a) m) a ≡ Program_turn seen → input_of_seen seen ≡ Known see → o.made ≡ Some made → own_move made ≡ Some move
      → call_asked h m a (Event.Turn a) o ≡ record { seen = see; move = move } ∷ []
  call_made seen see made move asks known is own =
      call_when (a == a) (call_of_turn (input_of_ask (turn_ask h (tile_at (tile_of h a) m) a)) o.made) _ (itself a)
      (ap (λ q. call_of_turn (input_of_ask q) o.made) asks ∙ ap (call_of_turn (input_of_seen seen)) is ∙ ap (λ i. call_with i (own_move made)) known ∙ ap (call_with (Known see)) own)

  no_move : (i : Input) (made : Option Made) → ((o : Option Move) → call_with i o ≡ []) → call_of_turn i made ≡ []
  no_move i None k = refl
  no_move i (Some made) k = k (own_move made)

  unasked : (q : Ask) (made : Option Made) → ((seen : Seen) → q ≢ Program_turn seen) → call_of_turn (input_of_ask q) made ≡ []
  unasked (Idle_turn why) made k = no_move Missing made (λ o. refl)
  unasked Quantum_turn made k = no_move Missing made (λ o. refl)
  unasked (Pending_turn ep) made k = no_move (PendingAwait ep) made (λ o. refl)
  unasked (Program_turn seen) made k = absurd (k seen refl)

  -- any other turn of it has none
  pub no_call : ((seen : Seen) → turn_ask h (tile_at (tile_of h a) m) a ≢ Program_turn seen) → call_asked h m a (Event.Turn a) o ≡ []
  no_call k = call_when (a == a) (call_of_turn (input_of_ask (turn_ask h (tile_at (tile_of h a) m) a)) o.made) [] (itself a) (unasked (turn_ask h (tile_at (tile_of h a) m) a) o.made k)

  -- nor has a turn of another
  pub other_call : (b : ℕ) → (b == a) ≡ false → call_asked h m a (Event.Turn b) o ≡ []
  other_call b e = ap (λ c. if c then call_of_turn (input_of_ask (turn_ask h (tile_at (tile_of h a) m) a)) o.made else []) e

-- ---- a machine with its trace

-- no call comes after an end, of whatever activity
pub ends_last : (s : SetupValue) (entries : List Entry) (m : Machine) → IsTrace s entries m → (a : ℕ) → EndsLast (all_calls a (opening s.memory s.lines) entries)
ends_last s entries m trace a = by_home (is_home (opened_site s) a) refl
  where
    by_home : (b : Bool) → is_home (opened_site s) a ≡ b → EndsLast (all_calls a (opening s.memory s.lines) entries)
    by_home true e = (trace.ends a e).last
    by_home false e = subst EndsLast (sym (trace.strangers a e)) tt

module _ (s : SetupValue) (entries : List Entry) (m : Machine) (trace : IsTrace s entries m) (a : ℕ) (known : is_home (opened_site s) a ≡ true) where
  -- what is asked is known
  known_seen : (seen : Seen) → turn_ask (opened_site s) (tile_at (tile_of (opened_site s) a) m) a ≡ Program_turn seen → (see : program.Seen) × (input_of_seen seen ≡ Known see)
  known_seen First asks = (program.Seen.First, refl)
  known_seen Awake asks = (program.Seen.Awake, refl)
  known_seen (Got r) asks = (program.Seen.Answer r, refl)
  known_seen (Waits n) asks = absurd (asked_are_heard s entries m trace a n known asks)

  pub hears : ProgramHears (opened_site s) (opening s.memory s.lines) entries m a
  hears = record {
    input = trace.hears a known;
    waits = λ n e. trace.waits a n known (sym (trace.hears a known) ∙ e);
    asked = λ seen asks. let k = known_seen seen asks in (k.0, k.1, asked_with s entries m trace a seen known asks ∙ k.1);
    calls = λ e made o next step. calls_grow s entries m trace a known e made o next step;
    last = (trace.ends a known).last;
  }

  -- the calls lead on by those of a step
  pub leads_grow : {M : Type 0} (moves : M → program.Seen → Move → M → Type 0) (p q r : M) (e : Event) (made : Option Made) (o : Outcome) (next : Machine) → machine_step (opened_site s) m e made ≡ Some (record { outcome = o; machine = next })
      → Leads moves p (all_calls a (opening_of s) entries) q → Leads moves q (call_asked (opened_site s) m a e o) r → Leads moves p (all_calls a (opening_of s) (entries ++ entry e o ∷ [])) r
  leads_grow moves p q r e made o next step led more =
      subst (λ cs. Leads moves p cs r) (sym (calls_grow s entries m trace a known e made o next step)) (leads_both moves p q r (all_calls a (opening_of s) entries) (call_asked (opened_site s) m a e o) led more)
