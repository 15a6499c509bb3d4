-- A journal that says what the ideal steps say is one run, and the laws hold of it after every entry.
use Rattle.std.specs.Prelude.{◌≡◌, ℕ, true, List, [], ◌∷◌, ◌++◌, map, Option, Some}
use Rattle.std.specs.List.{All}
use Rattle.m3_base.specs.declared.command.Command.{Command}
use Rattle.m3_base.specs.declared.event.Event.{Event}
use Rattle.m3_base.specs.declared.event.Entry.{Entry}
use Rattle.m3_base.specs.declared.order.Order.{Order}
use Rattle.m3_base.specs.declared.step.Step.{Step}
use Rattle.m3_base.specs.Ideal.Context.{Context, endpoint}
use Rattle.m3_base.specs.Ideal.State.{Grant, State, context_of, grant_in, is_done}
use Rattle.m3_base.specs.Ideal.Opening.{opening}
use Rattle.m3_base.specs.Setup.Rules.{SetupValue, IsValid}
use Rattle.m3_base.specs.Journal.Entry.{IsRun, state_after_entries, steps_of, shown_told}
use Rattle.m3_base.specs.Ideal.MessageTraces.{final}
use Rattle.m3_base.specs.Journal.Replies.{steps_in}
use Rattle.m3_laws.specs.Laws.{Fits, AllFit, CreditsAt, RecordsAt, ChildrenAt, GoneAt, AccessAt, LandCausesAt, IsPath, IsGone, told_of_send, send_cause}
use Rattle.m3_laws.specs.MessageOrder.{AllHaveNext, LandsInOrder, FetchesInOrder}

-- the steps of all entries, one after the other, each have a case, and they reach the state that the entries reach
pub record StepsAreRun (s : State) (es : List Entry) : Type 0 where
  pub exist : AllHaveNext s (steps_in es)
  pub reach : final s (steps_in es) ≡ state_after_entries s es

abbrev pub JournalRuns : Type 0
JournalRuns = (s : State) (es : List Entry) → IsRun s es → StepsAreRun s es

-- ---- which events have steps that fit

-- the line of an ordered grant has its numbers in their ranges, and nothing is asked of other events
abbrev pub FitsEvent : Event → Type 0
FitsEvent (Event.Order (Order.Grant line)) = Fits (Step.Make line)
FitsEvent e = Unit {0}

abbrev pub event_in : Entry → Event
event_in e = e.event

abbrev pub JournalsFit : Type 0
JournalsFit = (es : List Entry) → All FitsEvent (map event_in es) → AllFit (steps_in es)

-- ---- the laws after the last of some entries

-- a send that this entry issues from the state s is refused exactly with its first cause, and flies where it has none, and the entry tells it so
abbrev pub TellsSends : State → Entry → Type 0
TellsSends s e =
    (a ep : ℕ) (payload : List ℕ) (to : Option ℕ) (c : Context)
    → steps_of e.event e.outcome ≡ Step.Issue a (Command.Send ep payload to) ∷ []
    → context_of a s.contexts ≡ Some c
    → e.outcome.said ≡ shown_told (told_of_send c (send_cause c payload to (endpoint c ep)))

-- the grant g becomes done with this entry: `done g`, and where g was the root of a revoke `done g revoked g`
abbrev pub EndsGrant : ℕ → Entry → Type 0
EndsGrant g e = steps_of e.event e.outcome ≡ Step.Done g ∷ []

-- the grant r is done, and nothing is left of it and of the grants under it
pub record SubtreeGone (s : State) (r : ℕ) : Type 0 where
  pub root : Grant
  pub found : grant_in s.grants r ≡ Some root
  pub done : is_done root.standing ≡ true
  pub gone : (g : ℕ) (x : Grant) (path : List ℕ) → IsPath s.grants r g path → grant_in s.grants g ≡ Some x → IsGone s g x

-- what holds of the entries es from the state s on, and of the state that they reach
pub record KeepsLaws (s : State) (es : List Entry) : Type 0 where
  -- the messages of a grant landed in the order of their issue, and were fetched once, in that order
  pub landing : (g : ℕ) → LandsInOrder g s (steps_in es)
  pub fetching : (g : ℕ) → FetchesInOrder g s (steps_in es)
  -- credits make up the limit of each live or closing grant
  pub credits : CreditsAt (state_after_entries s es)
  -- the bytes of flying reads and writes are granted
  pub access : AccessAt (state_after_entries s es)
  -- refusals have their causes, where a send is issued and where its message lands
  pub sends : (before rest : List Entry) (e : Entry) → es ≡ before ++ e ∷ rest → TellsSends (state_after_entries s before) e
  pub causes : LandCausesAt (state_after_entries s es)
  -- from the entry on with which a grant becomes done, nothing of its subtree is left
  pub revoked : (before rest : List Entry) (e : Entry) (g : ℕ)
      → es ≡ before ++ e ∷ rest → EndsGrant g e → SubtreeGone (state_after_entries s es) g
  pub gone : GoneAt (state_after_entries s es)
  pub records : RecordsAt (state_after_entries s es)
  pub children : ChildrenAt (state_after_entries s es)

-- after every entry, and before the first
abbrev pub AfterEach : (List Entry → Type 0) → List Entry → Type 0
AfterEach P es = (before rest : List Entry) → es ≡ before ++ rest → P before

abbrev pub JournalLaws : Type 0
JournalLaws =
    (setup : SetupValue) (es : List Entry)
    → IsValid setup
    → AllFit (steps_in es)
    → IsRun (opening setup.memory setup.lines) es
    → AfterEach (KeepsLaws (opening setup.memory setup.lines)) es
