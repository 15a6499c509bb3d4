-- The messages of a send grant in a run: those issued, landed, refused and fetched.
use Rattle.std.specs.Prelude.{◌≡◌, ℕ, Bool, not, List, [], ◌∷◌, ◌++◌, filter, Option, Some, None, if◌then◌else◌}
use Rattle.std.specs.List.{list_any}
use Rattle.m3_base.specs.declared.ids.FlightId.{FlightId}
use Rattle.m3_base.specs.declared.message.Message.{Message}
use Rattle.m3_base.specs.declared.packet.Packet.{Packet}
use Rattle.m3_base.specs.declared.command.Refusal.{Refusal}
use Rattle.m3_base.specs.declared.command.Command.{Command}
use Rattle.m3_base.specs.declared.command.Reply.{Reply}
use Rattle.m3_base.specs.declared.step.Step.{Step}
use Rattle.m3_base.specs.Ideal.Flights.{same_name, flight}
use Rattle.m3_base.specs.Ideal.Context.{Context, endpoint}
use Rattle.m3_base.specs.Ideal.Issue.{IssueOutcome, Issued, issue}
use Rattle.m3_base.specs.Ideal.Landing.{message_id, land_refusal}
use Rattle.m3_base.specs.Ideal.State.{State, context_of}
use Rattle.m3_base.specs.Ideal.Step.{IdealResult, ideal_step}
use Rattle.m3_base.specs.Ideal.Credits.{is_sent_by}
use Rattle.m3_base.specs.Lists.Prefixes.{IsPrefix}

-- the message alone, if it is one of g
abbrev pub only_of : ℕ → Message → List Message
only_of g m = if is_sent_by g m then m ∷ [] else []

abbrev pub sent_in : ℕ → Packet → List Message
sent_in g (Packet.Message to ep h m) = only_of g m
sent_in g p = []

abbrev pub new_message : ℕ → Option Packet → List Message
new_message g None = []
new_message g (Some p) = sent_in g p

-- ---- what one step adds

abbrev pub issued_by : ℕ → Option Issued → List Message
issued_by g None = []
issued_by g (Some i) = new_message g i.packet

abbrev pub issued_from : ℕ → Option Context → Command → List Message
issued_from g None c = []
issued_from g (Some x) c = issued_by g (issue x c)

abbrev pub issued_at : ℕ → State → Step → List Message
issued_at g s (Step.Issue a c) = issued_from g (context_of a s.contexts) c
issued_at g s t = []

abbrev pub if_landed : Option Refusal → List Message → List Message
if_landed None ms = ms
if_landed (Some why) ms = []

abbrev pub names_of : List Message → List FlightId
names_of [] = []
names_of (m ∷ ms) = message_id m ∷ names_of ms

abbrev pub if_refused : Option Refusal → List Message → List FlightId
if_refused None ms = []
if_refused (Some why) ms = names_of ms

abbrev pub verdict : ℕ → ℕ → Message → Option Context → Option Refusal
verdict ep h m None = Some Refusal.Revoked
verdict ep h m (Some x) = land_refusal h m (endpoint x ep)

abbrev pub landed_in : ℕ → State → Option Packet → List Message
landed_in g s (Some (Packet.Message to ep h m)) = if_landed (verdict ep h m (context_of to s.contexts)) (only_of g m)
landed_in g s p = []

abbrev pub refused_in : ℕ → State → Option Packet → List FlightId
refused_in g s (Some (Packet.Message to ep h m)) = if_refused (verdict ep h m (context_of to s.contexts)) (only_of g m)
refused_in g s p = []

abbrev pub landed_at : ℕ → State → Step → List Message
landed_at g s (Step.Land id) = landed_in g s (flight id s.flights)
landed_at g s t = []

abbrev pub refused_at : ℕ → State → Step → List FlightId
refused_at g s (Step.Land id) = refused_in g s (flight id s.flights)
refused_at g s t = []

abbrev pub shown_by : ℕ → IssueOutcome → List Message
shown_by g (IssueOutcome.Gives (Reply.Fetched t m)) = only_of g m
shown_by g told = []

abbrev pub fetched_by : ℕ → Option Issued → List Message
fetched_by g None = []
fetched_by g (Some i) = shown_by g i.told

abbrev pub fetched_from : ℕ → Option Context → Command → List Message
fetched_from g None c = []
fetched_from g (Some x) c = fetched_by g (issue x c)

abbrev pub fetched_at : ℕ → State → Step → List Message
fetched_at g s (Step.Issue a c) = fetched_from g (context_of a s.contexts) c
fetched_at g s t = []

-- ---- whole runs

abbrev pub state_after_steps : State → Option IdealResult → State
state_after_steps s None = s
state_after_steps s (Some n) = n.state

abbrev pub collect : {X : Type 0} → (State → Step → List X) → State → List Step → List X
collect what s [] = []
collect what s (t ∷ ts) = what s t ++ collect what (state_after_steps s (ideal_step s t)) ts

abbrev pub final : State → List Step → State
final s [] = s
final s (t ∷ ts) = final (state_after_steps s (ideal_step s t)) ts

-- the messages of g that fly
abbrev pub flying_of : ℕ → List Packet → List Message
flying_of g [] = []
flying_of g (p ∷ fs) = sent_in g p ++ flying_of g fs

abbrev pub is_named : List FlightId → Message → Bool
is_named ids m = list_any (same_name (message_id m)) ids

-- without those that were refused
abbrev pub messages_named : List FlightId → List Message → List Message
messages_named ids ms = filter (λ m. not (is_named ids m)) ms

-- those that were issued and not refused
abbrev pub unrefused : ℕ → State → List Step → List Message
unrefused g s ts = messages_named (collect (refused_at g) s ts) (collect (issued_at g) s ts)

pub record Laws (g : ℕ) (s : State) (ts : List Step) : Type 0 where
  pub landing : collect (landed_at g) s ts ≡ messages_named (names_of (flying_of g (final s ts).flights)) (unrefused g s ts)
  pub fetching : IsPrefix (collect (fetched_at g) s ts) (collect (landed_at g) s ts)
