-- What an entry of a journal says of the ideal machine.
use Rattle.std.specs.Prelude.{◌≡◌, ℕ, Bool, true, false, ◌==◌, List, [], ◌∷◌, Option, Some, None, IsSomeAnd, ◌⊎◌, ⊤}
use Rattle.m3_base.specs.declared.message.Message.{Message}
use Rattle.m3_base.specs.declared.command.Reply.{Reply}
use Rattle.m3_base.specs.declared.command.Command.{Command}
use Rattle.m3_base.specs.declared.step.Step.{Step}
use Rattle.m3_base.specs.declared.event.Event.{Event}
use Rattle.m3_base.specs.declared.order.Order.{Order}
use Rattle.m3_base.specs.declared.event.Made.{Made}
use Rattle.m3_base.specs.declared.event.Said.{Said}
use Rattle.m3_base.specs.declared.event.Outcome.{Outcome}
use Rattle.m3_base.specs.declared.event.Entry.{Entry}
use Rattle.m3_base.specs.Ideal.Issue.{IssueOutcome, Gives, Flies}
use Rattle.m3_base.specs.Ideal.State.{State}
use Rattle.m3_base.specs.Ideal.Step.{Label, At_issue, Present, Landing, Refusing, Credits, Discards, Installs, Starts_closing, Closes_endpoint, Answers, Not_made, Makes, Revokes, Sends_close, Frees, Finishes, RunResult, ideal_run}

abbrev pub then_closed : Option ℕ → List Step
then_closed None = []
then_closed (Some g) = Step.Closed g ∷ []

-- ---- the steps of an entry

-- of a command of this activity, by its outcome
abbrev pub command_steps : ℕ → Command → Said → List Step
command_steps a c (Said.Idle why) = []
command_steps a c said = Step.Issue a c ∷ []

abbrev pub await_steps : ℕ → ℕ → Said → List Step
await_steps a ep (Said.Idle why) = []
await_steps a ep said = Step.Await a ep ∷ []

abbrev pub turn_steps : ℕ → Option Made → Said → List Step
turn_steps a (Some (Made.Command c)) said = command_steps a c said
turn_steps a (Some (Made.Await ep)) said = await_steps a ep said
turn_steps a made said = []

-- of a take or a tend
abbrev pub landing_steps : Said → List Step
landing_steps (Said.Landed id) = Step.Land id ∷ []
landing_steps (Said.LandRefused id why) = Step.Land id ∷ []
landing_steps (Said.Credited id g) = Step.Land id ∷ []
landing_steps (Said.Discarded id g) = Step.Land id ∷ []
landing_steps (Said.Installed id g) = Step.Land id ∷ []
landing_steps (Said.Closing id g) = Step.Land id ∷ []
landing_steps (Said.Closed id g) = Step.Land id ∷ Step.Closed g ∷ []
landing_steps (Said.Answered id answer closed) = Step.Answered id ∷ then_closed closed
landing_steps (Said.Done g revoked) = Step.Done g ∷ []
landing_steps said = []

abbrev pub close_steps : Said → List Step
close_steps (Said.CloseSent g id held) = Step.Close g ∷ []
close_steps said = []

abbrev pub order_steps : Order → List Step
order_steps (Order.Switch t a) = []
order_steps (Order.Grant line) = Step.Make line ∷ []
order_steps (Order.Revoke g) = Step.Revoke g ∷ []

abbrev pub steps_of : Event → Outcome → List Step
steps_of (Event.Do a c) o = command_steps a c o.said
steps_of (Event.Turn a) o = turn_steps a o.made o.said
steps_of (Event.Take to from) o = landing_steps o.said
steps_of (Event.Tend a) o = landing_steps o.said
steps_of Event.Close o = close_steps o.said
steps_of (Event.Order order) o = order_steps order
steps_of (Event.File line) o = []

-- ---- the words that an outcome stands for

-- what an outcome shows of a reply: of a message the token, the sender, the label and the bytes
abbrev pub shown_message : ℕ → Message → Bool → Said
shown_message t m true = Said.Message t m.header.sender m.header.label m.payload
shown_message t m false = Said.ReplyMessage t m.header.sender m.header.label m.payload

abbrev pub shown_reply : Reply → Said
shown_reply Reply.Nothing = Said.Nothing
shown_reply (Reply.Fetched t m) = shown_message t m (m.header.flags == 0)
shown_reply (Reply.Acknowledged credit) = Said.Acknowledged credit
shown_reply (Reply.Refused why) = Said.Refused why
shown_reply _ = Said.Nothing

abbrev pub shown_told : IssueOutcome → Said
shown_told (Gives r) = shown_reply r
shown_told (Flies id) = Said.Flying id

abbrev pub is_idle : Said → Bool
is_idle (Said.Idle why) = true
is_idle said = false

-- what words say, as an outcome; of a packet of the kernel's it is the place alone that tells whether it is held
abbrev pub said_of : Bool → List Label → Option Said
said_of held (At_issue t ∷ []) = Some (shown_told t)
said_of held (Present true ∷ []) = Some Said.Awake
said_of held (Landing id ∷ []) = Some (Said.Landed id)
said_of held (Refusing id why ∷ []) = Some (Said.LandRefused id why)
said_of held (Credits id g ∷ []) = Some (Said.Credited id g)
said_of held (Discards id g ∷ []) = Some (Said.Discarded id g)
said_of held (Installs id g ∷ []) = Some (Said.Installed id g)
said_of held (Starts_closing id g ∷ []) = Some (Said.Closing id g)
said_of held (Closes_endpoint id g ∷ Frees h ∷ []) = Some (Said.Closed id g)
said_of held (Answers id answer closed ∷ []) = Some (Said.Answered id answer closed)
said_of held (Answers id answer closed ∷ Frees g ∷ []) = Some (Said.Answered id answer closed)
said_of held (Not_made why ∷ []) = Some (Said.No why)
said_of held (Makes g id ∷ []) = Some (Said.Granted g id held)
said_of held (Revokes g ∷ []) = Some (Said.Revoking g)
said_of held (Sends_close g id ∷ []) = Some (Said.CloseSent g id held)
said_of held (Finishes g true ∷ []) = Some (Said.Done g (Some g))
said_of held (Finishes g false ∷ []) = Some (Said.Done g None)
said_of held words = None

abbrev pub is_held : Said → Bool
is_held (Said.Granted g id held) = held
is_held (Said.CloseSent g id held) = held
is_held said = false

-- an await that finds no unread message says that alone
abbrev pub ShowsNone : List Label → Said → Type 0
ShowsNone (Present false ∷ []) said = (said ≡ Said.Yield) ⊎ (said ≡ Said.Asleep)
ShowsNone words said = ⊥

abbrev pub Shows : List Label → Said → Type 0
Shows words said = (said_of (is_held said) words ≡ Some said) ⊎ ShowsNone words said

-- an entry without steps says nothing of the state
abbrev pub MatchesBy : List Step → State → Said → Type 0
MatchesBy [] s said = ⊤
MatchesBy (t ∷ ts) s said = IsSomeAnd (ideal_run (t ∷ ts) s) (λ r. Shows r.words said)

abbrev pub EntryMatches : State → Entry → Type 0
EntryMatches s e = MatchesBy (steps_of e.event e.outcome) s e.outcome.said

-- ---- whole journals

abbrev pub ran_to : Option RunResult → State → State
ran_to None s = s
ran_to (Some r) s = r.state

abbrev pub next_state : State → Entry → State
next_state s e = ran_to (ideal_run (steps_of e.event e.outcome) s) s

-- the state that the entries reach
abbrev pub state_after_entries : State → List Entry → State
state_after_entries s [] = s
state_after_entries s (e ∷ es) = state_after_entries (next_state s e) es

abbrev pub IsRun : State → List Entry → Type 0
IsRun s [] = ⊤
IsRun s (e ∷ es) = EntryMatches s e × IsRun (next_state s e) es

-- ---- for worked rows: what each entry's steps say

abbrev pub labels_by : Said → List Step → Option RunResult → Option Said
labels_by said [] r = Some said
labels_by said ts None = None
labels_by said ts (Some r) = said_of (is_held said) r.words

abbrev pub labels_of_entries : State → List Entry → List (Option Said)
labels_of_entries s [] = []
labels_of_entries s (e ∷ es) =
    labels_by e.outcome.said (steps_of e.event e.outcome) (ideal_run (steps_of e.event e.outcome) s)
    ∷ labels_of_entries (next_state s e) es

abbrev pub outcomes : List Entry → List (Option Said)
outcomes [] = []
outcomes (e ∷ es) = Some e.outcome.said ∷ outcomes es
