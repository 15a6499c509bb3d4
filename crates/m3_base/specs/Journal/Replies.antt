-- The replies that an activity sees in a journal, and those that the ideal steps give it.
use Rattle.std.specs.Prelude.{ℕ, Bool, true, false, not, ◌==◌, List, [], ◌∷◌, ◌++◌, Option, Some, None, if◌then◌else◌}
use Rattle.m3_base.specs.declared.message.Header.{Header}
use Rattle.m3_base.specs.declared.message.Message.{Message}
use Rattle.m3_base.specs.declared.command.Command.{Command}
use Rattle.m3_base.specs.declared.command.Answer.{Answer}
use Rattle.m3_base.specs.declared.command.Reply.{Reply}
use Rattle.m3_base.specs.declared.event.Event.{Event}
use Rattle.m3_base.specs.declared.event.Made.{Made}
use Rattle.m3_base.specs.declared.event.Said.{Said}
use Rattle.m3_base.specs.declared.event.Outcome.{Outcome}
use Rattle.m3_base.specs.declared.event.Entry.{Entry}
use Rattle.m3_base.specs.declared.step.Step.{Step}
use Rattle.m3_base.specs.Ideal.Context.{Endpoint, Receives, Context, endpoint}
use Rattle.m3_base.specs.Ideal.State.{State, context_of}
use Rattle.m3_base.specs.Ideal.Issue.{IssueOutcome, Gives, Flies}
use Rattle.m3_base.specs.Ideal.Step.{Label, At_issue, Answers, IdealResult, ideal_step}
use Rattle.m3_base.specs.Journal.Entry.{steps_of, next_state}
use Rattle.m3_base.specs.Ideal.MessageTraces.{state_after_steps}

abbrev pub reply_of : Answer → Reply
reply_of Answer.Sent = Reply.Sent
reply_of Answer.Replied = Reply.Replied
reply_of Answer.Written = Reply.Written
reply_of (Answer.Bytes bytes) = Reply.Bytes bytes
reply_of (Answer.Refused why) = Reply.Refused why

-- ---- as printed

-- the header of the oldest unread message, where the entry doesn't print it
abbrev pub front_of : List Message → Option Header
front_of [] = None
front_of (m ∷ ms) = Some m.header

abbrev pub front_header : Endpoint → Option Header
front_header (Receives r) = front_of r.unread
front_header e = None

abbrev pub front_at : ℕ → Option Context → Option Header
front_at ep None = None
front_at ep (Some c) = front_header (endpoint c ep)

-- of a fetched message the entry has the kind, the token, the sender, the label and the bytes
abbrev pub with_header : Bool → ℕ → ℕ → ℕ → List ℕ → Header → List Reply
with_header true token from label payload h =
    Reply.Fetched token (record { header = record h { sender = from; label = label }; payload = payload }) ∷ []
with_header false token from label payload h = []

abbrev pub printed_message : Option Header → ℕ → ℕ → ℕ → List ℕ → List Reply
printed_message None token from label payload = []
printed_message (Some h) token from label payload = with_header (h.flags == 0) token from label payload h

abbrev pub printed_reply : Option Header → ℕ → ℕ → ℕ → List ℕ → List Reply
printed_reply None token from label payload = []
printed_reply (Some h) token from label payload = with_header (not (h.flags == 0)) token from label payload h

abbrev pub printed_fetch : State → ℕ → ℕ → Said → List Reply
printed_fetch s a ep (Said.Message token from label payload) =
    printed_message (front_at ep (context_of a s.contexts)) token from label payload
printed_fetch s a ep (Said.ReplyMessage token from label payload) =
    printed_reply (front_at ep (context_of a s.contexts)) token from label payload
printed_fetch s a ep Said.Nothing = Reply.Nothing ∷ []
printed_fetch s a ep (Said.Refused why) = Reply.Refused why ∷ []
printed_fetch s a ep said = []

abbrev pub printed_at_issue : State → ℕ → Command → Said → List Reply
printed_at_issue s a (Command.Fetch ep) said = printed_fetch s a ep said
printed_at_issue s a c (Said.Acknowledged credit) = Reply.Acknowledged credit ∷ []
printed_at_issue s a c (Said.Refused why) = Reply.Refused why ∷ []
printed_at_issue s a c said = []

abbrev pub printed_move : State → ℕ → Option Made → Said → List Reply
printed_move s a (Some (Made.Command c)) said = printed_at_issue s a c said
printed_move s a made said = []

abbrev pub printed_answer : ℕ → Said → List Reply
printed_answer a (Said.Answered id answer closed) = if id.issuer == a then reply_of answer ∷ [] else []
printed_answer a said = []

-- the replies to the activity in one entry
abbrev pub printed_by : ℕ → State → Event → Outcome → List Reply
printed_by a s (Event.Do b c) o = if b == a then printed_at_issue s b c o.said else []
printed_by a s (Event.Turn b) o = if b == a then printed_move s b o.made o.said else []
printed_by a s (Event.Take to from) o = printed_answer a o.said
printed_by a s (Event.Tend b) o = printed_answer a o.said
printed_by a s e o = []

abbrev pub printed_replies_of : ℕ → State → Entry → List Reply
printed_replies_of a s e = printed_by a s e.event e.outcome

-- the replies to the activity in a journal, at issue and answered
abbrev pub printed_replies : ℕ → State → List Entry → List Reply
printed_replies a s [] = []
printed_replies a s (e ∷ es) = printed_replies_of a s e ++ printed_replies a (next_state s e) es

-- ---- as the ideal steps give them

abbrev pub told_reply : IssueOutcome → List Reply
told_reply (Gives r) = r ∷ []
told_reply (Flies id) = []

abbrev pub reply_of_label : ℕ → Step → Label → List Reply
reply_of_label a (Step.Issue b c) (At_issue t) = if b == a then told_reply t else []
reply_of_label a (Step.Answered id) (Answers x answer closed) = if id.issuer == a then reply_of answer ∷ [] else []
reply_of_label a step word = []

abbrev pub ideal_replies_by : ℕ → Step → Option IdealResult → List Reply
ideal_replies_by a t None = []
ideal_replies_by a t (Some n) = reply_of_label a t n.word

-- the replies that the steps give the activity
abbrev pub ideal_replies : ℕ → State → List Step → List Reply
ideal_replies a s [] = []
ideal_replies a s (t ∷ ts) = ideal_replies_by a t (ideal_step s t) ++ ideal_replies a (state_after_steps s (ideal_step s t)) ts

abbrev pub steps_in : List Entry → List Step
steps_in [] = []
steps_in (e ∷ es) = steps_of e.event e.outcome ++ steps_in es
