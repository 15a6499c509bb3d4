-- What ideal steps say is never idle.
use Rattle.std.proofs.Common.{ℕ, Bool, true, false, List, [], ◌∷◌, Option}
use Rattle.std.specs.Prelude.{◌==◌}
use Rattle.m3_base.specs.declared.command.Answer.{Answer}
use Rattle.m3_base.specs.declared.command.Reply.{Reply}
use Rattle.m3_base.specs.declared.event.Said.{Said}
use Rattle.m3_base.specs.declared.message.Message.{Message}
use Rattle.m3_base.specs.declared.ids.FlightId.{FlightId}
use Rattle.m3_base.specs.Journal.Entry.{said_of, shown_told, shown_reply, shown_message}
use Rattle.m3_base.specs.Ideal.Issue.{IssueOutcome, Gives, Flies}
use Rattle.m3_base.specs.Ideal.Step.{Label, At_issue, Present, Landing, Refusing, Credits, Discards, Installs, Starts_closing, Closes_endpoint, Frees, Answers, Not_made, Makes, Revokes, Sends_close, Finishes}
use Rattle.m3_base.specs.Placement.Landing.{said_or_nothing}
use Rattle.m3_trace.specs.IdleOutcomes.{IsIdle}

message_said : (t : ℕ) (m : Message) (b : Bool) → IsIdle (shown_message t m b) → ⊥
message_said t m true i = i
message_said t m false i = i

reply_said : (r : Reply) → IsIdle (shown_reply r) → ⊥
reply_said Reply.Nothing i = i
reply_said (Reply.Fetched t m) i = message_said t m (m.header.flags == 0) i
reply_said (Reply.Acknowledged credit) i = i
reply_said (Reply.Refused why) i = i
reply_said Reply.Sent i = i
reply_said Reply.Replied i = i
reply_said Reply.Written i = i
reply_said (Reply.Bytes bytes) i = i

told_said : (t : IssueOutcome) → IsIdle (shown_told t) → ⊥
told_said (Gives r) i = reply_said r i
told_said (Flies id) i = i

-- the words of steps
abbrev pub NeverIdle : Option Said → Type 0
NeverIdle o = IsIdle (said_or_nothing o) → ⊥

one_said : (held : Bool) (w : Label) → NeverIdle (said_of held (w ∷ []))
one_said held (At_issue t) i = told_said t i
one_said held (Present true) i = i
one_said held (Present false) i = i
one_said held (Landing id) i = i
one_said held (Refusing id why) i = i
one_said held (Credits id g) i = i
one_said held (Discards id g) i = i
one_said held (Installs id g) i = i
one_said held (Starts_closing id g) i = i
one_said held (Closes_endpoint id g) i = i
one_said held (Answers id answer closed) i = i
one_said held (Not_made why) i = i
one_said held (Makes g id) i = i
one_said held (Revokes g) i = i
one_said held (Sends_close g id) i = i
one_said held (Frees g) i = i
one_said held (Finishes g true) i = i
one_said held (Finishes g false) i = i

closed_said : (held : Bool) (id : FlightId) (h : ℕ) (w : Label) → NeverIdle (said_of held (Closes_endpoint id h ∷ w ∷ []))
closed_said held id h (At_issue xt) i = i
closed_said held id h (Present xb) i = i
closed_said held id h (Landing xid) i = i
closed_said held id h (Refusing xid xwhy) i = i
closed_said held id h (Credits xid xg) i = i
closed_said held id h (Discards xid xg) i = i
closed_said held id h (Installs xid xg) i = i
closed_said held id h (Starts_closing xid xg) i = i
closed_said held id h (Closes_endpoint xid xg) i = i
closed_said held id h (Answers xid xanswer xclosed) i = i
closed_said held id h (Not_made xwhy) i = i
closed_said held id h (Makes xg xid) i = i
closed_said held id h (Revokes xg) i = i
closed_said held id h (Sends_close xg xid) i = i
closed_said held id h (Frees xg) i = i
closed_said held id h (Finishes xg xb) i = i

answer_said : (held : Bool) (id : FlightId) (answer : Answer) (closed : Option ℕ) (w : Label) → NeverIdle (said_of held (Answers id answer closed ∷ w ∷ []))
answer_said held id answer closed (At_issue xt) i = i
answer_said held id answer closed (Present xb) i = i
answer_said held id answer closed (Landing xid) i = i
answer_said held id answer closed (Refusing xid xwhy) i = i
answer_said held id answer closed (Credits xid xg) i = i
answer_said held id answer closed (Discards xid xg) i = i
answer_said held id answer closed (Installs xid xg) i = i
answer_said held id answer closed (Starts_closing xid xg) i = i
answer_said held id answer closed (Closes_endpoint xid xg) i = i
answer_said held id answer closed (Answers xid xanswer xclosed) i = i
answer_said held id answer closed (Not_made xwhy) i = i
answer_said held id answer closed (Makes xg xid) i = i
answer_said held id answer closed (Revokes xg) i = i
answer_said held id answer closed (Sends_close xg xid) i = i
answer_said held id answer closed (Frees xg) i = i
answer_said held id answer closed (Finishes xg xb) i = i

two_said : (held : Bool) (w v : Label) → NeverIdle (said_of held (w ∷ v ∷ []))
two_said held (At_issue t) v i = i
two_said held (Present true) v i = i
two_said held (Present false) v i = i
two_said held (Landing id) v i = i
two_said held (Refusing id why) v i = i
two_said held (Credits id g) v i = i
two_said held (Discards id g) v i = i
two_said held (Installs id g) v i = i
two_said held (Starts_closing id g) v i = i
two_said held (Closes_endpoint id h) v i = closed_said held id h v i
two_said held (Answers id answer closed) v i = answer_said held id answer closed v i
two_said held (Not_made why) v i = i
two_said held (Makes g id) v i = i
two_said held (Revokes g) v i = i
two_said held (Sends_close g id) v i = i
two_said held (Frees g) v i = i
two_said held (Finishes g true) v i = i
two_said held (Finishes g false) v i = i

closed_more : (held : Bool) (id : FlightId) (g : ℕ) (v u : Label) (ws : List Label) → NeverIdle (said_of held (Closes_endpoint id g ∷ v ∷ u ∷ ws))
closed_more held id g (At_issue xt) u ws i = i
closed_more held id g (Present xb) u ws i = i
closed_more held id g (Landing xid) u ws i = i
closed_more held id g (Refusing xid xwhy) u ws i = i
closed_more held id g (Credits xid xg) u ws i = i
closed_more held id g (Discards xid xg) u ws i = i
closed_more held id g (Installs xid xg) u ws i = i
closed_more held id g (Starts_closing xid xg) u ws i = i
closed_more held id g (Closes_endpoint xid xg) u ws i = i
closed_more held id g (Answers xid xanswer xclosed) u ws i = i
closed_more held id g (Not_made xwhy) u ws i = i
closed_more held id g (Makes xg xid) u ws i = i
closed_more held id g (Revokes xg) u ws i = i
closed_more held id g (Sends_close xg xid) u ws i = i
closed_more held id g (Frees xg) u ws i = i
closed_more held id g (Finishes xg xb) u ws i = i

answer_more : (held : Bool) (id : FlightId) (answer : Answer) (closed : Option ℕ) (v u : Label) (ws : List Label) → NeverIdle (said_of held (Answers id answer closed ∷ v ∷ u ∷ ws))
answer_more held id answer closed (At_issue xt) u ws i = i
answer_more held id answer closed (Present xb) u ws i = i
answer_more held id answer closed (Landing xid) u ws i = i
answer_more held id answer closed (Refusing xid xwhy) u ws i = i
answer_more held id answer closed (Credits xid xg) u ws i = i
answer_more held id answer closed (Discards xid xg) u ws i = i
answer_more held id answer closed (Installs xid xg) u ws i = i
answer_more held id answer closed (Starts_closing xid xg) u ws i = i
answer_more held id answer closed (Closes_endpoint xid xg) u ws i = i
answer_more held id answer closed (Answers xid xanswer xclosed) u ws i = i
answer_more held id answer closed (Not_made xwhy) u ws i = i
answer_more held id answer closed (Makes xg xid) u ws i = i
answer_more held id answer closed (Revokes xg) u ws i = i
answer_more held id answer closed (Sends_close xg xid) u ws i = i
answer_more held id answer closed (Frees xg) u ws i = i
answer_more held id answer closed (Finishes xg xb) u ws i = i

more_said : (held : Bool) (w v u : Label) (ws : List Label) → NeverIdle (said_of held (w ∷ v ∷ u ∷ ws))
more_said held (At_issue t) v u ws i = i
more_said held (Present true) v u ws i = i
more_said held (Present false) v u ws i = i
more_said held (Landing id) v u ws i = i
more_said held (Refusing id why) v u ws i = i
more_said held (Credits id g) v u ws i = i
more_said held (Discards id g) v u ws i = i
more_said held (Installs id g) v u ws i = i
more_said held (Starts_closing id g) v u ws i = i
more_said held (Closes_endpoint id g) v u ws i = closed_more held id g v u ws i
more_said held (Answers id answer closed) v u ws i = answer_more held id answer closed v u ws i
more_said held (Not_made why) v u ws i = i
more_said held (Makes g id) v u ws i = i
more_said held (Revokes g) v u ws i = i
more_said held (Sends_close g id) v u ws i = i
more_said held (Frees g) v u ws i = i
more_said held (Finishes g true) v u ws i = i
more_said held (Finishes g false) v u ws i = i

pub words_said : (held : Bool) (ws : List Label) → NeverIdle (said_of held ws)
words_said held [] i = i
words_said held (w ∷ []) i = one_said held w i
words_said held (w ∷ v ∷ []) i = two_said held w v i
words_said held (w ∷ v ∷ u ∷ ws) i = more_said held w v u ws i
