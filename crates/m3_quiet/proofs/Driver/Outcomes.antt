-- What is said of steps is never idle.
use Rattle.std.proofs.Common.{◌≡◌, ℕ, Bool, true, false, List, [], ◌∷◌, refl}
use Rattle.std.specs.Prelude.{◌==◌}
use Rattle.m3_base.specs.declared.command.Reply.{Reply}
use Rattle.m3_base.specs.declared.message.Message.{Message}
use Rattle.m3_base.specs.Ideal.Issue.{IssueOutcome, Gives, Flies}
use Rattle.m3_base.specs.Ideal.Step.{Label, At_issue, Present, Landing, Refusing, Credits, Discards, Installs, Starts_closing, Closes_endpoint, Answers, Not_made, Makes, Revokes, Sends_close, Frees, Finishes}
use Rattle.m3_base.specs.Journal.Entry.{said_of, shown_reply, shown_told, shown_message, is_idle}
use Rattle.m3_base.specs.Placement.Landing.{said_or_nothing}

message_works : (t : ℕ) (m : Message) (b : Bool) → is_idle (shown_message t m b) ≡ false
message_works t m true = refl
message_works t m false = refl

reply_works : (r : Reply) → is_idle (shown_reply r) ≡ false
reply_works Reply.Nothing = refl
reply_works (Reply.Fetched t m) = message_works t m (m.header.flags == 0)
reply_works (Reply.Acknowledged credit) = refl
reply_works (Reply.Refused why) = refl
reply_works Reply.Sent = refl
reply_works Reply.Replied = refl
reply_works Reply.Written = refl
reply_works (Reply.Bytes bytes) = refl

told_works : (t : IssueOutcome) → is_idle (shown_told t) ≡ false
told_works (Gives r) = reply_works r
told_works (Flies id) = refl

pub said_works : (held : Bool) (ws : List Label) → is_idle (said_or_nothing (said_of held ws)) ≡ false
said_works held [] = refl
said_works held (At_issue t ∷ []) = told_works t
said_works held (Present true ∷ []) = refl
said_works held (Present false ∷ []) = refl
said_works held (Landing i ∷ []) = refl
said_works held (Refusing i w ∷ []) = refl
said_works held (Credits i g ∷ []) = refl
said_works held (Discards i g ∷ []) = refl
said_works held (Installs i g ∷ []) = refl
said_works held (Starts_closing i g ∷ []) = refl
said_works held (Closes_endpoint i g ∷ []) = refl
said_works held (Answers i a c ∷ []) = refl
said_works held (Not_made w ∷ []) = refl
said_works held (Makes g i ∷ []) = refl
said_works held (Revokes g ∷ []) = refl
said_works held (Sends_close g i ∷ []) = refl
said_works held (Frees g ∷ []) = refl
said_works held (Finishes g true ∷ []) = refl
said_works held (Finishes g false ∷ []) = refl
said_works held (At_issue t ∷ v ∷ r) = refl
said_works held (Present true ∷ v ∷ r) = refl
said_works held (Present false ∷ v ∷ r) = refl
said_works held (Landing i ∷ v ∷ r) = refl
said_works held (Refusing i w ∷ v ∷ r) = refl
said_works held (Credits i g ∷ v ∷ r) = refl
said_works held (Discards i g ∷ v ∷ r) = refl
said_works held (Installs i g ∷ v ∷ r) = refl
said_works held (Starts_closing i g ∷ v ∷ r) = refl
said_works held (Closes_endpoint i g ∷ At_issue t' ∷ r) = refl
said_works held (Closes_endpoint i g ∷ Present b' ∷ r) = refl
said_works held (Closes_endpoint i g ∷ Landing i' ∷ r) = refl
said_works held (Closes_endpoint i g ∷ Refusing i' w' ∷ r) = refl
said_works held (Closes_endpoint i g ∷ Credits i' g' ∷ r) = refl
said_works held (Closes_endpoint i g ∷ Discards i' g' ∷ r) = refl
said_works held (Closes_endpoint i g ∷ Installs i' g' ∷ r) = refl
said_works held (Closes_endpoint i g ∷ Starts_closing i' g' ∷ r) = refl
said_works held (Closes_endpoint i g ∷ Closes_endpoint i' g' ∷ r) = refl
said_works held (Closes_endpoint i g ∷ Answers i' a' c' ∷ r) = refl
said_works held (Closes_endpoint i g ∷ Not_made w' ∷ r) = refl
said_works held (Closes_endpoint i g ∷ Makes g' i' ∷ r) = refl
said_works held (Closes_endpoint i g ∷ Revokes g' ∷ r) = refl
said_works held (Closes_endpoint i g ∷ Sends_close g' i' ∷ r) = refl
said_works held (Closes_endpoint i g ∷ Frees h ∷ []) = refl
said_works held (Closes_endpoint i g ∷ Frees h ∷ v ∷ r) = refl
said_works held (Closes_endpoint i g ∷ Finishes g' b' ∷ r) = refl
said_works held (Answers i a c ∷ At_issue t' ∷ r) = refl
said_works held (Answers i a c ∷ Present b' ∷ r) = refl
said_works held (Answers i a c ∷ Landing i' ∷ r) = refl
said_works held (Answers i a c ∷ Refusing i' w' ∷ r) = refl
said_works held (Answers i a c ∷ Credits i' g' ∷ r) = refl
said_works held (Answers i a c ∷ Discards i' g' ∷ r) = refl
said_works held (Answers i a c ∷ Installs i' g' ∷ r) = refl
said_works held (Answers i a c ∷ Starts_closing i' g' ∷ r) = refl
said_works held (Answers i a c ∷ Closes_endpoint i' g' ∷ r) = refl
said_works held (Answers i a c ∷ Answers i' a' c' ∷ r) = refl
said_works held (Answers i a c ∷ Not_made w' ∷ r) = refl
said_works held (Answers i a c ∷ Makes g' i' ∷ r) = refl
said_works held (Answers i a c ∷ Revokes g' ∷ r) = refl
said_works held (Answers i a c ∷ Sends_close g' i' ∷ r) = refl
said_works held (Answers i a c ∷ Frees h ∷ []) = refl
said_works held (Answers i a c ∷ Frees h ∷ v ∷ r) = refl
said_works held (Answers i a c ∷ Finishes g' b' ∷ r) = refl
said_works held (Not_made w ∷ v ∷ r) = refl
said_works held (Makes g i ∷ v ∷ r) = refl
said_works held (Revokes g ∷ v ∷ r) = refl
said_works held (Sends_close g i ∷ v ∷ r) = refl
said_works held (Frees g ∷ v ∷ r) = refl
said_works held (Finishes g true ∷ v ∷ r) = refl
said_works held (Finishes g false ∷ v ∷ r) = refl
