-- What the words of steps say.
use Rattle.m3_base.specs.declared.command.Reply.{Reply}
use Rattle.m3_base.specs.Ideal.Issue.{Gives, Flies}
use Rattle.m3_base.specs.Ideal.Step.{Label as Meaning, At_issue, Present, Landing, Refusing, Credits, Discards, Installs, Starts_closing, Closes_endpoint, Answers, Not_made, Makes, Revokes, Sends_close, Frees, Finishes}
use Rattle.m3_ideal.specs.declared.word.Word.{Word}

abbrev pub meaning : Word → Meaning
meaning (Word.Refused why) = At_issue (Gives (Reply.Refused why))
meaning Word.Nothing = At_issue (Gives Reply.Nothing)
meaning (Word.Fetched token m) = At_issue (Gives (Reply.Fetched token m))
meaning (Word.Acknowledged credit) = At_issue (Gives (Reply.Acknowledged credit))
meaning (Word.Flies id) = At_issue (Flies id)
meaning (Word.Present there) = Present there
meaning (Word.Landed id) = Landing id
meaning (Word.LandRefused id why) = Refusing id why
meaning (Word.Credited id g) = Credits id g
meaning (Word.Discarded id g) = Discards id g
meaning (Word.Installed id g) = Installs id g
meaning (Word.StartsClosing id g) = Starts_closing id g
meaning (Word.Closed id g) = Closes_endpoint id g
meaning (Word.Answered id answer closed) = Answers id answer closed
meaning (Word.No why) = Not_made why
meaning (Word.Made g id) = Makes g id
meaning (Word.Revoking g) = Revokes g
meaning (Word.CloseSent g id) = Sends_close g id
meaning (Word.Freed g) = Frees g
meaning (Word.Done g is_root) = Finishes g is_root
