-- What the definition of a command says, from what the call answers.
use Rattle.std.specs.Prelude.{ℕ, Option, Some, None, option_map}
use Rattle.m3_base.specs.declared.message.Message.{Message}
use Rattle.m3_base.specs.declared.command.Command.{Command}
use Rattle.m3_base.specs.declared.command.Reply.{Reply}
use Rattle.m3_base.specs.Ideal.Flights.{name_of}
use Rattle.m3_base.specs.Ideal.Context.{Context, endpoint}
use Rattle.m3_base.specs.Ideal.Issue.{Gives, Flies, immediate_reply, or_else, no_endpoint, is_bad_reply, reply_grant}
use Rattle.m3_base.specs.Ideal.Issue.{Issued as Issue}
use Rattle.m3_core.specs.declared.issued.Issued.{Issued}
use Rattle.m3_base.specs.Ideal.EndpointStep.{oldest_at}
use Rattle.m3_core.specs.declared.context.issue.ReplyTo.{ReplyTo}

-- the message that a fetch takes
abbrev pub oldest : Context → Command → Option Message
oldest c (Command.Fetch ep) = oldest_at (endpoint c ep)
oldest c command = None

-- the oldest unread message before the call, what the call answers, and the context after it
abbrev pub issued_by : Option Message → Issued → Context → Option Issue
issued_by m (Issued.Refused why) c = Some (immediate_reply c (Reply.Refused why))
issued_by m (Issued.Flies id p) c = Some (record { told = Flies id; packet = Some p; context = c })
issued_by m (Issued.Acknowledged p) c =
    Some (record { told = Gives (Reply.Acknowledged (option_map name_of p)); packet = p; context = c })
issued_by m (Issued.Fetched None) c = Some (immediate_reply c Reply.Nothing)
issued_by (Some m) (Issued.Fetched (Some token)) c = Some (immediate_reply c (Reply.Fetched token m))
issued_by None (Issued.Fetched (Some token)) c = None

-- what a send's header says of its reply endpoint
abbrev pub reply_to : Context → Option ℕ → ReplyTo
reply_to c reply = record { ep = or_else reply no_endpoint; grant = reply_grant c reply; is_bad = is_bad_reply c reply }
