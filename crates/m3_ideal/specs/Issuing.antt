-- What the definition of a command says, from what the call answers.
use Rattle.std.specs.Prelude.{◌≡◌, ℕ, ◌+◌, Option, Some, None, Result, Ok, Err}
use Rattle.m3_base.specs.declared.command.Command.{Command}
use Rattle.m3_base.specs.declared.command.Reply.{Reply}
use Rattle.m3_base.specs.declared.packet.Packet.{Packet}
use Rattle.m3_base.specs.Ideal.Flights.{name_of}
use Rattle.m3_base.specs.Ideal.Context.{Context}
use Rattle.m3_base.specs.Ideal.Issue.{Gives, Flies, immediate_reply, issue, next_id, or_else, no_endpoint, reply_grant}
use Rattle.m3_base.specs.Ideal.Issue.{Issued as Issue}
use Rattle.m3_ideal.specs.declared.issued.Issued.{Issued}
use Rattle.m3_ideal.specs.declared.letter.ReplyPlace.{ReplyPlace}
use Rattle.m3_ideal.specs.LetterView.{place_ep, place_grant}

-- what the call answers, and the context after it
abbrev pub issued_by : Issued → Context → Issue
issued_by (Issued.Refused why) c = immediate_reply c (Reply.Refused why)
issued_by Issued.Nothing c = immediate_reply c Reply.Nothing
issued_by (Issued.Fetched token m) c = immediate_reply c (Reply.Fetched token m)
issued_by (Issued.Acknowledged None) c = immediate_reply c (Reply.Acknowledged None)
issued_by (Issued.Acknowledged (Some f)) c =
    record { told = Gives (Reply.Acknowledged (Some f.0)); packet = Some f.1; context = c }
issued_by (Issued.Flies id p) c = record { told = Flies id; packet = Some p; context = c }

-- of a command that may be issued; after out of memory nothing has changed
abbrev pub Gives_as : {E : Type 0} → Result Issued E → Issue → Context → Context → Type 0
Gives_as (Ok i) said old new = said ≡ issued_by i new
Gives_as (Err e) said old new = new ≡ old

-- of any command: none where it has to wait
abbrev pub Issues : {E : Type 0} → Result (Option Issued) E → Command → Context → Context → Type 0
Issues (Ok None) c old new = (issue old c ≡ None) × (new ≡ old)
Issues (Ok (Some i)) c old new = issue old c ≡ Some (issued_by i new)
Issues (Err e) c old new = new ≡ old

-- the reply endpoint that a send names, where it is a live receive record
pub record IsPlace (c : Context) (reply : Option ℕ) (place : Option ReplyPlace) : Type 0 where
  pub ep : place_ep place ≡ or_else reply no_endpoint
  pub grant : place_grant place ≡ reply_grant c reply

-- ---- numbers

-- the flight has the next number, which rises
pub record IsNextOf (p : Packet) (old new : Context) : Type 0 where
  pub name : name_of p ≡ next_id old
  pub next : new.next ≡ old.next + 1

abbrev pub Numbers : Issued → Context → Context → Type 0
Numbers (Issued.Flies id p) old new = IsNextOf p old new
Numbers (Issued.Acknowledged (Some f)) old new = IsNextOf f.1 old new
Numbers i old new = new.next ≡ old.next

abbrev pub Numbers_as : {E : Type 0} → Result Issued E → Context → Context → Type 0
Numbers_as (Ok i) old new = Numbers i old new
Numbers_as (Err e) old new = new.next ≡ old.next

abbrev pub Numbers_if : {E : Type 0} → Result (Option Issued) E → Context → Context → Type 0
Numbers_if (Ok (Some i)) old new = Numbers i old new
Numbers_if (Ok None) old new = new.next ≡ old.next
Numbers_if (Err e) old new = new.next ≡ old.next

-- of a command at a context: what it says, and the numbers
pub record IssuesAt {E : Type 0} (result : Result (Option Issued) E) (command : Command) (old new : Context) : Type 0 where
  pub issues : Issues result command old new
  pub numbers : Numbers_if result old new
