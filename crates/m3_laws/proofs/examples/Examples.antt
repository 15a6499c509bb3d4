-- The laws' terms on worked runs, and why the premise on endpoints is there.
use Rattle.std.proofs.Common.{◌≡◌, ℕ, List, [], ◌∷◌, ◌++◌, Bool, true, false, Option, Some, None, refl, arith}
use Rattle.m3_base.specs.declared.packet.Perm.{Perm}
use Rattle.m3_base.specs.declared.packet.Packet.{Packet}
use Rattle.m3_base.specs.declared.command.Refusal.{Refusal}
use Rattle.m3_base.specs.declared.command.Reply.{Reply}
use Rattle.m3_base.specs.declared.order.GrantLine.{GrantLine}
use Rattle.m3_base.specs.declared.setup_line.SetupLine.{SetupLine}
use Rattle.m3_base.specs.declared.command.Command.{Command}
use Rattle.m3_base.specs.declared.step.Step.{Step}
use Rattle.m3_base.specs.declared.event.Event.{Event}
use Rattle.m3_base.specs.declared.event.Said.{Said}
use Rattle.m3_base.specs.Ideal.Flights.{flight, flight_name as id}
use Rattle.m3_base.specs.Lists.Counting.{how_many}
use Rattle.m3_base.specs.Ideal.Context.{Context, endpoint}
use Rattle.m3_base.specs.Ideal.State.{State, Done, Grant, grant_in, context_of}
use Rattle.m3_base.specs.Ideal.Issue.{IssueOutcome}
use Rattle.m3_base.specs.Ideal.Step.{Label, At_issue, Landing, Refusing, IdealResult, ideal_step}
use Rattle.m3_base.specs.Ideal.Credits.{credits, granted_by}
use Rattle.m3_base.specs.Journal.Entry.{state_after_entries}
use Rattle.m3_base.specs.Ideal.MessageTraces.{collect, final, issued_at, landed_at, refused_at, fetched_at, names_of}
use Rattle.m3_base.specs.Ideal.Opening.{opening}
use Rattle.m3_base.specs.Examples.Scripts.{delivery_setup, full_buffer_setup, memory_access_setup, children_first_setup, children_first, replies_setup}
use Rattle.m3_base.specs.Setup.Obligations.{LinesAreOk}
use Rattle.m3_laws.specs.CommandFlights.{replies_to, fetched_in}
use Rattle.m3_laws.specs.JournalLaws.{EndsGrant}
use Rattle.m3_base.specs.Ideal.ReceiveRecord.{has_mark}

-- a setup of the worked examples obeys
pub delivery_obeys : LinesAreOk (opening 16 []) delivery_setup
delivery_obeys = ((refl, omega arith), ((refl, omega arith), ((omega arith, (tt, refl)), ((omega arith, (tt, refl)), tt))))

-- ---- order and credits: of three messages one is refused, and the grant has its two credits

abbrev two_sends : List Step
two_sends =
    Step.Issue 0 (Command.Send 0 (1 ∷ []) None)
    ∷ Step.Land (id 0 1)
    ∷ Step.Answered (id 0 1)
    ∷ Step.Issue 0 (Command.Send 1 (2 ∷ []) None)
    ∷ Step.Land (id 0 2)
    ∷ Step.Answered (id 0 2)
    ∷ Step.Issue 0 (Command.Send 1 (3 ∷ []) None)
    ∷ Step.Land (id 0 3)
    ∷ Step.Issue 1 (Command.Fetch 0)
    ∷ Step.Issue 1 (Command.Fetch 0)
    ∷ []

pub issued_names : names_of (collect (issued_at 3) (opening 16 full_buffer_setup) two_sends) ≡ id 0 2 ∷ id 0 3 ∷ []
issued_names = refl

pub refused_names : collect (refused_at 3) (opening 16 full_buffer_setup) two_sends ≡ id 0 3 ∷ []
refused_names = refl

pub landed_names : names_of (collect (landed_at 3) (opening 16 full_buffer_setup) two_sends) ≡ id 0 2 ∷ []
landed_names = refl

pub fetched_names : names_of (collect (fetched_at 3) (opening 16 full_buffer_setup) two_sends) ≡ id 0 2 ∷ []
fetched_names = refl

pub its_credits : credits 3 (final (opening 16 full_buffer_setup) two_sends) ≡ 2
its_credits = refl

-- ---- granted bytes

abbrev one_write : State
one_write = final (opening 16 memory_access_setup) (Step.Issue 0 (Command.Write 2 15 (255 ∷ [])) ∷ [])

pub write_flies : flight (id 0 1) one_write.flights ≡ Some (Packet.Write (id 0 1) 1 15 (255 ∷ []))
write_flies = refl

pub write_granted : granted_by 1 15 1 Perm.W (grant_in one_write.grants 1) ≡ true
write_granted = refl

-- ---- a revoked receive grant: it and both grants under it are done

abbrev stands_at : ℕ → Option Grant
stands_at g = grant_in (state_after_entries (opening 16 children_first_setup) children_first).grants g

abbrev is_done_at : Option Grant → Type 0
is_done_at None = ⊥
is_done_at (Some x) = x.standing ≡ Done

pub all_done : is_done_at (stands_at 1) × (is_done_at (stands_at 2) × is_done_at (stands_at 3))
all_done = (refl, (refl, refl))

-- ---- the premise on endpoints: at an endpoint 16 a live grant with limit 2 has no credits

pub outside : credits 2 (opening 16 (SetupLine.Act 0 2 ∷ SetupLine.Act 1 3 ∷ SetupLine.Grant (GrantLine.Recv 1 0 2 16) ∷ SetupLine.Grant (GrantLine.Send 0 16 1 7 2) ∷ [])) ≡ 0
outside = refl

-- ---- causes of refusal

abbrev word_of : Option IdealResult → Option Label
word_of None = None
word_of (Some n) = Some n.word

-- what the next step says after these
abbrev says_after : List SetupLine → List Step → Step → Option Label
says_after lines ts t = word_of (ideal_step (final (opening 16 lines) ts) t)

abbrev refused_with : Refusal → Option Label
refused_with why = Some (At_issue (IssueOutcome.Gives (Reply.Refused why)))

-- the one credit is spent, and its message not yet fetched
pub wants_credit : says_after children_first_setup (Step.Issue 0 (Command.Send 1 (1 ∷ []) None) ∷ Step.Land (id 0 1) ∷ Step.Answered (id 0 1) ∷ []) (Step.Issue 0 (Command.Send 1 (2 ∷ []) None)) ≡ refused_with Refusal.NoCredits
wants_credit = refl

pub unused_endpoint : says_after children_first_setup [] (Step.Issue 0 (Command.Send 3 (1 ∷ []) None)) ≡ refused_with Refusal.NoEndpoint
unused_endpoint = refl

-- the third message finds both slots full
abbrev three_sends : List Step
three_sends =
    Step.Issue 0 (Command.Send 0 (1 ∷ []) None)
    ∷ Step.Land (id 0 1)
    ∷ Step.Answered (id 0 1)
    ∷ Step.Issue 0 (Command.Send 1 (2 ∷ []) None)
    ∷ Step.Land (id 0 2)
    ∷ Step.Answered (id 0 2)
    ∷ Step.Issue 0 (Command.Send 1 (3 ∷ []) None)
    ∷ []

pub buffer_is_full : says_after full_buffer_setup three_sends (Step.Land (id 0 3)) ≡ Some (Refusing (id 0 3) Refusal.Full)
buffer_is_full = refl

-- a message that comes before the Install of its receive grant
abbrev before_install : List Step
before_install =
    Step.Make (GrantLine.Recv 1 0 2 16)
    ∷ Step.Make (GrantLine.Send 0 0 1 7 2)
    ∷ Step.Land (id 64 2)
    ∷ Step.Issue 0 (Command.Send 0 (1 ∷ []) None)
    ∷ []

pub install_flies : says_after (SetupLine.Act 0 2 ∷ SetupLine.Act 1 3 ∷ []) before_install (Step.Land (id 0 1)) ≡ Some (Refusing (id 0 1) Refusal.Revoked)
install_flies = refl

-- and once it has landed the message does too
pub install_landed : says_after (SetupLine.Act 0 2 ∷ SetupLine.Act 1 3 ∷ []) (Step.Make (GrantLine.Recv 1 0 2 16) ∷ Step.Make (GrantLine.Send 0 0 1 7 2) ∷ Step.Land (id 64 2) ∷ Step.Issue 0 (Command.Send 0 (1 ∷ []) None) ∷ Step.Land (id 64 1) ∷ []) (Step.Land (id 0 1)) ≡ Some (Landing (id 0 1))
install_landed = refl

-- ---- marks: while its reply flies a message is marked, and no longer

abbrev until_reply : List Step
until_reply =
    Step.Issue 0 (Command.Send 0 (1 ∷ []) (Some 1))
    ∷ Step.Land (id 0 1)
    ∷ Step.Answered (id 0 1)
    ∷ Step.Issue 1 (Command.Fetch 0)
    ∷ Step.Issue 1 (Command.Reply 0 0 (170 ∷ []))
    ∷ []

-- the flying replies to the first message of the receiver, and its mark
abbrev replies_and_mark : Option Context → ℕ × Bool
replies_and_mark None = (0, false)
replies_and_mark (Some c) = (how_many (replies_to 0 0) c.flying, has_mark (fetched_in 0 (endpoint c 0)))

abbrev after_steps : List Step → ℕ × Bool
after_steps ts = replies_and_mark (context_of 1 (final (opening 16 replies_setup) ts).contexts)

pub reply_marks : after_steps until_reply ≡ (1, true)
reply_marks = refl

pub answer_unmarks : after_steps (until_reply ++ Step.Land (id 1 1) ∷ Step.Answered (id 1 1) ∷ []) ≡ (0, false)
answer_unmarks = refl

-- ---- journals: the entries `done G` and `done G revoked G`

pub done_ends : (to from g : ℕ) (root : Option ℕ) → EndsGrant g (record { event = Event.Take to from; outcome = record { made = None; said = Said.Done g root; restore = None } })
done_ends to from g root = refl
