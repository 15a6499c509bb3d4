-- What a command is told at once is what its entry prints.
use Rattle.std.proofs.Common.{◌≡◌, ℕ, Bool, true, false, List, [], ◌∷◌, length, Some, None, refl, ◌∙◌, ap, subst}
use Rattle.std.specs.Prelude.{Option, ◌==◌, not, if◌then◌else◌}
use Rattle.m3_base.specs.declared.ids.FlightId.{FlightId}
use Rattle.m3_base.specs.declared.message.Message.{Message}
use Rattle.m3_base.specs.declared.command.Command.{Command}
use Rattle.m3_base.specs.declared.command.Refusal.{Refusal}
use Rattle.m3_base.specs.declared.command.Reply.{Reply}
use Rattle.m3_base.specs.Ideal.Context.{Endpoint, Free, Sends, Receives, Reaches, ReceiveRecord, Context, endpoint}
use Rattle.m3_base.specs.Ideal.State.{State, context_of}
use Rattle.m3_base.specs.Ideal.ReceiveRecord.{fetched_at, unmarked_message}
use Rattle.m3_base.specs.Ideal.Issue.{IssueOutcome, Gives, Flies, Issued, issue, is_busy, next_id, first_of, unless_refusal, unless_busy, send, send_refusal, reply, reply_refusal, reply_to, fetch, fetch_from, acknowledge, acknowledge_at, after_acknowledge, may_read, may_write, access_refusal, read, write}
use Rattle.m3_base.specs.Journal.Entry.{shown_told, shown_message}
use Rattle.m3_base.specs.Journal.Replies.{printed_at_issue, printed_fetch, printed_message, printed_reply, with_header, front_of, front_header, front_at, told_reply}

-- what a command that isn't a fetch or an acknowledgement may be told at once
pub data IsRefusedOrFlies : IssueOutcome → Type 0 where
  refused : (why : Refusal) → IsRefusedOrFlies (Gives (Reply.Refused why))
  flies : (id : FlightId) → IsRefusedOrFlies (Flies id)

unless_told : (o : Option Refusal) (c : Context) (i : Issued) → IsRefusedOrFlies i.told → IsRefusedOrFlies (unless_refusal o c i).told
unless_told None c i h = h
unless_told (Some why) c i h = refused why

-- ---- what each command may be told

send_told : (c : Context) (ep : ℕ) (payload : List ℕ) (to : Option ℕ) (e : Endpoint) → IsRefusedOrFlies (send c ep payload to e).told
send_told c ep payload to Free = refused Refusal.NoEndpoint
send_told c ep payload to (Sends r) = unless_told (send_refusal c r payload to) c _ (flies (next_id c))
send_told c ep payload to (Receives r) = refused Refusal.NoEndpoint
send_told c ep payload to (Reaches r) = refused Refusal.NoEndpoint

reply_to_told : (c : Context) (ep token : ℕ) (payload : List ℕ) (r : ReceiveRecord) (m : Option Message) → IsRefusedOrFlies (reply_to c ep token payload r m).told
reply_to_told c ep token payload r None = refused Refusal.NoSuchToken
reply_to_told c ep token payload r (Some m) = flies (next_id c)

reply_told : (c : Context) (ep token : ℕ) (payload : List ℕ) (e : Endpoint) → IsRefusedOrFlies (reply c ep token payload e).told
reply_told c ep token payload Free = refused Refusal.NoEndpoint
reply_told c ep token payload (Sends r) = refused Refusal.NoEndpoint
reply_told c ep token payload (Receives r) = unless_told (reply_refusal r token payload) c _ (reply_to_told c ep token payload r (unmarked_message (fetched_at token r.fetched)))
reply_told c ep token payload (Reaches r) = refused Refusal.NoEndpoint

read_told : (c : Context) (ep off len : ℕ) (e : Endpoint) → IsRefusedOrFlies (read c ep off len e).told
read_told c ep off len Free = refused Refusal.NoEndpoint
read_told c ep off len (Sends r) = refused Refusal.NoEndpoint
read_told c ep off len (Receives r) = refused Refusal.NoEndpoint
read_told c ep off len (Reaches r) = unless_told (access_refusal r off len (may_read r.perm)) c _ (flies (next_id c))

write_told : (c : Context) (ep off : ℕ) (payload : List ℕ) (e : Endpoint) → IsRefusedOrFlies (write c ep off payload e).told
write_told c ep off payload Free = refused Refusal.NoEndpoint
write_told c ep off payload (Sends r) = refused Refusal.NoEndpoint
write_told c ep off payload (Receives r) = refused Refusal.NoEndpoint
write_told c ep off payload (Reaches r) = unless_told (access_refusal r off (length payload) (may_write r.perm)) c _ (flies (next_id c))

-- an acknowledgement
pub data IsRefusedOrAcknowledged : IssueOutcome → Type 0 where
  not_taken : (why : Refusal) → IsRefusedOrAcknowledged (Gives (Reply.Refused why))
  taken : (credit : Option FlightId) → IsRefusedOrAcknowledged (Gives (Reply.Acknowledged credit))

unless_taken : (o : Option Refusal) (c : Context) (i : Issued) → IsRefusedOrAcknowledged i.told → IsRefusedOrAcknowledged (unless_refusal o c i).told
unless_taken None c i h = h
unless_taken (Some why) c i h = not_taken why

acknowledged_told : (c : Context) (ep : ℕ) (r : ReceiveRecord) (token : ℕ) (m : Message) (b : Bool) → IsRefusedOrAcknowledged (after_acknowledge c ep r token m b).told
acknowledged_told c ep r token m true = taken (Some (next_id c))
acknowledged_told c ep r token m false = taken None

acknowledge_at_told : (c : Context) (ep : ℕ) (r : ReceiveRecord) (token : ℕ) (m : Option Message) → IsRefusedOrAcknowledged (acknowledge_at c ep r token m).told
acknowledge_at_told c ep r token None = not_taken Refusal.NoSuchToken
acknowledge_at_told c ep r token (Some m) = acknowledged_told c ep r token m (m.header.flags == 0)

acknowledge_told : (c : Context) (ep token : ℕ) (e : Endpoint) → IsRefusedOrAcknowledged (acknowledge c ep token e).told
acknowledge_told c ep token Free = not_taken Refusal.NoEndpoint
acknowledge_told c ep token (Sends r) = not_taken Refusal.NoEndpoint
acknowledge_told c ep token (Receives r) = unless_taken (first_of ((r.closing, Refusal.Revoked) ∷ [])) c _ (acknowledge_at_told c ep r token (unmarked_message (fetched_at token r.fetched)))
acknowledge_told c ep token (Reaches r) = not_taken Refusal.NoEndpoint

-- ---- what is printed of it

abbrev pub Prints : State → ℕ → Command → IssueOutcome → Type 0
Prints s b c t = printed_at_issue s b c (shown_told t) ≡ told_reply t

prints_send : (s : State) (b ep : ℕ) (payload : List ℕ) (to : Option ℕ) (t : IssueOutcome) → IsRefusedOrFlies t → Prints s b (Command.Send ep payload to) t
prints_send s b ep payload to _ (refused why) = refl
prints_send s b ep payload to _ (flies id) = refl

prints_reply : (s : State) (b ep token : ℕ) (payload : List ℕ) (t : IssueOutcome) → IsRefusedOrFlies t → Prints s b (Command.Reply ep token payload) t
prints_reply s b ep token payload _ (refused why) = refl
prints_reply s b ep token payload _ (flies id) = refl

prints_read : (s : State) (b ep off len : ℕ) (t : IssueOutcome) → IsRefusedOrFlies t → Prints s b (Command.Read ep off len) t
prints_read s b ep off len _ (refused why) = refl
prints_read s b ep off len _ (flies id) = refl

prints_write : (s : State) (b ep off : ℕ) (payload : List ℕ) (t : IssueOutcome) → IsRefusedOrFlies t → Prints s b (Command.Write ep off payload) t
prints_write s b ep off payload _ (refused why) = refl
prints_write s b ep off payload _ (flies id) = refl

prints_acknowledge : (s : State) (b ep token : ℕ) (t : IssueOutcome) → IsRefusedOrAcknowledged t → Prints s b (Command.Acknowledge ep token) t
prints_acknowledge s b ep token _ (not_taken why) = refl
prints_acknowledge s b ep token _ (taken credit) = refl

prints_message : (s : State) (b ep t : ℕ) (m : Message) → front_at ep (context_of b s.contexts) ≡ Some m.header → printed_fetch s b ep (shown_message t m (m.header.flags == 0)) ≡ Reply.Fetched t m ∷ []
prints_message s b ep t m e = by_kind (m.header.flags == 0) refl
  where
    by_kind : (k : Bool) → (m.header.flags == 0) ≡ k → printed_fetch s b ep (shown_message t m k) ≡ Reply.Fetched t m ∷ []
    by_kind true w = ap (λ h. printed_message h t m.header.sender m.header.label m.payload) e ∙ ap (λ k. with_header k t m.header.sender m.header.label m.payload m.header) w
    by_kind false w = ap (λ h. printed_reply h t m.header.sender m.header.label m.payload) e ∙ ap (λ k. with_header (not k) t m.header.sender m.header.label m.payload m.header) w

prints_fetch_from : (s : State) (b ep : ℕ) (c : Context) (r : ReceiveRecord) (o : Option Refusal) (ms : List Message) → front_at ep (context_of b s.contexts) ≡ front_of ms → Prints s b (Command.Fetch ep) (unless_refusal o c (fetch_from c ep r ms)).told
prints_fetch_from s b ep c r (Some why) ms e = refl
prints_fetch_from s b ep c r None [] e = refl
prints_fetch_from s b ep c r None (m ∷ ms) e = prints_message s b ep r.next_token m e

prints_fetch : (s : State) (b ep : ℕ) (c : Context) (e : Endpoint) → front_at ep (context_of b s.contexts) ≡ front_header e → Prints s b (Command.Fetch ep) (fetch c ep e).told
prints_fetch s b ep c Free h = refl
prints_fetch s b ep c (Sends r) h = refl
prints_fetch s b ep c (Receives r) h = prints_fetch_from s b ep c r (first_of ((r.closing, Refusal.Revoked) ∷ [])) r.unread h
prints_fetch s b ep c (Reaches r) h = refl

not_busy : (x : Context) (d i : Issued) → unless_busy x d ≡ Some i → d ≡ i
not_busy x d i e = by_busy (is_busy x) e
  where
    by_busy : (k : Bool) → (if k then None else Some d) ≡ Some i → d ≡ i
    by_busy true w = absurd (cc)
    by_busy false w = cc

pub prints : (s : State) (b : ℕ) (c : Command) (x : Context) (i : Issued) → context_of b s.contexts ≡ Some x → issue x c ≡ Some i → Prints s b c i.told
prints s b (Command.Send ep payload to) x i h e =
    let w = not_busy x (send x ep payload to (endpoint x ep)) i e in
    subst (λ j. Prints s b (Command.Send ep payload to) j.told) w (prints_send s b ep payload to _ (send_told x ep payload to (endpoint x ep)))
prints s b (Command.Reply ep token payload) x i h e =
    let w = not_busy x (reply x ep token payload (endpoint x ep)) i e in
    subst (λ j. Prints s b (Command.Reply ep token payload) j.told) w (prints_reply s b ep token payload _ (reply_told x ep token payload (endpoint x ep)))
prints s b (Command.Fetch ep) x i h e =
    let w : fetch x ep (endpoint x ep) ≡ i = cc in
    subst (λ j. Prints s b (Command.Fetch ep) j.told) w (prints_fetch s b ep x (endpoint x ep) (ap (front_at ep) h))
prints s b (Command.Acknowledge ep token) x i h e =
    let w : acknowledge x ep token (endpoint x ep) ≡ i = cc in
    subst (λ j. Prints s b (Command.Acknowledge ep token) j.told) w (prints_acknowledge s b ep token _ (acknowledge_told x ep token (endpoint x ep)))
prints s b (Command.Read ep off len) x i h e =
    let w = not_busy x (read x ep off len (endpoint x ep)) i e in
    subst (λ j. Prints s b (Command.Read ep off len) j.told) w (prints_read s b ep off len _ (read_told x ep off len (endpoint x ep)))
prints s b (Command.Write ep off payload) x i h e =
    let w = not_busy x (write x ep off payload (endpoint x ep)) i e in
    subst (λ j. Prints s b (Command.Write ep off payload) j.told) w (prints_write s b ep off payload _ (write_told x ep off payload (endpoint x ep)))
