-- The credits of a send grant, and its messages.
use Rattle.std.specs.Prelude.{ℕ, ◌+◌, Bool, true, false, not, ◌&&◌, ◌||◌, ◌==◌, List, nat_le, IsTrue, Option, Some, None, if◌then◌else◌}
use Rattle.m3_base.specs.Lists.Counting.{total, how_many}
use Rattle.m3_base.specs.declared.message.Message.{Message}
use Rattle.m3_base.specs.declared.packet.Packet.{Packet}
use Rattle.m3_base.specs.declared.command.Answer.{Answer}
use Rattle.m3_base.specs.declared.packet.Fresh.{Fresh}
use Rattle.m3_base.specs.Ideal.Context.{Kind, Sending, Replying, Flying, Fetched, Endpoint, Free, Sends, Receives, Reaches, Context, endpoint}
use Rattle.m3_base.specs.Ideal.ReceiveRecord.{fetched_at}
use Rattle.m3_base.specs.Ideal.Landing.{flying_at}
use Rattle.m3_base.specs.declared.packet.Perm.{Perm}
use Rattle.m3_base.specs.Ideal.State.{State, Grant, context_of, grant_in, is_live}
use Rattle.m3_base.specs.Ideal.GrantRules.{is_within_perm, is_closing_grant}

-- a message sent through g that isn't a reply
abbrev pub is_sent_by : ℕ → Message → Bool
is_sent_by g m = (m.header.flags == 0) && (m.header.send == g)

abbrev pub is_owed : ℕ → Fetched → Bool
is_owed g f = is_sent_by g f.message && not f.marked

abbrev pub queued_at : ℕ → Endpoint → ℕ
queued_at g (Receives r) = how_many (is_sent_by g) r.unread + how_many (is_owed g) r.fetched
queued_at g Free = 0
queued_at g (Sends r) = 0
queued_at g (Reaches r) = 0

abbrev pub held_at : ℕ → Endpoint → ℕ
held_at g (Sends r) = if r.grant == g then r.held else 0
held_at g _ = 0

-- ---- flights that carry a credit

abbrev pub is_through : ℕ → Option Fetched → Bool
is_through g None = false
is_through g (Some f) = f.message.header.send == g

-- a refused command of this kind, token and endpoint gives a credit of g back
abbrev pub gives_back : ℕ → Kind → ℕ → Endpoint → Bool
gives_back g Sending t (Sends r) = r.grant == g
gives_back g Replying t (Receives r) = is_through g (fetched_at t r.fetched)
gives_back g kind t e = false

abbrev pub gives_back_by : ℕ → Context → Option Flying → Bool
gives_back_by g c None = false
gives_back_by g c (Some f) = gives_back g f.kind f.token (endpoint c f.ep)

abbrev pub gives_back_in : ℕ → ℕ → Option Context → Bool
gives_back_in g n None = false
gives_back_in g n (Some c) = gives_back_by g c (flying_at n c.flying)

abbrev pub is_refusal : Answer → Bool
is_refusal (Answer.Refused why) = true
is_refusal answer = false

-- a message through g, a reply to one, a credit of g, or a refused answer to either of the first two
abbrev pub carries_credit : ℕ → List Context → Packet → Bool
carries_credit g cs (Packet.Message to ep h m) = m.header.send == g
carries_credit g cs (Packet.Credit id to h) = h == g
carries_credit g cs (Packet.Answer id answer) = is_refusal answer && gives_back_in g id.number (context_of id.issuer cs)
carries_credit g cs packet = false

-- the limit of g, while the Install of its record flies
abbrev pub queued_credits : ℕ → Packet → ℕ
queued_credits g (Packet.Install id to ep (Fresh.Send h a b c label size limit)) = if h == g then limit else 0
queued_credits g packet = 0

-- ---- the credits of g

abbrev pub credits_held : ℕ → State → ℕ
credits_held g s = total (λ c. total (held_at g) c.endpoints) s.contexts + total (queued_credits g) s.flights

abbrev pub credits_flying : ℕ → State → ℕ
credits_flying g s = how_many (carries_credit g s.contexts) s.flights

abbrev pub credits_queued : ℕ → State → ℕ
credits_queued g s = total (λ c. total (queued_at g) c.endpoints) s.contexts

abbrev pub credits : ℕ → State → ℕ
credits g s = credits_held g s + credits_flying g s + credits_queued g s

-- ---- access

abbrev pub covers : ℕ → ℕ → ℕ → Perm → Fresh → Bool
covers g at len perm (Fresh.Memory h start length its) =
    nat_le start at && (nat_le (at + len) (start + length) && is_within_perm perm its)
covers g at len perm f = false

abbrev pub granted_by : ℕ → ℕ → ℕ → Perm → Option Grant → Bool
granted_by g at len perm None = false
granted_by g at len perm (Some x) = (is_live x.standing || is_closing_grant x.standing) && covers g at len perm x.fresh

-- g is a live or closing range grant, these bytes lie in its range, and it has the permission
abbrev pub Granted : State → ℕ → ℕ → ℕ → Perm → Type 0
Granted s g at len perm = IsTrue (granted_by g at len perm (grant_in s.grants g))
