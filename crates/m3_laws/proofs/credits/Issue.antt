-- A command that is issued moves credits, and makes or loses none.
use Rattle.std.proofs.Common.{◌≡◌, ◌≢◌, ℕ, zero, suc, ◌+◌, ◌<◌, Bool, true, false, List, [], ◌∷◌, length, get_or, set, Some, None, refl, subst, arith}
use Rattle.std.specs.Prelude.{Option, if◌then◌else◌, ◌==◌}
use Rattle.std.proofs.lemmas.Bool.Decides.{nat_tests}
use Rattle.m3_base.specs.declared.command.Command.{Command}
use Rattle.m3_base.specs.declared.packet.Packet.{Packet}
use Rattle.m3_base.specs.Lists.Counting.{total, one}
use Rattle.m3_base.specs.Ideal.Context.{Endpoint, Free, Sends, Receives, Reaches, Context, endpoint}
use Rattle.m3_base.specs.Ideal.ReceiveRecord.{without_fetched, with_mark_at}
use Rattle.m3_base.specs.Ideal.Issue.{less_one, send, reply, fetch, acknowledge, read, write, Issued, issue, is_busy}
use Rattle.m3_laws.proofs.credits.EndpointWeights.{weight, context_weight, weight-less_one, weight-with_fetched, owed-without_token, owed-with_mark}
use Rattle.m3_base.proofs.Counting.{total-set}
use Rattle.std.proofs.lemmas.Option.{same_Some}

-- a credit of g in a packet that is no answer
abbrev pub bears : ℕ → Packet → Bool
bears g (Packet.Message to ep h m) = m.header.send == g
bears g (Packet.Credit id to h) = h == g
bears g packet = false

abbrev pub packet_weight : ℕ → Option Packet → ℕ
packet_weight g None = 0
packet_weight g (Some p) = one (bears g p)

pub in_range : (es : List Endpoint) (ep : ℕ) → get_or es ep Free ≢ Free → ep < length es
in_range [] ep h = absurd (h refl)
in_range (e ∷ es) zero h = omega arith
in_range (e ∷ es) (suc ep) h = omega (arith, in_range es ep h)

pub weight-with_endpoint : (g : ℕ) (es : List Endpoint) (ep : ℕ) (old e : Endpoint) → get_or es ep Free ≡ old → old ≢ Free → total (weight g) (set es ep e) + weight g old ≡ total (weight g) es + weight g e
weight-with_endpoint g es ep old e h n = grind (arith, in_range es ep, total-set (weight g) es ep e Free)

-- what a command leaves: its context and its packet have the credits that the context had
abbrev pub Keeps : ℕ → Context → Issued → Type 0
Keeps g c i = context_weight g i.context + packet_weight g i.packet ≡ context_weight g c

pub send_keeps : (g : ℕ) (c : Context) (ep : ℕ) (payload : List ℕ) (to : Option ℕ) (e : Endpoint) → endpoint c ep ≡ e → Keeps g c (send c ep payload to e)
send_keeps g c ep payload to Free h = grind arith
send_keeps g c ep payload to (Receives r) h = grind arith
send_keeps g c ep payload to (Reaches r) h = grind arith
send_keeps g c ep payload to (Sends r) h =
    grind (arith, nat_tests, weight-with_endpoint g c.endpoints ep (Sends r) (Sends (less_one r)) h, weight-less_one g r)

pub reply_keeps : (g : ℕ) (c : Context) (ep token : ℕ) (payload : List ℕ) (e : Endpoint) → endpoint c ep ≡ e → Keeps g c (reply c ep token payload e)
reply_keeps g c ep token payload Free h = grind arith
reply_keeps g c ep token payload (Sends r) h = grind arith
reply_keeps g c ep token payload (Reaches r) h = grind arith
reply_keeps g c ep token payload (Receives r) h =
    grind (arith, nat_tests, weight-with_endpoint g c.endpoints ep (Receives r) (Receives (with_mark_at true r token)) h, owed-with_mark g token true r.fetched)

pub fetch_keeps : (g : ℕ) (c : Context) (ep : ℕ) (e : Endpoint) → endpoint c ep ≡ e → Keeps g c (fetch c ep e)
fetch_keeps g c ep Free h = grind arith
fetch_keeps g c ep (Sends r) h = grind arith
fetch_keeps g c ep (Reaches r) h = grind arith
fetch_keeps g c ep (Receives r) h =
    grind (arith, nat_tests, weight-with_endpoint g c.endpoints ep (Receives r), weight-with_fetched g r)

pub acknowledge_keeps : (g : ℕ) (c : Context) (ep token : ℕ) (e : Endpoint) → endpoint c ep ≡ e → Keeps g c (acknowledge c ep token e)
acknowledge_keeps g c ep token Free h = grind arith
acknowledge_keeps g c ep token (Sends r) h = grind arith
acknowledge_keeps g c ep token (Reaches r) h = grind arith
acknowledge_keeps g c ep token (Receives r) h =
    grind (arith, nat_tests, weight-with_endpoint g c.endpoints ep (Receives r) (Receives (without_fetched r token)) h, owed-without_token g token r.fetched)

pub read_keeps : (g : ℕ) (c : Context) (ep off len : ℕ) (e : Endpoint) → endpoint c ep ≡ e → Keeps g c (read c ep off len e)
read_keeps g c ep off len Free h = grind arith
read_keeps g c ep off len (Sends r) h = grind arith
read_keeps g c ep off len (Receives r) h = grind arith
read_keeps g c ep off len (Reaches r) h = grind arith

pub write_keeps : (g : ℕ) (c : Context) (ep off : ℕ) (payload : List ℕ) (e : Endpoint) → endpoint c ep ≡ e → Keeps g c (write c ep off payload e)
write_keeps g c ep off payload Free h = grind arith
write_keeps g c ep off payload (Sends r) h = grind arith
write_keeps g c ep off payload (Receives r) h = grind arith
write_keeps g c ep off payload (Reaches r) h = grind arith

pub came_through : {X : Type 0} (b : Bool) (x y : X) → (if b then None else Some x) ≡ Some y → x ≡ y
came_through true x y e = absurd (cc)
came_through false x y e = cc

pub issue_keeps : (g : ℕ) (c : Context) (k : Command) (i : Issued) → issue c k ≡ Some i → Keeps g c i
issue_keeps g c (Command.Send ep payload to) i e = subst (Keeps g c) (came_through (is_busy c) _ i e) (send_keeps g c ep payload to (endpoint c ep) refl)
issue_keeps g c (Command.Reply ep token payload) i e = subst (Keeps g c) (came_through (is_busy c) _ i e) (reply_keeps g c ep token payload (endpoint c ep) refl)
issue_keeps g c (Command.Fetch ep) i e = subst (Keeps g c) (same_Some _ i e) (fetch_keeps g c ep (endpoint c ep) refl)
issue_keeps g c (Command.Acknowledge ep token) i e = subst (Keeps g c) (same_Some _ i e) (acknowledge_keeps g c ep token (endpoint c ep) refl)
issue_keeps g c (Command.Read ep off len) i e = subst (Keeps g c) (came_through (is_busy c) _ i e) (read_keeps g c ep off len (endpoint c ep) refl)
issue_keeps g c (Command.Write ep off payload) i e = subst (Keeps g c) (came_through (is_busy c) _ i e) (write_keeps g c ep off payload (endpoint c ep) refl)
