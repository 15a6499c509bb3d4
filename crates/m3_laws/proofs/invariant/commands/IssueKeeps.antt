-- A command leaves its context in order, and has its flight.
use Rattle.std.proofs.Common.{◌≡◌, ℕ, ◌+◌, ◌≤◌, Bool, true, false, List, [], ◌∷◌, ◌++◌, length, get_or, set, Some, None, refl, sym, subst, ◌∙◌, ap, arith, replicate}
use Rattle.std.specs.Prelude.{Option, ◌==◌, ◌&&◌, nat_lt}
use Rattle.std.specs.Option.{option_map}
use Rattle.std.proofs.lemmas.Bool.Decides.{nat_tests}
use Rattle.std.proofs.lemmas.List.{get_or-set_same, get_or-set_other, length-replicate}
use Rattle.m3_base.specs.Lists.Counting.{one, how_many}
use Rattle.m3_base.specs.declared.ids.FlightId.{FlightId}
use Rattle.m3_base.specs.declared.message.Message.{Message}
use Rattle.m3_base.specs.declared.packet.Fresh.{Fresh}
use Rattle.m3_base.specs.declared.packet.Packet.{Packet}
use Rattle.m3_base.specs.declared.packet.Perm.{Perm}
use Rattle.m3_base.specs.declared.command.Command.{Command}
use Rattle.m3_base.specs.declared.command.Refusal.{Refusal}
use Rattle.m3_base.specs.Ideal.Flights.{flight, name_of, same_name, new_flight}
use Rattle.m3_base.specs.Ideal.Context.{Kind, Sending, Replying, Reading, Writing, Flying, Fetched, SendRecord, ReceiveRecord, MemoryRecord, Endpoint, Free, Sends, Receives, Reaches, Context, endpoint, with_endpoint}
use Rattle.m3_base.specs.Ideal.ReceiveRecord.{fetched_at, unmarked_message, with_mark, with_fetched, without_fetched, with_mark_at, has_mark}
use Rattle.m3_base.specs.Ideal.Issue.{IssueOutcome, Issued, less_one, send, send_refusal, send_packet, reply, reply_to, reply_refusal, reply_packet, no_endpoint, fetch, fetch_from, acknowledge, acknowledge_at, after_acknowledge, credit_packet, read, write, access, access_refusal, may_read, may_write, unless_refusal, first_of, with_flying_command, next_id, issue, is_busy}
use Rattle.m3_base.specs.Ideal.Landing.{flying_at}
use Rattle.m3_base.specs.Ideal.Step.{with_packet}
use Rattle.m3_base.specs.Ideal.Credits.{covers}
use Rattle.m3_base.specs.Ideal.FlightNames.{Apart}
use Rattle.m3_base.proofs.FlightNames.{same_name-is, flight-new}
use Rattle.m3_base.proofs.FlightOrder.{find-new}
use Rattle.m3_laws.specs.WellFormed.{is_replying}
use Rattle.m3_laws.specs.CommandFlights.{SentThrough, IsReplyTo, AreZeros, fetched_in, message_of, IsFlightOf, HasFlight, AllFly, replies_to, Ascends, number_in, TokensAscend, ContextInOrder}
use Rattle.m3_laws.proofs.invariant.step.IssueEffects.{flying_at-other, flying_at-new}
use Rattle.m3_laws.proofs.credits.Issue.{in_range, came_through}
use Rattle.m3_laws.proofs.invariant.step.CommandRecordsStay.{fetched_at-mark}
use Rattle.m3_laws.proofs.invariant.commands.ListChanges.{ascends-push, flying_at-past, tokens-mark, message_at-mark, marked-mark}
use Rattle.m3_laws.proofs.invariant.commands.ChangeKeeps.{EndpointKeeps, endpoint_same, endpoint_form, endpoint_fetched, EndpointsKeep, endpoints_set, each_set, has_kept, flight_kept, replies_same, KeepsCommands, keeps_same, keeps_alike, keeps_freed}
use Rattle.m3_base.proofs.Counting.{how_many-append}
use Rattle.std.proofs.lemmas.Option.{same_Some}

-- ---- one more flight

-- a new name is none of a command that flies
pub all_fly-new : (c : Context) (p : Packet) (fs : List Packet) → Apart (name_of p) fs → AllFly fs c → AllFly (new_flight p fs) c
all_fly-new c p fs apart h n f e = by_name (same_name id (name_of p)) refl
  where
    id : FlightId
    id = record { issuer = c.act; number = n }

    by_name : (b : Bool) → same_name id (name_of p) ≡ b → HasFlight f (endpoint c f.ep) (flight id (new_flight p fs))
    by_name false w = subst (HasFlight f (endpoint c f.ep)) (sym (flight-new id p fs w)) (h n f e)
    by_name true w =
        let none : flight id fs ≡ None = subst (λ z. flight z fs ≡ None) (sym (same_name-is id (name_of p) w)) apart in
        absurd (subst (HasFlight f (endpoint c f.ep)) none (h n f e))

-- ---- what an issue does

pub record IssueKeepsCommands (c : Context) (i : Issued) : Type 0 where
  pub act : i.context.act ≡ c.act
  pub name : (p : Packet) → i.packet ≡ Some p → name_of p ≡ next_id c
  pub in_order : ContextInOrder c → ContextInOrder i.context
  pub fly : ContextInOrder c → (fs : List Packet) → Apart (next_id c) fs → AllFly fs c → AllFly (with_packet i.packet fs) i.context

-- nothing flies that didn't
keeps_unless_flown : (c : Context) (i : Issued) → i.packet ≡ None → KeepsCommands c i.context → IssueKeepsCommands c i
keeps_unless_flown c i none l = record {
  act = l.act;
  name = λ p e. absurd (cc);
  in_order = l.in_order;
  fly = λ h fs apart a. subst (λ z. AllFly (with_packet z fs) i.context) (sym none) (l.fly h fs a);
}

refused : (c : Context) (i : Issued) → i.context ≡ c → i.packet ≡ None → IssueKeepsCommands c i
refused c i same none = keeps_unless_flown c i none (subst (KeepsCommands c) (sym same) (keeps_same c))

-- a command flies, with its packet
module _ (c d : Context) (f : Flying) (p : Packet) (act : d.act ≡ c.act) (flying : d.flying ≡ c.flying ++ f ∷ []) (next : d.next ≡ c.next + 1) (number : f.number ≡ c.next) (name : name_of p ≡ next_id c) where
  launched_order : ((ep : ℕ) → TokensAscend (endpoint c ep) → TokensAscend (endpoint d ep)) → ((ep t : ℕ) → one (has_mark (fetched_in t (endpoint d ep))) ≡ one (has_mark (fetched_in t (endpoint c ep))) + one (replies_to ep t f)) → ContextInOrder c → ContextInOrder d
  launched_order tokens marks h = record {
    numbers = rw flying (rw next (subst (λ z. Ascends number_in 0 (c.flying ++ f ∷ []) (z + 1)) number (ascends-push number_in 0 c.flying f (subst (Ascends number_in 0 c.flying) (sym number) h.numbers))));
    tokens = λ ep. tokens ep (h.tokens ep);
    marks = λ ep t.
        let all = ap (how_many (replies_to ep t)) flying in
        let more = how_many-append (replies_to ep t) c.flying (f ∷ []) in
        let old = h.marks ep t in
        let new = marks ep t in
        omega (arith, all, more, old, new);
  }

  launched_fly : ((k : Kind) (t ep : ℕ) (q : Packet) → IsFlightOf k t (endpoint c ep) q → IsFlightOf k t (endpoint d ep) q) → IsFlightOf f.kind f.token (endpoint d f.ep) p → ContextInOrder c → (fs : List Packet) → Apart (next_id c) fs → AllFly fs c → AllFly (new_flight p fs) d
  launched_fly keeps own h fs apart a n x e = by_number (n == c.next) refl
    where
      none : flying_at f.number c.flying ≡ None
      none = flying_at-past f.number 0 c.next c.flying (subst (λ z. c.next ≤ z) (sym number) (omega arith)) h.numbers

      old : flying_at n c.flying ≡ Some x → HasFlight x (endpoint d x.ep) (flight (record { issuer = d.act; number = n }) (new_flight p fs))
      old w =
          let here = all_fly-new c p fs (subst (λ z. Apart z fs) (sym name) apart) a n x w in
          subst (λ z. HasFlight x (endpoint d x.ep) (flight (record { issuer = z; number = n }) (new_flight p fs))) (sym act) (has_kept x (endpoint c x.ep) (endpoint d x.ep) (λ q y. keeps x.kind x.token x.ep q y) _ here)

      there : flying_at n (c.flying ++ f ∷ []) ≡ Some x
      there = subst (λ z. flying_at n z ≡ Some x) flying e

      by_number : (b : Bool) → (n == c.next) ≡ b → HasFlight x (endpoint d x.ep) (flight (record { issuer = d.act; number = n }) (new_flight p fs))
      by_number false w = old (sym (flying_at-other n f c.flying (λ q. grind (arith, nat_tests, w, q, number))) ∙ there)
      by_number true w =
          let its : n ≡ f.number = grind (arith, nat_tests, w, number) in
          let same : Some f ≡ Some x = sym (flying_at-new f c.flying none) ∙ subst (λ z. flying_at z (c.flying ++ f ∷ []) ≡ Some x) its there in
          let found : flight (record { issuer = d.act; number = n }) (new_flight p fs) ≡ Some p = subst (λ z. flight z (new_flight p fs) ≡ Some p) (name ∙ id_is its) (find-new p fs (subst (λ z. Apart z fs) (sym name) apart)) in
          subst (λ z. HasFlight z (endpoint d z.ep) (flight (record { issuer = d.act; number = n }) (new_flight p fs))) (same_Some f x same) (subst (HasFlight f (endpoint d f.ep)) (sym found) own)
        where
          id_is : n ≡ f.number → next_id c ≡ record { issuer = d.act; number = n }
          id_is q = ap (λ z. record { issuer = z; number = c.next }) (sym act) ∙ ap (λ z. record { issuer = d.act; number = z }) (sym number ∙ sym q)

-- where it is no reply, and each endpoint is as it was but for its credits
launch-keeps : (c d : Context) (f : Flying) (p : Packet) (told : IssueOutcome) → is_replying f.kind ≡ false → d.act ≡ c.act → d.flying ≡ c.flying ++ f ∷ [] → d.next ≡ c.next + 1 → f.number ≡ c.next → name_of p ≡ next_id c → EndpointsKeep c.endpoints d.endpoints → IsFlightOf f.kind f.token (endpoint d f.ep) p → IssueKeepsCommands c (record { told = told; packet = Some p; context = d })
launch-keeps c d f p told kind act flying next number name each own = record {
  act = act;
  name = λ q e. ap name_of (sym (same_Some p q e)) ∙ name;
  in_order = launched_order c d f p act flying next number name (λ ep. (each ep).tokens) (λ ep t. let same = ap one ((each ep).marks t) in let none = no ep t in omega (arith, same, none));
  fly = launched_fly c d f p act flying next number name (λ k t ep q. (each ep).flights k t q) own;
}
  where
    no : (ep t : ℕ) → one (replies_to ep t f) ≡ 0
    no ep t = ap (λ b. one (b && ((f.ep == ep) && (f.token == t)))) kind

-- ---- send

sent : (c : Context) (ep : ℕ) (payload : List ℕ) (to : Option ℕ) (r : SendRecord) → endpoint c ep ≡ Sends r → (why : Option Refusal) → send_refusal c r payload to ≡ why → IssueKeepsCommands c (unless_refusal why c (record { told = IssueOutcome.Flies (next_id c); packet = Some (send_packet c r payload to); context = with_endpoint (with_flying_command c Sending ep 0) ep (Sends (less_one r)) }))
sent c ep payload to r at (Some why) w = refused c _ refl refl
sent c ep payload to r at None w =
    let e : Endpoint = Sends (less_one r) in
    let d : Context = with_endpoint (with_flying_command c Sending ep 0) ep e in
    let f : Flying = record { number = c.next; kind = Sending; ep = ep; token = 0 } in
    let there : endpoint d ep ≡ e = get_or-set_same c.endpoints ep e Free (in_range c.endpoints ep (λ x. cc)) in
    let short : nat_lt r.size (length payload) ≡ false = grind (arith, w) in
    let form : SentThrough r.grant r.to r.to_ep r.to_grant r.label r.size r.to r.to_ep r.to_grant _ = record { act = refl; endpoint = refl; receive = refl; flags = refl; send = refl; label = refl; short = grind (arith, nat_tests, short) } in
    let each : EndpointsKeep c.endpoints d.endpoints = endpoints_set c.endpoints ep e (subst (λ z. EndpointKeeps z e) (sym at) (endpoint_form (Sends r) e refl (λ t. refl) (λ h. h))) in
    launch-keeps c d f (send_packet c r payload to) (IssueOutcome.Flies (next_id c)) refl refl refl refl refl refl each (subst (λ z. IsFlightOf Sending 0 z (send_packet c r payload to)) (sym there) form)

send-keeps : (c : Context) (ep : ℕ) (payload : List ℕ) (to : Option ℕ) (e : Endpoint) → endpoint c ep ≡ e → IssueKeepsCommands c (send c ep payload to e)
send-keeps c ep payload to (Sends r) at = sent c ep payload to r at (send_refusal c r payload to) refl
send-keeps c ep payload to Free at = refused c _ refl refl
send-keeps c ep payload to (Receives r) at = refused c _ refl refl
send-keeps c ep payload to (Reaches r) at = refused c _ refl refl

-- ---- reply

unmarked_is : (o : Option Fetched) (m : Message) → unmarked_message o ≡ Some m → (option_map message_of o ≡ Some m) × (has_mark o ≡ false)
unmarked_is None m e = absurd (cc)
unmarked_is (Some f) m e = by_mark f.marked refl
  where
    by_mark : (b : Bool) → f.marked ≡ b → (Some f.message ≡ Some m) × (f.marked ≡ false)
    by_mark true w = absurd (grind (arith, w, e))
    by_mark false w = (grind (arith, w, e), w)

marked_now : (token : ℕ) (m : Message) (fs : List Fetched) → unmarked_message (fetched_at token fs) ≡ Some m → has_mark (fetched_at token (with_mark true token fs)) ≡ true
marked_now token m fs e = by_fetched (fetched_at token fs) refl e
  where
    by_fetched : (o : Option Fetched) → fetched_at token fs ≡ o → unmarked_message o ≡ Some m → has_mark (fetched_at token (with_mark true token fs)) ≡ true
    by_fetched None w e = absurd (cc)
    by_fetched (Some f) w e = marked-mark true token f fs w

module _ (c : Context) (ep token : ℕ) (payload : List ℕ) (r : ReceiveRecord) (m : Message) (at : endpoint c ep ≡ Receives r) (e : unmarked_message (fetched_at token r.fetched) ≡ Some m) where
  abbrev replying : Context
  replying = with_endpoint (with_flying_command c Replying ep token) ep (Receives (with_mark_at true r token))

  abbrev command : Flying
  command = record { number = c.next; kind = Replying; ep = ep; token = token }

  there : get_or (set c.endpoints ep (Receives (with_mark_at true r token))) ep Free ≡ Receives (with_mark_at true r token)
  there = get_or-set_same c.endpoints ep (Receives (with_mark_at true r token)) Free (in_range c.endpoints ep (λ x. cc))

  -- the mark of this message alone is another
  marks : (i t : ℕ) → one (has_mark (fetched_in t (get_or (set c.endpoints ep (Receives (with_mark_at true r token))) i Free))) ≡ one (has_mark (fetched_in t (endpoint c i))) + one ((ep == i) && (token == t))
  marks i t = by_ep (ep == i) refl (token == t) refl
    where
      by_ep : (b : Bool) → (ep == i) ≡ b → (d : Bool) → (token == t) ≡ d → one (has_mark (fetched_in t (get_or (set c.endpoints ep (Receives (with_mark_at true r token))) i Free))) ≡ one (has_mark (fetched_in t (endpoint c i))) + one (b && d)
      by_ep false w d v =
          let same = ap (λ z. one (has_mark (fetched_in t z))) (get_or-set_other c.endpoints ep i (Receives (with_mark_at true r token)) Free (λ q. grind (arith, nat_tests, w, q))) in
          omega (arith, same)
      by_ep true w false v =
          let here : ep ≡ i = grind (arith, nat_tests, w) in
          let new = ap (λ z. one (has_mark (fetched_in t z))) (subst (λ z. get_or (set c.endpoints ep (Receives (with_mark_at true r token))) z Free ≡ Receives (with_mark_at true r token)) here there) in
          let old = ap (λ z. one (has_mark (fetched_in t z))) (subst (λ z. endpoint c z ≡ Receives r) here at) in
          let same = ap (λ z. one (has_mark z)) (fetched_at-mark t token true r.fetched (λ q. grind (arith, nat_tests, v, q))) in
          omega (arith, new, old, same)
      by_ep true w true v =
          let here : ep ≡ i = grind (arith, nat_tests, w) in
          let its : token ≡ t = grind (arith, nat_tests, v) in
          let new = ap (λ z. one (has_mark (fetched_in t z))) (subst (λ z. get_or (set c.endpoints ep (Receives (with_mark_at true r token))) z Free ≡ Receives (with_mark_at true r token)) here there) in
          let old = ap (λ z. one (has_mark (fetched_in t z))) (subst (λ z. endpoint c z ≡ Receives r) here at) in
          let yes = ap one (subst (λ z. has_mark (fetched_at z (with_mark true token r.fetched)) ≡ true) its (marked_now token m r.fetched e)) in
          let was = ap one (subst (λ z. has_mark (fetched_at z r.fetched) ≡ false) its (unmarked_is (fetched_at token r.fetched) m e).1) in
          omega (arith, new, old, yes, was)

  keeps : (k : Kind) (t i : ℕ) (q : Packet) → IsFlightOf k t (endpoint c i) q → IsFlightOf k t (get_or (set c.endpoints ep (Receives (with_mark_at true r token))) i Free) q
  keeps k t i q x = each_set (λ j d. IsFlightOf k t (endpoint c j) q → IsFlightOf k t d q) c ep (Receives (with_mark_at true r token)) (λ j y. y) (λ y. flight_kept k t (Receives r) (Receives (with_mark_at true r token)) q refl (λ w. replies_same t (Receives r) (Receives (with_mark_at true r token)) (message_at-mark true t token r.fetched)) (subst (λ z. IsFlightOf k t z q) at y)) i x

  tokens : (i : ℕ) → TokensAscend (endpoint c i) → TokensAscend (get_or (set c.endpoints ep (Receives (with_mark_at true r token))) i Free)
  tokens i h = each_set (λ j d. TokensAscend (endpoint c j) → TokensAscend d) c ep (Receives (with_mark_at true r token)) (λ j y. y) (λ y. tokens-mark true token 0 r.next_token r.fetched (subst TokensAscend at y)) i h

  own : IsFlightOf Replying token (endpoint replying ep) (reply_packet c payload m)
  own = subst (λ z. IsFlightOf Replying token z (reply_packet c payload m)) (sym there) (subst (λ z. IsReplyTo z m.header.sender m.header.reply_ep m.header.reply (record { header = record { flags = 1; reply_ep = no_endpoint; sender = c.act; lane = 0; length = length payload; send = m.header.send; reply = 0; number = c.next; label = m.header.label }; payload = payload })) (sym (message_at-mark true token token r.fetched ∙ (unmarked_is (fetched_at token r.fetched) m e).0)) (record { act = refl; endpoint = refl; receive = refl; flags = refl; send = refl; label = refl }))

  reply_done : IssueKeepsCommands c (reply_to c ep token payload r (Some m))
  reply_done = record {
    act = refl;
    name = λ q w. ap name_of (sym (same_Some (reply_packet c payload m) q w));
    in_order = launched_order c replying command (reply_packet c payload m) refl refl refl refl refl tokens marks;
    fly = launched_fly c replying command (reply_packet c payload m) refl refl refl refl refl keeps own;
  }

reply_by : (c : Context) (ep token : ℕ) (payload : List ℕ) (r : ReceiveRecord) → endpoint c ep ≡ Receives r → (why : Option Refusal) (o : Option Message) → unmarked_message (fetched_at token r.fetched) ≡ o → IssueKeepsCommands c (unless_refusal why c (reply_to c ep token payload r o))
reply_by c ep token payload r at (Some why) o e = refused c _ refl refl
reply_by c ep token payload r at None None e = refused c _ refl refl
reply_by c ep token payload r at None (Some m) e = reply_done c ep token payload r m at e

reply-keeps : (c : Context) (ep token : ℕ) (payload : List ℕ) (e : Endpoint) → endpoint c ep ≡ e → IssueKeepsCommands c (reply c ep token payload e)
reply-keeps c ep token payload (Receives r) at = reply_by c ep token payload r at (reply_refusal r token payload) (unmarked_message (fetched_at token r.fetched)) refl
reply-keeps c ep token payload Free at = refused c _ refl refl
reply-keeps c ep token payload (Sends r) at = refused c _ refl refl
reply-keeps c ep token payload (Reaches r) at = refused c _ refl refl

-- ---- fetch and acknowledge

fetch_by : (c : Context) (ep : ℕ) (r : ReceiveRecord) → endpoint c ep ≡ Receives r → (why : Option Refusal) (ms : List Message) → IssueKeepsCommands c (unless_refusal why c (fetch_from c ep r ms))
fetch_by c ep r at (Some why) ms = refused c _ refl refl
fetch_by c ep r at None [] = refused c _ refl refl
fetch_by c ep r at None (m ∷ rest) =
    let e : Endpoint = Receives (with_fetched r m rest) in
    keeps_unless_flown c _ refl (keeps_alike c (with_endpoint c ep e) refl refl (omega arith) (endpoints_set c.endpoints ep e (subst (λ z. EndpointKeeps z e) (sym at) (endpoint_fetched r m rest))))

fetch-keeps : (c : Context) (ep : ℕ) (e : Endpoint) → endpoint c ep ≡ e → IssueKeepsCommands c (fetch c ep e)
fetch-keeps c ep (Receives r) at = fetch_by c ep r at (first_of ((r.closing, Refusal.Revoked) ∷ [])) r.unread
fetch-keeps c ep Free at = refused c _ refl refl
fetch-keeps c ep (Sends r) at = refused c _ refl refl
fetch-keeps c ep (Reaches r) at = refused c _ refl refl

acknowledge_done : (c : Context) (ep token : ℕ) (r : ReceiveRecord) (m : Message) → endpoint c ep ≡ Receives r → unmarked_message (fetched_at token r.fetched) ≡ Some m → (b : Bool) → IssueKeepsCommands c (after_acknowledge c ep r token m b)
acknowledge_done c ep token r m at e false = keeps_unless_flown c _ refl (keeps_freed c ep token c.next r at (unmarked_is (fetched_at token r.fetched) m e).1 (omega arith))
acknowledge_done c ep token r m at e true =
    let l = keeps_freed c ep token (c.next + 1) r at (unmarked_is (fetched_at token r.fetched) m e).1 (omega arith) in
    record {
      act = refl;
      name = λ q w. ap name_of (sym (same_Some (credit_packet c m) q w));
      in_order = l.in_order;
      fly = λ h fs apart a. all_fly-new (record (with_endpoint c ep (Receives (without_fetched r token))) { next = c.next + 1 }) (credit_packet c m) fs apart (l.fly h fs a);
    }

acknowledge_by : (c : Context) (ep token : ℕ) (r : ReceiveRecord) → endpoint c ep ≡ Receives r → (why : Option Refusal) (o : Option Message) → unmarked_message (fetched_at token r.fetched) ≡ o → IssueKeepsCommands c (unless_refusal why c (acknowledge_at c ep r token o))
acknowledge_by c ep token r at (Some why) o e = refused c _ refl refl
acknowledge_by c ep token r at None None e = refused c _ refl refl
acknowledge_by c ep token r at None (Some m) e = acknowledge_done c ep token r m at e (m.header.flags == 0)

acknowledge-keeps : (c : Context) (ep token : ℕ) (e : Endpoint) → endpoint c ep ≡ e → IssueKeepsCommands c (acknowledge c ep token e)
acknowledge-keeps c ep token (Receives r) at = acknowledge_by c ep token r at (first_of ((r.closing, Refusal.Revoked) ∷ [])) (unmarked_message (fetched_at token r.fetched)) refl
acknowledge-keeps c ep token Free at = refused c _ refl refl
acknowledge-keeps c ep token (Sends r) at = refused c _ refl refl
acknowledge-keeps c ep token (Reaches r) at = refused c _ refl refl

-- ---- read and write

accessed : (c : Context) (kind : Kind) (ep : ℕ) (p : Packet) → is_replying kind ≡ false → name_of p ≡ next_id c → IsFlightOf kind 0 (endpoint c ep) p → IssueKeepsCommands c (access c kind ep p)
accessed c kind ep p other name own = launch-keeps c (with_flying_command c kind ep 0) (record { number = c.next; kind = kind; ep = ep; token = 0 }) p (IssueOutcome.Flies (next_id c)) other refl refl refl refl name (λ i. endpoint_same (endpoint c i)) own

read_by : (c : Context) (ep off len : ℕ) (r : MemoryRecord) → endpoint c ep ≡ Reaches r → (why : Option Refusal) → access_refusal r off len (may_read r.perm) ≡ why → IssueKeepsCommands c (unless_refusal why c (access c Reading ep (Packet.Read (next_id c) r.grant (r.start + off) (replicate len 0))))
read_by c ep off len r at (Some why) w = refused c _ refl refl
read_by c ep off len r at None w =
    let bytes : List ℕ = replicate len 0 in
    let long : length bytes ≡ len = length-replicate len 0 in
    let inside : nat_lt r.length (off + len) ≡ false = grind (arith, w) in
    let allowed : may_read r.perm ≡ true = grind (arith, w) in
    let range : covers r.grant (r.start + off) len Perm.R (Fresh.Memory r.grant r.start r.length r.perm) ≡ true = grind (arith, nat_tests, inside, allowed) in
    let zeros : AreZeros (replicate len 0) = ap (λ n. replicate n 0) (sym long) in
    accessed c Reading ep (Packet.Read (next_id c) r.grant (r.start + off) (replicate len 0)) refl refl (subst (λ z. IsFlightOf Reading 0 z (Packet.Read (next_id c) r.grant (r.start + off) (replicate len 0))) (sym at) (subst (λ n. covers r.grant (r.start + off) n Perm.R (Fresh.Memory r.grant r.start r.length r.perm) ≡ true) (sym long) range, zeros))

write_by : (c : Context) (ep off : ℕ) (payload : List ℕ) (r : MemoryRecord) → endpoint c ep ≡ Reaches r → (why : Option Refusal) → access_refusal r off (length payload) (may_write r.perm) ≡ why → IssueKeepsCommands c (unless_refusal why c (access c Writing ep (Packet.Write (next_id c) r.grant (r.start + off) payload)))
write_by c ep off payload r at (Some why) w = refused c _ refl refl
write_by c ep off payload r at None w =
    let inside : nat_lt r.length (off + length payload) ≡ false = grind (arith, w) in
    let allowed : may_write r.perm ≡ true = grind (arith, w) in
    let range : covers r.grant (r.start + off) (length payload) Perm.W (Fresh.Memory r.grant r.start r.length r.perm) ≡ true = grind (arith, nat_tests, inside, allowed) in
    accessed c Writing ep (Packet.Write (next_id c) r.grant (r.start + off) payload) refl refl (subst (λ z. IsFlightOf Writing 0 z (Packet.Write (next_id c) r.grant (r.start + off) payload)) (sym at) range)

read-keeps : (c : Context) (ep off len : ℕ) (e : Endpoint) → endpoint c ep ≡ e → IssueKeepsCommands c (read c ep off len e)
read-keeps c ep off len (Reaches r) at = read_by c ep off len r at (access_refusal r off len (may_read r.perm)) refl
read-keeps c ep off len Free at = refused c _ refl refl
read-keeps c ep off len (Sends r) at = refused c _ refl refl
read-keeps c ep off len (Receives r) at = refused c _ refl refl

write-keeps : (c : Context) (ep off : ℕ) (payload : List ℕ) (e : Endpoint) → endpoint c ep ≡ e → IssueKeepsCommands c (write c ep off payload e)
write-keeps c ep off payload (Reaches r) at = write_by c ep off payload r at (access_refusal r off (length payload) (may_write r.perm)) refl
write-keeps c ep off payload Free at = refused c _ refl refl
write-keeps c ep off payload (Sends r) at = refused c _ refl refl
write-keeps c ep off payload (Receives r) at = refused c _ refl refl

-- ---- any command

pub issue-keeps : (c : Context) (k : Command) (i : Issued) → issue c k ≡ Some i → IssueKeepsCommands c i
issue-keeps c (Command.Send ep payload to) i e = subst (IssueKeepsCommands c) (came_through (is_busy c) _ i e) (send-keeps c ep payload to (endpoint c ep) refl)
issue-keeps c (Command.Reply ep token payload) i e = subst (IssueKeepsCommands c) (came_through (is_busy c) _ i e) (reply-keeps c ep token payload (endpoint c ep) refl)
issue-keeps c (Command.Fetch ep) i e = subst (IssueKeepsCommands c) (same_Some _ i e) (fetch-keeps c ep (endpoint c ep) refl)
issue-keeps c (Command.Acknowledge ep token) i e = subst (IssueKeepsCommands c) (same_Some _ i e) (acknowledge-keeps c ep token (endpoint c ep) refl)
issue-keeps c (Command.Read ep off len) i e = subst (IssueKeepsCommands c) (came_through (is_busy c) _ i e) (read-keeps c ep off len (endpoint c ep) refl)
issue-keeps c (Command.Write ep off payload) i e = subst (IssueKeepsCommands c) (came_through (is_busy c) _ i e) (write-keeps c ep off payload (endpoint c ep) refl)
