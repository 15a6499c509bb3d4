-- What a change of one context leaves of its commands: their flights, their marks and their numbers.
use Rattle.std.proofs.Common.{◌≡◌, ℕ, zero, suc, ◌+◌, ◌≤◌, Bool, true, false, List, [], ◌∷◌, length, get_or, set, Some, None, refl, sym, subst, ◌∙◌, ap, arith, inl, inr}
use Rattle.std.specs.Prelude.{Option, ◌==◌, ◌⊎◌, ◌&&◌, if◌then◌else◌}
use Rattle.std.specs.Option.{option_map}
use Rattle.std.specs.List.{list_any}
use Rattle.std.proofs.lemmas.Bool.Decides.{nat_tests}
use Rattle.m3_base.specs.Lists.Counting.{one, how_many}
use Rattle.m3_base.specs.declared.message.Message.{Message}
use Rattle.m3_base.specs.declared.packet.Fresh.{Fresh}
use Rattle.m3_base.specs.declared.packet.Packet.{Packet}
use Rattle.m3_base.specs.declared.packet.Perm.{Perm}
use Rattle.m3_base.specs.Ideal.Flights.{flight}
use Rattle.m3_base.specs.Ideal.Context.{Kind, Sending, Replying, Reading, Writing, Flying, Fetched, ReceiveRecord, Endpoint, Free, Sends, Receives, Reaches, Context, endpoint, with_endpoint, new_endpoint}
use Rattle.m3_base.specs.Ideal.ReceiveRecord.{fetched_at, without_token, with_fetched, without_fetched, has_mark}
use Rattle.m3_base.specs.Ideal.Landing.{flying_at, with_message, more_at, endpoints_with_credit, sends_by, with_credit, after_message, closed_at, flies_at, is_command_at, one_more}
use Rattle.m3_laws.specs.GrantInvariant.{form_of}
use Rattle.m3_laws.specs.WellFormed.{is_replying}
use Rattle.m3_laws.specs.CommandFlights.{IsSentBy, IsReplyTo, IsInRange, fetched_in, message_of, IsFlightOf, HasFlight, AllFly, replies_to, Ascends, number_in, token_of, TokensAscend, ContextInOrder}
use Rattle.m3_laws.proofs.invariant.step.CommandRecordsStay.{fetched_at-without}
use Rattle.m3_laws.proofs.credits.Counting.{at_set}
use Rattle.m3_laws.proofs.invariant.wellformed.OrdersKeep.{none_uses}
use Rattle.m3_laws.proofs.invariant.commands.ListChanges.{marked-push, reply-push, ascends-push, ascends-higher, tokens-without, fetched_at-gone, one_flying}

-- ---- one endpoint in place of another

abbrev pub reply_of : ℕ → Endpoint → Option Message
reply_of t e = option_map message_of (fetched_in t e)

-- a reply to a message of this token stays one
abbrev pub RepliesStay : ℕ → Endpoint → Endpoint → Type 0
RepliesStay t e d = (to ep h : ℕ) (m : Message) → IsReplyTo (reply_of t e) to ep h m → IsReplyTo (reply_of t d) to ep h m

pub replies_same : (t : ℕ) (e d : Endpoint) → reply_of t d ≡ reply_of t e → RepliesStay t e d
replies_same t e d q to ep h m r = subst (λ z. IsReplyTo z to ep h m) (sym q) r

-- where the form stays, so does what flies
pub flight_kept : (k : Kind) (t : ℕ) (e d : Endpoint) (p : Packet) → form_of d ≡ form_of e → (is_replying k ≡ true → RepliesStay t e d) → IsFlightOf k t e p → IsFlightOf k t d p
flight_kept Sending t e d (Packet.Message to ep h m) f q x = subst (λ z. IsSentBy z to ep h m) (sym f) x
flight_kept Replying t e d (Packet.Message to ep h m) f q x = q refl to ep h m x
flight_kept Reading t e d (Packet.Read id h place buffer) f q x = (subst (λ z. IsInRange z h place (length buffer) Perm.R) (sym f) x.0, x.1)
flight_kept Writing t e d (Packet.Write id h place payload) f q x = subst (λ z. IsInRange z h place (length payload) Perm.W) (sym f) x
flight_kept k t e d (Packet.Answer id answer) f q x = x
flight_kept k t e d p f q x = x

-- at a Free endpoint answers alone are awaited
flight_opened : (k : Kind) (t : ℕ) (d : Endpoint) (p : Packet) → IsFlightOf k t Free p → IsFlightOf k t d p
flight_opened Sending t d (Packet.Message to ep h m) x = absurd x
flight_opened Replying t d (Packet.Message to ep h m) x = absurd x
flight_opened Reading t d (Packet.Read id h place buffer) x = absurd x.0
flight_opened Writing t d (Packet.Write id h place payload) x = absurd x
flight_opened k t d (Packet.Answer id answer) x = x
flight_opened k t d p x = absurd x

-- e may become d, whichever commands fly
pub record EndpointKeeps (e d : Endpoint) : Type 0 where
  pub flights : (k : Kind) (t : ℕ) (p : Packet) → IsFlightOf k t e p → IsFlightOf k t d p
  pub marks : (t : ℕ) → has_mark (fetched_in t d) ≡ has_mark (fetched_in t e)
  pub tokens : TokensAscend e → TokensAscend d

pub endpoint_same : (e : Endpoint) → EndpointKeeps e e
endpoint_same e = record { flights = λ k t p x. x; marks = λ t. refl; tokens = λ h. h }

pub endpoint_then : (a b c : Endpoint) → EndpointKeeps a b → EndpointKeeps b c → EndpointKeeps a c
endpoint_then a b c x y = record { flights = λ k t p h. y.flights k t p (x.flights k t p h); marks = λ t. y.marks t ∙ x.marks t; tokens = λ h. y.tokens (x.tokens h) }

-- the same form, and the same fetched messages
pub endpoint_form : (e d : Endpoint) → form_of d ≡ form_of e → ((t : ℕ) → fetched_in t d ≡ fetched_in t e) → (TokensAscend e → TokensAscend d) → EndpointKeeps e d
endpoint_form e d f q h = record {
  flights = λ k t p x. flight_kept k t e d p f (λ r. replies_same t e d (ap (option_map message_of) (q t))) x;
  marks = λ t. ap has_mark (q t);
  tokens = h;
}

endpoint_joined : (m : Message) (e : Endpoint) → EndpointKeeps e (with_message m e)
endpoint_joined m Free = endpoint_same Free
endpoint_joined m (Sends r) = endpoint_same (Sends r)
endpoint_joined m (Reaches r) = endpoint_same (Reaches r)
endpoint_joined m (Receives r) = endpoint_form (Receives r) (with_message m (Receives r)) refl (λ t. refl) (λ h. h)

endpoint_more : (e : Endpoint) → EndpointKeeps e (more_at e)
endpoint_more Free = endpoint_same Free
endpoint_more (Sends r) = endpoint_form (Sends r) (Sends (one_more r)) refl (λ t. refl) (λ h. h)
endpoint_more (Receives r) = endpoint_same (Receives r)
endpoint_more (Reaches r) = endpoint_same (Reaches r)

endpoint_closed : (e : Endpoint) → EndpointKeeps e (closed_at e)
endpoint_closed Free = endpoint_same Free
endpoint_closed (Sends r) = endpoint_form (Sends r) (closed_at (Sends r)) refl (λ t. refl) (λ h. h)
endpoint_closed (Receives r) = endpoint_form (Receives r) (closed_at (Receives r)) refl (λ t. refl) (λ h. h)
endpoint_closed (Reaches r) = endpoint_form (Reaches r) (closed_at (Reaches r)) refl (λ t. refl) (λ h. h)

endpoint_opened : (f : Fresh) → EndpointKeeps Free (new_endpoint f)
endpoint_opened f = record { flights = λ k t p x. flight_opened k t (new_endpoint f) p x; marks = λ t. none f t; tokens = λ h. ascends f }
  where
    none : (f : Fresh) (t : ℕ) → has_mark (fetched_in t (new_endpoint f)) ≡ false
    none (Fresh.Send g a b c l s n) t = refl
    none (Fresh.Receive g slots size) t = refl
    none (Fresh.Memory g start len perm) t = refl

    ascends : (f : Fresh) → TokensAscend (new_endpoint f)
    ascends (Fresh.Send g a b c l s n) = tt
    ascends (Fresh.Receive g slots size) = omega arith
    ascends (Fresh.Memory g start len perm) = tt

-- ---- all endpoints

abbrev pub EndpointsKeep : List Endpoint → List Endpoint → Type 0
EndpointsKeep es ds = (i : ℕ) → EndpointKeeps (get_or es i Free) (get_or ds i Free)

pub endpoints_set : (es : List Endpoint) (ep : ℕ) (e : Endpoint) → EndpointKeeps (get_or es ep Free) e → EndpointsKeep es (set es ep e)
endpoints_set es ep e h i = by_set (at_set es ep i e)
  where
    by_set : (get_or (set es ep e) i Free ≡ get_or es i Free) ⊎ ((i ≡ ep) × (get_or (set es ep e) i Free ≡ e)) → EndpointKeeps (get_or es i Free) (get_or (set es ep e) i Free)
    by_set (inl q) = subst (EndpointKeeps (get_or es i Free)) (sym q) (endpoint_same (get_or es i Free))
    by_set (inr q) = subst (EndpointKeeps (get_or es i Free)) (sym q.1) (subst (λ z. EndpointKeeps (get_or es z Free) e) (sym q.0) h)

endpoints_credited : (h : ℕ) (es : List Endpoint) → EndpointsKeep es (endpoints_with_credit h es)
endpoints_credited h [] i = endpoint_same Free
endpoints_credited h (e ∷ es) i = by_send (sends_by h e) (endpoints_credited h es) i
  where
    by_send : (b : Bool) → EndpointsKeep es (endpoints_with_credit h es) → EndpointsKeep (e ∷ es) (if b then more_at e ∷ es else e ∷ endpoints_with_credit h es)
    by_send true rest zero = endpoint_more e
    by_send true rest (suc i) = endpoint_same (get_or es i Free)
    by_send false rest zero = endpoint_same e
    by_send false rest (suc i) = rest i

-- ---- a context in place of another, with the same flying commands

pub has_kept : (f : Flying) (e d : Endpoint) → ((p : Packet) → IsFlightOf f.kind f.token e p → IsFlightOf f.kind f.token d p) → (o : Option Packet) → HasFlight f e o → HasFlight f d o
has_kept f e d keeps None h = h
has_kept f e d keeps (Some p) h = keeps p h

-- what is left of a context
pub record KeepsCommands (c d : Context) : Type 0 where
  pub act : d.act ≡ c.act
  pub in_order : ContextInOrder c → ContextInOrder d
  pub fly : ContextInOrder c → (fs : List Packet) → AllFly fs c → AllFly fs d

pub keeps_same : (c : Context) → KeepsCommands c c
keeps_same c = record { act = refl; in_order = λ h. h; fly = λ h fs a. a }

-- the flying commands stay, and so do the flights that they can have
all_fly-same : (c d : Context) → d.act ≡ c.act → d.flying ≡ c.flying → ((n : ℕ) (f : Flying) → flying_at n c.flying ≡ Some f → (p : Packet) → IsFlightOf f.kind f.token (endpoint c f.ep) p → IsFlightOf f.kind f.token (endpoint d f.ep) p) → (fs : List Packet) → AllFly fs c → AllFly fs d
all_fly-same c d act same keeps fs h n f e =
    let old : flying_at n c.flying ≡ Some f = subst (λ z. flying_at n z ≡ Some f) same e in
    has_kept f (endpoint c f.ep) (endpoint d f.ep) (keeps n f old) (flight (record { issuer = d.act; number = n }) fs) (subst (λ z. HasFlight f (endpoint c f.ep) (flight (record { issuer = z; number = n }) fs)) (sym act) (h n f old))

in_order-same : (c d : Context) → d.flying ≡ c.flying → c.next ≤ d.next → ((ep : ℕ) → TokensAscend (endpoint d ep)) → ((ep t : ℕ) → has_mark (fetched_in t (endpoint d ep)) ≡ has_mark (fetched_in t (endpoint c ep))) → ContextInOrder c → ContextInOrder d
in_order-same c d same next tokens marks h = record {
  numbers = subst (λ z. Ascends number_in 0 z d.next) (sym same) (ascends-higher number_in 0 c.next d.next c.flying next h.numbers);
  tokens = tokens;
  marks = λ ep t. ap (how_many (replies_to ep t)) same ∙ (h.marks ep t ∙ ap one (sym (marks ep t)));
}

pub keeps_alike : (c d : Context) → d.act ≡ c.act → d.flying ≡ c.flying → c.next ≤ d.next → EndpointsKeep c.endpoints d.endpoints → KeepsCommands c d
keeps_alike c d act same next each = record {
  act = act;
  in_order = λ h. in_order-same c d same next (λ ep. (each ep).tokens (h.tokens ep)) (λ ep t. (each ep).marks t) h;
  fly = λ h fs a. all_fly-same c d act same (λ n f e p x. (each f.ep).flights f.kind f.token p x) fs a;
}

pub keeps_credit : (h : ℕ) (c : Context) → KeepsCommands c (with_credit h c)
keeps_credit h c = keeps_alike c (with_credit h c) refl refl (omega arith) (endpoints_credited h c.endpoints)

pub keeps_taken : (ep : ℕ) (m : Message) (c : Context) → KeepsCommands c (after_message ep m c)
keeps_taken ep m c = by_flags (m.header.flags == 0)
  where
    joins : EndpointsKeep c.endpoints (set c.endpoints ep (with_message m (endpoint c ep)))
    joins = endpoints_set c.endpoints ep (with_message m (endpoint c ep)) (endpoint_joined m (endpoint c ep))

    by_flags : (b : Bool) → KeepsCommands c (if b then with_endpoint c ep (with_message m (endpoint c ep)) else with_credit m.header.send (with_endpoint c ep (with_message m (endpoint c ep))))
    by_flags true = keeps_alike c _ refl refl (omega arith) joins
    by_flags false = keeps_alike c _ refl refl (omega arith) (λ i. endpoint_then (get_or c.endpoints i Free) (get_or (set c.endpoints ep (with_message m (endpoint c ep))) i Free) _ (joins i) (endpoints_credited m.header.send (set c.endpoints ep (with_message m (endpoint c ep))) i))

pub keeps_install : (ep : ℕ) (f : Fresh) (c : Context) → endpoint c ep ≡ Free → KeepsCommands c (with_endpoint c ep (new_endpoint f))
keeps_install ep f c free = keeps_alike c (with_endpoint c ep (new_endpoint f)) refl refl (omega arith) (endpoints_set c.endpoints ep (new_endpoint f) (subst (λ z. EndpointKeeps z (new_endpoint f)) (sym free) (endpoint_opened f)))

pub keeps_close : (ep : ℕ) (c : Context) → KeepsCommands c (with_endpoint c ep (closed_at (endpoint c ep)))
keeps_close ep c = keeps_alike c (with_endpoint c ep (closed_at (endpoint c ep))) refl refl (omega arith) (endpoints_set c.endpoints ep (closed_at (endpoint c ep)) (endpoint_closed (endpoint c ep)))

-- ---- look-ups after a change of one endpoint

-- what holds of each endpoint, where it holds of the new one
pub each_set : (P : ℕ → Endpoint → Type 0) (c : Context) (ep : ℕ) (e : Endpoint) → ((i : ℕ) → P i (endpoint c i)) → P ep e → (i : ℕ) → P i (get_or (set c.endpoints ep e) i Free)
each_set P c ep e old new i = by_set (at_set c.endpoints ep i e)
  where
    by_set : (get_or (set c.endpoints ep e) i Free ≡ get_or c.endpoints i Free) ⊎ ((i ≡ ep) × (get_or (set c.endpoints ep e) i Free ≡ e)) → P i (get_or (set c.endpoints ep e) i Free)
    by_set (inl q) = subst (P i) (sym q) (old i)
    by_set (inr q) = subst (P i) (sym q.1) (subst (λ z. P z e) (sym q.0) new)

-- the flights of a command after the change of one endpoint
pub kept_set : (f : Flying) (p : Packet) (c : Context) (ep : ℕ) (e : Endpoint) → (ep ≡ f.ep → IsFlightOf f.kind f.token (endpoint c ep) p → IsFlightOf f.kind f.token e p) → IsFlightOf f.kind f.token (endpoint c f.ep) p → IsFlightOf f.kind f.token (get_or (set c.endpoints ep e) f.ep Free) p
kept_set f p c ep e new h = each_set (λ i d. i ≡ f.ep → IsFlightOf f.kind f.token (endpoint c i) p → IsFlightOf f.kind f.token d p) c ep e (λ i q x. x) new f.ep refl h

-- ---- an endpoint becomes free that no command uses

none_replies : (ep t : ℕ) (fs : List Flying) → list_any (is_command_at ep) fs ≡ false → how_many (replies_to ep t) fs ≡ 0
none_replies ep t [] h = refl
none_replies ep t (f ∷ fs) h =
    let other : (f.ep == ep) ≡ false = grind (arith, h) in
    let rest : how_many (replies_to ep t) fs ≡ 0 = none_replies ep t fs (grind (arith, h)) in
    by_kind (is_replying f.kind) other rest
  where
    by_kind : (b : Bool) → (f.ep == ep) ≡ false → how_many (replies_to ep t) fs ≡ 0 → one (b && ((f.ep == ep) && (f.token == t))) + how_many (replies_to ep t) fs ≡ 0
    by_kind true o r = rw o (omega (arith, r))
    by_kind false o r = omega (arith, r)

is_no : (b : Bool) → one b ≡ 0 → b ≡ false
is_no false h = refl
is_no true h = absurd (omega (arith, h))

pub keeps_free : (ep : ℕ) (c : Context) → flies_at ep c ≡ false → KeepsCommands c (with_endpoint c ep Free)
keeps_free ep c none = record {
  act = refl;
  in_order = λ h. in_order-same c (with_endpoint c ep Free) refl (omega arith)
      (each_set (λ i e. TokensAscend e) c ep Free h.tokens tt)
      (λ i t. each_set (λ j e. has_mark (fetched_in t e) ≡ has_mark (fetched_in t (endpoint c j))) c ep Free (λ j. refl) (sym (is_no (has_mark (fetched_in t (endpoint c ep))) (sym (h.marks ep t) ∙ none_replies ep t c.flying none))) i) h;
  fly = λ h fs a. all_fly-same c (with_endpoint c ep Free) refl refl (λ n f e p x. kept_set f p c ep Free (λ q y. absurd (none_uses ep n c.flying f none e (sym q))) x) fs a;
}

-- ---- a message's slot becomes free

-- no command replies to a message without a mark
pub no_reply : (c : Context) (ep token : ℕ) → ContextInOrder c → has_mark (fetched_in token (endpoint c ep)) ≡ false → (n : ℕ) (f : Flying) → flying_at n c.flying ≡ Some f → ep ≡ f.ep → (is_replying f.kind && (f.token == token)) ≡ false
no_reply c ep token h none n f e q = by_test (is_replying f.kind && (f.token == token)) refl
  where
    by_test : (b : Bool) → (is_replying f.kind && (f.token == token)) ≡ b → b ≡ false
    by_test false w = refl
    by_test true w =
        let here : replies_to ep token f ≡ true = grind (arith, nat_tests, w, q) in
        let some = one_flying (replies_to ep token) n f c.flying e here in
        let all = h.marks ep token in
        let zero' = ap one none in
        absurd (omega (arith, some, all, zero'))

pub flight_freed : (r : ReceiveRecord) (token : ℕ) (f : Flying) (p : Packet) → (is_replying f.kind && (f.token == token)) ≡ false → IsFlightOf f.kind f.token (Receives r) p → IsFlightOf f.kind f.token (Receives (without_fetched r token)) p
flight_freed r token f p none x = flight_kept f.kind f.token (Receives r) (Receives (without_fetched r token)) p refl (λ w. replies_same f.token (Receives r) (Receives (without_fetched r token)) (ap (option_map message_of) (fetched_at-without f.token token r.fetched (λ q. differ w q)))) x
  where
    differ : is_replying f.kind ≡ true → f.token ≡ token → ⊥
    differ w q = grind (arith, nat_tests, w, q, none)

marks_freed : (r : ReceiveRecord) (token t : ℕ) → TokensAscend (Receives r) → has_mark (fetched_at token r.fetched) ≡ false → has_mark (fetched_at t (without_token token r.fetched)) ≡ has_mark (fetched_at t r.fetched)
marks_freed r token t h none = by_token (t == token) refl
  where
    by_token : (b : Bool) → (t == token) ≡ b → has_mark (fetched_at t (without_token token r.fetched)) ≡ has_mark (fetched_at t r.fetched)
    by_token false w = ap has_mark (fetched_at-without t token r.fetched (λ q. grind (arith, nat_tests, w, q)))
    by_token true w =
        let same : token ≡ t = grind (arith, nat_tests, w) in
        subst (λ z. has_mark (fetched_at z (without_token token r.fetched)) ≡ has_mark (fetched_at z r.fetched)) same (ap has_mark (fetched_at-gone token 0 r.next_token r.fetched h) ∙ sym none)

pub keeps_freed : (c : Context) (ep token k : ℕ) (r : ReceiveRecord) → endpoint c ep ≡ Receives r → has_mark (fetched_at token r.fetched) ≡ false → c.next ≤ k → KeepsCommands c (record (with_endpoint c ep (Receives (without_fetched r token))) { next = k })
keeps_freed c ep token k r at none low =
    let d : Context = record (with_endpoint c ep (Receives (without_fetched r token))) { next = k } in
    let none_here : has_mark (fetched_in token (endpoint c ep)) ≡ false = subst (λ z. has_mark (fetched_in token z) ≡ false) (sym at) none in
    record {
      act = refl;
      in_order = λ h.
          let own : TokensAscend (Receives r) = subst TokensAscend at (h.tokens ep) in
          in_order-same c d refl low
          (each_set (λ i e. TokensAscend e) c ep (Receives (without_fetched r token)) h.tokens (tokens-without token 0 r.next_token r.fetched own))
          (λ i t. each_set (λ j e. has_mark (fetched_in t e) ≡ has_mark (fetched_in t (endpoint c j))) c ep (Receives (without_fetched r token)) (λ j. refl) (subst (λ z. has_mark (fetched_at t (without_token token r.fetched)) ≡ has_mark (fetched_in t z)) (sym at) (marks_freed r token t own none)) i) h;
      fly = λ h fs a. all_fly-same c d refl refl (λ n f e p x. kept_set f p c ep (Receives (without_fetched r token)) (λ q y. flight_freed r token f p (no_reply c ep token h none_here n f e q) (subst (λ z. IsFlightOf f.kind f.token z p) at y)) x) fs a;
    }

-- ---- a message is fetched

pub endpoint_fetched : (r : ReceiveRecord) (m : Message) (rest : List Message) → EndpointKeeps (Receives r) (Receives (with_fetched r m rest))
endpoint_fetched r m rest =
    let f : Fetched = record { token = r.next_token; marked = false; message = m } in
    record {
      flights = λ k t p x. flight_kept k t (Receives r) (Receives (with_fetched r m rest)) p refl (λ w to ep h n y. reply-push t f r.fetched to ep h n y) x;
      marks = λ t. marked-push t f r.fetched refl;
      tokens = λ h. ascends-push token_of 0 r.fetched f h;
    }
