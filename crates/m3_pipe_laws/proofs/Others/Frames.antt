-- What a step leaves of an activity's flight and of its queue.
use Rattle.std.proofs.Common.{◌≡◌, ◌≢◌, ℕ, zero, suc, Bool, true, false, List, [], ◌∷◌, get_or, set, Some, None, refl, sym, subst, ◌∙◌, ap, arith, inl, inr}
use Rattle.std.specs.Prelude.{if◌then◌else◌, ◌==◌, ◌⊎◌}
use Rattle.m3_base.specs.declared.ids.FlightId.{FlightId}
use Rattle.m3_base.specs.declared.message.Message.{Message}
use Rattle.m3_base.specs.declared.packet.Packet.{Packet}
use Rattle.m3_base.specs.Ideal.Flights.{flight, same_name, name_of, new_flight, change_flight, end_flight, flight_name}
use Rattle.m3_base.specs.Ideal.Context.{Kind, Flying, Endpoint, Free, Sends, Receives, Reaches, Context, endpoint, with_endpoint}
use Rattle.m3_base.specs.Ideal.Landing.{endpoints_with_credit, with_credit, closed_at, with_message, after_message, more_at, message_id}
use Rattle.m3_base.specs.Ideal.State.{State, context_of, put_context, same_act}
use Rattle.m3_base.proofs.FlightNames.{same_name-is, flight-new, flight-change, flight-end}
use Rattle.m3_laws.proofs.credits.Counting.{at_set}
use Rattle.m3_pipe_laws.specs.Pipe.{endpoint_at, endpoint_in}
use Rattle.m3_pipe_laws.proofs.Invariant.Flights.{lone_flying, flying_in, flying_of, LoneFlight, queue_of}
use Rattle.m3_base.proofs.Activities.{same_act-is, context-put_other, context-put_same}
use Rattle.m3_base.specs.Ideal.Step.{after_landing}
use Rattle.m3_base.specs.declared.command.Answer.{Answer}

-- the queue stays, or goes with its record
abbrev pub Kept : Endpoint → Endpoint → Type 0
Kept e d = (queue_of d ≡ queue_of e) ⊎ (queue_of d ≡ None)

-- the flight of its only command stays
abbrev pub SameFlight : ℕ → State → List Packet → Type 0
SameFlight a s hs = (k : ℕ) (kind : Kind) (ep token : ℕ) → flying_of a s ≡ lone_flying k kind ep token → flight (flight_name a k) hs ≡ flight (flight_name a k) s.flights

pub record Steady (a : ℕ) (s n : State) : Type 0 where
  pub flying : flying_of a n ≡ flying_of a s
  pub flight : SameFlight a s n.flights

pub record Side (a ep : ℕ) (s n : State) : Type 0 where
  pub steady : Steady a s n
  pub queue : Kept (endpoint_at s a ep) (endpoint_at n a ep)

-- ---- one context changes

pub steady_put : (a : ℕ) (s n : State) (c d : Context) → n.contexts ≡ put_context d s.contexts → context_of d.act s.contexts ≡ Some c → (a ≡ d.act → d.flying ≡ c.flying) → SameFlight a s n.flights → Steady a s n
steady_put a s n c d q at h f = by_act (same_act a d.act) refl
  where
    by_act : (b : Bool) → same_act a d.act ≡ b → Steady a s n
    by_act false w = record { flying = ap flying_in (ap (context_of a) q ∙ context-put_other a d s.contexts w); flight = f }
    by_act true w =
        let same : a ≡ d.act = same_act-is a d.act w in
        let old : context_of a s.contexts ≡ Some c = subst (λ z. context_of z s.contexts ≡ Some c) (sym same) at in
        let new : context_of a n.contexts ≡ Some d = subst (λ z. context_of z n.contexts ≡ Some d) (sym same) (ap (context_of d.act) q ∙ context-put_same c d s.contexts at) in
        record { flying = ap flying_in new ∙ (h same ∙ ap flying_in (sym old)); flight = f }

pub side_put : (a ep : ℕ) (s n : State) (c d : Context) → n.contexts ≡ put_context d s.contexts → context_of d.act s.contexts ≡ Some c → (a ≡ d.act → (d.flying ≡ c.flying) × Kept (endpoint c ep) (endpoint d ep)) → SameFlight a s n.flights → Side a ep s n
side_put a ep s n c d q at h f = record { steady = steady_put a s n c d q at (λ z. (h z).0) f; queue = by_act (same_act a d.act) refl }
  where
    by_act : (b : Bool) → same_act a d.act ≡ b → Kept (endpoint_at s a ep) (endpoint_at n a ep)
    by_act false w = inl (ap (λ z. queue_of (endpoint_in ep z)) (ap (context_of a) q ∙ context-put_other a d s.contexts w))
    by_act true w =
        let same : a ≡ d.act = same_act-is a d.act w in
        let old : context_of a s.contexts ≡ Some c = subst (λ z. context_of z s.contexts ≡ Some c) (sym same) at in
        let new : context_of a n.contexts ≡ Some d = subst (λ z. context_of z n.contexts ≡ Some d) (sym same) (ap (context_of d.act) q ∙ context-put_same c d s.contexts at) in
        subst (λ z. Kept z (endpoint_at n a ep)) (ap (endpoint_in ep) (sym old)) (subst (λ z. Kept (endpoint c ep) z) (ap (endpoint_in ep) (sym new)) (h same).1)

-- no context changes
pub side_same : (a ep : ℕ) (s n : State) → n.contexts ≡ s.contexts → SameFlight a s n.flights → Side a ep s n
side_same a ep s n q f = record { steady = record { flying = ap (λ z. flying_in (context_of a z)) q; flight = f }; queue = inl (ap (λ z. queue_of (endpoint_in ep (context_of a z))) q) }

-- ---- flights of others

-- this name is of no command of the activity that flies
abbrev pub NotOwn : ℕ → State → FlightId → Type 0
NotOwn a s id = (k : ℕ) (kind : Kind) (ep token : ℕ) → flying_of a s ≡ lone_flying k kind ep token → same_name (flight_name a k) id ≡ false

pub record IsOwn (a : ℕ) (s : State) (id : FlightId) : Type 0 where
  pub number : ℕ
  pub kind : Kind
  pub ep : ℕ
  pub token : ℕ
  pub flying : flying_of a s ≡ lone_flying number kind ep token
  pub name : id ≡ flight_name a number

pub flies-number : (f : Flying) (k : ℕ) (kind : Kind) (ep token : ℕ) → (f ∷ []) ≡ lone_flying k kind ep token → f.number ≡ k
flies-number f k kind ep token e = cc

abbrev pub first_number : List Flying → ℕ
first_number [] = 0
first_number (f ∷ fs) = f.number

pub flies-same : (a : ℕ) (s : State) (k j : ℕ) (x y : Kind) (ep token q t : ℕ) → flying_of a s ≡ lone_flying k x ep token → flying_of a s ≡ lone_flying j y q t → k ≡ j
flies-same a s k j x y ep token q t e h = ap first_number (sym e ∙ h)

pub own_or_not : (a : ℕ) (s : State) (id : FlightId) → IsOwn a s id ⊎ NotOwn a s id
own_or_not a s id = by_list (flying_of a s) refl
  where
    one_more : (f g : Flying) (fs : List Flying) (k : ℕ) (kind : Kind) (ep token : ℕ) → (f ∷ g ∷ fs) ≡ lone_flying k kind ep token → same_name (flight_name a k) id ≡ false
    one_more f g fs k kind ep token e = absurd (cc)

    by_name : (f : Flying) → flying_of a s ≡ f ∷ [] → (b : Bool) → same_name (flight_name a f.number) id ≡ b → IsOwn a s id ⊎ NotOwn a s id
    by_name f e true w = inl (record { number = f.number; kind = f.kind; ep = f.ep; token = f.token; flying = e; name = sym (same_name-is (flight_name a f.number) id w) })
    by_name f e false w = inr (λ k kind ep token h. subst (λ z. same_name (flight_name a z) id ≡ false) (flies-number f k kind ep token (sym e ∙ h)) w)

    by_list : (fs : List Flying) → flying_of a s ≡ fs → IsOwn a s id ⊎ NotOwn a s id
    by_list [] e = inr (λ k kind ep token h. absurd (cc))
    by_list (f ∷ []) e = by_name f e (same_name (flight_name a f.number) id) refl
    by_list (f ∷ g ∷ fs) e = inr (λ k kind ep token h. one_more f g fs k kind ep token (sym e ∙ h))

-- the name of another issuer
pub not_issuer : (a : ℕ) (s : State) (id : FlightId) → a ≢ id.issuer → NotOwn a s id
not_issuer a s id h k kind ep token e = by_bool (same_name (flight_name a k) id) refl
  where
    by_bool : (b : Bool) → same_name (flight_name a k) id ≡ b → b ≡ false
    by_bool false w = refl
    by_bool true w = let q = same_name-is (flight_name a k) id w in absurd (h (ap (λ z. z.issuer) q))

pub same_changed : (a : ℕ) (s : State) (p : Packet) → NotOwn a s (name_of p) → SameFlight a s (change_flight p s.flights)
same_changed a s p h k kind ep token e = flight-change (flight_name a k) p s.flights (h k kind ep token e)

pub same_ended : (a : ℕ) (s : State) (id : FlightId) → NotOwn a s id → SameFlight a s (end_flight id s.flights)
same_ended a s id h k kind ep token e = flight-end (flight_name a k) id s.flights (h k kind ep token e)

pub same_new : (a : ℕ) (s : State) (p : Packet) → NotOwn a s (name_of p) → SameFlight a s (new_flight p s.flights)
same_new a s p h k kind ep token e = flight-new (flight_name a k) p s.flights (h k kind ep token e)

pub same_none : (a : ℕ) (s : State) → SameFlight a s s.flights
same_none a s k kind ep token e = refl

-- ---- flown commands stay

pub flown_stays : (a : ℕ) (s n : State) (kind : Kind) (at token : ℕ) (P : Packet → Type 0) → Steady a s n → LoneFlight a s kind at token P → LoneFlight a n kind at token P
flown_stays a s n kind at token P side h = record {
  number = h.number;
  flying = side.flying ∙ h.flying;
  packet = h.packet;
  found = side.flight h.number kind at token h.flying ∙ h.found;
  phase = h.phase;
}

-- ---- queues

pub kept_same : (e : Endpoint) → Kept e e
kept_same e = inl refl

pub kept_closed : (e : Endpoint) → Kept e (closed_at e)
kept_closed Free = inl refl
kept_closed (Sends r) = inl refl
kept_closed (Receives r) = inl refl
kept_closed (Reaches r) = inl refl

-- an endpoint after another was set, or after it was set to one that is kept
pub kept_set : (es : List Endpoint) (ep i : ℕ) (e : Endpoint) → (i ≡ ep → Kept (get_or es i Free) e) → Kept (get_or es i Free) (get_or (set es ep e) i Free)
kept_set es ep i e h = by_case (at_set es ep i e)
  where
    by_case : (get_or (set es ep e) i Free ≡ get_or es i Free) ⊎ ((i ≡ ep) × (get_or (set es ep e) i Free ≡ e)) → Kept (get_or es i Free) (get_or (set es ep e) i Free)
    by_case (inl q) = inl (ap queue_of q)
    by_case (inr q) = subst (λ z. Kept (get_or es i Free) z) (sym q.1) (h q.0)

pub queue_credited : (g : ℕ) (es : List Endpoint) (i : ℕ) → queue_of (get_or (endpoints_with_credit g es) i Free) ≡ queue_of (get_or es i Free)
queue_credited g [] i = refl
queue_credited g (Free ∷ es) zero = refl
queue_credited g (Free ∷ es) (suc i) = queue_credited g es i
queue_credited g (Receives r ∷ es) zero = refl
queue_credited g (Receives r ∷ es) (suc i) = queue_credited g es i
queue_credited g (Reaches r ∷ es) zero = refl
queue_credited g (Reaches r ∷ es) (suc i) = queue_credited g es i
queue_credited g (Sends r ∷ es) i = by_grant (r.grant == g) i (λ j. queue_credited g es j)
  where
    by_grant : (b : Bool) (i : ℕ) → ((j : ℕ) → queue_of (get_or (endpoints_with_credit g es) j Free) ≡ queue_of (get_or es j Free)) → queue_of (get_or (if b then more_at (Sends r) ∷ es else Sends r ∷ endpoints_with_credit g es) i Free) ≡ queue_of (get_or (Sends r ∷ es) i Free)
    by_grant true zero ih = refl
    by_grant true (suc i) ih = refl
    by_grant false zero ih = refl
    by_grant false (suc i) ih = ih i

-- a landed message is at its endpoint, and changes no other queue
pub queue_taken : (ep i : ℕ) (m : Message) (c : Context) → queue_of (endpoint (after_message ep m c) i) ≡ queue_of (get_or (set c.endpoints ep (with_message m (endpoint c ep))) i Free)
queue_taken ep i m c = by_flags (m.header.flags == 0)
  where
    by_flags : (b : Bool) → queue_of (endpoint (if b then with_endpoint c ep (with_message m (endpoint c ep)) else with_credit m.header.send (with_endpoint c ep (with_message m (endpoint c ep)))) i) ≡ queue_of (get_or (set c.endpoints ep (with_message m (endpoint c ep))) i Free)
    by_flags true = refl
    by_flags false = queue_credited m.header.send (set c.endpoints ep (with_message m (endpoint c ep))) i

pub kept_taken : (ep i : ℕ) (m : Message) (c : Context) → i ≢ ep → Kept (endpoint c i) (endpoint (after_message ep m c) i)
kept_taken ep i m c ne = by_case (at_set c.endpoints ep i (with_message m (endpoint c ep)))
  where
    by_case : (get_or (set c.endpoints ep (with_message m (endpoint c ep))) i Free ≡ get_or c.endpoints i Free) ⊎ ((i ≡ ep) × (get_or (set c.endpoints ep (with_message m (endpoint c ep))) i Free ≡ with_message m (endpoint c ep))) → Kept (endpoint c i) (endpoint (after_message ep m c) i)
    by_case (inl q) = inl (queue_taken ep i m c ∙ ap queue_of q)
    by_case (inr q) = absurd (ne q.0)

-- after a message landed: its receiver's context, and the answer in its place
abbrev pub message_landed : State → Message → Context → Answer → State
message_landed s m d answer = after_landing s d (Packet.Answer (message_id m) answer)
