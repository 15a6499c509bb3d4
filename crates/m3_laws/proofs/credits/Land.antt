-- A packet that lands moves credits, and makes or loses none.
use Rattle.std.proofs.Common.{◌≡◌, ℕ, zero, suc, ◌+◌, Bool, true, false, List, [], ◌∷◌, get_or, set, Some, None, refl, ◌∙◌, ap, arith}
use Rattle.std.specs.Prelude.{Option, if◌then◌else◌, ◌==◌, ◌&&◌, ◌||◌}
use Rattle.std.specs.List.{list_any}
use Rattle.std.proofs.lemmas.Bool.Decides.{nat_tests}
use Rattle.m3_base.specs.declared.message.Message.{Message}
use Rattle.m3_base.specs.declared.packet.Packet.{Packet}
use Rattle.m3_base.specs.Lists.Counting.{total, one, how_many}
use Rattle.m3_base.specs.Ideal.Flights.{name_of, same_name, name_before, flight, change_flight}
use Rattle.m3_base.specs.Ideal.Context.{Kind, Sending, Replying, Reading, Writing, Flying, SendRecord, Endpoint, Free, Sends, Receives, Reaches, Context, endpoint, with_endpoint}
use Rattle.m3_base.specs.Ideal.ReceiveRecord.{with_unread}
use Rattle.m3_base.specs.Ideal.Landing.{one_more, sends_by, endpoints_with_credit, has_send, with_credit, with_message, after_message, land_refusal, Landed, flying_at}
use Rattle.m3_base.specs.Ideal.State.{State, context_of, put_context, act_of, same_act, act_before}
use Rattle.m3_base.specs.Ideal.Credits.{queued_at, held_at, gives_back, gives_back_by, gives_back_in, is_refusal, carries_credit, queued_credits, credits}
use Rattle.m3_base.proofs.KeyedList.{total-replaced, how_many-replaced, find-replaced_other, find-replaced_same}
use Rattle.m3_laws.proofs.credits.EndpointWeights.{weight, context_weight, weight-with_unread, weight-credited}
use Rattle.m3_laws.proofs.credits.Issue.{weight-with_endpoint}
use Rattle.m3_base.proofs.Activities.{same_act-is, same_act-itself, same_act-joins}

-- ---- the weight of a context after a landing

-- the credits that a message brings to the context where it lands
abbrev pub brings : ℕ → Message → Context → ℕ
brings g m c = if m.header.flags == 0 then one (m.header.send == g) else one (has_send m.header.send c && (m.header.send == g))

-- a message that joins leaves the send records alone
pub has_send-joined : (g : ℕ) (es : List Endpoint) (ep : ℕ) (m : Message) → list_any (sends_by g) (set es ep (with_message m (get_or es ep Free))) ≡ list_any (sends_by g) es
has_send-joined g [] ep m = refl
has_send-joined g (Free ∷ es) zero m = refl
has_send-joined g (Sends r ∷ es) zero m = refl
has_send-joined g (Receives r ∷ es) zero m = refl
has_send-joined g (Reaches r ∷ es) zero m = refl
has_send-joined g (e ∷ es) (suc ep) m = ap (λ b. sends_by g e || b) (has_send-joined g es ep m)

pub weight-taken : (g h : ℕ) (c : Context) (ep : ℕ) (m : Message) (e : Endpoint) → endpoint c ep ≡ e → land_refusal h m e ≡ None → context_weight g (after_message ep m c) ≡ context_weight g c + brings g m c
weight-taken g h c ep m Free at ok = grind arith
weight-taken g h c ep m (Sends r) at ok = grind arith
weight-taken g h c ep m (Reaches r) at ok = grind arith
weight-taken g h c ep m (Receives r) at ok =
    grind (
      arith,
      nat_tests,
      weight-with_endpoint g c.endpoints ep (Receives r) (Receives (with_unread r m)) at,
      weight-with_unread g r m,
      weight-credited g m.header.send (set c.endpoints ep (with_message m (get_or c.endpoints ep Free))),
      has_send-joined m.header.send c.endpoints ep m,
    )

-- ---- what answers give back, before and after

-- two endpoints give the same back to each command
pub record BackAlike (e d : Endpoint) : Type 0 where
  pub back : (g : ℕ) (k : Kind) (t : ℕ) → gives_back g k t d ≡ gives_back g k t e

-- each endpoint of a context
abbrev pub EachAlike : List Endpoint → List Endpoint → Type 0
EachAlike es ds = (i : ℕ) → BackAlike (get_or es i Free) (get_or ds i Free)

pub alike : (e : Endpoint) → BackAlike e e
alike e = record { back = λ g k t. refl }

more_alike : (r : SendRecord) → BackAlike (Sends r) (Sends (one_more r))
more_alike r = record { back = λ g k t. elim k as (λ k'. gives_back g k' t (Sends (one_more r)) ≡ gives_back g k' t (Sends r)) [ Sending ↦ refl | Replying ↦ refl | Reading ↦ refl | Writing ↦ refl ] }

alike_by_grant : (h : ℕ) (r : SendRecord) (es : List Endpoint) → EachAlike es (endpoints_with_credit h es) → (b : Bool) → EachAlike (Sends r ∷ es) (if b then Sends (one_more r) ∷ es else Sends r ∷ endpoints_with_credit h es)
alike_by_grant h r es rest true zero = more_alike r
alike_by_grant h r es rest true (suc i) = alike (get_or es i Free)
alike_by_grant h r es rest false zero = alike (Sends r)
alike_by_grant h r es rest false (suc i) = rest i

pub alike-credited : (h : ℕ) (es : List Endpoint) → EachAlike es (endpoints_with_credit h es)
alike-credited h [] i = alike Free
alike-credited h (Free ∷ es) zero = alike Free
alike-credited h (Free ∷ es) (suc i) = alike-credited h es i
alike-credited h (Receives r ∷ es) zero = alike (Receives r)
alike-credited h (Receives r ∷ es) (suc i) = alike-credited h es i
alike-credited h (Reaches r ∷ es) zero = alike (Reaches r)
alike-credited h (Reaches r ∷ es) (suc i) = alike-credited h es i
alike-credited h (Sends r ∷ es) i = alike_by_grant h r es (alike-credited h es) (r.grant == h) i

pub alike-set : (es : List Endpoint) (ep : ℕ) (e : Endpoint) → BackAlike (get_or es ep Free) e → EachAlike es (set es ep e)
alike-set [] ep e h i = alike Free
alike-set (d ∷ es) zero e h zero = h
alike-set (d ∷ es) zero e h (suc i) = alike (get_or es i Free)
alike-set (d ∷ es) (suc ep) e h zero = alike d
alike-set (d ∷ es) (suc ep) e h (suc i) = alike-set es ep e h i

pub alike-joined : (m : Message) (e : Endpoint) → BackAlike e (with_message m e)
alike-joined m Free = alike Free
alike-joined m (Sends r) = alike (Sends r)
alike-joined m (Reaches r) = alike (Reaches r)
alike-joined m (Receives r) = record { back = λ g k t. elim k as (λ k'. gives_back g k' t (Receives (with_unread r m)) ≡ gives_back g k' t (Receives r)) [ Sending ↦ refl | Replying ↦ refl | Reading ↦ refl | Writing ↦ refl ] }

-- two contexts whose commands get the same back
pub record SameBack (c d : Context) : Type 0 where
  pub act : d.act ≡ c.act
  pub back : (g n : ℕ) → gives_back_by g d (flying_at n d.flying) ≡ gives_back_by g c (flying_at n c.flying)

pub back_by_alike : (c d : Context) → d.act ≡ c.act → d.flying ≡ c.flying → EachAlike c.endpoints d.endpoints → SameBack c d
back_by_alike c d a f each = record { act = a; back = λ g n. by_flying g (flying_at n d.flying) (flying_at n c.flying) (ap (flying_at n) f) }
  where
    by_flying : (g : ℕ) (x y : Option Flying) → x ≡ y → gives_back_by g d x ≡ gives_back_by g c y
    by_flying g x None e = grind arith
    by_flying g x (Some y) e = rw e ((each y.ep).back g y.kind y.token)

-- the same is given back after a context was replaced by one like it
pub back-put : (g n a : ℕ) (cs : List Context) (c d : Context) → SameBack c d → context_of d.act cs ≡ Some c → (b : Bool) → same_act a d.act ≡ b → gives_back_in g n (context_of a (put_context d cs)) ≡ gives_back_in g n (context_of a cs)
back-put g n a cs c d s at false e = rw (find-replaced_other act_of same_act act_before a d cs same_act-joins e) refl
back-put g n a cs c d s at true e =
    rw (same_act-is a d.act e, find-replaced_same act_of same_act act_before d c cs (same_act-itself d.act) at, at) (s.back g n)

pub carries-put : (g : ℕ) (cs : List Context) (c d : Context) → SameBack c d → context_of d.act cs ≡ Some c → (p : Packet) → carries_credit g (put_context d cs) p ≡ carries_credit g cs p
carries-put g cs c d s at (Packet.Answer id answer) = ap (λ b. is_refusal answer && b) (back-put g id.number id.issuer cs c d s at (same_act id.issuer d.act) refl)
carries-put g cs c d s at (Packet.Message to ep h m) = refl
carries-put g cs c d s at (Packet.Credit id to h) = refl
carries-put g cs c d s at (Packet.Read id h place buffer) = refl
carries-put g cs c d s at (Packet.Write id h place payload) = refl
carries-put g cs c d s at (Packet.Install id to ep f) = refl
carries-put g cs c d s at (Packet.Close id to ep h) = refl

pub how_many-agree : {X : Type 0} (p q : X → Bool) → ((x : X) → p x ≡ q x) → (xs : List X) → how_many p xs ≡ how_many q xs
how_many-agree p q h [] = refl
how_many-agree p q h (x ∷ xs) = grind (arith, h x, how_many-agree p q h xs)

-- ---- a state's credits

-- the credits that contexts hold and owe, as one sum
pub total-add : (g : ℕ) (es : List Endpoint) → total (weight g) es ≡ total (held_at g) es + total (queued_at g) es
total-add g [] = refl
total-add g (e ∷ es) = omega (arith, total-add g es)

pub total-contexts : (g : ℕ) (cs : List Context) → total (context_weight g) cs ≡ total (λ c. total (held_at g) c.endpoints) cs + total (λ c. total (queued_at g) c.endpoints) cs
total-contexts g [] = refl
total-contexts g (c ∷ cs) = omega (arith, total-contexts g cs, total-add g c.endpoints)

pub credits_are : (g : ℕ) (s : State) → credits g s ≡ total (context_weight g) s.contexts + total (queued_credits g) s.flights + how_many (carries_credit g s.contexts) s.flights
credits_are g s = omega (arith, total-contexts g s.contexts)

-- a context and a flight that change together
pub credits_change : (g : ℕ) (cs : List Context) (fs : List Packet) (c d : Context) (p q : Packet) → SameBack c d → context_of d.act cs ≡ Some c → flight (name_of q) fs ≡ Some p → context_weight g d + queued_credits g q + one (carries_credit g cs q) ≡ context_weight g c + queued_credits g p + one (carries_credit g cs p) →
    total (context_weight g) (put_context d cs) + total (queued_credits g) (change_flight q fs) + how_many (carries_credit g (put_context d cs)) (change_flight q fs) ≡ total (context_weight g) cs + total (queued_credits g) fs + how_many (carries_credit g cs) fs
credits_change g cs fs c d p q s at find e =
    omega (
      arith,
      e,
      total-replaced act_of same_act act_before (context_weight g) d c cs at,
      total-replaced name_of same_name name_before (queued_credits g) q p fs find,
      how_many-replaced name_of same_name name_before (carries_credit g cs) q p fs find,
      how_many-agree (carries_credit g (put_context d cs)) (carries_credit g cs) (carries-put g cs c d s at) (change_flight q fs),
    )

-- ---- a message that lands

pub same_back : (c : Context) → SameBack c c
same_back c = record { act = refl; back = λ g n. refl }

pub same_back-taken : (ep : ℕ) (m : Message) (c : Context) → SameBack c (after_message ep m c)
same_back-taken ep m c = by_flags (m.header.flags == 0)
  where
    joins : EachAlike c.endpoints (set c.endpoints ep (with_message m (get_or c.endpoints ep Free)))
    joins = alike-set c.endpoints ep (with_message m (get_or c.endpoints ep Free)) (alike-joined m (get_or c.endpoints ep Free))

    d : Context
    d = with_endpoint c ep (with_message m (endpoint c ep))

    by_flags : (b : Bool) → SameBack c (if b then with_endpoint c ep (with_message m (endpoint c ep)) else with_credit m.header.send (with_endpoint c ep (with_message m (endpoint c ep))))
    by_flags true = back_by_alike c _ refl refl joins
    by_flags false = back_by_alike c _ refl refl (λ i. record { back = λ g k t. (alike-credited m.header.send (set c.endpoints ep (with_message m (get_or c.endpoints ep Free))) i).back g k t ∙ (joins i).back g k t })

abbrev pub after_landing : State → Landed → State
after_landing s l = record s { contexts = put_context l.context s.contexts; flights = change_flight l.answer s.flights }
