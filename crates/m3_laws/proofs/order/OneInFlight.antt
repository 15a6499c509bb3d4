-- At most one message of a send grant flies at a time.
use Rattle.std.proofs.Common.{◌≡◌, ℕ, ◌≤◌, Bool, true, false, List, [], ◌∷◌, ◌++◌, length, Some, None, refl, sym, subst, ◌∙◌, ap, arith, inl, inr}
use Rattle.std.specs.Prelude.{Option, if◌then◌else◌, ◌==◌, ◌⊎◌}
use Rattle.std.proofs.lemmas.Bool.Decides.{nat_tests}
use Rattle.m3_base.specs.declared.ids.FlightId.{FlightId}
use Rattle.m3_base.specs.declared.message.Message.{Message}
use Rattle.m3_base.specs.declared.packet.Packet.{Packet}
use Rattle.m3_base.specs.Ideal.Flights.{name_of, same_name, flight}
use Rattle.m3_base.specs.Ideal.Context.{Flying, Context}
use Rattle.m3_base.specs.Ideal.Landing.{flying_at, message_id}
use Rattle.m3_base.specs.Ideal.State.{State, context_of, Grant, holder}
use Rattle.m3_base.specs.Ideal.Credits.{is_sent_by, gives_back_by, gives_back_in}
use Rattle.m3_base.specs.Ideal.MessageTraces.{sent_in, flying_of}
use Rattle.m3_base.specs.Ideal.FlightNames.{Apart, Distinct}
use Rattle.m3_base.proofs.FlightNames.{name_found, same_name-is, same_name-itself}
use Rattle.m3_laws.specs.Invariant.{Invariant}
use Rattle.m3_laws.proofs.grants.OpenWhileUsed.{message_held}
use Rattle.m3_base.specs.Ideal.GrantHolder.{HeldThere}

pub sent_message : (g : ℕ) (p : Packet) (m : Message) → sent_in g p ≡ m ∷ [] → (name_of p ≡ message_id m) × (is_sent_by g m ≡ true)
sent_message g (Packet.Message to ep h x) m e = by_test (is_sent_by g x) refl e
  where
    by_test : (b : Bool) → is_sent_by g x ≡ b → (if b then x ∷ [] else []) ≡ m ∷ [] → (message_id x ≡ message_id m) × (is_sent_by g m ≡ true)
    by_test true w e = let same : x ≡ m = cc in (ap message_id same, ap (is_sent_by g) (sym same) ∙ w)
    by_test false w e = absurd (cc)
sent_message g (Packet.Credit id to h) m e = absurd (cc)
sent_message g (Packet.Read id h place buffer) m e = absurd (cc)
sent_message g (Packet.Write id h place payload) m e = absurd (cc)
sent_message g (Packet.Answer id answer) m e = absurd (cc)
sent_message g (Packet.Install id to ep f) m e = absurd (cc)
sent_message g (Packet.Close id to ep h) m e = absurd (cc)

-- this packet flies
abbrev pub Flies : State → Packet → Type 0
Flies s p = flight (name_of p) s.flights ≡ Some p

-- a message of g that flies belongs to a command that flies at its sender, who holds g
pub sent_flies : (g : ℕ) (s : State) → Invariant s → (p : Packet) (m : Message) → Flies s p → sent_in g p ≡ m ∷ [] → ((e : ℕ) × HeldThere s.grants g m.header.sender e) × (gives_back_in g m.header.number (context_of m.header.sender s.contexts) ≡ true)
sent_flies g s law (Packet.Message to ep h x) m ok e = by_test (is_sent_by g x) refl e
  where
    by_test : (b : Bool) → is_sent_by g x ≡ b → (if b then x ∷ [] else []) ≡ m ∷ [] → ((e : ℕ) × HeldThere s.grants g m.header.sender e) × (gives_back_in g m.header.number (context_of m.header.sender s.contexts) ≡ true)
    by_test true w e =
        let same : x ≡ m = cc in
        let plain : (x.header.flags == 0) ≡ true = grind (arith, w) in
        let send : x.header.send ≡ g = grind (arith, nat_tests, w) in
        let held = message_held s law (message_id x) to ep h x ok plain in
        let home : (e : ℕ) × HeldThere s.grants g x.header.sender e = (held.0, subst (λ z. HeldThere s.grants z x.header.sender held.0) send held.1) in
        let back : gives_back_in g x.header.number (context_of x.header.sender s.contexts) ≡ true = (law.lawful.traffic.packets (message_id x) (Packet.Message to ep h x) ok).0 g ∙ grind (arith, nat_tests, send) in
        (subst (λ z. (e : ℕ) × HeldThere s.grants g z.header.sender e) same home, subst (λ z. gives_back_in g z.header.number (context_of z.header.sender s.contexts) ≡ true) same back)
    by_test false w e = absurd (cc)
sent_flies g s law (Packet.Credit id to h) m ok e = absurd (cc)
sent_flies g s law (Packet.Read id h place buffer) m ok e = absurd (cc)
sent_flies g s law (Packet.Write id h place payload) m ok e = absurd (cc)
sent_flies g s law (Packet.Answer id answer) m ok e = absurd (cc)
sent_flies g s law (Packet.Install id to ep f) m ok e = absurd (cc)
sent_flies g s law (Packet.Close id to ep h) m ok e = absurd (cc)

-- a grant has one holder
one_holder : (gs : List Grant) (g a b d e : ℕ) → HeldThere gs g a d → HeldThere gs g b e → a ≡ b
one_holder gs g a b d e x y =
    let same : Some x.grant ≡ Some y.grant = sym x.found ∙ y.found in
    let grant : x.grant ≡ y.grant = cc in
    sym x.act ∙ (ap (λ z. holder z.line) grant ∙ y.act)

-- two numbers of commands that fly at a context are one
one_number : (c : Context) (fs : List Flying) (g n k : ℕ) → length fs ≤ 1 → gives_back_by g c (flying_at n fs) ≡ true → gives_back_by g c (flying_at k fs) ≡ true → n ≡ k
one_number c [] g n k l p q = absurd (cc)
one_number c (f ∷ []) g n k l p q = grind (arith, nat_tests)
one_number c (f ∷ x ∷ fs) g n k l p q = absurd (omega arith)

pub one_name : (g : ℕ) (s : State) → Invariant s → (p q : Packet) (m x : Message) → Flies s p → Flies s q → sent_in g p ≡ m ∷ [] → sent_in g q ≡ x ∷ [] → message_id m ≡ message_id x
one_name g s sound p q m x okp okq ep eq =
    let a = sent_flies g s sound p m okp ep in
    let b = sent_flies g s sound q x okq eq in
    let same : m.header.sender ≡ x.header.sender = one_holder s.grants g m.header.sender x.header.sender a.0.0 b.0.0 a.0.1 b.0.1 in
    by_context (context_of x.header.sender s.contexts) refl a.1 b.1 same
  where
    by_context : (o : Option Context) → context_of x.header.sender s.contexts ≡ o → gives_back_in g m.header.number (context_of m.header.sender s.contexts) ≡ true → gives_back_in g x.header.number (context_of x.header.sender s.contexts) ≡ true → m.header.sender ≡ x.header.sender → message_id m ≡ message_id x
    by_context None at back back' same = absurd (grind (arith, at, back'))
    by_context (Some c) at back back' same =
        let l = (sound.lawful.traffic.contexts x.header.sender c at).lone in
        let h : gives_back_by g c (flying_at m.header.number c.flying) ≡ true = ap (gives_back_in g m.header.number) (sym (ap (λ z. context_of z s.contexts) same ∙ at)) ∙ back in
        let k : gives_back_by g c (flying_at x.header.number c.flying) ≡ true = ap (gives_back_in g x.header.number) (sym at) ∙ back' in
        let n : m.header.number ≡ x.header.number = one_number c c.flying g m.header.number x.header.number l h k in
        λ i. record { issuer = same i; number = n i }

-- at most one message of g
pub data Single : List Message → Type 0 where
  no_message : Single []
  one_message : (m : Message) → Single (m ∷ [])

abbrev pub OkIn : State → List Packet → Type 0
OkIn s [] = Unit {0}
OkIn s (p ∷ fs) = Flies s p × OkIn s fs

pub single_sent : (g : ℕ) (p : Packet) → (sent_in g p ≡ []) ⊎ ((m : Message) × (sent_in g p ≡ m ∷ []))
single_sent g (Packet.Message to ep h x) = by_test (is_sent_by g x)
  where
    by_test : (b : Bool) → ((if b then x ∷ [] else []) ≡ []) ⊎ ((m : Message) × ((if b then x ∷ [] else []) ≡ m ∷ []))
    by_test true = inr (x, refl)
    by_test false = inl refl
single_sent g (Packet.Credit id to h) = inl refl
single_sent g (Packet.Read id h place buffer) = inl refl
single_sent g (Packet.Write id h place payload) = inl refl
single_sent g (Packet.Answer id answer) = inl refl
single_sent g (Packet.Install id to ep f) = inl refl
single_sent g (Packet.Close id to ep h) = inl refl

-- no further message of g behind one
none_behind : (g : ℕ) (s : State) → Invariant s → (p : Packet) (m : Message) → Flies s p → sent_in g p ≡ m ∷ [] → (fs : List Packet) → OkIn s fs → Apart (name_of p) fs → flying_of g fs ≡ []
none_behind g s sound p m okp e [] ok a = refl
none_behind g s sound p m okp e (q ∷ fs) ok a = by_sent (single_sent g q) (none_behind g s sound p m okp e fs ok.1 (grind (arith, a)))
  where
    by_sent : (sent_in g q ≡ []) ⊎ ((x : Message) × (sent_in g q ≡ x ∷ [])) → flying_of g fs ≡ [] → flying_of g (q ∷ fs) ≡ []
    by_sent (inl z) ih = ap (λ y. y ++ flying_of g fs) z ∙ ih
    by_sent (inr z) ih =
        let n : message_id m ≡ message_id z.0 = one_name g s sound p q m z.0 okp ok.0 e z.1 in
        let same : name_of p ≡ name_of q = (sent_message g p m e).0 ∙ n ∙ sym (sent_message g q z.0 z.1).0 in
        absurd (grind (arith, a, same, same_name-itself (name_of q)))

pub single_of : (g : ℕ) (s : State) → Invariant s → (fs : List Packet) → OkIn s fs → Distinct fs → Single (flying_of g fs)
single_of g s sound [] ok d = no_message
single_of g s sound (p ∷ fs) ok d = by_sent (single_sent g p) (single_of g s sound fs ok.1 d.1)
  where
    by_sent : (sent_in g p ≡ []) ⊎ ((m : Message) × (sent_in g p ≡ m ∷ [])) → Single (flying_of g fs) → Single (flying_of g (p ∷ fs))
    by_sent (inl z) ih = subst (λ y. Single (y ++ flying_of g fs)) (sym z) ih
    by_sent (inr z) ih =
        let e : flying_of g fs ≡ [] = none_behind g s sound p z.0 ok.0 z.1 fs ok.1 d.0 in
        subst (λ y. Single (sent_in g p ++ y)) (sym e) (subst (λ y. Single (y ++ [])) (sym z.1) (one_message z.0))

-- look-ups give the list form
pub ok_in : (s : State) (fs : List Packet) → Distinct fs → ((id : FlightId) (p : Packet) → flight id fs ≡ Some p → Flies s p) → OkIn s fs
ok_in s [] d h = tt
ok_in s (p ∷ fs) d h = (h (name_of p) p (grind (arith, same_name-itself (name_of p))), ok_in s fs d.1 (λ id q e. h id q (later id q e)))
  where
    later : (id : FlightId) (q : Packet) → flight id fs ≡ Some q → flight id (p ∷ fs) ≡ Some q
    later id q e = by_test (same_name id (name_of p)) refl
      where
        by_test : (b : Bool) → same_name id (name_of p) ≡ b → (if b then Some p else flight id fs) ≡ Some q
        by_test false w = e
        by_test true w = let n : id ≡ name_of p = same_name-is id (name_of p) w in let z : flight id fs ≡ None = subst (λ y. flight y fs ≡ None) (sym n) d.0 in absurd (cc)

pub single_flying : (g : ℕ) (s : State) → Invariant s → Single (flying_of g s.flights)
single_flying g s sound = single_of g s sound s.flights (ok_in s s.flights sound.lawful.placed.distinct (λ id p e. subst (λ z. flight z s.flights ≡ Some p) (name_found id p s.flights e) e)) sound.lawful.placed.distinct
