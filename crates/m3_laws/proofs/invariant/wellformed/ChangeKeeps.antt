-- Well-formed states stay well-formed: what one context's change leaves.
use Rattle.std.proofs.Common.{◌≡◌, ℕ, zero, suc, ◌+◌, Bool, true, false, List, [], ◌∷◌, ◌++◌, length, get_or, set, Some, None, refl, sym, subst, ◌∙◌, ap, arith, inl, inr}
use Rattle.std.specs.Prelude.{Option, if◌then◌else◌, ◌==◌, ◌⊎◌}
use Rattle.std.specs.Option.{option_map}
use Rattle.std.proofs.lemmas.Bool.Decides.{nat_tests}
use Rattle.m3_base.specs.declared.ids.FlightId.{FlightId}
use Rattle.m3_base.specs.declared.packet.Packet.{Packet}
use Rattle.m3_base.specs.declared.packet.Perm.{Perm}
use Rattle.m3_base.specs.Ideal.Flights.{flight, name_of}
use Rattle.m3_base.specs.Ideal.Context.{Flying, Endpoint, Free, Sends, Receives, Reaches, Context, endpoint}
use Rattle.m3_base.specs.Ideal.Landing.{grant_of, flying_at}
use Rattle.m3_base.specs.Ideal.State.{Grant, State, grant_in, context_of, put_context, act_of, same_act, act_before}
use Rattle.m3_base.specs.Ideal.Step.{number_of}
use Rattle.m3_base.proofs.KeyedList.{find-replaced_same, find-replaced_other}
use Rattle.m3_laws.proofs.invariant.step.LookUps.{found_after}
use Rattle.m3_laws.specs.GrantInvariant.{form_of}
use Rattle.m3_laws.proofs.credits.Counting.{SameFixedParts, same_form}
use Rattle.m3_laws.proofs.grants.GrantList.{Changes, grant_added}
use Rattle.m3_laws.specs.WellFormed.{use_by, use_of, expects, has_valid_queues, is_covered, is_held_at, is_sent_as, is_entitled, WellFormedPacket, WellFormedContext, WellFormed}
use Rattle.m3_base.proofs.Activities.{same_act-is, same_act-itself, same_act-joins}
use Rattle.m3_base.proofs.GrantsByNumber.{grant_past}

-- ---- what commands use

pub grant_of_form : (e : Endpoint) → grant_of e ≡ option_map number_of (form_of e)
grant_of_form Free = refl
grant_of_form (Sends r) = refl
grant_of_form (Receives r) = refl
grant_of_form (Reaches r) = refl

pub same_grant : (c d : Context) → SameFixedParts c d → (ep : ℕ) → grant_of (endpoint d ep) ≡ grant_of (endpoint c ep)
same_grant c d f ep = grant_of_form (endpoint d ep) ∙ (ap (option_map number_of) (same_form c d ep f) ∙ sym (grant_of_form (endpoint c ep)))

-- where the flying commands and the grants of endpoints stay
pub use_same : (c d : Context) → ((ep : ℕ) → grant_of (endpoint d ep) ≡ grant_of (endpoint c ep)) → (o : Option Flying) → use_by d o ≡ use_by c o
use_same c d h None = refl
use_same c d h (Some f) = ap (λ z. Some (record { kind = f.kind; grant = z })) (h f.ep)

pub use_put : (cs : List Context) (c d : Context) (id : FlightId) → context_of d.act cs ≡ Some c → (same_act id.issuer d.act ≡ true → use_by d (flying_at id.number d.flying) ≡ use_by c (flying_at id.number c.flying)) → use_of (put_context d cs) id ≡ use_of cs id
use_put cs c d id at h = by_act (same_act id.issuer d.act) refl
  where
    by_act : (b : Bool) → same_act id.issuer d.act ≡ b → use_of (put_context d cs) id ≡ use_of cs id
    by_act false e = rw (find-replaced_other act_of same_act act_before id.issuer d cs same_act-joins e) refl
    by_act true e = rw (same_act-is id.issuer d.act e, find-replaced_same act_of same_act act_before d c cs (same_act-itself d.act) at, at) (h e)

-- ---- grants that keep their lines and forms

abbrev pub Lasts : List Grant → List Grant → Type 0
Lasts gs ks = (g : ℕ) (x : Grant) → grant_in gs g ≡ Some x → (y : Grant) × ((grant_in ks g ≡ Some y) × ((y.line ≡ x.line) × (y.fresh ≡ x.fresh)))

pub lasts_same : (gs : List Grant) → Lasts gs gs
lasts_same gs g x e = (x, (e, (refl, refl)))

pub lasts_changed : (gs ks : List Grant) (f : ℕ → Grant → Grant) → Changes gs ks f → Lasts gs ks
lasts_changed gs ks f ch g x e = (f g x, (ch.at g ∙ ap (option_map (f g)) e, (ch.line g x, ch.fresh g x)))

pub lasts_added : (gs : List Grant) (x : Grant) → Lasts gs (gs ++ x ∷ [])
lasts_added gs x g y e =
    let past = grant_past gs g y e in
    let other : (g == (length gs + 1)) ≡ false = grind (arith, nat_tests, past) in
    (y, (grant_added gs x g ∙ (ap (λ b. if b then Some x else grant_in gs g) other ∙ e), (refl, refl)))

module _ (gs ks : List Grant) (l : Lasts gs ks) where
  covered_lasts : (at len : ℕ) (perm : Perm) (g : ℕ) (o : Option Grant) → grant_in gs g ≡ o → is_covered at len perm g o ≡ true → is_covered at len perm g (grant_in ks g) ≡ true
  covered_lasts at len perm g None e h = absurd (cc)
  covered_lasts at len perm g (Some x) e h =
      let y = l g x e in
      rw (y.1.0) (rw (y.1.1.1) h)

  sent_lasts : (to ep h len g : ℕ) (o : Option Grant) → grant_in gs g ≡ o → is_sent_as to ep h len o ≡ true → is_sent_as to ep h len (grant_in ks g) ≡ true
  sent_lasts to ep h len g None e w = absurd (cc)
  sent_lasts to ep h len g (Some x) e w =
      let y = l g x e in
      rw (y.1.0) (rw (y.1.1.1) w)

  held_lasts : (a ep g : ℕ) (o : Option Grant) → grant_in gs g ≡ o → is_held_at a ep o ≡ true → is_held_at a ep (grant_in ks g) ≡ true
  held_lasts a ep g None e h = absurd (cc)
  held_lasts a ep g (Some x) e h =
      let y = l g x e in
      rw (y.1.0) (rw (y.1.1.0) h)

  pub entitled_lasts : (p : Packet) → is_entitled gs p ≡ true → is_entitled ks p ≡ true
  entitled_lasts (Packet.Read id h place buffer) e = covered_lasts place (length buffer) Perm.R h (grant_in gs h) refl e
  entitled_lasts (Packet.Write id h place payload) e = covered_lasts place (length payload) Perm.W h (grant_in gs h) refl e
  entitled_lasts (Packet.Close id to ep h) e = held_lasts to ep h (grant_in gs h) refl e
  entitled_lasts (Packet.Message to ep h m) e = by_flags (m.header.flags == 0) e
    where
      by_flags : (b : Bool) → (if b then is_sent_as to ep h (length m.payload) (grant_in gs m.header.send) else true) ≡ true → (if b then is_sent_as to ep h (length m.payload) (grant_in ks m.header.send) else true) ≡ true
      by_flags true e = sent_lasts to ep h (length m.payload) m.header.send (grant_in gs m.header.send) refl e
      by_flags false e = refl
  entitled_lasts (Packet.Credit id to h) e = refl
  entitled_lasts (Packet.Answer id answer) e = refl
  entitled_lasts (Packet.Install id to ep f) e = refl

-- ---- one context in place of another

pub packet_kept : (gs ks : List Grant) (cs ds : List Context) (p : Packet) → Lasts gs ks → use_of ds (name_of p) ≡ use_of cs (name_of p) → WellFormedPacket gs cs p → WellFormedPacket ks ds p
packet_kept gs ks cs ds p l u h = record {
  numbers = h.numbers;
  command = ap (λ z. expects z p) u ∙ h.command;
  entitled = entitled_lasts gs ks l p h.entitled;
}

pub contexts_put : (cs : List Context) (c d : Context) → context_of d.act cs ≡ Some c → ((a : ℕ) (x : Context) → context_of a cs ≡ Some x → WellFormedContext x) → WellFormedContext d → (a : ℕ) (x : Context) → context_of a (put_context d cs) ≡ Some x → WellFormedContext x
contexts_put cs c d at old new a x e = by_found (found_after a x c d cs at e)
  where
    by_found : ((a ≡ d.act) × (x ≡ d)) ⊎ ((same_act a d.act ≡ false) × (context_of a cs ≡ Some x)) → WellFormedContext x
    by_found (inl q) = subst WellFormedContext (sym q.1) new
    by_found (inr q) = old a x q.1

-- where flights are old ones whose commands use the same, or well-formed
abbrev pub Follows : State → Context → List Packet → Type 0
Follows s d hs = (id : FlightId) (p : Packet) → flight id hs ≡ Some p → ((flight id s.flights ≡ Some p) × (use_of (put_context d s.contexts) (name_of p) ≡ use_of s.contexts (name_of p))) ⊎ WellFormedPacket s.grants (put_context d s.contexts) p

pub proper_put : (s : State) (c d : Context) (hs : List Packet) → WellFormed s → context_of d.act s.contexts ≡ Some c → WellFormedContext d → Follows s d hs → WellFormed (record s { contexts = put_context d s.contexts; flights = hs })
proper_put s c d hs ok at new follows = record {
  contexts = contexts_put s.contexts c d at ok.contexts new;
  packets = λ id p e. by_flight id p (follows id p e);
  grants = ok.grants;
  orders = ok.orders;
  few = ok.few;
  memory = ok.memory;
}
  where
    by_flight : (id : FlightId) (p : Packet) → ((flight id s.flights ≡ Some p) × (use_of (put_context d s.contexts) (name_of p) ≡ use_of s.contexts (name_of p))) ⊎ WellFormedPacket s.grants (put_context d s.contexts) p → WellFormedPacket s.grants (put_context d s.contexts) p
    by_flight id p (inr h) = h
    by_flight id p (inl e) = packet_kept s.grants s.grants s.contexts (put_context d s.contexts) p (lasts_same s.grants) e.1 (ok.packets id p e.0)

-- tests of an endpoint after a change of one
pub tidy_set : (es : List Endpoint) (ep : ℕ) (e : Endpoint) → ((i : ℕ) → has_valid_queues (get_or es i Free) ≡ true) → has_valid_queues e ≡ true → (i : ℕ) → has_valid_queues (get_or (set es ep e) i Free) ≡ true
tidy_set [] ep e h q i = refl
tidy_set (x ∷ es) zero e h q zero = q
tidy_set (x ∷ es) zero e h q (suc i) = h (suc i)
tidy_set (x ∷ es) (suc ep) e h q zero = h 0
tidy_set (x ∷ es) (suc ep) e h q (suc i) = tidy_set es ep e (λ k. h (suc k)) q i
