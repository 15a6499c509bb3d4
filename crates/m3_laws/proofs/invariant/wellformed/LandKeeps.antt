-- Commands, landings and answers keep a state well-formed.
use Rattle.std.proofs.Common.{◌≡◌, ◌≢◌, ℕ, zero, suc, ◌+◌, ◌≤◌, Bool, true, false, List, [], ◌∷◌, ◌++◌, length, get_or, set, Some, None, refl, sym, subst, ◌∙◌, ap, arith, inl, inr}
use Rattle.std.specs.Prelude.{Option, if◌then◌else◌, ◌==◌, ◌⊎◌, nat_lt, take, drop}
use Rattle.std.proofs.lemmas.Bool.Decides.{nat_tests}
use Rattle.m3_base.specs.declared.ids.FlightId.{FlightId}
use Rattle.m3_base.specs.declared.message.Message.{Message}
use Rattle.m3_base.specs.declared.packet.Packet.{Packet}
use Rattle.m3_base.specs.declared.packet.Perm.{Perm}
use Rattle.m3_base.specs.declared.packet.Fresh.{Fresh}
use Rattle.m3_base.specs.declared.command.Answer.{Answer}
use Rattle.m3_base.specs.declared.command.Command.{Command}
use Rattle.m3_base.specs.declared.command.Refusal.{Refusal}
use Rattle.m3_base.specs.Ideal.Flights.{flight, name_of, same_name, change_flight, end_flight}
use Rattle.m3_base.specs.Ideal.Context.{Kind, Endpoint, Free, Sends, Receives, Reaches, Context, endpoint, with_endpoint}
use Rattle.m3_base.specs.Ideal.Issue.{Issued, issue, next_id}
use Rattle.m3_base.specs.Ideal.Landing.{flying_at, land_refusal, land_by, landed_answer, message_id, after_message, with_message, endpoints_with_credit, sends_by, more_at, with_credit, written_at}
use Rattle.m3_base.specs.Ideal.State.{Grant, State, grant_in, context_of, put_context}
use Rattle.m3_base.specs.Ideal.Step.{with_packet, number_of, after_ending}
use Rattle.m3_base.specs.Ideal.Credits.{covers}
use Rattle.m3_base.specs.Ideal.Acceptance.{is_form, is_message, is_land_refusal}
use Rattle.m3_base.specs.Ideal.FlightNames.{Apart}
use Rattle.m3_laws.proofs.invariant.step.LookUps.{apart_found, found_ended, found_new, found_changed, name_own}
use Rattle.m3_laws.proofs.credits.Land.{after_landing}
use Rattle.m3_laws.proofs.invariant.step.IssueEffects.{NewPacket, IssueEffect, issue_effect}
use Rattle.m3_laws.specs.GrantInvariant.{GrantInvariant, IsHeldAt, FormLawful, form_of}
use Rattle.m3_laws.proofs.credits.Counting.{SameFixedParts, same_fixed_parts}
use Rattle.m3_laws.proofs.invariant.records.RecordFormsStay.{issue_faces, taken_faces, credit_faces}
use Rattle.m3_laws.proofs.invariant.wellformed.ChangeKeeps.{same_grant, use_same, use_put, proper_put, Follows, tidy_set}
use Rattle.m3_laws.proofs.invariant.wellformed.IssueKeeps.{Recorded, Ready, Emits, NewProper, issue_emits, messages_push}
use Rattle.m3_laws.specs.WellFormed.{CommandUse, use_by, use_of, use_in, can_get, expects, uses_send, uses_reply, is_well_formed, has_valid_queues, is_covered, is_entitled, is_inside, WellFormedPacket, WellFormedContext, WellFormedGrant, WellFormed}
use Rattle.m3_base.proofs.Activities.{found_same, context-put_same}

-- ---- a command

pub record_of_grant : (s : State) → GrantInvariant s → WellFormed s → (a : ℕ) (c : Context) → context_of a s.contexts ≡ Some c → (ep : ℕ) (f : Fresh) → form_of (endpoint c ep) ≡ Some f → Recorded s.grants f
record_of_grant s law ok a c at ep f e = by_grant (grant_in s.grants (number_of f)) refl (subst (FormLawful s.grants a ep) e (law.placed.records a c at ep))
  where
    low : (n : ℕ) (x : Grant) → grant_in s.grants n ≡ Some x → 1 ≤ n
    low zero x e = absurd (cc)
    low (suc n) x e = omega arith

    by_grant : (o : Option Grant) → grant_in s.grants (number_of f) ≡ o → IsHeldAt o a ep f → Recorded s.grants f
    by_grant None w h = absurd h
    by_grant (Some x) w h =
        let least = low (number_of f) x w in
        let most = ok.few (number_of f) x w in
        record {
          grant = x;
          found = w;
          fresh = h.fresh;
          proper = subst (λ z. is_form z ≡ true) h.fresh (ok.grants (number_of f) x w).form;
          number = grind (arith, nat_tests, least, most);
        }

module _ (s : State) (a : ℕ) (k : Command) (c : Context) (i : Issued) (law : GrantInvariant s) (ok : WellFormed s) (at : context_of a s.contexts ≡ Some c) (e : issue c k ≡ Some i) where
  ready : Ready s.grants c
  ready = record {
    proper = ok.contexts a c at;
    act = (law.traffic.contexts a c at).act;
    cells = law.placed.cells a c at;
    none = (law.traffic.contexts a c at).fresh c.next (omega arith);
    records = record_of_grant s law ok a c at;
  }

  does : IssueEffect c i
  does = issue_effect c k i e ready.none

  emits : Emits s.grants c i
  emits = issue_emits s.grants c ready k i e

  faces : SameFixedParts c i.context
  faces = issue_faces c k i e

  free : Apart (record { issuer = c.act; number = c.next }) s.flights
  free = (law.traffic.contexts a c at).apart c.next (omega arith)

  old : (id : FlightId) (p : Packet) → flight id s.flights ≡ Some p → use_of (put_context i.context s.contexts) (name_of p) ≡ use_of s.contexts (name_of p)
  old id p f =
      let apart : same_name (record { issuer = c.act; number = c.next }) (name_of p) ≡ false = apart_found (record { issuer = c.act; number = c.next }) id p s.flights free f in
      let same = does.act in
      use_put s.contexts c i.context (name_of p) (found_same s.contexts a c i.context at does.act) (λ w.
      let ne : (name_of p).number ≢ c.next = (λ q. grind (arith, nat_tests, apart, w, same, q)) in
      ap (use_by i.context) (does.others (name_of p).number ne) ∙ use_same c i.context (same_grant c i.context faces) (flying_at (name_of p).number c.flying))

  new : (p : Packet) → name_of p ≡ next_id c → (is_well_formed p ≡ true) × ((expects (use_by i.context (flying_at c.next i.context.flying)) p ≡ true) × (is_entitled s.grants p ≡ true)) → WellFormedPacket s.grants (put_context i.context s.contexts) p
  new p name h =
      let here : context_of i.context.act (put_context i.context s.contexts) ≡ Some i.context = context-put_same c i.context s.contexts (found_same s.contexts a c i.context at does.act) in
      let found : context_of c.act (put_context i.context s.contexts) ≡ Some i.context = subst (λ z. context_of z (put_context i.context s.contexts) ≡ Some i.context) does.act here in
      let used : use_of (put_context i.context s.contexts) (name_of p) ≡ use_by i.context (flying_at c.next i.context.flying) = ap (use_of (put_context i.context s.contexts)) name ∙ ap (use_in c.next) found in
      record { numbers = h.0; command = ap (λ z. expects z p) used ∙ h.1.0; entitled = h.1.1 }

  follows : Follows s i.context (with_packet i.packet s.flights)
  follows id p f = by_packet i.packet does.packet emits.packet f
    where
      by_packet : (mp : Option Packet) → NewPacket c i.context mp → NewProper s.grants i.context c.next mp → flight id (with_packet mp s.flights) ≡ Some p → ((flight id s.flights ≡ Some p) × (use_of (put_context i.context s.contexts) (name_of p) ≡ use_of s.contexts (name_of p))) ⊎ WellFormedPacket s.grants (put_context i.context s.contexts) p
      by_packet None n h f = inl (f, old id p f)
      by_packet (Some q) n h f = by_new (found_new id p q s.flights (subst (λ z. Apart z s.flights) (sym n.0) free) f)
        where
          by_new : (p ≡ q) ⊎ (flight id s.flights ≡ Some p) → ((flight id s.flights ≡ Some p) × (use_of (put_context i.context s.contexts) (name_of p) ≡ use_of s.contexts (name_of p))) ⊎ WellFormedPacket s.grants (put_context i.context s.contexts) p
          by_new (inl z) = inr (subst (WellFormedPacket s.grants (put_context i.context s.contexts)) (sym z) (new q n.0 h))
          by_new (inr z) = inl (z, old id p z)

  pub issue_proper : WellFormed (record s { contexts = put_context i.context s.contexts; flights = with_packet i.packet s.flights })
  issue_proper = proper_put s c i.context (with_packet i.packet s.flights) ok (found_same s.contexts a c i.context at does.act) emits.context follows

-- ---- what landings leave of a context

-- the flying commands and their grants stay
pub record UsesStay (c d : Context) : Type 0 where
  pub act : d.act ≡ c.act
  pub uses : (n : ℕ) → use_by d (flying_at n d.flying) ≡ use_by c (flying_at n c.flying)
  pub proper : WellFormedContext d

pub uses_stay_fixed : (c d : Context) → SameFixedParts c d → d.flying ≡ c.flying → WellFormedContext d → UsesStay c d
uses_stay_fixed c d faces fly proper = record {
  act = faces.act;
  uses = λ n. ap (λ z. use_by d (flying_at n z)) fly ∙ use_same c d (same_grant c d faces) (flying_at n c.flying);
  proper = proper;
}

pub uses_after : (s : State) (to : ℕ) (c d : Context) → context_of to s.contexts ≡ Some c → UsesStay c d → (id : FlightId) → use_of (put_context d s.contexts) id ≡ use_of s.contexts id
uses_after s to c d at r id = use_put s.contexts c d id (found_same s.contexts to c d at r.act) (λ w. r.uses id.number)

tidy_joined : (h : ℕ) (m : Message) (e : Endpoint) → is_message m ≡ true → has_valid_queues e ≡ true → has_valid_queues (with_message m e) ≡ true
tidy_joined h m Free k t = refl
tidy_joined h m (Sends r) k t = refl
tidy_joined h m (Reaches r) k t = refl
tidy_joined h m (Receives r) k t = grind (arith, t, messages_push r.unread m, k)

abbrev AllTidy : List Endpoint → Type 0
AllTidy es = (i : ℕ) → has_valid_queues (get_or es i Free) ≡ true

tidy_credited : (g : ℕ) (es : List Endpoint) → AllTidy es → AllTidy (endpoints_with_credit g es)
tidy_credited g [] a i = refl
tidy_credited g (e ∷ es) a i = by_send e (sends_by g e) (a 0) (tidy_credited g es (λ k. a (suc k))) i
  where
    tidy_more : (e : Endpoint) → has_valid_queues e ≡ true → has_valid_queues (more_at e) ≡ true
    tidy_more Free t = refl
    tidy_more (Sends r) t = refl
    tidy_more (Receives r) t = t
    tidy_more (Reaches r) t = refl

    by_send : (e : Endpoint) (b : Bool) → has_valid_queues e ≡ true → AllTidy (endpoints_with_credit g es) → AllTidy (if b then more_at e ∷ es else e ∷ endpoints_with_credit g es)
    by_send e true t rest zero = tidy_more e t
    by_send e true t rest (suc i) = a (suc i)
    by_send e false t rest zero = t
    by_send e false t rest (suc i) = rest i

pub uses_stay_credit : (g : ℕ) (c : Context) → WellFormedContext c → UsesStay c (with_credit g c)
uses_stay_credit g c p = uses_stay_fixed c (with_credit g c) (credit_faces g c) refl (record { next = p.next; queues = tidy_credited g c.endpoints p.queues })

pub uses_stay_taken : (ep : ℕ) (m : Message) (c : Context) → is_message m ≡ true → WellFormedContext c → UsesStay c (after_message ep m c)
uses_stay_taken ep m c k p = by_flags (m.header.flags == 0) (taken_faces ep m c)
  where
    tidy : AllTidy (set c.endpoints ep (with_message m (endpoint c ep)))
    tidy = tidy_set c.endpoints ep (with_message m (endpoint c ep)) p.queues (tidy_joined 0 m (endpoint c ep) k (p.queues ep))

    by_flags : (b : Bool) → SameFixedParts c (if b then with_endpoint c ep (with_message m (endpoint c ep)) else with_credit m.header.send (with_endpoint c ep (with_message m (endpoint c ep)))) → UsesStay c (if b then with_endpoint c ep (with_message m (endpoint c ep)) else with_credit m.header.send (with_endpoint c ep (with_message m (endpoint c ep))))
    by_flags true f = uses_stay_fixed c _ f refl (record { next = p.next; queues = tidy })
    by_flags false f = uses_stay_fixed c _ f refl (record { next = p.next; queues = tidy_credited m.header.send (set c.endpoints ep (with_message m (endpoint c ep))) tidy })

pub uses_stay_same : (c : Context) → WellFormedContext c → UsesStay c c
uses_stay_same c p = uses_stay_fixed c c (same_fixed_parts c) refl p

-- ---- a flight ends, and one context changes

pub proper_ended : (s : State) (to : ℕ) (c d : Context) (id : FlightId) → GrantInvariant s → WellFormed s → context_of to s.contexts ≡ Some c → UsesStay c d → WellFormed (after_ending s id d)
proper_ended s to c d id law ok at r = proper_put s c d (end_flight id s.flights) ok (found_same s.contexts to c d at r.act) r.proper (λ i p e. inl (found_ended id i p s.flights law.placed.distinct e, uses_after s to c d at r (name_of p)))

-- ---- a message

pub refusal_lands : (h : ℕ) (m : Message) (e : Endpoint) (why : Refusal) → land_refusal h m e ≡ Some why → is_land_refusal why ≡ true
refusal_lands h m Free why e = grind (arith, e)
refusal_lands h m (Sends r) why e = grind (arith, e)
refusal_lands h m (Reaches r) why e = grind (arith, e)
refusal_lands h m (Receives r) why e = grind (arith, e)

gets_landed : (m : Message) (u : Option CommandUse) → (if m.header.flags == 0 then uses_send m.header.send u else uses_reply u) ≡ true → can_get (landed_answer m) u ≡ true
gets_landed m None h = grind (arith, h)
gets_landed m (Some u) h = by_kind u.kind refl
  where
    by_kind : (k : Kind) → u.kind ≡ k → can_get (landed_answer m) (Some u) ≡ true
    by_kind k e = grind (arith, h, e)

gets_refused : (m : Message) (why : Refusal) (u : Option CommandUse) → is_land_refusal why ≡ true → (if m.header.flags == 0 then uses_send m.header.send u else uses_reply u) ≡ true → can_get (Answer.Refused why) u ≡ true
gets_refused m why None r h = grind (arith, h)
gets_refused m why (Some u) r h = by_kind u.kind refl
  where
    by_kind : (k : Kind) → u.kind ≡ k → can_get (Answer.Refused why) (Some u) ≡ true
    by_kind k e = grind (arith, h, e, r)

module _ (s : State) (law : GrantInvariant s) (ok : WellFormed s) (id : FlightId) (to ep h : ℕ) (m : Message) (x : Context) (at : context_of to s.contexts ≡ Some x) (find : flight id s.flights ≡ Some (Packet.Message to ep h m)) where
  known : WellFormedPacket s.grants s.contexts (Packet.Message to ep h m)
  known = ok.packets id (Packet.Message to ep h m) find

  landed : (answer : Answer) (d : Context) → UsesStay x d → can_get answer (use_of s.contexts (message_id m)) ≡ true → WellFormed (record s { contexts = put_context d s.contexts; flights = change_flight (Packet.Answer (message_id m) answer) s.flights })
  landed answer d r g = proper_put s x d (change_flight (Packet.Answer (message_id m) answer) s.flights) ok (found_same s.contexts to x d at r.act) r.proper (λ i p e. either i p (found_changed i p (Packet.Message to ep h m) (Packet.Answer (message_id m) answer) s.flights (name_own id (Packet.Message to ep h m) s.flights find) e))
    where
      numbered : is_message m ≡ true → nat_lt 0 m.header.number ≡ true
      numbered k = grind (arith, k)

      new : WellFormedPacket s.grants (put_context d s.contexts) (Packet.Answer (message_id m) answer)
      new = record {
        numbers = numbered known.numbers;
        command = ap (can_get answer) (uses_after s to x d at r (message_id m)) ∙ g;
        entitled = refl;
      }

      either : (i : FlightId) (p : Packet) → (p ≡ Packet.Answer (message_id m) answer) ⊎ (flight i s.flights ≡ Some p) → ((flight i s.flights ≡ Some p) × (use_of (put_context d s.contexts) (name_of p) ≡ use_of s.contexts (name_of p))) ⊎ WellFormedPacket s.grants (put_context d s.contexts) p
      either i p (inl z) = inr (subst (WellFormedPacket s.grants (put_context d s.contexts)) (sym z) new)
      either i p (inr z) = inl (z, uses_after s to x d at r (name_of p))

  own : WellFormedContext x
  own = ok.contexts to x at

  pub message_proper : (why : Option Refusal) → land_refusal h m (endpoint x ep) ≡ why → WellFormed (after_landing s (land_by ep m x why))
  message_proper (Some w) e = landed (Answer.Refused w) x (uses_stay_same x own) (gets_refused m w (use_of s.contexts (message_id m)) (refusal_lands h m (endpoint x ep) w e) known.command)
  message_proper None e = landed (landed_answer m) (after_message ep m x) (uses_stay_taken ep m x known.numbers own) (gets_landed m (use_of s.contexts (message_id m)) known.command)

-- ---- a read or a write

pub take_short : (n : ℕ) (xs : List ℕ) → length (take n xs) ≤ n
take_short zero xs = omega arith
take_short (suc n) [] = omega arith
take_short (suc n) (x ∷ xs) = let z = take_short n xs in omega (arith, z)

-- bytes of a grant lie inside memory
pub covered_inside : (s : State) → WellFormed s → (g place len : ℕ) (perm : Perm) → is_covered place len perm g (grant_in s.grants g) ≡ true → place + len ≤ length s.memory
covered_inside s ok g place len perm h = by_grant (grant_in s.grants g) refl h
  where
    by_fresh : (f : Fresh) → covers g place len perm f ≡ true → is_inside (length s.memory) f ≡ true → place + len ≤ length s.memory
    by_fresh (Fresh.Memory k start extent its) c i = grind (arith, nat_tests, c, i)
    by_fresh (Fresh.Send k a b d l z n) c i = absurd (cc)
    by_fresh (Fresh.Receive k slots size) c i = absurd (cc)

    by_grant : (o : Option Grant) → grant_in s.grants g ≡ o → is_covered place len perm g o ≡ true → place + len ≤ length s.memory
    by_grant None e c = absurd (cc)
    by_grant (Some x) e c = by_fresh x.fresh c (ok.grants g x e).inside

-- a read or write becomes its answer
pub proper_served : (s : State) (memory : List ℕ) (p q : Packet) → WellFormed s → length memory ≡ length s.memory → flight (name_of q) s.flights ≡ Some p → WellFormedPacket s.grants s.contexts q → WellFormed (record s { memory = memory; flights = change_flight q s.flights })
proper_served s memory p q ok same find new = record {
  contexts = ok.contexts;
  packets = λ i x e. either i x (found_changed i x p q s.flights find e);
  grants = λ g x e. subst (λ n. WellFormedGrant n x) (sym same) (ok.grants g x e);
  orders = ok.orders;
  few = ok.few;
  memory = subst (λ n. n ≤ 1048576) (sym same) ok.memory;
}
  where
    either : (i : FlightId) (x : Packet) → (x ≡ q) ⊎ (flight i s.flights ≡ Some x) → WellFormedPacket s.grants s.contexts x
    either i x (inl z) = subst (WellFormedPacket s.grants s.contexts) (sym z) new
    either i x (inr z) = ok.packets i x z
