-- What was sent through a grant, and flies, was sent through a record, so the grant is open.
use Rattle.std.proofs.Common.{◌≡◌, ℕ, Bool, true, false, List, length, Some, None, refl, subst, ◌∙◌, ap, arith}
use Rattle.std.specs.Prelude.{Option, if◌then◌else◌, ◌==◌, ◌||◌, IsTrue}
use Rattle.std.proofs.lemmas.Bool.Decides.{nat_tests}
use Rattle.m3_base.specs.declared.ids.FlightId.{FlightId}
use Rattle.m3_base.specs.declared.message.Message.{Message}
use Rattle.m3_base.specs.declared.packet.Packet.{Packet}
use Rattle.m3_base.specs.declared.packet.Perm.{Perm}
use Rattle.m3_base.specs.Ideal.Flights.{flight}
use Rattle.m3_base.specs.Ideal.Context.{Flying, Context, endpoint}
use Rattle.m3_base.specs.Ideal.Landing.{grant_of, flying_at, message_id}
use Rattle.m3_base.specs.Ideal.State.{Standing, Live, Closing, Closed, Done, State, context_of, grant_in, is_live, is_number, is_open}
use Rattle.m3_base.specs.Ideal.GrantRules.{is_closing_grant}
use Rattle.m3_base.specs.Ideal.Credits.{covers, granted_by, Granted}
use Rattle.m3_base.specs.Ideal.Opening.{opening}
use Rattle.m3_base.specs.Ideal.MessageTraces.{final}
use Rattle.m3_laws.specs.Laws.{is_sent_through, AccessLaw}
use Rattle.m3_laws.proofs.invariant.step.Invariant.{invariant_ever}
use Rattle.m3_laws.specs.GrantInvariant.{is_open_grant}
use Rattle.m3_laws.specs.WellFormed.{CommandUse, use_by, use_in, use_of, uses_send, uses_reply, uses_read, uses_write, is_covered}
use Rattle.m3_laws.specs.Invariant.{Invariant}
use Rattle.m3_laws.proofs.invariant.step.Consequences.{held_there}
use Rattle.m3_base.specs.Ideal.GrantHolder.{HeldThere}
use Rattle.m3_base.proofs.Options.{some_if_number}

abbrev pub has_grant : ℕ → Option CommandUse → Bool
has_grant g None = false
has_grant g (Some u) = is_number g u.grant

sends_grant : (g : ℕ) (o : Option CommandUse) → uses_send g o ≡ true → has_grant g o ≡ true
sends_grant g None h = absurd (cc)
sends_grant g (Some u) h = grind (arith, h)

reads_grant : (g : ℕ) (o : Option CommandUse) → uses_read g o ≡ true → has_grant g o ≡ true
reads_grant g None h = absurd (cc)
reads_grant g (Some u) h = grind (arith, h)

writes_grant : (g : ℕ) (o : Option CommandUse) → uses_write g o ≡ true → has_grant g o ≡ true
writes_grant g None h = absurd (cc)
writes_grant g (Some u) h = grind (arith, h)

module _ (s : State) (law : Invariant s) where
  -- the record of the command of this name
  pub used_held : (n : FlightId) (g : ℕ) → has_grant g (use_of s.contexts n) ≡ true → (ep : ℕ) × HeldThere s.grants g n.issuer ep
  used_held n g h = by_context (context_of n.issuer s.contexts) refl h
    where
      by_flying : (c : Context) → context_of n.issuer s.contexts ≡ Some c → (o : Option Flying) → has_grant g (use_by c o) ≡ true → (ep : ℕ) × HeldThere s.grants g n.issuer ep
      by_flying c at None h = absurd (cc)
      by_flying c at (Some f) h = (f.ep, held_there s law n.issuer f.ep g c at (some_if_number g (grant_of (endpoint c f.ep)) h))

      by_context : (o : Option Context) → context_of n.issuer s.contexts ≡ o → has_grant g (use_in n.number o) ≡ true → (ep : ℕ) × HeldThere s.grants g n.issuer ep
      by_context None e h = absurd (cc)
      by_context (Some c) e h = by_flying c e (flying_at n.number c.flying) h

  -- the sender holds the grant of its message
  pub message_held : (id : FlightId) (to ep h : ℕ) (m : Message) → flight id s.flights ≡ Some (Packet.Message to ep h m) → (m.header.flags == 0) ≡ true → (e : ℕ) × HeldThere s.grants m.header.send m.header.sender e
  message_held id to ep h m find w = used_held (message_id m) m.header.send (sends_grant m.header.send (use_of s.contexts (message_id m)) (by_flags (m.header.flags == 0) w (law.proper.packets id (Packet.Message to ep h m) find).command))
    where
      by_flags : (b : Bool) → b ≡ true → (if b then uses_send m.header.send (use_of s.contexts (message_id m)) else uses_reply (use_of s.contexts (message_id m))) ≡ true → uses_send m.header.send (use_of s.contexts (message_id m)) ≡ true
      by_flags true e h = h
      by_flags false e h = absurd (cc)

  pub read_held : (id x : FlightId) (g place : ℕ) (buffer : List ℕ) → flight id s.flights ≡ Some (Packet.Read x g place buffer) → (e : ℕ) × HeldThere s.grants g x.issuer e
  read_held id x g place buffer find = used_held x g (reads_grant g (use_of s.contexts x) (law.proper.packets id (Packet.Read x g place buffer) find).command)

  pub write_held : (id x : FlightId) (g place : ℕ) (payload : List ℕ) → flight id s.flights ≡ Some (Packet.Write x g place payload) → (e : ℕ) × HeldThere s.grants g x.issuer e
  write_held id x g place payload find = used_held x g (writes_grant g (use_of s.contexts x) (law.proper.packets id (Packet.Write x g place payload) find).command)

  opened_by : (g a ep : ℕ) → HeldThere s.grants g a ep → is_open_grant (grant_in s.grants g) ≡ true
  opened_by g a ep h = ap is_open_grant h.found ∙ h.stands

  pub through_open : (g : ℕ) (id : FlightId) (p : Packet) → flight id s.flights ≡ Some p → is_sent_through g p ≡ true → is_open_grant (grant_in s.grants g) ≡ true
  through_open g id (Packet.Message to ep h m) find w =
      let e = message_held id to ep h m find (grind (arith, w)) in
      let q : m.header.send ≡ g = grind (arith, nat_tests, w) in
      subst (λ k. is_open_grant (grant_in s.grants k) ≡ true) q (opened_by m.header.send m.header.sender e.0 e.1)
  through_open g id (Packet.Read x h place buffer) find w =
      let e = read_held id x h place buffer find in
      let q : h ≡ g = grind (arith, nat_tests, w) in
      subst (λ k. is_open_grant (grant_in s.grants k) ≡ true) q (opened_by h x.issuer e.0 e.1)
  through_open g id (Packet.Write x h place payload) find w =
      let e = write_held id x h place payload find in
      let q : h ≡ g = grind (arith, nat_tests, w) in
      subst (λ k. is_open_grant (grant_in s.grants k) ≡ true) q (opened_by h x.issuer e.0 e.1)
  through_open g id (Packet.Credit x to h) find w = absurd (cc)
  through_open g id (Packet.Answer x answer) find w = absurd (cc)
  through_open g id (Packet.Install x to ep f) find w = absurd (cc)
  through_open g id (Packet.Close x to ep h) find w = absurd (cc)

  -- ---- granted bytes

  open_is : (t : Standing) → is_open t ≡ true → (is_live t || is_closing_grant t) ≡ true
  open_is Live e = refl
  open_is Closing e = refl
  open_is Closed e = absurd (cc)
  open_is Done e = absurd (cc)

  granted : (g a ep place len : ℕ) (perm : Perm) → HeldThere s.grants g a ep → is_covered place len perm g (grant_in s.grants g) ≡ true → granted_by g place len perm (grant_in s.grants g) ≡ true
  granted g a ep place len perm h c =
      let covered : covers g place len perm h.grant.fresh ≡ true = subst (λ o. is_covered place len perm g o ≡ true) h.found c in
      let stands = open_is h.grant.standing h.stands in
      ap (granted_by g place len perm) h.found ∙ grind (arith, covered, stands)

  is_true : (b : Bool) → b ≡ true → IsTrue b
  is_true b e = e

  pub read_granted : (id x : FlightId) (g place : ℕ) (buffer : List ℕ) → flight id s.flights ≡ Some (Packet.Read x g place buffer) → Granted s g place (length buffer) Perm.R
  read_granted id x g place buffer find =
      let e = read_held id x g place buffer find in
      is_true (granted_by g place (length buffer) Perm.R (grant_in s.grants g)) (granted g x.issuer e.0 place (length buffer) Perm.R e.1 (law.proper.packets id (Packet.Read x g place buffer) find).entitled)

  pub write_granted : (id x : FlightId) (g place : ℕ) (payload : List ℕ) → flight id s.flights ≡ Some (Packet.Write x g place payload) → Granted s g place (length payload) Perm.W
  write_granted id x g place payload find =
      let e = write_held id x g place payload find in
      is_true (granted_by g place (length payload) Perm.W (grant_in s.grants g)) (granted g x.issuer e.0 place (length payload) Perm.W e.1 (law.proper.packets id (Packet.Write x g place payload) find).entitled)

pub access_law : AccessLaw
access_law setup steps v p =
    let law = invariant_ever setup steps v p in
    (read_granted (final (opening setup.memory setup.lines) steps) law, write_granted (final (opening setup.memory setup.lines) steps) law)
