-- Landings and answers of others leave the writer's and the reader's flights and queues.
use Rattle.std.proofs.Common.{◌≡◌, ◌≢◌, ℕ, Bool, true, false, List, [], length, Some, None, refl, sym, subst, ◌∙◌, ap, arith, inl, inr}
use Rattle.std.specs.Prelude.{Option, if◌then◌else◌, ◌==◌, ◌⊎◌}
use Rattle.std.proofs.lemmas.Bool.Decides.{nat_tests}
use Rattle.m3_base.specs.declared.ids.FlightId.{FlightId}
use Rattle.m3_base.specs.declared.message.Message.{Message}
use Rattle.m3_base.specs.declared.command.Answer.{Answer}
use Rattle.m3_base.specs.declared.command.Refusal.{Refusal}
use Rattle.m3_base.specs.declared.packet.Packet.{Packet}
use Rattle.m3_base.specs.declared.packet.Fresh.{Fresh}
use Rattle.m3_base.specs.Ideal.Flights.{flight, same_name, name_of, change_flight, flight_name}
use Rattle.m3_base.specs.Ideal.Context.{Kind, Flying, Endpoint, Context, endpoint, with_endpoint, new_endpoint}
use Rattle.m3_base.specs.Ideal.Landing.{flying_at, land_by, land_refusal, after_message, with_credit, closed_at, has_live, flies_at, written_at, bytes_at, context_after_answer, with_message, message_id, landed_answer, is_record_of}
use Rattle.m3_base.specs.Ideal.State.{State, Grant, context_of, put_context, grant_in, holder, parent_of}
use Rattle.m3_base.specs.Ideal.Step.{IdealResult, step_to, land_in, message_in, credit_in, install_in, close_in, answered_in, answer_in, settle_in, Starts_closing, Closes_endpoint, number_of, after_ending}
use Rattle.m3_laws.specs.Laws.{parent_at}
use Rattle.m3_laws.specs.GrantInvariant.{IsHeldAt, FormLawful, form_of, ChildOf}
use Rattle.m3_laws.specs.WellFormed.{CommandUse, use_of, use_in, use_by, expects, uses_send, uses_reply}
use Rattle.m3_laws.specs.Invariant.{Invariant}
use Rattle.m3_base.proofs.FlightNames.{name_found}
use Rattle.m3_laws.proofs.credits.CreditReturns.{form_at}
use Rattle.m3_laws.proofs.grants.RevokedIsGone.{refused_there}
use Rattle.m3_pipe_laws.proofs.Invariant.Sides.{Sides}
use Rattle.m3_pipe_laws.proofs.Invariant.Isolation.{Alone, PacketApart, Isolation}
use Rattle.m3_pipe_laws.proofs.Invariant.Flights.{lone_flying, flying_in, flying_of}
use Rattle.m3_pipe_laws.proofs.Others.Frames.{Kept, Side, side_put, side_same, NotOwn, IsOwn, same_changed, same_ended, kept_same, kept_closed, kept_set, kept_taken, queue_credited}
use Rattle.m3_base.proofs.Activities.{act_found}

-- ---- records and their grants

-- what is held at a place where only one grant is
pub only_form : (gs : List Grant) (a ep : ℕ) (f k : Fresh) → Alone gs a ep f → FormLawful gs a ep (Some k) → k ≡ f
only_form gs a ep f k alone h = by_grant (grant_in gs (number_of k)) refl h
  where
    by_same : (o : Option Grant) → IsHeldAt o a ep f → IsHeldAt o a ep k → k ≡ f
    by_same None x y = absurd x
    by_same (Some g) x y = sym y.fresh ∙ x.fresh

    by_grant : (o : Option Grant) → grant_in gs (number_of k) ≡ o → IsHeldAt o a ep k → k ≡ f
    by_grant None e x = absurd x
    by_grant (Some g) e x =
        let n : number_of k ≡ number_of f = alone.only (number_of k) g e x.act x.ep in
        by_same (grant_in gs (number_of f)) alone.held (subst (λ z. IsHeldAt (grant_in gs z) a ep k) n h)

-- a grant is held at one place
pub one_place : (gs : List Grant) (g a ep b i : ℕ) (f k : Fresh) → IsHeldAt (grant_in gs g) a ep f → IsHeldAt (grant_in gs g) b i k → (b ≡ a) × (i ≡ ep)
one_place gs g a ep b i f k x y = by_grant (grant_in gs g) x y
  where
    by_grant : (o : Option Grant) → IsHeldAt o a ep f → IsHeldAt o b i k → (b ≡ a) × (i ≡ ep)
    by_grant None x y = absurd x
    by_grant (Some g) x y = (sym y.act ∙ x.act, sym y.ep ∙ x.ep)

-- a message that lands is for the grant of the record there
pub lands_at : (g : ℕ) (m : Message) (e : Endpoint) → land_refusal g m e ≡ None → is_record_of g e ≡ true
lands_at g m e h = by_bool (is_record_of g e) refl
  where
    by_bool : (b : Bool) → is_record_of g e ≡ b → b ≡ true
    by_bool true w = refl
    by_bool false w = let q = refused_there g m e w in absurd (cc)

-- ---- commands that fly

-- the packet or the answer of a command
abbrev pub IsCommands : Packet → Type 0
IsCommands (Packet.Message to ep h m) = Unit {0}
IsCommands (Packet.Read id h place buffer) = Unit {0}
IsCommands (Packet.Write id h place payload) = Unit {0}
IsCommands (Packet.Answer id answer) = Unit {0}
IsCommands p = ⊥

abbrev pub has_use : Option CommandUse → Bool
has_use None = false
has_use (Some u) = true

pub expects_use : (o : Option CommandUse) (p : Packet) → IsCommands p → expects o p ≡ true → has_use o ≡ true
expects_use (Some u) p c h = refl
expects_use None (Packet.Message to ep g m) c h = by_flags (m.header.flags == 0) h
  where
    by_flags : (b : Bool) → (if b then uses_send m.header.send None else uses_reply None) ≡ true → has_use None ≡ true
    by_flags true h = absurd (cc)
    by_flags false h = absurd (cc)
expects_use None (Packet.Read id g place buffer) c h = absurd (cc)
expects_use None (Packet.Write id g place payload) c h = absurd (cc)
expects_use None (Packet.Answer id answer) c h = absurd (cc)
expects_use None (Packet.Credit id to g) c h = absurd c
expects_use None (Packet.Install id to ep f) c h = absurd c
expects_use None (Packet.Close id to ep g) c h = absurd c

-- the activity has at most one command that flies, and it is known
abbrev pub Lone : ℕ → State → Type 0
Lone a s = (flying_of a s ≡ []) ⊎ ((k : ℕ) × ((kind : Kind) × ((ep : ℕ) × ((token : ℕ) × (flying_of a s ≡ lone_flying k kind ep token)))))

abbrev pub IsFlying : Option Flying → Type 0
IsFlying None = ⊥
IsFlying (Some f) = Unit {0}

used_flies : (s : State) (id : FlightId) → has_use (use_of s.contexts id) ≡ true → IsFlying (flying_at id.number (flying_of id.issuer s))
used_flies s id h = by_context (context_of id.issuer s.contexts) h
  where
    by_flying : (c : Context) (o : Option Flying) → has_use (use_by c o) ≡ true → IsFlying o
    by_flying c None h = absurd (cc)
    by_flying c (Some f) h = tt

    by_context : (o : Option Context) → has_use (use_in id.number o) ≡ true → IsFlying (flying_at id.number (flying_in o))
    by_context None h = absurd (cc)
    by_context (Some c) h = by_flying c (flying_at id.number c.flying) h

pub flies_own : (a : ℕ) (s : State) (id : FlightId) → Lone a s → id.issuer ≡ a → IsFlying (flying_at id.number (flying_of id.issuer s)) → IsOwn a s id
flies_own a s id (inl e) q h = absurd (subst (λ fs. IsFlying (flying_at id.number fs)) (ap (λ z. flying_of z s) q ∙ e) h)
flies_own a s id (inr l) q h = by_number (l.0 == id.number) refl (subst (λ fs. IsFlying (flying_at id.number fs)) (ap (λ z. flying_of z s) q ∙ l.1.1.1.1) h)
  where
    by_number : (b : Bool) → (l.0 == id.number) ≡ b → IsFlying (if b then Some (record { number = l.0; kind = l.1.0; ep = l.1.1.0; token = l.1.1.1.0 }) else None) → IsOwn a s id
    by_number false w h = absurd h
    by_number true w h =
        let n : id.number ≡ l.0 = grind (arith, nat_tests, w) in
        record { number = l.0; kind = l.1.0; ep = l.1.1.0; token = l.1.1.1.0; flying = l.1.1.1.1; name = same_parts id q n }
      where
        same_parts : (i : FlightId) → i.issuer ≡ a → i.number ≡ l.0 → i ≡ flight_name a l.0
        same_parts i x y = rw (sym x, sym y) refl

not_both : (a : ℕ) (s : State) (id : FlightId) → IsOwn a s id → NotOwn a s id → ⊥
not_both a s id o h = let z = h o.number o.kind o.ep o.token o.flying in let y : same_name (flight_name a o.number) id ≡ true = grind (arith, nat_tests, o.name) in absurd (cc)

module _ (e : Sides) (s : State) (law : Invariant s) (around : Isolation e s) (lone_w : Lone e.w s) (lone_r : Lone e.r s) where
  -- a command of the writer's or reader's is its own one
  pub not_by : (a : ℕ) (id : FlightId) (p : Packet) → Lone a s → NotOwn a s id → flight id s.flights ≡ Some p → IsCommands p → id.issuer ≢ a
  not_by a id p lone apart find c q =
      let n : id ≡ name_of p = name_found id p s.flights find in
      let u = expects_use (use_of s.contexts (name_of p)) p c (law.proper.packets id p find).command in
      let f = used_flies s id (subst (λ z. has_use (use_of s.contexts z) ≡ true) (sym n) u) in
      not_both a s id (flies_own a s id lone q f) apart

  -- what is at a place where only one grant is held
  pub form_there : (a ep : ℕ) (f k : Fresh) (c : Context) → Alone s.grants a ep f → context_of a s.contexts ≡ Some c → form_of (endpoint c ep) ≡ Some k → k ≡ f
  form_there a ep f k c alone at h = only_form s.grants a ep f k alone (subst (FormLawful s.grants a ep) h (law.lawful.placed.records a c at ep))

  -- where a message lands at such a place, it is for that grant
  pub lands_for : (a ep g : ℕ) (f : Fresh) (m : Message) (c : Context) → Alone s.grants a ep f → context_of a s.contexts ≡ Some c → land_refusal g m (endpoint c ep) ≡ None → g ≡ number_of f
  lands_for a ep g f m c alone at h =
      let k = form_at g (endpoint c ep) (lands_at g m (endpoint c ep) h) in
      sym k.1.1.0 ∙ ap number_of (form_there a ep f k.0 c alone at k.1.0)

  -- ---- messages

  child_grant : (o : Option Grant) (a h : ℕ) → ChildOf o a h → parent_at o ≡ Some h
  child_grant None a h x = absurd x
  child_grant (Some x) a h c = c.1

  child_there : (g a h : ℕ) → ChildOf (grant_in s.grants g) a h → (x : Grant) × ((grant_in s.grants g ≡ Some x) × ((holder x.line ≡ a) × (parent_of x.line ≡ Some h)))
  child_there g a h c = by_grant (grant_in s.grants g) refl c
    where
      by_grant : (o : Option Grant) → grant_in s.grants g ≡ o → ChildOf o a h → (x : Grant) × ((grant_in s.grants g ≡ Some x) × ((holder x.line ≡ a) × (parent_of x.line ≡ Some h)))
      by_grant None q c = absurd c
      by_grant (Some x) q c = (x, (q, c))

  held_act : (g a ep : ℕ) (f : Fresh) (x : Grant) → IsHeldAt (grant_in s.grants g) a ep f → grant_in s.grants g ≡ Some x → holder x.line ≡ a
  held_act g a ep f x h q = (subst (λ z. IsHeldAt z a ep f) q h).act

  -- a message to the reader's inbox is the writer's
  pub to_inbox : (id : FlightId) (to ep : ℕ) (m : Message) → flight id s.flights ≡ Some (Packet.Message to ep e.inbox.grant m) → id.issuer ≡ e.w
  to_inbox id to ep m find = by_flags (m.header.flags == 0) refl
    where
      packet : PacketApart e (Packet.Message to ep e.inbox.grant m)
      packet = around.packets id (Packet.Message to ep e.inbox.grant m) find

      by_flags : (b : Bool) → (m.header.flags == 0) ≡ b → id.issuer ≡ e.w
      by_flags false w = absurd ((packet.1 w).0 refl)
      by_flags true w =
          let sent = (law.lawful.traffic.packets id (Packet.Message to ep e.inbox.grant m) find).1 (grind (arith, nat_tests, w)) in
          let x = child_there m.header.send m.header.sender e.inbox.grant sent in
          let g : m.header.send ≡ e.notices.grant = around.grants.only_child m.header.send x.0 x.1.0 x.1.1.1 in
          let h : holder (x.0).line ≡ e.w = held_act e.notices.grant e.w e.writer.send _ x.0 around.grants.notices.held (subst (λ z. grant_in s.grants z ≡ Some x.0) g x.1.0) in
          let n : id ≡ message_id m = name_found id (Packet.Message to ep e.inbox.grant m) s.flights find in
          ap (λ z. z.issuer) n ∙ (sym x.1.1.0 ∙ h)

  -- and one to the writer's replies is the reader's
  pub to_replies : (id : FlightId) (to ep : ℕ) (m : Message) → flight id s.flights ≡ Some (Packet.Message to ep e.replies.grant m) → id.issuer ≡ e.r
  to_replies id to ep m find = by_flags (m.header.flags == 0) refl
    where
      packet : PacketApart e (Packet.Message to ep e.replies.grant m)
      packet = around.packets id (Packet.Message to ep e.replies.grant m) find

      by_flags : (b : Bool) → (m.header.flags == 0) ≡ b → id.issuer ≡ e.r
      by_flags false w =
          let n : id ≡ message_id m = name_found id (Packet.Message to ep e.replies.grant m) s.flights find in
          ap (λ z. z.issuer) n ∙ (packet.1 w).1 refl
      by_flags true w =
          let sent = (law.lawful.traffic.packets id (Packet.Message to ep e.replies.grant m) find).1 (grind (arith, nat_tests, w)) in
          let x = child_there m.header.send m.header.sender e.replies.grant sent in
          absurd (around.grants.no_child m.header.send x.0 x.1.0 x.1.1.1)

  -- ---- what a step of others leaves

  pub record Elsewhere (n : State) : Type 0 where
    pub writer : Side e.w e.writer.reply s n
    pub reader : Side e.r e.reader.recv s n

  abbrev pub AllElsewhere : Option IdealResult → Type 0
  AllElsewhere None = Unit {0}
  AllElsewhere (Some n) = Elsewhere n.state

  module _ (id : FlightId) (not_w : NotOwn e.w s id) (not_r : NotOwn e.r s id) where
    message_side : (a i : ℕ) (f : Fresh) (to ep g : ℕ) (m : Message) (x : Context) → NotOwn a s id → Alone s.grants a i f → (number_of f ≡ g → ⊥) → flight id s.flights ≡ Some (Packet.Message to ep g m) → context_of to s.contexts ≡ Some x → (why : Option Refusal) → land_refusal g m (endpoint x ep) ≡ why → Side a i s (record s { contexts = put_context (land_by ep m x why).context s.contexts; flights = change_flight (land_by ep m x why).answer s.flights })
    message_side a i f to ep g m x apart alone never find at (Some w) q =
        side_put a i s _ x x refl (subst (λ z. context_of z s.contexts ≡ Some x) (act_found to x s.contexts at) at) (λ z. (refl, kept_same (endpoint x i))) (same_changed a s (Packet.Answer (message_id m) (Answer.Refused w)) (subst (NotOwn a s) (name_found id (Packet.Message to ep g m) s.flights find) apart))
    message_side a i f to ep g m x apart alone never find at None q =
        let act : to ≡ x.act = act_found to x s.contexts at in
        side_put a i s _ x (after_message ep m x) refl (subst (λ z. context_of z s.contexts ≡ Some x) (act ∙ same_acts (m.header.flags == 0)) at) (λ z. (same_flying (m.header.flags == 0), kept_taken ep i m x (λ j. never (sym (lands_for a i g f m x alone (subst (λ y. context_of y s.contexts ≡ Some x) (act ∙ (same_acts (m.header.flags == 0) ∙ sym z)) at) (subst (λ y. land_refusal g m (endpoint x y) ≡ None) (sym j) q)))))) (same_changed a s (Packet.Answer (message_id m) (landed_answer m)) (subst (NotOwn a s) (name_found id (Packet.Message to ep g m) s.flights find) apart))
      where
        same_acts : (b : Bool) → x.act ≡ (if b then with_endpoint x ep (with_message m (endpoint x ep)) else with_credit m.header.send (with_endpoint x ep (with_message m (endpoint x ep)))).act
        same_acts true = refl
        same_acts false = refl

        same_flying : (b : Bool) → (if b then with_endpoint x ep (with_message m (endpoint x ep)) else with_credit m.header.send (with_endpoint x ep (with_message m (endpoint x ep)))).flying ≡ x.flying
        same_flying true = refl
        same_flying false = refl

    -- no message of others lands in the two queues
    message_elsewhere : (to ep g : ℕ) (m : Message) → flight id s.flights ≡ Some (Packet.Message to ep g m) → (o : Option Context) → context_of to s.contexts ≡ o → AllElsewhere (message_in s id ep g m o)
    message_elsewhere to ep g m find None at = tt
    message_elsewhere to ep g m find (Some x) at = record {
      writer = message_side e.w e.writer.reply (Fresh.Receive e.replies.grant e.replies.slots e.replies.size) to ep g m x not_w around.grants.replies (λ q. not_by e.r id (Packet.Message to ep g m) lone_r not_r find tt (to_replies id to ep m (subst (λ z. flight id s.flights ≡ Some (Packet.Message to ep z m)) (sym q) find))) find at (land_refusal g m (endpoint x ep)) refl;
      reader = message_side e.r e.reader.recv (Fresh.Receive e.inbox.grant e.inbox.slots e.inbox.size) to ep g m x not_r around.grants.inbox (λ q. not_by e.w id (Packet.Message to ep g m) lone_w not_w find tt (to_inbox id to ep m (subst (λ z. flight id s.flights ≡ Some (Packet.Message to ep z m)) (sym q) find))) find at (land_refusal g m (endpoint x ep)) refl;
    }

    -- a context changes with a flight that ends
    ended_side : (a i : ℕ) (x d : Context) → NotOwn a s id → context_of d.act s.contexts ≡ Some x → (a ≡ d.act → (d.flying ≡ x.flying) × Kept (endpoint x i) (endpoint d i)) → Side a i s (after_ending s id d)
    ended_side a i x d apart at h = side_put a i s _ x d refl at h (same_ended a s id apart)

    credit_elsewhere : (to g : ℕ) (o : Option Context) → context_of to s.contexts ≡ o → AllElsewhere (credit_in s id g o)
    credit_elsewhere to g None at = tt
    credit_elsewhere to g (Some x) at =
        let found : context_of x.act s.contexts ≡ Some x = subst (λ z. context_of z s.contexts ≡ Some x) (act_found to x s.contexts at) at in
        record {
          writer = ended_side e.w e.writer.reply x (with_credit g x) not_w found (λ q. (refl, inl (queue_credited g x.endpoints e.writer.reply)));
          reader = ended_side e.r e.reader.recv x (with_credit g x) not_r found (λ q. (refl, inl (queue_credited g x.endpoints e.reader.recv)));
        }

    install_side : (a i : ℕ) (f : Fresh) (y : FlightId) (to ep : ℕ) (k : Fresh) (x : Context) → NotOwn a s id → Alone s.grants a i f → (number_of k ≡ number_of f → ⊥) → flight id s.flights ≡ Some (Packet.Install y to ep k) → context_of to s.contexts ≡ Some x → Side a i s (after_ending s id (with_endpoint x ep (new_endpoint k)))
    install_side a i f y to ep k x apart alone never find at =
        let act : to ≡ x.act = act_found to x s.contexts at in
        let held = (law.lawful.placed.installs id (Packet.Install y to ep k) find).1 in
        ended_side a i x (with_endpoint x ep (new_endpoint k)) apart (subst (λ z. context_of z s.contexts ≡ Some x) act at) (λ z. (refl, kept_set x.endpoints ep i (new_endpoint k) (λ j. absurd (never (ap number_of (only_form s.grants a i f k alone (subst (λ u. IsHeldAt (grant_in s.grants (number_of k)) u i k) (act ∙ sym z) (subst (λ u. IsHeldAt (grant_in s.grants (number_of k)) to u k) (sym j) held))))))))

    install_elsewhere : (y : FlightId) (to ep : ℕ) (k : Fresh) → flight id s.flights ≡ Some (Packet.Install y to ep k) → (o : Option Context) → context_of to s.contexts ≡ o → AllElsewhere (install_in s id ep k o)
    install_elsewhere y to ep k find None at = tt
    install_elsewhere y to ep k find (Some x) at =
        let new = around.packets id (Packet.Install y to ep k) find in
        record {
          writer = install_side e.w e.writer.reply (Fresh.Receive e.replies.grant e.replies.slots e.replies.size) y to ep k x not_w around.grants.replies new.1 find at;
          reader = install_side e.r e.reader.recv (Fresh.Receive e.inbox.grant e.inbox.slots e.inbox.size) y to ep k x not_r around.grants.inbox new.0 find at;
        }

    close_elsewhere : (to ep g : ℕ) (o : Option Context) → context_of to s.contexts ≡ o → AllElsewhere (close_in s id ep g o)
    close_elsewhere to ep g None at = tt
    close_elsewhere to ep g (Some x) at = by_test (has_live g (endpoint x ep))
      where
        side : (a i : ℕ) → NotOwn a s id → Side a i s (after_ending s id (with_endpoint x ep (closed_at (endpoint x ep))))
        side a i apart = ended_side a i x (with_endpoint x ep (closed_at (endpoint x ep))) apart (subst (λ z. context_of z s.contexts ≡ Some x) (act_found to x s.contexts at) at) (λ z. (refl, kept_set x.endpoints ep i (closed_at (endpoint x ep)) (λ j. subst (λ u. Kept (endpoint x u) (closed_at (endpoint x ep))) (sym j) (kept_closed (endpoint x ep)))))

        by_test : (b : Bool) → AllElsewhere (if b then step_to (if flies_at ep x then Starts_closing id g else Closes_endpoint id g) (after_ending s id (with_endpoint x ep (closed_at (endpoint x ep)))) else None)
        by_test true = record { writer = side e.w e.writer.reply not_w; reader = side e.r e.reader.recv not_r }
        by_test false = tt

    served : (memory : List ℕ) (p : Packet) → id ≡ name_of p → Elsewhere (record s { memory = memory; flights = change_flight p s.flights })
    served memory p n = record {
      writer = side_same e.w e.writer.reply s _ refl (same_changed e.w s p (subst (NotOwn e.w s) n not_w));
      reader = side_same e.r e.reader.recv s _ refl (same_changed e.r s p (subst (NotOwn e.r s) n not_r));
    }

    pub land_elsewhere : (o : Option Packet) → flight id s.flights ≡ o → AllElsewhere (land_in s id o)
    land_elsewhere None find = tt
    land_elsewhere (Some (Packet.Message to ep g m)) find = message_elsewhere to ep g m find (context_of to s.contexts) refl
    land_elsewhere (Some (Packet.Credit y to g)) find = credit_elsewhere to g (context_of to s.contexts) refl
    land_elsewhere (Some (Packet.Read y g place buffer)) find = served s.memory (Packet.Answer id (Answer.Bytes (bytes_at place (length buffer) s.memory))) refl
    land_elsewhere (Some (Packet.Write y g place payload)) find = served (written_at place payload s.memory) (Packet.Answer id Answer.Written) refl
    land_elsewhere (Some (Packet.Answer y answer)) find = tt
    land_elsewhere (Some (Packet.Install y to ep k)) find = install_elsewhere y to ep k find (context_of to s.contexts) refl
    land_elsewhere (Some (Packet.Close y to ep g)) find = close_elsewhere to ep g (context_of to s.contexts) refl

    -- ---- answers of others

    answered_side : (a i : ℕ) (f : Flying) (answer : Answer) (x : Context) → NotOwn a s id → id.issuer ≢ a → context_of id.issuer s.contexts ≡ Some x → Side a i s (after_ending s id (context_after_answer f answer x))
    answered_side a i f answer x apart ne at =
        let act : id.issuer ≡ x.act = act_found id.issuer x s.contexts at in
        ended_side a i x (context_after_answer f answer x) apart (subst (λ z. context_of z s.contexts ≡ Some x) act at) (λ z. absurd (ne (act ∙ sym z)))

    pub answered_elsewhere : (o : Option Packet) → flight id s.flights ≡ o → AllElsewhere (answered_in s id o)
    answered_elsewhere None find = tt
    answered_elsewhere (Some (Packet.Message to ep g m)) find = tt
    answered_elsewhere (Some (Packet.Credit y to g)) find = tt
    answered_elsewhere (Some (Packet.Read y g place buffer)) find = tt
    answered_elsewhere (Some (Packet.Write y g place payload)) find = tt
    answered_elsewhere (Some (Packet.Install y to ep k)) find = tt
    answered_elsewhere (Some (Packet.Close y to ep g)) find = tt
    answered_elsewhere (Some (Packet.Answer y answer)) find = by_context (context_of id.issuer s.contexts) refl
      where
        by_flying : (x : Context) → context_of id.issuer s.contexts ≡ Some x → (o : Option Flying) → AllElsewhere (settle_in s id answer x o)
        by_flying x at None = tt
        by_flying x at (Some f) = record {
          writer = answered_side e.w e.writer.reply f answer x not_w (not_by e.w id (Packet.Answer y answer) lone_w not_w find tt) at;
          reader = answered_side e.r e.reader.recv f answer x not_r (not_by e.r id (Packet.Answer y answer) lone_r not_r find tt) at;
        }

        by_context : (o : Option Context) → context_of id.issuer s.contexts ≡ o → AllElsewhere (answer_in s id answer o)
        by_context None at = tt
        by_context (Some x) at = by_flying x at (flying_at id.number x.flying)
