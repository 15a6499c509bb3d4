-- What lands changes no context but its target's.
use Rattle.std.proofs.Common.{◌≡◌, ℕ, Bool, true, false, List, [], ◌∷◌, Some, None, refl, sym, subst, ◌∙◌, ap, arith}
use Rattle.std.specs.Prelude.{Option, if◌then◌else◌, ◌==◌, not, ◌&&◌}
use Rattle.std.proofs.lemmas.Bool.Decides.{nat_tests}
use Rattle.m3_base.specs.declared.ids.FlightId.{FlightId}
use Rattle.m3_base.specs.declared.packet.Packet.{Packet}
use Rattle.m3_base.specs.declared.packet.Fresh.{Fresh}
use Rattle.m3_base.specs.declared.message.Message.{Message}
use Rattle.m3_base.specs.declared.command.Answer.{Answer}
use Rattle.m3_base.specs.declared.command.Refusal.{Refusal}
use Rattle.m3_base.specs.declared.step.Step.{Step}
use Rattle.m3_base.specs.Ideal.Flights.{flight, name_of}
use Rattle.m3_base.specs.Ideal.Context.{Flying, Context, Endpoint, Free, endpoint, with_endpoint, new_endpoint, endpoint_at}
use Rattle.m3_base.specs.Ideal.State.{State, Grant, context_of, put_context, grant_in, holder, holder_ep}
use Rattle.m3_base.specs.Ideal.Landing.{land_by, land_refusal, after_message, with_credit, has_send, has_live, has_closing, closed_at, flies_at, flying_at, context_after_answer, freed_grant, is_closing, grant_of, with_message, is_record_of}
use Rattle.m3_base.specs.Ideal.State.{is_number}
use Rattle.m3_base.specs.Ideal.Step.{Label, Credits, Discards, Starts_closing, Closes_endpoint, Answers, Frees, ideal_run, on_from, with_label, step_to, land_in, message_in, landed_in, credit_in, install_in, close_in, answer_in, answered_in, settle_in, closed_in, free_in, after_ending}
use Rattle.m3_base.specs.Placement.Landing.{LandingResult, landing_result, landing_result_by, landing_step}
use Rattle.m3_base.specs.Placement.Routing.{target_of}
use Rattle.m3_quiet.specs.Facts.{RecordsHeld}
use Rattle.m3_quiet.proofs.Events.Deliveries.{flight-name, context-act, came_next, came_is, freed_state}
use Rattle.m3_quiet.proofs.Events.Landings.{answered_less, settled_of}
use Rattle.m3_base.proofs.Activities.{context-put_other}
use Rattle.std.proofs.lemmas.Bool.{eqb-true}

-- the contexts of all but the flight's target are the same
abbrev pub Local : State → FlightId → State → Type 0
Local s id n = (a : ℕ) → (target_of (flight id s.flights) ≡ Some a → ⊥) → context_of a n.contexts ≡ context_of a s.contexts

abbrev pub AllLocal : State → FlightId → Option LandingResult → Type 0
AllLocal s id None = Unit {0}
AllLocal s id (Some c) = Local s id c.state

put_local : (s : State) (id : FlightId) (y : Context) (cs : List Context) → target_of (flight id s.flights) ≡ Some y.act → (a : ℕ) → (target_of (flight id s.flights) ≡ Some a → ⊥) → context_of a (put_context y cs) ≡ context_of a cs
put_local s id y cs its a other = context-put_other a y cs (by_act (a == y.act) refl)
  where
    by_act : (b : Bool) → (a == y.act) ≡ b → b ≡ false
    by_act false e = refl
    by_act true e = absurd (other (its ∙ ap Some (sym (eqb-true a y.act e))))

module _ (s : State) (id : FlightId) (records : RecordsHeld s) where
  ended_local : (a : ℕ) (y : Context) → target_of (flight id s.flights) ≡ Some a → y.act ≡ a → Local s id (after_ending s id y)
  ended_local a y its mine = put_local s id y s.contexts (its ∙ ap Some (sym mine))

  -- the further step frees the target's endpoint
  freed_local : (a : ℕ) (n : State) (first : Step) (w : Label) (g ep : ℕ) → target_of (flight id s.flights) ≡ Some a → is_record_of g (endpoint_at (context_of a s.contexts) ep) ≡ true → n.grants ≡ s.grants → Local s id n → AllLocal s id (landing_result_by s id (first ∷ Step.Closed g ∷ []) (with_label w (ideal_run (Step.Closed g ∷ []) n)))
  freed_local a n first w g ep its has same local = by_grant (grant_in n.grants g) refl
    where
      by_flags : (x : Grant) (c : Context) (b : Bool) → grant_in n.grants g ≡ Some x → context_of (holder x.line) n.contexts ≡ Some c → AllLocal s id (landing_result_by s id (first ∷ Step.Closed g ∷ []) (with_label w (on_from (ideal_run []) (if b then step_to (Frees g) (freed_state n g (holder_ep x.line) c) else None))))
      by_flags x c false e f = tt
      by_flags x c true e f =
          let held : holder x.line ≡ a = records a ep g x has (subst (λ gs. grant_in gs g ≡ Some x) same e) in
          let mine : c.act ≡ a = context-act (holder x.line) n.contexts c f ∙ held in
          λ b other. put_local s id (with_endpoint c (holder_ep x.line) Free) n.contexts (its ∙ ap Some (sym mine)) b other ∙ local b other

      by_context : (x : Grant) (o : Option Context) → grant_in n.grants g ≡ Some x → context_of (holder x.line) n.contexts ≡ o → AllLocal s id (landing_result_by s id (first ∷ Step.Closed g ∷ []) (with_label w (on_from (ideal_run []) (free_in n g (holder_ep x.line) o))))
      by_context x None e f = tt
      by_context x (Some c) e f = by_flags x c (has_closing g (endpoint c (holder_ep x.line)) && not (flies_at (holder_ep x.line) c)) e f

      by_grant : (o : Option Grant) → grant_in n.grants g ≡ o → AllLocal s id (landing_result_by s id (first ∷ Step.Closed g ∷ []) (with_label w (on_from (ideal_run []) (closed_in n g o))))
      by_grant None e = tt
      by_grant (Some x) e = by_context x (context_of (holder x.line) n.contexts) e refl

  credit_local : (to g : ℕ) → target_of (flight id s.flights) ≡ Some to → (o : Option Context) → context_of to s.contexts ≡ o → AllLocal s id (came_next s id (Step.Land id) (credit_in s id g o))
  credit_local to g its None e = tt
  credit_local to g its (Some x) e = by_send (has_send g x)
    where
      by_send : (b : Bool) → AllLocal s id (came_next s id (Step.Land id) (step_to (if b then Credits id g else Discards id g) (after_ending s id (with_credit g x))))
      by_send true = ended_local to (with_credit g x) its (context-act to s.contexts x e)
      by_send false = ended_local to (with_credit g x) its (context-act to s.contexts x e)

  install_local : (to ep : ℕ) (f : Fresh) → target_of (flight id s.flights) ≡ Some to → (o : Option Context) → context_of to s.contexts ≡ o → AllLocal s id (came_next s id (Step.Land id) (install_in s id ep f o))
  install_local to ep f its None e = tt
  install_local to ep f its (Some x) e = ended_local to (with_endpoint x ep (new_endpoint f)) its (context-act to s.contexts x e)

  close_local : (to ep g : ℕ) → target_of (flight id s.flights) ≡ Some to → (o : Option Context) → context_of to s.contexts ≡ o → AllLocal s id (came_next s id (Step.Land id) (close_in s id ep g o))
  close_local to ep g its None e = tt
  close_local to ep g its (Some x) e = by_flags (has_live g (endpoint x ep)) (flies_at ep x) refl
    where
      has : has_live g (endpoint x ep) ≡ true → is_record_of g (endpoint_at (context_of to s.contexts) ep) ≡ true
      has h = subst (λ o. is_record_of g (endpoint_at o ep) ≡ true) (sym e) (first_of_two (is_record_of g (endpoint x ep)) (not (is_closing (endpoint x ep))) h)
        where
          first_of_two : (a b : Bool) → (a && b) ≡ true → a ≡ true
          first_of_two true b w = refl
          first_of_two false b w = w

      by_flags : (b c : Bool) → has_live g (endpoint x ep) ≡ b → AllLocal s id (came_next s id (Step.Land id) (if b then step_to (if c then Starts_closing id g else Closes_endpoint id g) (after_ending s id (with_endpoint x ep (closed_at (endpoint x ep)))) else None))
      by_flags false c h = tt
      by_flags true true h = ended_local to (with_endpoint x ep (closed_at (endpoint x ep))) its (context-act to s.contexts x e)
      by_flags true false h = freed_local to (after_ending s id (with_endpoint x ep (closed_at (endpoint x ep)))) (Step.Land id) (Closes_endpoint id g) g ep its (has h) refl (ended_local to (with_endpoint x ep (closed_at (endpoint x ep))) its (context-act to s.contexts x e))

  answer_local : (a : Answer) → target_of (flight id s.flights) ≡ Some id.issuer → (o : Option Context) → context_of id.issuer s.contexts ≡ o → AllLocal s id (came_next s id (Step.Answered id) (answer_in s id a o))
  answer_local a its None e = tt
  answer_local a its (Some x) e = by_flying (flying_at id.number x.flying)
    where
      freed_of : (g : ℕ) (d : Endpoint) (b : Bool) → (if b then grant_of d else None) ≡ Some g → is_record_of g d ≡ true
      freed_of g d false h = absurd (cc)
      freed_of g d true h = subst (λ o. is_number g o ≡ true) (sym h) (grind (arith, nat_tests))

      by_freed : (v : Flying) (o : Option ℕ) → freed_grant v.ep (context_after_answer v a x) ≡ o → AllLocal s id (came_next s id (Step.Answered id) (step_to (Answers id a o) (after_ending s id (context_after_answer v a x))))
      by_freed v None h = ended_local id.issuer (context_after_answer v a x) its (context-act id.issuer s.contexts x e)
      by_freed v (Some g) h =
          let now : is_record_of g (endpoint (context_after_answer v a x) v.ep) ≡ true = freed_of g (endpoint (context_after_answer v a x) v.ep) (is_closing (endpoint (context_after_answer v a x) v.ep) && not (flies_at v.ep (context_after_answer v a x))) h in
          let was : is_record_of g (endpoint x v.ep) ≡ true = answered_less (is_record_of g) (settled_of g) v a x v.ep now in
          let has : is_record_of g (endpoint_at (context_of id.issuer s.contexts) v.ep) ≡ true = subst (λ o. is_record_of g (endpoint_at o v.ep) ≡ true) (sym e) was in
          freed_local id.issuer (after_ending s id (context_after_answer v a x)) (Step.Answered id) (Answers id a (Some g)) g v.ep its has refl (ended_local id.issuer (context_after_answer v a x) its (context-act id.issuer s.contexts x e))

      by_flying : (o : Option Flying) → AllLocal s id (came_next s id (Step.Answered id) (settle_in s id a x o))
      by_flying None = tt
      by_flying (Some v) = by_freed v (freed_grant v.ep (context_after_answer v a x)) refl

  message_local : (to ep g : ℕ) (m : Message) → target_of (flight id s.flights) ≡ Some to → (o : Option Context) → context_of to s.contexts ≡ o → AllLocal s id (came_next s id (Step.Land id) (message_in s id ep g m o))
  message_local to ep g m its None e = tt
  message_local to ep g m its (Some x) e = by_refusal (land_refusal g m (endpoint x ep))
    where
      by_refusal : (r : Option Refusal) → AllLocal s id (came_next s id (Step.Land id) (landed_in s id (land_by ep m x r)))
      by_refusal None = put_local s id (after_message ep m x) s.contexts (its ∙ ap Some (sym (acts (m.header.flags == 0))))
        where
          after : Bool → Context
          after b = if b then with_endpoint x ep (with_message m (endpoint x ep)) else with_credit m.header.send (with_endpoint x ep (with_message m (endpoint x ep)))

          acts : (b : Bool) → (after b).act ≡ to
          acts true = context-act to s.contexts x e
          acts false = context-act to s.contexts x e
      by_refusal (Some w) = put_local s id x s.contexts (its ∙ ap Some (sym (context-act to s.contexts x e)))

  local_by_land : (p : Packet) → flight id s.flights ≡ Some p → landing_step id (Some p) ≡ Step.Land id → AllLocal s id (came_next s id (Step.Land id) (land_in s id (Some p))) → AllLocal s id (landing_result s id)
  local_by_land p found lands ok = subst (AllLocal s id) (sym (came_is s id (Step.Land id) (land_in s id (Some p)) (ap (landing_step id) found ∙ lands) (ap (land_in s id) found))) ok

  local_by_packet : (o : Option Packet) → flight id s.flights ≡ o → AllLocal s id (landing_result s id)
  local_by_packet None found = subst (AllLocal s id) (sym (came_is s id (Step.Land id) None (ap (landing_step id) found) (ap (land_in s id) found))) tt
  local_by_packet (Some (Packet.Message to ep g m)) found = local_by_land (Packet.Message to ep g m) found refl (message_local to ep g m (ap target_of found) (context_of to s.contexts) refl)
  local_by_packet (Some (Packet.Credit z to g)) found = local_by_land (Packet.Credit z to g) found refl (credit_local to g (ap target_of found) (context_of to s.contexts) refl)
  local_by_packet (Some (Packet.Read z g place buffer)) found = local_by_land (Packet.Read z g place buffer) found refl (λ a other. refl)
  local_by_packet (Some (Packet.Write z g place payload)) found = local_by_land (Packet.Write z g place payload) found refl (λ a other. refl)
  local_by_packet (Some (Packet.Answer z a)) found =
      let named : name_of (Packet.Answer z a) ≡ id = flight-name id s.flights (Packet.Answer z a) found in
      subst (AllLocal s id) (sym (came_is s id (Step.Answered id) (answered_in s id (Some (Packet.Answer z a))) (ap (landing_step id) found) (ap (answered_in s id) found))) (answer_local a (ap target_of found ∙ ap (λ k. Some k.issuer) named) (context_of id.issuer s.contexts) refl)
  local_by_packet (Some (Packet.Install z to ep f)) found = local_by_land (Packet.Install z to ep f) found refl (install_local to ep f (ap target_of found) (context_of to s.contexts) refl)
  local_by_packet (Some (Packet.Close z to ep g)) found = local_by_land (Packet.Close z to ep g) found refl (close_local to ep g (ap target_of found) (context_of to s.contexts) refl)

pub came_local : (s : State) (id : FlightId) → RecordsHeld s → AllLocal s id (landing_result s id)
came_local s id records = local_by_packet s id records (flight id s.flights) refl
