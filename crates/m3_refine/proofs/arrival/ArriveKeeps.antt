-- What an arrival keeps: the activity, the name of the packet, and which grants may be closed.
use Rattle.std.proofs.Common.{◌≡◌, ℕ, Bool, true, false, cond, Some, None, refl, sym, ◌∙◌, ap, arith, Option, ◌⊎◌, inl, inr}
use Rattle.std.specs.Prelude.{if◌then◌else◌, ◌==◌, not, ◌&&◌}
use Rattle.m3_base.specs.declared.ids.FlightId.{FlightId}
use Rattle.m3_base.specs.declared.message.Message.{Message}
use Rattle.m3_base.specs.declared.command.Answer.{Answer}
use Rattle.m3_base.specs.declared.command.Refusal.{Refusal}
use Rattle.m3_base.specs.declared.packet.Packet.{Packet}
use Rattle.m3_base.specs.Ideal.Flights.{name_of}
use Rattle.m3_base.specs.Ideal.Context.{Kind, Flying, Endpoint, Context, endpoint, with_endpoint}
use Rattle.m3_base.specs.Ideal.Landing.{land_by, land_refusal, message_id, after_message, with_credit, grant_of, is_closing, has_live, has_closing, closed_at, flies_at, flying_at, endpoint_after_answer, context_after_answer, freed_grant, with_message}
use Rattle.m3_base.specs.Ideal.State.{is_number}
use Rattle.m3_base.specs.Ideal.Arrival.{Arrival, arrive, close_arrives, answer_arrives, arrival_of_answer}
use Rattle.m3_base.specs.Placement.Routing.{target}
use Rattle.m3_refine.proofs.arrival.ArriveIsLandAll.{set_there, set_grant, settled_grant, live_grant}

-- an answer has the packet's name, and goes to whoever's that is
abbrev pub AnswerOk : FlightId → Option Packet → Type 0
AnswerOk id None = Unit {0}
AnswerOk id (Some q) = (name_of q ≡ id) × (target q ≡ Some id.issuer)

-- a grant is freed where its record was closing, or a Close of it arrives
abbrev pub FreedBy : Context → Packet → Option ℕ → Type 0
FreedBy c p None = Unit {0}
FreedBy c p (Some g) = (ep : ℕ) × (grant_of (endpoint c ep) ≡ Some g) × ((has_closing g (endpoint c ep) ≡ true) ⊎ ((id : FlightId) × (to : ℕ) × (p ≡ Packet.Close id to ep g)))

abbrev pub KeptBy : Context → Packet → Option Arrival → Type 0
KeptBy c p None = Unit {0}
KeptBy c p (Some r) = (r.context.act ≡ c.act) × AnswerOk (name_of p) r.answer × FreedBy c p r.freed

module _ (c : Context) where
  taken_keeps : (ep : ℕ) (m : Message) → (after_message ep m c).act ≡ c.act
  taken_keeps ep m = by_flags (m.header.flags == 0)
    where
      by_flags : (b : Bool) → (if b then with_endpoint c ep (with_message m (endpoint c ep)) else with_credit m.header.send (with_endpoint c ep (with_message m (endpoint c ep)))).act ≡ c.act
      by_flags true = refl
      by_flags false = refl

  land_keeps : (to ep g : ℕ) (m : Message) (why : Option Refusal) → ((land_by ep m c why).context.act ≡ c.act) × AnswerOk (message_id m) (Some (land_by ep m c why).answer) × Unit {0}
  land_keeps to ep g m None = (taken_keeps ep m, (refl, refl), tt)
  land_keeps to ep g m (Some x) = (refl, (refl, refl), tt)

  settled_closing : (k : Kind) (t : ℕ) (answer : Answer) (e : Endpoint) → is_closing (endpoint_after_answer k t answer e) ≡ is_closing e
  settled_closing k t answer e = grind arith

  answer_keeps : (id x : FlightId) (answer : Answer) (o : Option Flying) → KeptBy c (Packet.Answer x answer) (answer_arrives c id answer o)
  answer_keeps id x answer None = tt
  answer_keeps id x answer (Some f) = by_freed (freed_grant f.ep (context_after_answer f answer c)) refl
    where
      freed_parts : (g : ℕ) (closing flying : Bool) (o : Option ℕ) → cond (closing && not flying) o None ≡ Some g → (closing ≡ true) × (o ≡ Some g)
      freed_parts g true true o h = absurd (cc)
      freed_parts g true false o h = (refl, h)
      freed_parts g false true o h = absurd (cc)
      freed_parts g false false o h = absurd (cc)

      by_freed : (o : Option ℕ) → freed_grant f.ep (context_after_answer f answer c) ≡ o → KeptBy c (Packet.Answer x answer) (arrival_of_answer id answer (context_after_answer f answer c) f.ep o)
      by_freed None e = (refl, tt, tt)
      by_freed (Some g) e =
          let d = context_after_answer f answer c in
          let s = endpoint_after_answer f.kind f.token answer (endpoint c f.ep) in
          let parts = freed_parts g (is_closing (endpoint d f.ep)) (flies_at f.ep d) (grant_of (endpoint d f.ep)) e in
          let its : grant_of (endpoint c f.ep) ≡ Some g = sym (settled_grant f.kind f.token answer (endpoint c f.ep)) ∙ set_grant c.endpoints f.ep g s parts.1 in
          let closing : is_closing (endpoint c f.ep) ≡ true =
          sym (settled_closing f.kind f.token answer (endpoint c f.ep)) ∙ sym (ap is_closing (set_there c.endpoints f.ep g s its)) ∙ parts.0 in
          (refl, tt, (f.ep, its, inl (ap (λ o. is_number g o && is_closing (endpoint c f.ep)) its ∙ ap (λ b. is_number g (Some g) && b) closing ∙ grind arith)))

  close_keeps : (id : FlightId) (to ep g : ℕ) (live : Bool) → has_live g (endpoint c ep) ≡ live
      → KeptBy c (Packet.Close id to ep g) (cond live (close_arrives c id ep g (with_endpoint c ep (closed_at (endpoint c ep))) (flies_at ep c)) None)
  close_keeps id to ep g false e = tt
  close_keeps id to ep g true e = by_flying (flies_at ep c)
    where
      by_flying : (b : Bool) → KeptBy c (Packet.Close id to ep g) (close_arrives c id ep g (with_endpoint c ep (closed_at (endpoint c ep))) b)
      by_flying true = (refl, tt, tt)
      by_flying false = (refl, tt, (ep, live_grant g (endpoint c ep) e, inr (id, to, refl)))

  pub arrive_keeps : (p : Packet) → KeptBy c p (arrive c p)
  arrive_keeps (Packet.Message to ep g m) = land_keeps to ep g m (land_refusal g m (endpoint c ep))
  arrive_keeps (Packet.Credit id to g) = (refl, tt, tt)
  arrive_keeps (Packet.Read id g place buffer) = tt
  arrive_keeps (Packet.Write id g place payload) = tt
  arrive_keeps (Packet.Answer id answer) = answer_keeps id id answer (flying_at id.number c.flying)
  arrive_keeps (Packet.Install id to ep f) = (refl, tt, tt)
  arrive_keeps (Packet.Close id to ep g) = close_keeps id to ep g (has_live g (endpoint c ep)) refl
