-- What arrives at a context is what comes in the ideal state: one equation for all packets.
use Rattle.std.proofs.Common.{◌≡◌, ℕ, zero, suc, Bool, true, false, cond, List, [], ◌∷◌, Some, None, refl, sym, subst, ◌∙◌, ap, arith, set, get_or}
use Rattle.std.specs.Prelude.{Option, if◌then◌else◌, not, ◌&&◌}
use Rattle.std.proofs.lemmas.Bool.Decides.{nat_tests}
use Rattle.m3_base.specs.declared.ids.FlightId.{FlightId}
use Rattle.m3_base.specs.declared.message.Message.{Message}
use Rattle.m3_base.specs.declared.command.Answer.{Answer}
use Rattle.m3_base.specs.declared.packet.Packet.{Packet}
use Rattle.m3_base.specs.declared.command.Refusal.{Refusal}
use Rattle.m3_base.specs.declared.packet.Fresh.{Fresh}
use Rattle.m3_base.specs.declared.event.Said.{Said}
use Rattle.m3_base.specs.declared.step.Step.{Step}
use Rattle.m3_base.specs.Ideal.Flights.{name_of, flight, new_flight, change_flight, end_flight}
use Rattle.m3_base.specs.Ideal.Context.{Kind, Flying, Endpoint, Free, Sends, Receives, Reaches, Context, endpoint, with_endpoint, new_endpoint}
use Rattle.m3_base.specs.Ideal.Landing.{land, land_by, land_refusal, message_id, has_send, with_credit, grant_of, is_closing, has_live, has_closing, closed_at, flies_at, flying_at, endpoint_after_answer, context_after_answer, freed_grant}
use Rattle.m3_base.specs.Ideal.State.{Grant, State, context_of, put_context, holder_ep, is_number}
use Rattle.m3_base.specs.Ideal.State as ideal
use Rattle.m3_base.specs.Ideal.GrantRules.{change_grant}
use Rattle.m3_base.specs.Ideal.Step.{Label, Starts_closing, Closes_endpoint, Answers, Frees, ideal_run, ideal_step, on_from, with_label, with_packet, land_in, close_in, closed_in, free_in, answered_in, answer_in, settle_in, step_to, number_of}
use Rattle.m3_base.specs.Journal.Entry.{said_of}
use Rattle.m3_base.specs.Placement.Routing.{target}
use Rattle.m3_base.specs.Placement.Landing.{LandingResult, landing_result, closing_steps, landing_step, name_if_some, said_or_nothing}
use Rattle.m3_base.specs.Ideal.Arrival.{Arrival, arrive, landed_said, close_arrives, answer_arrives, arrival_of_answer}
use Rattle.m3_base.proofs.FlightOrder.{change-new, end-new, find-new}
use Rattle.m3_refine.proofs.arrival.ArriveIsLand.{came_one, came_two, with_both, message_comes, credit_comes, install_comes, answer_comes}
use Rattle.m3_base.specs.Ideal.GrantHolder.{HeldThere}

-- ---- the state after an arrival

abbrev pub closes_grant : Grant → Grant
closes_grant y = record y { standing = ideal.Closed }

abbrev pub grants_after : Option ℕ → List Grant → List Grant
grants_after None gs = gs
grants_after (Some g) gs = change_grant gs g closes_grant

-- others: the flights but the one that arrives
abbrev pub after_arrival : State → List Packet → Arrival → State
after_arrival s others r =
    record s { contexts = put_context r.context s.contexts; flights = with_packet r.answer others; grants = grants_after r.freed s.grants }

abbrev pub name_in : Option Packet → Option FlightId
name_in None = None
name_in (Some q) = Some (name_of q)

abbrev pub came_as : State → List Packet → Arrival → LandingResult
came_as s others r = record { said = r.said; state = after_arrival s others r; answer = name_in r.answer; freed = r.freed }

-- ---- contexts and endpoints that are set twice

put-put : (c d : Context) (cs : List Context) → d.act ≡ c.act → put_context d (put_context c cs) ≡ put_context d cs
put-put c d [] e = refl
put-put c d (x ∷ cs) e = grind (arith, nat_tests, e, put-put c d cs e)

find-put : (a : ℕ) (c d : Context) (cs : List Context) → d.act ≡ a → context_of a cs ≡ Some c → context_of a (put_context d cs) ≡ Some d
find-put a c d [] e h = absurd (cc)
find-put a c d (x ∷ cs) e h = grind (arith, nat_tests, e, h, find-put a c d cs e)

pub set_there : (es : List Endpoint) (ep g : ℕ) (e : Endpoint) → grant_of (get_or es ep Free) ≡ Some g → get_or (set es ep e) ep Free ≡ e
set_there [] ep g e h = absurd (cc)
set_there (x ∷ es) zero g e h = refl
set_there (x ∷ es) (suc ep) g e h = set_there es ep g e h

pub set_grant : (es : List Endpoint) (ep g : ℕ) (e : Endpoint) → grant_of (get_or (set es ep e) ep Free) ≡ Some g → grant_of e ≡ Some g
set_grant [] ep g e h = absurd (cc)
set_grant (x ∷ es) zero g e h = h
set_grant (x ∷ es) (suc ep) g e h = set_grant es ep g e h

pub settled_grant : (k : Kind) (t : ℕ) (answer : Answer) (e : Endpoint) → grant_of (endpoint_after_answer k t answer e) ≡ grant_of e
settled_grant k t answer e = grind arith

pub live_grant : (g : ℕ) (e : Endpoint) → has_live g e ≡ true → grant_of e ≡ Some g
live_grant g Free h = absurd (cc)
live_grant g (Sends r) h = grind (arith, nat_tests, h)
live_grant g (Receives r) h = grind (arith, nat_tests, h)
live_grant g (Reaches r) h = grind (arith, nat_tests, h)

closing_now : (g : ℕ) (e : Endpoint) → has_live g e ≡ true → has_closing g (closed_at e) ≡ true
closing_now g Free h = absurd (cc)
closing_now g (Sends r) h = grind (arith, nat_tests, h)
closing_now g (Receives r) h = grind (arith, nat_tests, h)
closing_now g (Reaches r) h = grind (arith, nat_tests, h)

-- ---- the step that frees an endpoint

pub free_step : (s : State) (g ep : ℕ) (d : Context) → HeldThere s.grants g d.act ep → context_of d.act s.contexts ≡ Some d → has_closing g (endpoint d ep) ≡ true → flies_at ep d ≡ false
    → ideal_step s (Step.Closed g) ≡ Some (record { word = Frees g; state = record s { contexts = put_context (with_endpoint d ep Free) s.contexts; grants = change_grant s.grants g closes_grant } })
free_step s g ep d held found closing quiet =
    ap (closed_in s g) held.found
    ∙ ap (λ a. free_in s g (holder_ep held.grant.line) (context_of a s.contexts)) held.act
    ∙ ap (λ e. free_in s g e (context_of d.act s.contexts)) held.endpoint
    ∙ ap (free_in s g ep) found
    ∙ ap (λ b. cond (b && not (flies_at ep d)) (step_to (Frees g) (record s { contexts = put_context (with_endpoint d ep Free) s.contexts; grants = change_grant s.grants g closes_grant })) None) closing
    ∙ ap (λ b. cond (not b) (step_to (Frees g) (record s { contexts = put_context (with_endpoint d ep Free) s.contexts; grants = change_grant s.grants g closes_grant })) None) quiet

-- ---- each packet

landed_name : (ep : ℕ) (m : Message) (c : Context) (why : Option Refusal) → name_of (land_by ep m c why).answer ≡ message_id m
landed_name ep m c None = refl
landed_name ep m c (Some x) = refl

abbrev pub ComesAs : State → FlightId → List Packet → Option Arrival → Type 0
ComesAs s id others None = Unit {0}
ComesAs s id others (Some r) = landing_result s id ≡ Some (came_as s others r)

module _ (s : State) (p : Packet) (others : List Packet) (c : Context) (whole : s.flights ≡ new_flight p others) (absent : flight (name_of p) others ≡ None)
    (found : context_of c.act s.contexts ≡ Some c) (held : (ep g : ℕ) → grant_of (endpoint c ep) ≡ Some g → HeldThere s.grants g c.act ep) where
  flies : flight (name_of p) s.flights ≡ Some p
  flies = ap (flight (name_of p)) whole ∙ find-new p others absent

  gone : end_flight (name_of p) s.flights ≡ others
  gone = ap (end_flight (name_of p)) whole ∙ end-new p others absent

  -- what a landing without an answer comes to
  without : (said : Said) (d : Context) (freed : Option ℕ) (gs : List Grant)
      → landing_result s (name_of p) ≡ Some (record { said = said; state = record s { contexts = put_context d s.contexts; flights = end_flight (name_of p) s.flights; grants = gs }; answer = name_if_some (name_of p) (flight (name_of p) (end_flight (name_of p) s.flights)); freed = freed })
      → landing_result s (name_of p) ≡ Some (record { said = said; state = record s { contexts = put_context d s.contexts; flights = others; grants = gs }; answer = None; freed = freed })
  without said d freed gs e =
      e
      ∙ (λ k. Some (record { said = said; state = record s { contexts = put_context d s.contexts; flights = gone k; grants = gs }; answer = name_if_some (name_of p) (flight (name_of p) (gone k)); freed = freed }))
      ∙ (λ k. Some (record { said = said; state = record s { contexts = put_context d s.contexts; flights = others; grants = gs }; answer = name_if_some (name_of p) (absent k); freed = freed }))

  with_answer : (said : Said) (d : Context) (q : Packet) → name_of q ≡ name_of p
      → landing_result s (name_of p) ≡ Some (record { said = said; state = with_both s d (change_flight q s.flights); answer = name_if_some (name_of p) (flight (name_of p) (change_flight q s.flights)); freed = None })
      → landing_result s (name_of p) ≡ Some (record { said = said; state = with_both s d (new_flight q others); answer = Some (name_of q); freed = None })
  with_answer said d q n e =
      let changed : change_flight q s.flights ≡ new_flight q others = ap (change_flight q) whole ∙ change-new p q others n absent in
      let there : flight (name_of p) (new_flight q others) ≡ Some q =
      subst (λ id. flight id (new_flight q others) ≡ Some q) n (find-new q others (subst (λ id. flight id others ≡ None) (sym n) absent)) in
      e
      ∙ (λ k. Some (record { said = said; state = with_both s d (changed k); answer = name_if_some (name_of p) (flight (name_of p) (changed k)); freed = None }))
      ∙ (λ k. Some (record { said = said; state = with_both s d (new_flight q others); answer = name_if_some (name_of p) (there k); freed = None }))
      ∙ (λ k. Some (record { said = said; state = with_both s d (new_flight q others); answer = Some (sym n k); freed = None }))

  -- two steps
  with_freed : (first : Step) (w : Label) (mid : State) (d : Context) (ep g : ℕ)
      → landing_step (name_of p) (flight (name_of p) s.flights) ≡ first
      → ideal_step s first ≡ Some (record { word = w; state = mid })
      → closing_steps (w ∷ []) ≡ Step.Closed g ∷ []
      → ideal_step mid (Step.Closed g) ≡ Some (record { word = Frees g; state = record mid { contexts = put_context (with_endpoint d ep Free) mid.contexts; grants = change_grant mid.grants g closes_grant } })
      → landing_result s (name_of p) ≡ Some (record { said = said_or_nothing (said_of false (w ∷ Frees g ∷ [])); state = record mid { contexts = put_context (with_endpoint d ep Free) mid.contexts; grants = change_grant mid.grants g closes_grant }; answer = name_if_some (name_of p) (flight (name_of p) mid.flights); freed = Some g })
  with_freed first w mid d ep g f one closing two =
      came_two s (name_of p) first w g mid (record mid { contexts = put_context (with_endpoint d ep Free) mid.contexts; grants = change_grant mid.grants g closes_grant }) f
      (ap (on_from (ideal_run [])) one) closing
      (ap (on_from (ideal_run (Step.Closed g ∷ []))) one ∙ ap (λ o. with_label w (on_from (ideal_run []) o)) two)

module _ (s : State) (others : List Packet) (c : Context) (found : context_of c.act s.contexts ≡ Some c) (held : (ep g : ℕ) → grant_of (endpoint c ep) ≡ Some g → HeldThere s.grants g c.act ep) where
  -- the packet flies beside the others
  abbrev Flies : Packet → Type 0
  Flies p = (s.flights ≡ new_flight p others) × (flight (name_of p) others ≡ None)

  there : (p : Packet) → Flies p → flight (name_of p) s.flights ≡ Some p
  there p f = flies s p others c f.0 f.1 found held

  context_to : (to : ℕ) → to ≡ c.act → context_of to s.contexts ≡ Some c
  context_to to e = subst (λ a. context_of a s.contexts ≡ Some c) (sym e) found

  message_as : (to ep g : ℕ) (m : Message) → Flies (Packet.Message to ep g m) → to ≡ c.act → ComesAs s (name_of (Packet.Message to ep g m)) others (arrive c (Packet.Message to ep g m))
  message_as to ep g m f e =
      let p = Packet.Message to ep g m in
      let l = land ep g m c in
      with_answer s p others c f.0 f.1 found held (landed_said (name_of p) l.refused) l.context l.answer (landed_name ep m c (land_refusal g m (endpoint c ep)))
      (message_comes s to ep g m c (there p f) (context_to to e))

  credit_as : (id : FlightId) (to g : ℕ) → Flies (Packet.Credit id to g) → to ≡ c.act → ComesAs s id others (arrive c (Packet.Credit id to g))
  credit_as id to g f e =
      let p = Packet.Credit id to g in
      without s p others c f.0 f.1 found held (if has_send g c then Said.Credited id g else Said.Discarded id g) (with_credit g c) None s.grants
      (credit_comes s id to g c (there p f) (context_to to e))

  install_as : (id : FlightId) (to ep : ℕ) (x : Fresh) → Flies (Packet.Install id to ep x) → to ≡ c.act → ComesAs s id others (arrive c (Packet.Install id to ep x))
  install_as id to ep x f e =
      let p = Packet.Install id to ep x in
      without s p others c f.0 f.1 found held (Said.Installed id (number_of x)) (with_endpoint c ep (new_endpoint x)) None s.grants
      (install_comes s id to ep x c (there p f) (context_to to e))

  -- ---- an answer

  answer_free : (id : FlightId) (answer : Answer) (x : Flying) → Flies (Packet.Answer id answer) → id.issuer ≡ c.act → flying_at id.number c.flying ≡ Some x
      → (o : Option ℕ) → freed_grant x.ep (context_after_answer x answer c) ≡ o → ComesAs s id others (arrival_of_answer id answer (context_after_answer x answer c) x.ep o)
  answer_free id answer x f e command None none =
      let p = Packet.Answer id answer in
      without s p others c f.0 f.1 found held (Said.Answered id answer None) (context_after_answer x answer c) None s.grants
      (answer_comes s id id answer c x (there p f) (context_to id.issuer e) command none)
  answer_free id answer x f e command (Some g) some =
      let p = Packet.Answer id answer in
      let d = context_after_answer x answer c in
      let ep = x.ep in
      let mid = with_both s d (end_flight id s.flights) in
      let parts = freed_parts (is_closing (endpoint d ep)) (flies_at ep d) (grant_of (endpoint d ep)) some in
      let its : grant_of (endpoint c ep) ≡ Some g =
      sym (settled_grant x.kind x.token answer (endpoint c ep)) ∙ set_grant c.endpoints ep g (endpoint_after_answer x.kind x.token answer (endpoint c ep)) parts.2 in
      let closing : has_closing g (endpoint d ep) ≡ true =
      ap (λ o. is_number g o && is_closing (endpoint d ep)) parts.2 ∙ ap (λ b. is_number g (Some g) && b) parts.0 ∙ grind arith in
      let one : ideal_step s (Step.Answered id) ≡ Some (record { word = Answers id answer (Some g); state = mid }) =
      ap (λ o. answered_in s id o) (there p f) ∙ ap (λ o. answer_in s id answer o) (context_to id.issuer e) ∙ ap (λ o. settle_in s id answer c o) command ∙ ap (λ o. step_to (Answers id answer o) mid) some in
      let two = free_step mid g ep d (held ep g its) (find-put c.act c d s.contexts refl found) closing parts.1 in
      let came2 = with_freed s p others c f.0 f.1 found held (Step.Answered id) (Answers id answer (Some g)) mid d ep g (ap (landing_step id) (there p f)) one refl two in
      without s p others c f.0 f.1 found held (Said.Answered id answer (Some g)) (with_endpoint d ep Free) (Some g) (change_grant s.grants g closes_grant)
      (came2 ∙ (λ k. Some (record { said = Said.Answered id answer (Some g); state = record s { contexts = put-put d (with_endpoint d ep Free) s.contexts refl k; flights = end_flight id s.flights; grants = change_grant s.grants g closes_grant }; answer = name_if_some id (flight id (end_flight id s.flights)); freed = Some g })))
    where
      freed_parts : (closing flying : Bool) (o : Option ℕ) → cond (closing && not flying) o None ≡ Some g → (closing ≡ true) × (flying ≡ false) × (o ≡ Some g)
      freed_parts true true o h = absurd (cc)
      freed_parts true false o h = (refl, refl, h)
      freed_parts false true o h = absurd (cc)
      freed_parts false false o h = absurd (cc)

  answer_as : (id : FlightId) (answer : Answer) → Flies (Packet.Answer id answer) → id.issuer ≡ c.act → (o : Option Flying) → flying_at id.number c.flying ≡ o → ComesAs s id others (answer_arrives c id answer o)
  answer_as id answer f e None h = tt
  answer_as id answer f e (Some x) h = answer_free id answer x f e h (freed_grant x.ep (context_after_answer x answer c)) refl

  -- ---- a Close

  close_live : (id : FlightId) (to ep g : ℕ) → Flies (Packet.Close id to ep g) → to ≡ c.act → has_live g (endpoint c ep) ≡ true
      → (b : Bool) → flies_at ep c ≡ b → ComesAs s id others (close_arrives c id ep g (with_endpoint c ep (closed_at (endpoint c ep))) b)
  close_live id to ep g f e live true busy =
      let p = Packet.Close id to ep g in
      let d = with_endpoint c ep (closed_at (endpoint c ep)) in
      let mid = with_both s d (end_flight id s.flights) in
      without s p others c f.0 f.1 found held (Said.Closing id g) d None s.grants
      (came_one s id (Step.Land id) (Starts_closing id g) mid (ap (landing_step id) (there p f)) (ap (on_from (ideal_run [])) (lands id to ep g f e live true busy)) refl)
    where
      lands : (id : FlightId) (to ep g : ℕ) → Flies (Packet.Close id to ep g) → to ≡ c.act → has_live g (endpoint c ep) ≡ true → (b : Bool) → flies_at ep c ≡ b
          → ideal_step s (Step.Land id) ≡ Some (record { word = if b then Starts_closing id g else Closes_endpoint id g; state = with_both s (with_endpoint c ep (closed_at (endpoint c ep))) (end_flight id s.flights) })
      lands id to ep g f e live b busy =
          let n = with_both s (with_endpoint c ep (closed_at (endpoint c ep))) (end_flight id s.flights) in
          ap (land_in s id) (there (Packet.Close id to ep g) f)
          ∙ ap (close_in s id ep g) (context_to to e)
          ∙ ap (λ z. cond z (step_to (if flies_at ep c then Starts_closing id g else Closes_endpoint id g) n) None) live
          ∙ ap (λ z. step_to (if z then Starts_closing id g else Closes_endpoint id g) n) busy
  close_live id to ep g f e live false quiet =
      let p = Packet.Close id to ep g in
      let d = with_endpoint c ep (closed_at (endpoint c ep)) in
      let mid = with_both s d (end_flight id s.flights) in
      let its : grant_of (endpoint c ep) ≡ Some g = live_grant g (endpoint c ep) live in
      let closing : has_closing g (endpoint d ep) ≡ true =
      ap (has_closing g) (set_there c.endpoints ep g (closed_at (endpoint c ep)) its) ∙ closing_now g (endpoint c ep) live in
      let one : ideal_step s (Step.Land id) ≡ Some (record { word = Closes_endpoint id g; state = mid }) =
      ap (land_in s id) (there (Packet.Close id to ep g) f)
      ∙ ap (close_in s id ep g) (context_to to e)
      ∙ ap (λ z. cond z (step_to (if flies_at ep c then Starts_closing id g else Closes_endpoint id g) mid) None) live
      ∙ ap (λ z. step_to (if z then Starts_closing id g else Closes_endpoint id g) mid) quiet in
      let two = free_step mid g ep d (held ep g its) (find-put c.act c d s.contexts refl found) closing quiet in
      let came2 = with_freed s p others c f.0 f.1 found held (Step.Land id) (Closes_endpoint id g) mid d ep g (ap (landing_step id) (there p f)) one refl two in
      without s p others c f.0 f.1 found held (Said.Closed id g) (with_endpoint d ep Free) (Some g) (change_grant s.grants g closes_grant)
      (came2 ∙ (λ k. Some (record { said = Said.Closed id g; state = record s { contexts = put-put d (with_endpoint d ep Free) s.contexts refl k; flights = end_flight id s.flights; grants = change_grant s.grants g closes_grant }; answer = name_if_some id (flight id (end_flight id s.flights)); freed = Some g })))

  close_as : (id : FlightId) (to ep g : ℕ) → Flies (Packet.Close id to ep g) → to ≡ c.act → (b : Bool) → has_live g (endpoint c ep) ≡ b
      → ComesAs s id others (cond b (close_arrives c id ep g (with_endpoint c ep (closed_at (endpoint c ep))) (flies_at ep c)) None)
  close_as id to ep g f e true live = close_live id to ep g f e live (flies_at ep c) refl
  close_as id to ep g f e false live = tt

  some_is : (a b : ℕ) → Some a ≡ Some b → a ≡ b
  some_is a b e = cc

  -- what arrives comes, with the same words, the same context, the same answer and the same grant freed
  pub arrives_as : (p : Packet) → Flies p → target p ≡ Some c.act → ComesAs s (name_of p) others (arrive c p)
  arrives_as (Packet.Message to ep g m) f e = message_as to ep g m f (some_is to c.act e)
  arrives_as (Packet.Credit id to g) f e = credit_as id to g f (some_is to c.act e)
  arrives_as (Packet.Read id g place buffer) f e = tt
  arrives_as (Packet.Write id g place payload) f e = tt
  arrives_as (Packet.Answer id answer) f e = answer_as id answer f (some_is id.issuer c.act e) (flying_at id.number c.flying) refl
  arrives_as (Packet.Install id to ep x) f e = install_as id to ep x f (some_is to c.act e)
  arrives_as (Packet.Close id to ep g) f e = close_as id to ep g f (some_is to c.act e) (has_live g (endpoint c ep)) refl
