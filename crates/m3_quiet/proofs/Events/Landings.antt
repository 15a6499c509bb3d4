-- Each packet where it lands.
use Rattle.std.proofs.Common.{◌≡◌, ℕ, ◌≤◌, Bool, true, false, List, length, Some, None, refl, sym, subst, ◌∙◌, ap, arith}
use Rattle.std.specs.Prelude.{Option, if◌then◌else◌, ◌==◌}
use Rattle.m3_base.specs.declared.ids.FlightId.{FlightId}
use Rattle.m3_base.specs.declared.packet.Packet.{Packet}
use Rattle.m3_base.specs.declared.packet.Fresh.{Fresh}
use Rattle.m3_base.specs.declared.message.Message.{Message}
use Rattle.m3_base.specs.declared.command.Answer.{Answer}
use Rattle.m3_base.specs.declared.command.Refusal.{Refusal}
use Rattle.m3_base.specs.declared.step.Step.{Step}
use Rattle.m3_base.specs.Ideal.Flights.{flight, change_flight}
use Rattle.m3_base.specs.Ideal.Context.{Kind, Sending, Replying, Reading, Writing, Flying, Context, Endpoint, Free, Sends, Receives, Reaches, endpoint, with_endpoint, new_endpoint}
use Rattle.m3_base.specs.Ideal.State.{State, context_of, put_context}
use Rattle.m3_base.specs.Ideal.Landing.{land_by, land_refusal, after_message, with_message, with_credit, has_send, more_at, has_live, closed_at, flies_at, flying_at, context_after_answer, endpoint_after_answer, freed_grant, bytes_at, written_at, message_id, landed_answer, is_record_of}
use Rattle.m3_base.specs.Ideal.Step.{Landing, Refusing, Credits, Discards, Installs, Starts_closing, Closes_endpoint, Answers, step_to, has_unread, land_in, message_in, landed_in, credit_in, install_in, close_in, answer_in, answered_in, settle_in, number_of, after_ending}
use Rattle.m3_base.specs.Placement.Landing.{landing_result, landing_step}
use Rattle.m3_base.specs.Placement.Routing.{target_of}
use Rattle.m3_base.specs.Ideal.FlightNames.{Distinct}
use Rattle.m3_base.proofs.FlightNames.{ended}
use Rattle.m3_quiet.specs.Potential.{packet_worth}
use Rattle.m3_quiet.specs.Facts.{RecordsStand}
use Rattle.m3_quiet.proofs.Sums.Lighter.{change_lighter, answered_worth}
use Rattle.m3_quiet.proofs.Sums.Contexts.{FewerBut, FewerIn, fewer-put, fewer-put_but, fewer-set, fewer-credited}
use Rattle.m3_quiet.proofs.Events.Deliveries.{flight-name, context-act, end_lighter, Gone, Served, Joins, LandedOk, AllCame, Closable, came_next, came_is, alone, and_closed}
use Rattle.m3_base.proofs.Activities.{found_own}

-- ---- endpoints

install_unread : (f : Fresh) → has_unread (new_endpoint f) ≡ true → ⊥
install_unread (Fresh.Send g to to_ep to_grant label size limit) h = absurd (cc)
install_unread (Fresh.Receive g slots size) h = absurd (cc)
install_unread (Fresh.Memory g start length perm) h = absurd (cc)

more_unread : (e : Endpoint) → has_unread (more_at e) ≡ true → has_unread e ≡ true
more_unread Free h = h
more_unread (Sends r) h = h
more_unread (Receives r) h = h
more_unread (Reaches r) h = h

closed_unread : (e : Endpoint) → has_unread (closed_at e) ≡ true → has_unread e ≡ true
closed_unread Free h = h
closed_unread (Sends r) h = h
closed_unread (Receives r) h = h
closed_unread (Reaches r) h = h

closed_of : (g : ℕ) (e : Endpoint) → is_record_of g (closed_at e) ≡ true → is_record_of g e ≡ true
closed_of g Free h = h
closed_of g (Sends r) h = h
closed_of g (Receives r) h = h
closed_of g (Reaches r) h = h

settled_unread : (k : Kind) (t : ℕ) (a : Answer) (e : Endpoint) → has_unread (endpoint_after_answer k t a e) ≡ true → has_unread e ≡ true
settled_unread Sending t (Answer.Refused w) Free h = h
settled_unread Sending t (Answer.Refused w) (Sends r) h = h
settled_unread Sending t (Answer.Refused w) (Receives r) h = h
settled_unread Sending t (Answer.Refused w) (Reaches r) h = h
settled_unread Sending t Answer.Sent e h = h
settled_unread Sending t Answer.Replied e h = h
settled_unread Sending t Answer.Written e h = h
settled_unread Sending t (Answer.Bytes bs) e h = h
settled_unread Replying t (Answer.Refused w) Free h = h
settled_unread Replying t (Answer.Refused w) (Sends r) h = h
settled_unread Replying t (Answer.Refused w) (Receives r) h = h
settled_unread Replying t (Answer.Refused w) (Reaches r) h = h
settled_unread Replying t Answer.Replied Free h = h
settled_unread Replying t Answer.Replied (Sends r) h = h
settled_unread Replying t Answer.Replied (Receives r) h = h
settled_unread Replying t Answer.Replied (Reaches r) h = h
settled_unread Replying t Answer.Sent e h = h
settled_unread Replying t Answer.Written e h = h
settled_unread Replying t (Answer.Bytes bs) e h = h
settled_unread Reading t a e h = h
settled_unread Writing t a e h = h

pub settled_of : (g : ℕ) (k : Kind) (t : ℕ) (a : Answer) (e : Endpoint) → is_record_of g (endpoint_after_answer k t a e) ≡ true → is_record_of g e ≡ true
settled_of g Sending t (Answer.Refused w) Free h = h
settled_of g Sending t (Answer.Refused w) (Sends r) h = h
settled_of g Sending t (Answer.Refused w) (Receives r) h = h
settled_of g Sending t (Answer.Refused w) (Reaches r) h = h
settled_of g Sending t Answer.Sent e h = h
settled_of g Sending t Answer.Replied e h = h
settled_of g Sending t Answer.Written e h = h
settled_of g Sending t (Answer.Bytes bs) e h = h
settled_of g Replying t (Answer.Refused w) Free h = h
settled_of g Replying t (Answer.Refused w) (Sends r) h = h
settled_of g Replying t (Answer.Refused w) (Receives r) h = h
settled_of g Replying t (Answer.Refused w) (Reaches r) h = h
settled_of g Replying t Answer.Replied Free h = h
settled_of g Replying t Answer.Replied (Sends r) h = h
settled_of g Replying t Answer.Replied (Receives r) h = h
settled_of g Replying t Answer.Replied (Reaches r) h = h
settled_of g Replying t Answer.Sent e h = h
settled_of g Replying t Answer.Written e h = h
settled_of g Replying t (Answer.Bytes bs) e h = h
settled_of g Reading t a e h = h
settled_of g Writing t a e h = h

-- ---- contexts

credit_less : (f : Endpoint → Bool) → ((e : Endpoint) → f (more_at e) ≡ true → f e ≡ true) → (g : ℕ) (x : Context) → FewerIn f (with_credit g x) x
credit_less f less g x ep h = fewer-credited f less g x.endpoints ep h

set_less : (f : Endpoint → Bool) (x : Context) (i : ℕ) (e : Endpoint) → (f e ≡ true → f (endpoint x i) ≡ true) → FewerIn f (with_endpoint x i e) x
set_less f x i e less ep h = fewer-set f x.endpoints i ep e less h

pub answered_less : (f : Endpoint → Bool) → ((k : Kind) (t : ℕ) (a : Answer) (e : Endpoint) → f (endpoint_after_answer k t a e) ≡ true → f e ≡ true) → (v : Flying) (a : Answer) (x : Context) → FewerIn f (context_after_answer v a x) x
answered_less f less v a x ep h = fewer-set f x.endpoints v.ep ep (endpoint_after_answer v.kind v.token a (endpoint x v.ep)) (less v.kind v.token a (endpoint x v.ep)) h

-- ---- the end of a flight

gone_ok : (s : State) (id : FlightId) (p : Packet) (x y : Context) → Distinct s.flights → flight id s.flights ≡ Some p → packet_worth (Some p) ≡ 6 → context_of y.act s.contexts ≡ Some x → FewerIn has_unread y x → LandedOk s (after_ending s id y) id
gone_ok s id p x y apart found six here less =
    let worth : packet_worth (flight id s.flights) ≡ 6 = ap packet_worth found ∙ six in
    record {
      lighter = end_lighter id s.flights apart;
      grants = omega arith;
      comes = Gone (ended id s.flights apart) (omega (arith, worth)) (fewer-put has_unread x y s.contexts here less);
    }

module _ (s : State) (id : FlightId) (apart : Distinct s.flights) (stand : RecordsStand s) where
  credit_case : (z : FlightId) (to g : ℕ) → flight id s.flights ≡ Some (Packet.Credit z to g) → (o : Option Context) → context_of to s.contexts ≡ o → AllCame s id (came_next s id (Step.Land id) (credit_in s id g o))
  credit_case z to g found None e = tt
  credit_case z to g found (Some x) e = by_send (has_send g x)
    where
      ok : LandedOk s (after_ending s id (with_credit g x)) id
      ok = gone_ok s id (Packet.Credit z to g) x (with_credit g x) apart found refl (found_own to x s.contexts e) (credit_less has_unread more_unread g x)

      by_send : (b : Bool) → AllCame s id (came_next s id (Step.Land id) (step_to (if b then Credits id g else Discards id g) (after_ending s id (with_credit g x))))
      by_send true = alone s (after_ending s id (with_credit g x)) id (Step.Land id) (Credits id g) ok
      by_send false = alone s (after_ending s id (with_credit g x)) id (Step.Land id) (Discards id g) ok

  install_case : (z : FlightId) (to ep : ℕ) (f : Fresh) → flight id s.flights ≡ Some (Packet.Install z to ep f) → (o : Option Context) → context_of to s.contexts ≡ o → AllCame s id (came_next s id (Step.Land id) (install_in s id ep f o))
  install_case z to ep f found None e = tt
  install_case z to ep f found (Some x) e =
      alone s (after_ending s id (with_endpoint x ep (new_endpoint f))) id (Step.Land id) (Installs id (number_of f))
      (gone_ok s id (Packet.Install z to ep f) x (with_endpoint x ep (new_endpoint f)) apart found refl (found_own to x s.contexts e) (set_less has_unread x ep (new_endpoint f) (λ h. absurd (install_unread f h))))

  close_case : (z : FlightId) (to ep g : ℕ) → flight id s.flights ≡ Some (Packet.Close z to ep g) → (o : Option Context) → context_of to s.contexts ≡ o → AllCame s id (came_next s id (Step.Land id) (close_in s id ep g o))
  close_case z to ep g found None e = tt
  close_case z to ep g found (Some x) e = by_flags (has_live g (endpoint x ep)) (flies_at ep x)
    where
      ok : LandedOk s (after_ending s id (with_endpoint x ep (closed_at (endpoint x ep)))) id
      ok = gone_ok s id (Packet.Close z to ep g) x (with_endpoint x ep (closed_at (endpoint x ep))) apart found refl (found_own to x s.contexts e) (set_less has_unread x ep (closed_at (endpoint x ep)) (closed_unread (endpoint x ep)))

      closable : Closable s (after_ending s id (with_endpoint x ep (closed_at (endpoint x ep)))) id
      closable = record {
        ok = ok;
        records = λ h. fewer-put (is_record_of h) x (with_endpoint x ep (closed_at (endpoint x ep))) s.contexts (found_own to x s.contexts e) (set_less (is_record_of h) x ep (closed_at (endpoint x ep)) (closed_of h (endpoint x ep)));
        grants = refl;
      }

      by_flags : (b c : Bool) → AllCame s id (came_next s id (Step.Land id) (if b then step_to (if c then Starts_closing id g else Closes_endpoint id g) (after_ending s id (with_endpoint x ep (closed_at (endpoint x ep)))) else None))
      by_flags false c = tt
      by_flags true true = alone s (after_ending s id (with_endpoint x ep (closed_at (endpoint x ep)))) id (Step.Land id) (Starts_closing id g) ok
      by_flags true false = and_closed s (after_ending s id (with_endpoint x ep (closed_at (endpoint x ep)))) id (Step.Land id) (Closes_endpoint id g) g stand closable

  answer_case : (z : FlightId) (a : Answer) → flight id s.flights ≡ Some (Packet.Answer z a) → (o : Option Context) → context_of id.issuer s.contexts ≡ o → AllCame s id (came_next s id (Step.Answered id) (answer_in s id a o))
  answer_case z a found None e = tt
  answer_case z a found (Some x) e = by_flying (flying_at id.number x.flying)
    where
      ok : (v : Flying) → LandedOk s (after_ending s id (context_after_answer v a x)) id
      ok v = gone_ok s id (Packet.Answer z a) x (context_after_answer v a x) apart found refl (found_own id.issuer x s.contexts e) (answered_less has_unread settled_unread v a x)

      closable : (v : Flying) → Closable s (after_ending s id (context_after_answer v a x)) id
      closable v = record {
        ok = ok v;
        records = λ h. fewer-put (is_record_of h) x (context_after_answer v a x) s.contexts (found_own id.issuer x s.contexts e) (answered_less (is_record_of h) (settled_of h) v a x);
        grants = refl;
      }

      by_freed : (v : Flying) (o : Option ℕ) → AllCame s id (came_next s id (Step.Answered id) (step_to (Answers id a o) (after_ending s id (context_after_answer v a x))))
      by_freed v None = alone s (after_ending s id (context_after_answer v a x)) id (Step.Answered id) (Answers id a None) (ok v)
      by_freed v (Some g) = and_closed s (after_ending s id (context_after_answer v a x)) id (Step.Answered id) (Answers id a (Some g)) g stand (closable v)

      by_flying : (o : Option Flying) → AllCame s id (came_next s id (Step.Answered id) (settle_in s id a x o))
      by_flying None = tt
      by_flying (Some v) = by_freed v (freed_grant v.ep (context_after_answer v a x))

  -- ---- an answer in place of its command

  served_ok : (p : Packet) (a : Answer) (m : List ℕ) → flight id s.flights ≡ Some p → packet_worth (Some p) ≡ 9 → target_of (Some p) ≡ None → LandedOk s (record s { memory = m; flights = change_flight (Packet.Answer id a) s.flights }) id
  served_ok p a m found nine nobody =
      let worth : packet_worth (flight id s.flights) ≡ 9 = ap packet_worth found ∙ nine in
      record {
        lighter = λ k. change_lighter (Packet.Answer id a) p k s.flights found (omega (arith, nine));
        grants = omega arith;
        comes = Served (answered_worth (Packet.Answer id a) p s.flights found) (omega (arith, worth)) (ap target_of found ∙ nobody) (λ b ep h. h);
      }

  read_case : (z : FlightId) (g place : ℕ) (buffer : List ℕ) → flight id s.flights ≡ Some (Packet.Read z g place buffer) → AllCame s id (came_next s id (Step.Land id) (land_in s id (Some (Packet.Read z g place buffer))))
  read_case z g place buffer found =
      alone s (record s { flights = change_flight (Packet.Answer id (Answer.Bytes (bytes_at place (length buffer) s.memory))) s.flights }) id (Step.Land id) (Landing id)
      (served_ok (Packet.Read z g place buffer) (Answer.Bytes (bytes_at place (length buffer) s.memory)) s.memory found refl refl)

  write_case : (z : FlightId) (g place : ℕ) (payload : List ℕ) → flight id s.flights ≡ Some (Packet.Write z g place payload) → AllCame s id (came_next s id (Step.Land id) (land_in s id (Some (Packet.Write z g place payload))))
  write_case z g place payload found =
      alone s (record s { memory = written_at place payload s.memory; flights = change_flight (Packet.Answer id Answer.Written) s.flights }) id (Step.Land id) (Landing id)
      (served_ok (Packet.Write z g place payload) Answer.Written (written_at place payload s.memory) found refl refl)

  -- ---- a message or reply

  joins_ok : (to ep g : ℕ) (m : Message) (a : Answer) (y : Context) → flight id s.flights ≡ Some (Packet.Message to ep g m) → y.act ≡ to → LandedOk s (record s { contexts = put_context y s.contexts; flights = change_flight (Packet.Answer (message_id m) a) s.flights }) id
  joins_ok to ep g m a y found mine =
      let name : message_id m ≡ id = flight-name id s.flights (Packet.Message to ep g m) found in
      let named : flight (message_id m) s.flights ≡ Some (Packet.Message to ep g m) = subst (λ z. flight z s.flights ≡ Some (Packet.Message to ep g m)) (sym name) found in
      let worth : packet_worth (flight id s.flights) ≡ 15 = ap packet_worth found in
      let now = answered_worth (Packet.Answer (message_id m) a) (Packet.Message to ep g m) s.flights named in
      record {
        lighter = λ k. change_lighter (Packet.Answer (message_id m) a) (Packet.Message to ep g m) k s.flights named (omega arith);
        grants = omega arith;
        comes = Joins to (subst (λ z. packet_worth (flight z (change_flight (Packet.Answer (message_id m) a) s.flights)) ≤ 6) name now) (omega (arith, worth)) (ap target_of found) (subst (λ z. FewerBut z has_unread (put_context y s.contexts) s.contexts) mine (fewer-put_but has_unread y s.contexts));
      }

  taken_act : (ep : ℕ) (m : Message) (x : Context) (b : Bool) → (if b then with_endpoint x ep (with_message m (endpoint x ep)) else with_credit m.header.send (with_endpoint x ep (with_message m (endpoint x ep)))).act ≡ x.act
  taken_act ep m x true = refl
  taken_act ep m x false = refl

  message_case : (to ep g : ℕ) (m : Message) → flight id s.flights ≡ Some (Packet.Message to ep g m) → (o : Option Context) → context_of to s.contexts ≡ o → AllCame s id (came_next s id (Step.Land id) (message_in s id ep g m o))
  message_case to ep g m found None e = tt
  message_case to ep g m found (Some x) e = by_refusal (land_refusal g m (endpoint x ep))
    where
      by_refusal : (r : Option Refusal) → AllCame s id (came_next s id (Step.Land id) (landed_in s id (land_by ep m x r)))
      by_refusal None = alone s (record s { contexts = put_context (after_message ep m x) s.contexts; flights = change_flight (Packet.Answer (message_id m) (landed_answer m)) s.flights }) id (Step.Land id) (Landing id) (joins_ok to ep g m (landed_answer m) (after_message ep m x) found (taken_act ep m x (m.header.flags == 0) ∙ context-act to s.contexts x e))
      by_refusal (Some w) = alone s (record s { contexts = put_context x s.contexts; flights = change_flight (Packet.Answer (message_id m) (Answer.Refused w)) s.flights }) id (Step.Land id) (Refusing id w) (joins_ok to ep g m (Answer.Refused w) x found (context-act to s.contexts x e))

  -- ---- any packet

  by_land : (p : Packet) → flight id s.flights ≡ Some p → landing_step id (Some p) ≡ Step.Land id → AllCame s id (came_next s id (Step.Land id) (land_in s id (Some p))) → AllCame s id (landing_result s id)
  by_land p found lands ok = subst (AllCame s id) (sym (came_is s id (Step.Land id) (land_in s id (Some p)) (ap (landing_step id) found ∙ lands) (ap (land_in s id) found))) ok

  by_packet : (o : Option Packet) → flight id s.flights ≡ o → AllCame s id (landing_result s id)
  by_packet None found = subst (AllCame s id) (sym (came_is s id (Step.Land id) None (ap (landing_step id) found) (ap (land_in s id) found))) tt
  by_packet (Some (Packet.Message to ep g m)) found = by_land (Packet.Message to ep g m) found refl (message_case to ep g m found (context_of to s.contexts) refl)
  by_packet (Some (Packet.Credit z to g)) found = by_land (Packet.Credit z to g) found refl (credit_case z to g found (context_of to s.contexts) refl)
  by_packet (Some (Packet.Read z g place buffer)) found = by_land (Packet.Read z g place buffer) found refl (read_case z g place buffer found)
  by_packet (Some (Packet.Write z g place payload)) found = by_land (Packet.Write z g place payload) found refl (write_case z g place payload found)
  by_packet (Some (Packet.Answer z a)) found = subst (AllCame s id) (sym (came_is s id (Step.Answered id) (answered_in s id (Some (Packet.Answer z a))) (ap (landing_step id) found) (ap (answered_in s id) found))) (answer_case z a found (context_of id.issuer s.contexts) refl)
  by_packet (Some (Packet.Install z to ep f)) found = by_land (Packet.Install z to ep f) found refl (install_case z to ep f found (context_of to s.contexts) refl)
  by_packet (Some (Packet.Close z to ep g)) found = by_land (Packet.Close z to ep g) found refl (close_case z to ep g found (context_of to s.contexts) refl)

pub came_ok : (s : State) (id : FlightId) → Distinct s.flights → RecordsStand s → AllCame s id (landing_result s id)
came_ok s id apart stand = by_packet s id apart stand (flight id s.flights) refl
