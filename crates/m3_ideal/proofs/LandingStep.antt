-- A flight lands at the context of its activity or in memory, and an answer ends its command.
use Rattle.std.proofs.Common.{◌≡◌, ℕ, Bool, true, false, List, [], ◌∷◌, length, Some, None, Ok, Err, refl, sym, subst, ap, ◌∙◌}
use Rattle.std.specs.Prelude.{Option, Result, ◌==◌, if◌then◌else◌}
use Rattle.m3_base.specs.declared.ids.FlightId.{FlightId}
use Rattle.m3_base.specs.declared.message.Message.{Message}
use Rattle.m3_base.specs.declared.command.Answer.{Answer}
use Rattle.m3_base.specs.declared.command.Refusal.{Refusal}
use Rattle.m3_base.specs.declared.packet.Fresh.{Fresh}
use Rattle.m3_base.specs.declared.packet.Packet.{Packet}
use Rattle.m3_base.specs.Ideal.Flights.{name_of, same_name, flight, change_flight, end_flight}
use Rattle.m3_base.specs.Ideal.Context.{Flying, Context, endpoint, with_endpoint}
use Rattle.m3_base.specs.Ideal.Landing.{land_by, landed_answer, message_id, with_credit, closed_at, flies_at, flying_at, bytes_at, written_at}
use Rattle.m3_base.specs.Ideal.State.{State, context_of, put_context}
use Rattle.m3_base.specs.Ideal.Step.{Label, Landing as Lands_label, Refusing, Credits, Discards, Starts_closing, Closes_endpoint, IdealResult, land_in, message_in, credit_in, install_in, close_in, answered_in, answer_in, landed_in, settle_in}
use Rattle.m3_base.proofs.FlightNames.{same_name-is, same_name-itself}
use Rattle.m3_ideal.specs.declared.flight.Landing.{Landing}
use Rattle.m3_ideal.specs.Contexts.{AtKept}
use Rattle.m3_ideal.specs.Ideal.FlightParts.{landing_at, letter_at, answer_at, bytes_in}
use Rattle.m3_ideal.specs.Landing.{Lands, GivesTo, Closes, Settles, SettlesBy}
use Rattle.m3_ideal.proofs.Numbers.{found_under, put_same}

-- ---- flights that change

pub name_found : (id : FlightId) (p : Packet) (fs : List Packet) → flight id fs ≡ Some p → id ≡ name_of p
name_found id p [] e = absurd cc
name_found id p (q ∷ fs) e = by_name (same_name id (name_of q)) refl e (name_found id p fs)
  where
    by_name : (b : Bool) → same_name id (name_of q) ≡ b → (if b then Some q else flight id fs) ≡ Some p → (flight id fs ≡ Some p → id ≡ name_of p) → id ≡ name_of p
    by_name true w h more = let same : q ≡ p = cc in same_name-is id (name_of q) w ∙ ap name_of same
    by_name false w h more = more h

-- a packet that took the place of another gives it up to a third of its name
pub changed_twice : (p q : Packet) (fs : List Packet) → name_of p ≡ name_of q → change_flight q (change_flight p fs) ≡ change_flight q fs
changed_twice p q [] e = refl
changed_twice p q (x ∷ fs) e = by_name (same_name (name_of p) (name_of x)) refl (changed_twice p q fs e)
  where
    same : same_name (name_of q) (name_of p) ≡ true
    same = ap (λ z. same_name z (name_of p)) (sym e) ∙ same_name-itself (name_of p)

    by_name : (b : Bool) → same_name (name_of p) (name_of x) ≡ b → change_flight q (change_flight p fs) ≡ change_flight q fs
        → change_flight q (if b then p ∷ fs else x ∷ change_flight p fs) ≡ (if same_name (name_of q) (name_of x) then q ∷ fs else x ∷ change_flight q fs)
    by_name true w ih =
        let other : same_name (name_of q) (name_of x) ≡ true = ap (λ z. same_name z (name_of x)) (sym e) ∙ w in
        ap (λ b. if b then q ∷ fs else p ∷ change_flight q fs) same ∙ sym (ap (λ b. if b then q ∷ fs else x ∷ change_flight q fs) other)
    by_name false w ih =
        let other : same_name (name_of q) (name_of x) ≡ false = ap (λ z. same_name z (name_of x)) (sym e) ∙ w in
        ap (λ b. if b then q ∷ change_flight p fs else x ∷ change_flight q (change_flight p fs)) other
        ∙ ap (λ z. x ∷ z) ih
        ∙ sym (ap (λ b. if b then q ∷ fs else x ∷ change_flight q fs) other)

-- in place of the flight that it is itself
changed_same : (p : Packet) (fs : List Packet) → flight (name_of p) fs ≡ Some p → change_flight p fs ≡ fs
changed_same p [] e = refl
changed_same p (x ∷ fs) e = by_name (same_name (name_of p) (name_of x)) e (changed_same p fs)
  where
    by_name : (b : Bool) → (if b then Some x else flight (name_of p) fs) ≡ Some p → (flight (name_of p) fs ≡ Some p → change_flight p fs ≡ fs) → (if b then p ∷ fs else x ∷ change_flight p fs) ≡ x ∷ fs
    by_name true h more = let same : x ≡ p = cc in ap (λ z. z ∷ fs) (sym same)
    by_name false h more = ap (λ z. x ∷ z) (more h)

-- a flight that was taken out for a packet of its name and is put back
pub changed_back : (id : FlightId) (p q : Packet) (fs : List Packet) → flight id fs ≡ Some p → name_of q ≡ id → change_flight p (change_flight q fs) ≡ fs
changed_back id p q fs at e =
    let name : id ≡ name_of p = name_found id p fs at in
    changed_twice q p fs (e ∙ name) ∙ changed_same p fs (subst (λ z. flight z fs ≡ Some p) name at)

-- ---- what is to be done with a flight, by where it lands

pub lands_nowhere : (s : State) (id : FlightId) (o : Option Packet) → landing_at o ≡ Some Landing.Answer → land_in s id o ≡ None
lands_nowhere s id None e = absurd cc
lands_nowhere s id (Some (Packet.Message t ep g m)) e = absurd cc
lands_nowhere s id (Some (Packet.Credit x t g)) e = absurd cc
lands_nowhere s id (Some (Packet.Read x g place buffer)) e = absurd cc
lands_nowhere s id (Some (Packet.Write x g place payload)) e = absurd cc
lands_nowhere s id (Some (Packet.Answer x answer)) e = refl
lands_nowhere s id (Some (Packet.Install x t ep f)) e = absurd cc
lands_nowhere s id (Some (Packet.Close x t ep g)) e = absurd cc

pub lands_letter : (s : State) (id : FlightId) (to ep g : ℕ) (m : Message) (o : Option Packet) → landing_at o ≡ Some (Landing.Letter to ep g) → letter_at o ≡ Some m
    → land_in s id o ≡ message_in s id ep g m (context_of to s.contexts)
lands_letter s id to ep g m None e k = absurd cc
lands_letter s id to ep g m (Some (Packet.Message t p h x)) e k =
    let here : t ≡ to = cc in
    let there : p ≡ ep = cc in
    let of : h ≡ g = cc in
    let same : x ≡ m = cc in
    ap (λ z. message_in s id z h x (context_of t s.contexts)) there ∙ ap (λ z. message_in s id ep z x (context_of t s.contexts)) of
    ∙ ap (λ z. message_in s id ep g z (context_of t s.contexts)) same ∙ ap (λ z. message_in s id ep g m (context_of z s.contexts)) here
lands_letter s id to ep g m (Some (Packet.Credit x t h)) e k = absurd cc
lands_letter s id to ep g m (Some (Packet.Read x h place buffer)) e k = absurd cc
lands_letter s id to ep g m (Some (Packet.Write x h place payload)) e k = absurd cc
lands_letter s id to ep g m (Some (Packet.Answer x answer)) e k = absurd cc
lands_letter s id to ep g m (Some (Packet.Install x t p f)) e k = absurd cc
lands_letter s id to ep g m (Some (Packet.Close x t p h)) e k = absurd cc

-- a flight that lands as a letter has one
pub has_letter : (to ep g : ℕ) (o : Option Packet) → landing_at o ≡ Some (Landing.Letter to ep g) → letter_at o ≡ None → ⊥
has_letter to ep g None e k = cc
has_letter to ep g (Some (Packet.Message t p h x)) e k = cc
has_letter to ep g (Some (Packet.Credit x t h)) e k = cc
has_letter to ep g (Some (Packet.Read x h place buffer)) e k = cc
has_letter to ep g (Some (Packet.Write x h place payload)) e k = cc
has_letter to ep g (Some (Packet.Answer x answer)) e k = cc
has_letter to ep g (Some (Packet.Install x t p f)) e k = cc
has_letter to ep g (Some (Packet.Close x t p h)) e k = cc

-- and is that message
pub is_letter : (to ep g : ℕ) (m : Message) (o : Option Packet) → landing_at o ≡ Some (Landing.Letter to ep g) → letter_at o ≡ Some m → o ≡ Some (Packet.Message to ep g m)
is_letter to ep g m None e k = absurd cc
is_letter to ep g m (Some (Packet.Message t p h x)) e k = cc
is_letter to ep g m (Some (Packet.Credit x t h)) e k = absurd cc
is_letter to ep g m (Some (Packet.Read x h place buffer)) e k = absurd cc
is_letter to ep g m (Some (Packet.Write x h place payload)) e k = absurd cc
is_letter to ep g m (Some (Packet.Answer x answer)) e k = absurd cc
is_letter to ep g m (Some (Packet.Install x t p f)) e k = absurd cc
is_letter to ep g m (Some (Packet.Close x t p h)) e k = absurd cc

pub lands_credit : (s : State) (id : FlightId) (to g : ℕ) (o : Option Packet) → landing_at o ≡ Some (Landing.Credit to g) → land_in s id o ≡ credit_in s id g (context_of to s.contexts)
lands_credit s id to g None e = absurd cc
lands_credit s id to g (Some (Packet.Message t ep h m)) e = absurd cc
lands_credit s id to g (Some (Packet.Credit x t h)) e =
    let here : t ≡ to = cc in
    let of : h ≡ g = cc in
    ap (λ z. credit_in s id z (context_of t s.contexts)) of ∙ ap (λ z. credit_in s id g (context_of z s.contexts)) here
lands_credit s id to g (Some (Packet.Read x h place buffer)) e = absurd cc
lands_credit s id to g (Some (Packet.Write x h place payload)) e = absurd cc
lands_credit s id to g (Some (Packet.Answer x answer)) e = absurd cc
lands_credit s id to g (Some (Packet.Install x t ep f)) e = absurd cc
lands_credit s id to g (Some (Packet.Close x t ep h)) e = absurd cc

pub lands_install : (s : State) (id : FlightId) (to ep : ℕ) (f : Fresh) (o : Option Packet) → landing_at o ≡ Some (Landing.Install to ep f) → land_in s id o ≡ install_in s id ep f (context_of to s.contexts)
lands_install s id to ep f None e = absurd cc
lands_install s id to ep f (Some (Packet.Message t p h m)) e = absurd cc
lands_install s id to ep f (Some (Packet.Credit x t h)) e = absurd cc
lands_install s id to ep f (Some (Packet.Read x h place buffer)) e = absurd cc
lands_install s id to ep f (Some (Packet.Write x h place payload)) e = absurd cc
lands_install s id to ep f (Some (Packet.Answer x answer)) e = absurd cc
lands_install s id to ep f (Some (Packet.Install x t p h)) e =
    let here : t ≡ to = cc in
    let there : p ≡ ep = cc in
    let of : h ≡ f = cc in
    ap (λ z. install_in s id z h (context_of t s.contexts)) there ∙ ap (λ z. install_in s id ep z (context_of t s.contexts)) of ∙ ap (λ z. install_in s id ep f (context_of z s.contexts)) here
lands_install s id to ep f (Some (Packet.Close x t p h)) e = absurd cc

pub lands_close : (s : State) (id : FlightId) (to ep g : ℕ) (o : Option Packet) → landing_at o ≡ Some (Landing.Close to ep g) → land_in s id o ≡ close_in s id ep g (context_of to s.contexts)
lands_close s id to ep g None e = absurd cc
lands_close s id to ep g (Some (Packet.Message t p h m)) e = absurd cc
lands_close s id to ep g (Some (Packet.Credit x t h)) e = absurd cc
lands_close s id to ep g (Some (Packet.Read x h place buffer)) e = absurd cc
lands_close s id to ep g (Some (Packet.Write x h place payload)) e = absurd cc
lands_close s id to ep g (Some (Packet.Answer x answer)) e = absurd cc
lands_close s id to ep g (Some (Packet.Install x t p f)) e = absurd cc
lands_close s id to ep g (Some (Packet.Close x t p h)) e =
    let here : t ≡ to = cc in
    let there : p ≡ ep = cc in
    let of : h ≡ g = cc in
    ap (λ z. close_in s id z h (context_of t s.contexts)) there ∙ ap (λ z. close_in s id ep z (context_of t s.contexts)) of ∙ ap (λ z. close_in s id ep g (context_of z s.contexts)) here

abbrev memory_result : State → FlightId → List ℕ → Answer → Option IdealResult
memory_result s id memory answer = Some (record { word = Lands_label id; state = record s { memory = memory; flights = change_flight (Packet.Answer id answer) s.flights } })

pub lands_read : (s : State) (id : FlightId) (place len : ℕ) (o : Option Packet) → landing_at o ≡ Some (Landing.Read place len) → land_in s id o ≡ memory_result s id s.memory (Answer.Bytes (bytes_at place len s.memory))
lands_read s id place len None e = absurd cc
lands_read s id place len (Some (Packet.Message t p h m)) e = absurd cc
lands_read s id place len (Some (Packet.Credit x t h)) e = absurd cc
lands_read s id place len (Some (Packet.Read x h at buffer)) e =
    let here : at ≡ place = cc in
    let many : length buffer ≡ len = cc in
    ap (λ z. memory_result s id s.memory (Answer.Bytes (bytes_at z (length buffer) s.memory))) here ∙ ap (λ z. memory_result s id s.memory (Answer.Bytes (bytes_at place z s.memory))) many
lands_read s id place len (Some (Packet.Write x h at payload)) e = absurd cc
lands_read s id place len (Some (Packet.Answer x answer)) e = absurd cc
lands_read s id place len (Some (Packet.Install x t p f)) e = absurd cc
lands_read s id place len (Some (Packet.Close x t p h)) e = absurd cc

pub lands_write : (s : State) (id : FlightId) (place : ℕ) (p : Packet) → landing_at (Some p) ≡ Some (Landing.Write place) → land_in s id (Some p) ≡ memory_result s id (written_at place (bytes_in p) s.memory) Answer.Written
lands_write s id place (Packet.Message t p h m) e = absurd cc
lands_write s id place (Packet.Credit x t h) e = absurd cc
lands_write s id place (Packet.Read x h at buffer) e = absurd cc
lands_write s id place (Packet.Write x h at payload) e = let here : at ≡ place = cc in ap (λ z. memory_result s id (written_at z payload s.memory) Answer.Written) here
lands_write s id place (Packet.Answer x answer) e = absurd cc
lands_write s id place (Packet.Install x t p f) e = absurd cc
lands_write s id place (Packet.Close x t p h) e = absurd cc

-- ---- at the context

abbrev ending_result : State → FlightId → Label → List Context → Option IdealResult
ending_result s id w ds = Some (record { word = w; state = record s { contexts = ds; flights = end_flight id s.flights } })

pub credit_step : (E : Type 0) (s : State) (id : FlightId) (g : ℕ) (o : Option Context) (ds : List Context) (there : Bool) → AtKept o s.contexts ds (GivesTo {E = E} g (Ok there))
    → credit_in s id g o ≡ ending_result s id (if there then Credits id g else Discards id g) ds
credit_step E s id g None ds there h = absurd h
credit_step E s id g (Some c) ds there h =
    ap (λ z. ending_result s id (if z then Credits id g else Discards id g) (put_context (with_credit g c) s.contexts)) (sym h.3.1.0)
    ∙ ap (λ z. ending_result s id (if there then Credits id g else Discards id g) (put_context z s.contexts)) (sym h.3.1.1)
    ∙ ap (ending_result s id (if there then Credits id g else Discards id g)) (sym h.2)

-- a record that isn't there stays away
pub stays_open : (s : State) (id : FlightId) (to ep g : ℕ) (ds : List Context) → AtKept (context_of to s.contexts) s.contexts ds (Closes None ep g)
    → (close_in s id ep g (context_of to s.contexts) ≡ None) × (ds ≡ s.contexts)
stays_open s id to ep g ds h = by_context (context_of to s.contexts) refl h
  where
    by_context : (o : Option Context) → o ≡ context_of to s.contexts → AtKept o s.contexts ds (Closes None ep g) → (close_in s id ep g o ≡ None) × (ds ≡ s.contexts)
    by_context None at k = absurd k
    by_context (Some c) at k = (
      ap (λ b. if b then ending_result s id (if flies_at ep c then Starts_closing id g else Closes_endpoint id g) (put_context (with_endpoint c ep (closed_at (endpoint c ep))) s.contexts) else None) k.3.1.0,
      k.2 ∙ ap (λ z. put_context z s.contexts) k.3.1.1 ∙ put_same c s.contexts (found_under to c c s.contexts (sym at) refl),
    )

-- ---- messages

abbrev landing_result : State → Label → List Context → Packet → Option IdealResult
landing_result s w ds p = Some (record { word = w; state = record s { contexts = ds; flights = change_flight p s.flights } })

pub landed_step : (s : State) (id : FlightId) (ep g : ℕ) (m : Message) (o : Option Context) (ds : List Context) → id ≡ message_id m → AtKept o s.contexts ds (Lands (Ok None) ep g m)
    → message_in s id ep g m o ≡ landing_result s (Lands_label id) ds (Packet.Answer id (landed_answer m))
landed_step s id ep g m None ds e h = absurd h
landed_step s id ep g m (Some c) ds e h =
    ap (λ z. landed_in s id (land_by ep m c z)) h.3.1.0
    ∙ ap (λ z. landing_result s (Lands_label id) (put_context z s.contexts) (Packet.Answer (message_id m) (landed_answer m))) (sym h.3.1.1)
    ∙ ap (λ z. landing_result s (Lands_label id) z (Packet.Answer (message_id m) (landed_answer m))) (sym h.2)
    ∙ ap (λ z. landing_result s (Lands_label id) ds (Packet.Answer z (landed_answer m))) (sym e)

pub refused_step : (s : State) (id : FlightId) (ep g : ℕ) (m : Message) (o : Option Context) (ds : List Context) (why : Refusal) → id ≡ message_id m → AtKept o s.contexts ds (Lands (Ok (Some why)) ep g m)
    → message_in s id ep g m o ≡ landing_result s (Refusing id why) ds (Packet.Answer id (Answer.Refused why))
refused_step s id ep g m None ds why e h = absurd h
refused_step s id ep g m (Some c) ds why e h =
    ap (λ z. landed_in s id (land_by ep m c z)) h.3.1.0
    ∙ ap (λ z. landing_result s (Refusing id why) (put_context z s.contexts) (Packet.Answer (message_id m) (Answer.Refused why))) (sym h.3.1.1)
    ∙ ap (λ z. landing_result s (Refusing id why) z (Packet.Answer (message_id m) (Answer.Refused why))) (sym h.2)
    ∙ ap (λ z. landing_result s (Refusing id why) ds (Packet.Answer z (Answer.Refused why))) (sym e)

-- the letter comes back, and the contexts stay
pub letter_back : (a : ℕ) (cs ds : List Context) (ep g : ℕ) (m back : Message) → AtKept (context_of a cs) cs ds (Lands (Err back) ep g m) → (back ≡ m) × (ds ≡ cs)
letter_back a cs ds ep g m back h = by_context (context_of a cs) refl h
  where
    by_context : (o : Option Context) → o ≡ context_of a cs → AtKept o cs ds (Lands (Err back) ep g m) → (back ≡ m) × (ds ≡ cs)
    by_context None at k = absurd k
    by_context (Some c) at k =
        (k.3.1.0, k.2 ∙ ap (λ z. put_context z cs) k.3.1.1 ∙ put_same c cs (found_under a c c cs (sym at) refl))

-- ---- answers

pub no_answer : (s : State) (id : FlightId) (o : Option Packet) → answer_at o ≡ None → answered_in s id o ≡ None
no_answer s id None e = refl
no_answer s id (Some (Packet.Message t ep g m)) e = refl
no_answer s id (Some (Packet.Credit x t g)) e = refl
no_answer s id (Some (Packet.Read x g place buffer)) e = refl
no_answer s id (Some (Packet.Write x g place payload)) e = refl
no_answer s id (Some (Packet.Answer x answer)) e = absurd cc
no_answer s id (Some (Packet.Install x t ep f)) e = refl
no_answer s id (Some (Packet.Close x t ep g)) e = refl

pub is_answer : (s : State) (id : FlightId) (answer : Answer) (o : Option Packet) → answer_at o ≡ Some answer → answered_in s id o ≡ answer_in s id answer (context_of id.issuer s.contexts)
is_answer s id answer None e = absurd cc
is_answer s id answer (Some (Packet.Message t ep g m)) e = absurd cc
is_answer s id answer (Some (Packet.Credit x t g)) e = absurd cc
is_answer s id answer (Some (Packet.Read x g place buffer)) e = absurd cc
is_answer s id answer (Some (Packet.Write x g place payload)) e = absurd cc
is_answer s id answer (Some (Packet.Answer x other)) e = let same : other ≡ answer = cc in ap (λ z. answer_in s id z (context_of id.issuer s.contexts)) same
is_answer s id answer (Some (Packet.Install x t ep f)) e = absurd cc
is_answer s id answer (Some (Packet.Close x t ep g)) e = absurd cc

-- nothing waits for the answer
pub stays_unanswered : (E : Type 0) (s : State) (id : FlightId) (answer : Answer) (ds : List Context) → AtKept (context_of id.issuer s.contexts) s.contexts ds (SettlesBy {E = E} (Ok None) id.number answer)
    → (answer_in s id answer (context_of id.issuer s.contexts) ≡ None) × (ds ≡ s.contexts)
stays_unanswered E s id answer ds h = by_context (context_of id.issuer s.contexts) refl h
  where
    by_context : (o : Option Context) → o ≡ context_of id.issuer s.contexts → AtKept o s.contexts ds (SettlesBy {E = E} (Ok None) id.number answer) → (answer_in s id answer o ≡ None) × (ds ≡ s.contexts)
    by_context None at k = absurd k
    by_context (Some c) at k = (
      by_command (flying_at id.number c.flying) c k.0 k.3.1,
      k.2 ∙ ap (λ z. put_context z s.contexts) (same (flying_at id.number c.flying) c k.0 k.3.1) ∙ put_same c s.contexts (found_under id.issuer c c s.contexts (sym at) refl),
    )
      where
        by_command : (f : Option Flying) (x d : Context) → Settles {E = E} (Ok None) answer f x d → settle_in s id answer x f ≡ None
        by_command f x d w = ap (settle_in s id answer x) w.0

        same : (f : Option Flying) (x d : Context) → Settles {E = E} (Ok None) answer f x d → d ≡ x
        same f x d w = w.1

-- ---- answers of the calls, seen from the state s, which is v

module _ (s v : State) (id : FlightId) (view : s ≡ v) where
  pub credit_given : {E : Type 0} (r : Result Bool E) (to g : ℕ) (ds : List Context) (fs : List Packet) (there : Bool) (w : Label) → r ≡ Ok there → w ≡ (if there then Credits id g else Discards id g)
      → landing_at (flight id v.flights) ≡ Some (Landing.Credit to g) → AtKept (context_of to s.contexts) s.contexts ds (GivesTo g r) → fs ≡ end_flight id s.flights
      → land_in v id (flight id v.flights) ≡ Some (record { word = w; state = record s { contexts = ds; flights = fs } })
  credit_given {E} r to g ds fs there w e word lands h f =
      let at : AtKept (context_of to s.contexts) s.contexts ds (GivesTo {E = E} g (Ok there)) = subst (λ z. AtKept (context_of to s.contexts) s.contexts ds (GivesTo {E = E} g z)) e h in
      subst (λ z. landing_at (flight id z.flights) ≡ Some (Landing.Credit to g) → land_in z id (flight id z.flights) ≡ Some (record { word = w; state = record s { contexts = ds; flights = fs } })) view
      (λ k. lands_credit s id to g (flight id s.flights) k ∙ credit_step E s id g (context_of to s.contexts) ds there at
      ∙ (λ i. Some (record { word = sym word i; state = record s { contexts = ds; flights = sym f i } }))) lands

  pub not_closed : (r : Option Bool) (to ep g : ℕ) (ds : List Context) → r ≡ None → landing_at (flight id v.flights) ≡ Some (Landing.Close to ep g) → AtKept (context_of to s.contexts) s.contexts ds (Closes r ep g)
      → (land_in v id (flight id v.flights) ≡ None) × (record s { contexts = ds } ≡ v)
  not_closed r to ep g ds e lands h =
      let both = stays_open s id to ep g ds (subst (λ z. AtKept (context_of to s.contexts) s.contexts ds (Closes z ep g)) e h) in
      subst (λ z. landing_at (flight id z.flights) ≡ Some (Landing.Close to ep g) → (land_in z id (flight id z.flights) ≡ None) × (record s { contexts = ds } ≡ z)) view
      (λ k. (lands_close s id to ep g (flight id s.flights) k ∙ both.0, ap (λ z. record s { contexts = z }) both.1)) lands

  pub not_answered : {E : Type 0} (r : Result (Option (Option ℕ)) E) (answer : Answer) (act : ℕ) (ds : List Context) → r ≡ Ok None → act ≡ id.issuer → answer_at (flight id v.flights) ≡ Some answer
      → AtKept (context_of act s.contexts) s.contexts ds (SettlesBy r id.number answer) → (answered_in v id (flight id v.flights) ≡ None) × (record s { contexts = ds } ≡ v)
  not_answered {E} r answer act ds e own is h =
      let own_at : AtKept (context_of id.issuer s.contexts) s.contexts ds (SettlesBy r id.number answer) = subst (λ a. AtKept (context_of a s.contexts) s.contexts ds (SettlesBy r id.number answer)) own h in
      let both = stays_unanswered E s id answer ds (subst (λ z. AtKept (context_of id.issuer s.contexts) s.contexts ds (SettlesBy z id.number answer)) e own_at) in
      subst (λ z. answer_at (flight id z.flights) ≡ Some answer → (answered_in z id (flight id z.flights) ≡ None) × (record s { contexts = ds } ≡ z)) view
      (λ k. (is_answer s id answer (flight id s.flights) k ∙ both.0, ap (λ z. record s { contexts = z }) both.1)) is

  -- the flight of a letter that was taken out, and its name
  letter_flight : (to ep g : ℕ) (m : Message) → landing_at (flight id v.flights) ≡ Some (Landing.Letter to ep g) → letter_at (flight id v.flights) ≡ Some m → flight id s.flights ≡ Some (Packet.Message to ep g m)
  letter_flight to ep g m lands is = ap (λ z. flight id z.flights) view ∙ is_letter to ep g m (flight id v.flights) lands is

  letter_lands : (to ep g : ℕ) (m : Message) → landing_at (flight id v.flights) ≡ Some (Landing.Letter to ep g) → letter_at (flight id v.flights) ≡ Some m
      → land_in v id (flight id v.flights) ≡ message_in s id ep g m (context_of to s.contexts)
  letter_lands to ep g m lands is =
      sym (ap (λ z. land_in z id (flight id z.flights)) view)
      ∙ ap (land_in s id) (letter_flight to ep g m lands is)

  pub letter_landed : (r : Result (Option Refusal) Message) (to ep g : ℕ) (m : Message) (b : Bool) (ds : List Context) (f1 f2 : List Packet) → r ≡ Ok None
      → landing_at (flight id v.flights) ≡ Some (Landing.Letter to ep g) → letter_at (flight id v.flights) ≡ Some m → AtKept (context_of to s.contexts) s.contexts ds (Lands r ep g m)
      → b ≡ (m.header.flags == 0) → f1 ≡ change_flight (Packet.Answer id Answer.Sent) s.flights → f2 ≡ change_flight (Packet.Answer id (if b then Answer.Sent else Answer.Replied)) f1
      → land_in v id (flight id v.flights) ≡ Some (record { word = Lands_label id; state = record s { contexts = ds; flights = f2 } })
  letter_landed r to ep g m b ds f1 f2 e lands is h a x y =
      let answer : Answer = if b then Answer.Sent else Answer.Replied in
      let name : id ≡ message_id m = name_found id (Packet.Message to ep g m) s.flights (letter_flight to ep g m lands is) in
      let at : AtKept (context_of to s.contexts) s.contexts ds (Lands (Ok None) ep g m) = subst (λ z. AtKept (context_of to s.contexts) s.contexts ds (Lands z ep g m)) e h in
      letter_lands to ep g m lands is
      ∙ landed_step s id ep g m (context_of to s.contexts) ds name at
      ∙ ap (λ z. landing_result s (Lands_label id) ds (Packet.Answer id (if z then Answer.Sent else Answer.Replied))) (sym a)
      ∙ ap (λ z. Some (record { word = Lands_label id; state = record s { contexts = ds; flights = z } }))
      (sym (y ∙ ap (change_flight (Packet.Answer id answer)) x ∙ changed_twice (Packet.Answer id Answer.Sent) (Packet.Answer id answer) s.flights refl))

  pub letter_refused : (r : Result (Option Refusal) Message) (to ep g : ℕ) (m : Message) (why : Refusal) (ds : List Context) (f1 f2 : List Packet) → r ≡ Ok (Some why)
      → landing_at (flight id v.flights) ≡ Some (Landing.Letter to ep g) → letter_at (flight id v.flights) ≡ Some m → AtKept (context_of to s.contexts) s.contexts ds (Lands r ep g m)
      → f1 ≡ change_flight (Packet.Answer id Answer.Sent) s.flights → f2 ≡ change_flight (Packet.Answer id (Answer.Refused why)) f1
      → land_in v id (flight id v.flights) ≡ Some (record { word = Refusing id why; state = record s { contexts = ds; flights = f2 } })
  letter_refused r to ep g m why ds f1 f2 e lands is h x y =
      let name : id ≡ message_id m = name_found id (Packet.Message to ep g m) s.flights (letter_flight to ep g m lands is) in
      let at : AtKept (context_of to s.contexts) s.contexts ds (Lands (Ok (Some why)) ep g m) = subst (λ z. AtKept (context_of to s.contexts) s.contexts ds (Lands z ep g m)) e h in
      letter_lands to ep g m lands is
      ∙ refused_step s id ep g m (context_of to s.contexts) ds why name at
      ∙ ap (λ z. Some (record { word = Refusing id why; state = record s { contexts = ds; flights = z } }))
      (sym (y ∙ ap (change_flight (Packet.Answer id (Answer.Refused why))) x ∙ changed_twice (Packet.Answer id Answer.Sent) (Packet.Answer id (Answer.Refused why)) s.flights refl))

  pub letter_kept : (r : Result (Option Refusal) Message) (to ep g : ℕ) (m back : Message) (ds : List Context) (f1 f2 : List Packet) → r ≡ Err back
      → landing_at (flight id v.flights) ≡ Some (Landing.Letter to ep g) → letter_at (flight id v.flights) ≡ Some m → AtKept (context_of to s.contexts) s.contexts ds (Lands r ep g m)
      → f1 ≡ change_flight (Packet.Answer id Answer.Sent) s.flights → f2 ≡ change_flight (Packet.Message to ep g back) f1 → record s { contexts = ds; flights = f2 } ≡ v
  letter_kept r to ep g m back ds f1 f2 e lands is h x y =
      let there = letter_flight to ep g m lands is in
      let both = letter_back to s.contexts ds ep g m back (subst (λ z. AtKept (context_of to s.contexts) s.contexts ds (Lands z ep g m)) e h) in
      let flights : f2 ≡ s.flights = y ∙ ap (change_flight (Packet.Message to ep g back)) x ∙ ap (λ z. change_flight (Packet.Message to ep g z) (change_flight (Packet.Answer id Answer.Sent) s.flights)) both.0 ∙ changed_back id (Packet.Message to ep g m) (Packet.Answer id Answer.Sent) s.flights there refl in
      (λ i. record s { contexts = both.1 i; flights = flights i }) ∙ view
