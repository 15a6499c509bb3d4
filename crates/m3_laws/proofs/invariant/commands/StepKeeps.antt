-- Each step leaves commands, their flights and their marks in order.
use Rattle.std.proofs.Common.{◌≡◌, ◌≢◌, ℕ, ◌+◌, ◌≤◌, Bool, true, false, List, length, Some, None, refl, sym, subst, ◌∙◌, ap, arith, inl, inr}
use Rattle.std.specs.Prelude.{Option, ◌⊎◌, ◌&&◌, not, nat_lt, nat_le, drop, if◌then◌else◌}
use Rattle.std.proofs.lemmas.Bool.Decides.{nat_tests}
use Rattle.m3_base.specs.declared.ids.FlightId.{FlightId}
use Rattle.m3_base.specs.declared.message.Message.{Message}
use Rattle.m3_base.specs.declared.packet.Packet.{Packet}
use Rattle.m3_base.specs.declared.packet.Fresh.{Fresh}
use Rattle.m3_base.specs.declared.command.Answer.{Answer}
use Rattle.m3_base.specs.declared.command.Command.{Command}
use Rattle.m3_base.specs.declared.command.Refusal.{Refusal}
use Rattle.m3_base.specs.declared.order.GrantLine.{GrantLine}
use Rattle.m3_base.specs.declared.event.No.{No}
use Rattle.m3_base.specs.declared.step.Step.{Step}
use Rattle.m3_base.specs.Ideal.Flights.{kernel, flight, name_of, same_name, name_before, new_flight, change_flight, end_flight}
use Rattle.m3_base.specs.Ideal.Context.{Kind, Sending, Replying, Reading, Writing, Flying, Endpoint, Free, Context, endpoint, with_endpoint, new_endpoint}
use Rattle.m3_base.specs.Ideal.Issue.{Issued, issue, next_id}
use Rattle.m3_base.specs.Ideal.Landing.{land_by, land_refusal, landed_answer, message_id, after_message, with_credit, flying_at, context_after_answer, has_live, has_closing, closed_at, flies_at, bytes_at}
use Rattle.m3_base.specs.Ideal.State.{Grant, State, context_of, put_context, same_act, grant_in, holder, holder_ep, parent_of, parent_in, undone}
use Rattle.m3_base.specs.Ideal.GrantRules.{form, make_refusal, may_close, close_sent, change_grant, kernel_id, is_closed_grant, revoke_refusal, to_done}
use Rattle.m3_base.specs.Ideal.Step.{Starts_closing, Closes_endpoint, Sends_close, Frees, Finishes, IdealResult, ideal_step, with_packet, issue_in, issued_in, await_in, message_in, credit_in, install_in, close_in, land_in, settle_in, answer_in, answered_in, make_in, make_for, revoke_in, send_close_in, closed_in, free_in, done_in, step_to, after_ending}
use Rattle.m3_base.specs.Ideal.Acceptance.{is_answer_for, is_land_refusal}
use Rattle.m3_base.proofs.KeyedList.{find-replaced_same}
use Rattle.m3_base.specs.Ideal.FlightNames.{Apart}
use Rattle.m3_base.proofs.FlightNames.{name_found, same_name-is, same_name-itself, flight-change, flight-end}
use Rattle.m3_laws.specs.GrantInvariant.{GrantInvariant}
use Rattle.m3_laws.specs.WellFormed.{WellFormed}
use Rattle.m3_laws.specs.CommandFlights.{IsSentBy, IsReplyTo, IsFlightOf, HasFlight, AllFly, ContextInOrder, CommandsInOrder}
use Rattle.m3_laws.proofs.credits.Land.{after_landing}
use Rattle.m3_laws.proofs.invariant.step.LookUps.{found_after}
use Rattle.m3_laws.proofs.invariant.records.RecordsOfGrants.{install_free}
use Rattle.m3_laws.proofs.invariant.records.ClosingRecords.{to_closed}
use Rattle.m3_laws.proofs.invariant.wellformed.LandKeeps.{refusal_lands, take_short}
use Rattle.m3_laws.proofs.invariant.commands.ChangeKeeps.{KeepsCommands, keeps_same, keeps_credit, keeps_taken, keeps_install, keeps_close, keeps_free}
use Rattle.m3_laws.proofs.invariant.commands.IssueKeeps.{IssueKeepsCommands, issue-keeps, all_fly-new}
use Rattle.m3_laws.proofs.invariant.commands.AnswerKeeps.{answered_in_order, answered_fly}
use Rattle.m3_base.proofs.Activities.{act_found}

-- ---- flights change, and contexts stay

pub flights_new : (cs : List Context) (fs : List Packet) (p : Packet) → Apart (name_of p) fs → CommandsInOrder cs fs → CommandsInOrder cs (new_flight p fs)
flights_new cs fs p apart h = record { contexts = h.contexts; flights = λ a c e. all_fly-new c p fs apart (h.flights a c e) }

answer_flight : (k : Kind) (t : ℕ) (e : Endpoint) (id : FlightId) (answer : Answer) → is_answer_for k answer ≡ true → IsFlightOf k t e (Packet.Answer id answer)
answer_flight Sending t e id answer x = x
answer_flight Replying t e id answer x = x
answer_flight Reading t e id answer x = x
answer_flight Writing t e id answer x = x

-- a flight becomes the answer to each command whose flight it can be
flights_changed : (cs : List Context) (fs : List Packet) (id : FlightId) (p : Packet) (answer : Answer) → flight id fs ≡ Some p → ((k : Kind) (t : ℕ) (e : Endpoint) → IsFlightOf k t e p → is_answer_for k answer ≡ true) → CommandsInOrder cs fs → CommandsInOrder cs (change_flight (Packet.Answer id answer) fs)
flights_changed cs fs id p answer find gets h = record { contexts = h.contexts; flights = λ a c e n f w. by_name a c e n f w (same_name (record { issuer = c.act; number = n }) id) refl }
  where
    found : flight id (change_flight (Packet.Answer id answer) fs) ≡ Some (Packet.Answer id answer)
    found = find-replaced_same name_of same_name name_before (Packet.Answer id answer) p fs (same_name-itself id) find

    by_name : (a : ℕ) (c : Context) → context_of a cs ≡ Some c → (n : ℕ) (f : Flying) → flying_at n c.flying ≡ Some f → (b : Bool) → same_name (record { issuer = c.act; number = n }) id ≡ b → HasFlight f (endpoint c f.ep) (flight (record { issuer = c.act; number = n }) (change_flight (Packet.Answer id answer) fs))
    by_name a c e n f w false z = subst (HasFlight f (endpoint c f.ep)) (sym (flight-change (record { issuer = c.act; number = n }) (Packet.Answer id answer) fs z)) (h.flights a c e n f w)
    by_name a c e n f w true z =
        let same : record { issuer = c.act; number = n } ≡ id = same_name-is (record { issuer = c.act; number = n }) id z in
        let old : IsFlightOf f.kind f.token (endpoint c f.ep) p = subst (HasFlight f (endpoint c f.ep)) (ap (λ y. flight y fs) same ∙ find) (h.flights a c e n f w) in
        subst (HasFlight f (endpoint c f.ep)) (sym (ap (λ y. flight y (change_flight (Packet.Answer id answer) fs)) same ∙ found)) (answer_flight f.kind f.token (endpoint c f.ep) id answer (gets f.kind f.token (endpoint c f.ep) old))

-- a flight ends that is of no command
flights_ended : (cs : List Context) (fs : List Packet) (id : FlightId) (p : Packet) → flight id fs ≡ Some p → ((k : Kind) (t : ℕ) (e : Endpoint) → IsFlightOf k t e p → ⊥) → CommandsInOrder cs fs → CommandsInOrder cs (end_flight id fs)
flights_ended cs fs id p find never h = record { contexts = h.contexts; flights = λ a c e n f w. by_name a c e n f w (same_name (record { issuer = c.act; number = n }) id) refl }
  where
    by_name : (a : ℕ) (c : Context) → context_of a cs ≡ Some c → (n : ℕ) (f : Flying) → flying_at n c.flying ≡ Some f → (b : Bool) → same_name (record { issuer = c.act; number = n }) id ≡ b → HasFlight f (endpoint c f.ep) (flight (record { issuer = c.act; number = n }) (end_flight id fs))
    by_name a c e n f w false z = subst (HasFlight f (endpoint c f.ep)) (sym (flight-end (record { issuer = c.act; number = n }) id fs z)) (h.flights a c e n f w)
    by_name a c e n f w true z =
        let same : record { issuer = c.act; number = n } ≡ id = same_name-is (record { issuer = c.act; number = n }) id z in
        absurd (never f.kind f.token (endpoint c f.ep) (subst (HasFlight f (endpoint c f.ep)) (ap (λ y. flight y fs) same ∙ find) (h.flights a c e n f w)))

-- ---- a context changes, and flights stay

in_order-put : (cs : List Context) (fs hs : List Packet) (c d : Context) → context_of d.act cs ≡ Some c → ContextInOrder d → AllFly hs d → ((a : ℕ) (x : Context) → same_act a d.act ≡ false → context_of a cs ≡ Some x → AllFly hs x) → CommandsInOrder cs fs → CommandsInOrder (put_context d cs) hs
in_order-put cs fs hs c d at own flies others h = record {
  contexts = λ a x e. by_order a x (found_after a x c d cs at e);
  flights = λ a x e. by_fly a x (found_after a x c d cs at e);
}
  where
    by_order : (a : ℕ) (x : Context) → ((a ≡ d.act) × (x ≡ d)) ⊎ ((same_act a d.act ≡ false) × (context_of a cs ≡ Some x)) → ContextInOrder x
    by_order a x (inl q) = subst ContextInOrder (sym q.1) own
    by_order a x (inr q) = h.contexts a x q.1

    by_fly : (a : ℕ) (x : Context) → ((a ≡ d.act) × (x ≡ d)) ⊎ ((same_act a d.act ≡ false) × (context_of a cs ≡ Some x)) → AllFly hs x
    by_fly a x (inl q) = subst (AllFly hs) (sym q.1) flies
    by_fly a x (inr q) = others a x q.0 q.1

in_order-change : (cs : List Context) (fs : List Packet) (to : ℕ) (c d : Context) → context_of to cs ≡ Some c → KeepsCommands c d → CommandsInOrder cs fs → CommandsInOrder (put_context d cs) fs
in_order-change cs fs to c d at l h =
    let there : context_of d.act cs ≡ Some c = subst (λ z. context_of z cs ≡ Some c) (act_found to c cs at ∙ sym l.act) at in
    let own = h.contexts to c at in
    in_order-put cs fs fs c d there (l.in_order own) (l.fly own fs (h.flights to c at)) (λ a x n e. h.flights a x e) h

-- ---- what answers a message

sent_flags : (o : Option Fresh) (to ep h : ℕ) (m : Message) → IsSentBy o to ep h m → m.header.flags ≡ 0
sent_flags None to ep h m x = absurd x
sent_flags (Some (Fresh.Send g a b c l s n)) to ep h m x = x.flags
sent_flags (Some (Fresh.Receive g slots size)) to ep h m x = absurd x
sent_flags (Some (Fresh.Memory g start len perm)) to ep h m x = absurd x

reply_flags : (o : Option Message) (to ep h : ℕ) (m : Message) → IsReplyTo o to ep h m → m.header.flags ≡ 1
reply_flags None to ep h m x = absurd x
reply_flags (Some y) to ep h m x = x.flags

answers_landed : (k : Kind) (t to ep h : ℕ) (m : Message) (e : Endpoint) → IsFlightOf k t e (Packet.Message to ep h m) → is_answer_for k (landed_answer m) ≡ true
answers_landed Sending t to ep h m e x = let none = sent_flags _ to ep h m x in grind (arith, nat_tests, none)
answers_landed Replying t to ep h m e x = let some = reply_flags _ to ep h m x in grind (arith, nat_tests, some)
answers_landed Reading t to ep h m e x = absurd x
answers_landed Writing t to ep h m e x = absurd x

answers_refused : (k : Kind) (t to ep h : ℕ) (m : Message) (e : Endpoint) (why : Refusal) → is_land_refusal why ≡ true → IsFlightOf k t e (Packet.Message to ep h m) → is_answer_for k (Answer.Refused why) ≡ true
answers_refused Sending t to ep h m e why ok x = ok
answers_refused Replying t to ep h m e why ok x = ok
answers_refused Reading t to ep h m e why ok x = absurd x
answers_refused Writing t to ep h m e why ok x = absurd x

answers_read : (k : Kind) (t : ℕ) (id : FlightId) (h place : ℕ) (buffer bytes : List ℕ) (e : Endpoint) → nat_le (length bytes) 4096 ≡ true → IsFlightOf k t e (Packet.Read id h place buffer) → is_answer_for k (Answer.Bytes bytes) ≡ true
answers_read Reading t id h place buffer bytes e short x = short
answers_read Sending t id h place buffer bytes e short x = absurd x
answers_read Replying t id h place buffer bytes e short x = absurd x
answers_read Writing t id h place buffer bytes e short x = absurd x

answers_written : (k : Kind) (t : ℕ) (id : FlightId) (h place : ℕ) (payload : List ℕ) (e : Endpoint) → IsFlightOf k t e (Packet.Write id h place payload) → is_answer_for k Answer.Written ≡ true
answers_written Writing t id h place payload e x = refl
answers_written Sending t id h place payload e x = absurd x
answers_written Replying t id h place payload e x = absurd x
answers_written Reading t id h place payload e x = absurd x

-- credits and the kernel's packets are of no command
no_credit : (id : FlightId) (to h : ℕ) (k : Kind) (t : ℕ) (e : Endpoint) → IsFlightOf k t e (Packet.Credit id to h) → ⊥
no_credit id to h Sending t e x = x
no_credit id to h Replying t e x = x
no_credit id to h Reading t e x = x
no_credit id to h Writing t e x = x

no_install : (id : FlightId) (to ep : ℕ) (f : Fresh) (k : Kind) (t : ℕ) (e : Endpoint) → IsFlightOf k t e (Packet.Install id to ep f) → ⊥
no_install id to ep f Sending t e x = x
no_install id to ep f Replying t e x = x
no_install id to ep f Reading t e x = x
no_install id to ep f Writing t e x = x

no_close : (id : FlightId) (to ep h : ℕ) (k : Kind) (t : ℕ) (e : Endpoint) → IsFlightOf k t e (Packet.Close id to ep h) → ⊥
no_close id to ep h Sending t e x = x
no_close id to ep h Replying t e x = x
no_close id to ep h Reading t e x = x
no_close id to ep h Writing t e x = x

-- ---- each step

abbrev pub InOrder : State → Type 0
InOrder s = CommandsInOrder s.contexts s.flights

abbrev pub AllInOrder : Option IdealResult → Type 0
AllInOrder None = Unit {0}
AllInOrder (Some n) = InOrder n.state

module _ (s : State) (law : GrantInvariant s) (ok : WellFormed s) (h : InOrder s) where
  pub issue_in_order : (a : ℕ) (k : Command) (c : Context) (i : Issued) → context_of a s.contexts ≡ Some c → issue c k ≡ Some i → CommandsInOrder (put_context i.context s.contexts) (with_packet i.packet s.flights)
  issue_in_order a k c i at e =
      let does : IssueKeepsCommands c i = issue-keeps c k i e in
      let there : context_of i.context.act s.contexts ≡ Some c = subst (λ z. context_of z s.contexts ≡ Some c) (act_found a c s.contexts at ∙ sym does.act) at in
      let own = h.contexts a c at in
      let apart : Apart (next_id c) s.flights = (law.traffic.contexts a c at).apart c.next (omega arith) in
      in_order-put s.contexts s.flights (with_packet i.packet s.flights) c i.context there (does.in_order own) (does.fly own s.flights apart (h.flights a c at)) (λ b x n w. others i.packet does.name apart x (h.flights b x w)) h
    where
      others : (mp : Option Packet) → ((p : Packet) → mp ≡ Some p → name_of p ≡ next_id c) → Apart (next_id c) s.flights → (x : Context) → AllFly s.flights x → AllFly (with_packet mp s.flights) x
      others None name apart x w = w
      others (Some p) name apart x w = all_fly-new x p s.flights (subst (λ z. Apart z s.flights) (sym (name p refl)) apart) w

  issue_step : (a : ℕ) (k : Command) (o : Option Context) → context_of a s.contexts ≡ o → AllInOrder (issue_in s o k)
  issue_step a k None e = tt
  issue_step a k (Some c) e = by_issue (issue c k) refl
    where
      by_issue : (o : Option Issued) → issue c k ≡ o → AllInOrder (issued_in s o)
      by_issue None w = tt
      by_issue (Some i) w = issue_in_order a k c i e w

  await_step : (ep : ℕ) (o : Option Context) → AllInOrder (await_in s o ep)
  await_step ep None = tt
  await_step ep (Some c) = h

  landed : (id : FlightId) (to ep g : ℕ) (m : Message) (x : Context) → context_of to s.contexts ≡ Some x → flight id s.flights ≡ Some (Packet.Message to ep g m) → (why : Option Refusal) → land_refusal g m (endpoint x ep) ≡ why → InOrder (after_landing s (land_by ep m x why))
  landed id to ep g m x at find why w = by_refusal why w
    where
      found : flight (message_id m) s.flights ≡ Some (Packet.Message to ep g m)
      found = subst (λ z. flight z s.flights ≡ Some (Packet.Message to ep g m)) (name_found id (Packet.Message to ep g m) s.flights find) find

      by_refusal : (why : Option Refusal) → land_refusal g m (endpoint x ep) ≡ why → InOrder (after_landing s (land_by ep m x why))
      by_refusal (Some y) w = in_order-change s.contexts _ to x x at (keeps_same x) (flights_changed s.contexts s.flights (message_id m) (Packet.Message to ep g m) (Answer.Refused y) found (λ k t e z. answers_refused k t to ep g m e y (refusal_lands g m (endpoint x ep) y w) z) h)
      by_refusal None w = in_order-change s.contexts _ to x (after_message ep m x) at (keeps_taken ep m x) (flights_changed s.contexts s.flights (message_id m) (Packet.Message to ep g m) (landed_answer m) found (λ k t e z. answers_landed k t to ep g m e z) h)

  message_step : (id : FlightId) (to ep g : ℕ) (m : Message) → flight id s.flights ≡ Some (Packet.Message to ep g m) → (o : Option Context) → context_of to s.contexts ≡ o → AllInOrder (message_in s id ep g m o)
  message_step id to ep g m find None e = tt
  message_step id to ep g m find (Some x) e = landed id to ep g m x e find (land_refusal g m (endpoint x ep)) refl

  credit_step : (id y : FlightId) (to g : ℕ) → flight id s.flights ≡ Some (Packet.Credit y to g) → (o : Option Context) → context_of to s.contexts ≡ o → AllInOrder (credit_in s id g o)
  credit_step id y to g find None e = tt
  credit_step id y to g find (Some x) e = in_order-change s.contexts _ to x (with_credit g x) e (keeps_credit g x) (flights_ended s.contexts s.flights id (Packet.Credit y to g) find (no_credit y to g) h)

  install_step : (id y : FlightId) (to ep : ℕ) (f : Fresh) → flight id s.flights ≡ Some (Packet.Install y to ep f) → (o : Option Context) → context_of to s.contexts ≡ o → AllInOrder (install_in s id ep f o)
  install_step id y to ep f find None e = tt
  install_step id y to ep f find (Some x) e = in_order-change s.contexts _ to x (with_endpoint x ep (new_endpoint f)) e (keeps_install ep f x (install_free s law.placed id y to ep f x find e)) (flights_ended s.contexts s.flights id (Packet.Install y to ep f) find (no_install y to ep f) h)

  close_step : (id y : FlightId) (to ep g : ℕ) → flight id s.flights ≡ Some (Packet.Close y to ep g) → (o : Option Context) → context_of to s.contexts ≡ o → AllInOrder (close_in s id ep g o)
  close_step id y to ep g find None e = tt
  close_step id y to ep g find (Some x) e = by_test (has_live g (endpoint x ep))
    where
      by_test : (b : Bool) → AllInOrder (if b then step_to (if flies_at ep x then Starts_closing id g else Closes_endpoint id g) (after_ending s id (with_endpoint x ep (closed_at (endpoint x ep)))) else None)
      by_test true = in_order-change s.contexts _ to x (with_endpoint x ep (closed_at (endpoint x ep))) e (keeps_close ep x) (flights_ended s.contexts s.flights id (Packet.Close y to ep g) find (no_close y to ep g) h)
      by_test false = tt

  read_short : (id y : FlightId) (g place : ℕ) (buffer : List ℕ) → flight id s.flights ≡ Some (Packet.Read y g place buffer) → nat_le (length (bytes_at place (length buffer) s.memory)) 4096 ≡ true
  read_short id y g place buffer find =
      let numbers : (nat_lt 0 y.number && nat_le (length buffer) 4096) ≡ true = (ok.packets id (Packet.Read y g place buffer) find).numbers in
      let less : length (bytes_at place (length buffer) s.memory) ≤ length buffer = take_short (length buffer) (drop place s.memory) in
      grind (arith, nat_tests, numbers, less)

  land_step : (id : FlightId) (o : Option Packet) → flight id s.flights ≡ o → AllInOrder (land_in s id o)
  land_step id None e = tt
  land_step id (Some (Packet.Message to ep g m)) e = message_step id to ep g m e (context_of to s.contexts) refl
  land_step id (Some (Packet.Credit y to g)) e = credit_step id y to g e (context_of to s.contexts) refl
  land_step id (Some (Packet.Read y g place buffer)) e = flights_changed s.contexts s.flights id (Packet.Read y g place buffer) (Answer.Bytes (bytes_at place (length buffer) s.memory)) e (λ k t x z. answers_read k t y g place buffer (bytes_at place (length buffer) s.memory) x (read_short id y g place buffer e) z) h
  land_step id (Some (Packet.Write y g place payload)) e = flights_changed s.contexts s.flights id (Packet.Write y g place payload) Answer.Written e (λ k t x z. answers_written k t y g place payload x z) h
  land_step id (Some (Packet.Answer y answer)) e = tt
  land_step id (Some (Packet.Install y to ep f)) e = install_step id y to ep f e (context_of to s.contexts) refl
  land_step id (Some (Packet.Close y to ep g)) e = close_step id y to ep g e (context_of to s.contexts) refl

  settle_step : (id : FlightId) (answer : Answer) (c : Context) → flight id s.flights ≡ Some (Packet.Answer id answer) → context_of id.issuer s.contexts ≡ Some c → (o : Option Flying) → flying_at id.number c.flying ≡ o → AllInOrder (settle_in s id answer c o)
  settle_step id answer c find at None e = tt
  settle_step id answer c find at (Some f) e =
      let issuer : id.issuer ≡ c.act = act_found id.issuer c s.contexts at in
      let own = h.contexts id.issuer c at in
      let name : record { issuer = c.act; number = id.number } ≡ id = ap (λ z. record { issuer = z; number = id.number }) (sym issuer) in
      let gets : is_answer_for f.kind answer ≡ true = its_answer f.kind f.token (endpoint c f.ep) (subst (HasFlight f (endpoint c f.ep)) (ap (λ z. flight z s.flights) name ∙ find) (h.flights id.issuer c at id.number f e)) in
      in_order-put s.contexts s.flights (end_flight id s.flights) c (context_after_answer f answer c) (subst (λ z. context_of z s.contexts ≡ Some c) issuer at)
      (answered_in_order f id.number answer c own e gets)
      (answered_fly f id.number answer c own e s.flights (end_flight id s.flights) (λ k ne. flight-end (record { issuer = c.act; number = k }) id s.flights (other_number k issuer ne)) (h.flights id.issuer c at))
      (λ a x n w. others a x n w issuer) h
    where
      its_answer : (k : Kind) (t : ℕ) (e : Endpoint) → IsFlightOf k t e (Packet.Answer id answer) → is_answer_for k answer ≡ true
      its_answer Sending t e x = x
      its_answer Replying t e x = x
      its_answer Reading t e x = x
      its_answer Writing t e x = x

      other_number : (k : ℕ) → id.issuer ≡ c.act → k ≢ id.number → same_name (record { issuer = c.act; number = k }) id ≡ false
      other_number k q ne = grind (arith, nat_tests, ne)

      others : (a : ℕ) (x : Context) → same_act a (context_after_answer f answer c).act ≡ false → context_of a s.contexts ≡ Some x → id.issuer ≡ c.act → AllFly (end_flight id s.flights) x
      others a x n w q k y z =
          let its : a ≡ x.act = act_found a x s.contexts w in
          let other : same_name (record { issuer = x.act; number = k }) id ≡ false = grind (arith, nat_tests, n, q, its) in
          subst (HasFlight y (endpoint x y.ep)) (sym (flight-end (record { issuer = x.act; number = k }) id s.flights other)) (h.flights a x w k y z)

  answer_step : (id : FlightId) (answer : Answer) → flight id s.flights ≡ Some (Packet.Answer id answer) → (o : Option Context) → context_of id.issuer s.contexts ≡ o → AllInOrder (answer_in s id answer o)
  answer_step id answer find None e = tt
  answer_step id answer find (Some c) e = settle_step id answer c find e (flying_at id.number c.flying) refl

  answered_step : (id : FlightId) (o : Option Packet) → flight id s.flights ≡ o → AllInOrder (answered_in s id o)
  answered_step id (Some (Packet.Answer y answer)) e =
      let n : id ≡ y = name_found id (Packet.Answer y answer) s.flights e in
      answer_step id answer (e ∙ ap (λ z. Some (Packet.Answer z answer)) (sym n)) (context_of id.issuer s.contexts) refl
  answered_step id o e = tt

  -- the kernel's next name is new
  own_name : Apart (record { issuer = kernel; number = s.kernel_next }) s.flights
  own_name = law.traffic.orders s.kernel_next (omega arith)

  make_step : (line : GrantLine) (why : Option No) (f : Option Fresh) → AllInOrder (make_in s line why f)
  make_step line (Some why) f = h
  make_step line None None = tt
  make_step line None (Some f) = flights_new s.contexts s.flights (Packet.Install (kernel_id s) (holder line) (holder_ep line) f) own_name h

  make_for_step : (line : GrantLine) (o : Option Context) → AllInOrder (make_for s line o)
  make_for_step line None = tt
  make_for_step line (Some x) = make_step line (make_refusal (length s.memory) s.grants line) (form (length s.grants + 1) line (undone (parent_in s.grants (parent_of line))))

  revoke_step : (g : ℕ) (why : Option No) → AllInOrder (revoke_in s g why)
  revoke_step g (Some why) = h
  revoke_step g None = h

  send_close_step : (g : ℕ) (o : Option Grant) → AllInOrder (send_close_in s g o)
  send_close_step g None = tt
  send_close_step g (Some x) = by_test (may_close s.grants g (Some x))
    where
      by_test : (b : Bool) → AllInOrder (if b then step_to (Sends_close g (kernel_id s)) (close_sent s g x) else None)
      by_test true = flights_new s.contexts s.flights (Packet.Close (kernel_id s) (holder x.line) (holder_ep x.line) g) own_name h
      by_test false = tt

  free_step : (g a ep : ℕ) (o : Option Context) → context_of a s.contexts ≡ o → AllInOrder (free_in s g ep o)
  free_step g a ep None e = tt
  free_step g a ep (Some c) e = by_test (has_closing g (endpoint c ep)) (flies_at ep c) refl
    where
      by_test : (b d : Bool) → flies_at ep c ≡ d → AllInOrder (if b && not d then step_to (Frees g) (record s { contexts = put_context (with_endpoint c ep Free) s.contexts; grants = change_grant s.grants g to_closed }) else None)
      by_test true false v = in_order-change s.contexts s.flights a c (with_endpoint c ep Free) e (keeps_free ep c v) h
      by_test true true v = tt
      by_test false d v = tt

  closed_step : (g : ℕ) (o : Option Grant) → AllInOrder (closed_in s g o)
  closed_step g None = tt
  closed_step g (Some x) = free_step g (holder x.line) (holder_ep x.line) (context_of (holder x.line) s.contexts) refl

  done_step : (g : ℕ) (o : Option Grant) → AllInOrder (done_in s g o)
  done_step g None = tt
  done_step g (Some x) = by_test (is_closed_grant x.standing)
    where
      by_test : (b : Bool) → AllInOrder (if b then step_to (Finishes g x.is_root) (record s { grants = change_grant s.grants g to_done }) else None)
      by_test true = h
      by_test false = tt

  pub step_in_order : (t : Step) → AllInOrder (ideal_step s t)
  step_in_order (Step.Issue a c) = issue_step a c (context_of a s.contexts) refl
  step_in_order (Step.Await a ep) = await_step ep (context_of a s.contexts)
  step_in_order (Step.Land id) = land_step id (flight id s.flights) refl
  step_in_order (Step.Answered id) = answered_step id (flight id s.flights) refl
  step_in_order (Step.Make line) = make_for_step line (context_of (holder line) s.contexts)
  step_in_order (Step.Revoke g) = revoke_step g (revoke_refusal (grant_in s.grants g))
  step_in_order (Step.Close g) = send_close_step g (grant_in s.grants g)
  step_in_order (Step.Closed g) = closed_step g (grant_in s.grants g)
  step_in_order (Step.Done g) = done_step g (grant_in s.grants g)
