-- Over whole runs the messages of a grant land in the order in which they were issued.
use Rattle.std.proofs.Common.{◌≡◌, ℕ, ◌+◌, ◌≤◌, Bool, true, false, List, [], ◌∷◌, ◌++◌, length, Some, None, refl, sym, subst, ◌∙◌, ap, arith, inl, inr, append_assoc}
use Rattle.std.specs.Prelude.{Option, if◌then◌else◌, ◌==◌, not, ◌&&◌, ◌||◌, ◌⊎◌}
use Rattle.std.proofs.lemmas.List.{append-nil}
use Rattle.m3_base.specs.declared.ids.FlightId.{FlightId}
use Rattle.m3_base.specs.declared.message.Message.{Message}
use Rattle.m3_base.specs.declared.packet.Packet.{Packet}
use Rattle.m3_base.specs.declared.command.Refusal.{Refusal}
use Rattle.m3_base.specs.declared.command.Answer.{Answer}
use Rattle.m3_base.specs.declared.command.Command.{Command}
use Rattle.m3_base.specs.declared.step.Step.{Step}
use Rattle.m3_base.specs.Ideal.Flights.{name_of, same_name, name_before, flight, new_flight, change_flight, end_flight}
use Rattle.m3_base.specs.Ideal.Context.{Flying, Free, Context, endpoint, with_endpoint, new_endpoint}
use Rattle.m3_base.specs.Ideal.Issue.{Issued, issue}
use Rattle.m3_base.specs.Ideal.Landing.{with_message, message_id, land_refusal, land_by, landed_answer, after_message, with_credit, context_after_answer, flying_at, bytes_at, written_at, has_live, has_closing, closed_at, flies_at}
use Rattle.m3_base.specs.Ideal.State.{State, context_of, put_context, Grant, grant_in, holder, holder_ep, parent_of, parent_in, undone}
use Rattle.m3_base.specs.Ideal.Step.{IdealResult, ideal_step, issue_in, issued_in, await_in, message_in, credit_in, land_in, settle_in, answer_in, answered_in, Starts_closing, Closes_endpoint, Sends_close, Frees, Finishes, step_to, install_in, close_in, make_in, make_for, revoke_in, send_close_in, free_in, closed_in, done_in, after_ending}
use Rattle.m3_base.specs.Ideal.MessageTraces.{only_of, sent_in, flying_of, messages_named, names_of, issued_at, landed_at, refused_at, issued_from, issued_by, landed_in, refused_in, if_landed, if_refused, verdict, state_after_steps, final, collect}
use Rattle.m3_base.specs.declared.order.GrantLine.{GrantLine}
use Rattle.m3_base.specs.declared.packet.Fresh.{Fresh}
use Rattle.m3_base.specs.declared.event.No.{No}
use Rattle.m3_base.specs.Ideal.GrantRules.{form, new_grant, with_grant_made, make_refusal, kernel_id, after_revoke, revoke_refusal, may_close, close_sent, change_grant, is_closed_grant, to_sent, to_done}
use Rattle.m3_base.specs.Ideal.Opening.{opening}
use Rattle.m3_base.proofs.KeyedList.{find-replaced_same}
use Rattle.m3_base.specs.Ideal.FlightNames.{Distinct, Apart}
use Rattle.m3_base.proofs.FlightNames.{name_found, flight-change, same_name-is, same_name-itself}
use Rattle.m3_laws.specs.Laws.{AllFit}
use Rattle.m3_laws.specs.MessageOrder.{HasNext, AllHaveNext, LandingOrder}
use Rattle.m3_laws.specs.Invariant.{Invariant}
use Rattle.m3_laws.proofs.credits.Land.{after_landing, same_back-taken}
use Rattle.m3_laws.proofs.invariant.step.LookUps.{found_ended, found_new}
use Rattle.m3_laws.proofs.invariant.records.ClosingRecords.{to_closed}
use Rattle.m3_laws.proofs.invariant.step.Invariant.{invariant_opening, invariant_step, invariant_ever}
use Rattle.m3_laws.proofs.invariant.step.NoFlightAtOpening.{nothing_flies}
use Rattle.m3_laws.proofs.order.OneInFlight.{Single, single_sent, single_flying}
use Rattle.m3_laws.proofs.order.LandingOrderStep.{Past, past_stays, issue_past, landed_past, refused_past, other_past, later_put}
use Rattle.m3_laws.proofs.order.Sublists.{flying_of-change_other, flying_of-new_other, law_of_order}
use Rattle.m3_base.proofs.Activities.{found_own}

abbrev pub after_serving : State → List ℕ → Packet → State
after_serving s memory q = record s { memory = memory; flights = change_flight q s.flights }

-- a flight that is no message of g ends
flying_of-end_other : (g : ℕ) (id : FlightId) (p : Packet) (fs : List Packet) → flight id fs ≡ Some p → sent_in g p ≡ [] → flying_of g (end_flight id fs) ≡ flying_of g fs
flying_of-end_other g id p [] f z = refl
flying_of-end_other g id p (q ∷ fs) f z = by_name (same_name id (name_of q)) refl (flying_of-end_other g id p fs)
  where
    by_name : (b : Bool) → same_name id (name_of q) ≡ b → (flight id fs ≡ Some p → sent_in g p ≡ [] → flying_of g (end_flight id fs) ≡ flying_of g fs) → flying_of g (if b then fs else q ∷ end_flight id fs) ≡ flying_of g (q ∷ fs)
    by_name true w ih = let same : q ≡ p = grind (arith, f, w) in sym (ap (λ y. y ++ flying_of g fs) (ap (sent_in g) same ∙ z))
    by_name false w ih = ap (λ y. sent_in g q ++ y) (ih (grind (arith, f, w)) z)

old_message : (g : ℕ) (p q : Packet) (fs : List Packet) → flight (name_of q) fs ≡ Some p → sent_in g q ≡ [] → (id : FlightId) (x : Packet) (m : Message) → flight id (change_flight q fs) ≡ Some x → sent_in g x ≡ m ∷ [] → flight id fs ≡ Some x
old_message g p q fs find answer id x m f sx = by_name (same_name id (name_of q)) refl
  where
    clash : [] ≡ m ∷ [] → ⊥
    clash e = cc

    by_name : (b : Bool) → same_name id (name_of q) ≡ b → flight id fs ≡ Some x
    by_name false w = sym (flight-change id q fs w) ∙ f
    by_name true w =
        let n : id ≡ name_of q = same_name-is id (name_of q) w in
        let r : flight id (change_flight q fs) ≡ Some q = subst (λ y. flight y (change_flight q fs) ≡ Some q) (sym n) (find-replaced_same name_of same_name name_before q p fs (same_name-itself (name_of q)) find) in
        let same : q ≡ x = cc in
        absurd (clash (sym answer ∙ ap (sent_in g) same ∙ sx))

taken_next : (ep : ℕ) (m : Message) (c : Context) → (after_message ep m c).next ≡ c.next
taken_next ep m c = by_flags (m.header.flags == 0)
  where
    by_flags : (b : Bool) → (if b then with_endpoint c ep (with_message m (endpoint c ep)) else with_credit m.header.send (with_endpoint c ep (with_message m (endpoint c ep)))).next ≡ c.next
    by_flags true = refl
    by_flags false = refl

abbrev pub AllPast : ℕ → State → Option IdealResult → List Message → List Message → List FlightId → Type 0
AllPast g s None issued landed refused = Unit {0}
AllPast g s (Some n) issued landed refused = Past g n.state issued landed refused

kept_as : (g : ℕ) (n : State) (issued landed landed2 : List Message) (refused refused2 : List FlightId) → landed ≡ landed2 → refused ≡ refused2 → Past g n issued landed refused → Past g n issued landed2 refused2
kept_as g n issued landed landed2 refused refused2 p q k = subst (λ y. Past g n issued landed2 y) q (subst (λ y. Past g n issued y refused) p k)

module _ (g : ℕ) (s : State) (sound : Invariant s) (issued landed : List Message) (refused : List FlightId) (h : Past g s issued landed refused) where
  issue_step : (a : ℕ) (k : Command) (o : Option Context) → context_of a s.contexts ≡ o → AllPast g s (issue_in s o k) (issued ++ issued_from g o k) landed refused
  issue_step a k None e = tt
  issue_step a k (Some c) e = by_issue (issue c k) refl
    where
      by_issue : (o : Option Issued) → issue c k ≡ o → AllPast g s (issued_in s o) (issued ++ issued_by g o) landed refused
      by_issue None w = tt
      by_issue (Some i) w = issue_past g s a k c i sound e w issued landed refused h

  -- the flights but for one that is no message of g, and a context whose next number only rises
  ended_step : (id : FlightId) (p : Packet) (c d : Context) → flight id s.flights ≡ Some p → sent_in g p ≡ [] → context_of d.act s.contexts ≡ Some c → c.next ≤ d.next → Past g (after_ending s id d) issued landed refused
  ended_step id p c d f z at next = past_stays g s (after_ending s id d) issued landed refused (λ m w. later_put s.contexts c d m.header.sender m.header.number at next w) (flying_of-end_other g id p s.flights f z) (λ n x m e sx. found_ended id n x s.flights sound.lawful.placed.distinct e) h

  served_step : (id : FlightId) (p : Packet) (answer : Answer) (memory : List ℕ) → flight id s.flights ≡ Some p → sent_in g p ≡ [] → Past g (after_serving s memory (Packet.Answer id answer)) issued landed refused
  served_step id p answer memory f z = past_stays g s (after_serving s memory (Packet.Answer id answer)) issued landed refused (λ m w. w) (flying_of-change_other g p (Packet.Answer id answer) s.flights f z refl) (old_message g p (Packet.Answer id answer) s.flights f refl) h

  -- grants change, and nothing else
  grants_step : (ks : List Grant) → Past g (record s { grants = ks }) issued landed refused
  grants_step ks = past_stays g s (record s { grants = ks }) issued landed refused (λ m w. w) refl (λ n x m e sx. e) h

  -- the kernel sends a packet
  order_step : (p : Packet) (ks : List Grant) → Apart (name_of p) s.flights → sent_in g p ≡ [] → Past g (record s { flights = new_flight p s.flights; kernel_next = s.kernel_next + 1; grants = ks }) issued landed refused
  order_step p ks apart z = past_stays g s (record s { flights = new_flight p s.flights; kernel_next = s.kernel_next + 1; grants = ks }) issued landed refused (λ m w. w) (flying_of-new_other g p s.flights z) (λ n x m e sx. by_new n x m sx (found_new n x p s.flights apart e)) h
    where
      clash : (m : Message) → [] ≡ m ∷ [] → ⊥
      clash m q = cc

      by_new : (n : FlightId) (x : Packet) (m : Message) → sent_in g x ≡ m ∷ [] → (x ≡ p) ⊎ (flight n s.flights ≡ Some x) → flight n s.flights ≡ Some x
      by_new n x m sx (inr q) = q
      by_new n x m sx (inl q) = absurd (clash m (sym z ∙ (ap (sent_in g) (sym q) ∙ sx)))

  -- an endpoint becomes free
  freed_step : (c : Context) (ep : ℕ) (ks : List Grant) → context_of c.act s.contexts ≡ Some c → Past g (record s { contexts = put_context (with_endpoint c ep Free) s.contexts; grants = ks }) issued landed refused
  freed_step c ep ks at = past_stays g s (record s { contexts = put_context (with_endpoint c ep Free) s.contexts; grants = ks }) issued landed refused (λ m w. later_put s.contexts c (with_endpoint c ep Free) m.header.sender m.header.number at (omega arith) w) refl (λ n x m e sx. e) h

  -- a message, by its verdict
  message_by : (to ep k : ℕ) (m : Message) (x : Context) → context_of to s.contexts ≡ Some x → flight (message_id m) s.flights ≡ Some (Packet.Message to ep k m) → (why : Option Refusal) → Past g (after_landing s (land_by ep m x why)) issued (landed ++ if_landed why (only_of g m)) (refused ++ if_refused why (only_of g m))
  message_by to ep k m x at f why = by_sent (single_sent g (Packet.Message to ep k m)) why
    where
      here : context_of x.act s.contexts ≡ Some x
      here = found_own to x s.contexts at

      there : context_of (after_message ep m x).act s.contexts ≡ Some x
      there = subst (λ z. context_of z s.contexts ≡ Some x) (sym (same_back-taken ep m x).act) here

      by_sent : (sent_in g (Packet.Message to ep k m) ≡ []) ⊎ ((y : Message) × (sent_in g (Packet.Message to ep k m) ≡ y ∷ [])) → (why : Option Refusal) → Past g (after_landing s (land_by ep m x why)) issued (landed ++ if_landed why (only_of g m)) (refused ++ if_refused why (only_of g m))
      by_sent (inl z) (Some w) =
          kept_as g (after_landing s (land_by ep m x (Some w))) issued landed (landed ++ []) refused (refused ++ names_of (only_of g m)) (sym (append-nil landed)) (sym (ap (λ y. refused ++ names_of y) z ∙ append-nil refused)) (
          other_past g s x x (Packet.Message to ep k m) (Packet.Answer (message_id m) (Answer.Refused w)) s.memory sound here (omega arith) f refl issued landed refused z h
          )
      by_sent (inl z) None =
          kept_as g (after_landing s (land_by ep m x None)) issued landed (landed ++ only_of g m) refused (refused ++ []) (sym (ap (λ y. landed ++ y) z ∙ append-nil landed)) (sym (append-nil refused)) (
          other_past g s x (after_message ep m x) (Packet.Message to ep k m) (Packet.Answer (message_id m) (landed_answer m)) s.memory sound there (omega (arith, taken_next ep m x)) f refl issued landed refused z h
          )
      by_sent (inr z) (Some w) =
          kept_as g (after_landing s (land_by ep m x (Some w))) issued landed (landed ++ []) (refused ++ message_id z.0 ∷ []) (refused ++ names_of (only_of g m)) (sym (append-nil landed)) (sym (ap (λ y. refused ++ names_of y) z.1)) (
          refused_past g s x x (Packet.Message to ep k m) (Packet.Answer (message_id m) (Answer.Refused w)) s.memory sound here (omega arith) f refl issued landed refused z.0 z.1 h
          )
      by_sent (inr z) None =
          kept_as g (after_landing s (land_by ep m x None)) issued (landed ++ z.0 ∷ []) (landed ++ only_of g m) refused (refused ++ []) (sym (ap (λ y. landed ++ y) z.1)) (sym (append-nil refused)) (
          landed_past g s x (after_message ep m x) (Packet.Message to ep k m) (Packet.Answer (message_id m) (landed_answer m)) s.memory sound there (omega (arith, taken_next ep m x)) f refl issued landed refused z.0 z.1 h
          )

  -- the same history in two spellings
  nothing_more : (n : State) → Past g n issued landed refused → Past g n (issued ++ []) (landed ++ []) (refused ++ [])
  nothing_more n k = kept_as g n (issued ++ []) landed (landed ++ []) refused (refused ++ []) (sym (append-nil landed)) (sym (append-nil refused)) (subst (λ y. Past g n y landed refused) (sym (append-nil issued)) k)

  more_issued : (n : State) (ms : List Message) → Past g n (issued ++ ms) landed refused → Past g n (issued ++ ms) (landed ++ []) (refused ++ [])
  more_issued n ms k = kept_as g n (issued ++ ms) landed (landed ++ []) refused (refused ++ []) (sym (append-nil landed)) (sym (append-nil refused)) k

  more_landed : (n : State) (ms : List Message) (ids : List FlightId) → Past g n issued (landed ++ ms) (refused ++ ids) → Past g n (issued ++ []) (landed ++ ms) (refused ++ ids)
  more_landed n ms ids k = subst (λ y. Past g n y (landed ++ ms) (refused ++ ids)) (sym (append-nil issued)) k

  issue_any : (a : ℕ) (k : Command) → AllPast g s (issue_in s (context_of a s.contexts) k) (issued ++ issued_from g (context_of a s.contexts) k) (landed ++ []) (refused ++ [])
  issue_any a k = by_next (issue_in s (context_of a s.contexts) k) (issue_step a k (context_of a s.contexts) refl)
    where
      by_next : (o : Option IdealResult) → AllPast g s o (issued ++ issued_from g (context_of a s.contexts) k) landed refused → AllPast g s o (issued ++ issued_from g (context_of a s.contexts) k) (landed ++ []) (refused ++ [])
      by_next None p = tt
      by_next (Some n) p = more_issued n.state (issued_from g (context_of a s.contexts) k) p

  await_any : (ep : ℕ) (o : Option Context) → AllPast g s (await_in s o ep) (issued ++ []) (landed ++ []) (refused ++ [])
  await_any ep None = tt
  await_any ep (Some c) = nothing_more s (h)

  message_any : (id : FlightId) (to ep k : ℕ) (m : Message) → flight id s.flights ≡ Some (Packet.Message to ep k m) → (o : Option Context) → context_of to s.contexts ≡ o → AllPast g s (message_in s id ep k m o) (issued ++ []) (landed ++ if_landed (verdict ep k m o) (only_of g m)) (refused ++ if_refused (verdict ep k m o) (only_of g m))
  message_any id to ep k m f None e = tt
  message_any id to ep k m f (Some x) e =
      let n : id ≡ message_id m = name_found id (Packet.Message to ep k m) s.flights f in
      more_landed (after_landing s (land_by ep m x (land_refusal k m (endpoint x ep)))) (if_landed (land_refusal k m (endpoint x ep)) (only_of g m)) (if_refused (land_refusal k m (endpoint x ep)) (only_of g m)) (
      message_by to ep k m x e (subst (λ z. flight z s.flights ≡ Some (Packet.Message to ep k m)) n f) (land_refusal k m (endpoint x ep))
      )

  credit_any : (id y : FlightId) (to k : ℕ) → flight id s.flights ≡ Some (Packet.Credit y to k) → (o : Option Context) → context_of to s.contexts ≡ o → AllPast g s (credit_in s id k o) (issued ++ []) (landed ++ []) (refused ++ [])
  credit_any id y to k f None e = tt
  credit_any id y to k f (Some x) e =
      let here : context_of x.act s.contexts ≡ Some x = found_own to x s.contexts e in
      nothing_more (after_ending s id (with_credit k x)) (ended_step id (Packet.Credit y to k) x (with_credit k x) f refl here (omega arith))

  install_any : (id y : FlightId) (to ep : ℕ) (f : Fresh) → flight id s.flights ≡ Some (Packet.Install y to ep f) → (o : Option Context) → context_of to s.contexts ≡ o → AllPast g s (install_in s id ep f o) (issued ++ []) (landed ++ []) (refused ++ [])
  install_any id y to ep f find None e = tt
  install_any id y to ep f find (Some x) e =
      let here : context_of x.act s.contexts ≡ Some x = found_own to x s.contexts e in
      nothing_more (after_ending s id (with_endpoint x ep (new_endpoint f))) (ended_step id (Packet.Install y to ep f) x (with_endpoint x ep (new_endpoint f)) find refl here (omega arith))

  close_any : (id y : FlightId) (to ep k : ℕ) → flight id s.flights ≡ Some (Packet.Close y to ep k) → (o : Option Context) → context_of to s.contexts ≡ o → AllPast g s (close_in s id ep k o) (issued ++ []) (landed ++ []) (refused ++ [])
  close_any id y to ep k find None e = tt
  close_any id y to ep k find (Some x) e = by_test (has_live k (endpoint x ep))
    where
      here : context_of x.act s.contexts ≡ Some x
      here = found_own to x s.contexts e

      by_test : (b : Bool) → AllPast g s (if b then step_to (if flies_at ep x then Starts_closing id k else Closes_endpoint id k) (after_ending s id (with_endpoint x ep (closed_at (endpoint x ep)))) else None) (issued ++ []) (landed ++ []) (refused ++ [])
      by_test true = nothing_more (after_ending s id (with_endpoint x ep (closed_at (endpoint x ep)))) (ended_step id (Packet.Close y to ep k) x (with_endpoint x ep (closed_at (endpoint x ep))) find refl here (omega arith))
      by_test false = tt

  land_any : (id : FlightId) (o : Option Packet) → flight id s.flights ≡ o → AllPast g s (land_in s id o) (issued ++ []) (landed ++ landed_in g s o) (refused ++ refused_in g s o)
  land_any id None e = tt
  land_any id (Some (Packet.Message to ep k m)) e = message_any id to ep k m e (context_of to s.contexts) refl
  land_any id (Some (Packet.Credit y to k)) e = credit_any id y to k e (context_of to s.contexts) refl
  land_any id (Some (Packet.Read y k place buffer)) e = nothing_more (after_serving s s.memory (Packet.Answer id (Answer.Bytes (bytes_at place (length buffer) s.memory)))) (served_step id (Packet.Read y k place buffer) (Answer.Bytes (bytes_at place (length buffer) s.memory)) s.memory e refl)
  land_any id (Some (Packet.Write y k place payload)) e = nothing_more (after_serving s (written_at place payload s.memory) (Packet.Answer id Answer.Written)) (served_step id (Packet.Write y k place payload) Answer.Written (written_at place payload s.memory) e refl)
  land_any id (Some (Packet.Answer y answer)) e = tt
  land_any id (Some (Packet.Install y to ep f)) e = install_any id y to ep f e (context_of to s.contexts) refl
  land_any id (Some (Packet.Close y to ep k)) e = close_any id y to ep k e (context_of to s.contexts) refl

  settle_any : (id : FlightId) (answer : Answer) (c : Context) → context_of id.issuer s.contexts ≡ Some c → flight id s.flights ≡ Some (Packet.Answer id answer) → (o : Option Flying) → AllPast g s (settle_in s id answer c o) (issued ++ []) (landed ++ []) (refused ++ [])
  settle_any id answer c at f None = tt
  settle_any id answer c at f (Some x) =
      let here : context_of c.act s.contexts ≡ Some c = found_own id.issuer c s.contexts at in
      nothing_more (after_ending s id (context_after_answer x answer c)) (
      ended_step id (Packet.Answer id answer) c (context_after_answer x answer c) f refl here (omega arith)
      )

  answer_any : (id : FlightId) (answer : Answer) → flight id s.flights ≡ Some (Packet.Answer id answer) → (o : Option Context) → context_of id.issuer s.contexts ≡ o → AllPast g s (answer_in s id answer o) (issued ++ []) (landed ++ []) (refused ++ [])
  answer_any id answer f None e = tt
  answer_any id answer f (Some c) e = settle_any id answer c e f (flying_at id.number c.flying)

  answered_any : (id : FlightId) (o : Option Packet) → flight id s.flights ≡ o → AllPast g s (answered_in s id o) (issued ++ []) (landed ++ []) (refused ++ [])
  answered_any id (Some (Packet.Answer y answer)) e =
      let n : id ≡ y = name_found id (Packet.Answer y answer) s.flights e in
      answer_any id answer (e ∙ ap (λ z. Some (Packet.Answer z answer)) (sym n)) (context_of id.issuer s.contexts) refl
  answered_any id o e = tt

  make_any : (line : GrantLine) (why : Option No) (f : Option Fresh) → AllPast g s (make_in s line why f) (issued ++ []) (landed ++ []) (refused ++ [])
  make_any line (Some why) f = nothing_more s h
  make_any line None None = tt
  make_any line None (Some f) = nothing_more (with_grant_made s line f) (order_step (Packet.Install (kernel_id s) (holder line) (holder_ep line) f) (s.grants ++ new_grant line f ∷ []) (sound.lawful.traffic.orders s.kernel_next (omega arith)) refl)

  make_for_any : (line : GrantLine) (o : Option Context) → AllPast g s (make_for s line o) (issued ++ []) (landed ++ []) (refused ++ [])
  make_for_any line None = tt
  make_for_any line (Some x) = make_any line (make_refusal (length s.memory) s.grants line) (form (length s.grants + 1) line (undone (parent_in s.grants (parent_of line))))

  revoke_any : (k : ℕ) (why : Option No) → AllPast g s (revoke_in s k why) (issued ++ []) (landed ++ []) (refused ++ [])
  revoke_any k (Some why) = nothing_more s h
  revoke_any k None = nothing_more (record s { grants = after_revoke s.grants k }) (grants_step (after_revoke s.grants k))

  send_close_any : (k : ℕ) (o : Option Grant) → AllPast g s (send_close_in s k o) (issued ++ []) (landed ++ []) (refused ++ [])
  send_close_any k None = tt
  send_close_any k (Some x) = by_test (may_close s.grants k (Some x))
    where
      by_test : (b : Bool) → AllPast g s (if b then step_to (Sends_close k (kernel_id s)) (close_sent s k x) else None) (issued ++ []) (landed ++ []) (refused ++ [])
      by_test true = nothing_more (close_sent s k x) (order_step (Packet.Close (kernel_id s) (holder x.line) (holder_ep x.line) k) (change_grant s.grants k to_sent) (sound.lawful.traffic.orders s.kernel_next (omega arith)) refl)
      by_test false = tt

  free_any : (k a ep : ℕ) (o : Option Context) → context_of a s.contexts ≡ o → AllPast g s (free_in s k ep o) (issued ++ []) (landed ++ []) (refused ++ [])
  free_any k a ep None e = tt
  free_any k a ep (Some c) e = by_test (has_closing k (endpoint c ep) && not (flies_at ep c))
    where
      by_test : (b : Bool) → AllPast g s (if b then step_to (Frees k) (record s { contexts = put_context (with_endpoint c ep Free) s.contexts; grants = change_grant s.grants k to_closed }) else None) (issued ++ []) (landed ++ []) (refused ++ [])
      by_test true = nothing_more (record s { contexts = put_context (with_endpoint c ep Free) s.contexts; grants = change_grant s.grants k to_closed }) (freed_step c ep (change_grant s.grants k to_closed) (found_own a c s.contexts e))
      by_test false = tt

  closed_any : (k : ℕ) (o : Option Grant) → AllPast g s (closed_in s k o) (issued ++ []) (landed ++ []) (refused ++ [])
  closed_any k None = tt
  closed_any k (Some x) = free_any k (holder x.line) (holder_ep x.line) (context_of (holder x.line) s.contexts) refl

  done_any : (k : ℕ) (o : Option Grant) → AllPast g s (done_in s k o) (issued ++ []) (landed ++ []) (refused ++ [])
  done_any k None = tt
  done_any k (Some x) = by_test (is_closed_grant x.standing)
    where
      by_test : (b : Bool) → AllPast g s (if b then step_to (Finishes k x.is_root) (record s { grants = change_grant s.grants k to_done }) else None) (issued ++ []) (landed ++ []) (refused ++ [])
      by_test true = nothing_more (record s { grants = change_grant s.grants k to_done }) (grants_step (change_grant s.grants k to_done))
      by_test false = tt

  pub step_past : (t : Step) → AllPast g s (ideal_step s t) (issued ++ issued_at g s t) (landed ++ landed_at g s t) (refused ++ refused_at g s t)
  step_past (Step.Issue a c) = issue_any a c
  step_past (Step.Await a ep) = await_any ep (context_of a s.contexts)
  step_past (Step.Land id) = land_any id (flight id s.flights) refl
  step_past (Step.Answered id) = answered_any id (flight id s.flights) refl
  step_past (Step.Make line) = make_for_any line (context_of (holder line) s.contexts)
  step_past (Step.Revoke k) = revoke_any k (revoke_refusal (grant_in s.grants k))
  step_past (Step.Close k) = send_close_any k (grant_in s.grants k)
  step_past (Step.Closed k) = closed_any k (grant_in s.grants k)
  step_past (Step.Done k) = done_any k (grant_in s.grants k)

-- ---- whole runs

pub run_past : (g : ℕ) (s : State) (ts : List Step) → Invariant s → AllFit ts → AllHaveNext s ts → (issued landed : List Message) (refused : List FlightId) → Past g s issued landed refused → Past g (final s ts) (issued ++ collect (issued_at g) s ts) (landed ++ collect (landed_at g) s ts) (refused ++ collect (refused_at g) s ts)
run_past g s [] sound p x issued landed refused h =
    kept_as g s (issued ++ []) landed (landed ++ []) refused (refused ++ []) (sym (append-nil landed)) (sym (append-nil refused)) (
    subst (λ y. Past g s y landed refused) (sym (append-nil issued)) h
    )
run_past g s (t ∷ ts) sound p x issued landed refused h =
    by_next (ideal_step s t) refl (step_past g s sound issued landed refused h t) x.0 x.1 (
    λ n sd e past. run_past g n ts sd p.1 e (issued ++ issued_at g s t) (landed ++ landed_at g s t) (refused ++ refused_at g s t) past
    )
  where
    by_next : (o : Option IdealResult) → ideal_step s t ≡ o → AllPast g s o (issued ++ issued_at g s t) (landed ++ landed_at g s t) (refused ++ refused_at g s t) → HasNext o → AllHaveNext (state_after_steps s o) ts → ((n : State) → Invariant n → AllHaveNext n ts → Past g n (issued ++ issued_at g s t) (landed ++ landed_at g s t) (refused ++ refused_at g s t) → Past g (final n ts) ((issued ++ issued_at g s t) ++ collect (issued_at g) n ts) ((landed ++ landed_at g s t) ++ collect (landed_at g) n ts) ((refused ++ refused_at g s t) ++ collect (refused_at g) n ts)) → Past g (final (state_after_steps s o) ts) (issued ++ (issued_at g s t ++ collect (issued_at g) (state_after_steps s o) ts)) (landed ++ (landed_at g s t ++ collect (landed_at g) (state_after_steps s o) ts)) (refused ++ (refused_at g s t ++ collect (refused_at g) (state_after_steps s o) ts))
    by_next None w q e es rest = absurd e
    by_next (Some n) w q e es rest =
        let r = rest n.state (invariant_step s t n p.0 sound w) es q in
        kept_as g (final n.state ts) _ _ _ _ _ (append_assoc landed (landed_at g s t) (collect (landed_at g) n.state ts)) (append_assoc refused (refused_at g s t) (collect (refused_at g) n.state ts)) (
        subst (λ y. Past g (final n.state ts) y ((landed ++ landed_at g s t) ++ collect (landed_at g) n.state ts) ((refused ++ refused_at g s t) ++ collect (refused_at g) n.state ts)) (append_assoc issued (issued_at g s t) (collect (issued_at g) n.state ts)) r
        )

kept_none : (ms : List Message) → messages_named [] ms ≡ ms
kept_none [] = refl
kept_none (m ∷ ms) = ap (λ y. m ∷ y) (kept_none ms)

-- the flight of a message that flies
flight_of : (g : ℕ) (fs : List Packet) (m : Message) → Distinct fs → flying_of g fs ≡ m ∷ [] → (p : Packet) × (flight (name_of p) fs ≡ Some p) × (sent_in g p ≡ m ∷ [])
flight_of g [] m d e = absurd (cc)
flight_of g (p ∷ fs) m d e = by_sent (single_sent g p) (flight_of g fs m d.1)
  where
    by_sent : (sent_in g p ≡ []) ⊎ ((y : Message) × (sent_in g p ≡ y ∷ [])) → (flying_of g fs ≡ m ∷ [] → (q : Packet) × (flight (name_of q) fs ≡ Some q) × (sent_in g q ≡ m ∷ [])) → (q : Packet) × (flight (name_of q) (p ∷ fs) ≡ Some q) × (sent_in g q ≡ m ∷ [])
    by_sent (inr z) ih =
        let y : z.0 ∷ flying_of g fs ≡ m ∷ [] = sym (ap (λ u. u ++ flying_of g fs) z.1) ∙ e in
        (p, grind (arith, same_name-itself (name_of p)), z.1 ∙ ap (λ u. u ∷ []) (head_is z.0 (flying_of g fs) y))
      where
        head_is : (a : Message) (as' : List Message) → a ∷ as' ≡ m ∷ [] → a ≡ m
        head_is a as' q = cc
    by_sent (inl z) ih =
        let r = ih (sym (ap (λ u. u ++ flying_of g fs) z) ∙ e) in
        (r.0, later r.0 r.1, r.2)
      where
        later : (q : Packet) → flight (name_of q) fs ≡ Some q → flight (name_of q) (p ∷ fs) ≡ Some q
        later q f = by_name (same_name (name_of q) (name_of p)) refl
          where
            by_name : (b : Bool) → same_name (name_of q) (name_of p) ≡ b → (if b then Some p else flight (name_of q) fs) ≡ Some q
            by_name false w = f
            by_name true w = let n : name_of q ≡ name_of p = same_name-is (name_of q) (name_of p) w in let u : flight (name_of q) fs ≡ None = subst (λ v. flight v fs ≡ None) (sym n) d.0 in absurd (cc)

-- the law, in the words of the definitions
pub landing_law : (g : ℕ) (s : State) (issued landed : List Message) (refused : List FlightId) → Invariant s → Past g s issued landed refused → landed ≡ messages_named (names_of (flying_of g s.flights)) (messages_named refused issued)
landing_law g s issued landed refused sound h = by_flying (flying_of g s.flights) refl (single_flying g s sound)
  where
    by_flying : (fl : List Message) → flying_of g s.flights ≡ fl → Single fl → landed ≡ messages_named (names_of fl) (messages_named refused issued)
    by_flying [] e si = law_of_order issued landed [] refused (kept_none landed) refl (h.order ∙ ap (λ y. landed ++ y) e)
    by_flying (m ∷ []) e si =
        let r = flight_of g s.flights m sound.lawful.placed.distinct e in
        law_of_order issued landed (m ∷ []) refused (h.landed_apart (name_of r.0) r.0 m r.1 r.2) (ap (λ b. if not (b || false) then m ∷ [] else []) (same_name-itself (message_id m))) (h.order ∙ ap (λ y. landed ++ y) e)
    by_flying (m ∷ x ∷ fl) e si = absurd (two si)
      where
        two : Single (m ∷ x ∷ fl) → ⊥
        two q = elim q [ ]

-- nothing happened yet
past_none : (g : ℕ) (s : State) → s.flights ≡ [] → Past g s [] [] []
past_none g s q = record {
  order = ap (flying_of g) (sym q);
  refused_old = λ m z. refl;
  landed_old = λ m z. refl;
  landed_apart = λ id p m f e. refl;
}

pub landing_order : LandingOrder
landing_order setup steps g v p x =
    let s = opening setup.memory setup.lines in
    let past = run_past g s steps (invariant_opening setup v) p x [] [] [] (past_none g s (nothing_flies setup.memory setup.lines)) in
    landing_law g (final s steps) (collect (issued_at g) s steps) (collect (landed_at g) s steps) (collect (refused_at g) s steps) (invariant_ever setup steps v p) past
