-- The messages of a grant that were fetched are the first of those that landed.
use Rattle.std.proofs.Common.{◌≡◌, ℕ, ◌+◌, ◌-◌, Bool, true, false, List, [], ◌∷◌, ◌++◌, length, get_or, set, Some, None, refl, sym, subst, ◌∙◌, ap, arith, inl, inr, append_assoc}
use Rattle.std.specs.Prelude.{Option, if◌then◌else◌, not, ◌&&◌, ◌⊎◌, slice_get}
use Rattle.std.proofs.lemmas.List.{append-nil}
use Rattle.m3_base.specs.declared.ids.FlightId.{FlightId}
use Rattle.m3_base.specs.declared.message.Message.{Message}
use Rattle.m3_base.specs.declared.packet.Packet.{Packet}
use Rattle.m3_base.specs.declared.packet.Fresh.{Fresh}
use Rattle.m3_base.specs.declared.order.GrantLine.{GrantLine}
use Rattle.m3_base.specs.declared.command.Answer.{Answer}
use Rattle.m3_base.specs.declared.command.Command.{Command}
use Rattle.m3_base.specs.declared.event.No.{No}
use Rattle.m3_base.specs.declared.step.Step.{Step}
use Rattle.m3_base.specs.Ideal.Flights.{flight, change_flight}
use Rattle.m3_base.specs.Ideal.Context.{Flying, Free, Context, endpoint, with_endpoint, new_endpoint, new_context}
use Rattle.m3_base.specs.Ideal.Issue.{Issued, issue}
use Rattle.m3_base.specs.Ideal.Landing.{grant_of, with_credit, land_by, land_refusal, context_after_answer, flying_at, closed_at, has_live, has_closing, flies_at, bytes_at, written_at}
use Rattle.m3_base.specs.Ideal.State.{Grant, State, context_of, put_context, same_act, grant_in, parent_of, parent_in, undone, holder, holder_ep}
use Rattle.m3_base.specs.Ideal.GrantRules.{form, with_grant_made, make_refusal, kernel_id, after_revoke, with_root_closing, closing_where, marks_under, or_false, to_closing, revoke_refusal, may_close, close_sent, change_grant, is_closed_grant, to_root, to_sent, to_done}
use Rattle.m3_base.specs.Ideal.Step.{IdealResult, ideal_step, with_packet, Starts_closing, Closes_endpoint, Sends_close, Frees, Finishes, step_to, issue_in, issued_in, await_in, message_in, credit_in, install_in, close_in, land_in, settle_in, answer_in, answered_in, make_in, make_for, revoke_in, send_close_in, free_in, closed_in, done_in, after_ending}
use Rattle.m3_base.specs.Ideal.MessageTraces.{only_of, shown_by, fetched_by, fetched_from, fetched_at, landed_at, landed_in, if_landed, verdict, collect, final, state_after_steps}
use Rattle.m3_base.specs.Ideal.Opening.{opening, with_line, with_lines, state_with_grant, contexts_with_record}
use Rattle.m3_base.specs.declared.setup_line.SetupLine.{SetupLine}
use Rattle.m3_base.specs.Setup.Rules.{SetupValue, IsValid}
use Rattle.m3_base.specs.Setup.Obligations.{LineIsOk, LinesAreOk}
use Rattle.m3_base.proofs.SetupObligations.{valid_obeys}
use Rattle.m3_laws.proofs.invariant.step.OpeningHolds.{find_inserted, free_at}
use Rattle.m3_laws.specs.Laws.{AllFit}
use Rattle.m3_laws.specs.MessageOrder.{HasNext, AllHaveNext, FetchingOrder}
use Rattle.m3_laws.specs.Invariant.{Invariant}
use Rattle.m3_laws.proofs.credits.Land.{after_landing}
use Rattle.m3_laws.proofs.invariant.step.LookUps.{found_after}
use Rattle.m3_laws.proofs.credits.Counting.{at_set}
use Rattle.m3_laws.proofs.invariant.records.ClosingRecords.{to_closed}
use Rattle.m3_laws.proofs.grants.GrantList.{at_one}
use Rattle.m3_laws.proofs.grants.OrdersKeepGrants.{closing_changes, one_changes}
use Rattle.m3_laws.proofs.invariant.step.Invariant.{invariant_opening, invariant_step}
use Rattle.m3_laws.proofs.order.FetchOrderStep.{sent_of, unread_of, Shown, same_set, same_credited}
use Rattle.m3_laws.proofs.order.FetchOrderPackets.{opened_unread, issue_shown, message_shown, AllShown, nil_both, put_shown, ended_shown, install_shown, closed_same, answered_shown, served_shown}
use Rattle.m3_laws.proofs.order.FetchOrderGrants.{grants_shown, close_shown, made_shown}
use Rattle.m3_base.proofs.Activities.{found_own}

-- ---- any step

module _ (g : ℕ) (s : State) (law : Invariant s) (fetched landed : List Message) (old : Shown g s fetched landed) where
  none_more : (n : State) → Shown g n fetched landed → Shown g n (fetched ++ []) (landed ++ [])
  none_more n = nil_both g n fetched landed

  landed_more : (n : State) (ms : List Message) → Shown g n fetched (landed ++ ms) → Shown g n (fetched ++ []) (landed ++ ms)
  landed_more n ms h = subst (λ y. Shown g n y (landed ++ ms)) (sym (append-nil fetched)) h

  fetched_more : (n : State) (ms : List Message) → Shown g n (fetched ++ ms) landed → Shown g n (fetched ++ ms) (landed ++ [])
  fetched_more n ms h = subst (λ y. Shown g n (fetched ++ ms) y) (sym (append-nil landed)) h

  abbrev After : Option IdealResult → Type 0
  After o = (n : IdealResult) → o ≡ Some n → Invariant n.state

  issue_step : (a : ℕ) (k : Command) (o : Option Context) → context_of a s.contexts ≡ o → After (issue_in s o k) → AllShown g (issue_in s o k) (fetched ++ fetched_from g o k) (landed ++ [])
  issue_step a k None e after = tt
  issue_step a k (Some c) e after = by_issue (issue c k) refl after
    where
      by_issue : (o : Option Issued) → issue c k ≡ o → After (issued_in s o) → AllShown g (issued_in s o) (fetched ++ fetched_by g o) (landed ++ [])
      by_issue None w after = tt
      by_issue (Some i) w after = fetched_more (record s { contexts = put_context i.context s.contexts; flights = with_packet i.packet s.flights }) (shown_by g i.told) (issue_shown g s law fetched landed old a k c i e w (after _ refl))

  await_step : (ep : ℕ) (o : Option Context) → AllShown g (await_in s o ep) (fetched ++ []) (landed ++ [])
  await_step ep None = tt
  await_step ep (Some c) = none_more s old

  message_step : (id : FlightId) (to ep h : ℕ) (m : Message) → flight id s.flights ≡ Some (Packet.Message to ep h m) → (o : Option Context) → context_of to s.contexts ≡ o → After (message_in s id ep h m o) → AllShown g (message_in s id ep h m o) (fetched ++ []) (landed ++ if_landed (verdict ep h m o) (only_of g m))
  message_step id to ep h m find None e after = tt
  message_step id to ep h m find (Some x) e after = landed_more (after_landing s (land_by ep m x (land_refusal h m (endpoint x ep)))) (if_landed (land_refusal h m (endpoint x ep)) (only_of g m)) (message_shown g s law fetched landed old id to ep h m x e find (land_refusal h m (endpoint x ep)) refl (after _ refl))

  credit_step : (id : FlightId) (to h : ℕ) (o : Option Context) → context_of to s.contexts ≡ o → AllShown g (credit_in s id h o) (fetched ++ []) (landed ++ [])
  credit_step id to h None e = tt
  credit_step id to h (Some x) e = none_more (after_ending s id (with_credit h x)) (ended_shown g s law fetched landed old id to x (with_credit h x) e refl (same_credited g h x.endpoints))

  install_step : (id y : FlightId) (to ep : ℕ) (f : Fresh) → flight id s.flights ≡ Some (Packet.Install y to ep f) → (o : Option Context) → context_of to s.contexts ≡ o → AllShown g (install_in s id ep f o) (fetched ++ []) (landed ++ [])
  install_step id y to ep f find None e = tt
  install_step id y to ep f find (Some x) e = none_more (after_ending s id (with_endpoint x ep (new_endpoint f))) (install_shown g s law fetched landed old id y to ep f x e find)

  close_step : (id : FlightId) (to ep h : ℕ) (o : Option Context) → context_of to s.contexts ≡ o → AllShown g (close_in s id ep h o) (fetched ++ []) (landed ++ [])
  close_step id to ep h None e = tt
  close_step id to ep h (Some x) e = by_test (has_live h (endpoint x ep))
    where
      by_test : (b : Bool) → AllShown g (if b then step_to (if flies_at ep x then Starts_closing id h else Closes_endpoint id h) (after_ending s id (with_endpoint x ep (closed_at (endpoint x ep)))) else None) (fetched ++ []) (landed ++ [])
      by_test true = none_more (after_ending s id (with_endpoint x ep (closed_at (endpoint x ep)))) (ended_shown g s law fetched landed old id to x (with_endpoint x ep (closed_at (endpoint x ep))) e refl (same_set g x.endpoints ep (closed_at (endpoint x ep)) (closed_same g s law fetched landed old (endpoint x ep))))
      by_test false = tt

  land_step : (id : FlightId) (o : Option Packet) → flight id s.flights ≡ o → After (land_in s id o) → AllShown g (land_in s id o) (fetched ++ []) (landed ++ landed_in g s o)
  land_step id None e after = tt
  land_step id (Some (Packet.Message to ep h m)) e after = message_step id to ep h m e (context_of to s.contexts) refl after
  land_step id (Some (Packet.Credit y to h)) e after = credit_step id to h (context_of to s.contexts) refl
  land_step id (Some (Packet.Read y h place buffer)) e after = none_more (record s { flights = change_flight (Packet.Answer id (Answer.Bytes (bytes_at place (length buffer) s.memory))) s.flights }) (served_shown g s law fetched landed old s.memory (Packet.Read y h place buffer) (Packet.Answer id (Answer.Bytes (bytes_at place (length buffer) s.memory))) e tt)
  land_step id (Some (Packet.Write y h place payload)) e after = none_more (record s { memory = written_at place payload s.memory; flights = change_flight (Packet.Answer id Answer.Written) s.flights }) (served_shown g s law fetched landed old (written_at place payload s.memory) (Packet.Write y h place payload) (Packet.Answer id Answer.Written) e tt)
  land_step id (Some (Packet.Answer y answer)) e after = tt
  land_step id (Some (Packet.Install y to ep f)) e after = install_step id y to ep f e (context_of to s.contexts) refl
  land_step id (Some (Packet.Close y to ep h)) e after = close_step id to ep h (context_of to s.contexts) refl

  settle_step : (id : FlightId) (answer : Answer) (c : Context) → context_of id.issuer s.contexts ≡ Some c → (o : Option Flying) → AllShown g (settle_in s id answer c o) (fetched ++ []) (landed ++ [])
  settle_step id answer c e None = tt
  settle_step id answer c e (Some f) = none_more (after_ending s id (context_after_answer f answer c)) (answered_shown g s law fetched landed old id id.issuer c f answer e)

  answer_step : (id : FlightId) (answer : Answer) (o : Option Context) → context_of id.issuer s.contexts ≡ o → AllShown g (answer_in s id answer o) (fetched ++ []) (landed ++ [])
  answer_step id answer None e = tt
  answer_step id answer (Some c) e = settle_step id answer c e (flying_at id.number c.flying)

  answered_step : (id : FlightId) (o : Option Packet) → AllShown g (answered_in s id o) (fetched ++ []) (landed ++ [])
  answered_step id (Some (Packet.Answer y answer)) = answer_step id answer (context_of id.issuer s.contexts) refl
  answered_step id o = tt

  make_step : (line : GrantLine) (why : Option No) (o : Option Fresh) → form (length s.grants + 1) line (undone (parent_in s.grants (parent_of line))) ≡ o → After (make_in s line why o) → AllShown g (make_in s line why o) (fetched ++ []) (landed ++ [])
  make_step line (Some why) o e after = none_more s old
  make_step line None None e after = tt
  make_step line None (Some f) e after = none_more (with_grant_made s line f) (made_shown g s line f fetched landed law (after _ refl) e old)

  make_for_step : (line : GrantLine) (o : Option Context) → After (make_for s line o) → AllShown g (make_for s line o) (fetched ++ []) (landed ++ [])
  make_for_step line None after = tt
  make_for_step line (Some x) after = make_step line (make_refusal (length s.memory) s.grants line) (form (length s.grants + 1) line (undone (parent_in s.grants (parent_of line)))) refl after

  revoke_step : (h : ℕ) (why : Option No) → AllShown g (revoke_in s h why) (fetched ++ []) (landed ++ [])
  revoke_step h (Some why) = none_more s old
  revoke_step h None =
      let bs = marks_under h 1 [] s.grants in
      let hs = closing_where bs s.grants in
      none_more (record s { grants = after_revoke s.grants h }) (grants_shown g (record s { grants = hs }) (with_root_closing hs h) (at_one h to_root) fetched landed (one_changes hs h to_root (λ x. (refl, refl))) (grants_shown g s hs (λ k x. to_closing (or_false (slice_get bs (k - 1))) x) fetched landed (closing_changes bs s.grants) old))

  send_close_step : (h : ℕ) (o : Option Grant) → AllShown g (send_close_in s h o) (fetched ++ []) (landed ++ [])
  send_close_step h None = tt
  send_close_step h (Some x) = by_test (may_close s.grants h (Some x))
    where
      by_test : (b : Bool) → AllShown g (if b then step_to (Sends_close h (kernel_id s)) (close_sent s h x) else None) (fetched ++ []) (landed ++ [])
      by_test true = none_more (close_sent s h x) (close_shown g (record s { grants = change_grant s.grants h to_sent }) (Packet.Close (kernel_id s) (holder x.line) (holder_ep x.line) h) (holder x.line) (holder_ep x.line) h fetched landed refl (law.lawful.traffic.orders s.kernel_next (omega arith)) (grants_shown g s (change_grant s.grants h to_sent) (at_one h to_sent) fetched landed (one_changes s.grants h to_sent (λ y. (refl, refl))) old))
      by_test false = tt

  free_step : (h a ep : ℕ) (o : Option Context) → context_of a s.contexts ≡ o → AllShown g (free_in s h ep o) (fetched ++ []) (landed ++ [])
  free_step h a ep None e = tt
  free_step h a ep (Some c) e = by_test (has_closing h (endpoint c ep) && not (flies_at ep c))
    where
      absent : (k : ℕ) → grant_of Free ≡ Some k → (grant_of (endpoint c ep) ≡ Some k) × (sent_of g (unread_of (endpoint c ep)) ≡ sent_of g (unread_of Free))
      absent k w = absurd (cc)

      by_test : (b : Bool) → AllShown g (if b then step_to (Frees h) (record s { contexts = put_context (with_endpoint c ep Free) s.contexts; grants = change_grant s.grants h to_closed }) else None) (fetched ++ []) (landed ++ [])
      by_test true = none_more (record s { contexts = put_context (with_endpoint c ep Free) s.contexts; grants = change_grant s.grants h to_closed }) (grants_shown g (record s { contexts = put_context (with_endpoint c ep Free) s.contexts }) (change_grant s.grants h to_closed) (at_one h to_closed) fetched landed (one_changes s.grants h to_closed (λ y. (refl, refl))) (put_shown g s law fetched landed old s.memory c (with_endpoint c ep Free) s.flights (found_own a c s.contexts e) (same_set g c.endpoints ep Free absent) (λ id x to i f w. w)))
      by_test false = tt

  closed_step : (h : ℕ) (o : Option Grant) → AllShown g (closed_in s h o) (fetched ++ []) (landed ++ [])
  closed_step h None = tt
  closed_step h (Some x) = free_step h (holder x.line) (holder_ep x.line) (context_of (holder x.line) s.contexts) refl

  done_step : (h : ℕ) (o : Option Grant) → AllShown g (done_in s h o) (fetched ++ []) (landed ++ [])
  done_step h None = tt
  done_step h (Some x) = by_test (is_closed_grant x.standing)
    where
      by_test : (b : Bool) → AllShown g (if b then step_to (Finishes h x.is_root) (record s { grants = change_grant s.grants h to_done }) else None) (fetched ++ []) (landed ++ [])
      by_test true = none_more (record s { grants = change_grant s.grants h to_done }) (grants_shown g s (change_grant s.grants h to_done) (at_one h to_done) fetched landed (one_changes s.grants h to_done (λ y. (refl, refl))) old)
      by_test false = tt

  pub step_shown : (t : Step) → After (ideal_step s t) → AllShown g (ideal_step s t) (fetched ++ fetched_at g s t) (landed ++ landed_at g s t)
  step_shown (Step.Issue a c) after = issue_step a c (context_of a s.contexts) refl after
  step_shown (Step.Await a ep) after = await_step ep (context_of a s.contexts)
  step_shown (Step.Land id) after = land_step id (flight id s.flights) refl after
  step_shown (Step.Answered id) after = answered_step id (flight id s.flights)
  step_shown (Step.Make line) after = make_for_step line (context_of (holder line) s.contexts) after
  step_shown (Step.Revoke h) after = revoke_step h (revoke_refusal (grant_in s.grants h))
  step_shown (Step.Close h) after = send_close_step h (grant_in s.grants h)
  step_shown (Step.Closed h) after = closed_step h (grant_in s.grants h)
  step_shown (Step.Done h) after = done_step h (grant_in s.grants h)

-- ---- whole runs

pub run_shown : (g : ℕ) (s : State) (ts : List Step) → Invariant s → AllFit ts → AllHaveNext s ts → (fetched landed : List Message) → Shown g s fetched landed → Shown g (final s ts) (fetched ++ collect (fetched_at g) s ts) (landed ++ collect (landed_at g) s ts)
run_shown g s [] law p x fetched landed h = nil_both g s fetched landed h
run_shown g s (t ∷ ts) law p x fetched landed h =
    by_next (ideal_step s t) refl (step_shown g s law fetched landed h t (λ n e. invariant_step s t n p.0 law e)) x.0 x.1 (λ n sd e k. run_shown g n ts sd p.1 e (fetched ++ fetched_at g s t) (landed ++ landed_at g s t) k)
  where
    by_next : (o : Option IdealResult) → ideal_step s t ≡ o → AllShown g o (fetched ++ fetched_at g s t) (landed ++ landed_at g s t) → HasNext o → AllHaveNext (state_after_steps s o) ts → ((n : State) → Invariant n → AllHaveNext n ts → Shown g n (fetched ++ fetched_at g s t) (landed ++ landed_at g s t) → Shown g (final n ts) ((fetched ++ fetched_at g s t) ++ collect (fetched_at g) n ts) ((landed ++ landed_at g s t) ++ collect (landed_at g) n ts)) → Shown g (final (state_after_steps s o) ts) (fetched ++ (fetched_at g s t ++ collect (fetched_at g) (state_after_steps s o) ts)) (landed ++ (landed_at g s t ++ collect (landed_at g) (state_after_steps s o) ts))
    by_next None w q e es rest = absurd e
    by_next (Some n) w q e es rest =
        subst (λ y. Shown g (final n.state ts) y (landed ++ (landed_at g s t ++ collect (landed_at g) n.state ts))) (append_assoc fetched (fetched_at g s t) (collect (fetched_at g) n.state ts)) (
        subst (λ y. Shown g (final n.state ts) ((fetched ++ fetched_at g s t) ++ collect (fetched_at g) n.state ts) y) (append_assoc landed (landed_at g s t) (collect (landed_at g) n.state ts)) (rest n.state (invariant_step s t n p.0 law w) es q)
        )

-- ---- opening

abbrev pub NoneUnread : List Context → Type 0
NoneUnread cs = (a ep : ℕ) (c : Context) → context_of a cs ≡ Some c → unread_of (endpoint c ep) ≡ []

installed_unread : (ep : ℕ) (f : Fresh) (a : ℕ) (cs : List Context) (o : Option Context) → context_of a cs ≡ o → NoneUnread cs → NoneUnread (contexts_with_record ep f cs o)
installed_unread ep f a cs None e n b i x w = n b i x w
installed_unread ep f a cs (Some c) e n b i x w = by_found (found_after b x c (with_endpoint c ep (new_endpoint f)) cs (found_own a c cs e) w)
  where
    by_place : (get_or (set c.endpoints ep (new_endpoint f)) i Free ≡ get_or c.endpoints i Free) ⊎ ((i ≡ ep) × (get_or (set c.endpoints ep (new_endpoint f)) i Free ≡ new_endpoint f)) → unread_of (endpoint (with_endpoint c ep (new_endpoint f)) i) ≡ []
    by_place (inl q) = ap unread_of q ∙ n a i c e
    by_place (inr q) = ap unread_of q.1 ∙ opened_unread f

    by_found : ((b ≡ c.act) × (x ≡ with_endpoint c ep (new_endpoint f))) ⊎ ((same_act b c.act ≡ false) × (context_of b cs ≡ Some x)) → unread_of (endpoint x i) ≡ []
    by_found (inl q) = ap (λ z. unread_of (endpoint z i)) q.1 ∙ by_place (at_set c.endpoints ep i (new_endpoint f))
    by_found (inr q) = n b i x q.1

granted_unread : (s : State) (line : GrantLine) (o : Option Fresh) → NoneUnread s.contexts → NoneUnread (state_with_grant s line o).contexts
granted_unread s line None n = n
granted_unread s line (Some f) n = installed_unread (holder_ep line) f (holder line) s.contexts (context_of (holder line) s.contexts) refl n

line_unread : (s : State) (l : SetupLine) → LineIsOk s l → NoneUnread s.contexts → NoneUnread (with_line s l).contexts
line_unread s (SetupLine.Act a t) o n b i x w = by_found (find_inserted b (new_context a) s.contexts o.0 x w)
  where
    by_found : ((b ≡ a) × (x ≡ new_context a)) ⊎ (context_of b s.contexts ≡ Some x) → unread_of (endpoint x i) ≡ []
    by_found (inl q) = ap (λ z. unread_of (endpoint z i)) q.1 ∙ ap unread_of (free_at 16 i)
    by_found (inr q) = n b i x q
line_unread s (SetupLine.Grant line) o n b i x w = granted_unread s line (form (length s.grants + 1) line (parent_in s.grants (parent_of line))) n b i x w
line_unread s (SetupLine.Quantum q) o n b i x w = n b i x w
line_unread s (SetupLine.Files k) o n b i x w = n b i x w
line_unread s (SetupLine.Item a c) o n b i x w = n b i x w
line_unread s (SetupLine.AwaitItem a ep) o n b i x w = n b i x w
line_unread s (SetupLine.Writer a m d e chunk ring bytes) o n b i x w = n b i x w
line_unread s (SetupLine.Reader a m d chunk ring fuel) o n b i x w = n b i x w
line_unread s (SetupLine.Boxed a logic fuel) o n b i x w = n b i x w

lines_unread : (s : State) (ls : List SetupLine) → LinesAreOk s ls → NoneUnread s.contexts → NoneUnread (with_lines s ls).contexts
lines_unread s [] o n = n
lines_unread s (l ∷ ls) o n = lines_unread (with_line s l) ls o.1 (line_unread s l o.0 n)

pub opening_shown : (g : ℕ) (v : SetupValue) → IsValid v → Shown g (opening v.memory v.lines) [] []
opening_shown g v ok = record {
  at = λ a ep h c at e p. ap (sent_of g) (lines_unread (opening v.memory []) v.lines (valid_obeys v ok) (λ a ep c e. absurd (cc)) a ep c at);
  coming = λ id x to ep f e p. refl;
  unmade = λ e. refl;
  prefix = ([], refl);
}

pub fetching_order : FetchingOrder
fetching_order setup steps g v p x = (run_shown g (opening setup.memory setup.lines) steps (invariant_opening setup v) p x [] [] (opening_shown g setup v)).prefix
