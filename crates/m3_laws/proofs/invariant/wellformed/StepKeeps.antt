-- Each step keeps a state well-formed, and each valid setup opens with one.
use Rattle.std.proofs.Common.{◌≡◌, ℕ, ◌+◌, ◌≤◌, Bool, true, false, List, [], ◌∷◌, length, replicate, Some, None, refl, sym, subst, ◌∙◌, ap, arith, inl, inr}
use Rattle.std.specs.Prelude.{Option, if◌then◌else◌, ◌⊎◌, ◌&&◌, ◌||◌, not, nat_lt, nat_le, is_none, drop}
use Rattle.std.proofs.lemmas.Bool.Decides.{nat_tests}
use Rattle.std.proofs.lemmas.List.{length-replicate}
use Rattle.m3_base.specs.declared.ids.FlightId.{FlightId}
use Rattle.m3_base.specs.declared.message.Message.{Message}
use Rattle.m3_base.specs.declared.packet.Packet.{Packet}
use Rattle.m3_base.specs.declared.packet.Perm.{Perm}
use Rattle.m3_base.specs.declared.packet.Fresh.{Fresh}
use Rattle.m3_base.specs.declared.order.GrantLine.{GrantLine}
use Rattle.m3_base.specs.declared.setup_line.SetupLine.{SetupLine}
use Rattle.m3_base.specs.declared.command.Answer.{Answer}
use Rattle.m3_base.specs.declared.command.Command.{Command}
use Rattle.m3_base.specs.declared.step.Step.{Step}
use Rattle.m3_base.specs.declared.event.No.{No}
use Rattle.m3_base.specs.Ideal.Flights.{flight, change_flight}
use Rattle.m3_base.specs.Ideal.Context.{Flying, Free, Context, endpoint, with_endpoint, new_endpoint, new_context}
use Rattle.m3_base.specs.Ideal.Issue.{Issued, issue}
use Rattle.m3_base.specs.Ideal.Landing.{land_refusal, flying_at, closed_at, has_live, has_closing, flies_at, bytes_at, written_at}
use Rattle.m3_base.specs.Ideal.State.{Grant, State, context_of, put_context, new_context_in, grant_in, holder, holder_ep, parent_of, parent_in, undone}
use Rattle.m3_base.specs.Ideal.GrantRules.{form, make_refusal, may_close, close_sent, change_grant, kernel_id, is_outside, fresh_of, is_closed_grant, revoke_refusal, to_done}
use Rattle.m3_base.specs.Ideal.Step.{Starts_closing, Closes_endpoint, Sends_close, Frees, Finishes, IdealResult, ideal_step, issue_in, issued_in, await_in, message_in, credit_in, install_in, close_in, land_in, settle_in, answer_in, answered_in, make_in, make_for, revoke_in, send_close_in, closed_in, free_in, done_in, step_to, after_ending}
use Rattle.m3_base.specs.Ideal.Opening.{opening, with_line, with_lines, state_with_grant, contexts_with_record}
use Rattle.m3_base.specs.Setup.Rules.{Facts, SetupValue, IsValid, AllKept, InRange, no_lines, facts_with_line, breaks_rule}
use Rattle.m3_base.specs.Limits.{is_in_limits}
use Rattle.m3_base.proofs.SetupValidity.{grant_allowed}
use Rattle.m3_base.proofs.SetupObligations.{Ties, obeys, ties, tied_at_first}
use Rattle.m3_base.proofs.FlightNames.{name_found}
use Rattle.m3_laws.specs.GrantInvariant.{GrantInvariant}
use Rattle.m3_laws.proofs.invariant.records.RecordsOfGrants.{install_free}
use Rattle.m3_laws.proofs.invariant.records.ClosingRecords.{to_closed}
use Rattle.m3_laws.proofs.invariant.step.OpeningHolds.{find_inserted, free_at, no_grant}
use Rattle.m3_laws.proofs.invariant.wellformed.ChangeKeeps.{proper_put}
use Rattle.m3_laws.proofs.invariant.wellformed.LandKeeps.{issue_proper, uses_stay_credit, proper_ended, message_proper, proper_served, covered_inside, take_short}
use Rattle.m3_base.proofs.MemorySize.{length-written_at}
use Rattle.m3_laws.proofs.invariant.wellformed.OrdersKeep.{uses_stay_install, uses_stay_close, answer_proper, revoke_proper, done_proper, closed_proper, sent_proper, made_proper, line_proper, proper_undone, proper_grown, set_tidy, opened_tidy}
use Rattle.m3_laws.specs.WellFormed.{CommandUse, use_of, can_get, uses_read, uses_write, has_valid_queues, WellFormedContext, WellFormed}
use Rattle.m3_laws.specs.Laws.{Fits}
use Rattle.m3_base.proofs.Activities.{found_own}
use Rattle.m3_base.proofs.GrantsByNumber.{memory-state_with_grant}

abbrev pub AllProper : Option IdealResult → Type 0
AllProper None = Unit {0}
AllProper (Some n) = WellFormed n.state

pub outside_no : (memory : ℕ) (gs : List Grant) (line : GrantLine) → make_refusal memory gs line ≡ None → is_outside memory line (fresh_of (undone (parent_in gs (parent_of line)))) ≡ false
outside_no memory gs line e = grind (arith, e)

room_for : (memory : ℕ) (gs : List Grant) (line : GrantLine) → make_refusal memory gs line ≡ None → nat_le 4096 (length gs) ≡ false
room_for memory gs line e = grind (arith, e)

module _ (s : State) (law : GrantInvariant s) (ok : WellFormed s) where
  issue_step : (a : ℕ) (k : Command) (o : Option Context) → context_of a s.contexts ≡ o → AllProper (issue_in s o k)
  issue_step a k None e = tt
  issue_step a k (Some c) e = by_issue (issue c k) refl
    where
      by_issue : (o : Option Issued) → issue c k ≡ o → AllProper (issued_in s o)
      by_issue None w = tt
      by_issue (Some i) w = issue_proper s a k c i law ok e w

  await_step : (ep : ℕ) (o : Option Context) → AllProper (await_in s o ep)
  await_step ep None = tt
  await_step ep (Some c) = ok

  message_step : (id : FlightId) (to ep h : ℕ) (m : Message) → flight id s.flights ≡ Some (Packet.Message to ep h m) → (o : Option Context) → context_of to s.contexts ≡ o → AllProper (message_in s id ep h m o)
  message_step id to ep h m find None e = tt
  message_step id to ep h m find (Some x) e = message_proper s law ok id to ep h m x e find (land_refusal h m (endpoint x ep)) refl

  credit_step : (id : FlightId) (to h : ℕ) (o : Option Context) → context_of to s.contexts ≡ o → AllProper (credit_in s id h o)
  credit_step id to h None e = tt
  credit_step id to h (Some x) e = proper_ended s to x _ id law ok e (uses_stay_credit h x (ok.contexts to x e))

  install_step : (id y : FlightId) (to ep : ℕ) (f : Fresh) → flight id s.flights ≡ Some (Packet.Install y to ep f) → (o : Option Context) → context_of to s.contexts ≡ o → AllProper (install_in s id ep f o)
  install_step id y to ep f find None e = tt
  install_step id y to ep f find (Some x) e = proper_ended s to x _ id law ok e (uses_stay_install ep f x (install_free s law.placed id y to ep f x find e) (law.traffic.contexts to x e).stands (ok.contexts to x e))

  close_step : (id : FlightId) (to ep g : ℕ) (o : Option Context) → context_of to s.contexts ≡ o → AllProper (close_in s id ep g o)
  close_step id to ep g None e = tt
  close_step id to ep g (Some x) e = by_test (has_live g (endpoint x ep))
    where
      by_test : (b : Bool) → AllProper (if b then step_to (if flies_at ep x then Starts_closing id g else Closes_endpoint id g) (after_ending s id (with_endpoint x ep (closed_at (endpoint x ep)))) else None)
      by_test true = proper_ended s to x _ id law ok e (uses_stay_close ep x (ok.contexts to x e))
      by_test false = tt

  gets_bytes : (bytes : List ℕ) (h : ℕ) (u : Option CommandUse) → uses_read h u ≡ true → length bytes ≤ 4096 → can_get (Answer.Bytes bytes) u ≡ true
  gets_bytes bytes h None r l = absurd (cc)
  gets_bytes bytes h (Some u) r l = grind (arith, nat_tests, r, l)

  gets_written : (h : ℕ) (u : Option CommandUse) → uses_write h u ≡ true → can_get Answer.Written u ≡ true
  gets_written h None r = absurd (cc)
  gets_written h (Some u) r = grind (arith, r)

  read_step : (id y : FlightId) (h place : ℕ) (buffer : List ℕ) → flight id s.flights ≡ Some (Packet.Read y h place buffer) → WellFormed (record s { flights = change_flight (Packet.Answer id (Answer.Bytes (bytes_at place (length buffer) s.memory))) s.flights })
  read_step id y h place buffer find =
      let old = ok.packets id (Packet.Read y h place buffer) find in
      let n : id ≡ y = name_found id (Packet.Read y h place buffer) s.flights find in
      let bytes : List ℕ = bytes_at place (length buffer) s.memory in
      let numbers : (nat_lt 0 y.number && nat_le (length buffer) 4096) ≡ true = old.numbers in
      let less : length bytes ≤ length buffer = take_short (length buffer) (drop place s.memory) in
      let whole : length bytes ≤ 4096 = grind (arith, nat_tests, numbers, less) in
      let reads : uses_read h (use_of s.contexts id) ≡ true = subst (λ z. uses_read h (use_of s.contexts z) ≡ true) (sym n) old.command in
      proper_served s s.memory (Packet.Read y h place buffer) (Packet.Answer id (Answer.Bytes bytes)) ok refl find (record { numbers = subst (λ z. nat_lt 0 z.number ≡ true) (sym n) (grind (arith, numbers)); command = gets_bytes bytes h (use_of s.contexts id) reads whole; entitled = refl })

  write_step : (id y : FlightId) (h place : ℕ) (payload : List ℕ) → flight id s.flights ≡ Some (Packet.Write y h place payload) → WellFormed (record s { memory = written_at place payload s.memory; flights = change_flight (Packet.Answer id Answer.Written) s.flights })
  write_step id y h place payload find =
      let old = ok.packets id (Packet.Write y h place payload) find in
      let n : id ≡ y = name_found id (Packet.Write y h place payload) s.flights find in
      let numbers : (nat_lt 0 y.number && nat_le (length payload) 4096) ≡ true = old.numbers in
      let inside = covered_inside s ok h place (length payload) Perm.W old.entitled in
      let writes : uses_write h (use_of s.contexts id) ≡ true = subst (λ z. uses_write h (use_of s.contexts z) ≡ true) (sym n) old.command in
      proper_served s (written_at place payload s.memory) (Packet.Write y h place payload) (Packet.Answer id Answer.Written) ok (length-written_at place payload s.memory inside) find (record { numbers = subst (λ z. nat_lt 0 z.number ≡ true) (sym n) (grind (arith, numbers)); command = gets_written h (use_of s.contexts id) writes; entitled = refl })

  land_step : (id : FlightId) (o : Option Packet) → flight id s.flights ≡ o → AllProper (land_in s id o)
  land_step id None e = tt
  land_step id (Some (Packet.Message to ep h m)) e = message_step id to ep h m e (context_of to s.contexts) refl
  land_step id (Some (Packet.Credit y to h)) e = credit_step id to h (context_of to s.contexts) refl
  land_step id (Some (Packet.Read y h place buffer)) e = read_step id y h place buffer e
  land_step id (Some (Packet.Write y h place payload)) e = write_step id y h place payload e
  land_step id (Some (Packet.Answer y answer)) e = tt
  land_step id (Some (Packet.Install y to ep f)) e = install_step id y to ep f e (context_of to s.contexts) refl
  land_step id (Some (Packet.Close y to ep h)) e = close_step id to ep h (context_of to s.contexts) refl

  settle_step : (id : FlightId) (answer : Answer) (c : Context) → context_of id.issuer s.contexts ≡ Some c → (o : Option Flying) → flying_at id.number c.flying ≡ o → AllProper (settle_in s id answer c o)
  settle_step id answer c at None e = tt
  settle_step id answer c at (Some f) e = answer_proper s id answer c f law ok at e

  answer_step : (id : FlightId) (answer : Answer) (o : Option Context) → context_of id.issuer s.contexts ≡ o → AllProper (answer_in s id answer o)
  answer_step id answer None e = tt
  answer_step id answer (Some c) e = settle_step id answer c e (flying_at id.number c.flying) refl

  answered_step : (id : FlightId) (o : Option Packet) → AllProper (answered_in s id o)
  answered_step id (Some (Packet.Answer y answer)) = answer_step id answer (context_of id.issuer s.contexts) refl
  answered_step id o = tt

  make_step : (line : GrantLine) → is_in_limits line ≡ true → (why : Option No) → make_refusal (length s.memory) s.grants line ≡ why → (f : Option Fresh) → form (length s.grants + 1) line (undone (parent_in s.grants (parent_of line))) ≡ f → AllProper (make_in s line why f)
  make_step line low (Some why) w f e = ok
  make_step line low None w None e = tt
  make_step line low None w (Some f) e =
      let room : nat_le 4096 (length s.grants) ≡ false = room_for (length s.memory) s.grants line w in
      made_proper s line f law ok
      (line_proper (length s.memory) (length s.grants + 1) line (undone (parent_in s.grants (parent_of line))) f ok.memory low (proper_undone s ok (parent_of line)) (outside_no (length s.memory) s.grants line w) e)
      (grind (arith, nat_tests, room))

  make_for_step : (line : GrantLine) → is_in_limits line ≡ true → (o : Option Context) → AllProper (make_for s line o)
  make_for_step line low None = tt
  make_for_step line low (Some x) = make_step line low (make_refusal (length s.memory) s.grants line) refl (form (length s.grants + 1) line (undone (parent_in s.grants (parent_of line)))) refl

  revoke_step : (g : ℕ) (why : Option No) → AllProper (revoke_in s g why)
  revoke_step g (Some why) = ok
  revoke_step g None = revoke_proper s g ok

  send_close_step : (g : ℕ) (o : Option Grant) → grant_in s.grants g ≡ o → AllProper (send_close_in s g o)
  send_close_step g None e = tt
  send_close_step g (Some x) e = by_test (may_close s.grants g (Some x))
    where
      by_test : (b : Bool) → AllProper (if b then step_to (Sends_close g (kernel_id s)) (close_sent s g x) else None)
      by_test true = sent_proper s g x law ok e
      by_test false = tt

  free_step : (g a ep : ℕ) (o : Option Context) → context_of a s.contexts ≡ o → AllProper (free_in s g ep o)
  free_step g a ep None e = tt
  free_step g a ep (Some c) e = by_test (has_closing g (endpoint c ep)) (flies_at ep c) refl
    where
      by_test : (b d : Bool) → flies_at ep c ≡ d → AllProper (if b && not d then step_to (Frees g) (record s { contexts = put_context (with_endpoint c ep Free) s.contexts; grants = change_grant s.grants g to_closed }) else None)
      by_test true false v = closed_proper s ep g c law ok (found_own a c s.contexts e) v
      by_test true true v = tt
      by_test false d v = tt

  closed_step : (g : ℕ) (o : Option Grant) → AllProper (closed_in s g o)
  closed_step g None = tt
  closed_step g (Some x) = free_step g (holder x.line) (holder_ep x.line) (context_of (holder x.line) s.contexts) refl

  done_step : (g : ℕ) (o : Option Grant) → AllProper (done_in s g o)
  done_step g None = tt
  done_step g (Some x) = by_test (is_closed_grant x.standing)
    where
      by_test : (b : Bool) → AllProper (if b then step_to (Finishes g x.is_root) (record s { grants = change_grant s.grants g to_done }) else None)
      by_test true = done_proper s g ok
      by_test false = tt

  pub step_proper : (t : Step) → Fits t → AllProper (ideal_step s t)
  step_proper (Step.Issue a c) p = issue_step a c (context_of a s.contexts) refl
  step_proper (Step.Await a ep) p = await_step ep (context_of a s.contexts)
  step_proper (Step.Land id) p = land_step id (flight id s.flights) refl
  step_proper (Step.Answered id) p = answered_step id (flight id s.flights)
  step_proper (Step.Make line) p = make_for_step line p.1 (context_of (holder line) s.contexts)
  step_proper (Step.Revoke g) p = revoke_step g (revoke_refusal (grant_in s.grants g))
  step_proper (Step.Close g) p = send_close_step g (grant_in s.grants g) refl
  step_proper (Step.Closed g) p = closed_step g (grant_in s.grants g)
  step_proper (Step.Done g) p = done_step g (grant_in s.grants g)

-- ---- opening

-- a state of the setup: nothing flies
pub record Started (f : Facts) (s : State) : Type 0 where
  pub proper : WellFormed s
  pub flights : s.flights ≡ []
  pub memory : f.memory ≡ length s.memory

act_started : (s : State) (a : ℕ) → context_of a s.contexts ≡ None → s.flights ≡ [] → WellFormed s → WellFormed (record s { contexts = new_context_in (new_context a) s.contexts })
act_started s a n z ok = record {
  contexts = λ b x e. by_found b x (find_inserted b (new_context a) s.contexts n x e);
  packets = λ id p e. absurd (grind (arith, e, z));
  grants = ok.grants;
  orders = ok.orders;
  few = ok.few;
  memory = ok.memory;
}
  where
    by_found : (b : ℕ) (x : Context) → ((b ≡ a) × (x ≡ new_context a)) ⊎ (context_of b s.contexts ≡ Some x) → WellFormedContext x
    by_found b x (inl q) = subst WellFormedContext (sym q.1) (record { next = omega arith; queues = λ i. ap has_valid_queues (free_at 16 i) })
    by_found b x (inr q) = ok.contexts b x q

form_known : (g : ℕ) (line : GrantLine) (p : Option Grant) (f : Fresh) → is_none (form g line (undone p)) ≡ false → form g line p ≡ Some f → form g line (undone p) ≡ Some f
form_known g (GrantLine.Recv a e slots size) p f n h = h
form_known g (GrantLine.Range a e at len perm) p f n h = h
form_known g (GrantLine.Send a e of label credits) None f n h = h
form_known g (GrantLine.Send a e of label credits) (Some x) f n h = grind (arith, n, h)
form_known g (GrantLine.Part a e of at len perm) None f n h = h
form_known g (GrantLine.Part a e of at len perm) (Some x) f n h = grind (arith, n, h)

pub has_form : (memory : ℕ) (gs : List Grant) (line : GrantLine) → make_refusal memory gs line ≡ None → is_none (form (length gs + 1) line (undone (parent_in gs (parent_of line)))) ≡ false
has_form memory gs line e = grind (arith, e)

limits_of : (f : Facts) (line : GrantLine) → breaks_rule (SetupLine.Grant line) f ≡ false → is_in_limits line ≡ true
limits_of f line e = by_tests _ _ _ e
  where
    by_tests : (a b c : Bool) → (a || (not b || c)) ≡ false → b ≡ true
    by_tests a b c h = grind (arith, h)

installed_proper : (s : State) (ep : ℕ) (f : Fresh) (o : Option Context) (a : ℕ) → context_of a s.contexts ≡ o → s.flights ≡ [] → WellFormed s → WellFormed (record s { contexts = contexts_with_record ep f s.contexts o })
installed_proper s ep f None a e z ok = ok
installed_proper s ep f (Some c) a e z ok =
    let there : context_of c.act s.contexts ≡ Some c = found_own a c s.contexts e in
    proper_put s c (with_endpoint c ep (new_endpoint f)) s.flights ok there (set_tidy c ep (new_endpoint f) (ok.contexts a c e) (opened_tidy f)) (λ i p w. absurd (grind (arith, w, z)))

grant_started : (s : State) (line : GrantLine) → is_in_limits line ≡ true → make_refusal (length s.memory) s.grants line ≡ None → s.flights ≡ [] → WellFormed s → (o : Option Fresh) → form (length s.grants + 1) line (parent_in s.grants (parent_of line)) ≡ o → WellFormed (state_with_grant s line o)
grant_started s line low allowed z ok None e = ok
grant_started s line low allowed z ok (Some f) e =
    let known = form_known (length s.grants + 1) line (parent_in s.grants (parent_of line)) f (has_form (length s.memory) s.grants line allowed) e in
    let good = line_proper (length s.memory) (length s.grants + 1) line (undone (parent_in s.grants (parent_of line))) f ok.memory low (proper_undone s ok (parent_of line)) (outside_no (length s.memory) s.grants line allowed) known in
    let room : nat_le 4096 (length s.grants) ≡ false = room_for (length s.memory) s.grants line allowed in
    proper_grown (record s { contexts = contexts_with_record (holder_ep line) f s.contexts (context_of (holder line) s.contexts) }) line f (installed_proper s (holder_ep line) f (context_of (holder line) s.contexts) (holder line) refl z ok) good (grind (arith, nat_tests, room))

pub granted_flights : (s : State) (line : GrantLine) (o : Option Fresh) → (state_with_grant s line o).flights ≡ s.flights
granted_flights s line None = refl
granted_flights s line (Some f) = refl

line_started : (f : Facts) (s : State) (l : SetupLine) → Ties f s → Started f s → breaks_rule l f ≡ false → InRange l → Started (facts_with_line l f) (with_line s l)
line_started f s (SetupLine.Act a t) k st n r = record { proper = act_started s a (obeys f s (SetupLine.Act a t) k n r).0 st.flights st.proper; flights = st.flights; memory = st.memory }
line_started f s (SetupLine.Grant line) k st n r =
    let o = form (length s.grants + 1) line (parent_in s.grants (parent_of line)) in
    let allowed : make_refusal (length s.memory) s.grants line ≡ None = subst (λ m. make_refusal m s.grants line ≡ None) st.memory (subst (λ gs. make_refusal f.memory gs line ≡ None) k.grants (grant_allowed f line n)) in
    record {
      proper = grant_started s line (limits_of f line n) allowed st.flights st.proper o refl;
      flights = granted_flights s line o ∙ st.flights;
      memory = st.memory ∙ sym (ap length (memory-state_with_grant s line o));
    }
line_started f s (SetupLine.Quantum q) k st n r = record { proper = st.proper; flights = st.flights; memory = st.memory }
line_started f s (SetupLine.Files g) k st n r = record { proper = st.proper; flights = st.flights; memory = st.memory }
line_started f s (SetupLine.Item a c) k st n r = record { proper = st.proper; flights = st.flights; memory = st.memory }
line_started f s (SetupLine.AwaitItem a ep) k st n r = record { proper = st.proper; flights = st.flights; memory = st.memory }
line_started f s (SetupLine.Writer a m d e chunk ring bytes) k st n r = record { proper = st.proper; flights = st.flights; memory = st.memory }
line_started f s (SetupLine.Reader a m d chunk ring fuel) k st n r = record { proper = st.proper; flights = st.flights; memory = st.memory }
line_started f s (SetupLine.Boxed a logic fuel) k st n r = record { proper = st.proper; flights = st.flights; memory = st.memory }

lines_started : (f : Facts) (s : State) (ls : List SetupLine) → Ties f s → Started f s → AllKept ls f → WellFormed (with_lines s ls)
lines_started f s [] k st a = st.proper
lines_started f s (l ∷ ls) k st a = lines_started (facts_with_line l f) (with_line s l) ls (ties f s l k a.1.0) (line_started f s l k st a.0 a.1.0) a.1.1

pub valid_proper : (v : SetupValue) → IsValid v → WellFormed (opening v.memory v.lines)
valid_proper v ok = lines_started (no_lines v.tiles v.memory) (opening v.memory []) v.lines (tied_at_first v.tiles v.memory) first ok.lines
  where
    zeros : List ℕ
    zeros = replicate v.memory 0

    long : length zeros ≡ v.memory
    long = length-replicate v.memory 0

    low : v.memory ≤ 1048576
    low = let m = ok.machine in grind (arith, nat_tests, m)

    first : Started (no_lines v.tiles v.memory) (opening v.memory [])
    first = record {
      proper = record {
        contexts = λ a c e. absurd (cc);
        packets = λ id p e. absurd (cc);
        grants = λ g x e. absurd (let z = no_grant g in cc);
        orders = omega arith;
        few = λ g x e. absurd (let z = no_grant g in cc);
        memory = omega (arith, long, low);
      };
      flights = refl;
      memory = sym long;
    }
