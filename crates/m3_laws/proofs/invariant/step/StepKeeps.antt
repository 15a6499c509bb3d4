-- Each step, and so each run, keeps the grant invariant.
use Rattle.std.proofs.Common.{◌≡◌, ℕ, ◌+◌, ◌<◌, Bool, true, false, List, [], ◌∷◌, length, Some, None, refl, sym, ◌∙◌, ap}
use Rattle.std.specs.Prelude.{Option, if◌then◌else◌, not, ◌&&◌, ◌||◌, nat_le}
use Rattle.m3_base.specs.declared.ids.FlightId.{FlightId}
use Rattle.m3_base.specs.declared.message.Message.{Message}
use Rattle.m3_base.specs.declared.packet.Packet.{Packet}
use Rattle.m3_base.specs.declared.command.Answer.{Answer}
use Rattle.m3_base.specs.declared.packet.Fresh.{Fresh}
use Rattle.m3_base.specs.declared.order.GrantLine.{GrantLine}
use Rattle.m3_base.specs.Ideal.Flights.{flight}
use Rattle.m3_base.specs.Ideal.Context.{Flying, Free, Context, endpoint, with_endpoint}
use Rattle.m3_base.specs.Ideal.Landing.{land_refusal, flying_at, closed_at, has_live, has_closing, flies_at, bytes_at, written_at}
use Rattle.m3_base.specs.Ideal.State.{Standing, Live, Closing, Closed, Done, Grant, State, context_of, put_context, grant_in, holder, holder_ep, parent_of, parent_in, undone}
use Rattle.m3_base.specs.Ideal.GrantRules.{form, make_refusal, may_close, close_sent, change_grant, kernel_id, is_outside, fresh_of, is_more, is_crowded, revoke_refusal, first_no, is_closed_grant, to_done}
use Rattle.m3_base.proofs.FlightNames.{name_found}
use Rattle.m3_laws.specs.GrantInvariant.{GrantInvariant}
use Rattle.m3_laws.proofs.invariant.records.ClosingRecords.{to_closed}
use Rattle.m3_base.specs.declared.command.Command.{Command}
use Rattle.m3_base.specs.declared.step.Step.{Step}
use Rattle.m3_base.specs.declared.event.No.{No}
use Rattle.m3_base.specs.Ideal.Issue.{Issued, issue}
use Rattle.m3_base.specs.Ideal.Step.{Starts_closing, Closes_endpoint, Sends_close, Frees, Finishes, IdealResult, ideal_step, issue_in, issued_in, await_in, message_in, credit_in, install_in, close_in, land_in, settle_in, answer_in, answered_in, make_in, revoke_in, send_close_in, closed_in, free_in, done_in, step_to, make_for, after_ending}
use Rattle.m3_base.specs.Ideal.MessageTraces.{state_after_steps, final}
use Rattle.m3_laws.specs.Laws.{Fits, AllFit}
use Rattle.m3_laws.proofs.invariant.step.LandKeeps.{message_lawful, credit_lawful, served_lawful}
use Rattle.m3_laws.proofs.invariant.step.OrdersKeep.{install_lawful, close_lawful, revoke_lawful, done_lawful, closed_lawful, sent_lawful, made_lawful}
use Rattle.m3_laws.proofs.invariant.step.IssueKeeps.{issue_lawful, answer_lawful}
use Rattle.m3_base.proofs.Activities.{found_own}

abbrev pub AllLawful : Option IdealResult → Type 0
AllLawful None = Unit {0}
AllLawful (Some n) = GrantInvariant n.state

issue_step : (s : State) (a : ℕ) (k : Command) → GrantInvariant s → (o : Option Context) → context_of a s.contexts ≡ o → AllLawful (issue_in s o k)
issue_step s a k law None e = tt
issue_step s a k law (Some c) e = by_issue (issue c k) refl
  where
    by_issue : (o : Option Issued) → issue c k ≡ o → AllLawful (issued_in s o)
    by_issue None w = tt
    by_issue (Some i) w = issue_lawful s a k c i law e w

await_step : (s : State) (ep : ℕ) → GrantInvariant s → (o : Option Context) → AllLawful (await_in s o ep)
await_step s ep law None = tt
await_step s ep law (Some c) = law

message_step : (s : State) (id : FlightId) (to ep h : ℕ) (m : Message) → GrantInvariant s → flight id s.flights ≡ Some (Packet.Message to ep h m) → (o : Option Context) → context_of to s.contexts ≡ o → AllLawful (message_in s id ep h m o)
message_step s id to ep h m law find None e = tt
message_step s id to ep h m law find (Some x) e = message_lawful s law id to ep h m x e find (land_refusal h m (endpoint x ep)) refl

credit_step : (s : State) (id y : FlightId) (to h : ℕ) → GrantInvariant s → flight id s.flights ≡ Some (Packet.Credit y to h) → (o : Option Context) → context_of to s.contexts ≡ o → AllLawful (credit_in s id h o)
credit_step s id y to h law find None e = tt
credit_step s id y to h law find (Some x) e = credit_lawful s id y to h x law e find

install_step : (s : State) (id y : FlightId) (to ep : ℕ) (f : Fresh) → GrantInvariant s → flight id s.flights ≡ Some (Packet.Install y to ep f) → (o : Option Context) → context_of to s.contexts ≡ o → AllLawful (install_in s id ep f o)
install_step s id y to ep f law find None e = tt
install_step s id y to ep f law find (Some x) e = install_lawful s id y to ep f x law find e

close_step : (s : State) (id y : FlightId) (to ep g : ℕ) → GrantInvariant s → flight id s.flights ≡ Some (Packet.Close y to ep g) → (o : Option Context) → context_of to s.contexts ≡ o → AllLawful (close_in s id ep g o)
close_step s id y to ep g law find None e = tt
close_step s id y to ep g law find (Some x) e = by_test (has_live g (endpoint x ep)) refl
  where
    by_test : (b : Bool) → has_live g (endpoint x ep) ≡ b → AllLawful (if b then step_to (if flies_at ep x then Starts_closing id g else Closes_endpoint id g) (after_ending s id (with_endpoint x ep (closed_at (endpoint x ep)))) else None)
    by_test true w = close_lawful s id y to ep g x law find e w
    by_test false w = tt

land_step : (s : State) (id : FlightId) → GrantInvariant s → (o : Option Packet) → flight id s.flights ≡ o → AllLawful (land_in s id o)
land_step s id law None e = tt
land_step s id law (Some (Packet.Message to ep h m)) e = message_step s id to ep h m law e (context_of to s.contexts) refl
land_step s id law (Some (Packet.Credit y to h)) e = credit_step s id y to h law e (context_of to s.contexts) refl
land_step s id law (Some (Packet.Read y h place buffer)) e = served_lawful s s.memory (Packet.Read y h place buffer) (Packet.Answer id (Answer.Bytes (bytes_at place (length buffer) s.memory))) law e tt tt tt (λ g. refl) (λ g. refl)
land_step s id law (Some (Packet.Write y h place payload)) e = served_lawful s (written_at place payload s.memory) (Packet.Write y h place payload) (Packet.Answer id Answer.Written) law e tt tt tt (λ g. refl) (λ g. refl)
land_step s id law (Some (Packet.Answer y answer)) e = tt
land_step s id law (Some (Packet.Install y to ep f)) e = install_step s id y to ep f law e (context_of to s.contexts) refl
land_step s id law (Some (Packet.Close y to ep h)) e = close_step s id y to ep h law e (context_of to s.contexts) refl

settle_step : (s : State) (id : FlightId) (answer : Answer) (c : Context) → GrantInvariant s → context_of id.issuer s.contexts ≡ Some c → flight id s.flights ≡ Some (Packet.Answer id answer) → (o : Option Flying) → flying_at id.number c.flying ≡ o → AllLawful (settle_in s id answer c o)
settle_step s id answer c law at find None e = tt
settle_step s id answer c law at find (Some f) e = answer_lawful s id answer c f law at find e

answer_step : (s : State) (id : FlightId) (answer : Answer) → GrantInvariant s → flight id s.flights ≡ Some (Packet.Answer id answer) → (o : Option Context) → context_of id.issuer s.contexts ≡ o → AllLawful (answer_in s id answer o)
answer_step s id answer law find None e = tt
answer_step s id answer law find (Some c) e = settle_step s id answer c law e find (flying_at id.number c.flying) refl

answered_step : (s : State) (id : FlightId) → GrantInvariant s → (o : Option Packet) → flight id s.flights ≡ o → AllLawful (answered_in s id o)
answered_step s id law (Some (Packet.Answer y answer)) e =
    let n : id ≡ y = name_found id (Packet.Answer y answer) s.flights e in
    answer_step s id answer law (e ∙ ap (λ z. Some (Packet.Answer z answer)) (sym n)) (context_of id.issuer s.contexts) refl
answered_step s id law o e = tt

second_third : (a b c : Bool) (x y z : No) (ts : List (Bool × No)) → first_no ((a, x) ∷ (b, y) ∷ (c, z) ∷ ts) ≡ None → (b ≡ false) × (c ≡ false)
second_third true b c x y z ts e = absurd (cc)
second_third false true c x y z ts e = absurd (cc)
second_third false false true x y z ts e = absurd (cc)
second_third false false false x y z ts e = (refl, refl)

make_step : (s : State) (line : GrantLine) → GrantInvariant s → holder_ep line < 16 → (no' : Option No) → make_refusal (length s.memory) s.grants line ≡ no' → (f : Option Fresh) → form (length s.grants + 1) line (undone (parent_in s.grants (parent_of line))) ≡ f → AllLawful (make_in s line no' f)
make_step s line law inside (Some why) w f e = law
make_step s line law inside None w None e = tt
make_step s line law inside None w (Some f) e =
    let above = undone (parent_in s.grants (parent_of line)) in
    let t = second_third _ _ _ _ _ _ ((is_outside (length s.memory) line (fresh_of above), No.OutsideParent) ∷ (is_more line (fresh_of above), No.MorePermission) ∷ (nat_le 4096 (length s.grants) || is_crowded line s.grants, No.TooMany) ∷ []) w in
    made_lawful s line f law e t.0 t.1 inside

make_for_step : (s : State) (line : GrantLine) → GrantInvariant s → holder_ep line < 16 → (o : Option Context) → AllLawful (make_for s line o)
make_for_step s line law inside None = tt
make_for_step s line law inside (Some x) = make_step s line law inside (make_refusal (length s.memory) s.grants line) refl (form (length s.grants + 1) line (undone (parent_in s.grants (parent_of line)))) refl

revoke_step : (s : State) (g : ℕ) → GrantInvariant s → (no' : Option No) → AllLawful (revoke_in s g no')
revoke_step s g law (Some why) = law
revoke_step s g law None = revoke_lawful s g law

send_close_step : (s : State) (g : ℕ) → GrantInvariant s → (o : Option Grant) → grant_in s.grants g ≡ o → AllLawful (send_close_in s g o)
send_close_step s g law None e = tt
send_close_step s g law (Some x) e = by_test (may_close s.grants g (Some x)) refl
  where
    by_test : (b : Bool) → may_close s.grants g (Some x) ≡ b → AllLawful (if b then step_to (Sends_close g (kernel_id s)) (close_sent s g x) else None)
    by_test true w = sent_lawful s g x e w law
    by_test false w = tt

free_step : (s : State) (g a ep : ℕ) → GrantInvariant s → (o : Option Context) → context_of a s.contexts ≡ o → AllLawful (free_in s g ep o)
free_step s g a ep law None e = tt
free_step s g a ep law (Some c) e = by_test (has_closing g (endpoint c ep)) (flies_at ep c) refl refl
  where
    by_test : (b d : Bool) → has_closing g (endpoint c ep) ≡ b → flies_at ep c ≡ d → AllLawful (if b && not d then step_to (Frees g) (record s { contexts = put_context (with_endpoint c ep Free) s.contexts; grants = change_grant s.grants g to_closed }) else None)
    by_test true false w v = closed_lawful s ep g c law (found_own a c s.contexts e) w v
    by_test true true w v = tt
    by_test false d w v = tt

closed_step : (s : State) (g : ℕ) → GrantInvariant s → (o : Option Grant) → AllLawful (closed_in s g o)
closed_step s g law None = tt
closed_step s g law (Some x) = free_step s g (holder x.line) (holder_ep x.line) law (context_of (holder x.line) s.contexts) refl

is_closed : (t : Standing) → is_closed_grant t ≡ true → t ≡ Closed
is_closed Closed e = refl
is_closed Live e = absurd (cc)
is_closed Closing e = absurd (cc)
is_closed Done e = absurd (cc)

done_step : (s : State) (g : ℕ) → GrantInvariant s → (o : Option Grant) → grant_in s.grants g ≡ o → AllLawful (done_in s g o)
done_step s g law None e = tt
done_step s g law (Some x) e = by_test (is_closed_grant x.standing) refl
  where
    by_test : (b : Bool) → is_closed_grant x.standing ≡ b → AllLawful (if b then step_to (Finishes g x.is_root) (record s { grants = change_grant s.grants g to_done }) else None)
    by_test true w = done_lawful s g x e (is_closed x.standing w) law
    by_test false w = tt

pub step_lawful : (s : State) (t : Step) → GrantInvariant s → Fits t → AllLawful (ideal_step s t)
step_lawful s (Step.Issue a c) law p = issue_step s a c law (context_of a s.contexts) refl
step_lawful s (Step.Await a ep) law p = await_step s ep law (context_of a s.contexts)
step_lawful s (Step.Land id) law p = land_step s id law (flight id s.flights) refl
step_lawful s (Step.Answered id) law p = answered_step s id law (flight id s.flights) refl
step_lawful s (Step.Make line) law p = make_for_step s line law p.0 (context_of (holder line) s.contexts)
step_lawful s (Step.Revoke g) law p = revoke_step s g law (revoke_refusal (grant_in s.grants g))
step_lawful s (Step.Close g) law p = send_close_step s g law (grant_in s.grants g) refl
step_lawful s (Step.Closed g) law p = closed_step s g law (grant_in s.grants g)
step_lawful s (Step.Done g) law p = done_step s g law (grant_in s.grants g) refl

pub run_lawful : (s : State) (ts : List Step) → GrantInvariant s → AllFit ts → GrantInvariant (final s ts)
run_lawful s [] law p = law
run_lawful s (t ∷ ts) law p = by_next (ideal_step s t) (step_lawful s t law p.0) (λ n h. run_lawful n ts h p.1)
  where
    by_next : (o : Option IdealResult) → AllLawful o → ((n : State) → GrantInvariant n → GrantInvariant (final n ts)) → GrantInvariant (final (state_after_steps s o) ts)
    by_next None k rest = rest s law
    by_next (Some n) k rest = rest n.state k
