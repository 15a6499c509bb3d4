-- Grants keep their lines and forms to the end of a run, so what holds of the last ones holds of all.
use Rattle.std.proofs.Common.{◌≡◌, ℕ, ◌+◌, ◌-◌, Bool, true, false, List, [], ◌∷◌, length, Some, None, refl, sym, subst, ◌∙◌, ap, inl, inr}
use Rattle.std.specs.Prelude.{Option, if◌then◌else◌, ◌⊎◌, ◌&&◌, not, slice_get}
use Rattle.m3_base.specs.declared.ids.FlightId.{FlightId}
use Rattle.m3_base.specs.declared.packet.Packet.{Packet}
use Rattle.m3_base.specs.declared.packet.Fresh.{Fresh}
use Rattle.m3_base.specs.declared.command.Command.{Command}
use Rattle.m3_base.specs.declared.command.Answer.{Answer}
use Rattle.m3_base.specs.declared.message.Message.{Message}
use Rattle.m3_base.specs.declared.order.GrantLine.{GrantLine}
use Rattle.m3_base.specs.declared.event.No.{No}
use Rattle.m3_base.specs.declared.step.Step.{Step}
use Rattle.m3_base.specs.Ideal.Flights.{flight}
use Rattle.m3_base.specs.Ideal.Context.{Flying, Free, Context, endpoint, with_endpoint}
use Rattle.m3_base.specs.Ideal.Issue.{Issued, issue}
use Rattle.m3_base.specs.Ideal.Landing.{flying_at, has_live, has_closing, flies_at, closed_at}
use Rattle.m3_base.specs.Ideal.State.{State, Grant, context_of, put_context, grant_in, holder, holder_ep, parent_of, parent_in, undone}
use Rattle.m3_base.specs.Ideal.GrantRules.{form, make_refusal, kernel_id, may_close, close_sent, change_grant, is_closed_grant, with_root_closing, closing_where, marks_under, new_grant, revoke_refusal, to_closing, or_false, to_root, to_done}
use Rattle.m3_base.specs.Ideal.Step.{IdealResult, ideal_step, step_to, issue_in, issued_in, await_in, land_in, message_in, credit_in, install_in, close_in, answered_in, answer_in, settle_in, make_in, make_for, revoke_in, send_close_in, closed_in, free_in, done_in, Starts_closing, Closes_endpoint, Sends_close, Frees, Finishes, after_ending}
use Rattle.m3_base.specs.Ideal.MessageTraces.{state_after_steps, final}
use Rattle.m3_base.specs.Ideal.Opening.{opening}
use Rattle.m3_laws.proofs.invariant.records.ClosingRecords.{to_closed}
use Rattle.m3_laws.proofs.grants.GrantList.{at_one}
use Rattle.m3_laws.proofs.grants.OrdersKeepGrants.{closing_changes, one_changes}
use Rattle.m3_laws.proofs.invariant.wellformed.ChangeKeeps.{Lasts, lasts_same, lasts_changed, lasts_added}
use Rattle.m3_pipe_laws.specs.Exclusion.{Clear, Unused, AllClear, AllUnused, GrantsClear, GrantsKeepOut}
use Rattle.m3_pipe_laws.proofs.Grants.Exclusion.{clears_outside}

lasts_then : (a b c : List Grant) → Lasts a b → Lasts b c → Lasts a c
lasts_then a b c p q g x e =
    let y = p g x e in
    let z = q g y.0 y.1.0 in
    (z.0, (z.1.0, (z.1.1.0 ∙ y.1.1.0, z.1.1.1 ∙ y.1.1.1)))

module _ (s : State) where
  abbrev pub AllLast : Option IdealResult → Type 0
  AllLast None = Unit {0}
  AllLast (Some n) = Lasts s.grants n.state.grants

  same : Lasts s.grants s.grants
  same = lasts_same s.grants

  issued_last : (o : Option Issued) → AllLast (issued_in s o)
  issued_last None = tt
  issued_last (Some i) = same

  issue_last : (o : Option Context) (k : Command) → AllLast (issue_in s o k)
  issue_last None k = tt
  issue_last (Some c) k = issued_last (issue c k)

  await_last : (o : Option Context) (ep : ℕ) → AllLast (await_in s o ep)
  await_last None ep = tt
  await_last (Some c) ep = same

  message_last : (id : FlightId) (ep g : ℕ) (m : Message) (o : Option Context) → AllLast (message_in s id ep g m o)
  message_last id ep g m None = tt
  message_last id ep g m (Some x) = same

  credit_last : (id : FlightId) (g : ℕ) (o : Option Context) → AllLast (credit_in s id g o)
  credit_last id g None = tt
  credit_last id g (Some x) = same

  install_last : (id : FlightId) (ep : ℕ) (f : Fresh) (o : Option Context) → AllLast (install_in s id ep f o)
  install_last id ep f None = tt
  install_last id ep f (Some x) = same

  close_last : (id : FlightId) (ep g : ℕ) (o : Option Context) → AllLast (close_in s id ep g o)
  close_last id ep g None = tt
  close_last id ep g (Some x) = by_test (has_live g (endpoint x ep))
    where
      by_test : (b : Bool) → AllLast (if b then step_to (if flies_at ep x then Starts_closing id g else Closes_endpoint id g) (after_ending s id (with_endpoint x ep (closed_at (endpoint x ep)))) else None)
      by_test true = same
      by_test false = tt

  land_last : (id : FlightId) (o : Option Packet) → AllLast (land_in s id o)
  land_last id None = tt
  land_last id (Some (Packet.Message to ep g m)) = message_last id ep g m (context_of to s.contexts)
  land_last id (Some (Packet.Credit y to g)) = credit_last id g (context_of to s.contexts)
  land_last id (Some (Packet.Read y g place buffer)) = same
  land_last id (Some (Packet.Write y g place payload)) = same
  land_last id (Some (Packet.Answer y answer)) = tt
  land_last id (Some (Packet.Install y to ep f)) = install_last id ep f (context_of to s.contexts)
  land_last id (Some (Packet.Close y to ep g)) = close_last id ep g (context_of to s.contexts)

  settle_last : (id : FlightId) (answer : Answer) (x : Context) (o : Option Flying) → AllLast (settle_in s id answer x o)
  settle_last id answer x None = tt
  settle_last id answer x (Some f) = same

  answer_last : (id : FlightId) (answer : Answer) (o : Option Context) → AllLast (answer_in s id answer o)
  answer_last id answer None = tt
  answer_last id answer (Some x) = settle_last id answer x (flying_at id.number x.flying)

  answered_last : (id : FlightId) (o : Option Packet) → AllLast (answered_in s id o)
  answered_last id (Some (Packet.Answer y answer)) = answer_last id answer (context_of id.issuer s.contexts)
  answered_last id None = tt
  answered_last id (Some (Packet.Message to ep g m)) = tt
  answered_last id (Some (Packet.Credit y to g)) = tt
  answered_last id (Some (Packet.Read y g place buffer)) = tt
  answered_last id (Some (Packet.Write y g place payload)) = tt
  answered_last id (Some (Packet.Install y to ep f)) = tt
  answered_last id (Some (Packet.Close y to ep g)) = tt

  make_last : (line : GrantLine) (w : Option No) (f : Option Fresh) → AllLast (make_in s line w f)
  make_last line (Some why) f = same
  make_last line None None = tt
  make_last line None (Some f) = lasts_added s.grants (new_grant line f)

  make_for_last : (line : GrantLine) (o : Option Context) → AllLast (make_for s line o)
  make_for_last line None = tt
  make_for_last line (Some x) = make_last line (make_refusal (length s.memory) s.grants line) (form (length s.grants + 1) line (undone (parent_in s.grants (parent_of line))))

  revoke_last : (g : ℕ) (w : Option No) → AllLast (revoke_in s g w)
  revoke_last g (Some why) = same
  revoke_last g None =
      let bs = marks_under g 1 [] s.grants in
      let hs = closing_where bs s.grants in
      lasts_then s.grants hs (with_root_closing hs g) (lasts_changed s.grants hs (λ h x. to_closing (or_false (slice_get bs (h - 1))) x) (closing_changes bs s.grants)) (lasts_changed hs (with_root_closing hs g) (at_one g to_root) (one_changes hs g to_root (λ x. (refl, refl))))

  close_grant_last : (g : ℕ) (o : Option Grant) → AllLast (send_close_in s g o)
  close_grant_last g None = tt
  close_grant_last g (Some x) = by_test (may_close s.grants g (Some x))
    where
      by_test : (b : Bool) → AllLast (if b then step_to (Sends_close g (kernel_id s)) (close_sent s g x) else None)
      by_test true = lasts_changed s.grants (change_grant s.grants g (λ y. record y { close_sent = true })) (at_one g (λ y. record y { close_sent = true })) (one_changes s.grants g (λ y. record y { close_sent = true }) (λ y. (refl, refl)))
      by_test false = tt

  free_last : (g ep : ℕ) (o : Option Context) → AllLast (free_in s g ep o)
  free_last g ep None = tt
  free_last g ep (Some c) = by_test (has_closing g (endpoint c ep) && not (flies_at ep c))
    where
      by_test : (b : Bool) → AllLast (if b then step_to (Frees g) (record s { contexts = put_context (with_endpoint c ep Free) s.contexts; grants = change_grant s.grants g to_closed }) else None)
      by_test true = lasts_changed s.grants (change_grant s.grants g to_closed) (at_one g to_closed) (one_changes s.grants g to_closed (λ x. (refl, refl)))
      by_test false = tt

  closed_last : (g : ℕ) (o : Option Grant) → AllLast (closed_in s g o)
  closed_last g None = tt
  closed_last g (Some x) = free_last g (holder_ep x.line) (context_of (holder x.line) s.contexts)

  done_last : (g : ℕ) (o : Option Grant) → AllLast (done_in s g o)
  done_last g None = tt
  done_last g (Some x) = by_test (is_closed_grant x.standing)
    where
      by_test : (b : Bool) → AllLast (if b then step_to (Finishes g x.is_root) (record s { grants = change_grant s.grants g to_done }) else None)
      by_test true = lasts_changed s.grants (change_grant s.grants g to_done) (at_one g to_done) (one_changes s.grants g to_done (λ x. (refl, refl)))
      by_test false = tt

  step_last : (t : Step) → AllLast (ideal_step s t)
  step_last (Step.Issue a c) = issue_last (context_of a s.contexts) c
  step_last (Step.Await a ep) = await_last (context_of a s.contexts) ep
  step_last (Step.Land id) = land_last id (flight id s.flights)
  step_last (Step.Answered id) = answered_last id (flight id s.flights)
  step_last (Step.Make line) = make_for_last line (context_of (holder line) s.contexts)
  step_last (Step.Revoke g) = revoke_last g (revoke_refusal (grant_in s.grants g))
  step_last (Step.Close g) = close_grant_last g (grant_in s.grants g)
  step_last (Step.Closed g) = closed_last g (grant_in s.grants g)
  step_last (Step.Done g) = done_last g (grant_in s.grants g)

  after_last : (o : Option IdealResult) → AllLast o → Lasts s.grants (state_after_steps s o).grants
  after_last None h = same
  after_last (Some n) h = h

-- each step keeps the grants' lines and forms
pub lasts_after : (s : State) (t : Step) → Lasts s.grants (state_after_steps s (ideal_step s t)).grants
lasts_after s t = after_last s (ideal_step s t) (step_last s t)

pub lasts_final : (s : State) (ts : List Step) → Lasts s.grants (final s ts).grants
lasts_final s [] = lasts_same s.grants
lasts_final s (t ∷ ts) = let n = state_after_steps s (ideal_step s t) in lasts_then s.grants n.grants (final n ts).grants (lasts_after s t) (lasts_final n ts)

-- ---- what holds of the last grants

all_clear : (w out start len : ℕ) (s : State) (ts : List Step) (x : Grant) → grant_in s.grants out ≡ Some x → holder x.line ≡ w → GrantsClear out start len s ts → AllClear w out start len s ts
all_clear w out start len s [] x at who h = tt
all_clear w out start len s (t ∷ ts) x at who h =
    let y = lasts_after s t out x at in
    let mine : holder (y.0).line ≡ w = ap holder y.1.1.0 ∙ who in
    (record { writer = λ z q. writer y.0 mine y.1.0 z q; others = λ g z q. others g z (lasts_final n ts g z q) }, all_clear w out start len n ts y.0 y.1.0 mine (λ g z q. rest g z (h g z q)))
  where
    n : State
    n = state_after_steps s (ideal_step s t)

    writer : (y : Grant) → holder y.line ≡ w → grant_in n.grants out ≡ Some y → (z : Grant) → grant_in n.grants out ≡ Some z → holder z.line ≡ w
    writer y mine at z q = let same : Some y ≡ Some z = sym at ∙ q in let u : y ≡ z = cc in subst (λ v. holder v.line ≡ w) u mine

    by_grant : (g : ℕ) (z : Grant) (f : Grant) → f.fresh ≡ z.fresh → (g ≡ out) ⊎ (Clear start len f.fresh ⊎ AllUnused g s (t ∷ ts)) → (g ≡ out) ⊎ (Clear start len z.fresh ⊎ Unused g n.flights)
    by_grant g z f q (inl u) = inl u
    by_grant g z f q (inr (inl u)) = inr (inl (subst (Clear start len) q u))
    by_grant g z f q (inr (inr u)) = inr (inr u.0)

    others : (g : ℕ) (z : Grant) → (f : Grant) × ((grant_in (final n ts).grants g ≡ Some f) × ((f.line ≡ z.line) × (f.fresh ≡ z.fresh))) → (g ≡ out) ⊎ (Clear start len z.fresh ⊎ Unused g n.flights)
    others g z f = by_grant g z f.0 f.1.1.1 (h g f.0 f.1.0)

    rest : (g : ℕ) (z : Grant) → (g ≡ out) ⊎ (Clear start len z.fresh ⊎ AllUnused g s (t ∷ ts)) → (g ≡ out) ⊎ (Clear start len z.fresh ⊎ AllUnused g n ts)
    rest g z (inl u) = inl u
    rest g z (inr (inl u)) = inr (inl u)
    rest g z (inr (inr u)) = inr (inr u.1)

pub grants_outside : GrantsKeepOut
grants_outside setup steps w out start len x valid fit at who h = clears_outside setup steps w out start len valid fit (all_clear w out start len (opening setup.memory setup.lines) steps x at who h)
