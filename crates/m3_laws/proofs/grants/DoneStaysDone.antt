-- A grant that is done stays done.
use Rattle.std.proofs.Common.{◌≡◌, ℕ, ◌+◌, Bool, true, false, List, [], ◌∷◌, length, Some, None, refl, subst, ◌∙◌, ap, ◌++◌, ◌-◌, arith}
use Rattle.std.specs.Prelude.{Option, if◌then◌else◌, not, ◌&&◌, slice_get, ◌==◌}
use Rattle.m3_base.specs.declared.ids.FlightId.{FlightId}
use Rattle.m3_base.specs.declared.message.Message.{Message}
use Rattle.m3_base.specs.declared.packet.Packet.{Packet}
use Rattle.m3_base.specs.declared.command.Answer.{Answer}
use Rattle.m3_base.specs.declared.packet.Fresh.{Fresh}
use Rattle.m3_base.specs.declared.order.GrantLine.{GrantLine}
use Rattle.m3_base.specs.Ideal.Flights.{flight}
use Rattle.m3_base.specs.Ideal.Context.{Flying, Free, Context, endpoint, with_endpoint}
use Rattle.m3_base.specs.Ideal.Landing.{flying_at, closed_at, has_live, has_closing, flies_at}
use Rattle.m3_base.specs.Ideal.State.{Standing, Live, Closing, Closed, Done, Grant, State, context_of, put_context, grant_in, holder, holder_ep, parent_of, parent_in, undone, is_done, is_live, is_open}
use Rattle.m3_base.specs.Ideal.GrantRules.{form, make_refusal, may_close, close_sent, change_grant, kernel_id, revoke_refusal, is_closed_grant, new_grant, with_root_closing, closing_where, marks_under, or_false, to_closing, after_revoke, to_root, to_sent, to_done}
use Rattle.m3_laws.specs.GrantInvariant.{GrantInvariant, is_open_grant}
use Rattle.m3_laws.proofs.invariant.records.ClosingRecords.{to_closed, was_open}
use Rattle.m3_base.specs.declared.command.Command.{Command}
use Rattle.m3_base.specs.declared.step.Step.{Step}
use Rattle.m3_base.specs.declared.event.No.{No}
use Rattle.m3_base.specs.Ideal.Issue.{Issued, issue}
use Rattle.m3_base.specs.Ideal.Step.{Starts_closing, Closes_endpoint, Sends_close, Frees, Finishes, IdealResult, ideal_step, issue_in, issued_in, await_in, message_in, credit_in, install_in, close_in, land_in, settle_in, answer_in, answered_in, make_in, revoke_in, send_close_in, closed_in, free_in, done_in, step_to, make_for, after_ending}
use Rattle.m3_base.specs.Ideal.MessageTraces.{state_after_steps, final}
use Rattle.m3_laws.specs.Laws.{AllFit, parent_at, IsPath, GoneForever}
use Rattle.std.specs.Option.{option_map}
use Rattle.m3_base.specs.Ideal.Opening.{opening}
use Rattle.m3_laws.proofs.grants.GrantList.{Changes, at_one, grant_added}
use Rattle.m3_laws.proofs.grants.OrdersKeepGrants.{closing_changes, one_changes}
use Rattle.m3_laws.proofs.invariant.step.OpeningHolds.{ever_lawful}
use Rattle.m3_laws.proofs.grants.RevokedIsGone.{gone_at}
use Rattle.std.proofs.lemmas.Bool.Decides.{nat_tests}
use Rattle.m3_laws.proofs.invariant.step.StepKeeps.{AllLawful, step_lawful}
use Rattle.m3_laws.proofs.invariant.step.Invariant.{invariant_ever, invariant_final}
use Rattle.m3_base.proofs.Activities.{found_own}
use Rattle.m3_base.proofs.GrantsByNumber.{grant_past}

-- a grant stays, with its line, and a done one stays done
pub record DoneLasts (gs ks : List Grant) : Type 0 where
  pub stays : (g : ℕ) (x : Grant) → grant_in gs g ≡ Some x → (y : Grant) × ((grant_in ks g ≡ Some y) × ((y.line ≡ x.line) × (is_done x.standing ≡ true → is_done y.standing ≡ true)))

done_lasts_same : (gs : List Grant) → DoneLasts gs gs
done_lasts_same gs = record { stays = λ g x e. (x, (e, (refl, λ z. z))) }

done_lasts_then : (a b c : List Grant) → DoneLasts a b → DoneLasts b c → DoneLasts a c
done_lasts_then a b c p q = record {
  stays = λ g x e.
      let y = p.stays g x e in
      let z = q.stays g y.0 y.1.0 in
      (z.0, (z.1.0, (z.1.1.0 ∙ y.1.1.0, λ d. z.1.1.1 (y.1.1.1 d))));
}

done_lasts_changed : (gs ks : List Grant) (f : ℕ → Grant → Grant) → Changes gs ks f → ((h : ℕ) (x : Grant) → is_done x.standing ≡ true → grant_in gs h ≡ Some x → is_done (f h x).standing ≡ true) → DoneLasts gs ks
done_lasts_changed gs ks f ch done = record { stays = λ g x e. (f g x, (ch.at g ∙ ap (option_map (f g)) e, (ch.line g x, λ d. done g x d e))) }

done_lasts_added : (gs : List Grant) (x : Grant) → DoneLasts gs (gs ++ x ∷ [])
done_lasts_added gs x = record {
  stays = λ g y e.
      let l = grant_past gs g y e in
      (y, (grant_added gs x g ∙ grind (arith, nat_tests, l, e), (refl, λ z. z)));
}

closing_done : (b : Bool) (x : Grant) → is_done x.standing ≡ true → is_done (to_closing b x).standing ≡ true
closing_done b x d = by_mark (b && is_live x.standing) refl
  where
    not_live : (t : Standing) → is_done t ≡ true → is_live t ≡ false
    not_live Done e = refl
    not_live Live e = absurd (cc)
    not_live Closing e = refl
    not_live Closed e = refl

    by_mark : (m : Bool) → (b && is_live x.standing) ≡ m → is_done (if m then record x { standing = Closing } else x).standing ≡ true
    by_mark false e = d
    by_mark true e = let t = not_live x.standing d in absurd (grind (arith, e, t))

root_done : (g h : ℕ) (x : Grant) → is_done x.standing ≡ true → is_done (at_one g to_root h x).standing ≡ true
root_done g h x d = by_same (h == g)
  where
    by_same : (b : Bool) → is_done (if b then to_root x else x).standing ≡ true
    by_same true = d
    by_same false = d

sent_done : (g h : ℕ) (x : Grant) → is_done x.standing ≡ true → is_done (at_one g to_sent h x).standing ≡ true
sent_done g h x d = by_same (h == g)
  where
    by_same : (b : Bool) → is_done (if b then to_sent x else x).standing ≡ true
    by_same true = d
    by_same false = d

done_done : (g h : ℕ) (x : Grant) → is_done x.standing ≡ true → is_done (at_one g to_done h x).standing ≡ true
done_done g h x d = by_same (h == g)
  where
    by_same : (b : Bool) → is_done (if b then to_done x else x).standing ≡ true
    by_same true = refl
    by_same false = d

done_lasts_revoked : (gs : List Grant) (g : ℕ) → DoneLasts gs (after_revoke gs g)
done_lasts_revoked gs g =
    let bs = marks_under g 1 [] gs in
    let hs = closing_where bs gs in
    done_lasts_then gs hs (with_root_closing hs g)
    (done_lasts_changed gs hs (λ h x. to_closing (or_false (slice_get bs (h - 1))) x) (closing_changes bs gs) (λ h x d e. closing_done (or_false (slice_get bs (h - 1))) x d))
    (done_lasts_changed hs (with_root_closing hs g) (at_one g to_root) (one_changes hs g to_root (λ x. (refl, refl))) (λ h x d e. root_done g h x d))

-- ---- from lawful states each step lets grants last

abbrev pub AllLast : State → Option IdealResult → Type 0
AllLast s None = Unit {0}
AllLast s (Some n) = DoneLasts s.grants n.state.grants

issued_last : (s : State) (o : Option Issued) → AllLast s (issued_in s o)
issued_last s None = tt
issued_last s (Some i) = done_lasts_same s.grants

issue_last : (s : State) (o : Option Context) (k : Command) → AllLast s (issue_in s o k)
issue_last s None k = tt
issue_last s (Some c) k = issued_last s (issue c k)

await_last : (s : State) (o : Option Context) (ep : ℕ) → AllLast s (await_in s o ep)
await_last s None ep = tt
await_last s (Some c) ep = done_lasts_same s.grants

message_last : (s : State) (id : FlightId) (ep g : ℕ) (m : Message) (o : Option Context) → AllLast s (message_in s id ep g m o)
message_last s id ep g m None = tt
message_last s id ep g m (Some x) = done_lasts_same s.grants

credit_last : (s : State) (id : FlightId) (g : ℕ) (o : Option Context) → AllLast s (credit_in s id g o)
credit_last s id g None = tt
credit_last s id g (Some x) = done_lasts_same s.grants

install_last : (s : State) (id : FlightId) (ep : ℕ) (f : Fresh) (o : Option Context) → AllLast s (install_in s id ep f o)
install_last s id ep f None = tt
install_last s id ep f (Some x) = done_lasts_same s.grants

close_last : (s : State) (id : FlightId) (ep g : ℕ) (o : Option Context) → AllLast s (close_in s id ep g o)
close_last s id ep g None = tt
close_last s id ep g (Some x) = by_test (has_live g (endpoint x ep))
  where
    by_test : (b : Bool) → AllLast s (if b then step_to (if flies_at ep x then Starts_closing id g else Closes_endpoint id g) (after_ending s id (with_endpoint x ep (closed_at (endpoint x ep)))) else None)
    by_test true = done_lasts_same s.grants
    by_test false = tt

land_last : (s : State) (id : FlightId) (o : Option Packet) → AllLast s (land_in s id o)
land_last s id None = tt
land_last s id (Some (Packet.Message to ep h m)) = message_last s id ep h m (context_of to s.contexts)
land_last s id (Some (Packet.Credit y to h)) = credit_last s id h (context_of to s.contexts)
land_last s id (Some (Packet.Read y h place buffer)) = done_lasts_same s.grants
land_last s id (Some (Packet.Write y h place payload)) = done_lasts_same s.grants
land_last s id (Some (Packet.Answer y answer)) = tt
land_last s id (Some (Packet.Install y to ep f)) = install_last s id ep f (context_of to s.contexts)
land_last s id (Some (Packet.Close y to ep h)) = close_last s id ep h (context_of to s.contexts)

settle_last : (s : State) (id : FlightId) (answer : Answer) (c : Context) (o : Option Flying) → AllLast s (settle_in s id answer c o)
settle_last s id answer c None = tt
settle_last s id answer c (Some f) = done_lasts_same s.grants

answer_last : (s : State) (id : FlightId) (answer : Answer) (o : Option Context) → AllLast s (answer_in s id answer o)
answer_last s id answer None = tt
answer_last s id answer (Some c) = settle_last s id answer c (flying_at id.number c.flying)

answered_last : (s : State) (id : FlightId) (o : Option Packet) → AllLast s (answered_in s id o)
answered_last s id (Some (Packet.Answer y answer)) = answer_last s id answer (context_of id.issuer s.contexts)
answered_last s id o = tt

make_last : (s : State) (line : GrantLine) (no' : Option No) (f : Option Fresh) → AllLast s (make_in s line no' f)
make_last s line (Some why) f = done_lasts_same s.grants
make_last s line None None = tt
make_last s line None (Some f) = done_lasts_added s.grants (new_grant line f)

make_for_last : (s : State) (line : GrantLine) (o : Option Context) → AllLast s (make_for s line o)
make_for_last s line None = tt
make_for_last s line (Some x) = make_last s line (make_refusal (length s.memory) s.grants line) (form (length s.grants + 1) line (undone (parent_in s.grants (parent_of line))))

revoke_last : (s : State) (g : ℕ) (no' : Option No) → AllLast s (revoke_in s g no')
revoke_last s g (Some why) = done_lasts_same s.grants
revoke_last s g None = done_lasts_revoked s.grants g

send_close_last : (s : State) (g : ℕ) (o : Option Grant) → AllLast s (send_close_in s g o)
send_close_last s g None = tt
send_close_last s g (Some x) = by_test (may_close s.grants g (Some x))
  where
    by_test : (b : Bool) → AllLast s (if b then step_to (Sends_close g (kernel_id s)) (close_sent s g x) else None)
    by_test true = done_lasts_changed s.grants (change_grant s.grants g to_sent) (at_one g to_sent) (one_changes s.grants g to_sent (λ y. (refl, refl))) (λ h y d e. sent_done g h y d)
    by_test false = tt

free_last : (s : State) (g ep a : ℕ) → GrantInvariant s → (o : Option Context) → context_of a s.contexts ≡ o → AllLast s (free_in s g ep o)
free_last s g ep a law None e = tt
free_last s g ep a law (Some c) e = by_test (has_closing g (endpoint c ep)) (flies_at ep c) refl
  where
    here : context_of c.act s.contexts ≡ Some c
    here = found_own a c s.contexts e

    not_done : (t : Standing) → is_done t ≡ true → is_open t ≡ true → ⊥
    not_done Done p q = absurd (cc)
    not_done Live p q = absurd (cc)
    not_done Closing p q = absurd (cc)
    not_done Closed p q = absurd (cc)

    by_open : (x : Grant) (o : Option Grant) → o ≡ Some x → is_open_grant o ≡ true → is_open x.standing ≡ true
    by_open x None q p = absurd (cc)
    by_open x (Some y) q p = let z : y ≡ x = cc in subst (λ w. is_open w.standing ≡ true) z p

    by_same : (h : ℕ) (x : Grant) → has_closing g (endpoint c ep) ≡ true → is_done x.standing ≡ true → grant_in s.grants h ≡ Some x → (b : Bool) → (h == g) ≡ b → is_done (if b then to_closed x else x).standing ≡ true
    by_same h x is d at false w = d
    by_same h x is d at true w =
        let q : h ≡ g = grind (arith, nat_tests, w) in
        absurd (not_done x.standing d (by_open x (grant_in s.grants g) (subst (λ z. grant_in s.grants z ≡ Some x) q at) (was_open s law.placed ep g c here is)))

    by_test : (b d : Bool) → has_closing g (endpoint c ep) ≡ b → AllLast s (if b && not d then step_to (Frees g) (record s { contexts = put_context (with_endpoint c ep Free) s.contexts; grants = change_grant s.grants g to_closed }) else None)
    by_test true false w = done_lasts_changed s.grants (change_grant s.grants g to_closed) (at_one g to_closed) (one_changes s.grants g to_closed (λ y. (refl, refl))) (λ h x d at. by_same h x w d at (h == g) refl)
    by_test true true w = tt
    by_test false d w = tt

closed_last : (s : State) (g : ℕ) → GrantInvariant s → (o : Option Grant) → AllLast s (closed_in s g o)
closed_last s g law None = tt
closed_last s g law (Some x) = free_last s g (holder_ep x.line) (holder x.line) law (context_of (holder x.line) s.contexts) refl

done_last : (s : State) (g : ℕ) (o : Option Grant) → AllLast s (done_in s g o)
done_last s g None = tt
done_last s g (Some x) = by_test (is_closed_grant x.standing)
  where
    by_test : (b : Bool) → AllLast s (if b then step_to (Finishes g x.is_root) (record s { grants = change_grant s.grants g to_done }) else None)
    by_test true = done_lasts_changed s.grants (change_grant s.grants g to_done) (at_one g to_done) (one_changes s.grants g to_done (λ y. (refl, refl))) (λ h y d e. done_done g h y d)
    by_test false = tt

step_last : (s : State) (t : Step) → GrantInvariant s → AllLast s (ideal_step s t)
step_last s (Step.Issue a c) law = issue_last s (context_of a s.contexts) c
step_last s (Step.Await a ep) law = await_last s (context_of a s.contexts) ep
step_last s (Step.Land id) law = land_last s id (flight id s.flights)
step_last s (Step.Answered id) law = answered_last s id (flight id s.flights)
step_last s (Step.Make line) law = make_for_last s line (context_of (holder line) s.contexts)
step_last s (Step.Revoke g) law = revoke_last s g (revoke_refusal (grant_in s.grants g))
step_last s (Step.Close g) law = send_close_last s g (grant_in s.grants g)
step_last s (Step.Closed g) law = closed_last s g law (grant_in s.grants g)
step_last s (Step.Done g) law = done_last s g (grant_in s.grants g)

pub run_last : (s : State) (ts : List Step) → GrantInvariant s → AllFit ts → DoneLasts s.grants (final s ts).grants
run_last s [] law p = done_lasts_same s.grants
run_last s (t ∷ ts) law p = by_next (ideal_step s t) (step_lawful s t law p.0) (step_last s t law) (λ n h. run_last n ts h p.1)
  where
    by_next : (o : Option IdealResult) → AllLawful o → AllLast s o → ((n : State) → GrantInvariant n → DoneLasts n.grants (final n ts).grants) → DoneLasts s.grants (final (state_after_steps s o) ts).grants
    by_next None k l rest = rest s law
    by_next (Some n) k l rest = done_lasts_then s.grants n.state.grants (final n.state ts).grants l (rest n.state k)

path_lasts : (gs ks : List Grant) → DoneLasts gs ks → (r g : ℕ) (path : List ℕ) → IsPath gs r g path → IsPath ks r g path
path_lasts gs ks l r g [] p = p
path_lasts gs ks l r g (q ∷ ps) p = (by_grant (grant_in gs g) refl p.0, path_lasts gs ks l r q ps p.1)
  where
    by_grant : (o : Option Grant) → grant_in gs g ≡ o → parent_at o ≡ Some q → parent_at (grant_in ks g) ≡ Some q
    by_grant None e h = absurd (cc)
    by_grant (Some x) e h = let y = l.stays g x e in ap parent_at y.1.0 ∙ (ap parent_of y.1.1.0 ∙ h)

pub gone_forever : GoneForever
gone_forever setup steps more o p q r g y x path at d w e =
    let s = final (opening setup.memory setup.lines) steps in
    let law = ever_lawful setup steps o p in
    let inv = invariant_ever setup steps o p in
    let l = run_last s more law q in
    let z = l.stays r y at in
    gone_at (final s more) (invariant_final s more q inv) r g z.0 x path z.1.0 (z.1.1.1 d) (path_lasts s.grants (final s more).grants l r g path w) e
