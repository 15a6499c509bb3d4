-- Orders and answers keep a state well-formed.
use Rattle.std.proofs.Common.{◌≡◌, ◌≢◌, ℕ, ◌+◌, ◌-◌, ◌<◌, ◌≤◌, Bool, true, false, List, [], ◌∷◌, ◌++◌, length, get_or, set, Some, None, refl, sym, subst, ◌∙◌, ap, arith, inl, inr}
use Rattle.std.specs.Prelude.{Option, if◌then◌else◌, ◌==◌, ◌⊎◌, nat_lt, slice_get}
use Rattle.std.specs.List.{list_any}
use Rattle.std.proofs.lemmas.Bool.Decides.{nat_tests}
use Rattle.m3_base.specs.declared.ids.FlightId.{FlightId}
use Rattle.m3_base.specs.declared.packet.Packet.{Packet}
use Rattle.m3_base.specs.declared.packet.Perm.{Perm}
use Rattle.m3_base.specs.declared.packet.Fresh.{Fresh}
use Rattle.m3_base.specs.declared.order.GrantLine.{GrantLine}
use Rattle.m3_base.specs.declared.command.Answer.{Answer}
use Rattle.m3_base.specs.Ideal.Flights.{flight, name_of, same_name, new_flight, end_flight}
use Rattle.m3_base.specs.Ideal.Context.{Kind, Sending, Replying, Reading, Writing, Flying, Endpoint, Free, Sends, Receives, Reaches, Context, endpoint, with_endpoint, new_endpoint}
use Rattle.m3_base.specs.Ideal.Landing.{grant_of, flying_at, without_flying, context_after_answer, endpoint_after_answer, closed_at, flies_at, is_command_at}
use Rattle.m3_base.specs.Ideal.State.{Grant, State, grant_in, parent_in, undone, is_done, holder, holder_ep, context_of, put_context, same_act}
use Rattle.m3_base.specs.Ideal.GrantRules.{form, send_form, part_form, new_grant, is_outside, fresh_of, with_grant_made, kernel_id, close_sent, change_grant, after_revoke, with_root_closing, closing_where, marks_under, or_false, to_closing, to_root, to_sent, to_done}
use Rattle.m3_base.specs.Limits.{is_within, is_in_limits}
use Rattle.m3_base.specs.Ideal.Acceptance.{is_form}
use Rattle.m3_base.specs.Ideal.FlightNames.{Apart}
use Rattle.m3_base.proofs.FlightNames.{ended}
use Rattle.m3_laws.proofs.invariant.step.LookUps.{apart_found, found_ended, found_new}
use Rattle.m3_laws.specs.GrantInvariant.{GrantInvariant}
use Rattle.m3_laws.proofs.credits.Counting.{at_set}
use Rattle.m3_laws.proofs.grants.GrantList.{Changes, at_one, grant_added, changed_from}
use Rattle.m3_laws.proofs.grants.OrdersKeepGrants.{closing_changes, one_changes}
use Rattle.m3_laws.proofs.invariant.records.ClosingRecords.{to_closed}
use Rattle.m3_laws.proofs.invariant.records.RecordFormsStay.{answered_faces}
use Rattle.m3_laws.proofs.invariant.wellformed.ChangeKeeps.{same_grant, use_same, use_put, proper_put, tidy_set, lasts_changed, lasts_added, Lasts, packet_kept}
use Rattle.m3_laws.proofs.invariant.wellformed.IssueKeeps.{fetched_less, fetched_marked}
use Rattle.m3_laws.proofs.invariant.wellformed.LandKeeps.{UsesStay}
use Rattle.m3_laws.proofs.invariant.commands.ListChanges.{flying_at-without, flying_number}
use Rattle.m3_laws.specs.WellFormed.{use_by, has_valid_queues, is_held_at, is_inside, WellFormedPacket, WellFormedContext, WellFormedGrant, WellFormed}
use Rattle.m3_laws.specs.CommandRecord.{CommandsHaveRecords, IsRecordFor, CommandHasRecord}
use Rattle.m3_base.proofs.Activities.{act_found}
use Rattle.m3_base.specs.Ideal.Step.{after_ending}

-- ---- an endpoint that no command uses changes

standing_used : (k : Kind) (t : ℕ) (e : Endpoint) → IsRecordFor k t e → e ≡ Free → ⊥
standing_used Sending t e h q = subst (IsRecordFor Sending t) q h
standing_used Replying t e h q = subst (IsRecordFor Replying t) q h
standing_used Reading t e h q = subst (IsRecordFor Reading t) q h
standing_used Writing t e h q = subst (IsRecordFor Writing t) q h

use_elsewhere : (c : Context) (ep : ℕ) (e : Endpoint) (o : Option Flying) → ((f : Flying) → o ≡ Some f → f.ep ≡ ep → ⊥) → use_by (with_endpoint c ep e) o ≡ use_by c o
use_elsewhere c ep e None h = refl
use_elsewhere c ep e (Some f) h = by_set (at_set c.endpoints ep f.ep e)
  where
    by_set : (get_or (set c.endpoints ep e) f.ep Free ≡ get_or c.endpoints f.ep Free) ⊎ ((f.ep ≡ ep) × (get_or (set c.endpoints ep e) f.ep Free ≡ e)) → use_by (with_endpoint c ep e) (Some f) ≡ use_by c (Some f)
    by_set (inl q) = ap (λ z. Some (record { kind = f.kind; grant = grant_of z })) q
    by_set (inr q) = absurd (h f refl q.0)

pub set_tidy : (c : Context) (ep : ℕ) (e : Endpoint) → WellFormedContext c → has_valid_queues e ≡ true → WellFormedContext (with_endpoint c ep e)
set_tidy c ep e p t = record { next = p.next; queues = tidy_set c.endpoints ep e p.queues t }

pub opened_tidy : (f : Fresh) → has_valid_queues (new_endpoint f) ≡ true
opened_tidy (Fresh.Send g a b d l z n) = refl
opened_tidy (Fresh.Receive g slots size) = refl
opened_tidy (Fresh.Memory g start len perm) = refl

pub uses_stay_install : (ep : ℕ) (f : Fresh) (c : Context) → endpoint c ep ≡ Free → CommandsHaveRecords c → WellFormedContext c → UsesStay c (with_endpoint c ep (new_endpoint f))
uses_stay_install ep f c free st p = record {
  act = refl;
  uses = λ n. use_elsewhere c ep (new_endpoint f) (flying_at n c.flying) (λ x e q. never x (subst (CommandHasRecord c) e (st n)) q);
  proper = set_tidy c ep (new_endpoint f) p (opened_tidy f);
}
  where
    never : (x : Flying) → IsRecordFor x.kind x.token (endpoint c x.ep) → x.ep ≡ ep → ⊥
    never x h q = standing_used x.kind x.token (endpoint c x.ep) h (ap (endpoint c) q ∙ free)

closed_grant : (e : Endpoint) → grant_of (closed_at e) ≡ grant_of e
closed_grant Free = refl
closed_grant (Sends r) = refl
closed_grant (Receives r) = refl
closed_grant (Reaches r) = refl

closed_tidy : (e : Endpoint) → has_valid_queues e ≡ true → has_valid_queues (closed_at e) ≡ true
closed_tidy Free t = refl
closed_tidy (Sends r) t = refl
closed_tidy (Receives r) t = t
closed_tidy (Reaches r) t = refl

pub uses_stay_close : (ep : ℕ) (c : Context) → WellFormedContext c → UsesStay c (with_endpoint c ep (closed_at (endpoint c ep)))
uses_stay_close ep c p = record {
  act = refl;
  uses = λ n. use_same c (with_endpoint c ep (closed_at (endpoint c ep))) (λ i. by_set i (at_set c.endpoints ep i (closed_at (endpoint c ep)))) (flying_at n c.flying);
  proper = set_tidy c ep (closed_at (endpoint c ep)) p (closed_tidy (endpoint c ep) (p.queues ep));
}
  where
    by_set : (i : ℕ) → (get_or (set c.endpoints ep (closed_at (endpoint c ep))) i Free ≡ get_or c.endpoints i Free) ⊎ ((i ≡ ep) × (get_or (set c.endpoints ep (closed_at (endpoint c ep))) i Free ≡ closed_at (endpoint c ep))) → grant_of (endpoint (with_endpoint c ep (closed_at (endpoint c ep))) i) ≡ grant_of (endpoint c i)
    by_set i (inl q) = ap grant_of q
    by_set i (inr q) = ap grant_of q.1 ∙ (closed_grant (endpoint c ep) ∙ ap (λ k. grant_of (endpoint c k)) (sym q.0))

pub none_uses : (ep n : ℕ) (fs : List Flying) (x : Flying) → list_any (is_command_at ep) fs ≡ false → flying_at n fs ≡ Some x → x.ep ≡ ep → ⊥
none_uses ep n [] x u e q = cc
none_uses ep n (y ∷ fs) x u e q = by_number (y.number == n) refl (none_uses ep n fs x (grind (arith, u)))
  where
    by_number : (b : Bool) → (y.number == n) ≡ b → (flying_at n fs ≡ Some x → x.ep ≡ ep → ⊥) → ⊥
    by_number true w ih =
        let same : y ≡ x = grind (arith, w, e) in
        let at : y.ep ≡ ep = ap (λ z. z.ep) same ∙ q in
        grind (arith, nat_tests, u, at)
    by_number false w ih = ih (grind (arith, w, e)) q

pub uses_stay_free : (ep : ℕ) (c : Context) → flies_at ep c ≡ false → WellFormedContext c → UsesStay c (with_endpoint c ep Free)
uses_stay_free ep c none p = record {
  act = refl;
  uses = λ n. use_elsewhere c ep Free (flying_at n c.flying) (λ x e q. none_uses ep n c.flying x none e q);
  proper = set_tidy c ep Free p refl;
}

-- ---- an answer

settled_tidy : (k : Kind) (t : ℕ) (answer : Answer) (e : Endpoint) → has_valid_queues e ≡ true → has_valid_queues (endpoint_after_answer k t answer e) ≡ true
settled_tidy Sending t (Answer.Refused x) (Sends r) h = refl
settled_tidy Replying t Answer.Replied (Receives r) h = grind (arith, h, fetched_less t r.fetched)
settled_tidy Replying t (Answer.Refused x) (Receives r) h = grind (arith, h, fetched_marked false t r.fetched)
settled_tidy k t answer e h = h

pub answer_proper : (s : State) (id : FlightId) (answer : Answer) (c : Context) (f : Flying) → GrantInvariant s → WellFormed s → context_of id.issuer s.contexts ≡ Some c → flying_at id.number c.flying ≡ Some f → WellFormed (after_ending s id (context_after_answer f answer c))
answer_proper s id answer c f law ok at e =
    let d : Context = context_after_answer f answer c in
    let p = ok.contexts id.issuer c at in
    let own : id.issuer ≡ c.act = act_found id.issuer c s.contexts at in
    let there : context_of d.act s.contexts ≡ Some c = subst (λ z. context_of z s.contexts ≡ Some c) own at in
    proper_put s c d (end_flight id s.flights) ok there (set_tidy (record c { flying = without_flying f.number c.flying }) f.ep (endpoint_after_answer f.kind f.token answer (endpoint c f.ep)) (record { next = p.next; queues = p.queues }) (settled_tidy f.kind f.token answer (endpoint c f.ep) (p.queues f.ep)))
    (λ i x w. inl (found_ended id i x s.flights law.placed.distinct w, use_put s.contexts c d (name_of x) there (λ same. stays x own (apart_found id i x (end_flight id s.flights) (ended id s.flights law.placed.distinct) w) same)))
  where
    stays : (x : Packet) → id.issuer ≡ c.act → same_name id (name_of x) ≡ false → same_act (name_of x).issuer c.act ≡ true → use_by (context_after_answer f answer c) (flying_at (name_of x).number (context_after_answer f answer c).flying) ≡ use_by c (flying_at (name_of x).number c.flying)
    stays x own ne same =
        let its = flying_number id.number f c.flying e in
        let other : (name_of x).number ≢ f.number = (λ q. grind (arith, nat_tests, own, ne, same, its, q)) in
        ap (use_by (context_after_answer f answer c)) (flying_at-without (name_of x).number f.number c.flying other) ∙ use_same c (context_after_answer f answer c) (same_grant c (context_after_answer f answer c) (answered_faces f answer c)) (flying_at (name_of x).number c.flying)

-- ---- grants

grant_properly : (memory : ℕ) (x y : Grant) → y.fresh ≡ x.fresh → WellFormedGrant memory x → WellFormedGrant memory y
grant_properly memory x y e p = record { form = subst (λ z. is_form z ≡ true) (sym e) p.form; inside = subst (λ z. is_inside memory z ≡ true) (sym e) p.inside }

pub proper_grants : (s : State) (ks : List Grant) → WellFormed s → Lasts s.grants ks → ((g : ℕ) (y : Grant) → grant_in ks g ≡ Some y → WellFormedGrant (length s.memory) y × (g ≤ 4096)) → WellFormed (record s { grants = ks })
proper_grants s ks ok l new = record {
  contexts = ok.contexts;
  packets = λ id p e. packet_kept s.grants ks s.contexts s.contexts p l refl (ok.packets id p e);
  grants = λ g y e. (new g y e).0;
  orders = ok.orders;
  few = λ g y e. (new g y e).1;
  memory = ok.memory;
}

pub proper_changed : (s : State) (ks : List Grant) (f : ℕ → Grant → Grant) → WellFormed s → Changes s.grants ks f → WellFormed (record s { grants = ks })
proper_changed s ks f ok ch = proper_grants s ks ok (lasts_changed s.grants ks f ch) new
  where
    new : (g : ℕ) (y : Grant) → grant_in ks g ≡ Some y → WellFormedGrant (length s.memory) y × (g ≤ 4096)
    new g y e =
        let old = changed_from s.grants ks f ch g y (grant_in s.grants g) refl (sym (ch.at g) ∙ e) in
        let same : y.fresh ≡ (old.0).fresh = subst (λ z. z.fresh ≡ (old.0).fresh) old.1.1 (ch.fresh g old.0) in
        (grant_properly (length s.memory) old.0 y same (ok.grants g old.0 old.1.0), ok.few g old.0 old.1.0)

-- one more packet of the kernel's
pub proper_order : (s : State) (p : Packet) → WellFormed s → Apart (name_of p) s.flights → WellFormedPacket s.grants s.contexts p → WellFormed (record s { flights = new_flight p s.flights; kernel_next = s.kernel_next + 1 })
proper_order s p ok apart new = record {
  contexts = ok.contexts;
  packets = λ id q e. either id q (found_new id q p s.flights apart e);
  grants = ok.grants;
  orders = omega arith;
  few = ok.few;
  memory = ok.memory;
}
  where
    either : (id : FlightId) (q : Packet) → (q ≡ p) ⊎ (flight id s.flights ≡ Some q) → WellFormedPacket s.grants s.contexts q
    either id q (inl z) = subst (WellFormedPacket s.grants s.contexts) (sym z) new
    either id q (inr z) = ok.packets id q z

pub revoke_proper : (s : State) (g : ℕ) → WellFormed s → WellFormed (record s { grants = after_revoke s.grants g })
revoke_proper s g ok =
    let bs = marks_under g 1 [] s.grants in
    let hs = closing_where bs s.grants in
    proper_changed (record s { grants = hs }) (with_root_closing hs g) (at_one g to_root) (proper_changed s hs (λ h x. to_closing (or_false (slice_get bs (h - 1))) x) ok (closing_changes bs s.grants)) (one_changes hs g to_root (λ x. (refl, refl)))

pub done_proper : (s : State) (g : ℕ) → WellFormed s → WellFormed (record s { grants = change_grant s.grants g to_done })
done_proper s g ok = proper_changed s (change_grant s.grants g to_done) (at_one g to_done) ok (one_changes s.grants g to_done (λ x. (refl, refl)))

pub closed_proper : (s : State) (ep g : ℕ) (c : Context) → GrantInvariant s → WellFormed s → context_of c.act s.contexts ≡ Some c → flies_at ep c ≡ false → WellFormed (record s { contexts = put_context (with_endpoint c ep Free) s.contexts; grants = change_grant s.grants g to_closed })
closed_proper s ep g c law ok at none =
    let d : Context = with_endpoint c ep Free in
    let r = uses_stay_free ep c none (ok.contexts c.act c at) in
    proper_changed (record s { contexts = put_context d s.contexts }) (change_grant s.grants g to_closed) (at_one g to_closed)
    (proper_put s c d s.flights ok at r.proper (λ i p e. inl (e, use_put s.contexts c d (name_of p) at (λ w. r.uses (name_of p).number))))
    (one_changes s.grants g to_closed (λ x. (refl, refl)))

pub sent_proper : (s : State) (g : ℕ) (x : Grant) → GrantInvariant s → WellFormed s → grant_in s.grants g ≡ Some x → WellFormed (close_sent s g x)
sent_proper s g x law ok at =
    let ks = change_grant s.grants g to_sent in
    let ch = one_changes s.grants g to_sent (λ y. (refl, refl)) in
    let p : Packet = Packet.Close (kernel_id s) (holder x.line) (holder_ep x.line) g in
    let y = lasts_changed s.grants ks (at_one g to_sent) ch g x at in
    let held : is_held_at (holder x.line) (holder_ep x.line) (grant_in ks g) ≡ true = rw (y.1.0) (rw (y.1.1.0) (grind (arith, nat_tests))) in
    let next = ok.orders in
    proper_order (record s { grants = ks }) p (proper_changed s ks (at_one g to_sent) ok ch) (law.traffic.orders s.kernel_next (omega arith)) (record { numbers = grind (arith, nat_tests, next); command = refl; entitled = held })

-- ---- a new grant

send_proper : (memory g of label credits : ℕ) (above : GrantLine) (p f : Fresh) → is_within 1 32 credits ≡ true → is_form p ≡ true → send_form g of label credits above p ≡ Some f → (is_form f ≡ true) × (is_inside memory f ≡ true)
send_proper memory g of label credits above (Fresh.Receive h slots size) f n i e = let q : Fresh.Send g (holder above) (holder_ep above) of label size credits ≡ f = cc in (subst (λ z. is_form z ≡ true) q (grind (arith, n, i)), subst (λ z. is_inside memory z ≡ true) q refl)
send_proper memory g of label credits above (Fresh.Send h a b c l s m) f n i e = absurd (cc)
send_proper memory g of label credits above (Fresh.Memory h s l q) f n i e = absurd (cc)

part_proper : (memory g at len : ℕ) (perm : Perm) (p f : Fresh) → memory ≤ 1048576 → nat_lt 0 len ≡ true → is_inside memory p ≡ true → ((h start extent : ℕ) (its : Perm) → p ≡ Fresh.Memory h start extent its → nat_lt extent (at + len) ≡ false) → part_form g at len perm p ≡ Some f → (is_form f ≡ true) × (is_inside memory f ≡ true)
part_proper memory g at len perm (Fresh.Memory h start extent its) f m n i o e =
    let b = o h start extent its refl in
    let q : Fresh.Memory g (start + at) len perm ≡ f = cc in
    (subst (λ z. is_form z ≡ true) q (grind (arith, nat_tests, m, n, i, b)), subst (λ z. is_inside memory z ≡ true) q (grind (arith, nat_tests, i, b)))
part_proper memory g at len perm (Fresh.Receive h slots size) f m n i o e = absurd (cc)
part_proper memory g at len perm (Fresh.Send h a b c l s k) f m n i o e = absurd (cc)

abbrev pub ProperAbove : ℕ → Option Grant → Type 0
ProperAbove memory None = Unit {0}
ProperAbove memory (Some x) = WellFormedGrant memory x

pub line_proper : (memory g : ℕ) (line : GrantLine) (p : Option Grant) (f : Fresh) → memory ≤ 1048576 → is_in_limits line ≡ true → ProperAbove memory p → is_outside memory line (fresh_of p) ≡ false → form g line p ≡ Some f → (is_form f ≡ true) × (is_inside memory f ≡ true)
line_proper memory g (GrantLine.Recv a e slots size) p f m n i o h = let q : Fresh.Receive g slots size ≡ f = cc in (subst (λ z. is_form z ≡ true) q (grind (arith, n)), subst (λ z. is_inside memory z ≡ true) q refl)
line_proper memory g (GrantLine.Range a e at len perm) p f m n i o h = let q : Fresh.Memory g at len perm ≡ f = cc in (subst (λ z. is_form z ≡ true) q (grind (arith, nat_tests, m, n, o)), subst (λ z. is_inside memory z ≡ true) q (grind (arith, nat_tests, o)))
line_proper memory g (GrantLine.Send a e of label credits) None f m n i o h = absurd (cc)
line_proper memory g (GrantLine.Send a e of label credits) (Some x) f m n i o h = send_proper memory g of label credits x.line x.fresh f n i.form h
line_proper memory g (GrantLine.Part a e of at len perm) None f m n i o h = absurd (cc)
line_proper memory g (GrantLine.Part a e of at len perm) (Some x) f m n i o h =
    part_proper memory g at len perm x.fresh f m n i.inside (λ k start extent its w. subst (λ (y : Fresh). is_outside memory (GrantLine.Part a e of at len perm) (Some y) ≡ false) w o) h

pub proper_undone : (s : State) → WellFormed s → (o : Option ℕ) → ProperAbove (length s.memory) (undone (parent_in s.grants o))
proper_undone s ok None = tt
proper_undone s ok (Some p) = by_grant (grant_in s.grants p) refl
  where
    by_grant : (o : Option Grant) → grant_in s.grants p ≡ o → ProperAbove (length s.memory) (undone o)
    by_grant None e = tt
    by_grant (Some x) e = by_done (is_done x.standing)
      where
        by_done : (b : Bool) → ProperAbove (length s.memory) (if b then None else Some x)
        by_done true = tt
        by_done false = ok.grants p x e

pub proper_grown : (s : State) (line : GrantLine) (f : Fresh) → WellFormed s → (is_form f ≡ true) × (is_inside (length s.memory) f ≡ true) → length s.grants < 4096 → WellFormed (record s { grants = s.grants ++ new_grant line f ∷ [] })
proper_grown s line f ok good room = proper_grants s (s.grants ++ new_grant line f ∷ []) ok (lasts_added s.grants (new_grant line f)) new
  where
    new : (g : ℕ) (y : Grant) → grant_in (s.grants ++ new_grant line f ∷ []) g ≡ Some y → WellFormedGrant (length s.memory) y × (g ≤ 4096)
    new g y e = by_number (g == (length s.grants + 1)) refl (sym (grant_added s.grants (new_grant line f) g) ∙ e)
      where
        by_number : (b : Bool) → (g == (length s.grants + 1)) ≡ b → (if b then Some (new_grant line f) else grant_in s.grants g) ≡ Some y → WellFormedGrant (length s.memory) y × (g ≤ 4096)
        by_number true w q = let same : new_grant line f ≡ y = cc in let n : g ≡ length s.grants + 1 = grind (arith, nat_tests, w) in (subst (WellFormedGrant (length s.memory)) same (record { form = good.0; inside = good.1 }), omega (arith, n, room))
        by_number false w q = (ok.grants g y q, ok.few g y q)

pub made_proper : (s : State) (line : GrantLine) (f : Fresh) → GrantInvariant s → WellFormed s → (is_form f ≡ true) × (is_inside (length s.memory) f ≡ true) → length s.grants < 4096 → WellFormed (with_grant_made s line f)
made_proper s line f law ok good room =
    let next = ok.orders in
    let its = good.0 in
    proper_order (record s { grants = s.grants ++ new_grant line f ∷ [] }) (Packet.Install (kernel_id s) (holder line) (holder_ep line) f) (proper_grown s line f ok good room) (law.traffic.orders s.kernel_next (omega arith)) (record { numbers = grind (arith, nat_tests, next, its); command = refl; entitled = refl })
