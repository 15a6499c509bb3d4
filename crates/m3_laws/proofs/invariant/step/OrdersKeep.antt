-- Each order keeps the grant invariant.
use Rattle.std.proofs.Common.{◌≡◌, ◌≢◌, ℕ, ◌+◌, ◌-◌, ◌<◌, ◌≤◌, Bool, true, false, List, [], ◌∷◌, ◌++◌, length, Some, None, refl, sym, subst, ◌∙◌, ap, arith, inl, inr}
use Rattle.std.specs.Prelude.{Option, if◌then◌else◌, ◌==◌, ◌&&◌, ◌⊎◌, slice_get}
use Rattle.std.specs.Option.{option_map}
use Rattle.std.specs.List.{list_any}
use Rattle.std.proofs.lemmas.Bool.Decides.{nat_tests}
use Rattle.m3_base.specs.declared.ids.FlightId.{FlightId}
use Rattle.m3_base.specs.declared.message.Message.{Message}
use Rattle.m3_base.specs.declared.packet.Packet.{Packet}
use Rattle.m3_base.specs.declared.packet.Fresh.{Fresh}
use Rattle.m3_base.specs.declared.order.GrantLine.{GrantLine}
use Rattle.m3_base.specs.Lists.Counting.{how_many}
use Rattle.m3_base.specs.Ideal.Flights.{kernel, flight, end_flight, new_flight, same_name, name_of}
use Rattle.m3_base.specs.Ideal.Context.{Fetched, Endpoint, Free, Sends, Receives, Reaches, Context, endpoint, with_endpoint, new_endpoint}
use Rattle.m3_base.specs.Ideal.Landing.{closed_at, has_live, has_closing, flies_at}
use Rattle.m3_base.specs.Ideal.State.{Standing, Live, Closing, Closed, Done, Grant, State, context_of, put_context, act_of, same_act, act_before, grant_in, holder, holder_ep, parent_of, parent_in, undone, is_done, is_open}
use Rattle.m3_base.specs.Ideal.GrantRules.{form, with_grant_made, after_revoke, may_close, close_sent, change_grant, kernel_id, new_grant, holds_at, is_above_closing, with_root_closing, closing_where, marks_under, or_false, to_closing, to_root, to_sent, to_done}
use Rattle.m3_base.specs.Ideal.Step.{number_of, after_ending}
use Rattle.m3_base.specs.Ideal.Credits.{carries_credit, queued_credits, credits, is_sent_by, is_owed}
use Rattle.m3_base.proofs.KeyedList.{total-replaced}
use Rattle.m3_base.specs.Ideal.FlightNames.{Apart}
use Rattle.m3_base.proofs.FlightNames.{flight-new, apart-end}
use Rattle.m3_laws.proofs.credits.EndpointWeights.{weight, context_weight}
use Rattle.m3_laws.proofs.credits.Land.{credits_are, how_many-agree, carries-put}
use Rattle.m3_laws.proofs.credits.Orders.{make_credits, close_credits, kernel_ended, install_weight, close_weight, free_weight}
use Rattle.m3_laws.proofs.invariant.step.LookUps.{found_ended, found_new}
use Rattle.m3_laws.specs.GrantInvariant.{is_ready, is_open_grant, is_close_sent, KeepsOpen, HolderIs, ChildOf, AllSentTo, AllFetchedTo, QueueLawful, PacketLawful, Traffic, CreditsLawful, GrantInvariant, GrantsLawful}
use Rattle.m3_laws.specs.Laws.{limit_of}
use Rattle.m3_laws.proofs.invariant.records.RecordsOfGrants.{install_free, install_inside, install_placed}
use Rattle.m3_laws.proofs.invariant.records.ClosingRecords.{close_placed, closed_placed, was_sent, was_open, to_closed}
use Rattle.m3_laws.proofs.invariant.records.OrdersKeepRecords.{revoke_placed, done_placed, sent_placed, made_placed, form_number, none_past}
use Rattle.m3_laws.proofs.grants.GrantList.{Changes, at_one, grant_changed, grant_added}
use Rattle.m3_laws.proofs.grants.OrdersKeepGrants.{closing_changes, one_changes}
use Rattle.m3_laws.proofs.invariant.step.ChangeKeepsTraffic.{leaves_install, leaves_close, leaves_free, data_left, Grows, data_grown, Claimed, credits_keep, IsOrder, order_lawful}
use Rattle.m3_base.proofs.Activities.{found_own}
use Rattle.m3_base.proofs.GrantsByNumber.{grant_past}

-- ---- an Install lands

pub install_lawful : (s : State) (id x : FlightId) (to ep : ℕ) (f : Fresh) (c : Context) → GrantInvariant s → flight id s.flights ≡ Some (Packet.Install x to ep f) → context_of to s.contexts ≡ Some c → GrantInvariant (after_ending s id (with_endpoint c ep (new_endpoint f)))
install_lawful s id x to ep f c law find at =
    let here : context_of c.act s.contexts ≡ Some c = found_own to c s.contexts at in
    let ok = law.traffic.contexts c.act c here in
    let free = install_free s law.placed id x to ep f c find at in
    let l = leaves_install s.grants ep f c free ok.stands ok.queues in
    record {
      placed = install_placed s law.placed id x to ep f c find at;
      traffic = data_left s.grants s.contexts s.flights (end_flight id s.flights) s.kernel_next c (with_endpoint c ep (new_endpoint f)) law.traffic here l (λ i a. apart-end i id s.flights a) (λ i p e. inl (found_ended id i p s.flights law.placed.distinct e));
      credits = λ g. credits_keep (grant_in s.grants g) (credits g s) _ (λ claim.
          kernel_ended g s id c (with_endpoint c ep (new_endpoint f)) (Packet.Install x to ep f) l.back here find refl (install_weight g c ep f x to (install_inside s law.placed id x to ep f c find at) free)) (law.credits g);
    }

-- ---- a Close lands

live_used : (g : ℕ) (e : Endpoint) → has_live g e ≡ true → e ≢ Free
live_used g e h q = let z : has_live g Free ≡ true = subst (λ y. has_live g y ≡ true) q h in cc

pub close_lawful : (s : State) (id x : FlightId) (to ep g : ℕ) (c : Context) → GrantInvariant s → flight id s.flights ≡ Some (Packet.Close x to ep g) → context_of to s.contexts ≡ Some c → has_live g (endpoint c ep) ≡ true → GrantInvariant (after_ending s id (with_endpoint c ep (closed_at (endpoint c ep))))
close_lawful s id x to ep g c law find at live =
    let here : context_of c.act s.contexts ≡ Some c = found_own to c s.contexts at in
    let ok = law.traffic.contexts c.act c here in
    let d = with_endpoint c ep (closed_at (endpoint c ep)) in
    let l = leaves_close s.grants ep c ok.stands ok.queues in
    record {
      placed = close_placed s law.placed id x to ep g c find here live;
      traffic = data_left s.grants s.contexts s.flights (end_flight id s.flights) s.kernel_next c d law.traffic here l (λ i a. apart-end i id s.flights a) (λ i p e. inl (found_ended id i p s.flights law.placed.distinct e));
      credits = λ h. credits_keep (grant_in s.grants h) (credits h s) _ (λ claim.
          kernel_ended h s id c d (Packet.Close x to ep g) l.back here find refl (close_weight h c ep (live_used g (endpoint c ep) live) ∙ omega arith)) (law.credits h);
    }

-- ---- grants that keep their lines

grows : (gs ks : List Grant) (f : ℕ → Grant → Grant) → Changes gs ks f → Grows gs ks
grows gs ks f ch = record { holds = λ g a h. subst (λ z. HolderIs z a) (sym (ch.at g)) (by_holder g a (grant_in gs g) h); child = λ g a k h. subst (λ z. ChildOf z a k) (sym (ch.at g)) (by_child g a k (grant_in gs g) h) }
  where
    by_holder : (g a : ℕ) (o : Option Grant) → HolderIs o a → HolderIs (option_map (f g) o) a
    by_holder g a None h = absurd h
    by_holder g a (Some x) h = ap holder (ch.line g x) ∙ h

    by_child : (g a k : ℕ) (o : Option Grant) → ChildOf o a k → ChildOf (option_map (f g) o) a k
    by_child g a k None h = absurd h
    by_child g a k (Some x) h = (ap holder (ch.line g x) ∙ h.0, ap parent_of (ch.line g x) ∙ h.1)

-- what a changed grant claims it claimed before
credits_changed : (gs ks : List Grant) (f : ℕ → Grant → Grant) → Changes gs ks f → (g n : ℕ) → ((x : Grant) → grant_in gs g ≡ Some x → is_open (f g x).standing ≡ true → is_open x.standing ≡ true) → CreditsLawful (grant_in gs g) n → CreditsLawful (grant_in ks g) n
credits_changed gs ks f ch g n back l = subst (λ z. CreditsLawful z n) (sym (ch.at g)) (by_grant (grant_in gs g) refl l)
  where
    by_grant : (o : Option Grant) → grant_in gs g ≡ o → CreditsLawful o n → CreditsLawful (option_map (f g) o) n
    by_grant None e l = l
    by_grant (Some x) e l = λ z. l (back x e z) ∙ ap limit_of (sym (ch.fresh g x))

closing_back : (b : Bool) (x : Grant) → is_open (to_closing b x).standing ≡ true → is_open x.standing ≡ true
closing_back b x = by_mark (b && is_live' x.standing) refl
  where
    is_live' : Standing → Bool
    is_live' Live = true
    is_live' t = false

    by_mark : (d : Bool) → (b && is_live' x.standing) ≡ d → is_open (to_closing b x).standing ≡ true → is_open x.standing ≡ true
    by_mark d e h = by_standing x.standing refl
      where
        by_standing : (t : Standing) → x.standing ≡ t → is_open x.standing ≡ true
        by_standing Live q = rw q refl
        by_standing Closing q = rw q refl
        by_standing Closed q = absurd (grind (arith, h, q))
        by_standing Done q = absurd (grind (arith, h, q))

pub revoke_lawful : (s : State) (g : ℕ) → GrantInvariant s → GrantInvariant (record s { grants = after_revoke s.grants g })
revoke_lawful s g law =
    let bs = marks_under g 1 [] s.grants in
    let hs = closing_where bs s.grants in
    let mark : ℕ → Grant → Grant = λ h x. to_closing (or_false (slice_get bs (h - 1))) x in
    let first = closing_changes bs s.grants in
    let second = one_changes hs g to_root (λ x. (refl, refl)) in
    record {
      placed = revoke_placed s g law.placed;
      traffic = data_grown hs (with_root_closing hs g) (grows hs (with_root_closing hs g) (at_one g to_root) second) s.contexts s.flights s.kernel_next (data_grown s.grants hs (grows s.grants hs mark first) s.contexts s.flights s.kernel_next law.traffic);
      credits = λ h. credits_changed hs (with_root_closing hs g) (at_one g to_root) second h (credits h s) (λ x e z. by_root x (h == g) z) (credits_changed s.grants hs mark first h (credits h s) (λ x e z. closing_back (or_false (slice_get bs (h - 1))) x z) (law.credits h));
    }
  where
    by_root : (x : Grant) (b : Bool) → is_open (if b then to_root x else x).standing ≡ true → is_open x.standing ≡ true
    by_root x true z = z
    by_root x false z = z

pub done_lawful : (s : State) (g : ℕ) (x : Grant) → grant_in s.grants g ≡ Some x → x.standing ≡ Closed → GrantInvariant s → GrantInvariant (record s { grants = change_grant s.grants g to_done })
done_lawful s g x at closed law =
    let ch = one_changes s.grants g to_done (λ y. (refl, refl)) in
    record {
      placed = done_placed s g x at closed law.placed;
      traffic = data_grown s.grants (change_grant s.grants g to_done) (grows s.grants (change_grant s.grants g to_done) (at_one g to_done) ch) s.contexts s.flights s.kernel_next law.traffic;
      credits = λ h. credits_changed s.grants (change_grant s.grants g to_done) (at_one g to_done) ch h (credits h s) (λ y e z. by_done y (h == g) z) (law.credits h);
    }
  where
    by_done : (y : Grant) (b : Bool) → is_open (if b then to_done y else y).standing ≡ true → is_open y.standing ≡ true
    by_done y true z = absurd (cc)
    by_done y false z = z

-- ---- an endpoint becomes free

closing_used : (g : ℕ) (e : Endpoint) → has_closing g e ≡ true → e ≢ Free
closing_used g e h q = let z : has_closing g Free ≡ true = subst (λ y. has_closing g y ≡ true) q h in cc

none_sent : (gs : List Grant) (g h : ℕ) → (ChildTo : (a : ℕ) → ChildOf (grant_in gs h) a g → ⊥) → (ms : List Message) → AllSentTo gs g ms → how_many (is_sent_by h) ms ≡ 0
none_sent gs g h no' [] a = refl
none_sent gs g h no' (m ∷ ms) a = by_head (is_sent_by h m) refl (none_sent gs g h no' ms a.1)
  where
    by_head : (b : Bool) → is_sent_by h m ≡ b → how_many (is_sent_by h) ms ≡ 0 → how_many (is_sent_by h) (m ∷ ms) ≡ 0
    by_head false w ih = grind (arith, w, ih)
    by_head true w ih =
        let z : m.header.flags ≡ 0 = grind (arith, nat_tests, w) in
        let q : m.header.send ≡ h = grind (arith, nat_tests, w) in
        absurd (no' m.header.sender (subst (λ k. ChildOf (grant_in gs k) m.header.sender g) q (a.0 z)))

none_owed : (gs : List Grant) (g h : ℕ) → (ChildTo : (a : ℕ) → ChildOf (grant_in gs h) a g → ⊥) → (fs : List Fetched) → AllFetchedTo gs g fs → how_many (is_owed h) fs ≡ 0
none_owed gs g h no' [] a = refl
none_owed gs g h no' (f ∷ fs) a = by_head (is_owed h f) refl (none_owed gs g h no' fs a.1)
  where
    by_head : (b : Bool) → is_owed h f ≡ b → how_many (is_owed h) fs ≡ 0 → how_many (is_owed h) (f ∷ fs) ≡ 0
    by_head false w ih = grind (arith, w, ih)
    by_head true w ih =
        let z : f.message.header.flags ≡ 0 = grind (arith, nat_tests, w) in
        let q : f.message.header.send ≡ h = grind (arith, nat_tests, w) in
        absurd (no' f.message.header.sender (subst (λ k. ChildOf (grant_in gs k) f.message.header.sender g) q (a.0 z)))

no_weight : (gs : List Grant) (g h : ℕ) → (g == h) ≡ false → ((a : ℕ) → ChildOf (grant_in gs h) a g → ⊥) → (e : Endpoint) → has_closing g e ≡ true → QueueLawful gs e → weight h e ≡ 0
no_weight gs g h ne no' Free is q = refl
no_weight gs g h ne no' (Sends r) is q = grind (arith, nat_tests, ne, is)
no_weight gs g h ne no' (Reaches r) is q = refl
no_weight gs g h ne no' (Receives r) is q =
    let e : r.grant ≡ g = grind (arith, nat_tests, is) in
    omega (arith, none_sent gs g h no' r.unread (subst (λ z. AllSentTo gs z r.unread) e q.0), none_owed gs g h no' r.fetched (subst (λ z. AllFetchedTo gs z r.fetched) e q.1))

-- a claimed grant has no parent whose Close was sent
childless_claim : (gs : List Grant) (g h : ℕ) → GrantsLawful gs → is_close_sent (grant_in gs g) ≡ true → Claimed (grant_in gs h) → (a : ℕ) → ChildOf (grant_in gs h) a g → ⊥
childless_claim gs g h law sent claim a child = by_grant (grant_in gs h) refl claim child
  where
    not_ready : (o : Option Grant) → is_close_sent o ≡ true → is_ready o ≡ true → ⊥
    not_ready None s r = absurd (cc)
    not_ready (Some x) s r = grind (arith, s, r)

    open_not_done : (t : Standing) → is_open t ≡ true → is_done t ≡ false
    open_not_done Live e = refl
    open_not_done Closing e = refl
    open_not_done Closed e = refl
    open_not_done Done e = absurd (cc)

    by_grant : (o : Option Grant) → grant_in gs h ≡ o → Claimed o → ChildOf o a g → ⊥
    by_grant None e c k = absurd k
    by_grant (Some x) e c k =
        let r : KeepsOpen gs (Some g) = subst (KeepsOpen gs) k.1 ((law h x e).above (open_not_done x.standing c)) in
        not_ready (grant_in gs g) sent r

pub closed_lawful : (s : State) (ep g : ℕ) (c : Context) → GrantInvariant s → context_of c.act s.contexts ≡ Some c → has_closing g (endpoint c ep) ≡ true → flies_at ep c ≡ false → GrantInvariant (record s { contexts = put_context (with_endpoint c ep Free) s.contexts; grants = change_grant s.grants g to_closed })
closed_lawful s ep g c law here is none =
    let ok = law.traffic.contexts c.act c here in
    let d = with_endpoint c ep Free in
    let ks = change_grant s.grants g to_closed in
    let ch = one_changes s.grants g to_closed (λ y. (refl, refl)) in
    let l = leaves_free s.grants ep c none ok.stands ok.queues in
    record {
      placed = closed_placed s law.placed ep g c here is;
      traffic = data_grown s.grants ks (grows s.grants ks (at_one g to_closed) ch) (put_context d s.contexts) s.flights s.kernel_next (data_left s.grants s.contexts s.flights s.flights s.kernel_next c d law.traffic here l (λ i a. a) (λ i p e. inl e));
      credits = λ h. by_grant h (h == g) refl ch (λ ne claim.
          let w = no_weight s.grants g h ne (childless_claim s.grants g h law.placed.grants (was_sent s law.placed ep g c here is) claim) (endpoint c ep) is (ok.queues ep) in
          omega (
            arith,
            w,
            free_weight h c ep (closing_used g (endpoint c ep) is),
            credits_are h s,
            credits_are h (record s { contexts = put_context d s.contexts; grants = ks }),
            total-replaced act_of same_act act_before (context_weight h) d c s.contexts here,
            how_many-agree (carries_credit h (put_context d s.contexts)) (carries_credit h s.contexts) (carries-put h s.contexts c d l.back here) s.flights,
          ));
    }
  where
    by_grant : (h : ℕ) (b : Bool) → (h == g) ≡ b → Changes s.grants (change_grant s.grants g to_closed) (at_one g to_closed) → ((g == h) ≡ false → Claimed (grant_in s.grants h) → credits h (record s { contexts = put_context (with_endpoint c ep Free) s.contexts; grants = change_grant s.grants g to_closed }) ≡ credits h s) → CreditsLawful (grant_in (change_grant s.grants g to_closed) h) (credits h (record s { contexts = put_context (with_endpoint c ep Free) s.contexts; grants = change_grant s.grants g to_closed }))
    by_grant h false w ch same =
        credits_changed s.grants (change_grant s.grants g to_closed) (at_one g to_closed) ch h _ (λ x e z. grind (arith, w, z)) (credits_keep (grant_in s.grants h) (credits h s) _ (same (grind (arith, nat_tests, w))) (law.credits h))
    by_grant h true w ch same = subst (λ z. CreditsLawful z (credits h (record s { contexts = put_context (with_endpoint c ep Free) s.contexts; grants = change_grant s.grants g to_closed }))) (sym (grant_changed s.grants g to_closed h)) (by_none (grant_in s.grants h) refl)
      where
        some_open : (o : Option Grant) → is_open_grant o ≡ true → o ≡ None → ⊥
        some_open None p q = absurd (cc)
        some_open (Some x) p q = absurd (cc)

        by_none : (o : Option Grant) → grant_in s.grants h ≡ o → CreditsLawful (option_map (at_one g to_closed h) o) (credits h (record s { contexts = put_context (with_endpoint c ep Free) s.contexts; grants = change_grant s.grants g to_closed }))
        by_none None e =
            let q : h ≡ g = grind (arith, nat_tests, w) in
            absurd (some_open (grant_in s.grants g) (was_open s law.placed ep g c here is) (subst (λ z. grant_in s.grants z ≡ None) q e))
        by_none (Some x) e = λ z. absurd (grind (arith, w, z))

-- ---- the kernel sends a Close or an Install

data_sent : (gs : List Grant) (cs : List Context) (fs : List Packet) (next : ℕ) (p : Packet) → IsOrder p → name_of p ≡ record { issuer = kernel; number = next } → Traffic gs cs fs next → Traffic gs cs (new_flight p fs) (next + 1)
data_sent gs cs fs next p o name law = record {
  acts = law.acts;
  contexts = λ a c e.
      let ok = law.contexts a c e in
      record { act = ok.act; lone = ok.lone; fresh = ok.fresh; apart = λ n h. flight-new (record { issuer = c.act; number = n }) p fs (other c.act n ok.act) ∙ ok.apart n h; stands = ok.stands; queues = ok.queues };
  packets = λ i q e. by_new i q (found_new i q p fs free e);
  orders = λ n h. flight-new (record { issuer = kernel; number = n }) p fs (later n h) ∙ law.orders n (omega (arith, h));
}
  where
    free : Apart (name_of p) fs
    free = subst (λ z. Apart z fs) (sym name) (law.orders next (omega arith))

    other : (a n : ℕ) → a < kernel → same_name (record { issuer = a; number = n }) (name_of p) ≡ false
    other a n l = rw name (grind (arith, nat_tests, l))

    later : (n : ℕ) → next + 1 ≤ n → same_name (record { issuer = kernel; number = n }) (name_of p) ≡ false
    later n l = rw name (grind (arith, nat_tests, l))

    by_new : (i : FlightId) (q : Packet) → (q ≡ p) ⊎ (flight i fs ≡ Some q) → PacketLawful gs cs q
    by_new i q (inl e) = subst (PacketLawful gs cs) (sym e) (order_lawful gs cs p o)
    by_new i q (inr e) = law.packets i q e

pub sent_lawful : (s : State) (g : ℕ) (x : Grant) → grant_in s.grants g ≡ Some x → may_close s.grants g (Some x) ≡ true → GrantInvariant s → GrantInvariant (close_sent s g x)
sent_lawful s g x at may law =
    let ks = change_grant s.grants g to_sent in
    let ch = one_changes s.grants g to_sent (λ y. (refl, refl)) in
    record {
      placed = sent_placed s g x at may (law.traffic.orders s.kernel_next (omega arith)) law.placed;
      traffic = data_grown s.grants ks (grows s.grants ks (at_one g to_sent) ch) s.contexts (close_sent s g x).flights (s.kernel_next + 1) (data_sent s.grants s.contexts s.flights s.kernel_next (Packet.Close (kernel_id s) (holder x.line) (holder_ep x.line) g) tt refl law.traffic);
      credits = λ h. credits_changed s.grants ks (at_one g to_sent) ch h (credits h (close_sent s g x)) (λ y e z. by_sent y (h == g) z) (subst (CreditsLawful (grant_in s.grants h)) (sym (close_credits h g s x)) (law.credits h));
    }
  where
    by_sent : (y : Grant) (b : Bool) → is_open (if b then to_sent y else y).standing ≡ true → is_open y.standing ≡ true
    by_sent y true z = z
    by_sent y false z = z

waiting_other : (h : ℕ) (f : Fresh) (j : FlightId) (b ep : ℕ) → (number_of f == h) ≡ false → queued_credits h (Packet.Install j b ep f) ≡ 0
waiting_other h (Fresh.Send g k k_ep k_grant label size n) j b ep w = grind (arith, w)
waiting_other h (Fresh.Receive g slots size) j b ep w = refl
waiting_other h (Fresh.Memory g start len perm) j b ep w = refl

waiting_own : (h : ℕ) (f : Fresh) (j : FlightId) (b ep : ℕ) → (number_of f == h) ≡ true → queued_credits h (Packet.Install j b ep f) ≡ limit_of f
waiting_own h (Fresh.Send g k k_ep k_grant label size n) j b ep w = grind (arith, w)
waiting_own h (Fresh.Receive g slots size) j b ep w = refl
waiting_own h (Fresh.Memory g start len perm) j b ep w = refl

pub made_lawful : (s : State) (line : GrantLine) (f : Fresh) → GrantInvariant s → form (length s.grants + 1) line (undone (parent_in s.grants (parent_of line))) ≡ Some f → is_above_closing (undone (parent_in s.grants (parent_of line))) ≡ false → list_any (holds_at (holder line) (holder_ep line)) s.grants ≡ false → holder_ep line < 16 → GrantInvariant (with_grant_made s line f)
made_lawful s line f law is_form live slot inside = record {
  placed = made_placed s line f law.placed is_form live slot inside (law.traffic.orders s.kernel_next (omega arith));
  traffic = data_grown s.grants (s.grants ++ new_grant line f ∷ []) more s.contexts (with_grant_made s line f).flights (s.kernel_next + 1) (data_sent s.grants s.contexts s.flights s.kernel_next (Packet.Install (kernel_id s) (holder line) (holder_ep line) f) tt refl law.traffic);
  credits = λ h. by_number h (h == (length s.grants + 1)) refl;
}
  where
    kept : (g : ℕ) (x : Grant) → grant_in s.grants g ≡ Some x → grant_in (s.grants ++ new_grant line f ∷ []) g ≡ Some x
    kept g x e = let l = grant_past s.grants g x e in grant_added s.grants (new_grant line f) g ∙ grind (arith, nat_tests, l, e)

    more : Grows s.grants (s.grants ++ new_grant line f ∷ [])
    more = record { holds = λ g a h. by_holder g a (grant_in s.grants g) refl h; child = λ g a k h. by_child g a k (grant_in s.grants g) refl h }
      where
        by_holder : (g a : ℕ) (o : Option Grant) → grant_in s.grants g ≡ o → HolderIs o a → HolderIs (grant_in (s.grants ++ new_grant line f ∷ []) g) a
        by_holder g a None e h = absurd h
        by_holder g a (Some x) e h = subst (λ z. HolderIs z a) (sym (kept g x e)) h

        by_child : (g a k : ℕ) (o : Option Grant) → grant_in s.grants g ≡ o → ChildOf o a k → ChildOf (grant_in (s.grants ++ new_grant line f ∷ []) g) a k
        by_child g a k None e h = absurd h
        by_child g a k (Some x) e h = subst (λ z. ChildOf z a k) (sym (kept g x e)) h

    number : number_of f ≡ length s.grants + 1
    number = form_number (length s.grants + 1) line (undone (parent_in s.grants (parent_of line))) f is_form

    by_number : (h : ℕ) (b : Bool) → (h == (length s.grants + 1)) ≡ b → CreditsLawful (grant_in (s.grants ++ new_grant line f ∷ []) h) (credits h (with_grant_made s line f))
    by_number h true w =
        let q : h ≡ length s.grants + 1 = grind (arith, nat_tests, w) in
        let e : grant_in (s.grants ++ new_grant line f ∷ []) h ≡ Some (new_grant line f) = grant_added s.grants (new_grant line f) h ∙ grind (arith, w) in
        let o : grant_in s.grants h ≡ None = subst (λ z. grant_in s.grants z ≡ None) (sym q) (none_past s line f law.placed is_form live slot inside (law.traffic.orders s.kernel_next (omega arith))) in
        let z : credits h s ≡ 0 = subst (λ y. CreditsLawful y (credits h s)) o (law.credits h) in
        let n : (number_of f == h) ≡ true = grind (arith, nat_tests, number, q) in
        subst (λ y. CreditsLawful y (credits h (with_grant_made s line f))) (sym e) (λ _. omega (arith, z, make_credits h s line f, waiting_own h f (kernel_id s) (holder line) (holder_ep line) n))
    by_number h false w =
        let e : grant_in (s.grants ++ new_grant line f ∷ []) h ≡ grant_in s.grants h = grant_added s.grants (new_grant line f) h ∙ grind (arith, w) in
        let n : (number_of f == h) ≡ false = grind (arith, nat_tests, number, w) in
        subst (λ y. CreditsLawful y (credits h (with_grant_made s line f))) (sym e) (credits_keep (grant_in s.grants h) (credits h s) _ (λ claim. omega (arith, make_credits h s line f, waiting_other h f (kernel_id s) (holder line) (holder_ep line) n)) (law.credits h))
