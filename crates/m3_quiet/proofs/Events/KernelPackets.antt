-- The kernel's own packets: Close and Install.
use Rattle.std.proofs.Common.{◌≡◌, ℕ, ◌+◌, ◌-◌, ◌<◌, ◌≤◌, Bool, true, false, List, [], ◌∷◌, length, Some, None, refl, sym, subst, arith}
use Rattle.std.specs.Prelude.{Option, if◌then◌else◌, ◌==◌, not, ◌&&◌}
use Rattle.std.specs.List.{list_any}
use Rattle.std.proofs.lemmas.Bool.Decides.{nat_tests}
use Rattle.m3_base.specs.declared.packet.Packet.{Packet}
use Rattle.m3_base.specs.declared.packet.Fresh.{Fresh}
use Rattle.m3_base.specs.declared.order.GrantLine.{GrantLine}
use Rattle.m3_base.specs.declared.event.No.{No}
use Rattle.m3_base.specs.Lists.Counting.{total}
use Rattle.m3_base.specs.Ideal.Flights.{flight, name_of, new_flight}
use Rattle.m3_base.specs.Ideal.Context.{Context, endpoint_at}
use Rattle.m3_base.specs.Ideal.State.{State, Grant, context_of, grant_in, holder, holder_ep, undone, parent_in, parent_of}
use Rattle.m3_base.specs.Ideal.GrantRules.{kernel_id, close_sent, with_grant_made, new_grant, may_close, is_closing_grant, is_open_child, change_grant, set_some, make_refusal, form, to_sent}
use Rattle.m3_base.specs.Ideal.Step.{Label, has_unread, Sends_close, Makes, Not_made, ideal_run, on_from, step_to, send_close_in, make_in, make_for}
use Rattle.m3_base.specs.Journal.Entry.{ran_to}
use Rattle.m3_base.specs.Placement.State.{Placement, actor}
use Rattle.m3_base.specs.Placement.Routing.{actor_for, target_of, route}
use Rattle.m3_base.specs.Placement.Order.{route_new, order_by}
use Rattle.m3_quiet.specs.Potential.{Units, potential, packet_worth, grant_worth}
use Rattle.m3_quiet.specs.Facts.{Fine, LinksKnown, HoldsKnown}
use Rattle.m3_quiet.proofs.Sums.Changes.{total-append}
use Rattle.m3_quiet.proofs.Events.Kinds.{set_worth, found_grant}
use Rattle.m3_quiet.proofs.Sums.Whole.{Below}
use Rattle.m3_quiet.proofs.Events.Tends.{route_cost}
use Rattle.m3_quiet.proofs.Sums.NewFlight.{KnownLess, new_less, new_worth, links_known, actors_known}

-- what a new packet of the kernel needs
pub record KernelOk (s : State) (p : Placement) : Type 0 where
  pub fine : Fine p
  pub links : LinksKnown s.flights p.links
  pub holds : HoldsKnown s.flights p.actors
  pub fresh : flight (kernel_id s) s.flights ≡ None

-- ---- the state alone

-- the sum with a new packet that is nowhere yet, and with these grants
arises_potential : (s n : State) (p : Placement) (us : Units) (o : ℕ) (q : Packet) → KernelOk s p → name_of q ≡ kernel_id s → n.flights ≡ new_flight q s.flights → n.contexts ≡ s.contexts → potential n p us o + total grant_worth s.grants ≤ potential s p us o + total grant_worth n.grants
arises_potential s n p us o q ok name flights contexts =
    let none : flight (name_of q) s.flights ≡ None = subst (λ k. flight k s.flights ≡ None) (sym name) ok.fresh in
    let less : KnownLess n.flights s.flights = subst (λ fs. KnownLess fs s.flights) (sym flights) (new_less q s.flights none) in
    let one = links_known n.flights s.flights less p.links ok.links in
    let two = actors_known s n less (λ a ep h. subst (λ cs. has_unread (endpoint_at (context_of a cs) ep) ≡ true) contexts h) p.current p.actors ok.holds in
    omega (arith, one, two)

arises_worth : (s n : State) (q : Packet) → flight (kernel_id s) s.flights ≡ None → name_of q ≡ kernel_id s → n.flights ≡ new_flight q s.flights → packet_worth (flight (kernel_id s) n.flights) ≤ packet_worth (Some q)
arises_worth s n q none name flights =
    subst (λ fs. packet_worth (flight (kernel_id s) fs) ≤ packet_worth (Some q)) (sym flights)
    (subst (λ k. packet_worth (flight k (new_flight q s.flights)) ≤ packet_worth (Some q)) name
    (new_worth q s.flights (subst (λ k. flight k s.flights ≡ None) (sym name) none)))

-- it is routed
arises_routed : (s n : State) (p : Placement) (us : Units) (o : ℕ) (a : Option ℕ) → Fine p → packet_worth (flight (kernel_id s) n.flights) ≤ 6 → potential n (route (kernel_id s) (actor_for a p) p).places us o ≤ potential n p us o + 7
arises_routed s n p us o None ok h = omega arith
arises_routed s n p us o (Some a) ok h = let one = route_cost n p us o (kernel_id s) a (actor a p) ok refl in omega (arith, one, h)

-- the number of the kernel's next packet has changed
not_same : (k : ℕ) → ((k + 1) == k) ≡ false
not_same k = grind (arith, nat_tests)

routed_below : (s n : State) (p : Placement) (us : Units) (o m : ℕ) (w : Label) (b : Bool) → b ≡ false → Fine p → packet_worth (flight (kernel_id s) n.flights) ≤ 6 → potential n p us o + 7 < m → Below us o m (order_by s (if b then record { held = false; places = p } else route (kernel_id s) (actor_for (target_of (flight (kernel_id s) n.flights)) p) p) (Some (record { words = w ∷ []; state = n })))
routed_below s n p us o m w true e ok h k = absurd (cc)
routed_below s n p us o m w false e ok h k = let one = arises_routed s n p us o (target_of (flight (kernel_id s) n.flights)) ok h in omega (arith, one, k)

-- ---- Close

sent_worth : (x : Grant) (c : Bool) → (is_closing_grant x.standing && (not x.close_sent && c)) ≡ true → grant_worth (to_sent x) + 8 ≤ grant_worth x
sent_worth x c h = grind (arith, nat_tests, h)

sent_sum : (gs : List Grant) (g : ℕ) (x : Grant) → grant_in gs g ≡ Some x → grant_worth (to_sent x) + 8 ≤ grant_worth x → total grant_worth (change_grant gs g to_sent) + 8 ≤ total grant_worth gs
sent_sum gs g x e h =
    let one = set_worth gs (g - 1) x (to_sent x) (found_grant gs g x e) in
    subst (λ o. total grant_worth (set_some gs g to_sent o) + 8 ≤ total grant_worth gs) (sym e) (omega (arith, one, h))

pub close_below : (s : State) (p : Placement) (us : Units) (o g : ℕ) → KernelOk s p → (r : Option Grant) → grant_in s.grants g ≡ r → Below us o (potential s p us o) (order_by s (route_new s (ran_to (on_from (ideal_run []) (send_close_in s g r)) s) p) (on_from (ideal_run []) (send_close_in s g r)))
close_below s p us o g ok None e = tt
close_below s p us o g ok (Some x) e = by_may (may_close s.grants g (Some x)) refl
  where
    by_may : (b : Bool) → may_close s.grants g (Some x) ≡ b → Below us o (potential s p us o) (order_by s (route_new s (ran_to (on_from (ideal_run []) (if b then step_to (Sends_close g (kernel_id s)) (close_sent s g x) else None)) s) p) (on_from (ideal_run []) (if b then step_to (Sends_close g (kernel_id s)) (close_sent s g x) else None)))
    by_may false f = tt
    by_may true f =
        let q = Packet.Close (kernel_id s) (holder x.line) (holder_ep x.line) g in
        let one = arises_potential s (close_sent s g x) p us o q ok refl refl refl in
        let two = sent_sum s.grants g x e (sent_worth x (not (list_any (is_open_child g) s.grants)) f) in
        let three = arises_worth s (close_sent s g x) q ok.fresh refl refl in
        routed_below s (close_sent s g x) p us o (potential s p us o) (Sends_close g (kernel_id s)) ((s.kernel_next + 1) == s.kernel_next) (not_same s.kernel_next) ok.fine three (omega (arith, one, two))

-- ---- Install

pub made_below : (s : State) (p : Placement) (us : Units) (o m : ℕ) (line : GrantLine) → KernelOk s p → potential s p us o + 17 ≡ m → (why : Option No) (f : Option Fresh) → Below us o m (order_by s (route_new s (ran_to (on_from (ideal_run []) (make_in s line why f)) s) p) (on_from (ideal_run []) (make_in s line why f)))
made_below s p us o m line ok sum (Some w) f = not_made (s.kernel_next == s.kernel_next) (grind (arith, nat_tests))
  where
    not_made : (b : Bool) → b ≡ true → Below us o m (order_by s (if b then record { held = false; places = p } else route (kernel_id s) (actor_for (target_of (flight (kernel_id s) s.flights)) p) p) (Some (record { words = Not_made w ∷ []; state = s })))
    not_made true e = omega (arith, sum)
    not_made false e = absurd (cc)
made_below s p us o m line ok sum None None = tt
made_below s p us o m line ok sum None (Some f) =
    let q = Packet.Install (kernel_id s) (holder line) (holder_ep line) f in
    let one = arises_potential s (with_grant_made s line f) p us o q ok refl refl refl in
    let two = total-append grant_worth s.grants (new_grant line f ∷ []) in
    let three = arises_worth s (with_grant_made s line f) q ok.fresh refl refl in
    routed_below s (with_grant_made s line f) p us o m (Makes (length s.grants + 1) (kernel_id s)) ((s.kernel_next + 1) == s.kernel_next) (not_same s.kernel_next) ok.fine three (omega (arith, one, two, sum))

pub grant_below : (s : State) (p : Placement) (us : Units) (o m : ℕ) (line : GrantLine) → KernelOk s p → potential s p us o + 17 ≡ m → (c : Option Context) → Below us o m (order_by s (route_new s (ran_to (on_from (ideal_run []) (make_for s line c)) s) p) (on_from (ideal_run []) (make_for s line c)))
grant_below s p us o m line ok sum None = tt
grant_below s p us o m line ok sum (Some c) = made_below s p us o m line ok sum (make_refusal (length s.memory) s.grants line) (form (length s.grants + 1) line (undone (parent_in s.grants (parent_of line))))
