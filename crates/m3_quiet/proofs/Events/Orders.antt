-- Orders that change no link.
use Rattle.std.proofs.Common.{◌≡◌, ℕ, zero, suc, ◌+◌, ◌-◌, ◌<◌, Bool, true, false, List, [], ◌∷◌, length, set, Some, None, refl, ◌∙◌, ap, arith}
use Rattle.std.specs.Prelude.{Option, if◌then◌else◌, ◌==◌, slice_get}
use Rattle.std.proofs.lemmas.Bool.Decides.{nat_tests}
use Rattle.m3_base.specs.declared.order.Order.{Order}
use Rattle.m3_base.specs.declared.event.Event.{Event}
use Rattle.m3_base.specs.declared.event.No.{No}
use Rattle.m3_base.specs.declared.packet.Fresh.{Fresh}
use Rattle.m3_base.specs.declared.order.GrantLine.{GrantLine}
use Rattle.m3_base.specs.Lists.Counting.{total}
use Rattle.m3_base.specs.Ideal.Context.{Context}
use Rattle.m3_base.specs.Ideal.State.{State, Grant, grant_in, undone, parent_in, parent_of, holder, context_of}
use Rattle.m3_base.specs.Ideal.GrantRules.{to_closing, closing_where, set_some, with_root_closing, after_revoke, marks_under, revoke_refusal, make_refusal, form, kernel_id}
use Rattle.m3_base.specs.Ideal.Step.{Label, Not_made, RunResult, ideal_run, on_from, make_in, make_for, revoke_in}
use Rattle.m3_base.specs.Ideal.Flights.{flight}
use Rattle.m3_base.specs.Journal.Entry.{ran_to}
use Rattle.m3_base.specs.Placement.State.{Placement}
use Rattle.m3_base.specs.Placement.Routing.{Routed, route, actor_for, target_of}
use Rattle.m3_base.specs.Placement.Order.{order_by, route_new}
use Rattle.m3_quiet.specs.Potential.{Units, potential, grant_worth}
use Rattle.m3_quiet.specs.Descent.{Falls}
use Rattle.m3_quiet.proofs.Events.Statements.{Revokes, Refuses, OrdersFall}

closing_worth : (b : Bool) (x : Grant) → grant_worth (to_closing b x) ≡ grant_worth x
closing_worth b x = grind (arith, nat_tests)

closing_sum : (bs : List Bool) (gs : List Grant) → total grant_worth (closing_where bs gs) ≡ total grant_worth gs
closing_sum [] gs = refl
closing_sum (b ∷ bs) [] = refl
closing_sum (b ∷ bs) (x ∷ gs) = omega (arith, closing_worth b x, closing_sum bs gs)

root_set : (gs : List Grant) (i : ℕ) (x y : Grant) → slice_get gs i ≡ Some x → grant_worth y ≡ grant_worth x → total grant_worth (set gs i y) ≡ total grant_worth gs
root_set [] i x y e h = refl
root_set (g ∷ gs) zero x y e h = let same : g ≡ x = cc in omega (arith, h, ap grant_worth same)
root_set (g ∷ gs) (suc i) x y e h = omega (arith, root_set gs i x y e h)

rooted_sum : (gs : List Grant) (g : ℕ) → total grant_worth (with_root_closing gs g) ≡ total grant_worth gs
rooted_sum gs g = by_zero (g == 0)
  where
    by_found : (o : Option Grant) → slice_get gs (g - 1) ≡ o → total grant_worth (set_some gs g (λ x. record x { is_root = true }) o) ≡ total grant_worth gs
    by_found None e = refl
    by_found (Some x) e = root_set gs (g - 1) x (record x { is_root = true }) e refl

    by_zero : (b : Bool) → total grant_worth (set_some gs g (λ x. record x { is_root = true }) (if b then None else slice_get gs (g - 1))) ≡ total grant_worth gs
    by_zero true = refl
    by_zero false = by_found (slice_get gs (g - 1)) refl

revoked_sum : (gs : List Grant) (g : ℕ) → total grant_worth (after_revoke gs g) ≡ total grant_worth gs
revoked_sum gs g = rooted_sum (closing_where (marks_under g 1 [] gs) gs) g ∙ closing_sum (marks_under g 1 [] gs) gs

-- where a packet of the kernel's would go
abbrev pub new_route : State → State → Placement → Routed
new_route s n p = route (kernel_id s) (actor_for (target_of (flight (kernel_id s) n.flights)) p) p

-- no packet arose
mild : (s : State) (p : Placement) (us : Units) (o : Order) (left : List Order) (x : RunResult) (b : Bool) (r : Routed) → b ≡ true → potential x.state p us (length left) < potential s p us (length (o ∷ left)) → Falls s p us (o ∷ left) (Event.Order o) None (order_by s (if b then record { held = false; places = p } else r) (Some x))
mild s p us o left x false r e h = absurd (cc)
mild s p us o left x true r e h = λ n. h

itself : (n : ℕ) → (n == n) ≡ true
itself n = grind (arith, nat_tests)

revoke_case : (s : State) (p : Placement) (us : Units) (left : List Order) (g : ℕ) (why : Option No) → Falls s p us (Order.Revoke g ∷ left) (Event.Order (Order.Revoke g)) None (order_by s (route_new s (ran_to (on_from (ideal_run []) (revoke_in s g why)) s) p) (on_from (ideal_run []) (revoke_in s g why)))
revoke_case s p us left g (Some w) = mild s p us (Order.Revoke g) left (record { words = Not_made w ∷ []; state = s }) (s.kernel_next == s.kernel_next) (new_route s s p) (itself s.kernel_next) (omega arith)
revoke_case s p us left g None = let e = revoked_sum s.grants g in mild s p us (Order.Revoke g) left (record { words = Label.Revokes g ∷ []; state = record s { grants = after_revoke s.grants g } }) (s.kernel_next == s.kernel_next) (new_route s (record s { grants = after_revoke s.grants g }) p) (itself s.kernel_next) (omega (arith, e))

make_case : (s : State) (p : Placement) (us : Units) (left : List Order) (line : GrantLine) (why : Option No) (w : No) (f : Option Fresh) → why ≡ Some w → Falls s p us (Order.Grant line ∷ left) (Event.Order (Order.Grant line)) None (order_by s (route_new s (ran_to (on_from (ideal_run []) (make_in s line why f)) s) p) (on_from (ideal_run []) (make_in s line why f)))
make_case s p us left line None w f e = absurd (cc)
make_case s p us left line (Some v) w f e = mild s p us (Order.Grant line) left (record { words = Not_made v ∷ []; state = s }) (s.kernel_next == s.kernel_next) (new_route s s p) (itself s.kernel_next) (omega arith)

-- a line whose holder isn't declared has no outcome
line_case : (s : State) (p : Placement) (us : Units) (left : List Order) (line : GrantLine) (w : No) → make_refusal (length s.memory) s.grants line ≡ Some w → (o : Option Context) → Falls s p us (Order.Grant line ∷ left) (Event.Order (Order.Grant line)) None (order_by s (route_new s (ran_to (on_from (ideal_run []) (make_for s line o)) s) p) (on_from (ideal_run []) (make_for s line o)))
line_case s p us left line w e None = tt
line_case s p us left line w e (Some c) = make_case s p us left line (make_refusal (length s.memory) s.grants line) w (form (length s.grants + 1) line (undone (parent_in s.grants (parent_of line)))) e

pub orders_fall : OrdersFall
orders_fall s p us o left (Revokes g) = revoke_case s p us left g (revoke_refusal (grant_in s.grants g))
orders_fall s p us o left (Refuses line w e) = line_case s p us left line w e (context_of (holder line) s.contexts)
