-- What an activity is worth where contexts and flights change: only an unread message may raise it.
use Rattle.std.proofs.Common.{◌≡◌, ℕ, zero, suc, ◌+◌, ◌≤◌, Bool, true, false, List, [], ◌∷◌, get_or, set, Some, None, refl, sym, subst, ◌∙◌, arith}
use Rattle.std.specs.Prelude.{Option, if◌then◌else◌, ◌==◌, not, ◌&&◌, ◌||◌, is_some}
use Rattle.std.proofs.lemmas.Bool.Decides.{nat_tests}
use Rattle.m3_base.specs.Lists.Keyed as keyed
use Rattle.m3_base.specs.Ideal.Context.{Context, Endpoint, Free, endpoint, endpoint_at}
use Rattle.m3_base.specs.Ideal.State.{State, context_of, put_context, same_act}
use Rattle.m3_base.specs.Ideal.Step.{has_unread}
use Rattle.m3_base.specs.Placement.State.{PlacedActivity, actor_act, is_leaving}
use Rattle.m3_base.specs.Placement.Take.{is_waiting, has_unread_at}
use Rattle.m3_base.specs.Ideal.Landing.{endpoints_with_credit, sends_by, more_at}
use Rattle.m3_quiet.specs.Potential.{hold_sum, is_running, has_moved, may_join, actor_worth, is_there, actors_sum}
use Rattle.m3_quiet.specs.Facts.{ActorsApart}
use Rattle.m3_quiet.proofs.Sums.Lighter.{Lighter, hold_lighter}
use Rattle.m3_base.proofs.Activities.{context-put_other, context-put_same}
use Rattle.std.proofs.lemmas.Bool.{eqb-true}

-- ---- what passes a test at an endpoint

-- where an endpoint passes the test now, it did before
abbrev pub Fewer : (Endpoint → Bool) → List Context → List Context → Type 0
Fewer f ds cs = (a ep : ℕ) → f (endpoint_at (context_of a ds) ep) ≡ true → f (endpoint_at (context_of a cs) ep) ≡ true

-- but at this activity
abbrev pub FewerBut : ℕ → (Endpoint → Bool) → List Context → List Context → Type 0
FewerBut b f ds cs = (a ep : ℕ) → (a == b) ≡ false → f (endpoint_at (context_of a ds) ep) ≡ true → f (endpoint_at (context_of a cs) ep) ≡ true

-- one context in place of another
abbrev pub FewerIn : (Endpoint → Bool) → Context → Context → Type 0
FewerIn f y x = (ep : ℕ) → f (endpoint y ep) ≡ true → f (endpoint x ep) ≡ true

pub fewer-put : (f : Endpoint → Bool) (x y : Context) (cs : List Context) → context_of y.act cs ≡ Some x → FewerIn f y x → Fewer f (put_context y cs) cs
fewer-put f x y cs found less a ep h = by_act (a == y.act) refl
  where
    by_act : (b : Bool) → (a == y.act) ≡ b → f (endpoint_at (context_of a cs) ep) ≡ true
    by_act true e =
        let same : y.act ≡ a = sym (eqb-true a y.act e) in
        let now : context_of a (put_context y cs) ≡ Some y = subst (λ k. context_of k (put_context y cs) ≡ Some y) same (context-put_same x y cs found) in
        let then' : context_of a cs ≡ Some x = subst (λ k. context_of k cs ≡ Some x) same found in
        subst (λ o. f (endpoint_at o ep) ≡ true) (sym then') (less ep (subst (λ o. f (endpoint_at o ep) ≡ true) now h))
    by_act false e = subst (λ o. f (endpoint_at o ep) ≡ true) (context-put_other a y cs e) h

pub fewer-put_but : (f : Endpoint → Bool) (y : Context) (cs : List Context) → FewerBut y.act f (put_context y cs) cs
fewer-put_but f y cs a ep other h = subst (λ o. f (endpoint_at o ep) ≡ true) (context-put_other a y cs other) h

-- another record at one endpoint
pub fewer-set : (f : Endpoint → Bool) (es : List Endpoint) (i k : ℕ) (e : Endpoint) → (f e ≡ true → f (get_or es i Free) ≡ true) → f (get_or (set es i e) k Free) ≡ true → f (get_or es k Free) ≡ true
fewer-set f [] i k e g h = h
fewer-set f (d ∷ es) zero zero e g h = g h
fewer-set f (d ∷ es) zero (suc k) e g h = h
fewer-set f (d ∷ es) (suc i) zero e g h = h
fewer-set f (d ∷ es) (suc i) (suc k) e g h = fewer-set f es i k e g h

-- one credit more
pub fewer-credited : (f : Endpoint → Bool) → ((e : Endpoint) → f (more_at e) ≡ true → f e ≡ true) → (g : ℕ) (es : List Endpoint) (k : ℕ) → f (get_or (endpoints_with_credit g es) k Free) ≡ true → f (get_or es k Free) ≡ true
fewer-credited f less g [] k h = h
fewer-credited f less g (e ∷ es) k h = by_send (fewer-credited f less g es) (sends_by g e) k h
  where
    by_send : ((i : ℕ) → f (get_or (endpoints_with_credit g es) i Free) ≡ true → f (get_or es i Free) ≡ true) → (b : Bool) (j : ℕ) → f (get_or (if b then more_at e ∷ es else e ∷ endpoints_with_credit g es) j Free) ≡ true → f (get_or (e ∷ es) j Free) ≡ true
    by_send ih true zero w = less e w
    by_send ih true (suc j) w = w
    by_send ih false zero w = w
    by_send ih false (suc j) w = ih j w

-- ---- what an activity is worth

abbrev pub six : Bool → ℕ
six b = if b then 6 else 0

joins_less : (r m w v : Bool) → (w ≡ true → v ≡ true) → six (r && (not v && m)) ≤ six (r && (not w && m))
joins_less false m w v h = omega arith
joins_less true m true true h = omega arith
joins_less true m true false h = let k = h refl in absurd (cc)
joins_less true m false true h = omega arith
joins_less true m false false h = omega arith

still_waits : (p u v : Bool) → (v ≡ true → u ≡ true) → (p && not u) ≡ true → (p && not v) ≡ true
still_waits false u v h w = w
still_waits true true v h w = absurd (cc)
still_waits true false true h w = let k = h refl in absurd (cc)
still_waits true false false h w = w

-- the unread messages of one activity: none that wasn't there
abbrev pub CalmAt : ℕ → List Context → List Context → Type 0
CalmAt a ds cs = (ep : ℕ) → has_unread (endpoint_at (context_of a ds) ep) ≡ true → has_unread (endpoint_at (context_of a cs) ep) ≡ true

unread_some : (o : Option Context) (ep : ℕ) → has_unread_at o (Some ep) ≡ has_unread (endpoint_at o ep)
unread_some None ep = refl
unread_some (Some c) ep = refl

calm_unread : (a : ℕ) (ds cs : List Context) (o : Option ℕ) → CalmAt a ds cs → has_unread_at (context_of a ds) o ≡ true → has_unread_at (context_of a cs) o ≡ true
calm_unread a ds cs None h w = by_found (context_of a ds) w
  where
    by_found : (o : Option Context) → has_unread_at o None ≡ true → has_unread_at (context_of a cs) None ≡ true
    by_found None v = absurd (cc)
    by_found (Some c) v = absurd (cc)
calm_unread a ds cs (Some ep) h w = unread_some (context_of a cs) ep ∙ h ep (sym (unread_some (context_of a ds) ep) ∙ w)

pub join_calm : (s n : State) (b : Bool) (x : PlacedActivity) → CalmAt x.act n.contexts s.contexts → six (may_join n b x) ≤ six (may_join s b x)
join_calm s n b x h =
    joins_less (is_running x) (is_leaving x.place || (b && has_moved x)) (is_waiting s (Some x)) (is_waiting n (Some x))
    (still_waits (is_some x.pending) (has_unread_at (context_of x.act s.contexts) x.pending) (has_unread_at (context_of x.act n.contexts) x.pending) (calm_unread x.act n.contexts s.contexts x.pending h))

-- in another state only the hold list and the six change
pub state_worth : (s n : State) (b : Bool) (x : PlacedActivity) → actor_worth n b x + six (may_join s b x) + hold_sum s.flights x.hold ≡ actor_worth s b x + six (may_join n b x) + hold_sum n.flights x.hold
state_worth s n b x = omega arith

actor_calm : (s n : State) → Lighter n.flights s.flights → (k : ℕ) (b : Bool) (x : PlacedActivity) → six (may_join n b x) ≤ six (may_join s b x) + k → actor_worth n b x ≤ actor_worth s b x + k
actor_calm s n light k b x h = let e = hold_lighter n.flights s.flights light x.hold in let d = state_worth s n b x in omega (arith, e, d, h)

pub actors_calm : (s n : State) → Lighter n.flights s.flights → Fewer has_unread n.contexts s.contexts → (current : List (Option ℕ)) (xs : List PlacedActivity) → actors_sum n current xs ≤ actors_sum s current xs
actors_calm s n light calm current [] = omega arith
actors_calm s n light calm current (x ∷ xs) =
    let h = join_calm s n (is_there current x) x (calm x.act) in
    let e = actor_calm s n light 0 (is_there current x) x (omega (arith, h)) in
    omega (arith, e, actors_calm s n light calm current xs)

-- an activity that isn't among these
pub actors_without : (s n : State) (a : ℕ) → Lighter n.flights s.flights → FewerBut a has_unread n.contexts s.contexts → (current : List (Option ℕ)) (xs : List PlacedActivity) → keyed.find actor_act same_act a xs ≡ None → actors_sum n current xs ≤ actors_sum s current xs
actors_without s n a light calm current [] none = omega arith
actors_without s n a light calm current (x ∷ xs) none = by_act (a == x.act) refl none (actors_without s n a light calm current xs)
  where
    by_act : (b : Bool) → (a == x.act) ≡ b → (if b then Some x else keyed.find actor_act same_act a xs) ≡ None → (keyed.find actor_act same_act a xs ≡ None → actors_sum n current xs ≤ actors_sum s current xs) → actors_sum n current (x ∷ xs) ≤ actors_sum s current (x ∷ xs)
    by_act true e w ih = absurd (cc)
    by_act false e w ih =
        let other : (x.act == a) ≡ false = grind (arith, nat_tests, e) in
        let h = join_calm s n (is_there current x) x (λ ep. calm x.act ep other) in
        let k = actor_calm s n light 0 (is_there current x) x (omega (arith, h)) in
        omega (arith, k, ih w)

-- what the one activity may gain
abbrev pub Gains : State → State → ℕ → ℕ → List (Option ℕ) → List PlacedActivity → Type 0
Gains s n a k current xs = (x : PlacedActivity) → keyed.find actor_act same_act a xs ≡ Some x → six (may_join n (is_there current x) x) ≤ six (may_join s (is_there current x) x) + k

pub actors_but : (s n : State) (a k : ℕ) → Lighter n.flights s.flights → FewerBut a has_unread n.contexts s.contexts → (current : List (Option ℕ)) (xs : List PlacedActivity) → ActorsApart xs → Gains s n a k current xs → actors_sum n current xs ≤ actors_sum s current xs + k
actors_but s n a k light calm current [] apart gains = omega arith
actors_but s n a k light calm current (x ∷ xs) apart gains = by_act (a == x.act) refl gains (actors_but s n a k light calm current xs apart.1)
  where
    by_act : (b : Bool) → (a == x.act) ≡ b → ((y : PlacedActivity) → (if b then Some x else keyed.find actor_act same_act a xs) ≡ Some y → six (may_join n (is_there current y) y) ≤ six (may_join s (is_there current y) y) + k) → (Gains s n a k current xs → actors_sum n current xs ≤ actors_sum s current xs + k) → actors_sum n current (x ∷ xs) ≤ actors_sum s current (x ∷ xs) + k
    by_act true e g ih =
        let same : x.act ≡ a = sym (eqb-true a x.act e) in
        let none : keyed.find actor_act same_act a xs ≡ None = subst (λ z. keyed.find actor_act same_act z xs ≡ None) same apart.0 in
        let one_up = actor_calm s n light k (is_there current x) x (g x refl) in
        let rest = actors_without s n a light calm current xs none in
        omega (arith, one_up, rest)
    by_act false e g ih =
        let other : (x.act == a) ≡ false = grind (arith, nat_tests, e) in
        let h = join_calm s n (is_there current x) x (λ ep. calm x.act ep other) in
        let one_up = actor_calm s n light 0 (is_there current x) x (omega (arith, h)) in
        omega (arith, one_up, ih g)

pub gains_six : (s n : State) (a : ℕ) (current : List (Option ℕ)) (xs : List PlacedActivity) → Gains s n a 6 current xs
gains_six s n a current xs x e = at_most (may_join n (is_there current x) x) (may_join s (is_there current x) x)
  where
    at_most : (b c : Bool) → six b ≤ six c + 6
    at_most true c = omega arith
    at_most false c = omega arith
