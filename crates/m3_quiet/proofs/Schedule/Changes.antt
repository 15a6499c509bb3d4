-- What changes of the places keep the ready lists and the Yields in order.
use Rattle.std.proofs.Common.{◌≡◌, ℕ, zero, suc, ◌+◌, ◌*◌, Bool, true, false, List, [], ◌∷◌, ◌++◌, get_or, set, Some, None, refl, sym, subst, ◌∙◌, ap, arith}
use Rattle.std.specs.Prelude.{Option, if◌then◌else◌, ◌==◌, not, ◌||◌, filter, slice_index_or}
use Rattle.std.specs.List.{list_any}
use Rattle.std.proofs.lemmas.Bool.Decides.{nat_tests}
use Rattle.m3_base.specs.declared.event.Said.{Said}
use Rattle.m3_base.specs.Ideal.State.{State}
use Rattle.m3_base.specs.Placement.State.{Placement, PlacedActivity, LinkToken, Data, Save, Saved, Restore, Yield, Closed, Placed, actor, link, with_link, with_token, with_actor, with_current, with_yielded, at_place, join_ready, with_member, leave_ready, ready_at, is_placed, is_leaving, is_resting, is_coming}
use Rattle.m3_base.specs.Placement.Take.{is_leaving_at, first_due, with_restore, then_restore}
use Rattle.m3_base.specs.Placement.Turn.{yield_once}
use Rattle.m3_base.specs.Ideal.State.{is_number}
use Rattle.m3_quiet.specs.Potential.{is_there}
use Rattle.m3_quiet.specs.Facts.{Fine}
use Rattle.m3_quiet.specs.Schedule.{has_yield, link_at, is_listed, IsHere, Scheduled}
use Rattle.m3_quiet.proofs.Schedule.Statements.{ScheduledAfter}
use Rattle.m3_quiet.proofs.Events.Kinds.{found_act}
use Rattle.m3_quiet.proofs.Sums.Whole.{actor-with_same, actor-with_other, fine-link, fine-pushed, fine-joined, fine-actor, find-among, due_coming}
use Rattle.std.proofs.lemmas.Bool.{eqb-true}

-- ---- look-ups

-- after one activity changed
pub look : {R : Type 0} → (p : Placement) (x old : PlacedActivity) (a : ℕ) (y : PlacedActivity) → actor x.act p ≡ Some old → actor a (with_actor x p) ≡ Some y → (a ≡ x.act → x ≡ y → R) → ((a == x.act) ≡ false → actor a p ≡ Some y → R) → R
look {R = R} p x old a y found e mine other = by_act (a == x.act) refl
  where
    by_act : (b : Bool) → (a == x.act) ≡ b → R
    by_act true w =
        let same : a ≡ x.act = eqb-true a x.act w in
        let here : actor a (with_actor x p) ≡ Some x = subst (λ k. actor k (with_actor x p) ≡ Some x) (sym same) (actor-with_same p x old found) in
        let its : x ≡ y = cc in
        mine same its
    by_act false w = other w (sym (actor-with_other p a x w) ∙ e)

-- another list in one place
pub list-set : {X : Type 0} → (f : List X → Bool) (ls : List (List X)) (i k : ℕ) (ts : List X) → (f ts ≡ true → f (get_or ls i []) ≡ true) → f (get_or (set ls i ts) k []) ≡ true → f (get_or ls k []) ≡ true
list-set f [] i k ts g h = h
list-set f (l ∷ ls) zero zero ts g h = g h
list-set f (l ∷ ls) zero (suc k) ts g h = h
list-set f (l ∷ ls) (suc i) zero ts g h = h
list-set f (l ∷ ls) (suc i) (suc k) ts g h = list-set f ls i k ts g h

-- by whether it is the new list
pub list-set_or : {X R : Type 0} → (f : List X → Bool) (ls : List (List X)) (i k : ℕ) (ts : List X) → f [] ≡ false → f (get_or (set ls i ts) k []) ≡ true → (i ≡ k → f ts ≡ true → R) → ((i ≡ k → ⊥) → f (get_or ls k []) ≡ true → R) → R
list-set_or f [] i k ts none h new old = absurd (cc)
list-set_or f (l ∷ ls) zero zero ts none h new old = new refl h
list-set_or f (l ∷ ls) zero (suc k) ts none h new old = old (λ e. absurd (cc)) h
list-set_or f (l ∷ ls) (suc i) zero ts none h new old = old (λ e. absurd (cc)) h
list-set_or f (l ∷ ls) (suc i) (suc k) ts none h new old = list-set_or f ls i k ts none h (λ e. new (ap suc e)) (λ e. old (λ w. e (cc)))

-- ---- tokens

abbrev pub is_yield : LinkToken → Bool
is_yield (Yield a) = true
is_yield (Data id) = false
is_yield (Save a) = false
is_yield (Saved a w e) = false
is_yield (Restore a) = false
is_yield (Closed g) = false

yield-alone : (a : ℕ) (t : LinkToken) → is_yield t ≡ false → has_yield a (t ∷ []) ≡ false
yield-alone a (Data id) h = refl
yield-alone a (Save b) h = refl
yield-alone a (Saved b w e) h = refl
yield-alone a (Restore b) h = refl
yield-alone a (Closed g) h = refl
yield-alone a (Yield b) h = absurd (cc)

yield-pushed : (a : ℕ) (ts : List LinkToken) (t : LinkToken) → has_yield a (ts ++ t ∷ []) ≡ (has_yield a ts || has_yield a (t ∷ []))
yield-pushed a [] t = refl
yield-pushed a (Data id ∷ ts) t = yield-pushed a ts t
yield-pushed a (Save b ∷ ts) t = yield-pushed a ts t
yield-pushed a (Saved b w e ∷ ts) t = yield-pushed a ts t
yield-pushed a (Restore b ∷ ts) t = yield-pushed a ts t
yield-pushed a (Closed g ∷ ts) t = yield-pushed a ts t
yield-pushed a (Yield b ∷ ts) t = by_head (b == a) (yield-pushed a ts t)
  where
    by_head : (c : Bool) → has_yield a (ts ++ t ∷ []) ≡ (has_yield a ts || has_yield a (t ∷ [])) → (c || has_yield a (ts ++ t ∷ [])) ≡ ((c || has_yield a ts) || has_yield a (t ∷ []))
    by_head true h = refl
    by_head false h = h

yield-behind : (a : ℕ) (t : LinkToken) (ts : List LinkToken) → has_yield a ts ≡ true → has_yield a (t ∷ ts) ≡ true
yield-behind a (Data id) ts h = h
yield-behind a (Save b) ts h = h
yield-behind a (Saved b w e) ts h = h
yield-behind a (Restore b) ts h = h
yield-behind a (Closed g) ts h = h
yield-behind a (Yield b) ts h = by_head (b == a)
  where
    by_head : (c : Bool) → (c || has_yield a ts) ≡ true
    by_head true = refl
    by_head false = h

-- ---- a link

-- without a further Yield
pub s-link : (p : Placement) (from to : ℕ) (ts : List LinkToken) → Scheduled p → ((a : ℕ) → has_yield a ts ≡ true → has_yield a (link from to p) ≡ true) → Scheduled (with_link from to ts p)
s-link p from to ts ok less = record {
  fine = fine-link p from to ts ok.fine;
  quantum = ok.quantum;
  ready = ok.ready;
  yields = λ k a x h e. ok.yields k a x (list-set (has_yield a) p.links (16 * from + to) k ts (less a) h) e;
  sent = λ k a x h e placed. ok.sent k a x (list-set (has_yield a) p.links (16 * from + to) k ts (less a) h) e placed;
  taken = ok.taken;
}

pub s-front : (p : Placement) (from to : ℕ) (t : LinkToken) (ts : List LinkToken) → Scheduled p → link from to p ≡ t ∷ ts → Scheduled (with_link from to ts p)
s-front p from to t ts ok e = s-link p from to ts ok (λ a h. subst (λ l. has_yield a l ≡ true) (sym e) (yield-behind a t ts h))

pub s-pushed : (p : Placement) (from to : ℕ) (t : LinkToken) → Scheduled p → is_yield t ≡ false → Scheduled (with_token from to t p)
s-pushed p from to t ok calm = s-link p from to (link from to p ++ t ∷ []) ok less
  where
    less : (a : ℕ) → has_yield a (link from to p ++ t ∷ []) ≡ true → has_yield a (link from to p) ≡ true
    less a h = left_of (has_yield a (link from to p)) (has_yield a (t ∷ [])) (yield-alone a t calm) (sym (yield-pushed a (link from to p) t) ∙ h)
      where
        left_of : (b c : Bool) → c ≡ false → (b || c) ≡ true → b ≡ true
        left_of true c k w = refl
        left_of false c k w = absurd (cc)

-- ---- an activity

-- its place, home and Yield stay
pub s-soft : (p : Placement) (x old : PlacedActivity) → Scheduled p → actor x.act p ≡ Some old → x.home ≡ old.home → x.place ≡ old.place → (IsHere p old → x.yield_sent ≡ true) → Scheduled (with_actor x p)
s-soft p x old ok found home place sent = record {
  fine = fine-actor p x old found home ok.fine;
  quantum = ok.quantum;
  ready = λ t a y h e. look p x old a y found e (λ mine its. ready_of t a y h mine its) (λ other f. ok.ready t a y h f);
  yields = λ k a y h e. look p x old a y found e (λ mine its. yields_of k a y h mine its) (λ other f. ok.yields k a y h f);
  sent = λ k a y h e placed. look p x old a y found e (λ mine its. here y its (ok.sent k a old h (at_act a mine) (was_placed y its placed))) (λ other f. ok.sent k a y h f placed);
  taken = λ a y h e placed. look p x old a y found e (λ mine its. here y its (ok.taken a old (taken_of y h its) (at_act a mine) (was_placed y its placed))) (λ other f. ok.taken a y h f placed);
}
  where
    acts : old.act ≡ x.act
    acts = found_act x.act p.actors old found

    at_act : (a : ℕ) → a ≡ x.act → actor a p ≡ Some old
    at_act a mine = subst (λ k. actor k p ≡ Some old) (sym mine) found

    was_placed : (y : PlacedActivity) → x ≡ y → is_placed y.place ≡ true → is_placed old.place ≡ true
    was_placed y its h = subst (λ w. is_placed w ≡ true) place (subst (λ z. is_placed z.place ≡ true) (sym its) h)

    here : (y : PlacedActivity) → x ≡ y → IsHere p old → IsHere (with_actor x p) y
    here y its h =
        let there : is_there p.current x ≡ true = subst (λ k. is_number k (slice_index_or p.current x.home None) ≡ true) acts (subst (λ k. is_number old.act (slice_index_or p.current k None) ≡ true) (sym home) h.0) in
        subst (λ z. IsHere (with_actor x p) z) its (there, sent h)

    ready_of : (t a : ℕ) (y : PlacedActivity) → is_listed a (ready_at t p) ≡ true → a ≡ x.act → x ≡ y → (y.home ≡ t) × (is_resting y.place ≡ true)
    ready_of t a y h mine its =
        let r = ok.ready t a old h (at_act a mine) in
        subst (λ z. (z.home ≡ t) × (is_resting z.place ≡ true)) its (home ∙ r.0, subst (λ w. is_resting w ≡ true) (sym place) r.1)

    yields_of : (k a : ℕ) (y : PlacedActivity) → has_yield a (link_at k p) ≡ true → a ≡ x.act → x ≡ y → (is_placed y.place || is_leaving y.place) ≡ true
    yields_of k a y h mine its =
        let r = ok.yields k a old h (at_act a mine) in
        subst (λ z. (is_placed z.place || is_leaving z.place) ≡ true) its (subst (λ w. (is_placed w || is_leaving w) ≡ true) (sym place) r)

    taken_of : (y : PlacedActivity) → slice_index_or p.yielded y.home false ≡ true → x ≡ y → slice_index_or p.yielded old.home false ≡ true
    taken_of y h its = subst (λ k. slice_index_or p.yielded k false ≡ true) home (subst (λ z. slice_index_or p.yielded z.home false ≡ true) (sym its) h)

-- it gets a place that isn't Placed, and isn't in a ready list
pub s-place : (p : Placement) (x old : PlacedActivity) → Scheduled p → actor x.act p ≡ Some old → x.home ≡ old.home → is_placed x.place ≡ false → is_resting old.place ≡ false → ((k : ℕ) → has_yield x.act (link_at k p) ≡ true → is_leaving x.place ≡ true) → Scheduled (with_actor x p)
s-place p x old ok found home away busy leaves = record {
  fine = fine-actor p x old found home ok.fine;
  quantum = ok.quantum;
  ready = λ t a y h e. look p x old a y found e (λ mine its. no_ready t a y h mine) (λ other f. ok.ready t a y h f);
  yields = λ k a y h e. look p x old a y found e (λ mine its. yields_of k a y h mine its) (λ other f. ok.yields k a y h f);
  sent = λ k a y h e placed. look p x old a y found e (λ mine its. not_placed y its placed) (λ other f. ok.sent k a y h f placed);
  taken = λ a y h e placed. look p x old a y found e (λ mine its. not_placed y its placed) (λ other f. ok.taken a y h f placed);
}
  where
    no_ready : {R : Type 0} → (t a : ℕ) (y : PlacedActivity) → is_listed a (ready_at t p) ≡ true → a ≡ x.act → R
    no_ready t a y h mine =
        let r = ok.ready t a old h (subst (λ k. actor k p ≡ Some old) (sym mine) found) in
        let rests : is_resting old.place ≡ true = r.1 in
        absurd (cc)

    not_placed : {R : Type 0} → (y : PlacedActivity) → x ≡ y → is_placed y.place ≡ true → R
    not_placed y its h = let is : is_placed x.place ≡ true = subst (λ z. is_placed z.place ≡ true) (sym its) h in absurd (cc)

    yields_of : (k a : ℕ) (y : PlacedActivity) → has_yield a (link_at k p) ≡ true → a ≡ x.act → x ≡ y → (is_placed y.place || is_leaving y.place) ≡ true
    yields_of k a y h mine its =
        let l : is_leaving x.place ≡ true = leaves k (subst (λ b. has_yield b (link_at k p) ≡ true) mine h) in
        subst (λ z. (is_placed z.place || is_leaving z.place) ≡ true) its (grind (arith, nat_tests, l))

-- ---- ready lists

pub listed-joined : {R : Type 0} → (c a : ℕ) (xs : List ℕ) → is_listed c (with_member a xs) ≡ true → (is_listed c xs ≡ true → R) → (a ≡ c → R) → R
listed-joined {R = R} c a xs h old new = by_in (list_any (λ b. b == a) xs) h
  where
    at_end : (ys : List ℕ) → is_listed c (ys ++ a ∷ []) ≡ (is_listed c ys || (a == c))
    at_end [] = right_false (a == c)
      where
        right_false : (b : Bool) → (b || false) ≡ b
        right_false true = refl
        right_false false = refl
    at_end (y ∷ ys) = by_head (y == c) (at_end ys)
      where
        by_head : (b : Bool) → is_listed c (ys ++ a ∷ []) ≡ (is_listed c ys || (a == c)) → (b || is_listed c (ys ++ a ∷ [])) ≡ ((b || is_listed c ys) || (a == c))
        by_head true w = refl
        by_head false w = w

    by_either : (b d : Bool) → is_listed c xs ≡ b → (a == c) ≡ d → (b || d) ≡ true → R
    by_either true d f g w = old f
    by_either false true f g w = new (eqb-true a c g)
    by_either false false f g w = absurd (cc)

    by_in : (b : Bool) → is_listed c (if b then xs else xs ++ a ∷ []) ≡ true → R
    by_in true w = old w
    by_in false w = by_either (is_listed c xs) (a == c) refl refl (sym (at_end xs) ∙ w)

pub s-join : (p : Placement) (b : Bool) (t a : ℕ) → Scheduled p → (b ≡ true → (x : PlacedActivity) → actor a p ≡ Some x → (x.home ≡ t) × (is_resting x.place ≡ true)) → Scheduled (join_ready b t a p)
s-join p false t a ok rests = ok
s-join p true t a ok rests = record {
  fine = fine-joined p true t a ok.fine;
  quantum = ok.quantum;
  ready = λ u c y h e. list-set_or (is_listed c) p.ready t u (with_member a (ready_at t p)) refl h (λ same f. subst (λ z. (y.home ≡ z) × (is_resting y.place ≡ true)) same (listed-joined c a (ready_at t p) f (λ g. ok.ready t c y g e) (λ g. rests refl y (subst (λ z. actor z p ≡ Some y) (sym g) e)))) (λ other f. ok.ready u c y f e);
  yields = ok.yields;
  sent = ok.sent;
  taken = ok.taken;
}

filter-less : (c a : ℕ) (xs : List ℕ) → is_listed c (filter (λ b. not (b == a)) xs) ≡ true → is_listed c xs ≡ true
filter-less c a [] h = h
filter-less c a (x ∷ xs) h = by_keep (not (x == a)) h (filter-less c a xs)
  where
    by_head : (d : Bool) → (d || is_listed c (filter (λ b. not (b == a)) xs)) ≡ true → (is_listed c (filter (λ b. not (b == a)) xs) ≡ true → is_listed c xs ≡ true) → (d || is_listed c xs) ≡ true
    by_head true w ih = refl
    by_head false w ih = ih w

    by_behind : (d : Bool) → is_listed c xs ≡ true → (d || is_listed c xs) ≡ true
    by_behind true w = refl
    by_behind false w = w

    by_keep : (k : Bool) → is_listed c (if k then x ∷ filter (λ b. not (b == a)) xs else filter (λ b. not (b == a)) xs) ≡ true → (is_listed c (filter (λ b. not (b == a)) xs) ≡ true → is_listed c xs ≡ true) → is_listed c (x ∷ xs) ≡ true
    by_keep true w ih = by_head (x == c) w ih
    by_keep false w ih = by_behind (x == c) (ih w)

filter-none : (a : ℕ) (xs : List ℕ) → is_listed a (filter (λ b. not (b == a)) xs) ≡ false
filter-none a [] = refl
filter-none a (x ∷ xs) = by_same (x == a) refl (filter-none a xs)
  where
    by_same : (b : Bool) → (x == a) ≡ b → is_listed a (filter (λ c. not (c == a)) xs) ≡ false → is_listed a (if not b then x ∷ filter (λ c. not (c == a)) xs else filter (λ c. not (c == a)) xs) ≡ false
    by_same true e ih = ih
    by_same false e ih = subst (λ b. (b || is_listed a (filter (λ c. not (c == a)) xs)) ≡ false) (sym e) ih

-- an activity that rested comes, and leaves its tile's list
pub s-coming : (p : Placement) (t : ℕ) (x old : PlacedActivity) → Scheduled p → actor x.act p ≡ Some old → x.home ≡ old.home → old.home ≡ t → is_placed x.place ≡ false → (is_placed old.place || is_leaving old.place) ≡ false → Scheduled (leave_ready t x.act (with_actor x p))
s-coming p t x old ok found home at away calm = record {
  fine = record { links = after.links; homes = after.homes; apart = after.apart };
  quantum = ok.quantum;
  ready = λ u c y h e. list-set_or (is_listed c) p.ready t u (filter (λ b. not (b == x.act)) (ready_at t p)) refl h (λ same f. look p x old c y found e (λ mine its. gone_now c y f mine) (λ other g. subst (λ z. (y.home ≡ z) × (is_resting y.place ≡ true)) same (ok.ready t c y (filter-less c x.act (ready_at t p) f) g))) (λ differ f. look p x old c y found e (λ mine its. elsewhere u c y differ f mine) (λ other g. ok.ready u c y f g));
  yields = λ k a y h e. look p x old a y found e (λ mine its. no_yield k a y h mine) (λ other f. ok.yields k a y h f);
  sent = λ k a y h e placed. look p x old a y found e (λ mine its. not_placed y its placed) (λ other f. ok.sent k a y h f placed);
  taken = λ a y h e placed. look p x old a y found e (λ mine its. not_placed y its placed) (λ other f. ok.taken a y h f placed);
}
  where
    after : Fine (with_actor x p)
    after = fine-actor p x old found home ok.fine

    gone_now : {R : Type 0} → (c : ℕ) (y : PlacedActivity) → is_listed c (filter (λ b. not (b == x.act)) (ready_at t p)) ≡ true → c ≡ x.act → R
    gone_now c y f mine = let none : is_listed c (filter (λ b. not (b == x.act)) (ready_at t p)) ≡ false = subst (λ k. is_listed k (filter (λ b. not (b == x.act)) (ready_at t p)) ≡ false) (sym mine) (filter-none x.act (ready_at t p)) in absurd (cc)

    elsewhere : {R : Type 0} → (u c : ℕ) (y : PlacedActivity) → (t ≡ u → ⊥) → is_listed c (ready_at u p) ≡ true → c ≡ x.act → R
    elsewhere u c y differ f mine = let r = ok.ready u c old f (subst (λ k. actor k p ≡ Some old) (sym mine) found) in absurd (differ (sym at ∙ r.0))

    no_yield : {R : Type 0} → (k a : ℕ) (y : PlacedActivity) → has_yield a (link_at k p) ≡ true → a ≡ x.act → R
    no_yield k a y h mine = let r = ok.yields k a old h (subst (λ b. actor b p ≡ Some old) (sym mine) found) in absurd (cc)

    not_placed : {R : Type 0} → (y : PlacedActivity) → x ≡ y → is_placed y.place ≡ true → R
    not_placed y its h = let is : is_placed x.place ≡ true = subst (λ z. is_placed z.place ≡ true) (sym its) h in absurd (cc)

-- ---- Restore goes out

yield-unset : (ys : List Bool) (i : ℕ) → get_or (set ys i false) i false ≡ false
yield-unset [] i = refl
yield-unset (y ∷ ys) zero = refl
yield-unset (y ∷ ys) (suc i) = yield-unset ys i

yield-other : (ys : List Bool) (i k : ℕ) → get_or (set ys i false) k false ≡ true → get_or ys k false ≡ true
yield-other [] i k h = h
yield-other (y ∷ ys) zero zero h = absurd (cc)
yield-other (y ∷ ys) zero (suc k) h = h
yield-other (y ∷ ys) (suc i) zero h = h
yield-other (y ∷ ys) (suc i) (suc k) h = yield-other ys i k h

yield-set_or : {R : Type 0} → (ys : List Bool) (i k : ℕ) → get_or (set ys i true) k false ≡ true → (i ≡ k → R) → (get_or ys k false ≡ true → R) → R
yield-set_or [] i k h new old = old h
yield-set_or (y ∷ ys) zero zero h new old = new refl
yield-set_or (y ∷ ys) zero (suc k) h new old = old h
yield-set_or (y ∷ ys) (suc i) zero h new old = old h
yield-set_or (y ∷ ys) (suc i) (suc k) h new old = yield-set_or ys i k h (λ e. new (ap suc e)) old

back : (p : Placement) (y : PlacedActivity) → Scheduled p → actor y.act p ≡ Some y → is_coming y.place ≡ true → Scheduled (with_yielded y.home false (at_place Placed y p))
back p y ok found coming = record {
  fine = record { links = after.links; homes = after.homes; apart = after.apart };
  quantum = ok.quantum;
  ready = λ t a z h e. look p (record y { place = Placed }) y a z found e (λ mine its. no_ready t a z h mine) (λ other f. ok.ready t a z h f);
  yields = λ k a z h e. look p (record y { place = Placed }) y a z found e (λ mine its. no_yield k a z h mine) (λ other f. ok.yields k a z h f);
  sent = λ k a z h e placed. look p (record y { place = Placed }) y a z found e (λ mine its. no_yield k a z h mine) (λ other f. ok.sent k a z h f placed);
  taken = λ a z h e placed. look p (record y { place = Placed }) y a z found e (λ mine its. no_taken a z h its) (λ other f. ok.taken a z (yield-other p.yielded y.home z.home h) f placed);
}
  where
    after : Fine (at_place Placed y p)
    after = fine-actor p (record y { place = Placed }) y found refl ok.fine

    no_ready : {R : Type 0} → (t a : ℕ) (z : PlacedActivity) → is_listed a (ready_at t p) ≡ true → a ≡ y.act → R
    no_ready t a z h mine =
        let r = ok.ready t a y h (subst (λ k. actor k p ≡ Some y) (sym mine) found) in
        let rests : is_resting y.place ≡ true = r.1 in
        let wrong : is_resting y.place ≡ false = grind (arith, nat_tests, coming) in
        absurd (cc)

    no_yield : {R : Type 0} → (k a : ℕ) (z : PlacedActivity) → has_yield a (link_at k p) ≡ true → a ≡ y.act → R
    no_yield k a z h mine =
        let r : (is_placed y.place || is_leaving y.place) ≡ true = ok.yields k a y h (subst (λ b. actor b p ≡ Some y) (sym mine) found) in
        let wrong : (is_placed y.place || is_leaving y.place) ≡ false = grind (arith, nat_tests, coming) in
        absurd (cc)

    no_taken : {R : Type 0} → (a : ℕ) (z : PlacedActivity) → slice_index_or (set p.yielded y.home false) z.home false ≡ true → record y { place = Placed } ≡ z → R
    no_taken a z h its =
        let same : y.home ≡ z.home = ap (λ w. w.home) its in
        let off : slice_index_or (set p.yielded y.home false) z.home false ≡ false = subst (λ k. get_or (set p.yielded y.home false) k false ≡ false) same (yield-unset p.yielded y.home) in
        absurd (cc)

pub s-restored : (said : Said) (s : State) (t : ℕ) (p : Placement) → Scheduled p → ScheduledAfter (then_restore said s t p)
s-restored said s t p ok = by_leaving (list_any (is_leaving_at t) p.actors)
  where
    by_due : (r : Option PlacedActivity) → first_due t p.actors ≡ r → ScheduledAfter (with_restore said s p r)
    by_due None e = ok
    by_due (Some y) e = s-pushed (with_yielded y.home false (at_place Placed y p)) 0 y.home (Restore y.act) (back p y ok (find-among t p.actors y ok.fine.apart e) (due_coming t p.actors y e)) refl

    by_leaving : (b : Bool) → ScheduledAfter (with_restore said s p (if b then None else first_due t p.actors))
    by_leaving true = ok
    by_leaving false = by_due (first_due t p.actors) refl

-- ---- a Yield

pub s-push_yield : (p : Placement) (from a : ℕ) (x : PlacedActivity) → Scheduled p → actor a p ≡ Some x → IsHere p x → (is_placed x.place || is_leaving x.place) ≡ true → Scheduled (with_token from 0 (Yield a) p)
s-push_yield p from a x ok found here stays = record {
  fine = fine-pushed p from 0 (Yield a) ok.fine;
  quantum = ok.quantum;
  ready = ok.ready;
  yields = λ k c y h e. either k c h (λ g. ok.yields k c y g e) (λ same. mine c y same e (λ z. (is_placed z.place || is_leaving z.place) ≡ true) stays);
  sent = λ k c y h e placed. either k c h (λ g. ok.sent k c y g e placed) (λ same. mine c y same e (IsHere p) here);
  taken = ok.taken;
}
  where
    mine : (c : ℕ) (y : PlacedActivity) → a ≡ c → actor c p ≡ Some y → (P : PlacedActivity → Type 0) → P x → P y
    mine c y same e P h =
        let there : actor c p ≡ Some x = subst (λ k. actor k p ≡ Some x) same found in
        let its : x ≡ y = cc in
        subst P its h

    either : {R : Type 0} → (k c : ℕ) → has_yield c (link_at k (with_token from 0 (Yield a) p)) ≡ true → (has_yield c (link_at k p) ≡ true → R) → (a ≡ c → R) → R
    either {R = R} k c h old new = list-set_or (has_yield c) p.links (16 * from + 0) k (link from 0 p ++ Yield a ∷ []) refl h (λ same f. by_parts same (has_yield c (link from 0 p)) (a == c) refl refl (sym (yield-pushed c (link from 0 p) (Yield a)) ∙ f)) (λ differ f. old f)
      where
        by_parts : (16 * from + 0) ≡ k → (b d : Bool) → has_yield c (link from 0 p) ≡ b → (a == c) ≡ d → (b || (d || false)) ≡ true → R
        by_parts same true d f g w = old (subst (λ i. has_yield c (link_at i p) ≡ true) same f)
        by_parts same false true f g w = new (eqb-true a c g)
        by_parts same false false f g w = absurd (cc)

-- the stay's Yield, of an activity that is current
pub s-yield_once : (p : Placement) (x old : PlacedActivity) → Scheduled p → actor x.act p ≡ Some old → x.home ≡ old.home → x.place ≡ old.place → x.yield_sent ≡ old.yield_sent → is_there p.current x ≡ true → (is_placed x.place || is_leaving x.place) ≡ true → Scheduled (yield_once x p)
s-yield_once p x old ok found home place sent there stays = by_sent x.yield_sent refl
  where
    by_sent : (b : Bool) → x.yield_sent ≡ b → Scheduled (if b then with_actor x p else with_token x.home 0 (Yield x.act) (with_actor (record x { yield_sent = true }) p))
    by_sent true e = s-soft p x old ok found home place (λ h. e)
    by_sent false e =
        s-push_yield (with_actor (record x { yield_sent = true }) p) x.home x.act (record x { yield_sent = true }) (s-soft p (record x { yield_sent = true }) old ok found home place (λ h. refl)) (actor-with_same p (record x { yield_sent = true }) old found) (there, refl) stays

pub s-taken : (p : Placement) (t : ℕ) → Scheduled p → ((b : ℕ) (y : PlacedActivity) → actor b p ≡ Some y → y.home ≡ t → is_placed y.place ≡ true → IsHere p y) → Scheduled (with_yielded t true p)
s-taken p t ok here = record {
  fine = record { links = ok.fine.links; homes = ok.fine.homes; apart = ok.fine.apart };
  quantum = ok.quantum;
  ready = ok.ready;
  yields = ok.yields;
  sent = ok.sent;
  taken = λ a y h e placed. yield-set_or p.yielded t y.home h (λ same. here a y e (sym same) placed) (λ f. ok.taken a y f e placed);
}

-- ---- who is current

current-other : (cs : List (Option ℕ)) (t k : ℕ) (v : Option ℕ) → (k ≡ t → ⊥) → get_or (set cs t v) k None ≡ get_or cs k None
current-other [] t k v h = refl
current-other (c ∷ cs) zero zero v h = absurd (h refl)
current-other (c ∷ cs) zero (suc k) v h = refl
current-other (c ∷ cs) (suc t) zero v h = refl
current-other (c ∷ cs) (suc t) (suc k) v h = current-other cs t k v (λ e. h (ap suc e))

pub s-current : (p : Placement) (t : ℕ) (v : Option ℕ) → Scheduled p → ((a : ℕ) (y : PlacedActivity) → actor a p ≡ Some y → is_placed y.place ≡ true → is_there p.current y ≡ true → y.home ≡ t → ⊥) → Scheduled (with_current t v p)
s-current p t v ok apart = record {
  fine = record { links = ok.fine.links; homes = ok.fine.homes; apart = ok.fine.apart };
  quantum = ok.quantum;
  ready = ok.ready;
  yields = ok.yields;
  sent = λ k a y h e placed. still a y e placed (ok.sent k a y h e placed);
  taken = λ a y h e placed. still a y e placed (ok.taken a y h e placed);
}
  where
    still : (a : ℕ) (y : PlacedActivity) → actor a p ≡ Some y → is_placed y.place ≡ true → IsHere p y → IsHere (with_current t v p) y
    still a y e placed h = (subst (λ o. is_number y.act o ≡ true) (sym (current-other p.current t y.home v (λ w. apart a y e placed h.0 w))) h.0, h.1)
