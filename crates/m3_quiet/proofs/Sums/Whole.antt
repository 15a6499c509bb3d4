-- How the whole sum changes where one thing of the places does.
use Rattle.std.proofs.Common.{◌≡◌, ℕ, ◌+◌, ◌<◌, ◌≤◌, Bool, true, false, List, [], ◌∷◌, ◌++◌, length, Some, None, refl, sym, subst, ◌∙◌, arith}
use Rattle.std.specs.Prelude.{Option, if◌then◌else◌, ◌==◌}
use Rattle.std.specs.List.{list_any}
use Rattle.std.proofs.lemmas.Bool.Decides.{nat_tests}
use Rattle.m3_base.specs.declared.event.Said.{Said}
use Rattle.m3_base.specs.Lists.Keyed as keyed
use Rattle.m3_base.specs.Ideal.State.{State}
use Rattle.m3_base.specs.Placement.State.{Placement, PlacedActivity, LinkToken, Restore, Closed, Placed, actor, actor_act, link, with_link, with_token, with_actor, at_place, join_ready, with_member, ready_at, is_coming}
use Rattle.m3_base.specs.Placement.Landing.{PlacementResult, push_closed}
use Rattle.m3_base.specs.Placement.Take.{is_due, first_due, is_leaving_at, with_restore, then_restore}
use Rattle.m3_base.specs.Ideal.State.{same_act}
use Rattle.m3_base.proofs.KeyedList.{find-replaced_other, find-replaced_same}
use Rattle.m3_quiet.specs.Potential.{Units, potential, token_worth, actor_in, actor_worth, is_there}
use Rattle.m3_quiet.specs.Facts.{ActorsApart, Fine}
use Rattle.m3_quiet.proofs.Sums.Changes.{links-pushed, links-front, links-length, actors-with}
use Rattle.m3_quiet.proofs.Sums.Opening.{joins_length, ready_set}
use Rattle.m3_quiet.proofs.Sums.Contexts.{six}
use Rattle.std.proofs.lemmas.Bool.{eqb-true}

-- ---- the sum

pub pushed_potential : (s : State) (p : Placement) (us : Units) (o from to : ℕ) (t : LinkToken) → length p.links ≡ 256 → from < 16 → to < 16 → potential s (with_token from to t p) us o ≡ potential s p us o + token_worth s.flights from to t
pushed_potential s p us o from to t n a b = let e = links-pushed s.flights from to t p n a b in omega (arith, e)

pub front_potential : (s : State) (p : Placement) (us : Units) (o from to : ℕ) (t : LinkToken) (ts : List LinkToken) → length p.links ≡ 256 → from < 16 → to < 16 → link from to p ≡ t ∷ ts → potential s (with_link from to ts p) us o + token_worth s.flights from to t ≡ potential s p us o
front_potential s p us o from to t ts n a b f = let e = links-front s.flights from to t ts p n a b f in omega (arith, e)

pub actor_potential : (s : State) (p : Placement) (us : Units) (o : ℕ) (x old : PlacedActivity) → actor x.act p ≡ Some old → potential s (with_actor x p) us o + actor_in s p.current old ≡ potential s p us o + actor_in s p.current x
actor_potential s p us o x old f = let e = actors-with s p.current x old p f in omega (arith, e)

pub joined_potential : (s : State) (p : Placement) (us : Units) (o : ℕ) (b : Bool) (t a : ℕ) → potential s (join_ready b t a p) us o ≤ potential s p us o + six b
joined_potential s p us o false t a = omega arith
joined_potential s p us o true t a = let e = ready_set p.ready t (with_member a (ready_at t p)) (joins_length (list_any (λ c. c == a) (ready_at t p)) a (ready_at t p)) in omega (arith, e)

pub closed_potential : (s : State) (p : Placement) (us : Units) (o from : ℕ) (f : Option ℕ) → length p.links ≡ 256 → from < 16 → potential s (push_closed from f p) us o ≡ potential s p us o
closed_potential s p us o from None n a = refl
closed_potential s p us o from (Some g) n a = let e = links-pushed s.flights from 0 (Closed g) p n a (omega arith) in omega (arith, e)

-- ---- what stays

pub fine-link : (p : Placement) (from to : ℕ) (ts : List LinkToken) → Fine p → Fine (with_link from to ts p)
fine-link p from to ts ok = record { links = links-length from to ts p ∙ ok.links; homes = ok.homes; apart = ok.apart }

pub fine-pushed : (p : Placement) (from to : ℕ) (t : LinkToken) → Fine p → Fine (with_token from to t p)
fine-pushed p from to t ok = fine-link p from to (link from to p ++ t ∷ []) ok

pub fine-closed : (p : Placement) (from : ℕ) (f : Option ℕ) → Fine p → Fine (push_closed from f p)
fine-closed p from None ok = ok
fine-closed p from (Some g) ok = fine-pushed p from 0 (Closed g) ok

pub fine-joined : (p : Placement) (b : Bool) (t a : ℕ) → Fine p → Fine (join_ready b t a p)
fine-joined p false t a ok = ok
fine-joined p true t a ok = record { links = ok.links; homes = ok.homes; apart = ok.apart }

none-replaced : (k : ℕ) (x : PlacedActivity) (xs : List PlacedActivity) → keyed.find actor_act same_act k xs ≡ None → keyed.find actor_act same_act k (keyed.with_replaced actor_act same_act x xs) ≡ None
none-replaced k x [] e = refl
none-replaced k x (y ∷ ys) e = grind (arith, nat_tests, none-replaced k x ys)

apart-replaced : (x : PlacedActivity) (xs : List PlacedActivity) → ActorsApart xs → ActorsApart (keyed.with_replaced actor_act same_act x xs)
apart-replaced x [] h = tt
apart-replaced x (y ∷ ys) h = by_act (x.act == y.act) refl (apart-replaced x ys h.1)
  where
    by_act : (b : Bool) → (x.act == y.act) ≡ b → ActorsApart (keyed.with_replaced actor_act same_act x ys) → ActorsApart (if b then x ∷ ys else y ∷ keyed.with_replaced actor_act same_act x ys)
    by_act true e ih = (subst (λ k. keyed.find actor_act same_act k ys ≡ None) (sym (eqb-true x.act y.act e)) h.0, h.1)
    by_act false e ih = (none-replaced y.act x ys h.0, ih)

-- a look-up after one activity changed
found-replaced : (x old : PlacedActivity) (xs : List PlacedActivity) → keyed.find actor_act same_act x.act xs ≡ Some old → keyed.find actor_act same_act x.act (keyed.with_replaced actor_act same_act x xs) ≡ Some x
found-replaced x old xs e = find-replaced_same actor_act same_act (λ a b. a == b) x old xs (grind (arith, nat_tests)) e

other-replaced : (a : ℕ) (x : PlacedActivity) (xs : List PlacedActivity) → (a == x.act) ≡ false → keyed.find actor_act same_act a (keyed.with_replaced actor_act same_act x xs) ≡ keyed.find actor_act same_act a xs
other-replaced a x xs h = find-replaced_other actor_act same_act (λ b c. b == c) a x xs (λ b c d e f. grind (arith, nat_tests, e, f)) h

pub actor-with_same : (p : Placement) (x old : PlacedActivity) → actor x.act p ≡ Some old → actor x.act (with_actor x p) ≡ Some x
actor-with_same p x old e = found-replaced x old p.actors e

pub actor-with_other : (p : Placement) (a : ℕ) (x : PlacedActivity) → (a == x.act) ≡ false → actor a (with_actor x p) ≡ actor a p
actor-with_other p a x h = other-replaced a x p.actors h

pub fine-actor : (p : Placement) (x old : PlacedActivity) → actor x.act p ≡ Some old → x.home ≡ old.home → Fine p → Fine (with_actor x p)
fine-actor p x old e same ok = record { links = ok.links; homes = homes; apart = apart-replaced x p.actors ok.apart }
  where
    homes : (a : ℕ) (y : PlacedActivity) → actor a (with_actor x p) ≡ Some y → (2 ≤ y.home) × (y.home < 16)
    homes a y f = by_act (a == x.act) refl
      where
        by_act : (b : Bool) → (a == x.act) ≡ b → (2 ≤ y.home) × (y.home < 16)
        by_act true w =
            let here : actor a (with_actor x p) ≡ Some x = subst (λ k. actor k (with_actor x p) ≡ Some x) (sym (eqb-true a x.act w)) (actor-with_same p x old e) in
            let its : x ≡ y = cc in
            let h = ok.homes x.act old e in
            subst (λ z. (2 ≤ z.home) × (z.home < 16)) its (subst (λ k. (2 ≤ k) × (k < 16)) (sym same) h)
        by_act false w = ok.homes a y (sym (actor-with_other p a x w) ∙ f)

-- ---- Restore goes out

pub find-among : (t : ℕ) (xs : List PlacedActivity) (y : PlacedActivity) → ActorsApart xs → first_due t xs ≡ Some y → keyed.find actor_act same_act y.act xs ≡ Some y
find-among t [] y apart e = absurd (cc)
find-among t (x ∷ xs) y apart e = by_due (is_due t x) refl e (find-among t xs y apart.1)
  where
    by_due : (b : Bool) → is_due t x ≡ b → (if b then Some x else first_due t xs) ≡ Some y → (first_due t xs ≡ Some y → keyed.find actor_act same_act y.act xs ≡ Some y) → keyed.find actor_act same_act y.act (x ∷ xs) ≡ Some y
    by_due true w f ih = let same : x ≡ y = cc in subst (λ z. keyed.find actor_act same_act z.act (x ∷ xs) ≡ Some z) same (itself (x.act == x.act) (grind (arith, nat_tests)))
      where
        itself : (b : Bool) → b ≡ true → (if b then Some x else keyed.find actor_act same_act x.act xs) ≡ Some x
        itself true h = refl
        itself false h = absurd (cc)
    by_due false w f ih = by_act (y.act == x.act) refl (ih f)
      where
        by_act : (b : Bool) → (y.act == x.act) ≡ b → keyed.find actor_act same_act y.act xs ≡ Some y → (if b then Some x else keyed.find actor_act same_act y.act xs) ≡ Some y
        by_act true v g = let none : keyed.find actor_act same_act y.act xs ≡ None = subst (λ k. keyed.find actor_act same_act k xs ≡ None) (sym (eqb-true y.act x.act v)) apart.0 in absurd (cc)
        by_act false v g = g

pub due_coming : (t : ℕ) (xs : List PlacedActivity) (y : PlacedActivity) → first_due t xs ≡ Some y → is_coming y.place ≡ true
due_coming t [] y e = absurd (cc)
due_coming t (x ∷ xs) y e = by_due (is_due t x) refl e (due_coming t xs y)
  where
    by_due : (b : Bool) → is_due t x ≡ b → (if b then Some x else first_due t xs) ≡ Some y → (first_due t xs ≡ Some y → is_coming y.place ≡ true) → is_coming y.place ≡ true
    by_due true w f ih = let same : x ≡ y = cc in subst (λ z. is_coming z.place ≡ true) same (grind (arith, nat_tests, w))
    by_due false w f ih = ih f

-- an outcome after which the sum is below this
abbrev pub Below : Units → ℕ → ℕ → Option PlacementResult → Type 0
Below us o n None = Unit {0}
Below us o n (Some d) = potential d.state d.places us o < n

comes_worth : (s : State) (b : Bool) (y : PlacedActivity) → is_coming y.place ≡ true → actor_worth s b (record y { place = Placed }) + 3 ≡ actor_worth s b y
comes_worth s b y h = grind (arith, nat_tests, h)

pub restored_below : (s : State) (p : Placement) (us : Units) (o t n : ℕ) (said : Said) → Fine p → potential s p us o < n → Below us o n (then_restore said s t p)
restored_below s p us o t n said ok h = by_leaving (list_any (is_leaving_at t) p.actors)
  where
    by_due : (r : Option PlacedActivity) → first_due t p.actors ≡ r → Below us o n (with_restore said s p r)
    by_due None e = h
    by_due (Some y) e =
        let found : actor y.act p ≡ Some y = find-among t p.actors y ok.apart e in
        let one = actor_potential s p us o (record y { place = Placed }) y found in
        let two = comes_worth s (is_there p.current y) y (due_coming t p.actors y e) in
        let three = pushed_potential s (at_place Placed y p) us o 0 y.home (Restore y.act) ok.links (omega arith) ((ok.homes y.act y found).1) in
        omega (arith, one, two, three, h)

    by_leaving : (b : Bool) → Below us o n (with_restore said s p (if b then None else first_due t p.actors))
    by_leaving true = h
    by_leaving false = by_due (first_due t p.actors) refl
