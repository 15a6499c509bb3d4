-- Switches: those of a script, and those that the driver wants.
use Rattle.std.proofs.Common.{◌≡◌, ℕ, zero, suc, ◌+◌, ◌*◌, ◌<◌, ◌≤◌, Bool, true, false, List, [], ◌∷◌, length, get_or, set, Some, None, refl, sym, subst, ◌∙◌, arith}
use Rattle.std.specs.Prelude.{Option, if◌then◌else◌, ◌==◌, not, ◌&&◌, ◌||◌, filter}
use Rattle.std.specs.List.{list_any}
use Rattle.std.proofs.lemmas.Bool.Decides.{nat_tests}
use Rattle.m3_base.specs.declared.event.Said.{Said}
use Rattle.m3_base.specs.declared.event.No.{No}
use Rattle.m3_base.specs.Lists.Keyed as keyed
use Rattle.m3_base.specs.Lists.Counting.{total}
use Rattle.m3_base.specs.Ideal.State.{State}
use Rattle.m3_base.specs.Placement.State.{Placement, PlacedActivity, Save, Leaving, Coming, actor, actor_act, with_token, at_place, leave_ready, ready_at, is_placed, is_coming, is_resting}
use Rattle.m3_base.specs.Placement.Order.{is_moving_at, placed_at, after_switch, switch}
use Rattle.m3_base.specs.Placement.Landing.{step_outcome}
use Rattle.m3_base.specs.Ideal.State.{same_act}
use Rattle.m3_quiet.specs.Potential.{Units, potential, actor_worth, actor_in, is_there, has_moved, ready_worth}
use Rattle.m3_quiet.specs.Facts.{ActorsApart, Fine}
use Rattle.m3_quiet.proofs.Events.Kinds.{found_act, found_itself}
use Rattle.m3_quiet.proofs.Sums.Whole.{pushed_potential, actor_potential, actor-with_other, fine-actor, Below}
use Rattle.std.proofs.lemmas.Bool.{eqb-true}

-- ---- the tile's Placed activity

pub placed_found : (t : ℕ) (xs : List PlacedActivity) (y : PlacedActivity) → ActorsApart xs → placed_at t xs ≡ Some y → keyed.find actor_act same_act y.act xs ≡ Some y
placed_found t [] y apart e = absurd (cc)
placed_found t (x ∷ xs) y apart e = by_placed ((x.home == t) && is_placed x.place) e (placed_found t xs y apart.1)
  where
    by_placed : (b : Bool) → (if b then Some x else placed_at t xs) ≡ Some y → (placed_at t xs ≡ Some y → keyed.find actor_act same_act y.act xs ≡ Some y) → keyed.find actor_act same_act y.act (x ∷ xs) ≡ Some y
    by_placed true f ih = let same : x ≡ y = cc in subst (λ z. keyed.find actor_act same_act z.act (x ∷ xs) ≡ Some z) same (itself (x.act == x.act) (grind (arith, nat_tests)))
      where
        itself : (b : Bool) → b ≡ true → (if b then Some x else keyed.find actor_act same_act x.act xs) ≡ Some x
        itself true h = refl
        itself false h = absurd (cc)
    by_placed false f ih = by_act (y.act == x.act) refl (ih f)
      where
        by_act : (b : Bool) → (y.act == x.act) ≡ b → keyed.find actor_act same_act y.act xs ≡ Some y → (if b then Some x else keyed.find actor_act same_act y.act xs) ≡ Some y
        by_act true v g = let none : keyed.find actor_act same_act y.act xs ≡ None = subst (λ k. keyed.find actor_act same_act k xs ≡ None) (sym (eqb-true y.act x.act v)) apart.0 in absurd (cc)
        by_act false v g = g

pub placed_is : (t : ℕ) (xs : List PlacedActivity) (y : PlacedActivity) → placed_at t xs ≡ Some y → is_placed y.place ≡ true
placed_is t [] y e = absurd (cc)
placed_is t (x ∷ xs) y e = by_placed ((x.home == t) && is_placed x.place) refl e (placed_is t xs y)
  where
    by_placed : (b : Bool) → ((x.home == t) && is_placed x.place) ≡ b → (if b then Some x else placed_at t xs) ≡ Some y → (placed_at t xs ≡ Some y → is_placed y.place ≡ true) → is_placed y.place ≡ true
    by_placed true w f ih = let same : x ≡ y = cc in subst (λ z. is_placed z.place ≡ true) same (grind (arith, nat_tests, w))
    by_placed false w f ih = ih f

pub placed_home : (t : ℕ) (xs : List PlacedActivity) (y : PlacedActivity) → placed_at t xs ≡ Some y → y.home ≡ t
placed_home t [] y e = absurd (cc)
placed_home t (x ∷ xs) y e = by_placed (x.home == t) (is_placed x.place) refl e (placed_home t xs y)
  where
    by_placed : (c d : Bool) → (x.home == t) ≡ c → (if c && d then Some x else placed_at t xs) ≡ Some y → (placed_at t xs ≡ Some y → y.home ≡ t) → y.home ≡ t
    by_placed true true g h ih = let its : x ≡ y = cc in subst (λ k. k.home ≡ t) its (eqb-true x.home t g)
    by_placed true false g h ih = ih h
    by_placed false d g h ih = ih h

-- ---- ready lists

filter_most : (p : ℕ → Bool) (xs : List ℕ) → length (filter p xs) ≤ length xs
filter_most p [] = omega arith
filter_most p (x ∷ xs) = by_test (p x) (filter_most p xs)
  where
    by_test : (b : Bool) → length (filter p xs) ≤ length xs → length (if b then x ∷ filter p xs else filter p xs) ≤ length (x ∷ xs)
    by_test true h = omega (arith, h)
    by_test false h = omega (arith, h)

without_front : (a : ℕ) (xs ys : List ℕ) → xs ≡ a ∷ ys → length (filter (λ b. not (b == a)) xs) + 1 ≤ length xs
without_front a xs ys e = subst (λ zs. length (filter (λ b. not (b == a)) zs) + 1 ≤ length zs) (sym e) (by_test (a == a) (grind (arith, nat_tests)))
  where
    by_test : (b : Bool) → b ≡ true → length (if not b then a ∷ filter (λ c. not (c == a)) ys else filter (λ c. not (c == a)) ys) + 1 ≤ length (a ∷ ys)
    by_test true h = let k = filter_most (λ c. not (c == a)) ys in omega (arith, k)
    by_test false h = absurd (cc)

shorter : (rs : List (List ℕ)) (t : ℕ) (ys : List ℕ) (k : ℕ) → length ys + k ≤ length (get_or rs t []) → total ready_worth (set rs t ys) + 6 * k ≤ total ready_worth rs
shorter [] t ys k h = omega (arith, h)
shorter (r ∷ rs) zero ys k h = omega (arith, h)
shorter (r ∷ rs) (suc t) ys k h = omega (arith, shorter rs t ys k h)

left_potential : (s : State) (p : Placement) (us : Units) (o t a k : ℕ) → length (filter (λ b. not (b == a)) (ready_at t p)) + k ≤ length (ready_at t p) → potential s (leave_ready t a p) us o + 6 * k ≤ potential s p us o
left_potential s p us o t a k h = let one = shorter p.ready t (filter (λ b. not (b == a)) (ready_at t p)) k h in omega (arith, one)

-- ---- the switch itself

leaves_worth : (s : State) (b : Bool) (x : PlacedActivity) → actor_worth s b (record x { place = Leaving }) ≤ actor_worth s b x + 6
leaves_worth s b x = grind (arith, nat_tests)

leaves_counted : (s : State) (b : Bool) (x : PlacedActivity) → b ≡ true → has_moved x ≡ true → actor_worth s b (record x { place = Leaving }) ≤ actor_worth s b x
leaves_counted s b x h k = grind (arith, nat_tests, h, k)

enters_worth : (s : State) (b : Bool) (x : PlacedActivity) → actor_worth s b (record x { place = Coming }) ≤ actor_worth s b x + 3
enters_worth s b x = grind (arith, nat_tests)

-- one that isn't Placed comes in place of one that is; k: what the second gains, and r: the places that become free in the ready list
pub switch_cost : (s : State) (p : Placement) (us : Units) (o t k r : ℕ) (x y : PlacedActivity) → Fine p → t < 16 → actor x.act p ≡ Some x → is_placed x.place ≡ false → placed_at t p.actors ≡ Some y → actor_in s p.current (record y { place = Leaving }) ≤ actor_in s p.current y + k → length (filter (λ b. not (b == x.act)) (ready_at t p)) + r ≤ length (ready_at t p) → potential s (leave_ready t x.act (with_token 0 t (Save y.act) (at_place Coming x (at_place Leaving y p)))) us o + 6 * r ≤ potential s p us o + k + 5
switch_cost s p us o t k r x y ok least found away placed gains shrinks =
    let here : actor y.act p ≡ Some y = placed_found t p.actors y ok.apart placed in
    let two : (x.act == y.act) ≡ false = apart_from (x.act == y.act) refl here in
    let p1 = at_place Leaving y p in
    let fine1 = fine-actor p (record y { place = Leaving }) y here refl ok in
    let found1 : actor x.act p1 ≡ Some x = actor-with_other p x.act (record y { place = Leaving }) two ∙ found in
    let p2 = at_place Coming x p1 in
    let fine2 = fine-actor p1 (record x { place = Coming }) x found1 refl fine1 in
    let a = actor_potential s p us o (record y { place = Leaving }) y here in
    let b = actor_potential s p1 us o (record x { place = Coming }) x found1 in
    let c = enters_worth s (is_there p.current x) x in
    let d = pushed_potential s p2 us o 0 t (Save y.act) fine2.links (omega arith) least in
    let e = left_potential s (with_token 0 t (Save y.act) p2) us o t x.act r shrinks in
    omega (arith, a, b, c, d, e, gains)
  where
    apart_from : (b : Bool) → (x.act == y.act) ≡ b → actor y.act p ≡ Some y → b ≡ false
    apart_from false e here = refl
    apart_from true e here =
        let its : actor x.act p ≡ Some y = subst (λ z. actor z p ≡ Some y) (sym (eqb-true x.act y.act e)) here in
        let same : x ≡ y = cc in
        let is : is_placed y.place ≡ true = placed_is t p.actors y placed in
        let not_is : is_placed y.place ≡ false = subst (λ z. is_placed z.place ≡ false) same away in
        absurd (cc)

-- ---- a script's switch

pub script_below : (s : State) (p : Placement) (us : Units) (o m t a : ℕ) → Fine p → potential s p us o + 17 ≡ m → (r : Option PlacedActivity) → actor a p ≡ r → Below us o m (switch s p t r)
script_below s p us o m t a ok sum None e = tt
script_below s p us o m t a ok sum (Some x) e = by_home (x.home == t) refl (is_placed x.place) refl (is_coming x.place) (list_any (is_moving_at t) p.actors)
  where
    by_placed : x.home ≡ t → is_placed x.place ≡ false → (r : Option PlacedActivity) → placed_at t p.actors ≡ r → Below us o m (after_switch s p t x r)
    by_placed h away None f = tt
    by_placed h away (Some y) f =
        let one = leaves_worth s (is_there p.current y) y in
        let two = filter_most (λ b. not (b == x.act)) (ready_at t p) in
        let least : t < 16 = subst (λ k. k < 16) h ((ok.homes a x e).1) in
        let three = switch_cost s p us o t 6 0 x y ok least (found_itself p a x e) away f one (omega (arith, two)) in
        omega (arith, three, sum)

    by_home : (b : Bool) → (x.home == t) ≡ b → (c : Bool) → is_placed x.place ≡ c → (d l : Bool) → Below us o m (if not b then step_outcome (Said.No No.NotHome) s p else (if c || d then step_outcome (Said.No No.Already) s p else (if l then step_outcome (Said.No No.Leaving) s p else after_switch s p t x (placed_at t p.actors))))
    by_home false f c g d l = omega (arith, sum)
    by_home true f true g d l = omega (arith, sum)
    by_home true f false g true l = omega (arith, sum)
    by_home true f false g false true = omega (arith, sum)
    by_home true f false g false false = by_placed (eqb-true x.home t f) g (placed_at t p.actors) refl

-- ---- the driver's switch

pub record WantedOk (s : State) (p : Placement) (t a : ℕ) : Type 0 where
  pub front : List ℕ
  pub ready : ready_at t p ≡ a ∷ front
  pub still : list_any (is_moving_at t) p.actors ≡ false
  pub home : (x : PlacedActivity) → actor a p ≡ Some x → x.home ≡ t
  pub resting : (x : PlacedActivity) → actor a p ≡ Some x → is_resting x.place ≡ true
  -- the Placed one is current, and made a move or sent a Yield
  pub current : (y : PlacedActivity) → placed_at t p.actors ≡ Some y → is_there p.current y ≡ true
  pub moved : (y : PlacedActivity) → placed_at t p.actors ≡ Some y → has_moved y ≡ true

pub wanted_below : (s : State) (p : Placement) (us : Units) (o t a : ℕ) → Fine p → WantedOk s p t a → (r : Option PlacedActivity) → actor a p ≡ r → Below us o (potential s p us o) (switch s p t r)
wanted_below s p us o t a ok want None e = tt
wanted_below s p us o t a ok want (Some x) e =
    let h = want.home x e in
    let home_is : (x.home == t) ≡ true = grind (arith, nat_tests, h) in
    let rests = want.resting x e in
    let away : is_placed x.place ≡ false = grind (arith, nat_tests, rests) in
    let not_coming : is_coming x.place ≡ false = grind (arith, nat_tests, rests) in
    by_home (x.home == t) (is_placed x.place) (is_coming x.place) (list_any (is_moving_at t) p.actors) home_is away away not_coming want.still
  where
    by_placed : is_placed x.place ≡ false → (r : Option PlacedActivity) → placed_at t p.actors ≡ r → Below us o (potential s p us o) (after_switch s p t x r)
    by_placed away None f = tt
    by_placed away (Some y) f =
        let one = leaves_counted s (is_there p.current y) y (want.current y f) (want.moved y f) in
        let mine : x.act ≡ a = found_act a p.actors x e in
        let two : length (filter (λ b. not (b == x.act)) (ready_at t p)) + 1 ≤ length (ready_at t p) = subst (λ k. length (filter (λ b. not (b == k)) (ready_at t p)) + 1 ≤ length (ready_at t p)) (sym mine) (without_front a (ready_at t p) want.front want.ready) in
        let least : t < 16 = subst (λ k. k < 16) (want.home x e) ((ok.homes a x e).1) in
        let three = switch_cost s p us o t 0 1 x y ok least (found_itself p a x e) away f (omega (arith, one)) two in
        omega (arith, three)

    by_home : (b c d l : Bool) → b ≡ true → is_placed x.place ≡ false → c ≡ false → d ≡ false → l ≡ false → Below us o (potential s p us o) (if not b then step_outcome (Said.No No.NotHome) s p else (if c || d then step_outcome (Said.No No.Already) s p else (if l then step_outcome (Said.No No.Leaving) s p else after_switch s p t x (placed_at t p.actors))))
    by_home false c d l f g i h k = absurd (cc)
    by_home true true d l f g i h k = absurd (cc)
    by_home true false true l f g i h k = absurd (cc)
    by_home true false false true f g i h k = absurd (cc)
    by_home true false false false f g i h k = by_placed g (placed_at t p.actors) refl
