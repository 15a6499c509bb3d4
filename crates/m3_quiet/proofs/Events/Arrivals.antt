-- Data that lands at a tile, Restore at a tile, and Saved at the kernel.
use Rattle.std.proofs.Common.{◌≡◌, ℕ, zero, suc, ◌+◌, ◌<◌, ◌≤◌, Bool, true, false, List, [], ◌∷◌, get_or, set, Some, None, refl, sym, subst, ap, arith}
use Rattle.std.specs.Prelude.{Option, if◌then◌else◌, ◌==◌, not, ◌&&◌}
use Rattle.std.proofs.lemmas.Bool.Decides.{nat_tests}
use Rattle.m3_base.specs.declared.ids.FlightId.{FlightId}
use Rattle.m3_base.specs.declared.packet.Packet.{Packet}
use Rattle.m3_base.specs.declared.event.Said.{Said}
use Rattle.m3_base.specs.Lists.Keyed as keyed
use Rattle.m3_base.specs.Ideal.Flights.{flight}
use Rattle.m3_base.specs.Ideal.State.{State}
use Rattle.m3_base.specs.Placement.State.{Placement, PlacedActivity, LinkToken, Data, Saved, Restore, Resting, actor, actor_act, link, with_link, with_current, at_place, home, home_in, is_leaving, join_ready}
use Rattle.m3_base.specs.Placement.Landing.{LandingResult, name_if_some, push_answer, push_closed}
use Rattle.m3_base.specs.Placement.Take.{new_stay, saved_in, is_waiting}
use Rattle.m3_base.specs.Ideal.State.{is_number}
use Rattle.m3_base.specs.Ideal.State.{same_act}
use Rattle.m3_quiet.specs.Potential.{Units, potential, packet_worth, link_worth, actor_worth, actor_in, actors_sum, is_there}
use Rattle.m3_quiet.specs.Facts.{ActorsApart, Fine, SavedOk}
use Rattle.m3_quiet.proofs.Sums.Lighter.{links_lighter}
use Rattle.m3_quiet.proofs.Events.Kinds.{found_itself}
use Rattle.m3_quiet.proofs.Sums.Contexts.{six, actors_calm, actors_but, gains_six}
use Rattle.m3_quiet.proofs.Events.Deliveries.{Comes, Gone, Served, Joins, LandedOk, CameOk}
use Rattle.m3_quiet.proofs.Sums.Whole.{pushed_potential, front_potential, actor_potential, joined_potential, closed_potential, fine-link, fine-pushed, fine-joined, fine-actor, Below, restored_below}
use Rattle.std.proofs.lemmas.Bool.{eqb-true}

-- ---- what an answer costs on a link

abbrev pub answer_cost : Option Packet → ℕ
answer_cost None = 0
answer_cost (Some x) = 3 + packet_worth (Some x)

answer_most : (o : Option Packet) → answer_cost o ≤ 3 + packet_worth o
answer_most None = omega arith
answer_most (Some x) = omega arith

pub link_most : (from to : ℕ) → link_worth from to ≤ 3
link_most from to = grind (arith, nat_tests)

link_least : (from to : ℕ) → 1 ≤ link_worth from to
link_least from to = grind (arith, nat_tests)

pub home_most : (p : Placement) (a : ℕ) → Fine p → home a p < 16
home_most p a ok = by_found (actor a p) refl
  where
    by_found : (o : Option PlacedActivity) → actor a p ≡ o → home_in o < 16
    by_found None e = omega arith
    by_found (Some x) e = (ok.homes a x e).1

answer_potential : (n : State) (p : Placement) (us : Units) (o t : ℕ) (id : FlightId) → Fine p → t < 16 → (x : Option Packet) → flight id n.flights ≡ x → potential n (push_answer t (name_if_some id x) p) us o ≤ potential n p us o + answer_cost x
answer_potential n p us o t id ok h None e = omega arith
answer_potential n p us o t id ok h (Some x) e =
    let one = pushed_potential n p us o t (home id.issuer p) (Data id) ok.links h (home_most p id.issuer ok) in
    let two = link_most t (home id.issuer p) in
    let three : packet_worth (flight id n.flights) ≡ packet_worth (Some x) = ap packet_worth e in
    omega (arith, one, two, three)

fine-answer : (p : Placement) (t : ℕ) (id : FlightId) (x : Option Packet) → Fine p → Fine (push_answer t (name_if_some id x) p)
fine-answer p t id None ok = ok
fine-answer p t id (Some x) ok = fine-pushed p t (home id.issuer p) (Data id) ok

pub state_potential : (s n : State) (p : Placement) (us : Units) (o : ℕ) (id : FlightId) → ActorsApart p.actors → LandedOk s n id → potential n p us o + answer_cost (flight id n.flights) ≤ potential s p us o + packet_worth (flight id s.flights)
state_potential s n p us o id apart ok = by_kind ok.comes
  where
    by_kind : Comes s n id → potential n p us o + answer_cost (flight id n.flights) ≤ potential s p us o + packet_worth (flight id s.flights)
    by_kind (Gone gone least calm) =
        let one = links_lighter n.flights s.flights ok.lighter p.links in
        let two = actors_calm s n ok.lighter calm p.current p.actors in
        let three = ok.grants in
        let four : answer_cost (flight id n.flights) ≡ 0 = ap answer_cost gone in
        omega (arith, one, two, three, four)
    by_kind (Served now least nobody calm) =
        let one = links_lighter n.flights s.flights ok.lighter p.links in
        let two = actors_calm s n ok.lighter calm p.current p.actors in
        let three = ok.grants in
        let four = answer_most (flight id n.flights) in
        omega (arith, one, two, three, four, now, least)
    by_kind (Joins a now least target calm) =
        let one = links_lighter n.flights s.flights ok.lighter p.links in
        let two = actors_but s n a 6 ok.lighter calm p.current p.actors apart (gains_six s n a p.current p.actors) in
        let three = ok.grants in
        let four = answer_most (flight id n.flights) in
        omega (arith, one, two, three, four, now, least)

-- ---- data lands at a tile

pub land_falls : (s : State) (p : Placement) (us : Units) (o from t : ℕ) (id : FlightId) (ts : List LinkToken) (c : LandingResult) → Fine p → from < 16 → t < 16 → link from t p ≡ Data id ∷ ts → CameOk s id c → potential c.state (push_closed t c.freed (push_answer t c.answer (with_link from t ts p))) us o < potential s p us o
land_falls s p us o from t id ts c ok h k e came =
    let q = with_link from t ts p in
    let fine = fine-link p from t ts ok in
    let one = front_potential s p us o from t (Data id) ts ok.links h k e in
    let two = link_least from t in
    let three = state_potential s c.state q us o id fine.apart came.landed in
    let four = answer_potential c.state q us o t id fine k (flight id c.state.flights) refl in
    let five = closed_potential c.state (push_answer t (name_if_some id (flight id c.state.flights)) q) us o t c.freed (fine-answer q t id (flight id c.state.flights) fine).links k in
    let six' : potential c.state (push_closed t c.freed (push_answer t (name_if_some id (flight id c.state.flights)) q)) us o < potential s p us o = omega (arith, one, two, three, four, five) in
    subst (λ a. potential c.state (push_closed t c.freed (push_answer t a q)) us o < potential s p us o) (sym came.answer) six'

-- ---- Restore

other_there : (current : List (Option ℕ)) (t a i b : ℕ) → (a == b) ≡ false → is_number b (get_or (set current t (Some a)) i None) ≡ true → is_number b (get_or current i None) ≡ true
other_there [] t a i b e h = h
other_there (c ∷ cs) zero a zero b e h = absurd (cc)
other_there (c ∷ cs) zero a (suc i) b e h = h
other_there (c ∷ cs) (suc t) a zero b e h = h
other_there (c ∷ cs) (suc t) a (suc i) b e h = other_there cs t a i b e h

-- an activity is worth no more where it isn't current
flag_worth : (s : State) (b c : Bool) (x : PlacedActivity) → (b ≡ true → c ≡ true) → actor_worth s b x ≤ actor_worth s c x
flag_worth s false true x h = grind (arith, nat_tests)
flag_worth s false false x h = omega arith
flag_worth s true true x h = omega arith
flag_worth s true false x h = let k = h refl in absurd (cc)

others_there : (s : State) (current : List (Option ℕ)) (t a : ℕ) (xs : List PlacedActivity) → keyed.find actor_act same_act a xs ≡ None → actors_sum s (set current t (Some a)) xs ≤ actors_sum s current xs
others_there s current t a [] e = omega arith
others_there s current t a (x ∷ xs) e = by_act (a == x.act) refl e (others_there s current t a xs)
  where
    by_act : (b : Bool) → (a == x.act) ≡ b → (if b then Some x else keyed.find actor_act same_act a xs) ≡ None → (keyed.find actor_act same_act a xs ≡ None → actors_sum s (set current t (Some a)) xs ≤ actors_sum s current xs) → actors_sum s (set current t (Some a)) (x ∷ xs) ≤ actors_sum s current (x ∷ xs)
    by_act true w f ih = absurd (cc)
    by_act false w f ih =
        let one = flag_worth s (is_there (set current t (Some a)) x) (is_there current x) x (other_there current t a x.home x.act w) in
        omega (arith, one, ih f)

one_there : (s : State) (current : List (Option ℕ)) (t a : ℕ) (xs : List PlacedActivity) (x : PlacedActivity) → ActorsApart xs → keyed.find actor_act same_act a xs ≡ Some x → actors_sum s (set current t (Some a)) xs + actor_in s current x ≤ actors_sum s current xs + actor_in s (set current t (Some a)) x
one_there s current t a [] x apart e = absurd (cc)
one_there s current t a (y ∷ ys) x apart e = by_act (a == y.act) refl e (one_there s current t a ys x apart.1)
  where
    by_act : (b : Bool) → (a == y.act) ≡ b → (if b then Some y else keyed.find actor_act same_act a ys) ≡ Some x → (keyed.find actor_act same_act a ys ≡ Some x → actors_sum s (set current t (Some a)) ys + actor_in s current x ≤ actors_sum s current ys + actor_in s (set current t (Some a)) x) → actors_sum s (set current t (Some a)) (y ∷ ys) + actor_in s current x ≤ actors_sum s current (y ∷ ys) + actor_in s (set current t (Some a)) x
    by_act true w f ih =
        let none : keyed.find actor_act same_act a ys ≡ None = subst (λ k. keyed.find actor_act same_act k ys ≡ None) (sym (eqb-true a y.act w)) apart.0 in
        let rest = others_there s current t a ys none in
        let same : y ≡ x = cc in
        subst (λ z. actors_sum s (set current t (Some a)) (y ∷ ys) + actor_in s current z ≤ actors_sum s current (y ∷ ys) + actor_in s (set current t (Some a)) z) same (omega (arith, rest))
    by_act false w f ih =
        let one = flag_worth s (is_there (set current t (Some a)) y) (is_there current y) y (other_there current t a y.home y.act w) in
        omega (arith, one, ih f)

abbrev pub fresh_stay : PlacedActivity → PlacedActivity
fresh_stay x = record x { moves = 0; yield_sent = false }

stay_worth : (s : State) (b c : Bool) (x : PlacedActivity) → actor_worth s b (fresh_stay x) ≤ actor_worth s c x + 2
stay_worth s b c x = grind (arith, nat_tests)

stay_potential : (s : State) (p : Placement) (us : Units) (o t a : ℕ) → Fine p → (x : Option PlacedActivity) → actor a p ≡ x → potential s (new_stay x (with_current t (Some a) p)) us o ≤ potential s p us o + 2
stay_potential s p us o t a ok None e = let one = others_there s p.current t a p.actors e in omega (arith, one)
stay_potential s p us o t a ok (Some x) e =
    let one = one_there s p.current t a p.actors x ok.apart e in
    let two = actor_potential s (with_current t (Some a) p) us o (fresh_stay x) x (found_itself p a x e) in
    let three = stay_worth s (is_there (set p.current t (Some a)) x) (is_there p.current x) x in
    omega (arith, one, two, three)

pub restore_falls : (s : State) (p : Placement) (us : Units) (o from t a : ℕ) (ts : List LinkToken) → Fine p → from < 16 → t < 16 → link from t p ≡ Restore a ∷ ts → potential s (new_stay (actor a p) (with_current t (Some a) (with_link from t ts p))) us o < potential s p us o
restore_falls s p us o from t a ts ok h k e =
    let one = front_potential s p us o from t (Restore a) ts ok.links h k e in
    let two = stay_potential s (with_link from t ts p) us o t a (fine-link p from t ts ok) (actor a p) refl in
    omega (arith, one, two)

-- ---- Saved

rests_worth : (s : State) (x : PlacedActivity) (waiting ended : Bool) → is_leaving x.place ≡ true → waiting ≡ is_waiting s (Some x) → ended ≡ x.ended → actor_worth s false (record x { place = Resting }) + six (x.has_program && (not waiting && not ended)) ≤ actor_worth s false x
rests_worth s x waiting ended a b c = grind (arith, nat_tests, a, b, c)

pub saved_falls : (s : State) (p : Placement) (us : Units) (o from a : ℕ) (waiting ended : Bool) (ts : List LinkToken) (y : Option PlacedActivity) → Fine p → from < 16 → link from 0 p ≡ Saved a waiting ended ∷ ts → SavedOk s p a waiting ended → actor a p ≡ y → Below us o (potential s p us o) (saved_in s (with_link from 0 ts p) waiting ended y)
saved_falls s p us o from a waiting ended ts None ok h e saved found = tt
saved_falls s p us o from a waiting ended ts (Some x) ok h e saved found =
    let q = with_link from 0 ts p in
    let fine = fine-link p from 0 ts ok in
    let b = x.has_program && (not waiting && not ended) in
    let here : actor x.act q ≡ Some x = found_itself p a x found in
    let fine2 = fine-actor q (record x { place = Resting }) x here refl fine in
    let one = front_potential s p us o from 0 (Saved a waiting ended) ts ok.links h (omega arith) e in
    let two = actor_potential s q us o (record x { place = Resting }) x here in
    let three = joined_potential s (at_place Resting x q) us o b x.home x.act in
    let away : is_there p.current x ≡ false = saved.away x found in
    let four : actor_worth s (is_there p.current x) (record x { place = Resting }) + six b ≤ actor_worth s (is_there p.current x) x = subst (λ z. actor_worth s z (record x { place = Resting }) + six b ≤ actor_worth s z x) (sym away) (rests_worth s x waiting ended (saved.leaving x found) (saved.waits x found) (saved.over x found)) in
    restored_below s (join_ready b x.home x.act (at_place Resting x q)) us o x.home (potential s p us o) (Said.Saved x.act) (fine-joined (at_place Resting x q) b x.home x.act fine2) (omega (arith, one, two, three, four))
