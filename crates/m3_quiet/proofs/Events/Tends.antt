-- The kernel routes a packet, and tends a held one.
use Rattle.std.proofs.Common.{◌≡◌, ℕ, ◌+◌, ◌<◌, ◌≤◌, Bool, true, false, List, [], ◌∷◌, ◌++◌, Some, None, refl, sym, subst, ap, arith}
use Rattle.std.specs.Prelude.{Option, if◌then◌else◌}
use Rattle.std.proofs.lemmas.Bool.Decides.{nat_tests}
use Rattle.m3_base.specs.declared.ids.FlightId.{FlightId}
use Rattle.m3_base.specs.declared.packet.Packet.{Packet}
use Rattle.m3_base.specs.Ideal.Flights.{flight}
use Rattle.m3_base.specs.Ideal.State.{State}
use Rattle.m3_base.specs.Placement.State.{Placement, PlacedActivity, Data, actor, with_token, with_actor, is_placed, is_leaving, join_ready}
use Rattle.m3_base.specs.Placement.Landing.{LandingResult, name_if_some, push_closed, landing_result}
use Rattle.m3_base.specs.Placement.Routing.{with_held, Routed, route, target_of}
use Rattle.m3_base.specs.Placement.Tend.{answer_routed, after_tend}
use Rattle.m3_quiet.specs.Potential.{Units, potential, packet_worth, link_worth, actor_worth, is_there, may_join}
use Rattle.m3_quiet.specs.Facts.{Fine}
use Rattle.m3_quiet.proofs.Sums.Changes.{total-append}
use Rattle.m3_quiet.proofs.Sums.Lighter.{links_lighter}
use Rattle.m3_quiet.proofs.Events.Kinds.{found_itself}
use Rattle.m3_quiet.proofs.Sums.Contexts.{six, actors_calm, actors_but, Gains}
use Rattle.m3_quiet.proofs.Events.Deliveries.{Comes, Gone, Served, Joins, LandedOk, AllCame}
use Rattle.m3_quiet.proofs.Sums.Whole.{pushed_potential, actor_potential, joined_potential, closed_potential, actor-with_same, fine-pushed, fine-closed, fine-joined, fine-actor, Below, restored_below}

-- ---- routing

placed_cost : (n : State) (p : Placement) (us : Units) (o : ℕ) (id : FlightId) (z : PlacedActivity) → Fine p → actor z.act p ≡ Some z → potential n (with_token 0 z.home (Data id) p) us o ≡ potential n p us o + (1 + packet_worth (flight id n.flights))
placed_cost n p us o id z ok found =
    let h = ok.homes z.act z found in
    let one = pushed_potential n p us o 0 z.home (Data id) ok.links (omega arith) h.1 in
    let two : link_worth 0 z.home ≡ 1 = (let k = h.0 in grind (arith, nat_tests, k)) in
    omega (arith, one, two)

held_cost : (n : State) (p : Placement) (us : Units) (o : ℕ) (id : FlightId) (z : PlacedActivity) → actor z.act p ≡ Some z → potential n (with_held id z p) us o ≡ potential n p us o + (1 + packet_worth (flight id n.flights))
held_cost n p us o id z found =
    let one = actor_potential n p us o (record z { hold = z.hold ++ id ∷ [] }) z found in
    let two = total-append (λ k. 1 + packet_worth (flight k n.flights)) z.hold (id ∷ []) in
    omega (arith, one, two)

abbrev pub routed_by : FlightId → PlacedActivity → Placement → Bool → Routed
routed_by id z p b = if b then record { held = false; places = with_token 0 z.home (Data id) p } else record { held = true; places = with_held id z p }

pub route_cost : (n : State) (p : Placement) (us : Units) (o : ℕ) (id : FlightId) (a : ℕ) (r : Option PlacedActivity) → Fine p → actor a p ≡ r → potential n (route id r p).places us o ≤ potential n p us o + (1 + packet_worth (flight id n.flights))
route_cost n p us o id a None ok e = omega arith
route_cost n p us o id a (Some z) ok e = by_place (is_placed z.place)
  where
    by_place : (b : Bool) → potential n (routed_by id z p b).places us o ≤ potential n p us o + (1 + packet_worth (flight id n.flights))
    by_place true = let k = placed_cost n p us o id z ok (found_itself p a z e) in omega (arith, k)
    by_place false = let k = held_cost n p us o id z (found_itself p a z e) in omega (arith, k)

pub fine-route : (p : Placement) (id : FlightId) (a : ℕ) (r : Option PlacedActivity) → Fine p → actor a p ≡ r → Fine (route id r p).places
fine-route p id a None ok e = ok
fine-route p id a (Some z) ok e = by_place (is_placed z.place)
  where
    by_place : (b : Bool) → Fine (routed_by id z p b).places
    by_place true = fine-pushed p 0 z.home (Data id) ok
    by_place false = fine-actor p (record z { hold = z.hold ++ id ∷ [] }) z (found_itself p a z e) refl ok

-- ---- an answer that arose here

abbrev pub route_price : Option Packet → ℕ
route_price None = 0
route_price (Some x) = 1 + packet_worth (Some x)

price_most : (o : Option Packet) → route_price o ≤ 1 + packet_worth o
price_most None = omega arith
price_most (Some x) = omega arith

answer_routed_cost : (n : State) (p : Placement) (us : Units) (o : ℕ) (id : FlightId) → Fine p → (x : Option Packet) → flight id n.flights ≡ x → potential n (answer_routed (name_if_some id x) p) us o ≤ potential n p us o + route_price x
answer_routed_cost n p us o id ok None e = omega arith
answer_routed_cost n p us o id ok (Some x) e =
    let one = route_cost n p us o id id.issuer (actor id.issuer p) ok refl in
    let two : packet_worth (flight id n.flights) ≡ packet_worth (Some x) = ap packet_worth e in
    omega (arith, one, two)

fine-answer_routed : (p : Placement) (id : FlightId) (x : Option Packet) → Fine p → Fine (answer_routed (name_if_some id x) p)
fine-answer_routed p id None ok = ok
fine-answer_routed p id (Some x) ok = fine-route p id id.issuer (actor id.issuer p) ok refl

-- ---- the front of a hold list

-- an activity that neither is current nor leaves doesn't join by its own stay
nobody_joins : (n : State) (b : Bool) (z : PlacedActivity) → b ≡ false → is_leaving z.place ≡ false → six (may_join n b z) ≡ 0
nobody_joins n b z h k = grind (arith, nat_tests, h, k)

away_potential : (s n : State) (p : Placement) (us : Units) (o : ℕ) (id : FlightId) (z : PlacedActivity) → Fine p → actor z.act p ≡ Some z → is_there p.current z ≡ false → is_leaving z.place ≡ false → target_of (flight id s.flights) ≡ Some z.act → LandedOk s n id → potential n p us o + route_price (flight id n.flights) + 6 ≤ potential s p us o + packet_worth (flight id s.flights)
away_potential s n p us o id z fine found away stays target ok = by_kind ok.comes
  where
    gains : (a : ℕ) → a ≡ z.act → Gains s n a 0 p.current p.actors
    gains a e y f =
        let here : actor a p ≡ Some z = subst (λ k. actor k p ≡ Some z) (sym e) found in
        let same : z ≡ y = cc in
        subst (λ w. six (may_join n (is_there p.current w) w) ≤ six (may_join s (is_there p.current w) w) + 0) same (let k = nobody_joins n (is_there p.current z) z away stays in omega (arith, k))

    by_kind : Comes s n id → potential n p us o + route_price (flight id n.flights) + 6 ≤ potential s p us o + packet_worth (flight id s.flights)
    by_kind (Gone gone least calm) =
        let one = links_lighter n.flights s.flights ok.lighter p.links in
        let two = actors_calm s n ok.lighter calm p.current p.actors in
        let three = ok.grants in
        let four : route_price (flight id n.flights) ≡ 0 = ap route_price gone in
        omega (arith, one, two, three, four, least)
    by_kind (Served now least nobody calm) = absurd (cc)
    by_kind (Joins a now least its calm) =
        let same : a ≡ z.act = cc in
        let one = links_lighter n.flights s.flights ok.lighter p.links in
        let two = actors_but s n a 0 ok.lighter calm p.current p.actors fine.apart (gains a same) in
        let three = ok.grants in
        let four = price_most (flight id n.flights) in
        omega (arith, one, two, three, four, now, least)

hold_less : (s : State) (b : Bool) (x : PlacedActivity) (id : FlightId) (ids : List FlightId) → x.hold ≡ id ∷ ids → actor_worth s b (record x { hold = ids }) + (1 + packet_worth (flight id s.flights)) ≡ actor_worth s b x
hold_less s b x id ids e = let same : record x { hold = id ∷ ids } ≡ x = ap (λ h. record x { hold = h }) (sym e) in subst (λ z. actor_worth s b (record x { hold = ids }) + (1 + packet_worth (flight id s.flights)) ≡ actor_worth s b z) same (omega arith)

pub tend_falls : (s : State) (p : Placement) (us : Units) (o : ℕ) (x : PlacedActivity) (id : FlightId) (ids : List FlightId) (b : Bool) (r : Option LandingResult) → Fine p → actor x.act p ≡ Some x → is_there p.current x ≡ false → is_leaving x.place ≡ false → x.hold ≡ id ∷ ids → target_of (flight id s.flights) ≡ Some x.act → AllCame s id r → Below us o (potential s p us o) (after_tend x.home (join_ready b x.home x.act (with_actor (record x { hold = ids }) p)) r)
tend_falls s p us o x id ids b None fine found away stays e target landing_result = tt
tend_falls s p us o x id ids b (Some c) fine found away stays e target landing_result =
    let z = record x { hold = ids } in
    let p1 = with_actor z p in
    let p2 = join_ready b x.home x.act p1 in
    let y = flight id c.state.flights in
    let p3 = answer_routed (name_if_some id y) p2 in
    let fine1 = fine-actor p z x found refl fine in
    let fine2 = fine-joined p1 b x.home x.act fine1 in
    let fine3 = fine-answer_routed p2 id y fine2 in
    let one = actor_potential s p us o z x found in
    let two = hold_less s (is_there p.current x) x id ids e in
    let three = away_potential s c.state p1 us o id z fine1 (actor-with_same p z x found) away stays target landing_result.landed in
    let four = joined_potential c.state p1 us o b x.home x.act in
    let five = six_most b in
    let six' = answer_routed_cost c.state p2 us o id fine2 y refl in
    let seven = closed_potential c.state p3 us o 0 c.freed fine3.links (omega arith) in
    let all : potential c.state (push_closed 0 c.freed p3) us o < potential s p us o = omega (arith, one, two, three, four, five, six', seven) in
    subst (λ a. Below us o (potential s p us o) (after_tend x.home p2 (Some (record c { answer = a })))) (sym landing_result.answer) (restored_below c.state (push_closed 0 c.freed p3) us o x.home (potential s p us o) c.said (fine-closed p3 0 c.freed fine3) all)
  where
    six_most : (d : Bool) → six d ≤ 6
    six_most true = omega arith
    six_most false = omega arith
