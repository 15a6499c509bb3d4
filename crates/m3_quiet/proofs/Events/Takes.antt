-- Takes that lower the sum.
use Rattle.std.proofs.Common.{◌≡◌, ℕ, ◌+◌, ◌<◌, ◌≤◌, Bool, List, [], ◌∷◌, ◌++◌, length, Some, ◌∙◌, arith}
use Rattle.std.proofs.lemmas.Bool.Decides.{nat_tests}
use Rattle.m3_base.specs.declared.ids.FlightId.{FlightId}
use Rattle.m3_base.specs.Ideal.Flights.{flight}
use Rattle.m3_base.specs.Ideal.State.{State}
use Rattle.m3_base.specs.Placement.State.{Placement, PlacedActivity, LinkToken, Data, Yield, actor, link, with_link, with_token, with_yielded}
use Rattle.m3_base.specs.Placement.Routing.{with_held}
use Rattle.m3_quiet.specs.Potential.{Units, potential, packet_worth, link_worth}
use Rattle.m3_quiet.proofs.Sums.Changes.{total-append, links-pushed, links-front, links-length, actors-with}

-- what is asked of a link
pub record LinkOk (p : Placement) (from to : ℕ) : Type 0 where
  pub links : length p.links ≡ 256
  pub from_in : from < 16
  pub to_in : to < 16

-- the kernel takes a Yield
pub yield_falls : (s : State) (p : Placement) (us : Units) (o from a t : ℕ) (b : Bool) (ts : List LinkToken) → LinkOk p from 0 → link from 0 p ≡ Yield a ∷ ts → potential s (with_yielded t b (with_link from 0 ts p)) us o < potential s p us o
yield_falls s p us o from a t b ts ok e = let one = links-front s.flights from 0 (Yield a) ts p ok.links ok.from_in ok.to_in e in omega (arith, one)

-- a tile sends a packet on to the kernel; no packet from the kernel is sent back
pub bounce_falls : (s : State) (p : Placement) (us : Units) (o from t : ℕ) (id : FlightId) (ts : List LinkToken) → LinkOk p from t → 1 ≤ from → 1 ≤ t → link from t p ≡ Data id ∷ ts → potential s (with_token t 0 (Data id) (with_link from t ts p)) us o < potential s p us o
bounce_falls s p us o from t id ts ok a b e =
    let one = links-front s.flights from t (Data id) ts p ok.links ok.from_in ok.to_in e in
    let two = links-pushed s.flights t 0 (Data id) (with_link from t ts p) (links-length from t ts p ∙ ok.links) ok.to_in (omega arith) in
    let three : link_worth from t ≡ 3 = grind (arith, nat_tests) in
    let four : link_worth t 0 ≡ 2 = grind (arith, nat_tests) in
    omega (arith, one, two, three, four)

-- the kernel passes a packet on
pub routed_falls : (s : State) (p : Placement) (us : Units) (o from : ℕ) (id : FlightId) (x : PlacedActivity) (ts : List LinkToken) → LinkOk p from 0 → 2 ≤ x.home → x.home < 16 → link from 0 p ≡ Data id ∷ ts → potential s (with_token 0 x.home (Data id) (with_link from 0 ts p)) us o < potential s p us o
routed_falls s p us o from id x ts ok least h e =
    let one = links-front s.flights from 0 (Data id) ts p ok.links ok.from_in ok.to_in e in
    let two = links-pushed s.flights 0 x.home (Data id) (with_link from 0 ts p) (links-length from 0 ts p ∙ ok.links) (omega arith) h in
    let three : link_worth from 0 ≡ 2 = grind (arith, nat_tests) in
    let four : link_worth 0 x.home ≡ 1 = grind (arith, nat_tests) in
    omega (arith, one, two, three, four)

-- or holds it
pub held_falls : (s : State) (p : Placement) (us : Units) (o from : ℕ) (id : FlightId) (x : PlacedActivity) (ts : List LinkToken) → LinkOk p from 0 → actor x.act p ≡ Some x → link from 0 p ≡ Data id ∷ ts → potential s (with_held id x (with_link from 0 ts p)) us o < potential s p us o
held_falls s p us o from id x ts ok found e =
    let one = links-front s.flights from 0 (Data id) ts p ok.links ok.from_in ok.to_in e in
    let two = actors-with s p.current (record x { hold = x.hold ++ id ∷ [] }) x (with_link from 0 ts p) found in
    let three : link_worth from 0 ≡ 2 = grind (arith, nat_tests) in
    let four = total-append (λ k. 1 + packet_worth (flight k s.flights)) x.hold (id ∷ []) in
    omega (arith, one, two, three, four)
