-- Turns that make no command lower the sum.
use Rattle.std.proofs.Common.{◌≡◌, ℕ, ◌+◌, ◌<◌, ◌≤◌, Bool, true, false, length, Some, None, refl, arith}
use Rattle.std.specs.Prelude.{if◌then◌else◌, is_some}
use Rattle.std.proofs.lemmas.Bool.Decides.{nat_tests}
use Rattle.m3_base.specs.Ideal.State.{State}
use Rattle.m3_base.specs.Placement.State.{Placement, PlacedActivity, Yield, actor, with_token, with_actor}
use Rattle.m3_base.specs.Placement.Take.{is_waiting}
use Rattle.m3_base.specs.Placement.Turn.{yield_once}
use Rattle.m3_quiet.specs.Potential.{Units, potential, token_worth, links_sum, actor_in, actor_worth, actors_sum, is_there}
use Rattle.m3_quiet.proofs.Sums.Changes.{links-pushed, actors-with}

-- what is asked of the activity whose turn it is
pub record TurnOk (p : Placement) (x : PlacedActivity) : Type 0 where
  pub links : length p.links ≡ 256
  pub home_in : x.home < 16
  pub found : actor x.act p ≡ Some x
  pub there : is_there p.current x ≡ true
  pub program : x.has_program ≡ true
  pub going : x.ended ≡ false

-- an activity gets this form, and sends its Yield if it hasn't
pub once_worth : (s : State) (p : Placement) (us : Units) (o : ℕ) (old x : PlacedActivity) → length p.links ≡ 256 → x.home < 16 → actor x.act p ≡ Some old → x.yield_sent ≡ false → potential s (yield_once x p) us o + actor_in s p.current old ≡ potential s p us o + actor_in s p.current (record x { yield_sent = true }) + 1
once_worth s p us o old x n h found not_sent =
    let one_more = links-pushed s.flights x.home 0 (Yield x.act) (with_actor (record x { yield_sent = true }) p) n h (omega arith) in
    let two = actors-with s p.current (record x { yield_sent = true }) old p found in
    by_sent x.yield_sent not_sent one_more two
  where
    by_sent : (b : Bool) → b ≡ false → links_sum s.flights (with_token x.home 0 (Yield x.act) (with_actor (record x { yield_sent = true }) p)).links ≡ links_sum s.flights p.links + token_worth s.flights x.home 0 (Yield x.act) → actors_sum s p.current (with_actor (record x { yield_sent = true }) p).actors + actor_in s p.current old ≡ actors_sum s p.current p.actors + actor_in s p.current (record x { yield_sent = true }) → potential s (if b then with_actor x p else with_token x.home 0 (Yield x.act) (with_actor (record x { yield_sent = true }) p)) us o + actor_in s p.current old ≡ potential s p us o + actor_in s p.current (record x { yield_sent = true }) + 1
    by_sent true e one_more two = absurd (cc)
    by_sent false e one_more two = omega (arith, one_more, two)

-- the same where it was sent before
pub sent_worth : (s : State) (p : Placement) (us : Units) (o : ℕ) (old x : PlacedActivity) → actor x.act p ≡ Some old → x.yield_sent ≡ true → potential s (yield_once x p) us o + actor_in s p.current old ≡ potential s p us o + actor_in s p.current x
sent_worth s p us o old x found sent = by_sent x.yield_sent sent (actors-with s p.current x old p found)
  where
    by_sent : (b : Bool) → b ≡ true → actors_sum s p.current (with_actor x p).actors + actor_in s p.current old ≡ actors_sum s p.current p.actors + actor_in s p.current x → potential s (if b then with_actor x p else with_token x.home 0 (Yield x.act) (with_actor (record x { yield_sent = true }) p)) us o + actor_in s p.current old ≡ potential s p us o + actor_in s p.current x
    by_sent false e two = absurd (cc)
    by_sent true e two = omega (arith, two)

-- what the stay's Yield takes of an activity's worth
yielded_worth : (s : State) (current : Bool) (x : PlacedActivity) → current ≡ true → x.has_program ≡ true → x.yield_sent ≡ false → 0 < x.moves → actor_worth s current (record x { yield_sent = true }) + 2 ≡ actor_worth s current x
yielded_worth s current x a b c d = grind (arith, nat_tests, a, b, c)

waiting_worth : (s : State) (current : Bool) (x : PlacedActivity) → current ≡ true → x.has_program ≡ true → x.yield_sent ≡ false → is_waiting s (Some x) ≡ true → actor_worth s current (record x { yield_sent = true }) + 2 ≡ actor_worth s current x
waiting_worth s current x a b c d = grind (arith, nat_tests, a, b, c, d)

-- the turn by quantum
pub quantum_falls : (s : State) (p : Placement) (us : Units) (o : ℕ) (x : PlacedActivity) → TurnOk p x → x.yield_sent ≡ false → 0 < x.moves → potential s (yield_once x p) us o < potential s p us o
quantum_falls s p us o x ok not_sent moved =
    let a = once_worth s p us o x x ok.links ok.home_in ok.found not_sent in
    let b = yielded_worth s (is_there p.current x) x ok.there ok.program not_sent moved in
    omega (arith, a, b)

-- a pending Await that still has no message, and sends the stay's Yield
pub wait_falls : (s : State) (p : Placement) (us : Units) (o : ℕ) (x : PlacedActivity) → TurnOk p x → x.yield_sent ≡ false → is_waiting s (Some x) ≡ true → potential s (yield_once x p) us o < potential s p us o
wait_falls s p us o x ok not_sent waits =
    let a = once_worth s p us o x x ok.links ok.home_in ok.found not_sent in
    let b = waiting_worth s (is_there p.current x) x ok.there ok.program not_sent waits in
    omega (arith, a, b)

-- a pending Await whose message is there
awake_worth : (s : State) (current : Bool) (x : PlacedActivity) → is_some x.pending ≡ true → is_waiting s (Some x) ≡ false → actor_worth s current (record x { pending = None }) + 1 ≡ actor_worth s current x
awake_worth s current x a b = grind (arith, nat_tests, a, b)

pub awake_falls : (s : State) (p : Placement) (us : Units) (o : ℕ) (x : PlacedActivity) → TurnOk p x → is_some x.pending ≡ true → is_waiting s (Some x) ≡ false → potential s (with_actor (record x { pending = None }) p) us o < potential s p us o
awake_falls s p us o x ok pends awake =
    let a = actors-with s p.current (record x { pending = None }) x p ok.found in
    let b = awake_worth s (is_there p.current x) x pends awake in
    omega (arith, a, b)

-- the end of a program
ended_worth : (s : State) (current : Bool) (x : PlacedActivity) → x.has_program ≡ true → x.ended ≡ false → actor_worth s current (record x { ended = true }) + 1 ≤ actor_worth s current x
ended_worth s current x a b = grind (arith, nat_tests, a, b)

ended_once_worth : (s : State) (current : Bool) (x : PlacedActivity) → current ≡ true → x.has_program ≡ true → x.ended ≡ false → x.yield_sent ≡ false → actor_worth s current (record x { ended = true; yield_sent = true }) + 3 ≤ actor_worth s current x
ended_once_worth s current x e a b c = grind (arith, nat_tests, e, a, b, c)

pub end_falls : (s : State) (p : Placement) (us : Units) (o : ℕ) (x : PlacedActivity) → TurnOk p x → potential s (yield_once (record x { ended = true }) p) us o < potential s p us o
end_falls s p us o x ok = by_sent x.yield_sent refl
  where
    by_sent : (b : Bool) → x.yield_sent ≡ b → potential s (yield_once (record x { ended = true }) p) us o < potential s p us o
    by_sent true e =
        let a = sent_worth s p us o x (record x { ended = true }) ok.found e in
        let b = ended_worth s (is_there p.current x) x ok.program ok.going in
        omega (arith, a, b)
    by_sent false e =
        let a = once_worth s p us o x (record x { ended = true }) ok.links ok.home_in ok.found e in
        let b = ended_once_worth s (is_there p.current x) x ok.there ok.program ok.going e in
        omega (arith, a, b)
