-- Turns that call their program: a Do, and the first Await.
use Rattle.std.proofs.Common.{◌≡◌, ℕ, zero, suc, ◌+◌, ◌<◌, ◌≤◌, Bool, true, false, List, [], ◌∷◌, length, Some, None, refl, sym, subst, ◌∙◌, arith}
use Rattle.std.specs.Prelude.{Option, if◌then◌else◌, ◌==◌, is_some}
use Rattle.std.proofs.lemmas.Bool.Decides.{nat_tests}
use Rattle.m3_base.specs.declared.ids.FlightId.{FlightId}
use Rattle.m3_base.specs.declared.packet.Packet.{Packet}
use Rattle.m3_base.specs.declared.command.Command.{Command}
use Rattle.m3_base.specs.declared.order.Order.{Order}
use Rattle.m3_base.specs.declared.event.Event.{Event}
use Rattle.m3_base.specs.declared.event.Made.{Made}
use Rattle.m3_base.specs.declared.step.Step.{Step}
use Rattle.m3_base.specs.Lists.Counting.{one}
use Rattle.m3_base.specs.Ideal.Flights.{flight, name_of}
use Rattle.m3_base.specs.Ideal.Context.{Context}
use Rattle.m3_base.specs.Ideal.Issue.{Issued, issue, next_id}
use Rattle.m3_base.specs.Ideal.State.{State, context_of, put_context}
use Rattle.m3_base.specs.Ideal.Step.{ideal_run, on_from, issue_in, issued_in, with_packet, has_unread, after_issue}
use Rattle.m3_base.specs.Placement.State.{Placement, PlacedActivity, Data, Yield, actor, with_token, with_actor, home}
use Rattle.m3_base.specs.Placement.Landing.{PlacementResult}
use Rattle.m3_base.specs.Placement.Routing.{tile_for, target}
use Rattle.m3_base.specs.Placement.Command.{next_id_of, push_new, command_by}
use Rattle.m3_base.specs.Placement.Turn.{await_turn, yield_once}
use Rattle.m3_quiet.specs.Potential.{Units, potential, actor_worth, is_there, units_sum, may_yield, may_join}
use Rattle.m3_quiet.specs.Facts.{Fine, LinksKnown, HoldsKnown}
use Rattle.m3_base.specs.Lists.CountDown.{one_less}
use Rattle.m3_quiet.specs.Descent.{Falls, takes_call, with_call_spent, units_of}
use Rattle.m3_quiet.proofs.Sums.Contexts.{Fewer, fewer-put}
use Rattle.m3_quiet.proofs.Events.Deliveries.{context-act}
use Rattle.m3_quiet.proofs.Sums.Whole.{pushed_potential, actor_potential, fine-actor, Below}
use Rattle.m3_quiet.proofs.Events.Arrivals.{home_most, link_most}
use Rattle.m3_quiet.proofs.Sums.NewFlight.{KnownLess, new_less, links_known, actors_known, packet_most}
use Rattle.m3_quiet.proofs.Events.Issue.{IssueOk, AllIssued, issue_ok}

-- ---- what a program's new packet needs
pub record CallOk (s : State) (p : Placement) : Type 0 where
  pub fine : Fine p
  pub links : LinksKnown s.flights p.links
  pub holds : HoldsKnown s.flights p.actors
  pub fresh : (a : ℕ) (c : Context) → context_of a s.contexts ≡ Some c → flight (next_id c) s.flights ≡ None

packet_less : (q : Option Packet) (id : FlightId) (s : State) → ((x : Packet) → q ≡ Some x → name_of x ≡ id) → flight id s.flights ≡ None → KnownLess (with_packet q s.flights) s.flights
packet_less None id s named none = λ k known. omega arith
packet_less (Some x) id s named none = new_less x s.flights (subst (λ k. flight k s.flights ≡ None) (sym (named x refl)) none)

-- the command is issued, and its packet is nowhere yet
issued_potential : (s : State) (p : Placement) (us : Units) (o a : ℕ) (c : Context) (i : Issued) → CallOk s p → context_of a s.contexts ≡ Some c → IssueOk c i → potential (after_issue s i) p us o ≤ potential s p us o
issued_potential s p us o a c i ok found issued =
    let less : KnownLess (with_packet i.packet s.flights) s.flights = packet_less i.packet (next_id c) s issued.named (ok.fresh a c found) in
    let own : context_of i.context.act s.contexts ≡ Some c = subst (λ k. context_of k s.contexts ≡ Some c) (sym (issued.act ∙ context-act a s.contexts c found)) found in
    let calm : Fewer has_unread (put_context i.context s.contexts) s.contexts = fewer-put has_unread c i.context s.contexts own issued.calm in
    let one = links_known (with_packet i.packet s.flights) s.flights less p.links ok.links in
    let two = actors_known s (after_issue s i) less calm p.current p.actors ok.holds in
    omega (arith, one, two)

-- a move more
moved_worth : (s : State) (b : Bool) (x : PlacedActivity) (k : ℕ) → actor_worth s b (record x { moves = k }) ≤ actor_worth s b x + 6
moved_worth s b x k = grind (arith, nat_tests)

tile_most : (p : Placement) (a : Option ℕ) → Fine p → tile_for a p < 16
tile_most p None ok = omega arith
tile_most p (Some a) ok = home_most p a ok

new_cost : (n : State) (p : Placement) (us : Units) (o from : ℕ) (id : FlightId) (r : Option Packet) → Fine p → from < 16 → flight id n.flights ≡ r → potential n (push_new id from r p) us o ≤ potential n p us o + 18
new_cost n p us o from id None ok h e = omega arith
new_cost n p us o from id (Some x) ok h e =
    let one = pushed_potential n p us o from (tile_for (target x) p) (Data id) ok.links h (tile_most p (target x) ok) in
    let two = link_most from (tile_for (target x) p) in
    let three = packet_most (flight id n.flights) in
    omega (arith, one, two, three)

pub command_below : (s : State) (p : Placement) (us : Units) (o m : ℕ) (x : PlacedActivity) (d : Command) → CallOk s p → actor x.act p ≡ Some x → potential s p us o + 25 ≡ m → Below us o m (command_by s (with_actor (record x { moves = x.moves + 1 }) p) x.act (ideal_run (Step.Issue x.act d ∷ []) s))
command_below s p us o m x d ok here sum = by_context (context_of x.act s.contexts) refl
  where
    by_issued : (c : Context) (r : Option Issued) → context_of x.act s.contexts ≡ Some c → AllIssued c r → Below us o m (command_by s (with_actor (record x { moves = x.moves + 1 }) p) x.act (on_from (ideal_run []) (issued_in s r)))
    by_issued c None e issued = tt
    by_issued c (Some i) e issued =
        let y = record x { moves = x.moves + 1 } in
        let q = with_actor y p in
        let n = after_issue s i in
        let id = next_id_of x.act (context_of x.act s.contexts) in
        let fine = fine-actor p y x here refl ok.fine in
        let one = issued_potential s p us o x.act c i ok e issued in
        let two = actor_potential n p us o y x here in
        let three = moved_worth n (is_there p.current x) x (x.moves + 1) in
        let four = new_cost n q us o (home x.act q) id (flight id n.flights) fine (home_most q x.act fine) refl in
        omega (arith, one, two, three, four, sum)

    by_context : (r : Option Context) → context_of x.act s.contexts ≡ r → Below us o m (command_by s (with_actor (record x { moves = x.moves + 1 }) p) x.act (on_from (ideal_run []) (issue_in s r d)))
    by_context None e = tt
    by_context (Some c) e = by_issued c (issue c d) e (issue_ok c d)

-- ---- Await

one_most : (b : Bool) → one b ≤ 1
one_most true = omega arith
one_most false = omega arith

part_most : (k : ℕ) (b : Bool) → (if b then k else 0) ≤ k
part_most k true = omega arith
part_most k false = omega arith

waits_worth : (s : State) (b c : Bool) (x : PlacedActivity) (o : Option ℕ) → actor_worth s b (record x { pending = o; yield_sent = c }) ≤ actor_worth s b x + 9
waits_worth s b c x o =
    let y = record x { pending = o; yield_sent = c } in
    let one_up = one_most (is_some o) in
    let two_up = part_most 2 (may_yield b y) in
    let six_up = part_most 6 (may_join s b y) in
    omega (arith, one_up, two_up, six_up)

once_cost : (s : State) (p : Placement) (us : Units) (o : ℕ) (x : PlacedActivity) (r : Option ℕ) → Fine p → actor x.act p ≡ Some x → potential s (yield_once (record x { pending = r }) p) us o ≤ potential s p us o + 10
once_cost s p us o x r ok here = by_sent x.yield_sent refl
  where
    by_sent : (b : Bool) → x.yield_sent ≡ b → potential s (if b then with_actor (record x { pending = r }) p else with_token x.home 0 (Yield x.act) (with_actor (record x { pending = r; yield_sent = true }) p)) us o ≤ potential s p us o + 10
    by_sent true e =
        let one = actor_potential s p us o (record x { pending = r }) x here in
        let two = waits_worth s (is_there p.current x) x.yield_sent x r in
        omega (arith, one, two)
    by_sent false e =
        let y = record x { pending = r; yield_sent = true } in
        let one = actor_potential s p us o y x here in
        let two = waits_worth s (is_there p.current x) true x r in
        let three = pushed_potential s (with_actor y p) us o x.home 0 (Yield x.act) ok.links ((ok.homes x.act x here).1) (omega arith) in
        omega (arith, one, two, three)

pub await_below : (s : State) (p : Placement) (us : Units) (o m : ℕ) (x : PlacedActivity) (ep : ℕ) (u : Bool) → Fine p → actor x.act p ≡ Some x → potential s p us o + 25 ≡ m → Below us o m (await_turn s p x ep u)
await_below s p us o m x ep true ok here sum =
    let one = actor_potential s p us o (record x { pending = None }) x here in
    let two = waits_worth s (is_there p.current x) x.yield_sent x None in
    omega (arith, one, two, sum)
await_below s p us o m x ep false ok here sum = let one = once_cost s p us o x (Some ep) ok here in omega (arith, one, sum)

-- ---- a call is spent

spent_sum : (a : ℕ) (us : Units) → 0 < units_of a us → units_sum (with_call_spent a us) + 25 ≡ units_sum us
spent_sum a [] h = absurd (omega arith)
spent_sum a (u ∷ us) h = by_act (u.0 == a) h (spent_sum a us)
  where
    by_act : (b : Bool) → 0 < (if b then u.1 else units_of a us) → (0 < units_of a us → units_sum (with_call_spent a us) + 25 ≡ units_sum us) → units_sum (if b then (u.0, one_less u.1) ∷ us else u ∷ with_call_spent a us) + 25 ≡ units_sum (u ∷ us)
    by_act true k ih = let e = one_fewer u.1 k in omega (arith, e)
      where
        one_fewer : (n : ℕ) → 0 < n → one_less n + 1 ≡ n
        one_fewer zero z = absurd (omega arith)
        one_fewer (suc n) z = omega arith
    by_act false k ih = let e = ih k in omega (arith, e)

pub spent_potential : (s : State) (p : Placement) (us : Units) (o a : ℕ) → 0 < units_of a us → potential s p (with_call_spent a us) o + 25 ≡ potential s p us o
spent_potential s p us o a h = let e = spent_sum a us h in omega (arith, e)

pub call_falls : (s : State) (p : Placement) (us : Units) (left : List Order) (a : ℕ) (m : Made) (r : Option PlacementResult) → takes_call (actor a p) (Some m) ≡ true → 0 < units_of a us → Below (with_call_spent a us) (length left) (potential s p (with_call_spent a us) (length left) + 25) r → Falls s p us left (Event.Turn a) (Some m) r
call_falls s p us left a m None calls h below = tt
call_falls s p us [] a m (Some d) calls h below = λ k. subst (λ b. potential d.state d.places (if b then with_call_spent a us else us) 0 < potential s p us 0) (sym calls) (let e = spent_potential s p us 0 a h in omega (arith, e, below))
call_falls s p us (o ∷ os) a m (Some d) calls h below = λ k. subst (λ b. potential d.state d.places (if b then with_call_spent a us else us) (length (o ∷ os)) < potential s p us (length (o ∷ os))) (sym calls) (let e = spent_potential s p us (length (o ∷ os)) a h in omega (arith, e, below))
