-- The sum at opening.
use Rattle.std.proofs.Common.{◌≡◌, ℕ, zero, suc, ◌+◌, ◌*◌, ◌≤◌, Bool, true, false, List, [], ◌∷◌, ◌++◌, length, get_or, set, Some, None, refl, subst, ◌∙◌, ap, arith, replicate, length-append}
use Rattle.std.specs.Prelude.{Option, if◌then◌else◌, ◌==◌, ◌&&◌}
use Rattle.std.specs.List.{list_any}
use Rattle.m3_base.specs.declared.packet.Packet.{Packet}
use Rattle.m3_base.specs.declared.setup_line.SetupLine.{SetupLine}
use Rattle.m3_base.specs.Lists.Counting.{total}
use Rattle.m3_base.specs.Ideal.State.{State, Grant}
use Rattle.m3_base.specs.Ideal.Opening.{opening}
use Rattle.m3_base.specs.Placement.State.{Placement, PlacedActivity, Placed, Resting, join_ready, with_member, ready_at}
use Rattle.m3_base.specs.Placement.Opening.{opened_actor, opened_line, opened_lines, opening_placement, place_at_opening}
use Rattle.m3_quiet.specs.Potential.{link_sum, links_sum, sum_from, actor_worth, actors_sum, grant_worth, ready_worth, is_there}
use Rattle.m3_base.specs.DriverRun.Budget.{act_count}
use Rattle.m3_quiet.specs.Descent.{unit_acts}
use Rattle.m3_quiet.specs.Runs.{OpeningIsBelowBudget}

-- ---- grants

grant_most : (x : Grant) → grant_worth x ≤ 9
grant_most x = grind arith

grants_most : (gs : List Grant) → total grant_worth gs ≤ 9 * length gs
grants_most [] = omega arith
grants_most (x ∷ gs) = omega (arith, grant_most x, grants_most gs)

-- ---- activities

-- as it stands at opening, it is worth at most 3
abbrev pub IsNew : PlacedActivity → Type 0
IsNew x = (s : State) (b : Bool) → actor_worth s b x ≤ 3

abbrev pub AllNew : List PlacedActivity → Type 0
AllNew [] = Unit {0}
AllNew (x ∷ xs) = IsNew x × AllNew xs

opened_new : (a t : ℕ) (taken program : Bool) → IsNew (opened_actor a t (if taken then Resting else Placed) program)
opened_new a t true true s true = omega arith
opened_new a t true true s false = omega arith
opened_new a t true false s true = omega arith
opened_new a t true false s false = omega arith
opened_new a t false true s true = omega arith
opened_new a t false true s false = omega arith
opened_new a t false false s true = omega arith
opened_new a t false false s false = omega arith

all_new : (xs : List PlacedActivity) (x : PlacedActivity) → AllNew xs → IsNew x → AllNew (xs ++ x ∷ [])
all_new [] x h k = (k, tt)
all_new (y ∷ ys) x h k = (h.0, all_new ys x h.1 k)

new_sum : (s : State) (current : List (Option ℕ)) (xs : List PlacedActivity) → AllNew xs → actors_sum s current xs ≤ 3 * length xs
new_sum s current [] h = omega arith
new_sum s current (x ∷ xs) h = omega (arith, h.0 s (is_there current x), new_sum s current xs h.1)

-- ---- ready lists

pub joins_length : (b : Bool) (a : ℕ) (xs : List ℕ) → length (if b then xs else xs ++ a ∷ []) ≤ length xs + 1
joins_length true a xs = omega arith
joins_length false a xs = let e = length-append xs (a ∷ []) in omega (arith, e)

pub ready_set : (rs : List (List ℕ)) (t : ℕ) (ys : List ℕ) → length ys ≤ length (get_or rs t []) + 1 → total ready_worth (set rs t ys) ≤ total ready_worth rs + 6
ready_set [] t ys h = omega arith
ready_set (r ∷ rs) zero ys h = omega arith
ready_set (r ∷ rs) (suc t) ys h = omega (arith, ready_set rs t ys h)

-- ---- the places of these lines

pub record NewPlaces (p : Placement) (n : ℕ) : Type 0 where
  pub links : p.links ≡ replicate 256 []
  pub actors : AllNew p.actors
  pub count : length p.actors ≡ n
  pub ready : total ready_worth p.ready ≤ 6 * n

joined_new : (b : Bool) (t a n : ℕ) (p : Placement) (x : PlacedActivity) (current : List (Option ℕ)) → NewPlaces p n → IsNew x → NewPlaces (join_ready b t a (record p { current = current; actors = p.actors ++ x ∷ [] })) (n + 1)
joined_new true t a n p x current h k = record {
  links = h.links;
  actors = all_new p.actors x h.actors k;
  count = length-append p.actors (x ∷ []) ∙ (let e = h.count in omega arith);
  ready = (let e = ready_set p.ready t (with_member a (ready_at t p)) (joins_length (list_any (λ c. c == a) (ready_at t p)) a (ready_at t p)) in omega (arith, e, h.ready));
}
joined_new false t a n p x current h k = record {
  links = h.links;
  actors = all_new p.actors x h.actors k;
  count = length-append p.actors (x ∷ []) ∙ (let e = h.count in omega arith);
  ready = omega (arith, h.ready);
}

new_lines : (ps : List ℕ) (p : Placement) (n : ℕ) (ls : List SetupLine) → NewPlaces p n → NewPlaces (opened_lines ps p ls) (n + act_count ls)
new_lines ps p n [] h = let e : n + 0 ≡ n = omega arith in rw e h
new_lines ps p n (SetupLine.Quantum q ∷ ls) h = new_lines ps (record p { quantum = q }) n ls (record { links = h.links; actors = h.actors; count = h.count; ready = h.ready })
new_lines ps p n (SetupLine.Grant line ∷ ls) h = new_lines ps p n ls h
new_lines ps p n (SetupLine.Files g ∷ ls) h = new_lines ps p n ls h
new_lines ps p n (SetupLine.Item a c ∷ ls) h = new_lines ps p n ls h
new_lines ps p n (SetupLine.AwaitItem a ep ∷ ls) h = new_lines ps p n ls h
new_lines ps p n (SetupLine.Writer a mem send reply chunk ring bytes ∷ ls) h = new_lines ps p n ls h
new_lines ps p n (SetupLine.Reader a mem recv chunk ring fuel ∷ ls) h = new_lines ps p n ls h
new_lines ps p n (SetupLine.Boxed a logic fuel ∷ ls) h = new_lines ps p n ls h
new_lines ps p n (SetupLine.Act a t ∷ ls) h =
    let taken = list_any (λ x. x.home == t) p.actors in
    let program = list_any (λ b. b == a) ps in
    let k = joined_new (taken && program) t a n p (opened_actor a t (place_at_opening t p.actors) program) (if taken then p.current else set p.current t (Some a)) h (opened_new a t taken program) in
    let e : (n + 1) + act_count ls ≡ n + (1 + act_count ls) = omega arith in
    subst (NewPlaces (opened_lines ps p (SetupLine.Act a t ∷ ls))) e (new_lines ps (opened_line ps p (SetupLine.Act a t)) (n + 1) ls k)

empty_links : (fs : List Packet) (n k : ℕ) → sum_from (link_sum fs) k (replicate n []) ≡ 0
empty_links fs zero k = refl
empty_links fs (suc n) k = omega (arith, empty_links fs n (k + 1))

pub opens-links : (ps : List ℕ) (lines : List SetupLine) → (opening_placement ps lines).links ≡ replicate 256 []
opens-links ps lines =
    let start : NewPlaces (record { current = replicate 16 None; actors = []; links = replicate 256 []; ready = replicate 16 []; yielded = replicate 16 false; quantum = 8 }) 0 = record { links = refl; actors = tt; count = refl; ready = omega arith } in
    (new_lines ps _ 0 lines start).links

pub opening_worth : OpeningIsBelowBudget
opening_worth memory lines us left =
    let start : NewPlaces (record { current = replicate 16 None; actors = []; links = replicate 256 []; ready = replicate 16 []; yielded = replicate 16 false; quantum = 8 }) 0 = record { links = refl; actors = tt; count = refl; ready = omega arith } in
    let h = new_lines (unit_acts us) _ 0 lines start in
    let s = opening memory lines in
    let p = opening_placement (unit_acts us) lines in
    let a = grants_most s.grants in
    let b = new_sum s p.current p.actors h.actors in
    let c : links_sum s.flights p.links ≡ 0 = ap (links_sum s.flights) h.links ∙ empty_links s.flights 256 0 in
    let d = h.ready in
    let f = h.count in
    omega (arith, a, b, c, d, f)
