-- What lands: no flight is worth more, and its own packet pays for what it brings.
use Rattle.std.proofs.Common.{◌≡◌, ℕ, ◌-◌, ◌≤◌, Bool, true, false, List, [], ◌∷◌, Some, None, refl, sym, subst, ◌∙◌, ap, arith}
use Rattle.std.specs.Prelude.{Option, if◌then◌else◌, ◌==◌, not, ◌&&◌}
use Rattle.std.proofs.lemmas.Bool.Decides.{nat_tests}
use Rattle.m3_base.specs.declared.ids.FlightId.{FlightId}
use Rattle.m3_base.specs.declared.packet.Packet.{Packet}
use Rattle.m3_base.specs.declared.step.Step.{Step}
use Rattle.m3_base.specs.Lists.Counting.{total}
use Rattle.m3_base.specs.Ideal.Flights.{flight, name_of, same_name, end_flight}
use Rattle.m3_base.specs.Ideal.Context.{Context, Endpoint, Free, endpoint, with_endpoint, endpoint_at}
use Rattle.m3_base.specs.Ideal.State.{State, Standing, Grant, context_of, put_context, grant_in, is_done, holder, holder_ep}
use Rattle.m3_base.specs.Ideal.GrantRules.{change_grant, set_some}
use Rattle.m3_base.specs.Ideal.Landing.{has_closing, flies_at, is_closing, is_record_of}
use Rattle.m3_base.specs.Ideal.Step.{Label, Frees, IdealResult, ideal_step, ideal_run, on_from, with_label, step_to, has_unread, closed_in, free_in}
use Rattle.m3_base.specs.Placement.Landing.{LandingResult, landing_result, landing_result_by, landing_step, closing_steps, labels_in, name_if_some}
use Rattle.m3_base.specs.Placement.Routing.{target_of}
use Rattle.m3_base.proofs.FlightNames.{same_name-is}
use Rattle.m3_base.specs.Ideal.FlightNames.{Distinct}
use Rattle.m3_quiet.specs.Potential.{packet_worth, grant_worth}
use Rattle.m3_quiet.specs.Facts.{RecordsStand}
use Rattle.m3_quiet.proofs.Sums.Lighter.{Lighter}
use Rattle.m3_quiet.proofs.Events.Kinds.{set_worth, found_grant}
use Rattle.m3_quiet.proofs.Sums.Contexts.{Fewer, FewerBut, FewerIn, fewer-put, fewer-set}
use Rattle.std.proofs.lemmas.Bool.{eqb-true}

-- ---- look-ups

pub flight-name : (id : FlightId) (fs : List Packet) (x : Packet) → flight id fs ≡ Some x → name_of x ≡ id
flight-name id [] x e = absurd (cc)
flight-name id (y ∷ fs) x e = by_name (same_name id (name_of y)) refl e (flight-name id fs x)
  where
    by_name : (b : Bool) → same_name id (name_of y) ≡ b → (if b then Some y else flight id fs) ≡ Some x → (flight id fs ≡ Some x → name_of x ≡ id) → name_of x ≡ id
    by_name true w f ih = let same : y ≡ x = cc in let k = same_name-is id (name_of y) w in cc
    by_name false w f ih = ih f

pub context-act : (a : ℕ) (cs : List Context) (x : Context) → context_of a cs ≡ Some x → x.act ≡ a
context-act a [] x e = absurd (cc)
context-act a (y ∷ cs) x e = by_act (a == y.act) refl e (context-act a cs x)
  where
    by_act : (b : Bool) → (a == y.act) ≡ b → (if b then Some y else context_of a cs) ≡ Some x → (context_of a cs ≡ Some x → x.act ≡ a) → x.act ≡ a
    by_act true w f ih = let same : y ≡ x = cc in let k = eqb-true a y.act w in cc
    by_act false w f ih = ih f

-- ---- the end of a flight

pub end_lighter : (id : FlightId) (fs : List Packet) → Distinct fs → Lighter (end_flight id fs) fs
end_lighter id [] d k = omega arith
end_lighter id (x ∷ fs) d k = by_name (same_name id (name_of x)) (end_lighter id fs d.1 k)
  where
    by_mine : (b : Bool) → same_name k (name_of x) ≡ b → packet_worth (flight k fs) ≤ packet_worth (if b then Some x else flight k fs)
    by_mine true w =
        let none : flight k fs ≡ None = subst (λ z. flight z fs ≡ None) (sym (same_name-is k (name_of x) w)) d.0 in
        let nothing : packet_worth (flight k fs) ≡ 0 = ap packet_worth none in
        omega (arith, nothing)
    by_mine false w = omega arith

    by_other : (b : Bool) → packet_worth (flight k (end_flight id fs)) ≤ packet_worth (flight k fs) → packet_worth (if b then Some x else flight k (end_flight id fs)) ≤ packet_worth (if b then Some x else flight k fs)
    by_other true h = omega arith
    by_other false h = h

    by_name : (b : Bool) → packet_worth (flight k (end_flight id fs)) ≤ packet_worth (flight k fs) → packet_worth (flight k (if b then fs else x ∷ end_flight id fs)) ≤ packet_worth (flight k (x ∷ fs))
    by_name true h = by_mine (same_name k (name_of x)) refl
    by_name false h = by_other (same_name k (name_of x)) h

-- ---- what came

-- what becomes of the flight, and whose unread messages may be one more
pub data Comes (s n : State) (id : FlightId) : Type 0 where
  -- it ends
  Gone : flight id n.flights ≡ None → 6 ≤ packet_worth (flight id s.flights) → Fewer has_unread n.contexts s.contexts → Comes s n id
  -- an access gets its answer
  Served : packet_worth (flight id n.flights) ≤ 6 → 9 ≤ packet_worth (flight id s.flights) → target_of (flight id s.flights) ≡ None → Fewer has_unread n.contexts s.contexts → Comes s n id
  -- a message or reply gets its answer
  Joins : (a : ℕ) → packet_worth (flight id n.flights) ≤ 6 → 15 ≤ packet_worth (flight id s.flights) → target_of (flight id s.flights) ≡ Some a → FewerBut a has_unread n.contexts s.contexts → Comes s n id

pub record LandedOk (s n : State) (id : FlightId) : Type 0 where
  pub lighter : Lighter n.flights s.flights
  pub grants : total grant_worth n.grants ≤ total grant_worth s.grants
  pub comes : Comes s n id

pub record CameOk (s : State) (id : FlightId) (c : LandingResult) : Type 0 where
  pub landed : LandedOk s c.state id
  pub answer : c.answer ≡ name_if_some id (flight id c.state.flights)

abbrev pub AllCame : State → FlightId → Option LandingResult → Type 0
AllCame s id None = Unit {0}
AllCame s id (Some c) = CameOk s id c

-- by the first step's result
abbrev pub came_next : State → FlightId → Step → Option IdealResult → Option LandingResult
came_next s id first o = landing_result_by s id (first ∷ closing_steps (labels_in (on_from (ideal_run []) o))) (on_from (ideal_run (closing_steps (labels_in (on_from (ideal_run []) o)))) o)

pub came_is : (s : State) (id : FlightId) (first : Step) (o : Option IdealResult) → landing_step id (flight id s.flights) ≡ first → ideal_step s first ≡ o → landing_result s id ≡ came_next s id first o
came_is s id first o e f = ap (λ t. came_next s id t (ideal_step s t)) e ∙ ap (came_next s id first) f

-- no further step
pub alone : (s n : State) (id : FlightId) (first : Step) (w : Label) → LandedOk s n id → AllCame s id (landing_result_by s id (first ∷ []) (Some (record { words = w ∷ []; state = n })))
alone s n id first w ok = record { landed = ok; answer = refl }

-- ---- an endpoint becomes free

abbrev pub to_closed : Grant → Grant
to_closed y = record y { standing = Standing.Closed }

closed_worth : (x : Grant) → is_done x.standing ≡ false → grant_worth (to_closed x) ≡ grant_worth x
closed_worth x h = grind (arith, nat_tests, h)

closed_sum : (gs : List Grant) (g : ℕ) (x : Grant) → grant_in gs g ≡ Some x → is_done x.standing ≡ false → total grant_worth (change_grant gs g to_closed) ≡ total grant_worth gs
closed_sum gs g x e h =
    let one = set_worth gs (g - 1) x (to_closed x) (found_grant gs g x e) in
    let two = closed_worth x h in
    subst (λ o. total grant_worth (set_some gs g to_closed o) ≡ total grant_worth gs) (sym e) (omega (arith, one, two))

free_unread : (x : Context) (ep : ℕ) → FewerIn has_unread (with_endpoint x ep Free) x
free_unread x ep k h = fewer-set has_unread x.endpoints ep k Free (λ z. absurd (cc)) h

fewer-joined : (f : Endpoint → Bool) (a b c : List Context) → Fewer f a b → Fewer f b c → Fewer f a c
fewer-joined f a b c h k x ep w = k x ep (h x ep w)

fewer-joined_but : (o : ℕ) (f : Endpoint → Bool) (a b c : List Context) → Fewer f a b → FewerBut o f b c → FewerBut o f a c
fewer-joined_but o f a b c h k x ep other w = k x ep other (h x ep w)

comes_on : (s n m : State) (id : FlightId) → m.flights ≡ n.flights → Fewer has_unread m.contexts n.contexts → Comes s n id → Comes s m id
comes_on s n m id e less (Gone a b c) = Gone (ap (flight id) e ∙ a) b (fewer-joined has_unread m.contexts n.contexts s.contexts less c)
comes_on s n m id e less (Served a b t c) = Served (subst (λ fs. packet_worth (flight id fs) ≤ 6) (sym e) a) b t (fewer-joined has_unread m.contexts n.contexts s.contexts less c)
comes_on s n m id e less (Joins x a b t c) = Joins x (subst (λ fs. packet_worth (flight id fs) ≤ 6) (sym e) a) b t (fewer-joined_but x has_unread m.contexts n.contexts s.contexts less c)

-- this state, where the records are those of s or fewer
pub record Closable (s n : State) (id : FlightId) : Type 0 where
  pub ok : LandedOk s n id
  pub records : (g : ℕ) → Fewer (is_record_of g) n.contexts s.contexts
  pub grants : n.grants ≡ s.grants

abbrev pub freed_state : State → ℕ → ℕ → Context → State
freed_state n g ep c = record n { contexts = put_context (with_endpoint c ep Free) n.contexts; grants = change_grant n.grants g to_closed }

freed_ok : (s n : State) (id : FlightId) (g : ℕ) (x : Grant) (c : Context) → RecordsStand s → Closable s n id → grant_in n.grants g ≡ Some x → context_of (holder x.line) n.contexts ≡ Some c → has_closing g (endpoint c (holder_ep x.line)) ≡ true → LandedOk s (freed_state n g (holder_ep x.line) c) id
freed_ok s n id g x c stand ok e found closing =
    let here : is_record_of g (endpoint_at (context_of (holder x.line) n.contexts) (holder_ep x.line)) ≡ true = subst (λ o. is_record_of g (endpoint_at o (holder_ep x.line)) ≡ true) (sym found) (first_of_two (is_record_of g (endpoint c (holder_ep x.line))) (is_closing (endpoint c (holder_ep x.line))) closing) in
    let there = ok.records g (holder x.line) (holder_ep x.line) here in
    let undone : is_done x.standing ≡ false = stand (holder x.line) (holder_ep x.line) g x there (subst (λ gs. grant_in gs g ≡ Some x) ok.grants e) in
    let same = closed_sum n.grants g x e undone in
    let mine : context_of c.act n.contexts ≡ Some c = subst (λ k. context_of k n.contexts ≡ Some c) (sym (context-act (holder x.line) n.contexts c found)) found in
    let less : Fewer has_unread (put_context (with_endpoint c (holder_ep x.line) Free) n.contexts) n.contexts = fewer-put has_unread c (with_endpoint c (holder_ep x.line) Free) n.contexts mine (free_unread c (holder_ep x.line)) in
    record {
      lighter = ok.ok.lighter;
      grants = (let k = ok.ok.grants in omega (arith, same, k));
      comes = comes_on s n (freed_state n g (holder_ep x.line) c) id refl less ok.ok.comes;
    }
  where
    first_of_two : (a b : Bool) → (a && b) ≡ true → a ≡ true
    first_of_two true b h = refl
    first_of_two false b h = h

-- the step Closed after the first
pub and_closed : (s n : State) (id : FlightId) (first : Step) (w : Label) (g : ℕ) → RecordsStand s → Closable s n id → AllCame s id (landing_result_by s id (first ∷ Step.Closed g ∷ []) (with_label w (ideal_run (Step.Closed g ∷ []) n)))
and_closed s n id first w g stand ok = by_grant (grant_in n.grants g) refl
  where
    by_flags : (x : Grant) (c : Context) (p q : Bool) → grant_in n.grants g ≡ Some x → context_of (holder x.line) n.contexts ≡ Some c → has_closing g (endpoint c (holder_ep x.line)) ≡ p → AllCame s id (landing_result_by s id (first ∷ Step.Closed g ∷ []) (with_label w (on_from (ideal_run []) (if p && q then step_to (Frees g) (freed_state n g (holder_ep x.line) c) else None))))
    by_flags x c false q e f h = tt
    by_flags x c true false e f h = tt
    by_flags x c true true e f h = record { landed = freed_ok s n id g x c stand ok e f h; answer = refl }

    by_context : (x : Grant) (o : Option Context) → grant_in n.grants g ≡ Some x → context_of (holder x.line) n.contexts ≡ o → AllCame s id (landing_result_by s id (first ∷ Step.Closed g ∷ []) (with_label w (on_from (ideal_run []) (free_in n g (holder_ep x.line) o))))
    by_context x None e f = tt
    by_context x (Some c) e f = by_flags x c (has_closing g (endpoint c (holder_ep x.line))) (not (flies_at (holder_ep x.line) c)) e f refl

    by_grant : (o : Option Grant) → grant_in n.grants g ≡ o → AllCame s id (landing_result_by s id (first ∷ Step.Closed g ∷ []) (with_label w (on_from (ideal_run []) (closed_in n g o))))
    by_grant None e = tt
    by_grant (Some x) e = by_context x (context_of (holder x.line) n.contexts) e refl
