-- From events to runs.
use Rattle.std.proofs.Common.{◌≡◌, ℕ, ◌+◌, ◌*◌, ◌<◌, Bool, true, false, List, ◌∷◌, Some, None, refl, sym, subst, arith}
use Rattle.std.specs.Prelude.{Option, slice_index_or, ◌==◌, ◌||◌}
use Rattle.std.proofs.lemmas.Bool.Decides.{nat_tests}
use Rattle.m3_base.specs.declared.event.Entry.{Entry}
use Rattle.m3_base.specs.Ideal.State.{State}
use Rattle.m3_base.specs.Ideal.Opening.{opening}
use Rattle.m3_base.specs.Placement.State.{Placement, LinkToken, Saved, link}
use Rattle.m3_base.specs.Placement.Landing.{PlacementResult}
use Rattle.m3_base.specs.Placement.Step.{placement_step}
use Rattle.m3_quiet.specs.Descent.{Falls, unit_acts}
use Rattle.m3_quiet.specs.Facts.{ReadyOk, YieldedOk}
use Rattle.m3_quiet.specs.Schedule.{Scheduled, is_listed, link_at}
use Rattle.m3_quiet.proofs.Schedule.Statements.{ScheduledAfter, Walked}
use Rattle.m3_quiet.specs.Flags.{FlagsAt, FlagsIn, Flagged, has_saved}
use Rattle.m3_quiet.proofs.Flags.Statements.{FlaggedAfter, Parted}
use Rattle.m3_quiet.specs.Runs.{Premises, Bookkeeping, FactsHold, BookkeepingAfter, StepsKeepBookkeeping, BookkeepingOpens, RunState, worth, run_state_after, IsBusyEntry, Still, On, RunsLowerTheSum, RunsStayWithinBudget, opening_run}
use Rattle.m3_quiet.proofs.Sums.Opening.{opening_worth}
use Rattle.m3_quiet.proofs.Events.AllKinds.{step_falls}
use Rattle.m3_quiet.proofs.Events.Switches.{placed_found, placed_is, placed_home}
use Rattle.m3_quiet.proofs.Schedule.Steps.{schedule_stays}
use Rattle.m3_quiet.proofs.Schedule.Opening.{schedule_opens}
use Rattle.m3_quiet.proofs.Flags.Steps.{flags_stay, flags_open}

-- ---- what a step needs

ready_ok : (p : Placement) → Scheduled p → ReadyOk p
ready_ok p ok t a as' x e found = ok.ready t a x (subst (λ l. is_listed a l ≡ true) (sym e) (front (a == a) (grind (arith, nat_tests)))) found
  where
    front : (b : Bool) → b ≡ true → (b || is_listed a as') ≡ true
    front true h = refl
    front false h = absurd (cc)

yielded_ok : (p : Placement) → Scheduled p → YieldedOk p
yielded_ok p ok t x yielded placed =
    let found = placed_found t p.actors x ok.fine.apart placed in
    let is = placed_is t p.actors x placed in
    let home = placed_home t p.actors x placed in
    let here = ok.taken x.act x (subst (λ k. slice_index_or p.yielded k false ≡ true) (sym home) yielded) found is in
    let sent = here.1 in
    (here.0, grind (arith, nat_tests, sent))

-- an activity with a Saved at a front
front_saved : (p : Placement) (from a : ℕ) (w e : Bool) (ts : List LinkToken) → link from 0 p ≡ Saved a w e ∷ ts → has_saved a (link_at (16 * from + 0) p) ≡ true
front_saved p from a w e ts f = subst (λ l. has_saved a l ≡ true) (sym f) (at_head (a == a) (grind (arith, nat_tests)))
  where
    at_head : (b : Bool) → b ≡ true → (b || has_saved a ts) ≡ true
    at_head true h = refl
    at_head false h = absurd (cc)

-- and its flags
front_flags : (s : State) (p : Placement) (from a : ℕ) (w e : Bool) (ts : List LinkToken) → Flagged s p → link from 0 p ≡ Saved a w e ∷ ts → FlagsAt s p.actors a w e
front_flags s p from a w e ts ok f = (subst (FlagsIn s p.actors) f (ok (16 * from + 0))).0

pub facts_hold : FactsHold
facts_hold s p sounds kept = record {
  fine = sounds.fine;
  quantum = kept.scheduled.quantum;
  flights = sounds.flights;
  links = sounds.links;
  holds = sounds.holds;
  fresh = sounds.fresh;
  fresh_kernel = sounds.fresh_kernel;
  records = sounds.records;
  closed = sounds.closed;
  walks = sounds.walks;
  saved = λ from a waiting ended ts e. record {
    leaving = λ x f. sounds.leaves (16 * from + 0) a x (front_saved p from a waiting ended ts e) f;
    waits = λ x f. (front_flags s p from a waiting ended ts kept.flagged e x f).0;
    over = λ x f. (front_flags s p from a waiting ended ts kept.flagged e x f).1;
    away = λ x f. sounds.gone (16 * from + 0) a x (front_saved p from a waiting ended ts e) f;
  };
  away = sounds.away;
  held = sounds.held;
  current = sounds.current;
  ready = ready_ok p kept.scheduled;
  yielded = yielded_ok p kept.scheduled;
}

-- ---- what the steps keep

walked_of : (s : State) (p : Placement) → Premises s p → Walked p
walked_of s p sounds = record {
  alone = sounds.alone;
  saved = sounds.silent;
  leaves = λ from a waiting ended ts x e f. sounds.leaves (16 * from + 0) a x (front_saved p from a waiting ended ts e) f;
  saves = sounds.saves;
  going = sounds.going;
  restores = sounds.restores;
  comes = sounds.comes;
  away = sounds.away;
}

parted_of : (s : State) (p : Placement) → Premises s p → Parted s p
parted_of s p sounds = record {
  fine = sounds.fine;
  leaves = sounds.leaves;
  gone = sounds.gone;
  memory = sounds.memory;
  held = sounds.held;
  current = sounds.current;
  records = sounds.holders;
}

pub kept_stays : StepsKeepBookkeeping
kept_stays s p e made sounds kept = both (placement_step s p e made) (schedule_stays s p e made (walked_of s p sounds) kept.scheduled) (flags_stay s p e made (parted_of s p sounds) kept.flagged)
  where
    both : (o : Option PlacementResult) → ScheduledAfter o → FlaggedAfter o → BookkeepingAfter o
    both None h k = tt
    both (Some d) h k = record { scheduled = h; flagged = k }

pub kept_opens : BookkeepingOpens
kept_opens memory ps lines fine quantum = record { scheduled = schedule_opens ps lines fine quantum; flagged = flags_open (opening memory lines) ps lines }

-- ---- runs

entry_falls : (r : RunState) (e : Entry) (d : PlacementResult) → Bookkeeping r.state r.places → IsBusyEntry r e d → worth (run_state_after r e.event e.outcome.made d) < worth r
entry_falls r e d kept w =
    let falls = step_falls r.state r.places r.units r.left e.event e.outcome.made (facts_hold r.state r.places w.sounds kept) w.allowed in
    let here : Falls r.state r.places r.units r.left e.event e.outcome.made (Some d) = subst (λ o. Falls r.state r.places r.units r.left e.event e.outcome.made o) w.step falls in
    here w.works

entry_keeps : (r : RunState) (e : Entry) (d : PlacementResult) → Bookkeeping r.state r.places → IsBusyEntry r e d → Bookkeeping d.state d.places
entry_keeps r e d kept w = subst BookkeepingAfter w.step (kept_stays r.state r.places e.event e.outcome.made w.sounds kept)

pub runs_fall : RunsLowerTheSum
runs_fall r n es kept (Still x) = omega arith
runs_fall r n es kept (On x m e fs d w rest) =
    let a = entry_falls x e d kept w in
    let b = runs_fall (run_state_after x e.event e.outcome.made d) m fs (entry_keeps x e d kept w) rest in
    omega (arith, a, b)

pub within_budget : RunsStayWithinBudget
within_budget memory lines us left es n fine quantum goes =
    let a = runs_fall (opening_run memory lines us left) n es (kept_opens memory (unit_acts us) lines fine quantum) goes in
    let b = opening_worth memory lines us left in
    omega (arith, a, b)
