-- Commands and turns keep what Saved says of its activity.
use Rattle.std.proofs.Common.{◌≡◌, ℕ, ◌+◌, Bool, true, false, [], ◌∷◌, Some, None, refl, sym, subst, ◌∙◌}
use Rattle.std.specs.Prelude.{Option, if◌then◌else◌, ◌==◌, not, is_some}
use Rattle.m3_base.specs.declared.command.Command.{Command}
use Rattle.m3_base.specs.declared.event.Made.{Made}
use Rattle.m3_base.specs.declared.event.Said.{Said}
use Rattle.m3_base.specs.declared.event.IdleWhy.{IdleWhy}
use Rattle.m3_base.specs.declared.step.Step.{Step}
use Rattle.m3_base.specs.Ideal.Flights.{flight}
use Rattle.m3_base.specs.Ideal.Context.{Context}
use Rattle.m3_base.specs.Ideal.Issue.{Issued, issue}
use Rattle.m3_base.specs.Ideal.State.{State, context_of, put_context}
use Rattle.m3_base.specs.Ideal.Step.{At_issue, with_packet, RunResult, ideal_run, on_from, issue_in, issued_in}
use Rattle.m3_base.specs.Placement.State.{Placement, PlacedActivity, Yield, actor, with_token, with_actor, current_of, is_current, home, home_in}
use Rattle.m3_base.specs.Placement.Turn.{yield_once, turn_of, turn_made, turn_move, quantum_turn, await_turn, busy_any, is_waiting_turn, is_due_quantum, is_repeat}
use Rattle.m3_base.specs.Placement.Command.{next_id_of, command, command_by, busy_with}
use Rattle.m3_base.specs.Placement.Landing.{step_outcome, idle_outcome}
use Rattle.m3_base.specs.Placement.Take.{has_unread_at}
use Rattle.m3_base.specs.Ideal.State.{is_number}
use Rattle.m3_quiet.specs.Potential.{is_there}
use Rattle.m3_quiet.specs.Schedule.{link_at}
use Rattle.m3_quiet.specs.Flags.{Flagged, has_saved}
use Rattle.m3_quiet.proofs.Flags.Statements.{Parted, FlaggedAfter}
use Rattle.m3_quiet.proofs.Events.Kinds.{found_act, found_itself}
use Rattle.m3_quiet.proofs.Events.Deliveries.{context-act}
use Rattle.m3_quiet.proofs.Events.Issue.{AllIssued, issue_ok}
use Rattle.m3_quiet.proofs.Flags.Changes.{f-pushed, f-actor, f-away, f-state, f-new}
use Rattle.m3_base.proofs.Activities.{context-put_other}
use Rattle.std.proofs.lemmas.Bool.{eqb-true}

module _ (s : State) (p : Placement) (parted : Parted s p) (ok : Flagged s p) where
  -- ---- commands and turns

  -- of an activity of which no Saved speaks
  module _ (a : ℕ) (silent : (k : ℕ) (y : PlacedActivity) → has_saved a (link_at k p) ≡ true → actor a p ≡ Some y → ⊥) where
    f-issued : (q : Placement) (o : Option RunResult) → ((r : RunResult) → o ≡ Some r → Flagged r.state q) → FlaggedAfter (command_by s q a o)
    f-issued q None h = tt
    f-issued q (Some r) h = f-new r.state q (next_id_of a (context_of a s.contexts)) (home a q) (flight (next_id_of a (context_of a s.contexts)) r.state.flights) (h r refl)

    -- a command changes the context of its activity alone
    issued_state_ok : (c : Context) (r : Option Issued) → context_of a s.contexts ≡ Some c → AllIssued c r → (q : RunResult) → on_from (ideal_run []) (issued_in s r) ≡ Some q → Flagged q.state p
    issued_state_ok c None e issued q f = absurd (cc)
    issued_state_ok c (Some i) e issued q f =
        let mine : i.context.act ≡ a = issued.act ∙ context-act a s.contexts c e in
        let here = f-state s (record s { contexts = put_context i.context s.contexts; flights = with_packet i.packet s.flights }) p ok (λ k b h y g. context-put_other b i.context s.contexts (other b mine k y h g (b == i.context.act) refl)) in
        let same : record { words = At_issue i.told ∷ []; state = record s { contexts = put_context i.context s.contexts; flights = with_packet i.packet s.flights } } ≡ q = cc in
        subst (λ r. Flagged r.state p) same here
      where
        other : (b : ℕ) → i.context.act ≡ a → (k : ℕ) (y : PlacedActivity) → has_saved b (link_at k p) ≡ true → actor b p ≡ Some y → (d : Bool) → (b == i.context.act) ≡ d → d ≡ false
        other b mine k y h g false w = refl
        other b mine k y h g true w =
            let same : b ≡ a = eqb-true b i.context.act w ∙ mine in
            absurd (silent k y (subst (λ z. has_saved z (link_at k p) ≡ true) same h) (subst (λ z. actor z p ≡ Some y) same g))

    run_state_ok : (c : Command) (o : Option Context) → context_of a s.contexts ≡ o → (q : RunResult) → on_from (ideal_run []) (issue_in s o c) ≡ Some q → Flagged q.state p
    run_state_ok c None e q f = absurd (cc)
    run_state_ok c (Some d) e q f = issued_state_ok d (issue d c) e (issue_ok d c) q f

    f-command : (c : Command) → FlaggedAfter (command_by s p a (ideal_run (Step.Issue a c ∷ []) s))
    f-command c = f-issued p (ideal_run (Step.Issue a c ∷ []) s) (λ r e. run_state_ok c (context_of a s.contexts) refl r e)

  module _ (a : ℕ) (x : PlacedActivity) (found : actor a p ≡ Some x) (there : is_there p.current x ≡ true) where
    own : actor x.act p ≡ Some x
    own = found_itself p a x found

    -- no Saved speaks of who is current
    unsaved : (k : ℕ) → has_saved x.act (link_at k p) ≡ true → ⊥
    unsaved k h = let away = parted.gone k x.act x h own in absurd (cc)

    f-moved : (c : Command) → FlaggedAfter (command_by s (with_actor (record x { moves = x.moves + 1 }) p) x.act (ideal_run (Step.Issue x.act c ∷ []) s))
    f-moved c = f-issued x.act (λ k y h g. unsaved k h) (with_actor (record x { moves = x.moves + 1 }) p) (ideal_run (Step.Issue x.act c ∷ []) s) (λ r e. f-actor r.state p (record x { moves = x.moves + 1 }) x (run_state_ok x.act (λ k y h g. unsaved k h) c (context_of x.act s.contexts) refl r e) own refl refl)

    f-once : (y : PlacedActivity) → y.act ≡ x.act → Flagged s (yield_once y p)
    f-once y same = by_sent y.yield_sent
      where
        found_y : actor y.act p ≡ Some x
        found_y = subst (λ k. actor k p ≡ Some x) (sym same) own

        none : (k : ℕ) → has_saved y.act (link_at k p) ≡ true → ⊥
        none k h = unsaved k (subst (λ b. has_saved b (link_at k p) ≡ true) same h)

        by_sent : (b : Bool) → Flagged s (if b then with_actor y p else with_token y.home 0 (Yield y.act) (with_actor (record y { yield_sent = true }) p))
        by_sent true = f-away s p y x ok found_y none
        by_sent false = f-pushed s (with_actor (record y { yield_sent = true }) p) y.home 0 (Yield y.act) (f-away s p (record y { yield_sent = true }) x ok found_y none) tt

    f-await : (ep : ℕ) (u : Bool) → FlaggedAfter (await_turn s p x ep u)
    f-await ep true = f-away s p (record x { pending = None }) x ok own unsaved
    f-await ep false = f-once (record x { pending = Some ep }) refl

    f-move : (m : Made) → FlaggedAfter (turn_move s p x m)
    f-move (Made.Command c) = by_pending (is_some x.pending)
      where
        by_pending : (b : Bool) → FlaggedAfter (if b then None else command_by s (with_actor (record x { moves = x.moves + 1 }) p) x.act (ideal_run (Step.Issue x.act c ∷ []) s))
        by_pending true = tt
        by_pending false = f-moved c
    f-move (Made.Await ep) = by_repeat (is_repeat x.pending ep)
      where
        by_repeat : (b : Bool) → FlaggedAfter (if b then await_turn s p x ep (has_unread_at (context_of x.act s.contexts) (Some ep)) else None)
        by_repeat true = f-await ep (has_unread_at (context_of x.act s.contexts) (Some ep))
        by_repeat false = tt
    f-move Made.Quantum = tt
    f-move Made.End = by_pending (is_some x.pending)
      where
        by_pending : (b : Bool) → FlaggedAfter (if b then None else step_outcome Said.Ended s (yield_once (record x { ended = true }) p))
        by_pending true = tt
        by_pending false = f-once (record x { ended = true }) refl

    f-quantum : (m : Made) → FlaggedAfter (quantum_turn s p x m)
    f-quantum (Made.Command c) = tt
    f-quantum (Made.Await ep) = tt
    f-quantum Made.Quantum = f-once x refl
    f-quantum Made.End = tt

    f-made : (m : Option Made) → FlaggedAfter (turn_made s p x m)
    f-made None = tt
    f-made (Some m) = by_due (is_due_quantum p x)
      where
        by_due : (b : Bool) → FlaggedAfter (if b then quantum_turn s p x m else turn_move s p x m)
        by_due true = f-quantum m
        by_due false = f-move m

  there_of : (a : ℕ) (x : PlacedActivity) → actor a p ≡ Some x → is_current x.act p ≡ true → is_there p.current x ≡ true
  there_of a x found now = subst (λ o. is_number x.act (current_of (home_in o) p) ≡ true) (found_itself p a x found) now

  pub f-turn_of : (a : ℕ) (m : Option Made) (o : Option PlacedActivity) → actor a p ≡ o → FlaggedAfter (turn_of s p m o)
  f-turn_of a m None e = tt
  f-turn_of a m (Some x) e = by_flags (is_current x.act p) refl x.ended (busy_any (context_of x.act s.contexts)) (is_waiting_turn s x)
    where
      by_flags : (c : Bool) → is_current x.act p ≡ c → (d b w : Bool) → FlaggedAfter (if not c then idle_outcome IdleWhy.NotCurrent s p else (if d then idle_outcome IdleWhy.Ended s p else (if b then idle_outcome IdleWhy.Busy s p else (if w then idle_outcome IdleWhy.Waiting s p else turn_made s p x m))))
      by_flags false f d b w = ok
      by_flags true f true b w = ok
      by_flags true f false true w = ok
      by_flags true f false false true = ok
      by_flags true f false false false = f-made a x e (there_of a x e f) m

  pub f-do : (a : ℕ) (c : Command) (o : Option PlacedActivity) → actor a p ≡ o → FlaggedAfter (command s p a c)
  f-do a c o e = by_flags (is_current a p) refl (busy_with c (context_of a s.contexts))
    where
      by_actor : (r : Option PlacedActivity) → actor a p ≡ r → is_current a p ≡ true → FlaggedAfter (command_by s p a (ideal_run (Step.Issue a c ∷ []) s))
      by_actor None g f = f-command a (λ k y h w. absurd (cc)) c
      by_actor (Some x) g f =
          let mine : x.act ≡ a = found_act a p.actors x g in
          let now : is_current x.act p ≡ true = subst (λ k. is_current k p ≡ true) (sym mine) f in
          subst (λ k. FlaggedAfter (command_by s p k (ideal_run (Step.Issue k c ∷ []) s))) mine (f-command x.act (λ k y h w. unsaved a x g (there_of a x g now) k h) c)

      by_flags : (b : Bool) → is_current a p ≡ b → (d : Bool) → FlaggedAfter (if not b then idle_outcome IdleWhy.NotCurrent s p else (if d then idle_outcome IdleWhy.Busy s p else command_by s p a (ideal_run (Step.Issue a c ∷ []) s)))
      by_flags false f d = ok
      by_flags true f true = ok
      by_flags true f false = by_actor o e f
