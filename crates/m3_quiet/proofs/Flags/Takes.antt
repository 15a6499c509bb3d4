-- Takes and tends keep what Saved says of its activity.
use Rattle.std.proofs.Common.{◌≡◌, ℕ, Bool, true, false, List, [], ◌∷◌, Some, None, refl, sym, subst, ◌∙◌, ap, arith}
use Rattle.std.specs.Prelude.{Option, if◌then◌else◌, ◌==◌, not, ◌&&◌, ◌||◌}
use Rattle.std.proofs.lemmas.Bool.Decides.{nat_tests}
use Rattle.m3_base.specs.declared.ids.FlightId.{FlightId}
use Rattle.m3_base.specs.declared.event.Said.{Said}
use Rattle.m3_base.specs.declared.event.IdleWhy.{IdleWhy}
use Rattle.m3_base.specs.declared.step.Step.{Step}
use Rattle.m3_base.specs.Ideal.Flights.{flight}
use Rattle.m3_base.specs.Ideal.State.{State, Standing, Grant, context_of, grant_in}
use Rattle.m3_base.specs.Ideal.GrantRules.{is_closed_grant, change_grant}
use Rattle.m3_base.specs.Ideal.Step.{Finishes, RunResult, ideal_run, on_from, step_to, done_in}
use Rattle.m3_base.specs.Journal.Entry.{ran_to}
use Rattle.m3_base.specs.Placement.State.{Placement, PlacedActivity, LinkToken, Data, Save, Saved, Restore, Yield, Closed, Resting, actor, link, with_link, with_token, with_actor, with_current, at_place, current_of, join_ready, is_placed, is_leaving, is_resting}
use Rattle.m3_base.specs.Placement.Landing.{LandingResult, push_answer, push_closed, landing_result, step_outcome, idle_outcome}
use Rattle.m3_base.specs.Placement.Take.{new_stay, bounced, is_here, take, take_at_kernel, take_at_tile, take_data, land_here, saved_in, done_by, is_waiting, has_ended}
use Rattle.m3_base.specs.Placement.Routing.{target_of}
use Rattle.m3_base.specs.Placement.Tend.{answer_routed, tend, tend_front, after_tend}
use Rattle.m3_base.specs.Ideal.State.{is_number}
use Rattle.m3_quiet.specs.Potential.{is_there}
use Rattle.m3_quiet.specs.Schedule.{link_at}
use Rattle.m3_quiet.specs.Flags.{FlagsAt, Flagged, has_saved}
use Rattle.m3_quiet.proofs.Flags.Statements.{Parted, FlaggedAfter}
use Rattle.m3_quiet.proofs.Events.Kinds.{found_act, found_itself}
use Rattle.m3_quiet.proofs.Sums.Whole.{fine-link, fine-actor, fine-joined, fine-closed}
use Rattle.m3_quiet.proofs.Flags.Contexts.{AllLocal, came_local}
use Rattle.m3_quiet.proofs.Flags.Changes.{f-front, f-pushed, f-actor, f-state, f-join, f-restored, f-for, f-answer, f-closed, f-answer_routed, fine-answer_routed, f-contexts}
use Rattle.std.proofs.lemmas.Bool.{eqb-true}

module _ (s : State) (p : Placement) (parted : Parted s p) (ok : Flagged s p) where
  -- ---- takes

  land_state : (n : State) (id : FlightId) → ((k a : ℕ) (x : PlacedActivity) → has_saved a (link_at k p) ≡ true → actor a p ≡ Some x → target_of (flight id s.flights) ≡ Some a → ⊥) → ((a : ℕ) → (target_of (flight id s.flights) ≡ Some a → ⊥) → context_of a n.contexts ≡ context_of a s.contexts) → Flagged n p
  land_state n id never local = f-state s n p ok (λ k a h x f. local a (λ its. never k a x h f its))

  f-land : (from t : ℕ) (id : FlightId) (ts : List LinkToken) (o : Option LandingResult) → link from t p ≡ Data id ∷ ts → AllLocal s id o → ((k a : ℕ) (x : PlacedActivity) → has_saved a (link_at k p) ≡ true → actor a p ≡ Some x → target_of (flight id s.flights) ≡ Some a → ⊥) → FlaggedAfter (land_here t (with_link from t ts p) o)
  f-land from t id ts None f local never = tt
  f-land from t id ts (Some c) f local never =
      let q = with_link from t ts p in
      let here = f-front c.state p from t (Data id) ts (land_state c.state id never local) f in
      f-closed c.state (push_answer t c.answer q) t c.freed (f-answer c.state q t c.answer here)

  -- data for tile 1 is for nobody, and other data lands at who is current
  at_one : (from t : ℕ) (id : FlightId) (ts : List LinkToken) → (t == 1) ≡ true → link from t p ≡ Data id ∷ ts → (k a : ℕ) (x : PlacedActivity) → has_saved a (link_at k p) ≡ true → actor a p ≡ Some x → target_of (flight id s.flights) ≡ Some a → ⊥
  at_one from t id ts one f k a x h g its =
      let none : target_of (flight id s.flights) ≡ None = parted.memory from id ts (subst (λ d. link from d p ≡ Data id ∷ ts) (eqb-true t 1 one) f) in
      absurd (cc)

  at_current : (t : ℕ) (id : FlightId) → is_here (target_of (flight id s.flights)) (current_of t p) ≡ true → (k a : ℕ) (x : PlacedActivity) → has_saved a (link_at k p) ≡ true → actor a p ≡ Some x → target_of (flight id s.flights) ≡ Some a → ⊥
  at_current t id here k a x h g its = by_current (current_of t p) refl (subst (λ o. is_here o (current_of t p) ≡ true) its here)
    where
      by_current : (o : Option ℕ) → current_of t p ≡ o → is_here (Some a) o ≡ true → ⊥
      by_current None e w = absurd (cc)
      by_current (Some b) e w =
          let same : a ≡ b = eqb-true a b w in
          let now : current_of t p ≡ Some a = e ∙ ap Some (sym same) in
          let at : x.home ≡ t = parted.current t a x now g in
          let mine : x.act ≡ a = found_act a p.actors x g in
          let its_own : (a == x.act) ≡ true = grind (arith, nat_tests, mine) in
          let there : is_there p.current x ≡ true = subst (λ d. is_number x.act (current_of d p) ≡ true) (sym at) (subst (λ o. is_number x.act o ≡ true) (sym now) its_own) in
          let away = parted.gone k a x h g in
          absurd (cc)

  f-data : (from t : ℕ) (id : FlightId) (ts : List LinkToken) → link from t p ≡ Data id ∷ ts → FlaggedAfter (take_data s (with_link from t ts p) t id)
  f-data from t id ts f = by_here (t == 1) refl (is_here (target_of (flight id s.flights)) (current_of t p)) refl
    where
      q_flags : Flagged s (with_link from t ts p)
      q_flags = f-front s p from t (Data id) ts ok f

      by_here : (b : Bool) → (t == 1) ≡ b → (c : Bool) → is_here (target_of (flight id s.flights)) (current_of t p) ≡ c → FlaggedAfter (if b || c then land_here t (with_link from t ts p) (landing_result s id) else bounced s (with_link from t ts p) t id (target_of (flight id s.flights)))
      by_here true e c g = f-land from t id ts (landing_result s id) f (came_local s id parted.records) (at_one from t id ts e f)
      by_here false e true g = f-land from t id ts (landing_result s id) f (came_local s id parted.records) (at_current t id g)
      by_here false e false g = by_aim (target_of (flight id s.flights))
        where
          by_aim : (o : Option ℕ) → FlaggedAfter (bounced s (with_link from t ts p) t id o)
          by_aim None = tt
          by_aim (Some a) = f-pushed s (with_link from t ts p) t 0 (Data id) q_flags tt

  f-save : (from t a : ℕ) (ts : List LinkToken) → link from t p ≡ Save a ∷ ts → (o : Option PlacedActivity) → actor a p ≡ o → Flagged s (with_token t 0 (Saved a (is_waiting s o) (has_ended o)) (with_current t None (with_link from t ts p)))
  f-save from t a ts f o e = f-pushed s (with_current t None (with_link from t ts p)) t 0 (Saved a (is_waiting s o) (has_ended o)) (f-front s p from t (Save a) ts ok f) (now o e, tt)
    where
      now : (r : Option PlacedActivity) → actor a p ≡ r → FlagsAt s p.actors a (is_waiting s r) (has_ended r)
      now None g y h = absurd (cc)
      now (Some x) g y h = let same : x ≡ y = cc in subst (λ z. (is_waiting s (Some x) ≡ is_waiting s (Some z)) × (x.ended ≡ z.ended)) same (refl, refl)

  f-restore : (from t a : ℕ) (ts : List LinkToken) → link from t p ≡ Restore a ∷ ts → (o : Option PlacedActivity) → actor a p ≡ o → Flagged s (new_stay o (with_current t (Some a) (with_link from t ts p)))
  f-restore from t a ts f None e = f-front s p from t (Restore a) ts ok f
  f-restore from t a ts f (Some x) e = f-actor s (with_current t (Some a) (with_link from t ts p)) (record x { moves = 0; yield_sent = false }) x (f-front s p from t (Restore a) ts ok f) (found_itself p a x e) refl refl

  f-tile : (from t : ℕ) (k : LinkToken) (ts : List LinkToken) → link from t p ≡ k ∷ ts → FlaggedAfter (take_at_tile s (with_link from t ts p) t k)
  f-tile from t (Data id) ts f = f-data from t id ts f
  f-tile from t (Save a) ts f = f-save from t a ts f (actor a p) refl
  f-tile from t (Restore a) ts f = f-restore from t a ts f (actor a p) refl
  f-tile from t (Saved a w e) ts f = tt
  f-tile from t (Yield a) ts f = tt
  f-tile from t (Closed g) ts f = tt

  f-saved : (from a : ℕ) (w e : Bool) (ts : List LinkToken) → link from 0 p ≡ Saved a w e ∷ ts → (o : Option PlacedActivity) → actor a p ≡ o → FlaggedAfter (saved_in s (with_link from 0 ts p) w e o)
  f-saved from a w e ts f None found = tt
  f-saved from a w e ts f (Some x) found =
      let q = with_link from 0 ts p in
      let here : actor x.act q ≡ Some x = found_itself p a x found in
      let z = record x { place = Resting } in
      let b = x.has_program && (not w && not e) in
      f-restored (Said.Saved x.act) s x.home (join_ready b x.home x.act (at_place Resting x q)) (fine-joined (at_place Resting x q) b x.home x.act (fine-actor q z x here refl (fine-link p from 0 ts parted.fine))) (f-join s (at_place Resting x q) b x.home x.act (f-actor s q z x (f-front s p from 0 (Saved a w e) ts ok f) here refl refl))

  done_contexts : (g : ℕ) (o : Option Grant) → (ran_to (on_from (ideal_run []) (done_in s g o)) s).contexts ≡ s.contexts
  done_contexts g None = refl
  done_contexts g (Some x) = by_closed (is_closed_grant x.standing)
    where
      by_closed : (b : Bool) → (ran_to (on_from (ideal_run []) (if b then step_to (Finishes g x.is_root) (record s { grants = change_grant s.grants g (λ y. record y { standing = Standing.Done }) }) else None)) s).contexts ≡ s.contexts
      by_closed true = refl
      by_closed false = refl

  f-done : (from g : ℕ) (ts : List LinkToken) → link from 0 p ≡ Closed g ∷ ts → (r : Option RunResult) → (ran_to r s).contexts ≡ s.contexts → FlaggedAfter (done_by s (with_link from 0 ts p) r)
  f-done from g ts f None same = tt
  f-done from g ts f (Some r) same = f-front r.state p from 0 (Closed g) ts (f-contexts s r.state p ok same) f

  f-at_kernel : (from : ℕ) (k : LinkToken) (ts : List LinkToken) → link from 0 p ≡ k ∷ ts → FlaggedAfter (take_at_kernel s (with_link from 0 ts p) k)
  f-at_kernel from (Data id) ts f = f-for s (with_link from 0 ts p) id (target_of (flight id s.flights)) (f-front s p from 0 (Data id) ts ok f)
  f-at_kernel from (Saved a w e) ts f = f-saved from a w e ts f (actor a p) refl
  f-at_kernel from (Yield a) ts f = f-front s p from 0 (Yield a) ts ok f
  f-at_kernel from (Closed g) ts f = f-done from g ts f (ideal_run (Step.Done g ∷ []) s) (done_contexts g (grant_in s.grants g))
  f-at_kernel from (Save a) ts f = tt
  f-at_kernel from (Restore a) ts f = tt

  pub f-take : (to from : ℕ) (ts : List LinkToken) → link from to p ≡ ts → FlaggedAfter (take s p to from ts)
  f-take to from [] f = ok
  f-take to from (t ∷ ts) f = by_to (to == 0) refl
    where
      by_to : (b : Bool) → (to == 0) ≡ b → FlaggedAfter (if b then take_at_kernel s (with_link from to ts p) t else take_at_tile s (with_link from to ts p) to t)
      by_to true e = let none : to ≡ 0 = eqb-true to 0 e in subst (λ d. FlaggedAfter (take_at_kernel s (with_link from d ts p) t)) (sym none) (f-at_kernel from t ts (subst (λ d. link from d p ≡ t ∷ ts) none f))
      by_to false e = f-tile from to t ts f

  -- ---- tend

  f-tended : (x : PlacedActivity) (id : FlightId) (ids : List FlightId) (b : Bool) (o : Option LandingResult) → actor x.act p ≡ Some x → AllLocal s id o → ((k a : ℕ) (y : PlacedActivity) → has_saved a (link_at k p) ≡ true → actor a p ≡ Some y → target_of (flight id s.flights) ≡ Some a → ⊥) → FlaggedAfter (after_tend x.home (join_ready b x.home x.act (with_actor (record x { hold = ids }) p)) o)
  f-tended x id ids b None here local never = tt
  f-tended x id ids b (Some c) here local never =
      let z = record x { hold = ids } in
      let p1 = with_actor z p in
      let p2 = join_ready b x.home x.act p1 in
      let p3 = answer_routed c.answer p2 in
      let one = f-actor c.state p z x (land_state c.state id never local) here refl refl in
      let two = f-join c.state p1 b x.home x.act one in
      let three = f-answer_routed c.state p2 c.answer two in
      let fine2 = fine-joined p1 b x.home x.act (fine-actor p z x here refl parted.fine) in
      f-restored c.said c.state x.home (push_closed 0 c.freed p3) (fine-closed p3 0 c.freed (fine-answer_routed p2 c.answer fine2)) (f-closed c.state p3 0 c.freed three)

  pub f-tend : (a : ℕ) (o : Option PlacedActivity) → actor a p ≡ o → FlaggedAfter (tend s p o)
  f-tend a None e = tt
  f-tend a (Some x) e = by_place (is_placed x.place) (is_leaving x.place) refl
    where
      by_hold : is_leaving x.place ≡ false → (ids : List FlightId) → x.hold ≡ ids → FlaggedAfter (tend_front s p x ids)
      by_hold stays [] h = ok
      by_hold stays (id ∷ ids) h = f-tended x id ids (is_resting x.place && (x.has_program && not x.ended)) (landing_result s id) (found_itself p a x e) (came_local s id parted.records) never
        where
          never : (k b : ℕ) (y : PlacedActivity) → has_saved b (link_at k p) ≡ true → actor b p ≡ Some y → target_of (flight id s.flights) ≡ Some b → ⊥
          never k b y saved f its =
              let mine : target_of (flight id s.flights) ≡ Some a = parted.held a x id ids e h in
              let same : a ≡ b = cc in
              let here : actor a p ≡ Some y = subst (λ c. actor c p ≡ Some y) (sym same) f in
              let one : x ≡ y = cc in
              let goes : is_leaving y.place ≡ true = parted.leaves k b y saved f in
              let no_ : is_leaving y.place ≡ false = subst (λ z. is_leaving z.place ≡ false) one stays in
              absurd (cc)

      by_place : (b c : Bool) → is_leaving x.place ≡ c → FlaggedAfter (if b || c then idle_outcome IdleWhy.NotResting s p else tend_front s p x x.hold)
      by_place true c g = ok
      by_place false true g = ok
      by_place false false g = by_hold g x.hold refl
