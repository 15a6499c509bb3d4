-- Orders and the kernel's own steps keep what Saved says of its activity.
use Rattle.std.proofs.Common.{◌≡◌, ℕ, ◌+◌, Bool, true, false, [], ◌∷◌, length, Some, None, refl, sym, subst, ◌∙◌}
use Rattle.std.specs.Prelude.{Option, if◌then◌else◌, ◌==◌, not, ◌||◌}
use Rattle.std.specs.List.{list_any}
use Rattle.m3_base.specs.declared.packet.Fresh.{Fresh}
use Rattle.m3_base.specs.declared.order.Order.{Order}
use Rattle.m3_base.specs.declared.order.GrantLine.{GrantLine}
use Rattle.m3_base.specs.declared.event.Said.{Said}
use Rattle.m3_base.specs.declared.event.No.{No}
use Rattle.m3_base.specs.declared.step.Step.{Step}
use Rattle.m3_base.specs.Ideal.Flights.{flight}
use Rattle.m3_base.specs.Ideal.Context.{Context}
use Rattle.m3_base.specs.Ideal.State.{State, Grant, context_of, grant_in, holder, undone, parent_in, parent_of}
use Rattle.m3_base.specs.Ideal.GrantRules.{kernel_id, make_refusal, form, revoke_refusal, may_close, close_sent}
use Rattle.m3_base.specs.Ideal.Step.{Sends_close, RunResult, ideal_run, on_from, step_to, make_for, make_in, revoke_in, send_close_in}
use Rattle.m3_base.specs.Journal.Entry.{ran_to}
use Rattle.m3_base.specs.Placement.State.{Placement, PlacedActivity, Save, Leaving, Coming, actor, at_place, is_placed, is_coming}
use Rattle.m3_base.specs.Placement.Routing.{Routed, target_of, route, actor_for}
use Rattle.m3_base.specs.Placement.Order.{is_moving_at, placed_at, close_least, order_by, route_new, switch, after_switch, order}
use Rattle.m3_base.specs.Placement.Landing.{step_outcome}
use Rattle.m3_quiet.specs.Flags.{Flagged}
use Rattle.m3_quiet.proofs.Flags.Statements.{Parted, FlaggedAfter}
use Rattle.m3_quiet.proofs.Events.Kinds.{found_itself}
use Rattle.m3_quiet.proofs.Sums.Whole.{actor-with_other}
use Rattle.m3_quiet.proofs.Events.Switches.{placed_found, placed_is}
use Rattle.m3_quiet.proofs.Flags.Changes.{f-pushed, f-actor, f-for, f-contexts}
use Rattle.std.proofs.lemmas.Bool.{eqb-true}

module _ (s : State) (p : Placement) (parted : Parted s p) (ok : Flagged s p) where
  -- ---- the kernel's own steps

  f-order_by : (r : Option RunResult) → (n : State) → ran_to r s ≡ n → n.contexts ≡ s.contexts → FlaggedAfter (order_by s (route_new s n p) r)
  f-order_by None n e same = tt
  f-order_by (Some x) n e same = by_same (n.kernel_next == s.kernel_next)
    where
      as_routed : Bool → Routed
      as_routed b = if b then record { held = false; places = p } else route (kernel_id s) (actor_for (target_of (flight (kernel_id s) n.flights)) p) p

      here : Flagged x.state p
      here = f-contexts s x.state p ok (subst (λ m. m.contexts ≡ s.contexts) (sym e) same)

      by_same : (b : Bool) → Flagged x.state (as_routed b).places
      by_same true = here
      by_same false = f-for x.state p (kernel_id s) (target_of (flight (kernel_id s) n.flights)) here

  f-kernel : (r : Option RunResult) → (ran_to r s).contexts ≡ s.contexts → FlaggedAfter (order_by s (route_new s (ran_to r s) p) r)
  f-kernel r same = f-order_by r (ran_to r s) refl same

  close_contexts : (g : ℕ) (o : Option Grant) → (ran_to (on_from (ideal_run []) (send_close_in s g o)) s).contexts ≡ s.contexts
  close_contexts g None = refl
  close_contexts g (Some x) = by_may (may_close s.grants g (Some x))
    where
      by_may : (b : Bool) → (ran_to (on_from (ideal_run []) (if b then step_to (Sends_close g (kernel_id s)) (close_sent s g x) else None)) s).contexts ≡ s.contexts
      by_may true = refl
      by_may false = refl

  made_contexts : (line : GrantLine) (why : Option No) (f : Option Fresh) → (ran_to (on_from (ideal_run []) (make_in s line why f)) s).contexts ≡ s.contexts
  made_contexts line (Some w) f = refl
  made_contexts line None None = refl
  made_contexts line None (Some f) = refl

  make_contexts : (line : GrantLine) (o : Option Context) → (ran_to (on_from (ideal_run []) (make_for s line o)) s).contexts ≡ s.contexts
  make_contexts line None = refl
  make_contexts line (Some c) = made_contexts line (make_refusal (length s.memory) s.grants line) (form (length s.grants + 1) line (undone (parent_in s.grants (parent_of line))))

  revoke_contexts : (g : ℕ) (why : Option No) → (ran_to (on_from (ideal_run []) (revoke_in s g why)) s).contexts ≡ s.contexts
  revoke_contexts g None = refl
  revoke_contexts g (Some w) = refl

  -- ---- orders

  f-switched : (t a : ℕ) (x : PlacedActivity) → actor a p ≡ Some x → is_placed x.place ≡ false → (o : Option PlacedActivity) → placed_at t p.actors ≡ o → FlaggedAfter (after_switch s p t x o)
  f-switched t a x found away None f = tt
  f-switched t a x found away (Some y) f =
      let here : actor y.act p ≡ Some y = placed_found t p.actors y parted.fine.apart f in
      let placed : is_placed y.place ≡ true = placed_is t p.actors y f in
      let one = f-actor s p (record y { place = Leaving }) y ok here refl refl in
      let two : (x.act == y.act) ≡ false = differ (x.act == y.act) refl here placed in
      let there : actor x.act (at_place Leaving y p) ≡ Some x = actor-with_other p x.act (record y { place = Leaving }) two ∙ found_itself p a x found in
      let three = f-actor s (at_place Leaving y p) (record x { place = Coming }) x one there refl refl in
      f-pushed s (at_place Coming x (at_place Leaving y p)) 0 t (Save y.act) three tt
    where
      differ : (b : Bool) → (x.act == y.act) ≡ b → actor y.act p ≡ Some y → is_placed y.place ≡ true → b ≡ false
      differ false e here placed = refl
      differ true e here placed =
          let its : actor x.act p ≡ Some y = subst (λ k. actor k p ≡ Some y) (sym (eqb-true x.act y.act e)) here in
          let mine : actor x.act p ≡ Some x = found_itself p a x found in
          let same : x ≡ y = cc in
          let no_ : is_placed y.place ≡ false = subst (λ w. is_placed w.place ≡ false) same away in
          absurd (cc)

  f-switch : (t a : ℕ) (o : Option PlacedActivity) → actor a p ≡ o → FlaggedAfter (switch s p t o)
  f-switch t a None e = tt
  f-switch t a (Some x) e = by_flags (not (x.home == t)) (is_placed x.place) refl (is_coming x.place) (list_any (is_moving_at t) p.actors)
    where
      by_flags : (b c : Bool) → is_placed x.place ≡ c → (d l : Bool) → FlaggedAfter (if b then step_outcome (Said.No No.NotHome) s p else (if c || d then step_outcome (Said.No No.Already) s p else (if l then step_outcome (Said.No No.Leaving) s p else after_switch s p t x (placed_at t p.actors))))
      by_flags true c g d l = ok
      by_flags false true g d l = ok
      by_flags false false g true l = ok
      by_flags false false g false true = ok
      by_flags false false g false false = f-switched t a x e g (placed_at t p.actors) refl

  pub f-order : (o : Order) → FlaggedAfter (order s p o)
  f-order (Order.Switch t a) = f-switch t a (actor a p) refl
  f-order (Order.Grant line) = f-kernel (ideal_run (Step.Make line ∷ []) s) (make_contexts line (context_of (holder line) s.contexts))
  f-order (Order.Revoke g) = f-kernel (ideal_run (Step.Revoke g ∷ []) s) (revoke_contexts g (revoke_refusal (grant_in s.grants g)))

  pub f-close : (o : Option ℕ) → FlaggedAfter (close_least s p o)
  f-close None = ok
  f-close (Some g) = f-kernel (ideal_run (Step.Close g ∷ []) s) (close_contexts g (grant_in s.grants g))
