-- What the driver chooses, and that it isn't idle.
use Rattle.std.proofs.Common.{◌≡◌, ℕ, ◌<◌, Bool, true, false, List, [], ◌∷◌, Some, None, refl, subst, arith}
use Rattle.std.specs.Prelude.{Option, if◌then◌else◌, not, ◌&&◌, slice_index_or}
use Rattle.std.specs.List.{list_any}
use Rattle.std.proofs.lemmas.Bool.Decides.{nat_tests}
use Rattle.m3_base.specs.declared.order.Order.{Order}
use Rattle.m3_base.specs.declared.event.Event.{Event}
use Rattle.m3_base.specs.declared.event.Made.{Made}
use Rattle.m3_base.specs.Ideal.State.{State}
use Rattle.m3_base.specs.Placement.State.{Placement, PlacedActivity, LinkToken, actor, link, current_of, ready_at}
use Rattle.m3_base.specs.Placement.Order.{is_moving_at, least_closing}
use Rattle.m3_base.specs.Placement.Driver.{first_some, tiles, first_for, take_if, next_take, least_tend, tend_of, close_of, order_of, switch_to, wanted_at, can_turn, turn_by, actor_at, next_event}
use Rattle.m3_quiet.specs.Potential.{Units}
use Rattle.m3_quiet.specs.Descent.{HasCall}
use Rattle.m3_quiet.specs.Runs.{Allowed, Turns, Takes, Tends, Closes, Orders, Switches, ChoicesAreAllowed}
use Rattle.m3_quiet.proofs.Events.Kinds.{found_itself}

-- ---- the choice, with its conditions

pub data Chosen (s : State) (p : Placement) (left : List Order) : Event → Type 0 where
  Take_of : (to from : ℕ) (t : LinkToken) (ts : List LinkToken) → to < 16 → from < 16 → link from to p ≡ t ∷ ts → Chosen s p left (Event.Take to from)
  Tend_of : (a : ℕ) → least_tend p.actors ≡ Some a → Chosen s p left (Event.Tend a)
  Close_of : (g : ℕ) → least_closing s.grants 1 s.grants ≡ Some g → Chosen s p left Event.Close
  Order_of : (o : Order) (os : List Order) → left ≡ o ∷ os → Chosen s p left (Event.Order o)
  Switch_of : (t a : ℕ) (as' : List ℕ) → left ≡ [] → ready_at t p ≡ a ∷ as' → list_any (is_moving_at t) p.actors ≡ false → slice_index_or p.yielded t false ≡ true → Chosen s p left (Event.Order (Order.Switch t a))
  Turn_of : (t b : ℕ) (x : PlacedActivity) → current_of t p ≡ Some b → actor b p ≡ Some x → can_turn s x ≡ true → Chosen s p left (Event.Turn x.act)

-- the first of several
or_next : {R : Type 0} → (o : Option Event) (os : List (Option Event)) (e : Event) → first_some (o ∷ os) ≡ Some e → (o ≡ Some e → R) → (o ≡ None → first_some os ≡ Some e → R) → R
or_next None os e h f g = g refl h
or_next (Some x) os e h f g = f h

abbrev pub AllBelow : List ℕ → Type 0
AllBelow [] = Unit {0}
AllBelow (t ∷ ts) = (t < 16) × AllBelow ts

some_tile : {R : Type 0} → (ts : List ℕ) (f : ℕ → Option Event) (e : Event) → AllBelow ts → first_for ts f ≡ Some e → ((t : ℕ) → t < 16 → f t ≡ Some e → R) → R
some_tile [] f e below h k = absurd (cc)
some_tile (t ∷ ts) f e below h k = or_next (f t) (first_for ts f ∷ []) e h (k t below.0) (λ none more. some_tile ts f e below.1 (alone (first_for ts f) more) k)
  where
    alone : (o : Option Event) → first_some (o ∷ []) ≡ Some e → o ≡ Some e
    alone None w = w
    alone (Some x) w = w

tiles_below : AllBelow tiles
tiles_below = (omega arith, (omega arith, (omega arith, (omega arith, (omega arith, (omega arith, (omega arith, (omega arith, (omega arith, (omega arith, (omega arith, (omega arith, (omega arith, (omega arith, (omega arith, (omega arith, tt))))))))))))))))

module _ (s : State) (p : Placement) (left : List Order) where
  chosen_take : (e : Event) (to from : ℕ) → to < 16 → from < 16 → (ts : List LinkToken) → link from to p ≡ ts → take_if to from ts ≡ Some e → Chosen s p left e
  chosen_take e to from h k [] f w = absurd (cc)
  chosen_take e to from h k (t ∷ ts) f w = let same : Event.Take to from ≡ e = cc in subst (Chosen s p left) same (Take_of to from t ts h k f)

  chosen_tend : (e : Event) (o : Option ℕ) → least_tend p.actors ≡ o → tend_of o ≡ Some e → Chosen s p left e
  chosen_tend e None f w = absurd (cc)
  chosen_tend e (Some a) f w = let same : Event.Tend a ≡ e = cc in subst (Chosen s p left) same (Tend_of a f)

  chosen_close : (e : Event) (o : Option ℕ) → least_closing s.grants 1 s.grants ≡ o → close_of o ≡ Some e → Chosen s p left e
  chosen_close e None f w = absurd (cc)
  chosen_close e (Some g) f w = let same : Event.Close ≡ e = cc in subst (Chosen s p left) same (Close_of g f)

  chosen_order : (e : Event) (os : List Order) → left ≡ os → order_of os ≡ Some e → Chosen s p left e
  chosen_order e [] f w = absurd (cc)
  chosen_order e (o ∷ os) f w = let same : Event.Order o ≡ e = cc in subst (Chosen s p left) same (Order_of o os f)

  no_order : (os : List Order) → order_of os ≡ None → os ≡ []
  no_order [] w = refl
  no_order (o ∷ os) w = absurd (cc)

  chosen_switch : (e : Event) (t : ℕ) → left ≡ [] → wanted_at p t ≡ Some e → Chosen s p left e
  chosen_switch e t none w = by_flags (list_any (is_moving_at t) p.actors) (slice_index_or p.yielded t false) refl refl w
    where
      by_ready : list_any (is_moving_at t) p.actors ≡ false → slice_index_or p.yielded t false ≡ true → (as' : List ℕ) → ready_at t p ≡ as' → switch_to t as' ≡ Some e → Chosen s p left e
      by_ready f g [] r v = absurd (cc)
      by_ready f g (a ∷ as') r v = let same : Event.Order (Order.Switch t a) ≡ e = cc in subst (Chosen s p left) same (Switch_of t a as' none r f g)

      by_flags : (b c : Bool) → list_any (is_moving_at t) p.actors ≡ b → slice_index_or p.yielded t false ≡ c → (if not b && c then switch_to t (ready_at t p) else None) ≡ Some e → Chosen s p left e
      by_flags true c f g v = absurd (cc)
      by_flags false false f g v = absurd (cc)
      by_flags false true f g v = by_ready f g (ready_at t p) refl v

  chosen_turn : (e : Event) (t : ℕ) → turn_by s (actor_at p (current_of t p)) ≡ Some e → Chosen s p left e
  chosen_turn e t w = by_current (current_of t p) refl w
    where
      by_can : (b : ℕ) (x : PlacedActivity) → current_of t p ≡ Some b → actor b p ≡ Some x → (c : Bool) → can_turn s x ≡ c → (if c then Some (Event.Turn x.act) else None) ≡ Some e → Chosen s p left e
      by_can b x f g false h v = absurd (cc)
      by_can b x f g true h v = let same : Event.Turn x.act ≡ e = cc in subst (Chosen s p left) same (Turn_of t b x f g h)

      by_actor : (b : ℕ) (o : Option PlacedActivity) → current_of t p ≡ Some b → actor b p ≡ o → turn_by s o ≡ Some e → Chosen s p left e
      by_actor b None f g v = absurd (cc)
      by_actor b (Some x) f g v = by_can b x f g (can_turn s x) refl v

      by_current : (o : Option ℕ) → current_of t p ≡ o → turn_by s (actor_at p o) ≡ Some e → Chosen s p left e
      by_current None f v = absurd (cc)
      by_current (Some b) f v = by_actor b (actor b p) f refl v

  pub chosen : (e : Event) → next_event s p left ≡ Some e → Chosen s p left e
  chosen e h =
      or_next (next_take p) (tend_of (least_tend p.actors) ∷ close_of (least_closing s.grants 1 s.grants) ∷ order_of left ∷ first_for tiles (wanted_at p) ∷ first_for tiles (λ t. turn_by s (actor_at p (current_of t p))) ∷ []) e h
      (λ w. some_tile tiles (λ dest. first_for tiles (λ from. take_if dest from (link from dest p))) e tiles_below w (λ to k v. some_tile tiles (λ from. take_if to from (link from to p)) e tiles_below v (λ from l u. chosen_take e to from k l (link from to p) refl u)))
      (λ n1 h1. or_next (tend_of (least_tend p.actors)) (close_of (least_closing s.grants 1 s.grants) ∷ order_of left ∷ first_for tiles (wanted_at p) ∷ first_for tiles (λ t. turn_by s (actor_at p (current_of t p))) ∷ []) e h1
      (chosen_tend e (least_tend p.actors) refl)
      (λ n2 h2. or_next (close_of (least_closing s.grants 1 s.grants)) (order_of left ∷ first_for tiles (wanted_at p) ∷ first_for tiles (λ t. turn_by s (actor_at p (current_of t p))) ∷ []) e h2
      (chosen_close e (least_closing s.grants 1 s.grants) refl)
      (λ n3 h3. or_next (order_of left) (first_for tiles (wanted_at p) ∷ first_for tiles (λ t. turn_by s (actor_at p (current_of t p))) ∷ []) e h3
      (chosen_order e left refl)
      (λ n4 h4. or_next (first_for tiles (wanted_at p)) (first_for tiles (λ t. turn_by s (actor_at p (current_of t p))) ∷ []) e h4
      (λ w. some_tile tiles (wanted_at p) e tiles_below w (λ t k v. chosen_switch e t (no_order left n4) v))
      (λ n5 h5. or_next (first_for tiles (λ t. turn_by s (actor_at p (current_of t p)))) [] e h5
      (λ w. some_tile tiles (λ t. turn_by s (actor_at p (current_of t p))) e tiles_below w (λ t k v. chosen_turn e t v))
      (λ n6 h6. absurd (cc)))))))

-- ---- it is allowed

by_choice : (s : State) (p : Placement) (us : Units) (left : List Order) (e : Event) (made : Option Made) → Chosen s p left e → HasCall p us e made → Allowed s p us left e made
by_choice s p us left e made (Take_of to from t ts h k f) call = Takes to from made h k
by_choice s p us left e made (Tend_of a f) call = Tends a made
by_choice s p us left e made (Close_of g f) call = Closes made
by_choice s p us left e made (Order_of o os f) call = Orders o os made f
by_choice s p us left e made (Switch_of t a as' none r f g) call = Switches t a as' made none r f g
by_choice s p us left e made (Turn_of t b x f g h) call = let program : x.has_program ≡ true = grind (arith, nat_tests, h) in Turns x.act x made (found_itself p b x g) program call

pub next_allowed : ChoicesAreAllowed
next_allowed s p us left e made next call = by_choice s p us left e made (chosen s p left e next) call
