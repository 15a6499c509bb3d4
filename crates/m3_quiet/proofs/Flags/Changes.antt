-- What Saved says of its activity, where one link, one activity or one context changes.
use Rattle.std.proofs.Common.{◌≡◌, ℕ, zero, suc, ◌+◌, ◌*◌, Bool, true, false, List, [], ◌∷◌, ◌++◌, get_or, set, Some, None, refl, sym, subst, ◌∙◌, ap, arith}
use Rattle.std.specs.Prelude.{Option, if◌then◌else◌, ◌==◌, not, ◌&&◌, ◌||◌, is_some}
use Rattle.std.specs.List.{list_any}
use Rattle.std.proofs.lemmas.Bool.{or_right}
use Rattle.std.proofs.lemmas.Bool.Decides.{nat_tests}
use Rattle.m3_base.specs.declared.ids.FlightId.{FlightId}
use Rattle.m3_base.specs.declared.packet.Packet.{Packet}
use Rattle.m3_base.specs.declared.event.Said.{Said}
use Rattle.m3_base.specs.Ideal.State.{State, context_of}
use Rattle.m3_base.specs.Placement.State.{Placement, PlacedActivity, LinkToken, Data, Save, Saved, Restore, Yield, Closed, Placed, actor, link, with_link, with_token, with_actor, at_place, home, join_ready, is_placed}
use Rattle.m3_base.specs.Placement.Routing.{Routed, target, with_held, route, actor_for, tile_for}
use Rattle.m3_base.specs.Placement.Take.{is_leaving_at, first_due, with_restore, then_restore, is_waiting, has_unread_at}
use Rattle.m3_base.specs.Placement.Landing.{push_answer, push_closed}
use Rattle.m3_base.specs.Placement.Command.{push_new}
use Rattle.m3_base.specs.Placement.Tend.{answer_routed}
use Rattle.m3_quiet.specs.Facts.{Fine}
use Rattle.m3_quiet.specs.Schedule.{link_at}
use Rattle.m3_quiet.specs.Flags.{FlagsAt, FlagsIn, Flagged, has_saved}
use Rattle.m3_quiet.proofs.Flags.Statements.{FlaggedAfter}
use Rattle.m3_quiet.proofs.Events.Kinds.{found_act, found_itself}
use Rattle.m3_quiet.proofs.Sums.Whole.{find-among}
use Rattle.m3_quiet.proofs.Events.Tends.{fine-route}
use Rattle.m3_quiet.proofs.Schedule.Changes.{look}

-- ---- lists of tokens

pub flags-behind : (s : State) (xs : List PlacedActivity) (t : LinkToken) (ts : List LinkToken) → FlagsIn s xs (t ∷ ts) → FlagsIn s xs ts
flags-behind s xs (Data id) ts h = h
flags-behind s xs (Save a) ts h = h
flags-behind s xs (Saved a w e) ts h = h.1
flags-behind s xs (Restore a) ts h = h
flags-behind s xs (Yield a) ts h = h
flags-behind s xs (Closed g) ts h = h

pub flags-joined : (s : State) (xs : List PlacedActivity) (ts us : List LinkToken) → FlagsIn s xs ts → FlagsIn s xs us → FlagsIn s xs (ts ++ us)
flags-joined s xs [] us h k = k
flags-joined s xs (Data id ∷ ts) us h k = flags-joined s xs ts us h k
flags-joined s xs (Save a ∷ ts) us h k = flags-joined s xs ts us h k
flags-joined s xs (Saved a w e ∷ ts) us h k = (h.0, flags-joined s xs ts us h.1 k)
flags-joined s xs (Restore a ∷ ts) us h k = flags-joined s xs ts us h k
flags-joined s xs (Yield a ∷ ts) us h k = flags-joined s xs ts us h k
flags-joined s xs (Closed g ∷ ts) us h k = flags-joined s xs ts us h k

pub saved_here : (a : ℕ) (ts : List LinkToken) → ((a == a) || has_saved a ts) ≡ true
saved_here a ts = by_same (a == a) (grind (arith, nat_tests))
  where
    by_same : (b : Bool) → b ≡ true → (b || has_saved a ts) ≡ true
    by_same true h = refl
    by_same false h = absurd (cc)

-- other states or activities, where each one that is named stays as it is
pub flags-map : (s n : State) (xs ys : List PlacedActivity) (ts : List LinkToken) → ((a : ℕ) (w e : Bool) → has_saved a ts ≡ true → FlagsAt s xs a w e → FlagsAt n ys a w e) → FlagsIn s xs ts → FlagsIn n ys ts
flags-map s n xs ys [] f h = tt
flags-map s n xs ys (Data id ∷ ts) f h = flags-map s n xs ys ts f h
flags-map s n xs ys (Save a ∷ ts) f h = flags-map s n xs ys ts f h
flags-map s n xs ys (Saved a w e ∷ ts) f h = (f a w e (saved_here a ts) h.0, flags-map s n xs ys ts (λ b v d k g. f b v d (or_right (a == b) (has_saved b ts) k) g) h.1)
flags-map s n xs ys (Restore a ∷ ts) f h = flags-map s n xs ys ts f h
flags-map s n xs ys (Yield a ∷ ts) f h = flags-map s n xs ys ts f h
flags-map s n xs ys (Closed g ∷ ts) f h = flags-map s n xs ys ts f h

pub flags-set : (s : State) (xs : List PlacedActivity) (ls : List (List LinkToken)) (i k : ℕ) (ts : List LinkToken) → FlagsIn s xs ts → FlagsIn s xs (get_or ls k []) → FlagsIn s xs (get_or (set ls i ts) k [])
flags-set s xs [] i k ts h g = g
flags-set s xs (l ∷ ls) zero zero ts h g = h
flags-set s xs (l ∷ ls) zero (suc k) ts h g = g
flags-set s xs (l ∷ ls) (suc i) zero ts h g = g
flags-set s xs (l ∷ ls) (suc i) (suc k) ts h g = flags-set s xs ls i k ts h g

-- ---- one change

pub f-link : (s : State) (p : Placement) (from to : ℕ) (ts : List LinkToken) → Flagged s p → FlagsIn s p.actors ts → Flagged s (with_link from to ts p)
f-link s p from to ts ok h k = flags-set s p.actors p.links (16 * from + to) k ts h (ok k)

pub f-front : (s : State) (p : Placement) (from to : ℕ) (t : LinkToken) (ts : List LinkToken) → Flagged s p → link from to p ≡ t ∷ ts → Flagged s (with_link from to ts p)
f-front s p from to t ts ok e = f-link s p from to ts ok (flags-behind s p.actors t ts (subst (FlagsIn s p.actors) e (ok (16 * from + to))))

pub f-pushed : (s : State) (p : Placement) (from to : ℕ) (t : LinkToken) → Flagged s p → FlagsIn s p.actors (t ∷ []) → Flagged s (with_token from to t p)
f-pushed s p from to t ok h = f-link s p from to (link from to p ++ t ∷ []) ok (flags-joined s p.actors (link from to p) (t ∷ []) (ok (16 * from + to)) h)

-- its pending Await and its end stay
pub f-actor : (s : State) (p : Placement) (x old : PlacedActivity) → Flagged s p → actor x.act p ≡ Some old → x.pending ≡ old.pending → x.ended ≡ old.ended → Flagged s (with_actor x p)
f-actor s p x old ok found pends over k = flags-map s s p.actors (with_actor x p).actors (link_at k p) (λ a w e h f. at a w e f) (ok k)
  where
    acts : old.act ≡ x.act
    acts = found_act x.act p.actors old found

    same : is_waiting s (Some old) ≡ is_waiting s (Some x)
    same = ap (λ o. is_some o && not (has_unread_at (context_of old.act s.contexts) o)) (sym pends) ∙ ap (λ b. is_some x.pending && not (has_unread_at (context_of b s.contexts) x.pending)) acts

    at : (a : ℕ) (w e : Bool) → FlagsAt s p.actors a w e → FlagsAt s (with_actor x p).actors a w e
    at a w e f y g = look p x old a y found g (λ mine its. here y mine its) (λ other h. f y h)
      where
        here : (y : PlacedActivity) → a ≡ x.act → x ≡ y → (w ≡ is_waiting s (Some y)) × (e ≡ y.ended)
        here y mine its =
            let r = f old (subst (λ k. actor k p ≡ Some old) (sym mine) found) in
            subst (λ z. (w ≡ is_waiting s (Some z)) × (e ≡ z.ended)) its (r.0 ∙ same, r.1 ∙ sym over)

-- or none speaks of it
pub f-away : (s : State) (p : Placement) (x old : PlacedActivity) → Flagged s p → actor x.act p ≡ Some old → ((k : ℕ) → has_saved x.act (link_at k p) ≡ true → ⊥) → Flagged s (with_actor x p)
f-away s p x old ok found none k = flags-map s s p.actors (with_actor x p).actors (link_at k p) (λ a w e h f. at a w e h f) (ok k)
  where
    at : (a : ℕ) (w e : Bool) → has_saved a (link_at k p) ≡ true → FlagsAt s p.actors a w e → FlagsAt s (with_actor x p).actors a w e
    at a w e h f y g = look p x old a y found g (λ mine its. absurd (none k (subst (λ b. has_saved b (link_at k p) ≡ true) mine h))) (λ other v. f y v)

-- the contexts that it speaks of stay
pub f-state : (s n : State) (p : Placement) → Flagged s p → ((k a : ℕ) → has_saved a (link_at k p) ≡ true → (x : PlacedActivity) → actor a p ≡ Some x → context_of a n.contexts ≡ context_of a s.contexts) → Flagged n p
f-state s n p ok same k = flags-map s n p.actors p.actors (link_at k p) (λ a w e h f. at a w e h f) (ok k)
  where
    at : (a : ℕ) (w e : Bool) → has_saved a (link_at k p) ≡ true → FlagsAt s p.actors a w e → FlagsAt n p.actors a w e
    at a w e h f y g =
        let r = f y g in
        let contexts : context_of y.act n.contexts ≡ context_of y.act s.contexts = subst (λ b. context_of b n.contexts ≡ context_of b s.contexts) (sym (found_act a p.actors y g)) (same k a h y g) in
        (r.0 ∙ ap (λ o. is_some y.pending && not (has_unread_at o y.pending)) (sym contexts), r.1)

pub f-join : (s : State) (p : Placement) (b : Bool) (t a : ℕ) → Flagged s p → Flagged s (join_ready b t a p)
f-join s p true t a ok = ok
f-join s p false t a ok = ok

pub f-restored : (said : Said) (s : State) (t : ℕ) (p : Placement) → Fine p → Flagged s p → FlaggedAfter (then_restore said s t p)
f-restored said s t p fine ok = by_leaving (list_any (is_leaving_at t) p.actors)
  where
    by_due : (r : Option PlacedActivity) → first_due t p.actors ≡ r → FlaggedAfter (with_restore said s p r)
    by_due None e = ok
    by_due (Some y) e = f-pushed s (at_place Placed y p) 0 y.home (Restore y.act) (f-actor s p (record y { place = Placed }) y ok (find-among t p.actors y fine.apart e) refl refl) tt

    by_leaving : (b : Bool) → FlaggedAfter (with_restore said s p (if b then None else first_due t p.actors))
    by_leaving true = ok
    by_leaving false = by_due (first_due t p.actors) refl

-- ---- routing

pub f-routed : (s : State) (p : Placement) (id : FlightId) (a : ℕ) (r : Option PlacedActivity) → Flagged s p → actor a p ≡ r → Flagged s (route id r p).places
f-routed s p id a None ok e = ok
f-routed s p id a (Some z) ok e = by_place (is_placed z.place)
  where
    as_routed : Bool → Routed
    as_routed b = if b then record { held = false; places = with_token 0 z.home (Data id) p } else record { held = true; places = with_held id z p }

    by_place : (b : Bool) → Flagged s (as_routed b).places
    by_place true = f-pushed s p 0 z.home (Data id) ok tt
    by_place false = f-actor s p (record z { hold = z.hold ++ id ∷ [] }) z ok (found_itself p a z e) refl refl

pub f-for : (s : State) (p : Placement) (id : FlightId) (a : Option ℕ) → Flagged s p → Flagged s (route id (actor_for a p) p).places
f-for s p id None ok = ok
f-for s p id (Some a) ok = f-routed s p id a (actor a p) ok refl

pub f-answer : (s : State) (p : Placement) (t : ℕ) (o : Option FlightId) → Flagged s p → Flagged s (push_answer t o p)
f-answer s p t None ok = ok
f-answer s p t (Some id) ok = f-pushed s p t (home id.issuer p) (Data id) ok tt

pub f-closed : (s : State) (p : Placement) (t : ℕ) (o : Option ℕ) → Flagged s p → Flagged s (push_closed t o p)
f-closed s p t None ok = ok
f-closed s p t (Some g) ok = f-pushed s p t 0 (Closed g) ok tt

pub f-answer_routed : (s : State) (p : Placement) (o : Option FlightId) → Flagged s p → Flagged s (answer_routed o p)
f-answer_routed s p None ok = ok
f-answer_routed s p (Some id) ok = f-routed s p id id.issuer (actor id.issuer p) ok refl

pub fine-answer_routed : (p : Placement) (o : Option FlightId) → Fine p → Fine (answer_routed o p)
fine-answer_routed p None fine = fine
fine-answer_routed p (Some id) fine = fine-route p id id.issuer (actor id.issuer p) fine refl

pub f-new : (s : State) (p : Placement) (id : FlightId) (from : ℕ) (o : Option Packet) → Flagged s p → Flagged s (push_new id from o p)
f-new s p id from None ok = ok
f-new s p id from (Some x) ok = f-pushed s p from (tile_for (target x) p) (Data id) ok tt

-- where all contexts stay
pub f-contexts : (s n : State) (p : Placement) → Flagged s p → n.contexts ≡ s.contexts → Flagged n p
f-contexts s n p ok same = f-state s n p ok (λ k a h x f. ap (context_of a) same)
