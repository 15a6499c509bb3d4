-- At opening the ready lists are in order, and no Yield is anywhere.
use Rattle.std.proofs.Common.{◌≡◌, ℕ, zero, suc, Bool, true, false, List, [], ◌∷◌, ◌++◌, get_or, set, Some, None, refl, sym, subst, ◌∙◌, ap, arith, replicate}
use Rattle.std.specs.Prelude.{Option, if◌then◌else◌, ◌==◌, ◌&&◌, slice_index_or}
use Rattle.std.specs.List.{list_any}
use Rattle.std.proofs.lemmas.Bool.Decides.{nat_tests}
use Rattle.m3_base.proofs.ListLookups.{get_replicated}
use Rattle.m3_base.specs.declared.setup_line.SetupLine.{SetupLine}
use Rattle.m3_base.specs.Lists.Keyed as keyed
use Rattle.m3_base.specs.Placement.State.{Placement, PlacedActivity, actor, actor_act, is_resting, ready_at, join_ready, with_member, Placed, Resting}
use Rattle.m3_base.specs.Placement.Opening.{opened_actor, place_at_opening, opened_line, opened_lines, opening_placement}
use Rattle.m3_base.specs.Ideal.State.{same_act}
use Rattle.m3_quiet.specs.Facts.{ActorsApart}
use Rattle.m3_quiet.specs.Schedule.{has_yield, link_at, is_listed, Scheduled}
use Rattle.m3_quiet.proofs.Schedule.Statements.{ScheduleOpens}
use Rattle.m3_quiet.proofs.Schedule.Changes.{list-set_or, listed-joined}
use Rattle.std.proofs.lemmas.Bool.{eqb-true}

-- who is in a ready list is there, and rests at that tile
abbrev pub Rests : Placement → ℕ → ℕ → Type 0
Rests p t a = (x : PlacedActivity) × (actor a p ≡ Some x) × (x.home ≡ t) × (is_resting x.place ≡ true)

pub record Opens (p : Placement) : Type 0 where
  pub ready : (t a : ℕ) → is_listed a (ready_at t p) ≡ true → Rests p t a
  pub links : p.links ≡ replicate 256 []
  pub yielded : p.yielded ≡ replicate 16 false

find-append : (a : ℕ) (xs ys : List PlacedActivity) (x : PlacedActivity) → keyed.find actor_act same_act a xs ≡ Some x → keyed.find actor_act same_act a (xs ++ ys) ≡ Some x
find-append a [] ys x e = absurd (cc)
find-append a (y ∷ xs) ys x e = by_act (a == y.act) e (find-append a xs ys x)
  where
    by_act : (b : Bool) → (if b then Some y else keyed.find actor_act same_act a xs) ≡ Some x → (keyed.find actor_act same_act a xs ≡ Some x → keyed.find actor_act same_act a (xs ++ ys) ≡ Some x) → (if b then Some y else keyed.find actor_act same_act a (xs ++ ys)) ≡ Some x
    by_act true f ih = f
    by_act false f ih = ih f

-- ---- a further activity

opens-add : (p : Placement) (current : List (Option ℕ)) (x : PlacedActivity) → Opens p → Opens (record p { current = current; actors = p.actors ++ x ∷ [] })
opens-add p current x ok = record { ready = λ t a h. grown a t (ok.ready t a h); links = ok.links; yielded = ok.yielded }
  where
    grown : (a t : ℕ) → Rests p t a → Rests (record p { current = current; actors = p.actors ++ x ∷ [] }) t a
    grown a t (y, e, f, g) = (y, find-append a p.actors (x ∷ []) y e, f, g)

opens-join : (p : Placement) (t a : ℕ) → Opens p → Rests p t a → Opens (join_ready true t a p)
opens-join p t a ok rests = record {
  ready = λ u c h. list-set_or (is_listed c) p.ready t u (with_member a (ready_at t p)) refl h (λ same f. listed-joined c a (ready_at t p) f (λ g. ok.ready u c (subst (λ z. is_listed c (ready_at z p) ≡ true) same g)) (λ g. subst (λ z. Rests p z c) same (subst (Rests p t) g rests))) (λ differ f. ok.ready u c f);
  links = ok.links;
  yielded = ok.yielded;
}

-- the last one, where nobody has its number before
find-last : (xs : List PlacedActivity) (x : PlacedActivity) → ActorsApart (xs ++ x ∷ []) → keyed.find actor_act same_act x.act (xs ++ x ∷ []) ≡ Some x
find-last [] x apart = itself (x.act == x.act) (grind (arith, nat_tests))
  where
    itself : (b : Bool) → b ≡ true → (if b then Some x else None) ≡ Some x
    itself true h = refl
    itself false h = absurd (cc)
find-last (y ∷ xs) x apart = by_act (x.act == y.act) refl (find-last xs x apart.1)
  where
    by_act : (b : Bool) → (x.act == y.act) ≡ b → keyed.find actor_act same_act x.act (xs ++ x ∷ []) ≡ Some x → (if b then Some y else keyed.find actor_act same_act x.act (xs ++ x ∷ [])) ≡ Some x
    by_act true e f = let none : keyed.find actor_act same_act x.act (xs ++ x ∷ []) ≡ None = subst (λ k. keyed.find actor_act same_act k (xs ++ x ∷ []) ≡ None) (sym (eqb-true x.act y.act e)) apart.0 in absurd (cc)
    by_act false e f = f

find-first : (a : ℕ) (xs ys : List PlacedActivity) → keyed.find actor_act same_act a (xs ++ ys) ≡ None → keyed.find actor_act same_act a xs ≡ None
find-first a [] ys e = refl
find-first a (y ∷ xs) ys e = by_act (a == y.act) e (find-first a xs ys)
  where
    by_act : (b : Bool) → (if b then Some y else keyed.find actor_act same_act a (xs ++ ys)) ≡ None → (keyed.find actor_act same_act a (xs ++ ys) ≡ None → keyed.find actor_act same_act a xs ≡ None) → (if b then Some y else keyed.find actor_act same_act a xs) ≡ None
    by_act true f ih = absurd (cc)
    by_act false f ih = ih f

apart-first : (xs ys : List PlacedActivity) → ActorsApart (xs ++ ys) → ActorsApart xs
apart-first [] ys h = tt
apart-first (x ∷ xs) ys h = (find-first x.act xs ys h.0, apart-first xs ys h.1)

opens-act : (p : Placement) (current : List (Option ℕ)) (a t : ℕ) (taken program : Bool) → Opens p → ActorsApart (p.actors ++ opened_actor a t (if taken then Resting else Placed) program ∷ []) → Opens (join_ready (taken && program) t a (record p { current = current; actors = p.actors ++ opened_actor a t (if taken then Resting else Placed) program ∷ [] }))
opens-act p current a t true true ok apart =
    let x = opened_actor a t Resting true in
    opens-join (record p { current = current; actors = p.actors ++ x ∷ [] }) t a (opens-add p current x ok) (x, find-last p.actors x apart, refl, refl)
opens-act p current a t true false ok apart = opens-add p current (opened_actor a t Resting false) ok
opens-act p current a t false true ok apart = opens-add p current (opened_actor a t Placed true) ok
opens-act p current a t false false ok apart = opens-add p current (opened_actor a t Placed false) ok

-- ---- all lines

-- the activities of further lines stand behind
joined-actors : (b : Bool) (t a : ℕ) (p : Placement) → (join_ready b t a p).actors ≡ p.actors
joined-actors true t a p = refl
joined-actors false t a p = refl

abbrev pub Behind : Placement → Placement → Type 0
Behind p q = (rest : List PlacedActivity) × (q.actors ≡ p.actors ++ rest)

append-nil : (xs : List PlacedActivity) → xs ≡ xs ++ []
append-nil [] = refl
append-nil (x ∷ xs) = ap (λ ys. x ∷ ys) (append-nil xs)

append-more : (xs : List PlacedActivity) (x : PlacedActivity) (ys : List PlacedActivity) → (xs ++ x ∷ []) ++ ys ≡ xs ++ x ∷ ys
append-more [] x ys = refl
append-more (z ∷ xs) x ys = ap (λ zs. z ∷ zs) (append-more xs x ys)

behind-lines : (ps : List ℕ) (p : Placement) (ls : List SetupLine) → Behind p (opened_lines ps p ls)
behind-lines ps p [] = ([], append-nil p.actors)
behind-lines ps p (SetupLine.Quantum q ∷ ls) = behind-lines ps (record p { quantum = q }) ls
behind-lines ps p (SetupLine.Grant line ∷ ls) = behind-lines ps p ls
behind-lines ps p (SetupLine.Files g ∷ ls) = behind-lines ps p ls
behind-lines ps p (SetupLine.Item a c ∷ ls) = behind-lines ps p ls
behind-lines ps p (SetupLine.AwaitItem a ep ∷ ls) = behind-lines ps p ls
behind-lines ps p (SetupLine.Writer a mem send reply chunk ring bytes ∷ ls) = behind-lines ps p ls
behind-lines ps p (SetupLine.Reader a mem recv chunk ring fuel ∷ ls) = behind-lines ps p ls
behind-lines ps p (SetupLine.Boxed a logic fuel ∷ ls) = behind-lines ps p ls
behind-lines ps p (SetupLine.Act a t ∷ ls) = by_rest (behind-lines ps (opened_line ps p (SetupLine.Act a t)) ls)
  where
    by_rest : Behind (opened_line ps p (SetupLine.Act a t)) (opened_lines ps (opened_line ps p (SetupLine.Act a t)) ls) → Behind p (opened_lines ps (opened_line ps p (SetupLine.Act a t)) ls)
    by_rest (rest, e) = (opened_actor a t (place_at_opening t p.actors) (list_any (λ b. b == a) ps) ∷ rest, e ∙ (ap (λ xs. xs ++ rest) (joined-actors (list_any (λ y. y.home == t) p.actors && list_any (λ b. b == a) ps) t a (record p { current = if list_any (λ y. y.home == t) p.actors then p.current else set p.current t (Some a); actors = p.actors ++ opened_actor a t (place_at_opening t p.actors) (list_any (λ b. b == a) ps) ∷ [] })) ∙ append-more p.actors (opened_actor a t (place_at_opening t p.actors) (list_any (λ b. b == a) ps)) rest))

opens-lines : (ps : List ℕ) (p : Placement) (ls : List SetupLine) → Opens p → ActorsApart (opened_lines ps p ls).actors → Opens (opened_lines ps p ls)
opens-lines ps p [] ok apart = ok
opens-lines ps p (SetupLine.Quantum q ∷ ls) ok apart = opens-lines ps (record p { quantum = q }) ls (record { ready = ok.ready; links = ok.links; yielded = ok.yielded }) apart
opens-lines ps p (SetupLine.Grant line ∷ ls) ok apart = opens-lines ps p ls ok apart
opens-lines ps p (SetupLine.Files g ∷ ls) ok apart = opens-lines ps p ls ok apart
opens-lines ps p (SetupLine.Item a c ∷ ls) ok apart = opens-lines ps p ls ok apart
opens-lines ps p (SetupLine.AwaitItem a ep ∷ ls) ok apart = opens-lines ps p ls ok apart
opens-lines ps p (SetupLine.Writer a mem send reply chunk ring bytes ∷ ls) ok apart = opens-lines ps p ls ok apart
opens-lines ps p (SetupLine.Reader a mem recv chunk ring fuel ∷ ls) ok apart = opens-lines ps p ls ok apart
opens-lines ps p (SetupLine.Boxed a logic fuel ∷ ls) ok apart = opens-lines ps p ls ok apart
opens-lines ps p (SetupLine.Act a t ∷ ls) ok apart =
    opens-lines ps (opened_line ps p (SetupLine.Act a t)) ls (opens-act p (if taken then p.current else set p.current t (Some a)) a t taken program ok (by_rest (behind-lines ps (opened_line ps p (SetupLine.Act a t)) ls))) apart
  where
    taken : Bool
    taken = list_any (λ y. y.home == t) p.actors

    program : Bool
    program = list_any (λ b. b == a) ps

    by_rest : Behind (opened_line ps p (SetupLine.Act a t)) (opened_lines ps (opened_line ps p (SetupLine.Act a t)) ls) → ActorsApart (p.actors ++ opened_actor a t (place_at_opening t p.actors) (list_any (λ b. b == a) ps) ∷ [])
    by_rest (rest, e) =
        let all : ActorsApart ((opened_line ps p (SetupLine.Act a t)).actors ++ rest) = subst ActorsApart e apart in
        subst ActorsApart (joined-actors (list_any (λ y. y.home == t) p.actors && list_any (λ b. b == a) ps) t a (record p { current = if list_any (λ y. y.home == t) p.actors then p.current else set p.current t (Some a); actors = p.actors ++ opened_actor a t (place_at_opening t p.actors) (list_any (λ b. b == a) ps) ∷ [] })) (apart-first (opened_line ps p (SetupLine.Act a t)).actors rest all)

-- ---- at opening

no_yield : (a n k : ℕ) → has_yield a (get_or (replicate n []) k []) ≡ false
no_yield a zero k = refl
no_yield a (suc n) zero = refl
no_yield a (suc n) (suc k) = no_yield a n k

no_ready : (a n t : ℕ) → is_listed a (get_or (replicate n []) t []) ≡ false
no_ready a zero t = refl
no_ready a (suc n) zero = refl
no_ready a (suc n) (suc t) = no_ready a n t

start : Opens (record { current = replicate 16 None; actors = []; links = replicate 256 []; ready = replicate 16 []; yielded = replicate 16 false; quantum = 8 })
start = record { ready = λ t a h. absurd (let e = no_ready a 16 t in cc); links = refl; yielded = refl }

pub schedule_opens : ScheduleOpens
schedule_opens ps lines fine quantum = by_open (opens-lines ps _ lines start fine.apart)
  where
    by_open : Opens (opening_placement ps lines) → Scheduled (opening_placement ps lines)
    by_open ok = record {
      fine = fine;
      quantum = quantum;
      ready = λ t a x h e. rests t a x e (ok.ready t a h);
      yields = λ k a x h e. absurd (silent k a h);
      sent = λ k a x h e placed. absurd (silent k a h);
      taken = λ a x h e placed. absurd (let none : slice_index_or (opening_placement ps lines).yielded x.home false ≡ false = subst (λ ys. get_or ys x.home false ≡ false) (sym ok.yielded) (get_replicated 16 x.home false) in cc);
    }
      where
        rests : (t a : ℕ) (x : PlacedActivity) → actor a (opening_placement ps lines) ≡ Some x → Rests (opening_placement ps lines) t a → (x.home ≡ t) × (is_resting x.place ≡ true)
        rests t a x e (y, f, g, h) = let same : y ≡ x = cc in subst (λ z. (z.home ≡ t) × (is_resting z.place ≡ true)) same (g, h)

        silent : (k a : ℕ) → has_yield a (link_at k (opening_placement ps lines)) ≡ true → ⊥
        silent k a h = let none : has_yield a (link_at k (opening_placement ps lines)) ≡ false = subst (λ ls. has_yield a (get_or ls k []) ≡ false) (sym ok.links) (no_yield a 256 k) in absurd (cc)
