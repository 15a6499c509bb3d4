-- The ideal machine at opening, along the lines of a setup: each home has its context, and all names are of homes.
use Rattle.std.proofs.Common.{◌≡◌, ℕ, zero, suc, Bool, true, false, cond, List, [], ◌∷◌, ◌++◌, Some, None, refl, subst, ap, arith, length, Option, ◌⊎◌, inl, inr}
use Rattle.std.specs.Prelude.{◌==◌, slice_get}
use Rattle.std.specs.List.{list_all}
use Rattle.std.proofs.lemmas.Bool.Decides.{nat_tests}
use Rattle.m3_base.specs.declared.order.GrantLine.{GrantLine}
use Rattle.m3_base.specs.declared.packet.Fresh.{Fresh}
use Rattle.m3_base.specs.Lists.Keyed as keyed
use Rattle.m3_base.specs.Ideal.Context.{Context}
use Rattle.m3_base.specs.Ideal.State.{Grant, context_of, new_context_in, same_act, holder, parent_in}
use Rattle.m3_base.specs.Ideal.GrantRules.{form, send_form, part_form}
use Rattle.m3_base.specs.Lists.EachElement.{Each}
use Rattle.m3_model.specs.Config.Site.{Home, Site, home_act}
use Rattle.m3_model.specs.Config.KnownActivities.{is_home, acts_in_form}
use Rattle.m3_model.specs.Machine.{context_or_new}
use Rattle.m3_model.specs.Abstraction.{sorted_by_act}
use Rattle.m3_model.specs.Invariant.Distinct.{DistinctHomes}
use Rattle.m3_model.specs.Invariant.Housing.{IsPresent}
use Rattle.m3_refine.proofs.abstraction.ClosedGrants.{numbered}
use Rattle.m3_refine.proofs.opening.ContextTable.{found_beside}

-- ---- homes by activity

abbrev pub home_in : ℕ → List Home → Option Home
home_in a ds = keyed.find home_act same_act a ds

pub home_back : (a : ℕ) (ds : List Home) (x : Home) → home_in a ds ≡ None → (a == x.act) ≡ false → home_in a (ds ++ x ∷ []) ≡ None
home_back a [] x e d = grind (arith, nat_tests, d)
home_back a (y ∷ ds) x e d = let r = home_back a ds x in grind (arith, nat_tests, e, d, r)

pub home_last : (ds : List Home) (x : Home) → home_in x.act ds ≡ None → home_in x.act (ds ++ x ∷ []) ≡ Some x
home_last [] x e = grind (arith, nat_tests)
home_last (y ∷ ds) x e = let r = home_last ds x in grind (arith, nat_tests, e, r)

pub home_kept : (a : ℕ) (ds : List Home) (x : Home) → IsPresent (home_in a ds) → IsPresent (home_in a (ds ++ x ∷ []))
home_kept a [] x e = absurd e
home_kept a (y ∷ ds) x e = by_test (a == y.act) e (home_kept a ds x)
  where
    by_test : (b : Bool) → IsPresent (cond b (Some y) (home_in a ds)) → (IsPresent (home_in a ds) → IsPresent (home_in a (ds ++ x ∷ []))) → IsPresent (cond b (Some y) (home_in a (ds ++ x ∷ [])))
    by_test true e ih = tt
    by_test false e ih = ih e

pub homes_more : (ds : List Home) (x : Home) → DistinctHomes ds → home_in x.act ds ≡ None → DistinctHomes (ds ++ x ∷ [])
homes_more [] x a e = (refl, tt)
homes_more (y ∷ ds) x a e =
    (home_back y.act ds x a.0 (grind (arith, nat_tests, e)), homes_more ds x a.1 (let r : home_in x.act ds ≡ None = grind (arith, nat_tests, e) in r))

-- ---- contexts of homes

abbrev pub its_context : List Context → Home → Context
its_context cs x = context_or_new x.act (context_of x.act cs)

-- the activity has a context, of its own
pub record Has (cs : List Context) (x : Home) : Type 0 where
  pub context : Context
  pub found : context_of x.act cs ≡ Some context
  pub act : context.act ≡ x.act

pub its_is : (cs : List Context) (x : Home) (h : Has cs x) → its_context cs x ≡ h.context
its_is cs x h = ap (context_or_new x.act) h.found

act_absent : (a : ℕ) (c : Context) (cs : List Context) → context_of a (new_context_in c cs) ≡ None → ((a == c.act) ≡ false) × (context_of a cs ≡ None)
act_absent a c [] e = (grind (arith, nat_tests, e), refl)
act_absent a c (d ∷ cs) e =
    let r = act_absent a c cs in
    let x : (a == c.act) ≡ false = grind (arith, nat_tests, e, r) in
    let y : context_of a (d ∷ cs) ≡ None = grind (arith, nat_tests, e, r) in
    (x, y)

pub acts_back : (a : ℕ) (xs : List Context) → context_of a (sorted_by_act xs) ≡ None → context_of a xs ≡ None
acts_back a [] e = refl
acts_back a (x ∷ xs) e = let r = act_absent a x (sorted_by_act xs) e in let s = acts_back a xs r.1 in let d = r.0 in grind (arith, nat_tests, d, s)

-- where an activity has a context, it has a home
pub there_in : (a : ℕ) (c : Context) (cs : List Context) → IsPresent (context_of a (new_context_in c cs)) → (a ≡ c.act) ⊎ IsPresent (context_of a cs)
there_in a c cs e = by_test (a == c.act) refl
  where
    by_test : (b : Bool) → (a == c.act) ≡ b → (a ≡ c.act) ⊎ IsPresent (context_of a cs)
    by_test true d = inl (grind (arith, nat_tests, d))
    by_test false d = inr (subst IsPresent (found_beside a c cs (λ k. absurd (let z : (a == c.act) ≡ true = grind (arith, nat_tests, k) in cc))) e)

-- ---- forms name homes

pub form_names : (h : Site) (g : ℕ) (line : GrantLine) (o : Option Grant) (f : Fresh) → ((x : Grant) → o ≡ Some x → is_home h (holder x.line) ≡ true) → form g line o ≡ Some f → list_all (is_home h) (acts_in_form f) ≡ true
form_names h g line o (Fresh.Receive n slots size) k e = refl
form_names h g line o (Fresh.Memory n start len perm) k e = refl
form_names h g (GrantLine.Recv a ep slots size) o (Fresh.Send n to to_ep to_grant label size' limit) k e = absurd (cc)
form_names h g (GrantLine.Range a ep at len perm) o (Fresh.Send n to to_ep to_grant label size limit) k e = absurd (cc)
form_names h g (GrantLine.Part a ep of at len perm) None (Fresh.Send n to to_ep to_grant label size limit) k e = absurd (cc)
form_names h g (GrantLine.Part a ep of at len perm) (Some x) (Fresh.Send n to to_ep to_grant label size limit) k e = absurd (part_send x.fresh e)
  where
    part_send : (p : Fresh) → part_form g at len perm p ≡ Some (Fresh.Send n to to_ep to_grant label size limit) → ⊥
    part_send (Fresh.Memory z start length its) e = cc
    part_send (Fresh.Receive z slots size) e = cc
    part_send (Fresh.Send z a b c d s l) e = cc
form_names h g (GrantLine.Send a ep of label credits) None (Fresh.Send n to to_ep to_grant l size limit) k e = absurd (cc)
form_names h g (GrantLine.Send a ep of label credits) (Some x) (Fresh.Send n to to_ep to_grant l size limit) k e = by_form x.fresh e
  where
    its : is_home h (holder x.line) ≡ true
    its = k x refl

    by_form : (p : Fresh) → send_form g of label credits x.line p ≡ Some (Fresh.Send n to to_ep to_grant l size limit) → list_all (is_home h) (to ∷ []) ≡ true
    by_form (Fresh.Receive z slots s) e = let same : holder x.line ≡ to = cc in let y : is_home h to ≡ true = subst (λ a. is_home h a ≡ true) same its in grind (arith, y)
    by_form (Fresh.Memory z start length i) e = absurd (cc)
    by_form (Fresh.Send z a b c d s m) e = absurd (cc)

pub each_get : (P : Grant → Type 0) (gs : List Grant) (i : ℕ) (x : Grant) → Each P gs → slice_get gs i ≡ Some x → P x
each_get P [] i x k e = absurd (cc)
each_get P (y ∷ gs) zero x k e = let s : y ≡ x = cc in subst P s k.0
each_get P (y ∷ gs) (suc i) x k e = each_get P gs i x k.1 e

pub each_grant : (P : Grant → Type 0) (gs : List Grant) (o : Option ℕ) (x : Grant) → Each P gs → parent_in gs o ≡ Some x → P x
each_grant P gs None x k e = absurd (cc)
each_grant P gs (Some g) x k e = let n = numbered gs g x e in each_get P gs n.0 x k n.2
