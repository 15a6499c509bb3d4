-- Along the lines of a setup, homes and contexts come side by side.
use Rattle.std.proofs.Common.{◌≡◌, ℕ, ◌+◌, Bool, true, false, cond, List, [], ◌∷◌, ◌++◌, Some, None, refl, sym, subst, ◌∙◌, ap, arith, append-nil, length, map, replicate, Option, ◌⊎◌, inl, inr}
use Rattle.std.specs.Prelude.{◌==◌}
use Rattle.std.specs.List.{list_all}
use Rattle.std.proofs.lemmas.Bool.Decides.{nat_tests}
use Rattle.std.proofs.lemmas.List.{map-append}
use Rattle.m3_base.specs.declared.order.GrantLine.{GrantLine}
use Rattle.m3_base.specs.declared.packet.Fresh.{Fresh}
use Rattle.m3_base.specs.declared.setup_line.SetupLine.{SetupLine}
use Rattle.m3_base.specs.Ideal.Context.{Free, Context, new_context, with_endpoint, new_endpoint}
use Rattle.m3_base.specs.Ideal.State.{State, context_of, new_context_in, put_context, holder, holder_ep, parent_of, parent_in, DistinctActs}
use Rattle.m3_base.specs.Ideal.GrantRules.{form, new_grant}
use Rattle.m3_base.specs.Ideal.Opening.{contexts_with_record, state_with_grant, with_line}
use Rattle.m3_base.specs.Setup.Obligations.{Declared, LineIsOk}
use Rattle.m3_base.specs.Lists.EachElement.{Each}
use Rattle.m3_merge.proofs.MergedIsRun.{each_append}
use Rattle.m3_model.specs.Config.Site.{Home, Site}
use Rattle.m3_model.specs.Config.KnownActivities.{is_home, names_at, is_named_context}
use Rattle.m3_model.specs.Machine.{context_or_new}
use Rattle.m3_model.specs.Abstraction.{sorted_by_act}
use Rattle.m3_model.specs.Invariant.Distinct.{DistinctHomes}
use Rattle.m3_model.specs.Invariant.Housing.{IsPresent}
use Rattle.m3_refine.proofs.abstraction.MoveWithinMachine.{by_act-middle}
use Rattle.m3_refine.proofs.abstraction.MoveContext.{apart_add}
use Rattle.m3_refine.proofs.abstraction.ChangeContext.{Swaps, swaps_state, swaps_apart}
use Rattle.m3_refine.proofs.arrival.KeepsKnownActivities.{all_set, opened_named}
use Rattle.m3_refine.proofs.opening.ContextTable.{found_new, found_beside, found_put, found_kept}
use Rattle.m3_refine.proofs.abstraction.OpeningLines.{home_in, home_last, home_kept, homes_more, its_context, Has, acts_back, there_in, form_names, each_grant}
use Rattle.m3_base.proofs.Activities.{act_found}

-- how far the ideal opening has come: the homes that were declared, and the state
pub record Along (h : Site) (s : State) (ds : List Home) : Type 0 where
  -- each home has its context, and each context its home
  pub has : Each (Has s.contexts) ds
  pub declared : (a : ℕ) → IsPresent (context_of a s.contexts) → IsPresent (home_in a ds)
  pub homes : DistinctHomes ds
  pub match' : sorted_by_act (map (its_context s.contexts) ds) ≡ s.contexts
  pub acts : DistinctActs (map (its_context s.contexts) ds)
  -- names are of homes of the whole setup
  pub known : (a : ℕ) → IsPresent (context_of a s.contexts) → is_home h a ≡ true
  pub named : (a : ℕ) (c : Context) → context_of a s.contexts ≡ Some c → is_named_context h c ≡ true
  pub holders : Each (λ x. is_home h (holder x.line) ≡ true) s.grants
  pub flights : s.flights ≡ []

none_there : {X : Type 0} (o : Option X) → (IsPresent o → ⊥) → o ≡ None
none_there None k = refl
none_there (Some x) k = absurd (k tt)

pub there_by : {X : Type 0} (o : Option X) (x : X) → o ≡ Some x → IsPresent o
there_by o x e = subst IsPresent (sym e) tt

pub some_there : {X : Type 0} (o : Option X) → IsPresent o → (x : X) × (o ≡ Some x)
some_there None k = absurd k
some_there (Some x) k = (x, refl)

-- ---- homes without this activity have other ones

abbrev Other : ℕ → Home → Type 0
Other a x = (a == x.act) ≡ false

others : (a : ℕ) (ds : List Home) → home_in a ds ≡ None → Each (Other a) ds
others a [] e = tt
others a (x ∷ ds) e = ((let z : (a == x.act) ≡ false = grind (arith, nat_tests, e) in z), others a ds (grind (arith, nat_tests, e)))

home_absent : (a : ℕ) (cs : List Context) (ds : List Home) → Each (Has cs) ds → context_of a cs ≡ None → home_in a ds ≡ None
home_absent a cs [] h e = refl
home_absent a cs (x ∷ ds) h e = by_test (a == x.act) refl (home_absent a cs ds h.1 e)
  where
    by_test : (b : Bool) → (a == x.act) ≡ b → home_in a ds ≡ None → cond b (Some x) (home_in a ds) ≡ None
    by_test true d ih = absurd (let k : a ≡ x.act = grind (arith, nat_tests, d) in let f = h.0.found in let z : context_of x.act cs ≡ None = subst (λ n. context_of n cs ≡ None) k e in cc)
    by_test false d ih = ih

-- ---- a new activity

module _ (cs : List Context) (a : ℕ) (none : context_of a cs ≡ None) where
  abbrev grown : List Context
  grown = new_context_in (new_context a) cs

  beside : (b : ℕ) → (a == b) ≡ false → context_of b grown ≡ context_of b cs
  beside b d = found_beside b (new_context a) cs (λ k. absurd (let z : (a == b) ≡ true = grind (arith, nat_tests, k) in cc))

  has_grown : (ds : List Home) → Each (Has cs) ds → Each (Other a) ds → Each (Has grown) ds
  has_grown [] h o = tt
  has_grown (x ∷ ds) h o = (record { context = h.0.context; found = beside x.act o.0 ∙ h.0.found; act = h.0.act }, has_grown ds h.1 o.1)

  its_grown : (ds : List Home) → Each (Other a) ds → map (its_context grown) ds ≡ map (its_context cs) ds
  its_grown [] o = refl
  its_grown (x ∷ ds) o = λ k. context_or_new x.act (beside x.act o.0 k) ∷ its_grown ds o.1 k

module _ (h : Site) (s : State) (ds : List Home) (l : Along h s ds) (x : Home) (none : context_of x.act s.contexts ≡ None) (known : is_home h x.act ≡ true) where
  abbrev cs' : List Context
  cs' = new_context_in (new_context x.act) s.contexts

  apart : home_in x.act ds ≡ None
  apart = home_absent x.act s.contexts ds l.has none

  found : context_of x.act cs' ≡ Some (new_context x.act)
  found = found_new x.act (new_context x.act) s.contexts none refl

  its_new : map (its_context cs') (ds ++ x ∷ []) ≡ map (its_context s.contexts) ds ++ new_context x.act ∷ []
  its_new =
      map-append (its_context cs') ds (x ∷ [])
      ∙ ap (λ l. l ++ its_context cs' x ∷ []) (its_grown s.contexts x.act none ds (others x.act ds apart))
      ∙ ap (λ c. map (its_context s.contexts) ds ++ c ∷ []) (ap (context_or_new x.act) found)

  absent : context_of x.act (map (its_context s.contexts) ds) ≡ None
  absent = acts_back x.act (map (its_context s.contexts) ds) (ap (context_of x.act) l.match' ∙ none)

  plain : list_all (names_at h) (replicate 16 Free) ≡ true
  plain = refl

  named_new : (a : ℕ) (c : Context) → context_of a cs' ≡ Some c → is_named_context h c ≡ true
  named_new a c e = by_test (x.act == a) refl
    where
      by_test : (b : Bool) → (x.act == a) ≡ b → is_named_context h c ≡ true
      by_test false d = l.named a c (sym (beside s.contexts x.act none a d) ∙ e)
      by_test true d =
          let k : x.act ≡ a = grind (arith, nat_tests, d) in
          let f : Some (new_context x.act) ≡ Some c = sym found ∙ ap (λ n. context_of n cs') k ∙ e in
          let g : new_context x.act ≡ c = cc in
          subst (λ z. is_named_context h z ≡ true) g plain

  pub act_along : Along h (record s { contexts = new_context_in (new_context x.act) s.contexts }) (ds ++ x ∷ [])
  act_along =
      record {
        has = each_append (Has cs') ds (x ∷ []) (has_grown s.contexts x.act none ds l.has (others x.act ds apart)) (record { context = new_context x.act; found = found; act = refl }, tt);
        declared = λ a e. by_case a (there_in a (new_context x.act) s.contexts e);
        homes = homes_more ds x l.homes apart;
        match' = ap sorted_by_act its_new ∙ by_act-middle (map (its_context s.contexts) ds) (new_context x.act) [] absent
            ∙ ap (λ l. new_context_in (new_context x.act) (sorted_by_act l)) (append-nil (map (its_context s.contexts) ds)) ∙ ap (new_context_in (new_context x.act)) l.match';
        acts = subst DistinctActs (sym its_new) (apart_add (map (its_context s.contexts) ds) (new_context x.act) []
            (subst (λ l. context_of x.act l ≡ None) (sym (append-nil (map (its_context s.contexts) ds))) absent)
            (subst DistinctActs (sym (append-nil (map (its_context s.contexts) ds))) l.acts));
        known = λ a e. by_known a (there_in a (new_context x.act) s.contexts e);
        named = named_new;
        holders = l.holders;
        flights = l.flights;
      }
    where
      by_case : (a : ℕ) → (a ≡ x.act) ⊎ IsPresent (context_of a s.contexts) → IsPresent (home_in a (ds ++ x ∷ []))
      by_case a (inl e) = subst (λ n. IsPresent (home_in n (ds ++ x ∷ []))) (sym e) (there_by (home_in x.act (ds ++ x ∷ [])) x (home_last ds x apart))
      by_case a (inr e) = home_kept a ds x (l.declared a e)

      by_known : (a : ℕ) → (a ≡ x.act) ⊎ IsPresent (context_of a s.contexts) → is_home h a ≡ true
      by_known a (inl e) = ap (is_home h) e ∙ known
      by_known a (inr e) = l.known a e

-- ---- a grant

-- one home has another context
module _ (cs : List Context) (c d : Context) (same : d.act ≡ c.act) (there : context_of c.act cs ≡ Some c) where
  abbrev put : List Context
  put = put_context d cs

  kept : (b : ℕ) → (c.act == b) ≡ false → context_of b put ≡ context_of b cs
  kept b e = found_kept b d cs (λ k. absurd (let s = same in let z : (c.act == b) ≡ true = grind (arith, nat_tests, k, s) in cc))

  now : context_of c.act put ≡ Some d
  now = found_put c.act d c cs there same

  has_put : (ds : List Home) → Each (Has cs) ds → Each (Has put) ds
  has_put [] h = tt
  has_put (x ∷ ds) h = (by_test (c.act == x.act) refl, has_put ds h.1)
    where
      by_test : (b : Bool) → (c.act == x.act) ≡ b → Has put x
      by_test false e = record { context = h.0.context; found = kept x.act e ∙ h.0.found; act = h.0.act }
      by_test true e =
          let k : c.act ≡ x.act = grind (arith, nat_tests, e) in
          record { context = d; found = subst (λ n. context_of n put ≡ Some d) k now; act = same ∙ k }

  its_kept : (ds : List Home) → Each (Other c.act) ds → map (its_context put) ds ≡ map (its_context cs) ds
  its_kept [] o = refl
  its_kept (x ∷ ds) o = λ k. context_or_new x.act (kept x.act o.0 k) ∷ its_kept ds o.1 k

  its_swaps : (ds : List Home) → DistinctHomes ds → IsPresent (home_in c.act ds) → Swaps c d (map (its_context cs) ds) (map (its_context put) ds)
  its_swaps [] a i = absurd i
  its_swaps (x ∷ ds) a i = by_test (c.act == x.act) refl i (its_swaps ds a.1)
    where
      by_test : (b : Bool) → (c.act == x.act) ≡ b → IsPresent (cond b (Some x) (home_in c.act ds)) → (IsPresent (home_in c.act ds) → Swaps c d (map (its_context cs) ds) (map (its_context put) ds))
          → Swaps c d (map (its_context cs) (x ∷ ds)) (map (its_context put) (x ∷ ds))
      by_test true e i ih =
          let k : x.act ≡ c.act = grind (arith, nat_tests, e) in
          let old : its_context cs x ≡ c = ap (context_or_new x.act) (ap (λ n. context_of n cs) k ∙ there) in
          let new : its_context put x ≡ d = ap (context_or_new x.act) (ap (λ n. context_of n put) k ∙ now) in
          let rest = its_kept ds (others c.act ds (subst (λ n. home_in n ds ≡ None) k a.0)) in
          record { front = []; back = map (its_context cs) ds; old = λ j. old j ∷ map (its_context cs) ds; new = λ j. new j ∷ rest j }
      by_test false e i ih =
          let r = ih i in
          record {
            front = its_context cs x ∷ r.front;
            back = r.back;
            old = λ j. its_context cs x ∷ r.old j;
            new = λ j. context_or_new x.act (kept x.act e j) ∷ r.new j;
          }

module _ (h : Site) (s : State) (ds : List Home) (l : Along h s ds) (line : GrantLine) (obeys : LineIsOk s (SetupLine.Grant line)) where
  holder_home : is_home h (holder line) ≡ true
  holder_home = l.known (holder line) (declared_there (context_of (holder line) s.contexts) obeys.1.0)
    where
      declared_there : (o : Option Context) → Declared o → IsPresent o
      declared_there None d = d
      declared_there (Some c) d = tt

  holder_context : (c : Context) × (context_of (holder line) s.contexts ≡ Some c)
  holder_context = declared_some (context_of (holder line) s.contexts) obeys.1.0
    where
      declared_some : (o : Option Context) → Declared o → (c : Context) × (o ≡ Some c)
      declared_some None d = absurd d
      declared_some (Some c) d = (c, refl)

  grant_by : (o : Option Fresh) → form (length s.grants + 1) line (parent_in s.grants (parent_of line)) ≡ o → Along h (state_with_grant s line o) ds
  grant_by None e = l
  grant_by (Some f) e =
      let c = holder_context.0 in
      let is : c.act ≡ holder line = sym (act_found (holder line) c s.contexts holder_context.1) in
      let there : context_of c.act s.contexts ≡ Some c = subst (λ n. context_of n s.contexts ≡ Some c) (sym is) holder_context.1 in
      let d = with_endpoint c (holder_ep line) (new_endpoint f) in
      let swaps = its_swaps s.contexts c d refl there ds l.homes (l.declared c.act (there_by (context_of c.act s.contexts) c there)) in
      let own = form_names h (length s.grants + 1) line (parent_in s.grants (parent_of line)) f (λ x k. each_grant (λ x. is_home h (holder x.line) ≡ true) s.grants (parent_of line) x l.holders k) e in
      let named_d : is_named_context h d ≡ true = all_set h c.endpoints (holder_ep line) (new_endpoint f) (l.named c.act c there) (opened_named h f own) in
      let after : Along h (record s { contexts = put_context d s.contexts; grants = s.grants ++ new_grant line f ∷ [] }) ds =
      record {
        has = has_put s.contexts c d refl there ds l.has;
        declared = λ a k. l.declared a (by_other a k);
        homes = l.homes;
        match' = swaps_state c d (map (its_context s.contexts) ds) (map (its_context (put_context d s.contexts)) ds) swaps refl l.acts ∙ ap (put_context d) l.match';
        acts = swaps_apart c d (map (its_context s.contexts) ds) (map (its_context (put_context d s.contexts)) ds) swaps refl l.acts;
        known = λ a k. l.known a (by_other a k);
        named = named_by c d refl there named_d;
        holders = each_append (λ x. is_home h (holder x.line) ≡ true) s.grants (new_grant line f ∷ []) l.holders (holder_home, tt);
        flights = l.flights;
      } in
      subst (λ cs. Along h (record s { contexts = cs; grants = s.grants ++ new_grant line f ∷ [] }) ds) (sym (ap (contexts_with_record (holder_ep line) f s.contexts) holder_context.1)) after
    where
      by_other : (a : ℕ) → IsPresent (context_of a (put_context (with_endpoint holder_context.0 (holder_ep line) (new_endpoint f)) s.contexts)) → IsPresent (context_of a s.contexts)
      by_other a k = by_test (holder_context.0.act == a) refl
        where
          c : Context
          c = holder_context.0

          its : context_of holder_context.0.act s.contexts ≡ Some holder_context.0
          its = subst (λ n. context_of n s.contexts ≡ Some holder_context.0) (act_found (holder line) holder_context.0 s.contexts holder_context.1) holder_context.1

          by_test : (b : Bool) → (holder_context.0.act == a) ≡ b → IsPresent (context_of a s.contexts)
          by_test false e = subst IsPresent (kept s.contexts holder_context.0 (with_endpoint holder_context.0 (holder_ep line) (new_endpoint f)) refl its a e) k
          by_test true e = let z : holder_context.0.act ≡ a = grind (arith, nat_tests, e) in there_by (context_of a s.contexts) holder_context.0 (subst (λ n. context_of n s.contexts ≡ Some holder_context.0) z its)

      named_by : (c d : Context) → d.act ≡ c.act → context_of c.act s.contexts ≡ Some c → is_named_context h d ≡ true → (a : ℕ) (y : Context) → context_of a (put_context d s.contexts) ≡ Some y → is_named_context h y ≡ true
      named_by c d same there n a y k = by_test (d.act == a) refl
        where
          by_test : (b : Bool) → (d.act == a) ≡ b → is_named_context h y ≡ true
          by_test false e = l.named a y (sym (found_kept a d s.contexts (λ z. absurd (let w : (d.act == a) ≡ true = grind (arith, nat_tests, z) in cc))) ∙ k)
          by_test true e =
              let z : d.act ≡ a = grind (arith, nat_tests, e) in
              let f : context_of a s.contexts ≡ Some c = subst (λ n. context_of n s.contexts ≡ Some c) (sym same ∙ z) there in
              let g : Some d ≡ Some y = sym (found_put a d c s.contexts f z) ∙ k in
              let eq : d ≡ y = cc in
              subst (λ w. is_named_context h w ≡ true) eq n

  pub grant_along : Along h (with_line s (SetupLine.Grant line)) ds
  grant_along = grant_by (form (length s.grants + 1) line (parent_in s.grants (parent_of line))) refl
