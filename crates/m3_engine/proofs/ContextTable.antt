-- Each line of a setup takes the table of contexts one step on.
use Rattle.std.proofs.Common.{◌≡◌, ◌≢◌, ℕ, ◌+◌, ◌<◌, ◌≤◌, Bool, true, false, List, [], ◌∷◌, ◌++◌, length, get_or, set, Option, Some, None, refl, sym, ◌∙◌, ap, subst, arith, replicate, ⊎_elim}
use Rattle.std.specs.Prelude.{not, ◌||◌}
use Rattle.std.specs.List.{list_any}
use Rattle.std.proofs.lemmas.Bool.Decides.{nat_tests}
use Rattle.std.proofs.lemmas.Bool.{cases_eq, cases_lt}
use Rattle.std.proofs.lemmas.List.{get_or-replicate, get_or_past, length-replicate, get_or-set_other}
use Rattle.m3_base.specs.Setup.Obligations.{Declared, LineIsOk}
use Rattle.m3_base.specs.declared.order.GrantLine.{GrantLine}
use Rattle.m3_base.specs.declared.packet.Fresh.{Fresh}
use Rattle.m3_base.specs.declared.setup_line.SetupLine.{SetupLine}
use Rattle.m3_base.specs.Ideal.Context.{Endpoint, Free, Context, new_context, endpoint, new_endpoint, with_endpoint}
use Rattle.m3_base.specs.Ideal.Acceptance.{is_form}
use Rattle.m3_base.specs.Limits.{is_in_limits}
use Rattle.m3_base.specs.Ideal.State.{State, Grant, context_of, put_context, new_context_in, holder, holder_ep, parent_of, parent_in, undone, grant_in}
use Rattle.m3_base.specs.Ideal.GrantRules.{form, new_grant, holds_at, make_refusal, fresh_of}
use Rattle.m3_base.specs.Ideal.Opening.{with_line, state_with_grant, contexts_with_record, opening}
use Rattle.m3_base.specs.Setup.Rules.{SetupValue, IsValid, no_lines, facts_with_line, facts_of, with_grant, is_machine}
use Rattle.m3_base.proofs.SetupValidity.{grant_allowed}
use Rattle.m3_base.proofs.SetupObligations.{Ties, obeys, ties, tied_at_first}
use Rattle.m3_model.specs.ContextTable.{HasContexts}
use Rattle.m3_model.specs.NumberBounds.{HasBoundedCounters}
use Rattle.m3_model.specs.Config.KnownActivities.{next_token_at}
use Rattle.m3_refine.proofs.bounds.RiseByOne.{token_set}
use Rattle.m3_engine.specs.OpeningInvariant.{AreFree, AreForms, Progress, CanInstall}
use Rattle.m3_refine.proofs.opening.ContextTable.{has_new, has_put, found_new, found_beside, found_put, found_kept}
use Rattle.m3_laws.proofs.invariant.wellformed.StepKeeps.{has_form, outside_no}
use Rattle.m3_base.proofs.ListLookups.{length_pushed}
use Rattle.m3_base.proofs.Activities.{act_found}
use Rattle.m3_base.proofs.GrantsByNumber.{grant_in-last}
use Rattle.std.proofs.lemmas.Bool.{or_parts}
use Rattle.m3_engine.proofs.GrantLines.{form_undone, some_form, IsFormOf, line_is_form, undone_form, in_all, forms_more}
use Rattle.std.proofs.lemmas.Option.{same_Some, none-some}

-- ---- contexts by activity

any_more : (a ep : ℕ) (gs : List Grant) (x : Grant) → list_any (holds_at a ep) (gs ++ x ∷ []) ≡ (list_any (holds_at a ep) gs || holds_at a ep x)
any_more a ep [] x = grind arith
any_more a ep (y ∷ gs) x = grind (arith, any_more a ep gs x)

-- the endpoint isn't the one that the new grant has
other_ep : (ep : ℕ) (line : GrantLine) (f : Fresh) → holds_at (holder line) ep (new_grant line f) ≡ false → ep ≢ holder_ep line
other_ep ep line f h e = grind (arith, nat_tests, h, e)

no_record : (ep : ℕ) → get_or (replicate 16 Free) ep Free ≡ Free
no_record ep = ⊎_elim (λ low. get_or-replicate 16 ep Free Free low) (λ high. get_or_past (replicate 16 Free) ep Free (omega (arith, length-replicate 16 Free, high))) (cases_lt ep 16)

few_grants : (memory : ℕ) (gs : List Grant) (line : GrantLine) → make_refusal memory gs line ≡ None → length gs < 4096
few_grants memory gs line e = grind (arith, nat_tests, e)

-- ---- one line

new_low : (a : ℕ) → HasBoundedCounters 0 (new_context a)
new_low a = record { number = omega arith; tokens = λ ep. subst (λ (e : Endpoint). next_token_at e ≤ 0) (sym (no_record ep)) (omega arith) }

module _ (setup : SetupValue) (table : List (Option Context)) (n : ℕ) where
  pub tied : (left : List SetupLine) (p : Progress setup table n left) → Ties p.facts p.state
  tied left p = record { grants = p.grants; room = p.room; homes = p.homes }

  module _ (a t : ℕ) (left : List SetupLine) (p : Progress setup table n (SetupLine.Act a t ∷ left)) where
    is_new : LineIsOk p.state (SetupLine.Act a t)
    is_new = obeys p.facts p.state (SetupLine.Act a t) (tied _ p) p.kept.0 p.kept.1.0

    fresh_ties : Ties (facts_with_line (SetupLine.Act a t) p.facts) (with_line p.state (SetupLine.Act a t))
    fresh_ties = ties p.facts p.state (SetupLine.Act a t) (tied _ p) p.kept.1.0

    act_free : AreFree (with_line p.state (SetupLine.Act a t))
    act_free b ep c there none =
        ⊎_elim
        (λ (e : b ≡ a).
        let is : new_context a ≡ c = same_Some (new_context a) c (sym (found_new a (new_context a) p.state.contexts is_new.0 refl) ∙ ap (λ x. context_of x (new_context_in (new_context a) p.state.contexts)) (sym e) ∙ there) in
        subst (λ (x : Context). endpoint x ep ≡ Free) is (no_record ep))
        (λ (ne : b ≡ a → ⊥). p.free b ep c (sym (found_beside b (new_context a) p.state.contexts ne) ∙ there) none)
        (cases_eq b a)

    act_low : (b : ℕ) (c : Context) → context_of b (with_line p.state (SetupLine.Act a t)).contexts ≡ Some c → HasBoundedCounters 0 c
    act_low b c there =
        ⊎_elim
        (λ (e : b ≡ a).
        let is : new_context a ≡ c = same_Some (new_context a) c (sym (found_new a (new_context a) p.state.contexts is_new.0 refl) ∙ ap (λ x. context_of x (new_context_in (new_context a) p.state.contexts)) (sym e) ∙ there) in
        subst (λ (x : Context). HasBoundedCounters 0 x) is (new_low a))
        (λ (ne : b ≡ a → ⊥). p.low b c (sym (found_beside b (new_context a) p.state.contexts ne) ∙ there))
        (cases_eq b a)

    pub act_step : Progress setup (set table a (Some (new_context a))) n left
    act_step = record {
      state = with_line p.state (SetupLine.Act a t);
      facts = facts_with_line (SetupLine.Act a t) p.facts;
      grants = fresh_ties.grants;
      room = fresh_ties.room;
      homes = fresh_ties.homes;
      kept = p.kept.1.1;
      opens = p.opens;
      ends = p.ends;
      has = has_new table p.state.contexts p.has (new_context a) p.kept.1.0 (p.has.same a ∙ is_new.0);
      count = p.count;
      free = act_free;
      forms = p.forms;
      low = act_low;
      memory = p.memory;
      limit = p.limit;
    }

  module _ (line : GrantLine) (left : List SetupLine) (p : Progress setup table n (SetupLine.Grant line ∷ left)) where
    pub obeyed : LineIsOk p.state (SetupLine.Grant line)
    obeyed = obeys p.facts p.state (SetupLine.Grant line) (tied _ p) p.kept.0 p.kept.1.0

    next_ties : Ties (facts_with_line (SetupLine.Grant line) p.facts) (with_line p.state (SetupLine.Grant line))
    next_ties = ties p.facts p.state (SetupLine.Grant line) (tied _ p) p.kept.1.0

    pub allowed : make_refusal p.facts.memory p.facts.grants line ≡ None
    allowed = grant_allowed p.facts line p.kept.0

    abbrev pub above : Option Grant
    above = parent_in p.facts.grants (parent_of line)

    abbrev pub known : (f : Fresh) × (form (length p.facts.grants + 1) line (undone above) ≡ Some f)
    known = some_form (form (length p.facts.grants + 1) line (undone above)) (has_form p.facts.memory p.facts.grants line allowed)

    abbrev pub fresh : Fresh
    fresh = known.0

    formed : form (length p.facts.grants + 1) line above ≡ Some fresh
    formed = form_undone (length p.facts.grants + 1) line above fresh known.1

    formed_there : form (length p.state.grants + 1) line (parent_in p.state.grants (parent_of line)) ≡ Some fresh
    formed_there = subst (λ (xs : List Grant). form (length xs + 1) line (parent_in xs (parent_of line)) ≡ Some fresh) p.grants formed

    above_form : IsFormOf above
    above_form = parent_form (parent_of line)
      where
        parent_form : (o : Option ℕ) → IsFormOf (parent_in p.facts.grants o)
        parent_form None = tt
        parent_form (Some g) = by_grant (grant_in p.facts.grants g) refl
          where
            by_grant : (o : Option Grant) → grant_in p.facts.grants g ≡ o → IsFormOf o
            by_grant None e = tt
            by_grant (Some x) e = p.forms g x e

    is_fresh : is_form fresh ≡ true
    is_fresh =
        line_is_form p.facts.memory (length p.facts.grants + 1) line (undone above) fresh (subst (λ (k : ℕ). k ≤ 1048576) (sym p.memory) p.limit) (limits _ _ p.kept.0) (undone_form above above_form) (outside_no p.facts.memory p.facts.grants line allowed) known.1
      where
        limits : (a b : Bool) → (a || (not (is_in_limits line) || b)) ≡ false → is_in_limits line ≡ true
        limits a b e = grind (arith, e)

    abbrev pub here : (c : Context) × (context_of (holder line) p.state.contexts ≡ Some c)
    here = some_context (context_of (holder line) p.state.contexts) obeyed.1.0
      where
        some_context : (o : Option Context) → Declared o → (c : Context) × (o ≡ Some c)
        some_context None d = absurd d
        some_context (Some c) d = (c, refl)

    abbrev pub before : Context
    before = here.0

    abbrev pub after : Context
    after = with_endpoint before (holder_ep line) (new_endpoint fresh)

    act : before.act ≡ holder line
    act = sym (act_found (holder line) before p.state.contexts here.1)

    pub can_install : CanInstall table (holder line) (holder_ep line) fresh
    can_install = record {
      context = before;
      there = p.has.same (holder line) ∙ here.1;
      free = p.free (holder line) (holder_ep line) before here.1 obeyed.1.1;
      form = is_fresh;
    }

    pub is_granted : fresh_of (grant_in (facts_of setup).grants (n + 1)) ≡ Some fresh
    is_granted =
        ap fresh_of (
        ap (λ f. grant_in f.grants (n + 1)) (sym p.ends)
        ∙ in_all left (facts_with_line (SetupLine.Grant line) p.facts) (new_grant line fresh) (n + 1) (
        ap (λ o. grant_in (with_grant line p.facts.grants o) (n + 1)) formed
        ∙ ap (λ k. grant_in (p.facts.grants ++ new_grant line fresh ∷ []) (k + 1)) p.count
        ∙ grant_in-last p.facts.grants (new_grant line fresh)
        )
        )

    grants_after : (facts_with_line (SetupLine.Grant line) p.facts).grants ≡ p.facts.grants ++ new_grant line fresh ∷ []
    grants_after = ap (with_grant line p.facts.grants) formed

    state_after : with_line p.state (SetupLine.Grant line) ≡ state_with_grant p.state line (Some fresh)
    state_after = ap (state_with_grant p.state line) formed_there

    contexts_after : (with_line p.state (SetupLine.Grant line)).contexts ≡ put_context after p.state.contexts
    contexts_after = ap (λ s. s.contexts) state_after ∙ ap (contexts_with_record (holder_ep line) fresh p.state.contexts) here.1

    low_act : before.act < 64
    low_act = subst (λ (k : ℕ). k < 64) (sym act) p.kept.1.0.0

    has_after : HasContexts (set table (holder line) (Some after)) (with_line p.state (SetupLine.Grant line)).contexts
    has_after =
        subst (λ (cs : List Context). HasContexts (set table (holder line) (Some after)) cs) (sym contexts_after) (
        subst (λ (k : ℕ). HasContexts (set table k (Some after)) (put_context after p.state.contexts)) act (
        has_put table p.state.contexts p.has after before low_act (ap (λ k. get_or table k None) act ∙ p.has.same (holder line) ∙ here.1)
        )
        )

    still_free : AreFree (state_with_grant p.state line (Some fresh))
    still_free b ep c there none =
        let split : (list_any (holds_at b ep) p.state.grants || holds_at b ep (new_grant line fresh)) ≡ false = sym (any_more b ep p.state.grants (new_grant line fresh)) ∙ none in
        let cs : context_of b (put_context after p.state.contexts) ≡ Some c = sym (ap (λ o. context_of b (contexts_with_record (holder_ep line) fresh p.state.contexts o)) here.1) ∙ there in
        ⊎_elim
        (λ (e : b ≡ after.act).
        let at : b ≡ holder line = e ∙ act in
        let is : after ≡ c = same_Some after c (sym (found_put after.act after before p.state.contexts (ap (λ k. context_of k p.state.contexts) act ∙ here.1) refl) ∙ ap (λ k. context_of k (put_context after p.state.contexts)) (sym e) ∙ cs) in
        let unheld : holds_at (holder line) ep (new_grant line fresh) ≡ false = subst (λ (k : ℕ). holds_at k ep (new_grant line fresh) ≡ false) at (or_parts _ _ split).1 in
        let old : endpoint before ep ≡ Free = p.free (holder line) ep before here.1 (subst (λ (k : ℕ). list_any (holds_at k ep) p.state.grants ≡ false) at (or_parts _ _ split).0) in
        subst (λ (x : Context). endpoint x ep ≡ Free) is (get_or-set_other before.endpoints (holder_ep line) ep (new_endpoint fresh) Free (other_ep ep line fresh unheld) ∙ old))
        (λ (ne : b ≡ after.act → ⊥). p.free b ep c (sym (found_kept b after p.state.contexts ne) ∙ cs) (or_parts _ _ split).0)
        (cases_eq b after.act)

    opened_low : (f : Fresh) → next_token_at (new_endpoint f) ≤ 0
    opened_low (Fresh.Send grant to to_ep to_grant label size limit) = omega arith
    opened_low (Fresh.Receive grant slots size) = omega arith
    opened_low (Fresh.Memory grant start extent perm) = omega arith

    after_low : HasBoundedCounters 0 after
    after_low = record {
      number = (p.low (holder line) before here.1).number;
      tokens = λ ep. token_set 0 (holder_ep line) ep before.endpoints (new_endpoint fresh) (p.low (holder line) before here.1).tokens (opened_low fresh);
    }

    still_low : (b : ℕ) (c : Context) → context_of b (state_with_grant p.state line (Some fresh)).contexts ≡ Some c → HasBoundedCounters 0 c
    still_low b c there =
        let cs : context_of b (put_context after p.state.contexts) ≡ Some c = sym (ap (λ o. context_of b (contexts_with_record (holder_ep line) fresh p.state.contexts o)) here.1) ∙ there in
        ⊎_elim
        (λ (e : b ≡ after.act).
        let is : after ≡ c = same_Some after c (sym (found_put after.act after before p.state.contexts (ap (λ k. context_of k p.state.contexts) act ∙ here.1) refl) ∙ ap (λ k. context_of k (put_context after p.state.contexts)) (sym e) ∙ cs) in
        subst (λ (x : Context). HasBoundedCounters 0 x) is after_low)
        (λ (ne : b ≡ after.act → ⊥). p.low b c (sym (found_kept b after p.state.contexts ne) ∙ cs))
        (cases_eq b after.act)

    -- there is a number left
    pub few : n + 1 ≤ 4096
    few = let e : n ≡ length p.facts.grants = p.count in let l : length p.facts.grants < 4096 = few_grants p.facts.memory p.facts.grants line allowed in omega (arith, e, l)

    pub grant_step : Progress setup (set table (holder line) (Some after)) (n + 1) left
    grant_step = record {
      state = with_line p.state (SetupLine.Grant line);
      facts = facts_with_line (SetupLine.Grant line) p.facts;
      grants = next_ties.grants;
      room = next_ties.room;
      homes = next_ties.homes;
      kept = p.kept.1.1;
      opens = p.opens;
      ends = p.ends;
      has = has_after;
      count = ap (λ k. k + 1) p.count ∙ sym (ap length grants_after ∙ length_pushed p.facts.grants (new_grant line fresh));
      free = subst (λ (s : State). AreFree s) (sym state_after) still_free;
      forms = subst (λ (gs : List Grant). AreForms gs) (sym grants_after) (forms_more p.facts.grants (new_grant line fresh) p.forms is_fresh);
      low = subst (λ (s : State). (b : ℕ) (c : Context) → context_of b s.contexts ≡ Some c → HasBoundedCounters 0 c) (sym state_after) still_low;
      memory = p.memory;
      limit = p.limit;
    }

    -- as the setup tells the record
    module _ (f : Fresh) (told : fresh_of (grant_in (facts_of setup).grants (n + 1)) ≡ Some f) where
      same_fresh : fresh ≡ f
      same_fresh = same_Some fresh f (sym is_granted ∙ told)

      pub installs : CanInstall table (holder line) (holder_ep line) f
      installs = subst (λ (x : Fresh). CanInstall table (holder line) (holder_ep line) x) same_fresh can_install

      pub grants_step : (new : List (Option Context)) → ((c : Context) → get_or table (holder line) None ≡ Some c → new ≡ set table (holder line) (Some (with_endpoint c (holder_ep line) (new_endpoint f)))) → Progress setup new (n + 1) left
      grants_step new is =
          subst (λ (t : List (Option Context)). Progress setup t (n + 1) left) (ap (λ x. set table (holder line) (Some (with_endpoint before (holder_ep line) (new_endpoint x)))) same_fresh ∙ sym (is before (p.has.same (holder line) ∙ here.1))) grant_step

    pub always_told : fresh_of (grant_in (facts_of setup).grants (n + 1)) ≡ None → ⊥
    always_told none = none-some fresh (sym none ∙ is_granted)

  -- a line that declares no activity and makes no grant
  abbrev pub IsOther : SetupLine → Type 0
  IsOther (SetupLine.Act a t) = ⊥
  IsOther (SetupLine.Grant line) = ⊥
  IsOther line = Unit {0}

  pub other_step : (line : SetupLine) (left : List SetupLine) → IsOther line → Progress setup table n (line ∷ left) → Progress setup table n left
  other_step (SetupLine.Act a t) left i p = absurd i
  other_step (SetupLine.Grant line) left i p = absurd i
  other_step (SetupLine.Quantum q) left i p = record { state = p.state; facts = facts_with_line (SetupLine.Quantum q) p.facts; grants = p.grants; room = p.room; homes = p.homes; kept = p.kept.1.1; opens = p.opens; ends = p.ends; has = p.has; count = p.count; free = p.free; forms = p.forms; low = p.low; memory = p.memory; limit = p.limit }
  other_step (SetupLine.Files g) left i p = record { state = p.state; facts = facts_with_line (SetupLine.Files g) p.facts; grants = p.grants; room = p.room; homes = p.homes; kept = p.kept.1.1; opens = p.opens; ends = p.ends; has = p.has; count = p.count; free = p.free; forms = p.forms; low = p.low; memory = p.memory; limit = p.limit }
  other_step (SetupLine.Item a c) left i p = record { state = p.state; facts = facts_with_line (SetupLine.Item a c) p.facts; grants = p.grants; room = p.room; homes = p.homes; kept = p.kept.1.1; opens = p.opens; ends = p.ends; has = p.has; count = p.count; free = p.free; forms = p.forms; low = p.low; memory = p.memory; limit = p.limit }
  other_step (SetupLine.AwaitItem a e) left i p = record { state = p.state; facts = facts_with_line (SetupLine.AwaitItem a e) p.facts; grants = p.grants; room = p.room; homes = p.homes; kept = p.kept.1.1; opens = p.opens; ends = p.ends; has = p.has; count = p.count; free = p.free; forms = p.forms; low = p.low; memory = p.memory; limit = p.limit }
  other_step (SetupLine.Writer a m d e c r b) left i p = record { state = p.state; facts = facts_with_line (SetupLine.Writer a m d e c r b) p.facts; grants = p.grants; room = p.room; homes = p.homes; kept = p.kept.1.1; opens = p.opens; ends = p.ends; has = p.has; count = p.count; free = p.free; forms = p.forms; low = p.low; memory = p.memory; limit = p.limit }
  other_step (SetupLine.Reader a m d c r f) left i p = record { state = p.state; facts = facts_with_line (SetupLine.Reader a m d c r f) p.facts; grants = p.grants; room = p.room; homes = p.homes; kept = p.kept.1.1; opens = p.opens; ends = p.ends; has = p.has; count = p.count; free = p.free; forms = p.forms; low = p.low; memory = p.memory; limit = p.limit }
  other_step (SetupLine.Boxed a k f) left i p = record { state = p.state; facts = facts_with_line (SetupLine.Boxed a k f) p.facts; grants = p.grants; room = p.room; homes = p.homes; kept = p.kept.1.1; opens = p.opens; ends = p.ends; has = p.has; count = p.count; free = p.free; forms = p.forms; low = p.low; memory = p.memory; limit = p.limit }

-- ---- the whole setup

pub begins : (s : SetupValue) (table : List (Option Context)) → IsValid s → table ≡ replicate 64 None → Progress s table 0 s.lines
begins s table v none = record {
  state = opening s.memory [];
  facts = no_lines s.tiles s.memory;
  grants = first.grants;
  room = first.room;
  homes = first.homes;
  kept = v.lines;
  opens = refl;
  ends = refl;
  has = record { count = ap length none ∙ length-replicate {A = Option Context} 64 None; same = λ a. ap (λ t. get_or t a None) none ∙ empty a };
  count = refl;
  free = λ a ep c there. absurd (cc);
  forms = λ g x there. absurd (none_made g x there);
  low = λ a c there. absurd (cc);
  memory = refl;
  limit = memory_limit s.tiles s.memory v.machine;
}
  where
    first : Ties (no_lines s.tiles s.memory) (opening s.memory [])
    first = tied_at_first s.tiles s.memory

    empty : (a : ℕ) → get_or {A = Option Context} (replicate 64 None) a None ≡ None
    empty a = ⊎_elim (λ low. get_or-replicate 64 a None None low) (λ high. get_or_past (replicate 64 None) a None (omega (arith, length-replicate {A = Option Context} 64 None, high))) (cases_lt a 64)

    none_made : (g : ℕ) (x : Grant) → grant_in [] g ≡ Some x → ⊥
    none_made g x e = grind (arith, nat_tests, e)

    memory_limit : (t m : ℕ) → is_machine t m ≡ true → m ≤ 1048576
    memory_limit t m e = grind (arith, nat_tests, e)

pub all_there : (s : SetupValue) (table : List (Option Context)) (n : ℕ) → Progress s table n [] → HasContexts table (opening s.memory s.lines).contexts
all_there s table n p = subst (λ (x : State). HasContexts table x.contexts) p.opens p.has

pub all_low : (s : SetupValue) (table : List (Option Context)) (n : ℕ) → Progress s table n [] → (a : ℕ) (c : Context) → get_or table a None ≡ Some c → HasBoundedCounters 0 c
all_low s table n p a c there = p.low a c (sym (p.has.same a) ∙ there)
