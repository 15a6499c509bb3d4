-- The judge of entries, one after the other.
use Rattle.std.proofs.Common.{◌≡◌, ℕ, ◌+◌, ◌<◌, ◌≤◌, Bool, true, false, List, [], ◌∷◌, ◌++◌, get_or, drop, length, Some, None, Ok, Err, refl, sym, subst, ap, ◌∙◌, append_assoc, append-nil, length-append, inr}
use Rattle.std.specs.Prelude.{Result, Option, IfOk, IsSomeAnd, ◌&&◌, not, if◌then◌else◌}
use Rattle.std.proofs.lemmas.List.{drop_more}
use Rattle.std.proofs.Math.ListN.{drop_of_length-le}
use Rattle.m3_base.specs.declared.event.Entry.{Entry}
use Rattle.m3_base.specs.declared.event.Said.{Said}
use Rattle.m3_base.specs.declared.step.Step.{Step}
use Rattle.m3_base.specs.Ideal.Context.{Context, Free, endpoint, with_endpoint}
use Rattle.m3_base.specs.Ideal.GrantRules.{change_grant}
use Rattle.m3_base.specs.Ideal.Landing.{has_closing, flies_at}
use Rattle.m3_base.specs.Ideal.State.{Closed, State, Grant, context_of, put_context, holder, holder_ep, grant_in}
use Rattle.m3_base.specs.Ideal.Step.{Frees, IdealResult, RunResult, closed_in, free_in, step_to, with_label, on_from, ideal_step, ideal_run}
use Rattle.m3_base.specs.Journal.Entry.{Shows, ran_to, steps_of, next_state, state_after_entries}
use Rattle.m3_base.specs.Journal.Legal.{IsLegalEntry, AreLegal, FailsAt, Fails, SaysElse, LacksStep}
use Rattle.m3_base.specs.Journal.OutcomeForms.{is_allowed_outcome}
use Rattle.m3_ideal.specs.declared.verdict.Why.{Why}
use Rattle.m3_ideal.specs.declared.word.Word.{Word}
use Rattle.m3_ideal.specs.Words.{meaning}
use Rattle.m3_ideal.specs.Shows.{ShowsIf}
use Rattle.m3_ideal.specs.Ideal.StepOutcome.{Steps}
use Rattle.m3_ideal.specs.Check.Verdicts.{fault_of}
use Rattle.m3_ideal.specs.Check.Entries.{JudgesSteps, JudgesEntry, JudgesEntries}

-- ---- what steps say

pub step_says : {E : Type 0} (r : Result (Option Word) E) (w : Word) (o : Option IdealResult) (old new : State) → r ≡ Ok (Some w) → Steps r o old new → o ≡ Some (record { word = meaning w; state = new })
step_says r w o old new e k = subst (λ z. Steps z o old new) e k

pub step_lacks : {E : Type 0} (r : Result (Option Word) E) (o : Option IdealResult) (old new : State) → r ≡ Ok None → Steps r o old new → o ≡ None
step_lacks r o old new e k = (subst (λ z. Steps z o old new) e k).0

run_of_one : (s : State) (t : Step) (r : IdealResult) → ideal_step s t ≡ Some r → ideal_run (t ∷ []) s ≡ Some (record { words = r.word ∷ []; state = r.state })
run_of_one s t r e = ap (on_from (ideal_run [])) e

run_of_two : (s : State) (t u : Step) (r q : IdealResult) → ideal_step s t ≡ Some r → ideal_step r.state u ≡ Some q
    → ideal_run (t ∷ u ∷ []) s ≡ Some (record { words = r.word ∷ q.word ∷ []; state = q.state })
run_of_two s t u r q e k = ap (on_from (ideal_run (u ∷ []))) e ∙ ap (with_label r.word) (run_of_one r.state u q k)

shown : (t : Step) (ts : List Step) (s : State) (said : Said) (r : RunResult) → ideal_run (t ∷ ts) s ≡ Some r → Shows r.words said → JudgesSteps None (t ∷ ts) s r.state said
shown t ts s said r e k = (subst (λ x. IsSomeAnd x (λ q. Shows q.words said)) (sym e) k, sym (ap (λ x. ran_to x s) e))

-- ---- a step alone

module _ (s n : State) (t : Step) (w : Word) (said : Said) (e : ideal_step s t ≡ Some (record { word = meaning w; state = n })) where
  pub one_shown : (b : Bool) → b ≡ true → ShowsIf b (meaning w ∷ []) said → JudgesSteps None (t ∷ []) s n said
  one_shown b is k = shown t [] s said _ (run_of_one s t _ e) (subst (λ z. ShowsIf z (meaning w ∷ []) said) is k)

  pub one_differs : (b : Bool) → b ≡ false → ShowsIf b (meaning w ∷ []) said → SaysElse (t ∷ []) s said
  one_differs b is k = (_, run_of_one s t _ e, subst (λ z. ShowsIf z (meaning w ∷ []) said) is k)

pub one_lacks : (s : State) (t : Step) → ideal_step s t ≡ None → LacksStep (t ∷ []) s
one_lacks s t e = ap (on_from (ideal_run [])) e

-- ---- a step and a Closed

pub first_lacks : (s : State) (t u : Step) → ideal_step s t ≡ None → LacksStep (t ∷ u ∷ []) s
first_lacks s t u e = ap (on_from (ideal_run (u ∷ []))) e

-- a Closed says that the grant's endpoint is free
frees : (s : State) (g : ℕ) (q : IdealResult) → ideal_step s (Step.Closed g) ≡ Some q → q.word ≡ Frees g
frees s g q e = by_grant (grant_in s.grants g) e
  where
    by_test : (b : Bool) (n : State) → (if b then step_to (Frees g) n else None) ≡ Some q → q.word ≡ Frees g
    by_test true n k = cc
    by_test false n k = absurd cc

    by_context : (ep : ℕ) (x : Option Context) → free_in s g ep x ≡ Some q → q.word ≡ Frees g
    by_context ep None k = absurd cc
    by_context ep (Some x) k =
        by_test (has_closing g (endpoint x ep) && not (flies_at ep x)) (record s { contexts = put_context (with_endpoint x ep Free) s.contexts; grants = change_grant s.grants g (λ y. record y { standing = Closed }) }) k

    by_grant : (x : Option Grant) → closed_in s g x ≡ Some q → q.word ≡ Frees g
    by_grant None k = absurd cc
    by_grant (Some x) k = by_context (holder_ep x.line) (context_of (holder x.line) s.contexts) k

module _ (s m : State) (t : Step) (g : ℕ) (w : Word) (said : Said) (e : ideal_step s t ≡ Some (record { word = meaning w; state = m })) where
  pub second_lacks : ideal_step m (Step.Closed g) ≡ None → LacksStep (t ∷ Step.Closed g ∷ []) s
  second_lacks k = ap (on_from (ideal_run (Step.Closed g ∷ []))) e ∙ ap (with_label (meaning w)) (one_lacks m (Step.Closed g) k)

  module _ (n : State) (v : Word) (k : ideal_step m (Step.Closed g) ≡ Some (record { word = meaning v; state = n })) where
    shows_if : (b : Bool) → ((h : ℕ) → ShowsIf b (meaning w ∷ Frees h ∷ []) said) → ShowsIf b (meaning w ∷ meaning v ∷ []) said
    shows_if b f = subst (λ z. ShowsIf b (meaning w ∷ z ∷ []) said) (sym (frees m g _ k)) (f g)

    pub both_shown : (b : Bool) → b ≡ true → ((h : ℕ) → ShowsIf b (meaning w ∷ Frees h ∷ []) said) → JudgesSteps None (t ∷ Step.Closed g ∷ []) s n said
    both_shown b is f = shown t (Step.Closed g ∷ []) s said _ (run_of_two s t (Step.Closed g) _ _ e k) (subst (λ z. ShowsIf z (meaning w ∷ meaning v ∷ []) said) is (shows_if b f))

    pub both_differ : (b : Bool) → b ≡ false → ((h : ℕ) → ShowsIf b (meaning w ∷ Frees h ∷ []) said) → SaysElse (t ∷ Step.Closed g ∷ []) s said
    both_differ b is f = (_, run_of_two s t (Step.Closed g) _ _ e k, subst (λ z. ShowsIf z (meaning w ∷ meaning v ∷ []) said) is (shows_if b f))

-- ---- an entry

module _ (e : Entry) (s t : State) (allowed : is_allowed_outcome e.event e.outcome ≡ true) where
  by_steps : (why : Option Why) → JudgesSteps why (steps_of e.event e.outcome) s t e.outcome.said → JudgesEntry why e s t
  by_steps None k = ((allowed, k.0), k.1)
  by_steps (Some Why.Step) k = inr k
  by_steps (Some Why.Reply) k = (allowed, k)
  by_steps (Some Why.Audit) k = k

  pub entry_judged : {E : Type 0} (r : Result (Option Why) E) (ts : List Step) → ts ≡ steps_of e.event e.outcome → IfOk r (λ why. JudgesSteps why ts s t e.outcome.said) → IfOk r (λ why. JudgesEntry why e s t)
  entry_judged (Ok why) ts is k = by_steps why (subst (λ z. JudgesSteps why z s t e.outcome.said) is k)
  entry_judged (Err x) ts is k = k

-- ---- entries

legal_more : (s : State) (es : List Entry) (x : Entry) → AreLegal s es → IsLegalEntry (state_after_entries s es) x → AreLegal s (es ++ x ∷ [])
legal_more s [] x k is = (is, k)
legal_more s (e ∷ es) x k is = (k.0, legal_more (next_state s e) es x k.1 is)

after_more : (s : State) (es : List Entry) (x : Entry) → state_after_entries s (es ++ x ∷ []) ≡ next_state (state_after_entries s es) x
after_more s [] x = refl
after_more s (e ∷ es) x = after_more (next_state s e) es x

-- so many entries are legal and lead from s to now, and these are left
pub record AreJudged (s : State) (es : List Entry) (now : State) (i : ℕ) (left : List Entry) : Type 0 where
  pub before : List Entry
  pub parts : es ≡ before ++ left
  pub number : i ≡ length before
  pub legal : AreLegal s before
  pub reaches : now ≡ state_after_entries s before

pub none_judged : (s : State) (es : List Entry) → AreJudged s es s 0 es
none_judged s es = record { before = []; parts = refl; number = refl; legal = _; reaches = refl }

module _ (s now : State) (es : List Entry) (i : ℕ) (x : Entry) (within : i < length es) (is : x ≡ get_or es i x) (k : AreJudged s es now i (drop i es)) where
  parts_here : es ≡ k.before ++ x ∷ drop (i + 1) es
  parts_here = k.parts ∙ ap (λ l. k.before ++ l) (drop_more es i x within ∙ ap (λ y. y ∷ drop (i + 1) es) (sym is))

  pub judged_more : (new : State) → JudgesEntry None x now new → AreJudged s es new (i + 1) (drop (i + 1) es)
  judged_more new j =
      record {
        before = k.before ++ x ∷ [];
        parts = parts_here ∙ sym (append_assoc k.before (x ∷ []) (drop (i + 1) es));
        number = ap (λ n. n + 1) k.number ∙ sym (length-append k.before (x ∷ []));
        legal = legal_more s k.before x k.legal (subst (λ z. IsLegalEntry z x) k.reaches j.0);
        reaches = j.1 ∙ ap (λ z. next_state z x) k.reaches ∙ sym (after_more s k.before x);
      }

  pub fails_here : (n : ℕ) (why : Why) → n ≡ i + 1 → Fails now x (fault_of why) → FailsAt s es n (fault_of why)
  fails_here n why e f =
      record {
        before = k.before;
        entry = x;
        rest = drop (i + 1) es;
        parts = parts_here;
        number = e ∙ ap (λ m. m + 1) k.number;
        legal = k.legal;
        fails = subst (λ z. Fails z x (fault_of why)) k.reaches f;
      }

pub all_judged : (s now : State) (es : List Entry) (i : ℕ) → length es ≤ i → AreJudged s es now i (drop i es) → JudgesEntries None es s now
all_judged s now es i past k =
    let all : k.before ≡ es = sym (k.parts ∙ ap (λ l. k.before ++ l) (drop_of_length-le es past) ∙ append-nil k.before) in
    (subst (λ z. AreLegal s z) all k.legal, k.reaches ∙ ap (state_after_entries s) all)
