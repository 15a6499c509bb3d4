-- The laws hold after every entry of a journal.
use Rattle.std.proofs.Common.{◌≡◌, ℕ, Bool, true, false, List, [], ◌∷◌, ◌++◌, map, Some, None, refl, sym, subst, ap, ◌∙◌, arith, inl, inr}
use Rattle.std.specs.Prelude.{Option, IsSomeAnd, ◌==◌, if◌then◌else◌}
use Rattle.std.specs.Option.{option_map}
use Rattle.std.proofs.lemmas.Bool.Decides.{nat_tests}
use Rattle.std.proofs.lemmas.List.Elements.{All-head, All-tail}
use Rattle.m3_base.specs.declared.command.Command.{Command}
use Rattle.m3_base.specs.declared.event.Said.{Said}
use Rattle.m3_base.specs.declared.event.Entry.{Entry}
use Rattle.m3_base.specs.declared.step.Step.{Step}
use Rattle.m3_base.specs.Ideal.Context.{endpoint}
use Rattle.m3_base.specs.Ideal.Issue.{IssueOutcome}
use Rattle.m3_base.specs.Ideal.State.{Grant, State, grant_in, is_done}
use Rattle.m3_base.specs.Ideal.GrantRules.{change_grant, is_closed_grant, to_done}
use Rattle.m3_base.specs.Ideal.Step.{At_issue, Finishes, IdealResult, ideal_step, ideal_run, on_from, done_in, step_to}
use Rattle.m3_base.specs.Journal.Entry.{MatchesBy, EntryMatches, Shows, IsRun, steps_of, ran_to, next_state, state_after_entries, shown_told}
use Rattle.m3_base.specs.Ideal.MessageTraces.{final}
use Rattle.m3_base.specs.Ideal.Opening.{opening}
use Rattle.m3_base.specs.Setup.Rules.{SetupValue, IsValid}
use Rattle.m3_base.specs.Journal.Replies.{steps_in}
use Rattle.m3_laws.specs.Laws.{AllFit, CreditsAt, RecordsAt, ChildrenAt, GoneAt, AccessAt, LandCausesAt, told_of_send, send_cause}
use Rattle.m3_laws.specs.GrantInvariant.{GrantInvariant}
use Rattle.m3_laws.specs.JournalLaws.{FitsEvent, event_in, JournalsFit, TellsSends, EndsGrant, SubtreeGone, KeepsLaws, JournalLaws}
use Rattle.m3_laws.proofs.journals.EntriesKeepInvariant.{event_fits}
use Rattle.m3_laws.proofs.journals.EntriesAreRun.{one_run}
use Rattle.m3_laws.proofs.grants.GrantList.{at_one, grant_changed}
use Rattle.m3_laws.proofs.invariant.step.OpeningHolds.{ever_lawful, credit_law, record_law, children_law}
use Rattle.m3_laws.proofs.grants.DoneStaysDone.{DoneLasts, run_last}
use Rattle.m3_laws.proofs.grants.RevokedIsGone.{gone_law}
use Rattle.m3_laws.proofs.grants.OpenWhileUsed.{access_law}
use Rattle.m3_laws.proofs.refusals.SendRefusals.{land_causes_law, sends_told}
use Rattle.m3_laws.proofs.order.LandingOrder.{landing_order}
use Rattle.m3_laws.proofs.order.FetchOrder.{fetching_order}

-- ---- the entries before one, and those after it

pub fit_both : (xs ys : List Step) → AllFit xs → AllFit ys → AllFit (xs ++ ys)
fit_both [] ys h k = k
fit_both (t ∷ xs) ys h k = (h.0, fit_both xs ys h.1 k)

pub fit_front : (xs ys : List Step) → AllFit (xs ++ ys) → AllFit xs
fit_front [] ys h = tt
fit_front (t ∷ xs) ys h = (h.0, fit_front xs ys h.1)

pub fit_back : (xs ys : List Step) → AllFit (xs ++ ys) → AllFit ys
fit_back [] ys h = h
fit_back (t ∷ xs) ys h = fit_back xs ys h.1

append_assoc : (xs ys zs : List Step) → (xs ++ ys) ++ zs ≡ xs ++ (ys ++ zs)
append_assoc [] ys zs = refl
append_assoc (t ∷ xs) ys zs = ap (λ z. t ∷ z) (append_assoc xs ys zs)

steps_in-append : (xs ys : List Entry) → steps_in (xs ++ ys) ≡ steps_in xs ++ steps_in ys
steps_in-append [] ys = refl
steps_in-append (e ∷ xs) ys = ap (λ z. steps_of e.event e.outcome ++ z) (steps_in-append xs ys) ∙ sym (append_assoc (steps_of e.event e.outcome) (steps_in xs) (steps_in ys))

after-append : (s : State) (xs ys : List Entry) → state_after_entries s (xs ++ ys) ≡ state_after_entries (state_after_entries s xs) ys
after-append s [] ys = refl
after-append s (e ∷ xs) ys = after-append (next_state s e) xs ys

run_front : (s : State) (xs ys : List Entry) → IsRun s (xs ++ ys) → IsRun s xs
run_front s [] ys h = tt
run_front s (e ∷ xs) ys h = (h.0, run_front (next_state s e) xs ys h.1)

run_back : (s : State) (xs ys : List Entry) → IsRun s (xs ++ ys) → IsRun (state_after_entries s xs) ys
run_back s [] ys h = h
run_back s (e ∷ xs) ys h = run_back (next_state s e) xs ys h.1

pub journals_fit_law : JournalsFit
journals_fit_law [] p = tt
journals_fit_law (e ∷ es) p = fit_both (steps_of e.event e.outcome) (steps_in es) (event_fits e.event e.outcome (All-head FitsEvent e.event (map event_in es) p)) (journals_fit_law es (All-tail FitsEvent e.event (map event_in es) p))

-- ---- what one entry tells of its only step

-- the word of the step, and the state that it leads to
record OneStep (s : State) (t : Step) (said : Said) (r : State) : Type 0 where
  next : IdealResult
  step : ideal_step s t ≡ Some next
  shows : Shows (next.word ∷ []) said
  state : r ≡ next.state

one_step : (s : State) (t : Step) (said : Said) → MatchesBy (t ∷ []) s said → OneStep s t said (ran_to (ideal_run (t ∷ []) s) s)
one_step s t said h = by_next (ideal_step s t) refl h
  where
    by_next : (o : Option IdealResult) → ideal_step s t ≡ o → IsSomeAnd (on_from (ideal_run []) o) (λ r. Shows r.words said) → OneStep s t said (ran_to (on_from (ideal_run []) o) s)
    by_next None e h = absurd h
    by_next (Some n) e h = record { next = n; step = e; shows = h; state = refl }

entry_step : (s : State) (e : Entry) (t : Step) → EntryMatches s e → steps_of e.event e.outcome ≡ t ∷ [] → OneStep s t e.outcome.said (next_state s e)
entry_step s e t h q = subst (λ ts. OneStep s t e.outcome.said (ran_to (ideal_run ts s) s)) (sym q) (one_step s t e.outcome.said (subst (λ ts. MatchesBy ts s e.outcome.said) q h))

-- ---- sends

shown_word : (t : IssueOutcome) (said : Said) → Shows (At_issue t ∷ []) said → said ≡ shown_told t
shown_word t said (inl q) = sym (same (shown_told t) said q)
  where
    same : (a b : Said) → Some a ≡ Some b → a ≡ b
    same a b e = cc
shown_word t said (inr q) = absurd q

tells_sends : (s : State) (e : Entry) → EntryMatches s e → TellsSends s e
tells_sends s e h a ep payload to c q at =
    let one = entry_step s e (Step.Issue a (Command.Send ep payload to)) h q in
    let word : one.next.word ≡ At_issue (told_of_send c (send_cause c payload to (endpoint c ep))) = sends_told s a ep payload to one.next c at one.step in
    shown_word (told_of_send c (send_cause c payload to (endpoint c ep))) e.outcome.said (subst (λ w. Shows (w ∷ []) e.outcome.said) word one.shows)

-- ---- grants that are done

-- this grant is there, and done
record IsOver (gs : List Grant) (g : ℕ) : Type 0 where
  grant : Grant
  found : grant_in gs g ≡ Some grant
  done : is_done grant.standing ≡ true

over_lasts : (gs ks : List Grant) (g : ℕ) → DoneLasts gs ks → IsOver gs g → IsOver ks g
over_lasts gs ks g l o =
    let y = l.stays g o.grant o.found in
    record { grant = y.0; found = y.1.0; done = y.1.1.1 o.done }

done_over : (s : State) (g : ℕ) (n : IdealResult) → ideal_step s (Step.Done g) ≡ Some n → IsOver n.state.grants g
done_over s g n e = by_grant (grant_in s.grants g) refl e
  where
    by_grant : (o : Option Grant) → grant_in s.grants g ≡ o → done_in s g o ≡ Some n → IsOver n.state.grants g
    by_grant None w e = absurd (cc)
    by_grant (Some x) w e = by_test (is_closed_grant x.standing) e
      where
        changed : IsOver (change_grant s.grants g to_done) g
        changed =
            let here : (g == g) ≡ true = grind (arith, nat_tests) in
            record { grant = to_done x; found = grant_changed s.grants g to_done g ∙ (ap (option_map (at_one g to_done g)) w ∙ ap (λ b. Some (if b then to_done x else x)) here); done = refl }

        by_test : (b : Bool) → (if b then step_to (Finishes g x.is_root) (record s { grants = change_grant s.grants g to_done }) else None) ≡ Some n → IsOver n.state.grants g
        by_test false e = absurd (cc)
        by_test true e =
            let same : record { word = Finishes g x.is_root; state = record s { grants = change_grant s.grants g to_done } } ≡ n = cc in
            subst (λ z. IsOver z.state.grants g) same changed

-- ---- the laws

module _ (v : SetupValue) (ok : IsValid v) where
  abbrev first : State
  first = opening v.memory v.lines

  laws_at : (es : List Entry) → AllFit (steps_in es) → IsRun first es → KeepsLaws first es
  laws_at es fit run =
      let ts = steps_in es in
      let h = one_run first es run in
      record {
        landing = λ g. landing_order v ts g ok fit h.exist;
        fetching = λ g. fetching_order v ts g ok fit h.exist;
        credits = subst CreditsAt h.reach (credit_law v ts ok fit);
        access = subst AccessAt h.reach (access_law v ts ok fit);
        sends = λ before rest e q. tells_sends (state_after_entries first before) e (run_back first before (e ∷ rest) (subst (IsRun first) q run)).0;
        causes = subst LandCausesAt h.reach (land_causes_law v ts ok fit);
        revoked = λ before rest e g q d. over before rest e g d (subst (λ z. AllFit (steps_in z)) q fit) (subst (IsRun first) q run) (subst (λ z. GoneAt (state_after_entries first z)) q gone) q;
        gone = gone;
        records = subst RecordsAt h.reach (record_law v ts ok fit);
        children = subst ChildrenAt h.reach (children_law v ts ok fit);
      }
    where
      gone : GoneAt (state_after_entries first es)
      gone = subst GoneAt (one_run first es run).reach (gone_law v (steps_in es) ok fit)

      over : (before rest : List Entry) (e : Entry) (g : ℕ) → EndsGrant g e → AllFit (steps_in (before ++ e ∷ rest)) → IsRun first (before ++ e ∷ rest) → GoneAt (state_after_entries first (before ++ e ∷ rest)) → es ≡ before ++ e ∷ rest → SubtreeGone (state_after_entries first es) g
      over before rest e g d fits runs all q =
          let s = state_after_entries first before in
          let later = run_back first before (e ∷ rest) runs in
          let step = entry_step s e (Step.Done g) later.0 d in
          let fits' : AllFit (steps_in before ++ steps_in (e ∷ rest)) = subst AllFit (steps_in-append before (e ∷ rest)) fits in
          let fit_before = fit_front (steps_in before) (steps_in (e ∷ rest)) fits' in
          let fit_later = fit_back (steps_in before) (steps_in (e ∷ rest)) fits' in
          let fit_rest = fit_back (steps_of e.event e.outcome) (steps_in rest) fit_later in
          let there : IsOver (next_state s e).grants g = subst (λ z. IsOver z.grants g) (sym step.state) (done_over s g step.next step.step) in
          let more = one_run (next_state s e) rest later.1 in
          let last = subst (λ z. IsOver z.grants g) more.reach (over_lasts (next_state s e).grants (final (next_state s e) (steps_in rest)).grants g (run_last (next_state s e) (steps_in rest) (law_then before e (fit_then before e rest fits) (run_then before e rest runs)) fit_rest) there) in
          let last' : IsOver (state_after_entries first (before ++ e ∷ rest)).grants g = subst (λ z. IsOver z.grants g) (sym (after-append first before (e ∷ rest))) last in
          subst (λ z. SubtreeGone (state_after_entries first z) g) (sym q) (record { root = last'.grant; found = last'.found; done = last'.done; gone = λ h x path w f. all g h last'.grant x path last'.found last'.done w f })
        where
          one_more : (before : List Entry) (e : Entry) (rest : List Entry) → before ++ e ∷ rest ≡ (before ++ e ∷ []) ++ rest
          one_more [] e rest = refl
          one_more (x ∷ before) e rest = ap (λ z. x ∷ z) (one_more before e rest)

          fit_then : (before : List Entry) (e : Entry) (rest : List Entry) → AllFit (steps_in (before ++ e ∷ rest)) → AllFit (steps_in (before ++ e ∷ []))
          fit_then before e rest fits = fit_front (steps_in (before ++ e ∷ [])) (steps_in rest) (subst AllFit (ap steps_in (one_more before e rest) ∙ steps_in-append (before ++ e ∷ []) rest) fits)

          run_then : (before : List Entry) (e : Entry) (rest : List Entry) → IsRun first (before ++ e ∷ rest) → IsRun first (before ++ e ∷ [])
          run_then before e rest runs = run_front first (before ++ e ∷ []) rest (subst (IsRun first) (one_more before e rest) runs)

          law_then : (before : List Entry) (e : Entry) → AllFit (steps_in (before ++ e ∷ [])) → IsRun first (before ++ e ∷ []) → GrantInvariant (next_state (state_after_entries first before) e)
          law_then before e fits runs = subst GrantInvariant ((one_run first (before ++ e ∷ []) runs).reach ∙ after-append first before (e ∷ [])) (ever_lawful v (steps_in (before ++ e ∷ [])) ok fits)

pub journal_laws : JournalLaws
journal_laws v es ok fit run before rest q =
    let fits : AllFit (steps_in before ++ steps_in rest) = subst AllFit (ap steps_in q ∙ steps_in-append before rest) fit in
    laws_at v ok before (fit_front (steps_in before) (steps_in rest) fits) (run_front (opening v.memory v.lines) before rest (subst (IsRun (opening v.memory v.lines)) q run))
