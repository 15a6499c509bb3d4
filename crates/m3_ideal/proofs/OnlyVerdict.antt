-- Of each journal there is one verdict.
use Rattle.std.proofs.Common.{◌≡◌, ℕ, ◌+◌, suc, List, [], ◌∷◌, ◌++◌, length, Some, None, Ok, Err, refl, sym, subst, ap, ◌∙◌, inl, inr}
use Rattle.std.specs.Prelude.{IsSomeAnd, Result, IfOk}
use Rattle.m3_base.specs.declared.event.Entry.{Entry}
use Rattle.m3_base.specs.declared.event.Said.{Said}
use Rattle.m3_base.specs.declared.journal.AuditLine.{AuditLine}
use Rattle.m3_base.specs.declared.step.Step.{Step}
use Rattle.m3_base.specs.Ideal.State.{State}
use Rattle.m3_base.specs.Journal.Entry.{Shows, MatchesBy, steps_of, next_state, state_after_entries}
use Rattle.m3_base.specs.Journal.Legal.{IsLegalEntry, AreLegal, Legal, Fault, At_step, At_reply, At_audit, Fails, FailsAt, LacksStep, SaysElse, IllegalAt, opening_of}
use Rattle.m3_base.specs.Setup.Rules.{SetupValue}
use Rattle.m3_ideal.specs.declared.verdict.Why.{Why}
use Rattle.m3_ideal.specs.declared.verdict.Verdict.{Verdict}
use Rattle.m3_ideal.specs.Check.Verdicts.{fault_of, IsVerdict, IsOnlyVerdict}

-- ---- of an entry

lacks_none : (ts : List Step) (s : State) (said : Said) → LacksStep ts s → MatchesBy ts s said → ⊥
lacks_none [] s said k m = k
lacks_none (t ∷ ts) s said k m = subst (λ r. IsSomeAnd r (λ q. Shows q.words said)) k m

says_one : (ts : List Step) (s : State) (said : Said) → SaysElse ts s said → MatchesBy ts s said → ⊥
says_one [] s said k m = k
says_one (t ∷ ts) s said k m = k.2 (subst (λ r. IsSomeAnd r (λ q. Shows q.words said)) k.1 m)

lacks_or_says : (ts : List Step) (s : State) (said : Said) → LacksStep ts s → SaysElse ts s said → ⊥
lacks_or_says [] s said k m = k
lacks_or_says (t ∷ ts) s said k m =
    let no : None ≡ Some m.0 = sym k ∙ m.1 in
    absurd cc

fails_not_legal : (f : Fault) (s : State) (e : Entry) → Fails s e f → IsLegalEntry s e → ⊥
fails_not_legal At_step s e (inl other) k = absurd cc
fails_not_legal At_step s e (inr lacks) k = lacks_none (steps_of e.event e.outcome) s e.outcome.said lacks k.1
fails_not_legal At_reply s e j k = says_one (steps_of e.event e.outcome) s e.outcome.said j.1 k.1
fails_not_legal At_audit s e j k = j

one_fault : (f g : Fault) (s : State) (e : Entry) → Fails s e f → Fails s e g → f ≡ g
one_fault At_step At_step s e j k = refl
one_fault At_reply At_reply s e j k = refl
one_fault At_step At_reply s e (inl other) k = absurd cc
one_fault At_step At_reply s e (inr lacks) k = absurd (lacks_or_says (steps_of e.event e.outcome) s e.outcome.said lacks k.1)
one_fault At_reply At_step s e j (inl other) = absurd cc
one_fault At_reply At_step s e j (inr lacks) = absurd (lacks_or_says (steps_of e.event e.outcome) s e.outcome.said lacks j.1)
one_fault At_audit g s e j k = absurd j
one_fault At_step At_audit s e j k = absurd k
one_fault At_reply At_audit s e j k = absurd k

-- ---- of entries

legal_at : (s : State) (xs ys : List Entry) (x : Entry) → AreLegal s (xs ++ x ∷ ys) → IsLegalEntry (state_after_entries s xs) x
legal_at s [] ys x k = k.0
legal_at s (e ∷ xs) ys x k = legal_at (next_state s e) xs ys x k.1

not_legal : (s : State) (es : List Entry) (n : ℕ) (f : Fault) → FailsAt s es n f → AreLegal s es → ⊥
not_legal s es n f k legal =
    fails_not_legal f (state_after_entries s k.before) k.entry k.fails (legal_at s k.before k.rest k.entry (subst (λ l. AreLegal s l) k.parts legal))

-- the first that fails is one, by one cause
one_first : (f g : Fault) (x u : Entry) (ys vs : List Entry) (s : State) (xs us : List Entry) → xs ++ x ∷ ys ≡ us ++ u ∷ vs → AreLegal s xs → AreLegal s us
    → Fails (state_after_entries s xs) x f → Fails (state_after_entries s us) u g → (length xs ≡ length us) × (f ≡ g)
one_first f g x u ys vs s [] [] e k l j i =
    let same : x ≡ u = cc in
    (refl, one_fault f g s u (subst (λ z. Fails s z f) same j) i)
one_first f g x u ys vs s [] (b ∷ us) e k l j i =
    let same : x ≡ b = cc in
    absurd (fails_not_legal f s b (subst (λ z. Fails s z f) same j) l.0)
one_first f g x u ys vs s (a ∷ xs) [] e k l j i =
    let same : u ≡ a = cc in
    absurd (fails_not_legal g s a (subst (λ z. Fails s z g) same i) k.0)
one_first f g x u ys vs s (a ∷ xs) (b ∷ us) e k l j i =
    let same : b ≡ a = cc in
    let more : xs ++ x ∷ ys ≡ us ++ u ∷ vs = cc in
    let rest : (length xs ≡ length us) × (f ≡ g) =
    one_first f g x u ys vs (next_state s a) xs us more k.1 (subst (λ z. AreLegal (next_state s z) us) same l.1) j
    (subst (λ z. Fails (state_after_entries (next_state s z) us) u g) same i) in
    (ap suc rest.0, rest.1)

abbrev cause_of : Fault → Why
cause_of At_step = Why.Step
cause_of At_reply = Why.Reply
cause_of At_audit = Why.Audit

cause_is : (why : Why) → cause_of (fault_of why) ≡ why
cause_is Why.Step = refl
cause_is Why.Reply = refl
cause_is Why.Audit = refl

same_first : (s : State) (es : List Entry) (n m : ℕ) (a b : Why) → FailsAt s es n (fault_of a) → FailsAt s es m (fault_of b) → Verdict.Illegal n a ≡ Verdict.Illegal m b
same_first s es n m a b k j =
    let one : (length k.before ≡ length j.before) × (fault_of a ≡ fault_of b) =
    one_first (fault_of a) (fault_of b) k.entry j.entry k.rest j.rest s k.before j.before (sym k.parts ∙ j.parts) k.legal j.legal k.fails j.fails in
    let numbers : n ≡ m = k.number ∙ ap (λ i. i + 1) one.0 ∙ sym j.number in
    let causes : a ≡ b = sym (cause_is a) ∙ ap cause_of one.1 ∙ cause_is b in
    ap (λ i. Verdict.Illegal i a) numbers ∙ ap (λ why. Verdict.Illegal m why) causes

-- ---- of a journal

module _ (setup : SetupValue) (es : List Entry) (ls : List AuditLine) where
  illegal : (n : ℕ) (why : Why) → IllegalAt setup es ls n (fault_of why) → Legal setup es ls → ⊥
  illegal n Why.Step k legal = not_legal (opening_of setup) es n At_step k legal.entries_are
  illegal n Why.Reply k legal = not_legal (opening_of setup) es n At_reply k legal.entries_are
  illegal n Why.Audit k legal = k.differs legal.audit_is

  both_illegal : (n m : ℕ) (a b : Why) → IllegalAt setup es ls n (fault_of a) → IllegalAt setup es ls m (fault_of b) → Verdict.Illegal n a ≡ Verdict.Illegal m b
  both_illegal n m Why.Step Why.Step k j = same_first (opening_of setup) es n m Why.Step Why.Step k j
  both_illegal n m Why.Step Why.Reply k j = same_first (opening_of setup) es n m Why.Step Why.Reply k j
  both_illegal n m Why.Reply Why.Step k j = same_first (opening_of setup) es n m Why.Reply Why.Step k j
  both_illegal n m Why.Reply Why.Reply k j = same_first (opening_of setup) es n m Why.Reply Why.Reply k j
  both_illegal n m Why.Audit Why.Audit k j = ap (λ i. Verdict.Illegal i Why.Audit) (k.number ∙ sym j.number)
  both_illegal n m Why.Step Why.Audit k j = absurd (not_legal (opening_of setup) es n At_step k j.legal)
  both_illegal n m Why.Reply Why.Audit k j = absurd (not_legal (opening_of setup) es n At_reply k j.legal)
  both_illegal n m Why.Audit Why.Step k j = absurd (not_legal (opening_of setup) es m At_step j k.legal)
  both_illegal n m Why.Audit Why.Reply k j = absurd (not_legal (opening_of setup) es m At_reply j k.legal)

  one_verdict : (v w : Verdict) → IsVerdict setup es ls v → IsVerdict setup es ls w → w ≡ v
  one_verdict (Verdict.Legal n) (Verdict.Legal m) k j = ap Verdict.Legal (j.0 ∙ sym k.0)
  one_verdict (Verdict.Legal n) (Verdict.Illegal m b) k j = absurd (illegal m b j k.1)
  one_verdict (Verdict.Illegal n a) (Verdict.Legal m) k j = absurd (illegal n a k j.1)
  one_verdict (Verdict.Illegal n a) (Verdict.Illegal m b) k j = both_illegal m n b a j k

  pub only_verdict : {E : Type 0} (r : Result Verdict E) → IfOk r (IsVerdict setup es ls) → IfOk r (λ v. IsOnlyVerdict setup es ls v)
  only_verdict (Ok v) k = λ w j. one_verdict v w k j
  only_verdict (Err x) k = k
