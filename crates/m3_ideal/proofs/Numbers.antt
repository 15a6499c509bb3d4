-- The next numbers of contexts that change, and contexts that stay.
use Rattle.std.proofs.Common.{◌≡◌, ℕ, Bool, true, false, List, [], ◌∷◌, Some, None, Ok, Err, refl, sym, subst, ap, ◌∙◌}
use Rattle.std.specs.Prelude.{Option, Result, OnErr, slice_set, if◌then◌else◌}
use Rattle.m3_base.specs.declared.command.Answer.{Answer}
use Rattle.m3_base.specs.declared.command.Command.{Command}
use Rattle.m3_base.specs.declared.packet.Fresh.{Fresh}
use Rattle.m3_base.specs.Ideal.Context.{Context}
use Rattle.m3_base.specs.Ideal.State.{act_of, act_before, same_act, context_of, put_context}
use Rattle.m3_base.proofs.Activities.{act_found, same_act-is, same_act-itself, same_act-joins}
use Rattle.m3_base.proofs.KeyedList.{find-replaced_other, find-replaced_same}
use Rattle.m3_ideal.specs.Ideal.NextNumbers.{next_of, SameNexts}
use Rattle.m3_ideal.specs.Contexts.{AtContext, AtKept}
use Rattle.m3_ideal.specs.declared.issued.Issued.{Issued}
use Rattle.m3_ideal.specs.Issuing.{IssuesAt}
use Rattle.m3_ideal.specs.Tables.{present}
use Rattle.m3_ideal.specs.Landing.{GivesTo, InstallsTo, SettlesBy}
use Rattle.m3_ideal.proofs.Seats.{Reads, at_there}

-- ---- look-ups after a change

-- what was found at a stands under the act of whatever takes its place
pub found_under : (a : ℕ) (c d : Context) (cs : List Context) → context_of a cs ≡ Some c → d.act ≡ c.act → context_of d.act cs ≡ Some c
found_under a c d cs at k = subst (λ z. context_of z cs ≡ Some c) (act_found a c cs at ∙ sym k) at

pub put_same : (c : Context) (cs : List Context) → context_of c.act cs ≡ Some c → put_context c cs ≡ cs
put_same c [] e = refl
put_same c (x ∷ cs) e = by_case (same_act c.act x.act) e (put_same c cs)
  where
    by_case : (b : Bool) → (if b then Some x else context_of c.act cs) ≡ Some c → (context_of c.act cs ≡ Some c → put_context c cs ≡ cs) → (if b then c ∷ cs else x ∷ put_context c cs) ≡ x ∷ cs
    by_case true h more = let same : x ≡ c = cc in ap (λ z. z ∷ cs) (sym same)
    by_case false h more = ap (λ z. x ∷ z) (more h)

-- a context that stays as it was
pub contexts_stay : (o : Option Context) (a : ℕ) (cs ds : List Context) (P : Context → Context → Type 0) → o ≡ context_of a cs → AtContext o cs ds P → ((c d : Context) → P c d → d ≡ c) → ds ≡ cs
contexts_stay None a cs ds P e h k = absurd h
contexts_stay (Some c) a cs ds P e h k =
    let same : h.0 ≡ c = k c h.0 h.3 in
    h.2 ∙ ap (λ z. put_context z cs) same ∙ put_same c cs (found_under a c c cs (sym e) refl)

-- after an error they stay
pub issues_kept : {E : Type 0} (r : Result (Option Issued) E) (o : Option Context) (a : ℕ) (cs ds : List Context) (command : Command) → o ≡ context_of a cs → AtContext o cs ds (λ c d. IssuesAt r command c d) → OnErr r (ds ≡ cs)
issues_kept (Ok x) o a cs ds command e h = tt
issues_kept {E = E} (Err x) o a cs ds command e h = contexts_stay o a cs ds (λ c d. IssuesAt {E = E} (Err x) command c d) e h (λ c d k. k.issues)

pub gives_kept : {E : Type 0} (r : Result Bool E) (o : Option Context) (a : ℕ) (cs ds : List Context) (g : ℕ) → o ≡ context_of a cs → AtKept o cs ds (GivesTo g r) → OnErr r (ds ≡ cs)
gives_kept (Ok x) o a cs ds g e h = tt
gives_kept {E = E} (Err x) o a cs ds g e h = contexts_stay o a cs ds (λ c d. (d.next ≡ c.next) × GivesTo {E = E} g (Err x) c d) e h (λ c d k. k.1)

pub installs_kept : {T E : Type 0} (r : Result T E) (o : Option Context) (a : ℕ) (cs ds : List Context) (ep : ℕ) (f : Fresh) → o ≡ context_of a cs → AtKept o cs ds (InstallsTo ep f r) → OnErr r (ds ≡ cs)
installs_kept (Ok x) o a cs ds ep f e h = tt
installs_kept {T = T} {E = E} (Err x) o a cs ds ep f e h = contexts_stay o a cs ds (λ c d. (d.next ≡ c.next) × InstallsTo {T = T} {E = E} ep f (Err x) c d) e h (λ c d k. k.1)

pub settles_kept : {E : Type 0} (r : Result (Option (Option ℕ)) E) (o : Option Context) (a : ℕ) (cs ds : List Context) (number : ℕ) (answer : Answer) → o ≡ context_of a cs → AtKept o cs ds (SettlesBy r number answer) → OnErr r (ds ≡ cs)
settles_kept (Ok x) o a cs ds number answer e h = tt
settles_kept {E = E} (Err x) o a cs ds number answer e h = contexts_stay o a cs ds (λ c d. (d.next ≡ c.next) × SettlesBy {E = E} (Err x) number answer c d) e h (λ c d k. k.1)

-- ---- numbers that stay

pub next_put : (b : ℕ) (c d : Context) (cs : List Context) → context_of d.act cs ≡ Some c → d.next ≡ c.next → next_of (context_of b (put_context d cs)) ≡ next_of (context_of b cs)
next_put b c d cs at e = by_case (same_act b d.act) refl
  where
    by_case : (t : Bool) → same_act b d.act ≡ t → next_of (context_of b (put_context d cs)) ≡ next_of (context_of b cs)
    by_case false w = ap next_of (find-replaced_other act_of same_act act_before b d cs same_act-joins w)
    by_case true w =
        subst (λ z. next_of (context_of z (put_context d cs)) ≡ next_of (context_of z cs)) (sym (same_act-is b d.act w))
        (ap next_of (find-replaced_same act_of same_act act_before d c cs (same_act-itself d.act) at) ∙ e ∙ sym (ap next_of at))

pub nexts_stay : (o : Option Context) (a : ℕ) (cs ds : List Context) (P : Context → Context → Type 0) → o ≡ context_of a cs → AtKept o cs ds P → SameNexts cs ds
nexts_stay None a cs ds P e h = absurd h
nexts_stay (Some c) a cs ds P e h = λ b.
    ap (λ z. next_of (context_of b z)) h.2 ∙ next_put b c h.0 cs (found_under a c h.0 cs (sym e) h.1) h.3.0

pub nexts_there : (ts : List (Option Context)) (v : List Context) (a b : ℕ) (x : Option Context) (c d : Context) → Reads ts v a b x → x ≡ Some c → d.act ≡ c.act → d.next ≡ c.next → SameNexts v (present (slice_set ts b (Some d)))
nexts_there ts v a b x c d r e k n =
    nexts_stay (context_of a v) a v (present (slice_set ts b (Some d))) (λ y z. Unit {0}) refl (at_there ts v a b x c d (λ y z. (z.next ≡ y.next) × Unit {0}) r e k (n, tt))
