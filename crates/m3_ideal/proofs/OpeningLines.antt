-- The machine as the lines of a setup open it, one after the other.
use Rattle.std.proofs.Common.{◌≡◌, ℕ, zero, suc, ◌+◌, ◌<◌, ◌≤◌, Bool, true, false, List, [], ◌∷◌, get_or, drop, length, Some, None, Ok, Err, refl, sym, subst, ap, ◌∙◌, arith}
use Rattle.std.specs.Prelude.{Result, OnOk, OnErr, slice_index_or, replicate, if◌then◌else◌}
use Rattle.std.proofs.lemmas.List.{drop_more, length-replicate}
use Rattle.std.proofs.Math.ListN.{drop_of_length-le}
use Rattle.m3_base.specs.declared.setup_line.SetupLine.{SetupLine}
use Rattle.m3_base.specs.Ideal.Opening.{opening, with_line, with_lines}
use Rattle.m3_base.specs.Ideal.Context.{Context, new_context}
use Rattle.m3_base.specs.Ideal.State.{State, context_of, new_context_in, same_act, act_before}
use Rattle.m3_base.specs.Setup.Obligations.{LineIsOk, LinesAreOk}
use Rattle.m3_base.specs.Setup.Rules.{SetupValue, IsValid}
use Rattle.m3_base.proofs.Activities.{same_act-is}
use Rattle.m3_base.proofs.SetupObligations.{valid_obeys}
use Rattle.m3_ideal.specs.Ideal.NextNumbers.{next_of, AreNexts}
use Rattle.m3_ideal.proofs.IssueStep.{nexts_kept}

-- the lines that are left may be added, and lead to the opening of the setup
pub record IsOpening (now : State) (left : List SetupLine) (setup : SetupValue) : Type 0 where
  pub obeys : LinesAreOk now left
  pub leads : with_lines now left ≡ opening setup.memory setup.lines

pub opens_first : (setup : SetupValue) (now : State) (ls : List SetupLine) → IsValid setup → now ≡ opening setup.memory [] → ls ≡ setup.lines → IsOpening now ls setup
opens_first setup now ls valid e k =
    let first : IsOpening (opening setup.memory []) setup.lines setup = record { obeys = valid_obeys setup valid; leads = refl } in
    subst (λ s. IsOpening s ls setup) (sym e) (subst (λ l. IsOpening (opening setup.memory []) l setup) (sym k) first)

module _ (setup : SetupValue) (now : State) (ls : List SetupLine) (i : ℕ) (x : SetupLine) (within : i < length ls) (is : x ≡ get_or ls i x) (k : IsOpening now (drop i ls) setup) where
  opens_at : IsOpening now (x ∷ drop (i + 1) ls) setup
  opens_at = subst (λ l. IsOpening now l setup) (drop_more ls i x within ∙ ap (λ y. y ∷ drop (i + 1) ls) (sym is)) k

  pub opens_here : LineIsOk now x
  opens_here = opens_at.obeys.0

  pub opens_next : (new : State) → new ≡ with_line now x → IsOpening new (drop (i + 1) ls) setup
  opens_next new e = subst (λ s. IsOpening s (drop (i + 1) ls) setup) (sym e) (record { obeys = opens_at.obeys.1; leads = opens_at.leads })

pub opens_all : (setup : SetupValue) (now : State) (ls : List SetupLine) (i : ℕ) → length ls ≤ i → IsOpening now (drop i ls) setup → now ≡ opening setup.memory setup.lines
opens_all setup now ls i past k = sym (ap (with_lines now) (drop_of_length-le ls past)) ∙ k.leads

-- ---- next numbers

abbrev ones : ℕ → List ℕ
ones n = replicate n 1

one_at : (n i : ℕ) → i < n → slice_index_or (ones n) i 0 ≡ 1
one_at zero i h = absurd (omega arith)
one_at (suc n) zero h = refl
one_at (suc n) (suc i) h = one_at n i (omega arith)

pub nexts_first : (nexts : List ℕ) (cs : List Context) → nexts ≡ replicate 65 1 → cs ≡ [] → AreNexts nexts cs 1
nexts_first nexts cs e k =
    subst (λ z. AreNexts nexts z 1) (sym k) (subst (λ z. AreNexts z [] 1) (sym e) (record { size = length-replicate {A = ℕ} 65 1; of_kernel = refl; of_acts = λ a h. one_at 65 a (omega arith) }))

-- a new context begins with the number that its activity had before
next_new : (b a : ℕ) (cs : List Context) → context_of a cs ≡ None → next_of (context_of b (new_context_in (new_context a) cs)) ≡ next_of (context_of b cs)
next_new b a [] e = by_test (same_act b a)
  where
    by_test : (t : Bool) → next_of (if t then Some (new_context a) else None) ≡ 1
    by_test true = refl
    by_test false = refl
next_new b a (c ∷ cs) e = by_order (act_before a c.act) (next_new b a cs)
  where
    own : b ≡ a → next_of (context_of b (c ∷ cs)) ≡ 1
    own same = ap (λ z. next_of (context_of z (c ∷ cs))) same ∙ ap next_of e

    here : (t : Bool) → same_act b a ≡ t → next_of (if t then Some (new_context a) else context_of b (c ∷ cs)) ≡ next_of (context_of b (c ∷ cs))
    here true w = sym (own (same_act-is b a w))
    here false w = refl

    there : (t : Bool) → same_act a c.act ≡ t → (if t then Some c else context_of a cs) ≡ None → context_of a cs ≡ None
    there true w k = absurd cc
    there false w k = k

    more : (t : Bool) → next_of (context_of b (new_context_in (new_context a) cs)) ≡ next_of (context_of b cs)
        → next_of (if t then Some c else context_of b (new_context_in (new_context a) cs)) ≡ next_of (if t then Some c else context_of b cs)
    more true ih = refl
    more false ih = ih

    by_order : (t : Bool) → (context_of a cs ≡ None → next_of (context_of b (new_context_in (new_context a) cs)) ≡ next_of (context_of b cs))
        → next_of (context_of b (if t then new_context a ∷ c ∷ cs else c ∷ new_context_in (new_context a) cs)) ≡ next_of (context_of b (c ∷ cs))
    by_order true ih = here (same_act b a) refl
    by_order false ih = more (same_act b c.act) (ih (there (same_act a c.act) refl e))

pub nexts_added : {T E : Type 0} (r : Result T E) (a : ℕ) (nexts : List ℕ) (cs ds : List Context) (last : ℕ) → AreNexts nexts cs last → context_of a cs ≡ None
    → OnOk r (ds ≡ new_context_in (new_context a) cs) → OnErr r (ds ≡ cs) → AreNexts nexts ds last
nexts_added (Ok x) a nexts cs ds last k none ok kept = subst (λ z. AreNexts nexts z last) (sym ok) (nexts_kept nexts cs (new_context_in (new_context a) cs) last k (λ b. next_new b a cs none))
nexts_added (Err x) a nexts cs ds last k none ok kept = subst (λ z. AreNexts nexts z last) (sym kept) k
